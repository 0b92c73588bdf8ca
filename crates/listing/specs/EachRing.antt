-- What a listing says, in 01's words: each ring once, by its tightest window, and nothing else.
--     Sooner x y              entry x stands before entry y: by start, then end
--     EntryOf t q lo hi x     x is an entry of the range: the tightest window of its own ring, with the number of its rows
--     IsListing t q lo hi xs  xs holds exactly these, by start, then end: `listing` is the only such list (proofs/CountLaws.antt)
--     of_ring t q m x          the window of entry x has the ring m
--     ListedOnce t q lo hi s e    the ring of [s, e] is listed once and only once, by its tightest window
--     RingOf t q lo hi m      m is the ring of a window of the range, and not empty
--     AreRings t q lo hi ms   ms holds exactly these, each once
--     ring_sum ms              the sum of the rows of row sets
use Rattle.std.specs.Prelude.{ℕ, ◌+◌, ◌≤◌, ◌<◌, ◌≡◌, ◌⊎◌, Bool, true}
use mathlib.Core.List.{List, [], ◌∷◌, Memᴰ as Mem}
use Rattle.rings.specs.Words.{filter_by, Pairwise}
use Rattle.rings.specs.Table.{Table}
use Rattle.rings.specs.Ring.{ring, members}
use Rattle.rings.specs.declared.Query.{Query}
use Rattle.listing.specs.Tight.{nonempty, tightest}
use Rattle.listing.specs.Listing.{ListedRing, listing}
use Rattle.listing.specs.Distinct.{same_rows}
use Rattle.listing.specs.WindowCounts.{showing, windows_behind}

-- 01: "ordered by start, then end"
abbrev pub Sooner : ListedRing → ListedRing → Type 0
Sooner x y = (x.start < y.start) ⊎ ((x.start ≡ y.start) × (x.end < y.end))

pub record EntryOf (t : Table) (q : Query) (lo hi : ℕ) (x : ListedRing) : Type 0 where
  pub from : lo ≤ x.start
  pub order : x.start ≤ x.end
  pub to : x.end ≤ hi
  pub is_tightest : tightest t (ring t q x.start x.end) x.start x.end ≡ true
  pub counts : x.rows ≡ members (ring t q x.start x.end)

pub record IsListing (t : Table) (q : Query) (lo hi : ℕ) (xs : List ListedRing) : Type 0 where
  pub each : (x : ListedRing) → Mem x xs → EntryOf t q lo hi x
  pub whole : (x : ListedRing) → EntryOf t q lo hi x → Mem x xs
  pub in_order : Pairwise Sooner xs

unfoldable pub of_ring : Table → Query → List Bool → ListedRing → Bool
of_ring t q m x = same_rows (ring t q x.start x.end) m

pub record ListedOnce (t : Table) (q : Query) (lo hi s e : ℕ) : Type 0 where
  pub entry : ListedRing
  -- of all places of the listing one has this ring
  pub once : filter_by (of_ring t q (ring t q s e)) (listing t q lo hi) ≡ entry ∷ []
  pub is_listed : Mem entry (listing t q lo hi)
  pub only : (x : ListedRing) → Mem x (listing t q lo hi) → ring t q x.start x.end ≡ ring t q s e → x ≡ entry
  -- its window is the tightest of this ring, and lies inside [s, e]
  pub is_tightest : tightest t (ring t q s e) entry.start entry.end ≡ true
  pub same_ring : ring t q entry.start entry.end ≡ ring t q s e
  pub from : s ≤ entry.start
  pub to : entry.end ≤ e
  pub counts : entry.rows ≡ members (ring t q s e)
  -- its number of windows is that of all windows of the range whose ring is this one
  pub shows : windows_behind t q lo hi entry ≡ showing t q lo hi (ring t q s e)

pub record RingOf (t : Table) (q : Query) (lo hi : ℕ) (m : List Bool) : Type 0 where
  pub start : ℕ
  pub end : ℕ
  pub from : lo ≤ start
  pub order : start ≤ end
  pub to : end ≤ hi
  pub is : m ≡ ring t q start end
  pub has_row : nonempty m ≡ true

-- in any order: two such lists are equally long, and as long as the listing
pub record AreRings (t : Table) (q : Query) (lo hi : ℕ) (ms : List (List Bool)) : Type 0 where
  pub each : (m : List Bool) → Mem m ms → RingOf t q lo hi m
  pub whole : (m : List Bool) → RingOf t q lo hi m → Mem m ms
  pub apart : Pairwise (λ m m'. m ≡ m' → ⊥) ms

unfoldable pub ring_sum : List (List Bool) → ℕ
ring_sum [] = 0
ring_sum (m ∷ ms) = members m + ring_sum ms
