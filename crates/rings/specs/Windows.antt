-- Minimal windows, and recall from a list of them.
--     Window                      a start and an end
--     windows_from hi s            the windows that start on s and end by hi
--     windows lo hi               all windows inside the range [lo, hi], by start, then end
--     Entry                       a row with a window: an entry of a minimal-window list
--     smaller s e s' e'           the window [s', e'] lies inside [s, e] and is not [s, e]
--     minimal t q j s e           [s, e] is a minimal window of row j (001, Definition 5: minimal core window)
--     IsMinimal t q j s e         the same in words
--     minimal_of t q lo hi j       the minimal windows of row j inside the range, by start
--     minimal_windows t q lo hi    all entries of the range, by row, then start
--     Listed t q lo hi x          the entry x is a minimal window of its row inside the range
--     Before x y                  x stands before y: by row, then start
--     IsMinimalList t q lo hi es  es holds exactly these, each once, by row, then start: `minimal_windows` is the only such list (proofs/WindowLaws.antt)
--     entries r s e               the entries that three columns hold
--     Archive t q lo hi rows starts ends  these columns hold exactly the query's minimal windows, each once, by row, then start
--     recalled es s e j           row j has a listed window inside [s, e]
--     ListedInside es s e j       the same in words
use Rattle.std.specs.Prelude.{ℕ, suc, ◌-◌, ◌≤◌, ◌<◌, ◌≡◌, ◌⊎◌, Bool, true, false, length, leb, eqb}
use mathlib.Core.List.{List, map, Memᴰ as Mem, flatten}
use Rattle.rings.specs.Words.{◌and◌, no, at, every, tabulate, filter_by, any, Pairwise}
use Rattle.rings.specs.Table.{Table, size}
use Rattle.rings.specs.Ring.{in_ring}
use Rattle.rings.specs.declared.Query.{Query}

pub record Window : Type 0 where
  pub start : ℕ
  pub end : ℕ

unfoldable pub windows_from : ℕ → ℕ → List Window
windows_from hi s = tabulate (λ e. record { start = s; end = e }) s (suc hi - s)

unfoldable pub windows : ℕ → ℕ → List Window
windows lo hi = flatten (tabulate (windows_from hi) lo (suc hi - lo))

pub record Entry : Type 0 where
  pub row : ℕ
  pub start : ℕ
  pub end : ℕ

unfoldable pub smaller : ℕ → ℕ → ℕ → ℕ → Bool
smaller s e s' e' = leb s s' and leb s' e' and leb e' e and no (eqb s s' and eqb e e')

-- 01: "a window whose ring has the row, while no smaller window inside it does"
unfoldable pub minimal : Table → Query → ℕ → ℕ → ℕ → Bool
minimal t q j s e = in_ring t q s e j and every (λ s'. every (λ e'. no (smaller s e s' e' and in_ring t q s' e' j)) (suc e)) (suc e)

-- 001, Definition 5: "(1) e is in the k-core of G[ts, te]; and (2) e is not in the k-core of G[ts', te'] for any [ts', te'] ⊂ [ts, te]"
pub record IsMinimal (t : Table) (q : Query) (j s e : ℕ) : Type 0 where
  pub has : in_ring t q s e j ≡ true
  pub none_smaller : (s' e' : ℕ) → s ≤ s' → s' ≤ e' → e' ≤ e → ((s ≡ s') × (e ≡ e') → ⊥) → in_ring t q s' e' j ≡ false

unfoldable pub minimal_of : Table → Query → ℕ → ℕ → ℕ → List Entry
minimal_of t q lo hi j = map (λ w. record { row = j; start = w.start; end = w.end }) (filter_by (λ w. minimal t q j w.start w.end) (windows lo hi))

-- 01: "columns row, start, end, ordered by row, then start"
unfoldable pub minimal_windows : Table → Query → ℕ → ℕ → List Entry
minimal_windows t q lo hi = flatten (tabulate (minimal_of t q lo hi) 0 (size t))

pub record Listed (t : Table) (q : Query) (lo hi : ℕ) (x : Entry) : Type 0 where
  pub in_table : x.row < size t
  pub from : lo ≤ x.start
  pub order : x.start ≤ x.end
  pub to : x.end ≤ hi
  pub is_minimal : IsMinimal t q x.row x.start x.end

-- 01: "by row, then start". That ends rise too, as 14 asks, is a fact of minimal windows and no part of the order (proofs/WindowLaws.antt: ends_rise)
abbrev pub Before : Entry → Entry → Type 0
Before x y = (x.row < y.row) ⊎ ((x.row ≡ y.row) × (x.start < y.start))

pub record IsMinimalList (t : Table) (q : Query) (lo hi : ℕ) (es : List Entry) : Type 0 where
  pub each : (x : Entry) → Mem x es → Listed t q lo hi x
  pub whole : (x : Entry) → Listed t q lo hi x → Mem x es
  pub in_order : Pairwise Before es

unfoldable pub entries : List ℕ → List ℕ → List ℕ → List Entry
entries rows starts ends = tabulate (λ i. record { row = at rows i; start = at starts i; end = at ends i }) 0 (length rows)

-- 01: "list columns that hold exactly the query's minimal windows by the definition, each once, by row, then start"
pub record Archive (t : Table) (q : Query) (lo hi : ℕ) (rows starts ends : List ℕ) : Type 0 where
  pub as_many_starts : length starts ≡ length rows
  pub as_many_ends : length ends ≡ length rows
  pub holds : IsMinimalList t q lo hi (entries rows starts ends)

-- 01: "marks 1 each row with a listed window inside [s, e]"
unfoldable pub recalled : List Entry → ℕ → ℕ → ℕ → Bool
recalled es s e j = any (λ x. eqb x.row j and leb s x.start and leb x.end e) es

pub record ListedInside (es : List Entry) (s e j : ℕ) : Type 0 where
  pub it : Entry
  pub member : Mem it es
  pub of_row : it.row ≡ j
  pub from : s ≤ it.start
  pub to : it.end ≤ e
