-- The windows behind the rings of a start, gathered from start to start (src/list.rt: pass).
--     Gathered t q lo hi from s xs g    g holds for each core time at s the windows of the starts before `from` whose ring it ends
--     gather_start       before the first start nothing is gathered
--     gather_number      of an entry, what is gathered and the runs of the starts alike are all windows behind its ring
--     gather_small       no more than a range has
--     gather_since, gather_next    the next start: one at which no row dated s has a core time is alike; else its runs are gathered
-- Assumes nothing.
use Prim.Native.Nat.{ℕ, suc, ◌+◌, ◌-◌, ◌*◌, ◌≤◌, ◌<◌}
use native.Mathlib.Nat.{zero-mul, suc-mul}
use native.Mathlib.Omega.{arith}
use mathlib.Core.Path.{◌≡◌, sym, ◌∙◌, ap, subst}
use mathlib.Core.Logic.{⊎_elim}
use mathlib.Core.Bool.{Bool}
use mathlib.Core.List.{List}
use lib.ListN.{length, get_or, replicate, length-replicate, get_or-replicate}
use lib.Dec.{leb}
use borrow.Author.Tests.{leb-true, leb-false}
use Rattle.rings.specs.Table.{Table}
use Rattle.rings.specs.Ring.{ring}
use Rattle.rings.specs.Starts.{CountsAt, Earliest}
use Rattle.rings.specs.declared.Query.{Query}
use Rattle.rings.specs.declared.frame.Frame.{Frame}
use Rattle.rings.proofs.WordLaws.{true_or_false, same_or}
use Rattle.listing.specs.WindowCounts.{showing, windows_behind}
use Rattle.listing.specs.Inner.{Uncounted, Run, Regathered, most_windows, Gathering}
use Rattle.listing.specs.declared.list.Passed.{Passed}
use Rattle.listing.proofs.EndsLaws.{first_exists}
use Rattle.listing.proofs.RunLaws.{showing_at, longest_small, showing_next, showing_most, not_before, run_ring, run_length, same_ring, same_counts}
use Rattle.listing.proofs.RunLaws.{same_showing, last_start, fresh}

-- the starts from `from` to s have the same rings, of which nothing is gathered yet
pub record Gathered (t : Table) (q : Query) (lo hi from s : ℕ) (xs g : List ℕ) : Type 0 where
  pub long : length g ≡ 1025
  pub each : (e : ℕ) → s ≤ e → e ≤ hi → (get_or xs e 0 ≡ 0 → ⊥)
      → get_or g e 0 + (s - from) * showing_at t q hi s (ring t q s e) + showing t q s hi (ring t q s e) ≡ showing t q lo hi (ring t q s e)
  pub none : (e : ℕ) → e ≤ hi → get_or xs e 0 ≡ 0 → get_or g e 0 ≡ 0

-- no start is alike yet
none_alike : (n k : ℕ) → (n - n) * k ≡ 0
none_alike n k = let z : n - n ≡ 0 = omega arith in ap (λ (d : ℕ). d * k) z ∙ zero-mul k

module _ (t : Table) (q : Query) (lo hi : ℕ) (top : hi ≤ 1024) where
  pub gather_start : (xs : List ℕ) → Gathered t q lo hi lo lo xs (replicate 1025 0)
  gather_start xs =
      record {
        long = length-replicate {A = ℕ} 1025 0;
        each = λ e s o c.
            let z = none_alike lo (showing_at t q hi lo (ring t q lo e)) in
            let g = get_or-replicate {A = ℕ} 1025 e 0 0 (omega arith) in
            omega arith;
        none = λ e o z. get_or-replicate {A = ℕ} 1025 e 0 0 (omega arith);
      }

  module _ {from s least : ℕ} {xs g : List ℕ} (since : from ≤ s) (o : s ≤ hi) (T : CountsAt t q hi s xs) (E : Earliest t q hi s least)
      (G : Gathered t q lo hi from s xs g) where
    -- a run of start s stands for as many starts as are alike; what is left are the windows of later starts
    module _ {e next : ℕ} (l : s ≤ e) (h : e ≤ hi) (R : Run xs hi e next) where
      abbrev m : List Bool
      m = ring t q s e

      gathered : get_or g e 0 + (s + 1 - from) * (next - e) + showing t q (s + 1) hi m ≡ showing t q lo hi m
      gathered =
          let n : showing_at t q hi s m ≡ next - e = run_length t q hi top T h R.counted R.ends in
          let a : get_or g e 0 + (s - from) * (next - e) + showing t q s hi m ≡ showing t q lo hi m =
          subst (λ (d : ℕ). get_or g e 0 + (s - from) * d + showing t q s hi m ≡ showing t q lo hi m) n (G.each e l h R.counted) in
          let b : showing t q s hi m ≡ (next - e) + showing t q (s + 1) hi m =
          showing_next t q hi s m o (run_ring t q hi top T h R.counted) ∙ ap (λ (d : ℕ). d + showing t q (s + 1) hi m) n in
          let y : s + 1 - from ≡ suc (s - from) = omega arith in
          let c : (s + 1 - from) * (next - e) ≡ (s - from) * (next - e) + (next - e) =
          ap (λ (d : ℕ). d * (next - e)) y ∙ suc-mul (s - from) (next - e) in
          omega arith

      pub gather_number : least ≤ e
          → (total : ℕ)
          → windows_behind t q lo hi (record { start = s; end = e; rows = total }) ≡ get_or g e 0 + (s + 1 - from) * (next - e)
      unfolding windows_behind
      gather_number b total = let z = last_start t q hi top E h b in let r = gathered in omega arith

      pub gather_small : 1 ≤ lo → get_or g e 0 + (s + 1 - from) * (next - e) ≤ most_windows
      gather_small some =
          let a = showing_most t q lo hi m in
          let b = longest_small lo hi some top in
          let r = gathered in
          omega arith

    module _ {xs' : List ℕ} (T' : CountsAt t q hi (s + 1) xs') where
      -- a start at which no row dated s has a core time is alike
      gather_idle : hi < least → Gathered t q lo hi from (s + 1) xs' g
      gather_idle past =
          record {
            long = G.long;
            each = λ e l h c.
                subst
                (λ (r : List Bool). get_or g e 0 + (s + 1 - from) * showing_at t q hi (s + 1) r + showing t q (s + 1) hi r ≡ showing t q lo hi r)
                (same_ring t q hi top E h (omega arith))
                (again e l h (λ z. c (sym (same_counts t q hi top E T T' h (omega arith)) ∙ z)));
            none = λ e h z. G.none e h (same_counts t q hi top E T T' h (omega arith) ∙ z);
          }
        where
          again : (e : ℕ) → s + 1 ≤ e → e ≤ hi → (get_or xs e 0 ≡ 0 → ⊥)
              → get_or g e 0 + (s + 1 - from) * showing_at t q hi (s + 1) (ring t q s e) + showing t q (s + 1) hi (ring t q s e)
              ≡ showing t q lo hi (ring t q s e)
          again e l h c =
              let x = first_exists xs (e + 1) hi (omega arith) in
              let R : Run xs hi e x.0 = record { counted = c; ends = x.1 } in
              let n : showing_at t q hi (s + 1) (ring t q s e) ≡ x.0 - e =
              sym (same_showing t q hi top E past (ring t q s e)) ∙ run_length t q hi top T h c x.1 in
              subst (λ (d : ℕ). get_or g e 0 + (s + 1 - from) * d + showing t q (s + 1) hi (ring t q s e) ≡ showing t q lo hi (ring t q s e)) (sym n)
              (gathered (omega arith) h R)

      -- else its runs are gathered: what an entry took is fresh at the next start
      gather_walk : {low : ℕ} {g' : List ℕ} → lo ≤ s → length g' ≡ length g → Uncounted xs s low
          → Regathered xs least (s + 1 - from) low hi (hi + 1) g g' → Gathered t q lo hi (s + 1) (s + 1) xs' g'
      gather_walk {low} {g'} first long U R =
          record {
            long = long ∙ G.long;
            each = λ e l h c. nothing_more e
                (⊎_elim (λ y. let b = leb-true least e y in
                let z = taken e h b in
                let f = fresh t q hi top E T' h b c lo first in
                omega arith)
                (λ y. let b = leb-false least e y in kept e l h b (λ z. c (sym (same_counts t q hi top E T T' h b) ∙ z)))
                (true_or_false (leb least e)));
            none = λ e h z.
                ⊎_elim (λ y. taken e h (leb-true least e y))
                (λ y. let z' = same_counts t q hi top E T T' h (leb-false least e y) ∙ z in R.kept e z' ∙ G.none e h z')
                (true_or_false (leb least e));
          }
        where
          nothing_more : (e : ℕ)
              → get_or g' e 0 + showing t q (s + 1) hi (ring t q (s + 1) e) ≡ showing t q lo hi (ring t q (s + 1) e)
              → get_or g' e 0 + (s + 1 - (s + 1)) * showing_at t q hi (s + 1) (ring t q (s + 1) e) + showing t q (s + 1) hi (ring t q (s + 1) e)
              ≡ showing t q lo hi (ring t q (s + 1) e)
          nothing_more e y =
              let z = none_alike (s + 1) (showing_at t q hi (s + 1) (ring t q (s + 1) e)) in
              omega arith

          from_low : (e : ℕ) → s ≤ e → (get_or xs e 0 ≡ 0 → ⊥) → low ≤ e
          from_low e l c = ⊎_elim (λ y. leb-true low e y) (λ y. absurd (c (U.none e l (leb-false low e y)))) (true_or_false (leb low e))

          taken : (e : ℕ) → e ≤ hi → least ≤ e → get_or g' e 0 ≡ 0
          taken e h b =
              ⊎_elim (λ z. R.kept e z ∙ G.none e h z)
              (λ c. let x = first_exists xs (e + 1) hi (omega arith) in
              R.takes e x.0 (from_low e (not_before t q hi top T h c) c) (omega arith) b (record { counted = c; ends = x.1 }))
              (same_or (get_or xs e 0) 0)

          kept : (e : ℕ) → s + 1 ≤ e → (h : e ≤ hi) → e < least → (get_or xs e 0 ≡ 0 → ⊥)
              → get_or g' e 0 + showing t q (s + 1) hi (ring t q (s + 1) e) ≡ showing t q lo hi (ring t q (s + 1) e)
          kept e l h b c =
              let x = first_exists xs (e + 1) hi (omega arith) in
              let N : Run xs hi e x.0 = record { counted = c; ends = x.1 } in
              let a = R.adds e x.0 (from_low e (omega arith) c) (omega arith) b N in
              subst (λ (r : List Bool). get_or g' e 0 + showing t q (s + 1) hi r ≡ showing t q lo hi r) (same_ring t q hi top E h b)
              (let r = gathered (omega arith) h N in omega arith)

  pub gather_next : {s row low least : ℕ} {p r : Passed} {xs xs' g g' : List ℕ}
      → lo ≤ s
      → p.from ≤ s
      → s ≤ hi
      → CountsAt t q hi s xs
      → Earliest t q hi s least
      → Gathered t q lo hi p.from s xs g
      → CountsAt t q hi (s + 1) xs'
      → length g' ≡ length g
      → Uncounted xs s low
      → Gathering xs (record { query = q; start = s; stop = hi; lo = row }) low least p r g g'
      → Gathered t q lo hi r.from (s + 1) xs' g'
  gather_next {s} {p = p} {xs' = xs'} {g} {g'} first since o T E G T' long U (Gathering.idle h a b) =
      subst (λ (d : ℕ). Gathered t q lo hi d (s + 1) xs' g') (sym a)
      (subst (λ (k : List ℕ). Gathered t q lo hi p.from (s + 1) xs' k) (sym b) (gather_idle since o T E G T' h))
  gather_next {s} {xs' = xs'} {g' = g'} first since o T E G T' long U (Gathering.walked l a R) =
      subst (λ (d : ℕ). Gathered t q lo hi d (s + 1) xs' g') (sym a) (gather_walk since o T E G T' first long U R)

pub gather_since : {xs : List ℕ} {f : Frame} {low least : ℕ} {p r : Passed} {g g' : List ℕ} → p.from ≤ f.start → Gathering xs f low least p r g g'
    → r.from ≤ f.start + 1
gather_since since (Gathering.idle h a b) = omega arith
gather_since since (Gathering.walked l a R) = omega arith
