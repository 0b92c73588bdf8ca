-- Rows go from the adjacency (src/prune.rt).
--     Found, Pruning, pruning_start, pruning_place, pruning_stands, pruning_timed, pruning_few, pruning_next,
--     pruning_end     the loop of `prune_account`
--     PruningAll, pruning_all_start, pruning_all_next     the loop of `prune`
-- Assumes nothing.
use Prim.Native.Nat.{ℕ, suc, ◌+◌, ◌*◌, ◌≤◌, ◌<◌}
use native.Mathlib.Nat.{le_refl, eq-or-lt_of_le}
use native.Mathlib.Omega.{arith}
use mathlib.Core.Path.{◌≡◌, refl, sym, ◌∙◌, ap, subst}
use mathlib.Core.Logic.{◌⊎◌, ⊎_elim}
use mathlib.Core.Bool.{true, not}
use mathlib.Core.List.{List}
use lib.ListN.{length, get_or, set, length-set}
use lib.Seq.{get_or-set_same, get_or-set_other}
use lib.Dec.{leb, eqb}
use borrow.Author.Tests.{leb-true, leb-false, ne_eqb}
use Rattle.rings.specs.Table.{Table, table_of, size}
use Rattle.rings.specs.Sound.{Sound}
use Rattle.rings.specs.Ring.{touches}
use Rattle.rings.specs.CoreTimes.{never}
use Rattle.rings.specs.Inner.Peeling.{estimate}
use Rattle.rings.specs.Inner.Adjacency.{other_of, Adjacency, PrunedList, PrunedAdjacency, Every, Covered, Pruned}
use Rattle.rings.specs.Inner.Incident.{RowStands}
use Rattle.rings.proofs.WordLaws.{true_or_false, same_or}
use Rattle.rings.proofs.PeelStateLaws.{estimate_at}
use Rattle.rings.proofs.RankLaws.{place_step, place_mono}
use Rattle.rings.proofs.PrunedLaws.{adjacency_pruned}
use Rattle.rings.proofs.PassHeadLaws.{pruned_list_same, every_same}

-- ---- rows go from what stands under u

-- i stands at a place from h on and before end
pub record Found (h end : ℕ) (sc : List ℕ) (i : ℕ) : Type 0 where
  pub place : ℕ
  pub from : h ≤ place
  pub below : place < end
  pub is : get_or sc (8192 + place) 0 ≡ i

-- the entries of u before place p are sifted: what stays of them stands before place end
pub record Pruning (t : Table) (x : ℕ → ℕ) (u : ℕ) (sc₀ : List ℕ) (p end : ℕ) (sc : List ℕ) : Type 0 where
  pub long : length sc ≡ length sc₀
  pub from : get_or sc₀ (4096 + u) 0 ≤ end
  pub ordered : end ≤ p
  pub to : p ≤ get_or sc₀ u 0
  pub else : (r : ℕ) → (r < 8192 + get_or sc₀ (4096 + u) 0) ⊎ (8192 + p ≤ r) → get_or sc r 0 ≡ get_or sc₀ r 0
  pub row : (r : ℕ) → get_or sc₀ (4096 + u) 0 ≤ r → r < end → get_or sc (8192 + r) 0 < size t
  pub touch : (r : ℕ) → get_or sc₀ (4096 + u) 0 ≤ r → r < end → touches t (get_or sc (8192 + r) 0) u ≡ true
  pub rising : (r r' : ℕ) → get_or sc₀ (4096 + u) 0 ≤ r → r < r' → r' < end → get_or sc (8192 + r) 0 < get_or sc (8192 + r') 0
  pub low : (r r' : ℕ) → get_or sc₀ (4096 + u) 0 ≤ r → r < end → p ≤ r' → r' < get_or sc₀ u 0
      → get_or sc (8192 + r) 0 < get_or sc₀ (8192 + r') 0
  pub kept : (r : ℕ) → get_or sc₀ (4096 + u) 0 ≤ r → r < p → (x (other_of t (get_or sc₀ (8192 + r) 0) u) ≡ never → ⊥)
      → Found (get_or sc₀ (4096 + u) 0) end sc (get_or sc₀ (8192 + r) 0)

pub pruning_start : {t : Table} (x : ℕ → ℕ) {u p : ℕ} {sc : List ℕ} → PrunedList t u sc → p ≡ get_or sc (4096 + u) 0
    → Pruning t x u sc p p sc
pruning_start x {u} K e =
    record {
      long = refl;
      from = omega arith;
      ordered = le_refl _;
      to = let a = K.from in omega arith;
      else = λ r h. refl;
      row = λ r a b. absurd (omega arith);
      touch = λ r a b. absurd (omega arith);
      rising = λ r r' a o b. absurd (omega arith);
      low = λ r r' a b. absurd (omega arith);
      kept = λ r a b. absurd (omega arith);
    }

module _ {t : Table} {x : ℕ → ℕ} {u : ℕ} {sc₀ : List ℕ} (L : PrunedAdjacency t sc₀) (small : u < 4096) {p end : ℕ}
    {sc : List ℕ} (S : Pruning t x u sc₀ p end sc) where
  abbrev h : ℕ
  h = get_or sc₀ (4096 + u) 0

  K : PrunedList t u sc₀
  K = L.pruned_list u small

  pub pruning_few : size t ≤ 16384 → (p ≤ 32768) × (end ≤ 32768)
  pruning_few most = let a = S.to in let b = K.to in let c = S.ordered in (omega arith, omega arith)

  -- what stands under u when all are sifted
  pub pruning_end : get_or sc₀ u 0 ≤ p → {sc' : List ℕ} → sc' ≡ set sc u end → Pruned t x u sc₀ sc'
  pruning_end past {sc'} e =
      record {
        long = ap length e ∙ (length-set sc u end ∙ S.long);
        else = λ r n o. other r n ∙ S.else r (⊎_elim ◌⊎◌.inl (λ z. ◌⊎◌.inr (let a = S.to in omega arith)) o);
        pruned_list =
            record {
              from = let a = head in let b = last in let c = S.from in omega arith;
              to = let b = last in let c = S.ordered in let g = S.to in let k = K.to in omega arith;
              row = λ r a b.
                  let c = head in
                  let g = last in let m = entries r in let n = S.row r (omega arith) (omega arith) in omega arith;
              touch = λ r a b.
                  let c = head in
                  let g = last in
                  subst (λ (i : ℕ). touches t i u ≡ true) (sym (entries r)) (S.touch r (omega arith) (omega arith));
              rising = λ r r' a o b.
                  let c = head in
                  let g = last in
                  let m = entries r in
                  let n = entries r' in let k = S.rising r r' (omega arith) o (omega arith) in omega arith;
            };
        less = let b = last in let c = S.ordered in let g = S.to in omega arith;
        kept = λ i n P.
            let b = P.below in
            let F = S.kept P.place P.from (omega arith)
            (λ z. n (ap (λ (c : ℕ). x (other_of t c u)) (sym P.is) ∙ z)) in
            record {
              place = F.place;
              from = let a = head in let c = F.from in omega arith;
              below = let a = last in let c = F.below in omega arith;
              is = entries F.place ∙ (F.is ∙ P.is);
            };
      }
    where
      other : (r : ℕ) → (r ≡ u → ⊥) → get_or sc' r 0 ≡ get_or sc r 0
      other r n = ap (λ (ys : List ℕ). get_or ys r 0) e ∙ get_or-set_other sc u r end 0 n

      entries : (r : ℕ) → get_or sc' (8192 + r) 0 ≡ get_or sc (8192 + r) 0
      entries r = other (8192 + r) (λ z. omega arith)

      head : get_or sc' (4096 + u) 0 ≡ h
      head = other (4096 + u) (λ z. omega arith) ∙ S.else (4096 + u) (◌⊎◌.inl (omega arith))

      last : get_or sc' u 0 ≡ end
      last =
          ap (λ (ys : List ℕ). get_or ys u 0) e
          ∙ get_or-set_same sc u end 0 (let a = S.long in let b = L.long in omega arith)

  module _ (more : p < get_or sc₀ u 0) {j : ℕ} (ej : j ≡ get_or sc (8192 + p) 0) where
    was : j ≡ get_or sc₀ (8192 + p) 0
    was = ej ∙ S.else (8192 + p) (◌⊎◌.inr (le_refl (8192 + p)))

    at_p : h ≤ p
    at_p = let a = S.from in let b = S.ordered in omega arith

    pruning_row : j < size t
    pruning_row = let a = K.row p at_p more in let b = was in omega arith

    pruning_touch : touches t j u ≡ true
    pruning_touch = subst (λ (i : ℕ). touches t i u ≡ true) (sym was) (K.touch p at_p more)

    pub pruning_place : (8192 + p < length sc) × (8192 + end < length sc)
    pruning_place =
        let a = S.long in let b = L.long in let c = K.to in let g = S.ordered in (omega arith, omega arith)

    pub pruning_next : {m : ℕ} {sc' : List ℕ} → sc' ≡ set sc (8192 + end) j
        → ((x (other_of t j u) ≡ never → ⊥) → m ≡ 1) → m ≤ 1
        → Pruning t x u sc₀ (p + 1) (end + m) sc'
    pruning_next {m} {sc'} e up few =
        record {
          long = ap length e ∙ (length-set sc (8192 + end) j ∙ S.long);
          from = let a = S.from in omega arith;
          ordered = let a = S.ordered in omega arith;
          to = omega arith;
          else = λ r o.
              let a = S.from in
              let b = S.ordered in
              ⊎_elim (λ z. other r (λ y. omega arith) ∙ S.else r (◌⊎◌.inl z))
              (λ z. other r (λ y. omega arith) ∙ S.else r (◌⊎◌.inr (omega arith))) o;
          row = λ r a b.
              ⊎_elim (λ y. let i = here r y in let g = pruning_row in omega arith)
              (λ k. let i = entries r (λ z. omega arith) in let g = S.row r a k in omega arith) (mine r b);
          touch = λ r a b.
              ⊎_elim (λ y. subst (λ (i : ℕ). touches t i u ≡ true) (sym (here r y)) pruning_touch)
              (λ k. subst (λ (i : ℕ). touches t i u ≡ true) (sym (entries r (λ z. omega arith))) (S.touch r a k))
              (mine r b);
          rising = λ r r' a o b.
              let k : r < end = omega arith in
              let i = entries r (λ z. omega arith) in
              ⊎_elim (λ y. let g = here r' y in let n = S.low r p a k (le_refl p) more in let w = was in omega arith)
              (λ y. let g = entries r' (λ z. omega arith) in let n = S.rising r r' a o y in omega arith) (mine r' b);
          low = λ r r' a b c g.
              ⊎_elim (λ y. let i = here r y in let n = K.rising p r' at_p (omega arith) g in let w = was in
              omega arith)
              (λ k. let i = entries r (λ z. omega arith) in let n = S.low r r' a k (omega arith) g in omega arith)
              (mine r b);
          kept = λ r a b n.
              ⊎_elim
              (λ y.
              let w : get_or sc₀ (8192 + r) 0 ≡ j = ap (λ (c : ℕ). get_or sc₀ (8192 + c) 0) y ∙ sym was in
              let o = up (λ z. n (ap (λ (c : ℕ). x (other_of t c u)) w ∙ z)) in
              record { place = end; from = S.from; below = omega arith; is = here end refl ∙ sym w })
              (λ k.
              let F = S.kept r a k n in
              let o = F.below in
              record {
                place = F.place;
                from = F.from;
                below = omega arith;
                is = entries F.place (λ z. omega arith) ∙ F.is;
              })
              (eq-or-lt_of_le (let z : r ≤ p = omega arith in z));
        }
      where
        other : (r : ℕ) → (r ≡ 8192 + end → ⊥) → get_or sc' r 0 ≡ get_or sc r 0
        other r n = ap (λ (ys : List ℕ). get_or ys r 0) e ∙ get_or-set_other sc (8192 + end) r j 0 n

        entries : (r : ℕ) → (r ≡ end → ⊥) → get_or sc' (8192 + r) 0 ≡ get_or sc (8192 + r) 0
        entries r n = other (8192 + r) (λ z. n (omega arith))

        here : (r : ℕ) → r ≡ end → get_or sc' (8192 + r) 0 ≡ j
        here r y =
            ap (λ (c : ℕ). get_or sc' (8192 + c) 0) y
            ∙ (ap (λ (ys : List ℕ). get_or ys (8192 + end) 0) e ∙ get_or-set_same sc (8192 + end) j 0 pruning_place.1)

        mine : (r : ℕ) → r < end + m → (r ≡ end) ⊎ (r < end)
        mine r b = eq-or-lt_of_le (omega arith)

-- what `row_at` asks of the place that comes next
pub pruning_stands : {d f s : List ℕ} {x : ℕ → ℕ} {u : ℕ} {sc₀ : List ℕ} {p end : ℕ} {sc : List ℕ} → Sound d f s
    → PrunedAdjacency (table_of d f s) sc₀
    → u < 4096 → Pruning (table_of d f s) x u sc₀ p end sc → p < get_or sc₀ u 0
    → RowStands (table_of d f s) sc u p
pruning_stands {d} {u = u} S L small T more =
    let a = (L.pruned_list u small).to in
    record {
      sound = S;
      long = let b = T.long in let c = L.long in omega arith;
      pairs = λ r l. T.else (8192 + 2 * length d + r) (◌⊎◌.inr (omega arith)) ∙ L.pairs r l;
      place = omega arith;
      row = pruning_row L small T more refl;
      touch = pruning_touch L small T more refl;
    }

-- what the code reads of the other account
pub pruning_timed : (xs : List ℕ) {v w : ℕ} → length xs ≡ 4096 → v < 4096 → v ≡ w → (estimate xs w ≡ never → ⊥)
    → not (eqb (get_or xs v 0) 65535) ≡ true
pruning_timed xs {v} long small e n =
    ap not (ne_eqb (get_or xs v 0) 65535 (λ z. n (ap (estimate xs) (sym e) ∙ (estimate_at xs v long small ∙ z))))

-- ---- account by account

-- the places of the accounts follow one another
pub record PruningAll (t : Table) (x : ℕ → ℕ) (sc₀ sc : List ℕ) : Type 0 where
  pub pruned : PrunedAdjacency t sc
  pub apart : (u v : ℕ) → u < v → v < 4096 → get_or sc u 0 ≤ get_or sc (4096 + v) 0
  pub covered : (lo : ℕ) → Covered t x lo sc₀ → Covered t x lo sc

pub pruning_all_start : {t : Table} (x : ℕ → ℕ) {day : ℕ} {sc : List ℕ} → Adjacency t day sc → PruningAll t x sc sc
pruning_all_start {t} x {sc = sc} L =
    record {
      pruned = adjacency_pruned L;
      apart = λ u v o l.
          let a = L.cursors u (omega arith) in
          let b = place_step t u in let c = place_mono t (suc u) v o in let e = (L.heads v l).from in omega arith;
      covered = λ lo C. C;
    }

pub pruning_all_next : {t : Table} {x : ℕ → ℕ} {u : ℕ} {sc₀ sc sc' : List ℕ} → PruningAll t x sc₀ sc → u < 4096
    → Pruned t x u sc sc' → PruningAll t x sc₀ sc'
pruning_all_next {t} {x} {u} {sc₀} {sc} {sc'} G small M =
    record {
      pruned =
          record {
            long = let a = M.long in let b = L.long in omega arith;
            pairs = λ r l.
                M.else (8192 + 2 * size t + r) (λ z. omega arith)
                (◌⊎◌.inr (let a = (L.pruned_list u small).to in omega arith))
                ∙ L.pairs r l;
            pruned_list = λ v l.
                ⊎_elim (λ e. subst (λ (c : ℕ). PrunedList t c sc') (sym e) M.pruned_list)
                (λ n. pruned_list_same (head v l) (last v n l) (entries v l n) (L.pruned_list v l)) (same_or v u);
          };
      apart = λ a b o l.
          let g = head b l in
          let k = G.apart a b o l in
          ⊎_elim (λ e. let i = ap (λ (c : ℕ). get_or sc' c 0) e in let j = ap (λ (c : ℕ). get_or sc c 0) e in
          let m = M.less in omega arith)
          (λ n. let i = last a n (omega arith) in omega arith) (same_or a u);
      covered = λ lo C.
          let D = G.covered lo C in
          record {
            rows = λ v l n.
                ⊎_elim (λ e. subst (λ (c : ℕ). Every t x lo c sc') (sym e)
                (mine (D.rows u small (λ z. n (ap x e ∙ z)))))
                (λ m. every_same (head v l) (last v m l) (entries v l m) (D.rows v l n)) (same_or v u);
          };
    }
  where
    L : PrunedAdjacency t sc
    L = G.pruned

    -- every head stays, and the ends of the others
    head : (v : ℕ) → v < 4096 → get_or sc' (4096 + v) 0 ≡ get_or sc (4096 + v) 0
    head v l = M.else (4096 + v) (λ z. omega arith) (◌⊎◌.inl (omega arith))

    last : (v : ℕ) → (v ≡ u → ⊥) → v < 4096 → get_or sc' v 0 ≡ get_or sc v 0
    last v n l = M.else v n (◌⊎◌.inl (omega arith))

    -- and what stands under them
    entries : (v : ℕ) → v < 4096 → (v ≡ u → ⊥) → (p : ℕ) → get_or sc (4096 + v) 0 ≤ p → p < get_or sc v 0
        → get_or sc' (8192 + p) 0 ≡ get_or sc (8192 + p) 0
    entries v l n p a b =
        M.else (8192 + p) (λ z. omega arith)
        (⊎_elim
        (λ y. ⊎_elim (λ e. absurd (n e)) (λ o. let k = G.apart v u o small in ◌⊎◌.inl (omega arith))
        (eq-or-lt_of_le (leb-true v u y)))
        (λ y. let k = G.apart u v (leb-false v u y) l in ◌⊎◌.inr (omega arith)) (true_or_false (leb v u)))

    mine : {lo : ℕ} → Every t x lo u sc → Every t x lo u sc'
    mine E =
        record {
          row = λ i a l y.
              ⊎_elim ◌⊎◌.inl
              (λ P. ⊎_elim ◌⊎◌.inl (λ n. ◌⊎◌.inr (M.kept i n P)) (same_or (x (other_of t i u)) never))
              (E.row i a l y);
        }
