-- Heads pass the rows that leave, in an adjacency that may lack rows (src/heads.rt, `pass_head` and `pass_heads`).
--     passing_long, passing_move     what `pass_head` does
--     heads_start, heads_asks, heads_mid, heads_next, heads_end     the loop of `pass_heads`
--     pruned_list_same, every_same     what stands under an account is the same in two scratches
-- Assumes nothing.
use Prim.Native.Nat.{ℕ, ◌+◌, ◌*◌, ◌≤◌, ◌<◌}
use native.Mathlib.Nat.{eq-or-lt_of_le}
use native.Mathlib.Omega.{arith}
use mathlib.Core.Path.{◌≡◌, sym, ◌∙◌, ap, subst}
use mathlib.Core.Logic.{◌⊎◌, ⊎_elim}
use mathlib.Core.Bool.{true}
use mathlib.Core.List.{List}
use lib.ListN.{length, get_or, set, length-set}
use lib.Seq.{get_or-set_same, get_or-set_other}
use Rattle.rings.specs.Table.{Table, size}
use Rattle.rings.specs.Ring.{touches}
use Rattle.rings.specs.Inner.Adjacency.{PrunedList, PrunedAdjacency, Stands, Every, Covered, PrunedInside}
use Rattle.rings.specs.Inner.Adjacency.{Passing, HeadsPassed}
use Rattle.rings.proofs.WordLaws.{same_or}
use Rattle.rings.proofs.PrunedLaws.{covered_rise}

-- ---- what stands under an account is the same in two scratches

module _ {u : ℕ} {sc sc' : List ℕ} (eh : get_or sc' (4096 + u) 0 ≡ get_or sc (4096 + u) 0) (el : get_or sc' u 0 ≡ get_or sc u 0)
    (same : (p : ℕ) → get_or sc (4096 + u) 0 ≤ p → p < get_or sc u 0 → get_or sc' (8192 + p) 0 ≡ get_or sc (8192 + p) 0) where
  pub pruned_list_same : {t : Table} → PrunedList t u sc → PrunedList t u sc'
  pruned_list_same {t} K =
      record {
        from = let a = K.from in omega arith;
        to = let a = K.to in omega arith;
        row = λ p h k.
            let e = same p (omega arith) (omega arith) in let a = K.row p (omega arith) (omega arith) in omega arith;
        touch = λ p h k.
            subst (λ (c : ℕ). touches t c u ≡ true) (sym (same p (omega arith) (omega arith)))
            (K.touch p (omega arith) (omega arith));
        rising = λ p r h o k.
            let e = same p (omega arith) (omega arith) in
            let g = same r (omega arith) (omega arith) in
            let a = K.rising p r (omega arith) o (omega arith) in omega arith;
      }

  stands_same : {i : ℕ} → Stands sc u i → Stands sc' u i
  stands_same P =
      record {
        place = P.place;
        from = let a = P.from in omega arith;
        below = let a = P.below in omega arith;
        is = same P.place P.from P.below ∙ P.is;
      }

  pub every_same : {t : Table} {x : ℕ → ℕ} {lo : ℕ} → Every t x lo u sc → Every t x lo u sc'
  every_same E = record { row = λ i a l y. ⊎_elim ◌⊎◌.inl (λ P. ◌⊎◌.inr (stands_same P)) (E.row i a l y) }

-- ---- the heads pass rows

pub passing_long : {u j : ℕ} {sc sc' : List ℕ} → Passing u j sc sc' → length sc' ≡ length sc
passing_long (Passing.stays e) = ap length e
passing_long {u} {sc = sc} (Passing.moves h k e) = ap length e ∙ length-set sc (4096 + u) (get_or sc (4096 + u) 0 + 1)

-- what `pass_head` does
pub passing_move : {u j last place i : ℕ} {sc sc' : List ℕ} → last ≡ get_or sc u 0 → place ≡ get_or sc (4096 + u) 0
    → place < last
    → i ≡ get_or sc (8192 + place) 0 → i ≡ j → sc' ≡ set sc (4096 + u) (place + 1) → Passing u j sc sc'
passing_move {u} {sc = sc} el ep h ei ej e =
    Passing.moves (omega arith) (ap (λ (c : ℕ). get_or sc (8192 + c) 0) (sym ep) ∙ (sym ei ∙ ej))
    (e ∙ ap (λ (c : ℕ). set sc (4096 + u) (c + 1)) ep)

-- all but the head of u
passing_else : {u j : ℕ} {sc sc' : List ℕ} → Passing u j sc sc' → (p : ℕ) → (p ≡ 4096 + u → ⊥)
    → get_or sc' p 0 ≡ get_or sc p 0
passing_else (Passing.stays e) p n = ap (λ (ys : List ℕ). get_or ys p 0) e
passing_else {u} {sc = sc} (Passing.moves h k e) p n =
    ap (λ (ys : List ℕ). get_or ys p 0) e ∙ get_or-set_other sc (4096 + u) p (get_or sc (4096 + u) 0 + 1) 0 n

passing_pruned_list : {t : Table} {u j : ℕ} {sc sc' : List ℕ} → u < 4096 → 8192 ≤ length sc → Passing u j sc sc'
    → PrunedList t u sc → PrunedList t u sc'
passing_pruned_list {t} {u} small long (Passing.stays e) K = subst (PrunedList t u) (sym e) K
passing_pruned_list {t} {u} {sc = sc} {sc' = sc'} small long (Passing.moves h k e) K =
    record {
      from = let a = here in let b = last in omega arith;
      to = let a = last in let b = K.to in omega arith;
      row = λ p a b.
          let c = here in
          let l = last in let g = entries p in let m = K.row p (omega arith) (omega arith) in omega arith;
      touch = λ p a b.
          let c = here in
          let l = last in
          subst (λ (i : ℕ). touches t i u ≡ true) (sym (entries p)) (K.touch p (omega arith) (omega arith));
      rising = λ p r a o b.
          let c = here in
          let l = last in
          let g = entries p in
          let m = entries r in let n = K.rising p r (omega arith) o (omega arith) in omega arith;
    }
  where
    here : get_or sc' (4096 + u) 0 ≡ get_or sc (4096 + u) 0 + 1
    here =
        ap (λ (ys : List ℕ). get_or ys (4096 + u) 0) e
        ∙ get_or-set_same sc (4096 + u) (get_or sc (4096 + u) 0 + 1) 0 (omega arith)

    last : get_or sc' u 0 ≡ get_or sc u 0
    last =
        ap (λ (ys : List ℕ). get_or ys u 0) e
        ∙ get_or-set_other sc (4096 + u) u (get_or sc (4096 + u) 0 + 1) 0 (λ z. omega arith)

    entries : (p : ℕ) → get_or sc' (8192 + p) 0 ≡ get_or sc (8192 + p) 0
    entries p =
        ap (λ (ys : List ℕ). get_or ys (8192 + p) 0) e
        ∙ get_or-set_other sc (4096 + u) (8192 + p) (get_or sc (4096 + u) 0 + 1) 0 (λ z. omega arith)

-- a row other than j stands as before
passing_stands : {u j i : ℕ} {sc sc' : List ℕ} → u < 4096 → 8192 ≤ length sc → Passing u j sc sc' → (i ≡ j → ⊥)
    → Stands sc u i → Stands sc' u i
passing_stands {u} {i = i} small long (Passing.stays e) n P = subst (λ (ys : List ℕ). Stands ys u i) (sym e) P
passing_stands {u} {sc = sc} {sc' = sc'} small long (Passing.moves h k e) n P =
    record {
      place = P.place;
      from =
          let a : get_or sc' (4096 + u) 0 ≡ get_or sc (4096 + u) 0 + 1 =
          ap (λ (ys : List ℕ). get_or ys (4096 + u) 0) e ∙ get_or-set_same sc
          (4096 + u) (get_or sc (4096 + u) 0 + 1) 0 (omega arith) in
          ⊎_elim
          (λ o. absurd (n (sym P.is ∙ (ap (λ (c : ℕ). get_or sc (8192 + c) 0) (sym o) ∙ k))))
          (λ o. omega arith) (eq-or-lt_of_le P.from);
      below =
          let a : get_or sc' u 0 ≡ get_or sc u 0 =
          ap (λ (ys : List ℕ). get_or ys u 0) e
          ∙ get_or-set_other sc (4096 + u) u (get_or sc (4096 + u) 0 + 1) 0 (λ z. omega arith) in
          let b = P.below in omega arith;
      is =
          ap (λ (ys : List ℕ). get_or ys (8192 + P.place) 0) e
          ∙ (get_or-set_other sc (4096 + u) (8192 + P.place) (get_or sc (4096 + u) 0 + 1) 0 (λ z. omega arith) ∙ P.is);
    }

-- one head moves: the other accounts have what they had
passing_pruned : {t : Table} {u j : ℕ} {sc sc' : List ℕ} → u < 4096 → Passing u j sc sc' → PrunedAdjacency t sc
    → PrunedAdjacency t sc'
passing_pruned {t} {u} {sc = sc} {sc' = sc'} small M L =
    record {
      long = let a = passing_long M in let b = L.long in omega arith;
      pairs = λ r l. passing_else M (8192 + 2 * size t + r) (λ z. omega arith) ∙ L.pairs r l;
      pruned_list = λ v l.
          ⊎_elim (λ e. subst (λ (c : ℕ). PrunedList t c sc') (sym e)
          (passing_pruned_list small (let b = L.long in omega arith) M (L.pruned_list u small)))
          (λ n.
          pruned_list_same (passing_else M (4096 + v) (λ z. n (omega arith))) (passing_else M v (λ z. omega arith))
          (λ p a b. passing_else M (8192 + p) (λ z. omega arith)) (L.pruned_list v l))
          (same_or v u);
    }

passing_covered : {t : Table} {u j : ℕ} {sc sc' : List ℕ} (x : ℕ → ℕ) {lo : ℕ} → u < 4096 → 8192 ≤ length sc
    → j < lo → Passing u j sc sc'
    → Covered t x lo sc → Covered t x lo sc'
passing_covered {t} {u} {sc = sc} {sc' = sc'} x {lo} small long h M C =
    record {
      rows = λ v l n.
          ⊎_elim (λ e. subst (λ (c : ℕ). Every t x lo c sc') (sym e) (mine (C.rows u small (λ z. n (ap x e ∙ z)))))
          (λ m.
          every_same (passing_else M (4096 + v) (λ z. m (omega arith))) (passing_else M v (λ z. omega arith))
          (λ p a b. passing_else M (8192 + p) (λ z. omega arith)) (C.rows v l n))
          (same_or v u);
    }
  where
    mine : Every t x lo u sc → Every t x lo u sc'
    mine E =
        record {
          row = λ i a l y. ⊎_elim ◌⊎◌.inl (λ P. ◌⊎◌.inr (passing_stands small long M (λ e. omega arith) P))
              (E.row i a l y);
        }

pub heads_start : {t : Table} (lo : ℕ) {sc : List ℕ} → PrunedAdjacency t sc → HeadsPassed t lo sc lo sc
heads_start lo L = record { pruned = L; covered = λ x C. C }

-- what `pass_head` reads
pub heads_asks : {t : Table} {sc : List ℕ} {u : ℕ} → size t ≤ 16384 → PrunedAdjacency t sc → u < 4096
    → PrunedInside sc u
heads_asks {u = u} most L small =
    let a = L.long in
    let b = (L.pruned_list u small).to in
    record { account = small; long = omega arith; end = omega arith; few = omega arith }

pub heads_mid : {t : Table} {lo j a : ℕ} {sc₀ sc sc₁ : List ℕ} → HeadsPassed t lo sc₀ j sc → a < 4096
    → Passing a j sc sc₁ → PrunedAdjacency t sc₁
heads_mid H small M = passing_pruned small M H.pruned

pub heads_next : {t : Table} {lo j a b : ℕ} {sc₀ sc sc₁ sc₂ : List ℕ} → HeadsPassed t lo sc₀ j sc → a < 4096
    → b < 4096 → Passing a j sc sc₁
    → Passing b j sc₁ sc₂ → HeadsPassed t lo sc₀ (j + 1) sc₂
heads_next H la lb M N =
    let L = heads_mid H la M in
    record {
      pruned = passing_pruned lb N L;
      covered = λ x C.
          passing_covered x lb (let g = L.long in omega arith) (omega arith) N
          (passing_covered x la (let g = H.pruned.long in omega arith) (omega arith) M
          (covered_rise (λ v e. e) (omega arith) (H.covered x C)));
    }

pub heads_end : {t : Table} {lo j next : ℕ} {sc₀ sc : List ℕ} → HeadsPassed t lo sc₀ j sc → j ≤ next
    → HeadsPassed t lo sc₀ next sc
heads_end H h = record { pruned = H.pruned; covered = λ x C. covered_rise (λ v e. e) h (H.covered x C) }
