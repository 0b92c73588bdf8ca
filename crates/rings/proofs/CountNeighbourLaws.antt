-- The loop of `count_neighbours` (src/peel.rt).
--     counted_start, count_start, count_below, count_place, count_first, count_second, count_skip, count_row    the
--         neighbours
--     counts_for, counts_below     the rows below one that count for an account
-- Assumes nothing.
use Prim.Native.Nat.{ℕ, suc, ◌+◌, ◌≤◌, ◌<◌}
use native.Mathlib.Nat.{eq-or-lt_of_le}
use native.Mathlib.Omega.{arith}
use mathlib.Core.Path.{◌≡◌, refl, sym, ◌∙◌, ap, subst}
use mathlib.Core.Logic.{◌⊎◌, ⊎_elim}
use mathlib.Core.Bool.{Bool, true, false}
use mathlib.Core.List.{List}
use lib.ListN.{length, get_or, set, replicate, length-set, length-replicate, get_or-replicate}
use lib.Seq.{get_or-set_same, get_or-set_other}
use lib.Dec.{ltb}
use borrow.Author.Tests.{ltb-true, lt-ltb}
use Rattle.rings.specs.Words.{◌and◌, at, count}
use Rattle.rings.specs.Table.{Table, table_of, first_of, second_of}
use Rattle.rings.specs.Ring.{touches}
use Rattle.rings.specs.Inner.Adjacency.{leads}
use Rattle.rings.specs.Inner.Peeling.{EarlierStands, leads_by, Ready, NeighbourCounts, Span}
use Rattle.rings.specs.declared.frame.Frame.{Frame}
use Rattle.rings.proofs.WordLaws.{true_or_false, clash, and_i, and_l, and_r, same_truth, count_same}
use Rattle.rings.proofs.WordLaws.{count_none, count_le, same_or}
use Rattle.rings.proofs.RingLaws.{touch_cases, touch_first, touch_second}
use Rattle.rings.proofs.RankLaws.{first_small, second_small}
use Rattle.rings.proofs.PairLaws.{count_drop}
use Rattle.rings.proofs.LeadLaws.{lead_from, lead_test}
use Rattle.rings.proofs.PeelLoopLaws.{Counting}

module _ (d f s scratch : List ℕ) (q : Frame) (R : Ready (table_of d f s) scratch q) where
  abbrev t : Table
  t = table_of d f s

  -- ---- count_neighbours

  -- row j counts for u, if it leads and is below end
  abbrev pub counts_for : ℕ → ℕ → ℕ → Bool
  counts_for end u j = (leads t q.lo j and ltb j end) and touches t j u

  pub counts_below : (end u i : ℕ) → counts_for end u i ≡ true → i < end
  counts_below end u i h =
      ltb-true i end
      (and_r (leads t q.lo i) (ltb i end) (and_l (leads t q.lo i and ltb i end) (touches t i u) h))

  -- where the bound moves past row j, only row j may count anew
  counts_same : (j u i : ℕ) → (i ≡ j → ⊥) → counts_for (j + 1) u i ≡ counts_for j u i
  counts_same j u i n =
      ap (λ (b : Bool). (leads t q.lo i and b) and touches t i u)
      (same_truth (ltb i (j + 1)) (ltb i j)
      (λ h. let a = ltb-true i (j + 1) h in
      lt-ltb i j (⊎_elim (λ e. absurd (n e)) (λ l. l) (eq-or-lt_of_le (omega arith))))
      (λ h. let a = ltb-true i j h in lt-ltb i (j + 1) (omega arith)))

  counts_not : (j u : ℕ) → counts_for j u j ≡ false
  counts_not j u =
      ⊎_elim (λ h. let a = counts_below j u j h in absurd (omega arith)) (λ h. h) (true_or_false (counts_for j u j))

  -- row j counts for u from now on
  counts_more : (j u : ℕ) → j < length d → leads t q.lo j ≡ true → touches t j u ≡ true
      → count (counts_for (j + 1) u) (length d) ≡ suc (count (counts_for j u) (length d))
  counts_more j u l h k =
      count_drop (counts_for (j + 1) u) (counts_for j u) (length d) j l
      (and_i (and_i h (lt-ltb j (j + 1) (omega arith))) k) (counts_not j u)
      (λ i n. sym (counts_same j u i n))

  -- row j counts for nobody new
  counts_still : (j u : ℕ) → (leads t q.lo j ≡ false) ⊎ (touches t j u ≡ false)
      → count (counts_for (j + 1) u) (length d) ≡ count (counts_for j u) (length d)
  counts_still j u h =
      count_same (counts_for (j + 1) u) (counts_for j u) (length d)
      (λ i o. ⊎_elim
      (λ e. subst (λ (c : ℕ). counts_for (j + 1) u c ≡ counts_for j u c) (sym e)
      (here_not ∙ sym (counts_not j u)))
      (λ n. counts_same j u i n)
      (same_or i j))
    where
      here_not : counts_for (j + 1) u j ≡ false
      here_not =
          ⊎_elim (λ y. ⊎_elim
          (λ g. clash
          (and_l (leads t q.lo j) (ltb j (j + 1))
          (and_l (leads t q.lo j and ltb j (j + 1)) (touches t j u) y))
          g)
          (λ g. clash (and_r (leads t q.lo j and ltb j (j + 1)) (touches t j u) y) g) h) (λ y. y)
          (true_or_false (counts_for (j + 1) u j))

  pub counted_start : (l₀ : List ℕ) {l : List ℕ} → length l₀ ≡ 4096 → l ≡ replicate (length l₀) 0
      → NeighbourCounts t q.lo q.lo l
  counted_start l₀ {l} n e =
      record {
        long = ap length e ∙ (length-replicate {A = ℕ} (length l₀) 0 ∙ n);
        rows = λ u k. ap (λ (c : List ℕ). get_or c u 0) e
            ∙ (get_or-replicate (length l₀) u 0 0 (omega arith)
            ∙ sym (count_none (counts_for q.lo u) (length d) (λ i o. none u i)));
      }
    where
      none : (u i : ℕ) → counts_for q.lo u i ≡ false
      none u i =
          ⊎_elim (λ h. let a = counts_below q.lo u i h in
          let b = lead_from t q.lo i
          (and_l (leads t q.lo i) (ltb i q.lo)
          (and_l (leads t q.lo i and ltb i q.lo) (touches t i u) h)) in
          absurd (omega arith)) (λ h. h) (true_or_false (counts_for q.lo u i))

  pub count_start : {end : ℕ} {l : List ℕ} → Span d q.stop q.lo end → NeighbourCounts t q.lo q.lo l
      → Counting d f s q q.lo end l l
  count_start Sp C = record { lengths = refl; most = Sp.ordered; counted = C }

  module _ {j end : ℕ} {l₀ l : List ℕ} (K : Counting d f s q j end l₀ l) (below : j < end)
      (Sp : Span d q.stop q.lo end) where
    C : NeighbourCounts t q.lo j l
    C = K.counted

    pub count_below : j < length d
    count_below = let a = Sp.within in omega arith

    lead_of : {y : Bool} → y ≡ leads_by scratch (length d) q.lo j → leads t q.lo j ≡ y
    lead_of h = sym (lead_test t q.lo j (R.adjacency.pairs j count_below) h)

    pub count_place : EarlierStands scratch (length d) j
    count_place =
        record {
          most = R.sound.most;
          row = count_below;
          place = let a = R.adjacency.long in let b = count_below in omega arith;
        }

    small_count : (u : ℕ) → u < 4096 → get_or l u 0 ≤ 16384
    small_count u k =
        let a = C.rows u k in let b = count_le (counts_for j u) (length d) in let c = R.sound.most in omega arith

    pub count_first : {a m : ℕ} → a ≡ get_or f j 0 → m ≡ get_or l a 0 → (a < length l) × (m ≤ 16384)
    count_first {a} {m} ea em = let k = first_small R.sound count_below ea in let n = C.long in
        (omega arith, subst (λ (c : ℕ). c ≤ 16384) (sym em) (small_count a k))

    pub count_second : {l₁ : List ℕ} {a b m n : ℕ} → a ≡ get_or f j 0 → b ≡ get_or s j 0 → m ≡ get_or l a 0
        → l₁ ≡ set l a (m + 1) → n ≡ get_or l₁ b 0
        → (b < length l₁) × (n ≤ 16384)
    count_second {l₁} {a} {b} {m} {n} ea eb em e₁ en =
        let k = second_small R.sound count_below eb in
        let x : length l₁ ≡ length l = ap length e₁ ∙ length-set l a (m + 1) in
        let o = C.long in
        let y : n ≡ get_or l b 0 = en
        ∙ (ap (λ (c : List ℕ). get_or c b 0) e₁
        ∙ get_or-set_other l a b (m + 1) 0 (λ z. let g = (R.sound.rows j count_below).accounts in omega arith)) in
        (omega arith, subst (λ (c : ℕ). c ≤ 16384) (sym y) (small_count b k))

    pub count_skip : {y : Bool} → y ≡ leads_by scratch (length d) q.lo j → y ≡ false
        → Counting d f s q (j + 1) end l₀ l
    count_skip h n =
        record {
          lengths = K.lengths;
          most = omega arith;
          counted =
              record { long = C.long; rows = λ u k. C.rows u k ∙ sym (counts_still j u (◌⊎◌.inl (lead_of h ∙ n))) };
        }

    pub count_row : {y : Bool} → y ≡ leads_by scratch (length d) q.lo j → y ≡ true → {l₁ l₂ : List ℕ} {a b m n : ℕ}
        → a ≡ get_or f j 0 → b ≡ get_or s j 0 → m ≡ get_or l a 0 → l₁ ≡ set l a (m + 1) → n ≡ get_or l₁ b 0
        → l₂ ≡ set l₁ b (n + 1) → Counting d f s q (j + 1) end l₀ l₂
    unfolding first_of second_of at
    count_row h y {l₁} {l₂} {a} {b} {m} {n} ea eb em e₁ en e₂ =
        record {
          lengths = same ∙ K.lengths;
          most = omega arith;
          counted =
              record {
                long = same ∙ C.long;
                rows = λ u k.
                    ⊎_elim (λ z. at_b u k z) (λ z. ⊎_elim (λ g. at_a u k g z) (λ g. elsewhere u k g z) (same_or u a))
                    (same_or u b);
              };
        }
      where
        same : length l₂ ≡ length l
        same = ap length e₂ ∙ (length-set l₁ b (n + 1) ∙ (ap length e₁ ∙ length-set l a (m + 1)))

        fr : leads t q.lo j ≡ true
        fr = lead_of h ∙ y

        ab : a ≡ b → ⊥
        ab z = let g = (R.sound.rows j count_below).accounts in omega arith

        ta : touches t j a ≡ true
        ta = subst (λ (u : ℕ). touches t j u ≡ true) (sym ea) (touch_first t j)

        tb : touches t j b ≡ true
        tb = subst (λ (u : ℕ). touches t j u ≡ true) (sym eb) (touch_second t j)

        n_is : n ≡ get_or l b 0
        n_is = en ∙ (ap (λ (c : List ℕ). get_or c b 0) e₁ ∙ get_or-set_other l a b (m + 1) 0 (λ z. ab (sym z)))

        at_l : (u : ℕ) → get_or l₂ u 0 ≡ get_or (set (set l a (m + 1)) b (n + 1)) u 0
        at_l u = ap (λ (c : List ℕ). get_or c u 0) e₂ ∙ ap (λ (c : List ℕ). get_or (set c b (n + 1)) u 0) e₁

        at_b : (u : ℕ) → u < 4096 → u ≡ b → get_or l₂ u 0 ≡ count (counts_for (j + 1) u) (length d)
        at_b u k z =
            let x : get_or l₂ u 0 ≡ n + 1 = at_l u
            ∙ (ap (λ (c : ℕ). get_or (set (set l a (m + 1)) b (n + 1)) c 0) z
            ∙ get_or-set_same (set l a (m + 1)) b (n + 1) 0
            (let o = length-set l a (m + 1) in let g = C.long in omega arith)) in
            let r : count (counts_for (j + 1) u) (length d) ≡ suc (count (counts_for j u) (length d)) =
            counts_more j u count_below fr (subst (λ (c : ℕ). touches t j c ≡ true) (sym z) tb) in
            let c : get_or l u 0 ≡ count (counts_for j u) (length d) = C.rows u k in
            let g : get_or l b 0 ≡ get_or l u 0 = ap (λ (c : ℕ). get_or l c 0) (sym z) in
            let o = n_is in omega arith

        at_a : (u : ℕ) → u < 4096 → u ≡ a → (u ≡ b → ⊥) → get_or l₂ u 0 ≡ count (counts_for (j + 1) u) (length d)
        at_a u k z nb =
            let x : get_or l₂ u 0 ≡ m + 1 = at_l u
            ∙ (get_or-set_other (set l a (m + 1)) b u (n + 1) 0 nb
            ∙ (ap (λ (c : ℕ). get_or (set l a (m + 1)) c 0) z
            ∙ get_or-set_same l a (m + 1) 0 (let g = C.long in omega arith))) in
            let r : count (counts_for (j + 1) u) (length d) ≡ suc (count (counts_for j u) (length d)) =
            counts_more j u count_below fr (subst (λ (c : ℕ). touches t j c ≡ true) (sym z) ta) in
            let c : get_or l u 0 ≡ count (counts_for j u) (length d) = C.rows u k in
            let g : get_or l a 0 ≡ get_or l u 0 = ap (λ (c : ℕ). get_or l c 0) (sym z) in omega arith

        elsewhere : (u : ℕ) → u < 4096 → (u ≡ a → ⊥) → (u ≡ b → ⊥)
            → get_or l₂ u 0 ≡ count (counts_for (j + 1) u) (length d)
        elsewhere u k na nb =
            at_l u
            ∙ (get_or-set_other (set l a (m + 1)) b u (n + 1) 0 nb
            ∙ (get_or-set_other l a u (m + 1) 0 na
            ∙ (C.rows u k
            ∙ sym (counts_still j u
            (◌⊎◌.inr (⊎_elim
            (λ g. ⊎_elim (λ e. absurd (na (sym e ∙ sym ea))) (λ e. absurd (nb (sym e ∙ sym eb)))
            (touch_cases t j u g))
            (λ g. g)
            (true_or_false (touches t j u))))))))
