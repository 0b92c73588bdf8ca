-- A forest of accounts, and the leaders that it stands for (src/forest.rt). p is the list of parents, g the leaders.
--     choose_yes, choose_no    the definition, by cases
--     joined_left, joined_right, joined_other, joined_least     two groups become one
--     forest_set, stands_set   one account gets another parent, of its own tree
--     stands_same              forests go by the values of g
--     planted, Planting, plant_start, plant_next, plant_end     every account is a root
--     Walk, walk_start, walk_step, walk_end     the walk to a root
--     points_set               an account gets its root for a parent
--     join_roots               the greater root goes under the lesser
--     joins_of                 so the two trees are one
--     Flat, flat_start, flat_next, flat_end                     every parent becomes its root
-- Assumes nothing.
use Prim.Native.Nat.{ℕ, min, max, ◌+◌, ◌≤◌, ◌<◌}
use native.Mathlib.Nat.{le_refl, not-suc-le-zero}
use native.Mathlib.Omega.{arith}
use mathlib.Core.Path.{◌≡◌, refl, sym, ◌∙◌, ap, subst}
use mathlib.Core.Logic.{◌⊎◌, ⊎_elim}
use mathlib.Core.Bool.{Bool, true, false}
use mathlib.Core.List.{List}
use lib.ListN.{length, get_or, set, length-set}
use lib.Seq.{get_or-set_same, get_or-set_other}
use lib.Dec.{eqb}
use borrow.Author.Tests.{eq-eqb, ne_eqb}
use Rattle.rings.specs.Words.{◌or◌}
use Rattle.rings.proofs.WordLaws.{same_or, or_l, or_r}
use Rattle.groups.specs.Groups.{choose, joined}
use Rattle.groups.specs.Inner.{Forest, Stands, Grown, Found, Points, Joins, Leaders, Flattens}

-- ---- two groups become one

pub choose_yes : {b : Bool} (x y : ℕ) → b ≡ true → choose b x y ≡ x
unfolding choose
choose_yes x y h = rw h

pub choose_no : {b : Bool} (x y : ℕ) → b ≡ false → choose b x y ≡ y
unfolding choose
choose_no x y h = rw h

or_no : {a b : Bool} → a ≡ false → b ≡ false → a or b ≡ false
unfolding ◌or◌
or_no p q = rw (p, q)

joined_at : (a b x : ℕ) → (eqb x a or eqb x b) ≡ true → joined a b x ≡ min a b
unfolding joined
joined_at a b x h = choose_yes (min a b) x h

pub joined_left : (a b : ℕ) → joined a b a ≡ min a b
joined_left a b = joined_at a b a (or_l (eqb a a) (eqb a b) (eq-eqb a a refl))

pub joined_right : (a b : ℕ) → joined a b b ≡ min a b
joined_right a b = joined_at a b b (or_r (eqb b a) (eqb b b) (eq-eqb b b refl))

pub joined_other : (a b x : ℕ) → (x ≡ a → ⊥) → (x ≡ b → ⊥) → joined a b x ≡ x
unfolding joined
joined_other a b x n m = choose_no (min a b) x (or_no (ne_eqb x a n) (ne_eqb x b m))

-- the smaller of the two is where both go, and it stays
pub joined_least : (a b : ℕ) → joined a b (min a b) ≡ min a b
joined_least a b =
    ⊎_elim (λ e. ap (joined a b) e ∙ joined_left a b) (λ e. ap (joined a b) e ∙ joined_right a b) (one a b)
  where
    one : (a b : ℕ) → (min a b ≡ a) ⊎ (min a b ≡ b)
    one a b =
        ⊎_elim (λ e. ◌⊎◌.inl e) (λ n. ◌⊎◌.inr (omega (arith, n))) (same_or (min a b) a)

-- ---- one account gets another parent

at_same : {p : List ℕ} (x r : ℕ) → Forest p → x < 4096 → get_or (set p x r) x 0 ≡ r
at_same {p} x r F l = get_or-set_same p x r 0 (let n = F.long in omega arith)

pub forest_set : {p : List ℕ} (x r : ℕ) → Forest p → x < 4096 → r ≤ x → Forest (set p x r)
forest_set {p} x r F l h =
    record {
      long = length-set p x r ∙ F.long;
      down = λ y k. ⊎_elim
          (λ (e : y ≡ x). let w = at_same x r F l in
          subst (λ (z : ℕ). get_or (set p x r) z 0 ≤ z) (sym e) (omega arith))
          (λ n. let w = get_or-set_other p x y r 0 n in let d = F.down y k in omega arith)
          (same_or y x);
    }

pub stands_set : {p : List ℕ} {g : ℕ → ℕ} (x r : ℕ) → Forest p → Stands p g → x < 4096 → g r ≡ g x
    → (r ≡ x → g x ≡ x)
    → Stands (set p x r) g
stands_set {p} {g} x r F S l h t =
    record {
      same = λ y k. ⊎_elim
          (λ (e : y ≡ x). subst (λ (z : ℕ). g (get_or (set p x r) z 0) ≡ g z) (sym e) (ap g (at_same x r F l) ∙ h))
          (λ n. ap g (get_or-set_other p x y r 0 n) ∙ S.same y k)
          (same_or y x);
      top = λ y k w. ⊎_elim
          (λ (e : y ≡ x). subst (λ (z : ℕ). g z ≡ z) (sym e)
          (t (sym (at_same x r F l) ∙ subst (λ (z : ℕ). get_or (set p x r) z 0 ≡ z) e w)))
          (λ n. S.top y k (sym (get_or-set_other p x y r 0 n) ∙ w))
          (same_or y x);
    }

pub stands_same : {p : List ℕ} {g g' : ℕ → ℕ} → ((u : ℕ) → g u ≡ g' u) → Stands p g → Stands p g'
stands_same {p} {g} {g'} e S =
    record {
      same = λ y k. sym (e (get_or p y 0)) ∙ (S.same y k ∙ e y);
      top = λ y k w. sym (e y) ∙ S.top y k w;
    }

-- ---- every account is a root

pub record Planting (x : ℕ) (p : List ℕ) : Type 0 where
  pub long : length p ≡ 4096
  pub each : (y : ℕ) → y < x → get_or p y 0 ≡ y

pub plant_start : {p : List ℕ} → length p ≡ 4096 → Planting 0 p
plant_start l = record { long = l; each = λ y h. absurd (not-suc-le-zero h) }

pub plant_next : {x : ℕ} {p : List ℕ} → Planting x p → x < 4096 → Planting (x + 1) (set p x x)
plant_next {x} {p} P l =
    record {
      long = length-set p x x ∙ P.long;
      each = λ y h. ⊎_elim
          (λ (e : y ≡ x). subst (λ (z : ℕ). get_or (set p x x) z 0 ≡ z) (sym e)
          (get_or-set_same p x x 0 (let n = P.long in omega arith)))
          (λ n. get_or-set_other p x y x 0 n ∙ P.each y (omega (arith, n)))
          (same_or y x);
    }

pub plant_end : {x : ℕ} {p : List ℕ} → Planting x p → 4096 ≤ x → Leaders p (λ u. u)
plant_end P h = record { long = P.long; each = λ y l. P.each y (omega arith) }

pub planted : {p : List ℕ} → Leaders p (λ u. u) → Grown p (λ u. u)
planted {p} L =
    record {
      forest = record { long = L.long; down = λ x l. let e = L.each x l in omega arith };
      stands = record { same = λ x l. L.each x l; top = λ x l e. refl };
    }

-- ---- the walk to a root

pub record Walk (p₀ p : List ℕ) (x y up next : ℕ) : Type 0 where
  pub forest : Forest p
  pub below : y ≤ x
  pub is_up : up ≡ get_or p y 0
  pub is_next : next ≡ get_or p up 0
  pub stands : (g : ℕ → ℕ) → Stands p₀ g → Stands p g
  pub leads : (g : ℕ → ℕ) → Stands p₀ g → g y ≡ g x

pub walk_start : {p : List ℕ} {x up next : ℕ} → Forest p → up ≡ get_or p x 0 → next ≡ get_or p up 0 → Walk p p x x up next
walk_start {p} {x} F e f =
    record {
      forest = F;
      below = le_refl x;
      is_up = e;
      is_next = f;
      stands = λ g S. S;
      leads = λ g S. refl;
    }

-- where the two lie
walk_order : {p₀ p : List ℕ} {x y up next : ℕ} → Walk p₀ p x y up next → x < 4096 → (up ≤ y) × (next ≤ up)
walk_order {p₀} {p} {x} {y} {up} {next} W l =
    let b = W.below in
    let e = W.is_up in
    let f = W.is_next in
    let h : up ≤ y = (let d = W.forest.down y (omega arith) in omega arith) in
    (h, (let d = W.forest.down up (omega arith) in omega arith))

walk_forest : {p₀ p : List ℕ} {x y up next : ℕ} → Walk p₀ p x y up next → x < 4096 → Forest (set p y next)
walk_forest {p₀} {p} {x} {y} {up} {next} W l =
    let o = walk_order W l in
    let a = o.0 in
    let b = o.1 in
    let c = W.below in
    forest_set y next W.forest (omega arith) (omega arith)

pub walk_step : {p₀ p : List ℕ} {x y up next up' next' : ℕ} → Walk p₀ p x y up next → x < 4096 → (next ≡ up → ⊥)
    → up' ≡ get_or (set p y next) next 0 → next' ≡ get_or (set p y next) up' 0
    → Walk p₀ (set p y next) x next up' next'
walk_step {p₀} {p} {x} {y} {up} {next} W l n e f =
    let o = walk_order W l in
    let a = o.0 in
    let b = o.1 in
    let c = W.below in
    record {
      forest = walk_forest W l;
      below = omega arith;
      is_up = e;
      is_next = f;
      stands = λ g S. stands_set y next W.forest (W.stands g S) (omega arith) (same g S)
          (λ e. (W.stands g S).top y (omega arith) (sym W.is_up ∙ (omega arith)));
      leads = λ g S. same g S ∙ W.leads g S;
    }
  where
    same : (g : ℕ → ℕ) → Stands p₀ g → g next ≡ g y
    same g S =
        let o = walk_order W l in
        let a = o.0 in
        let c = W.below in
        ap g W.is_next ∙ ((W.stands g S).same up (omega arith) ∙ (ap g W.is_up ∙ (W.stands g S).same y (omega
        arith)))

pub walk_end : {p₀ p : List ℕ} {x y up next : ℕ} → Walk p₀ p x y up next → x < 4096 → next ≡ up → Found p₀ p x up
walk_end {p₀} {p} {x} {y} {up} {next} W l e =
    let o = walk_order W l in
    let a = o.0 in
    let c = W.below in
    record {
      forest = W.forest;
      below = omega arith;
      stands = W.stands;
      leads = λ g S. sym (own g S) ∙ (ap g W.is_up ∙ ((W.stands g S).same y (omega arith) ∙ W.leads g S));
      own = own;
    }
  where
    own : (g : ℕ → ℕ) → Stands p₀ g → g up ≡ up
    own g S =
        let o = walk_order W l in
        let a = o.0 in
        let c = W.below in
        (W.stands g S).top up (omega arith) (sym W.is_next ∙ e)

-- ---- an account gets its root for a parent

pub points_set : {p : List ℕ} {x r : ℕ} → Forest p → x < 4096 → r ≤ x → Points p (set p x r) x r
points_set {p} {x} {r} F l h =
    record {
      forest = forest_set x r F l h;
      stands = λ g S a b. stands_set x r F S l (a ∙ sym b) (λ e. b ∙ e);
    }

-- ---- the greater root goes under the lesser

joined_root : (g : ℕ → ℕ) (x y : ℕ) → g x ≡ x → g y ≡ y → joined x y (g (min x y)) ≡ min x y
joined_root g x y ex ey =
    ap (joined x y)
    (⊎_elim (λ (e : min x y ≡ x). subst (λ (v : ℕ). g v ≡ v) (sym e) ex)
    (λ n. let e : min x y ≡ y = omega (arith, n) in subst (λ (v : ℕ). g v ≡ v) (sym e) ey)
    (same_or (min x y) x))
    ∙ joined_least x y

pub join_roots : {p : List ℕ} {g : ℕ → ℕ} (x y : ℕ) → Forest p → Stands p g → x < 4096 → y < 4096 → g x ≡ x → g y ≡ y
    → Stands (set p (max x y) (min x y)) (λ u. joined x y (g u))
join_roots {p} {g} x y F S l k ex ey =
    record {
      same = λ z h. ⊎_elim
          (λ (e : z ≡ max x y). subst (λ (w : ℕ). g' (get_or p' w 0) ≡ g' w) (sym e)
          (ap g' (at_same (max x y) (min x y) F (omega arith)) ∙ (low ∙ sym high)))
          (λ n. ap g' (get_or-set_other p (max x y) z (min x y) 0 n) ∙ ap (joined x y) (S.same z h))
          (same_or z (max x y));
      top = λ z h w. ⊎_elim
          (λ (e : z ≡ max x y).
          let q : get_or p' (max x y) 0 ≡ max x y = subst (λ (v : ℕ). get_or p' v 0 ≡ v) e w in
          let q' : min x y ≡ max x y = sym (at_same (max x y) (min x y) F (omega arith)) ∙ q in
          subst (λ (v : ℕ). g' v ≡ v) (sym e) (high ∙ q'))
          (λ n. root z n (S.top z h (sym (get_or-set_other p (max x y) z (min x y) 0 n) ∙ w)))
          (same_or z (max x y));
    }
  where
    g' : ℕ → ℕ
    g' u = joined x y (g u)

    p' : List ℕ
    p' = set p (max x y) (min x y)

    low : g' (min x y) ≡ min x y
    low = joined_root g x y ex ey

    high : g' (max x y) ≡ min x y
    high =
        ⊎_elim (λ (e : max x y ≡ x). subst (λ (v : ℕ). g' v ≡ min x y) (sym e) (ap (joined x y) ex ∙ joined_left x y))
        (λ n. let e : max x y ≡ y = omega (arith, n) in
        subst (λ (v : ℕ). g' v ≡ min x y) (sym e) (ap (joined x y) ey ∙ joined_right x y))
        (same_or (max x y) x)

    root : (z : ℕ) → (z ≡ max x y → ⊥) → g z ≡ z → g' z ≡ z
    root z n e =
        ap (joined x y) e
        ∙ ⊎_elim (λ (w : z ≡ min x y). subst (λ (v : ℕ). joined x y v ≡ v) (sym w) (joined_least x y))
        (λ m. joined_other x y z (λ w. ⊎_elim (λ (v : min x y ≡ x). m (w ∙ sym v)) (λ v. n (omega (arith, v)))
        (same_or (min x y) x))
        (λ w. ⊎_elim (λ (v : min x y ≡ y). m (w ∙ sym v)) (λ v. n (omega (arith, v))) (same_or (min x y) y)))
        (same_or z (min x y))

-- what two walks, the join of two roots and two pointings make of a forest
pub joins_of : {p p₁ p₂ p₃ p₄ : List ℕ} {a b x y r h : ℕ} → a < 4096 → b < 4096
    → Found p p₁ a x → Found p₁ p₂ b y → r ≡ min x y → h ≡ max x y
    → Points (set p₂ h r) p₃ a r → Points p₃ p₄ b r
    → Joins p p₄ a b
joins_of {p} {p₁} {p₂} {p₃} {p₄} {a} {b} {x} {y} {r} {h} l k A B er eh C D =
    record { forest = D.forest; stands = λ g S. stands_same (λ u. sym (names g S u)) (last g S) }
  where
    is_x : (g : ℕ → ℕ) → Stands p g → x ≡ g a
    is_x g S = A.leads g S

    is_y : (g : ℕ → ℕ) → Stands p g → y ≡ g b
    is_y g S = B.leads g (A.stands g S)

    names : (g : ℕ → ℕ) → Stands p g → (u : ℕ) → joined (g a) (g b) (g u) ≡ joined x y (g u)
    names g S u =
        ap (λ (v : ℕ). joined v (g b) (g u)) (sym (is_x g S)) ∙ ap (λ (v : ℕ). joined x v (g u)) (sym (is_y g S))

    own_x : (g : ℕ → ℕ) → Stands p g → g x ≡ x
    own_x g S = A.own g S

    own_y : (g : ℕ → ℕ) → Stands p g → g y ≡ y
    own_y g S = B.own g (A.stands g S)

    rooted : (g : ℕ → ℕ) → Stands p g → Stands (set p₂ h r) (λ u. joined x y (g u))
    rooted g S =
        subst (λ (w : ℕ). Stands (set p₂ w r) (λ u. joined x y (g u))) (sym eh)
        (subst (λ (w : ℕ). Stands (set p₂ (max x y) w) (λ u. joined x y (g u))) (sym er)
        (join_roots x y B.forest (B.stands g (A.stands g S)) (omega (arith, A.below)) (omega (
          arith,
          B.below,
        )) (own_x g S) (own_y g S)))

    at_root : (g : ℕ → ℕ) → Stands p g → joined x y (g r) ≡ r
    at_root g S = subst (λ (w : ℕ). joined x y (g w) ≡ w) (sym er) (joined_root g x y (own_x g S) (own_y g S))

    at_a : (g : ℕ → ℕ) → Stands p g → joined x y (g a) ≡ r
    at_a g S = ap (joined x y) (sym (is_x g S)) ∙ (joined_left x y ∙ sym er)

    at_b : (g : ℕ → ℕ) → Stands p g → joined x y (g b) ≡ r
    at_b g S = ap (joined x y) (sym (is_y g S)) ∙ (joined_right x y ∙ sym er)

    last : (g : ℕ → ℕ) → Stands p g → Stands p₄ (λ u. joined x y (g u))
    last g S =
        D.stands (λ u. joined x y (g u)) (C.stands (λ u. joined x y (g u)) (rooted g S) (at_root g S) (at_a g S))
        (at_root g S) (at_b g S)

-- ---- every parent becomes its root

pub record Flat (x : ℕ) (p₀ p : List ℕ) : Type 0 where
  pub forest : Forest p
  pub stands : (g : ℕ → ℕ) → Stands p₀ g → Stands p g
  pub each : (g : ℕ → ℕ) → Stands p₀ g → (y : ℕ) → y < x → get_or p y 0 ≡ g y

pub flat_start : {p : List ℕ} → Forest p → Flat 0 p p
flat_start F =
    record { forest = F; stands = λ g S. S; each = λ g S y h. absurd (not-suc-le-zero h) }

-- its parent lies below, and has its root already; or it is a root
pub flat_next : {x up r : ℕ} {p₀ p : List ℕ} → Flat x p₀ p → x < 4096 → up ≡ get_or p x 0 → r ≡ get_or p up 0
    → Flat (x + 1) p₀ (set p x r)
flat_next {x} {up} {r} {p₀} {p} A l eu er =
    record {
      forest = forest_set x r A.forest l low;
      stands = λ g S. stands_set x r A.forest (A.stands g S) l (same g S)
          (λ e. (A.stands g S).top x l (sym eu ∙ up_at e));
      each = λ g S y h. ⊎_elim
          (λ (e : y ≡ x). subst (λ (z : ℕ). get_or (set p x r) z 0 ≡ g z) (sym e) (at_same x r A.forest l ∙ is g S))
          (λ n. get_or-set_other p x y r 0 n ∙ A.each g S y (omega (arith, n)))
          (same_or y x);
    }
  where
    low_up : up ≤ x
    low_up = let d = A.forest.down x l in omega arith

    low : r ≤ x
    low = let a = low_up in let b = A.forest.down up (omega arith) in omega arith

    up_at : r ≡ x → up ≡ x
    up_at e = let a = low_up in let b = A.forest.down up (omega arith) in omega arith

    same : (g : ℕ → ℕ) → Stands p₀ g → g r ≡ g x
    same g S =
        let a = low_up in
        ap g er ∙ ((A.stands g S).same up (omega arith) ∙ (ap g eu ∙ (A.stands g S).same x l))

    is : (g : ℕ → ℕ) → Stands p₀ g → r ≡ g x
    is g S =
        ⊎_elim
        (λ (e : up ≡ x). er ∙ (ap (λ (z : ℕ). get_or p z 0) e ∙ (sym eu ∙ (e ∙ sym ((A.stands g S).top x l (sym eu ∙
        e))))))
        (λ n. let a = low_up in er ∙ (A.each g S up (omega (arith, n)) ∙ (ap g eu ∙ (A.stands g S).same x l)))
        (same_or up x)

pub flat_end : {x : ℕ} {p₀ p : List ℕ} → Flat x p₀ p → 4096 ≤ x → Flattens p₀ p
flat_end A h = record { leaders = λ g S. record { long = A.forest.long; each = λ y l. A.each g S y (omega arith) } }
