-- Why settling is right (src/settle.rt), from the scans (ScanLaws) and the dropped supporters (SupporterLaws).
--     rise_lower, rise_own, rise_other, rise_keeps     u rises: no time passes the core times, u keeps its
--                                                      supporters, another loses u at most
--     account_same, account_rise                       one account settles
--     count_split     a count, in two parts
-- Assumes nothing.
use Prim.Native.Nat.{ℕ, zero, suc, ◌+◌, ◌-◌, ◌≤◌, ◌<◌}
use native.Mathlib.Nat.{le_refl, eq-or-lt_of_le}
use native.Mathlib.Omega.{arith}
use mathlib.Core.Path.{◌≡◌, sym, ◌∙◌, ap, subst}
use mathlib.Core.Logic.{◌⊎◌, ⊎_elim}
use mathlib.Core.Bool.{Bool, true, false}
use mathlib.Core.List.{List}
use lib.ListN.{length, get_or, set, length-set}
use lib.Seq.{get_or-set_same, get_or-set_other, set-get_or}
use lib.Dec.{leb}
use borrow.Author.Tests.{leb-true, leb-false}
use Rattle.rings.specs.Words.{count}
use Rattle.rings.specs.Table.{Table, size, first_of, second_of}
use Rattle.rings.specs.Ring.{joins, names, touches}
use Rattle.rings.specs.CoreTimes.{never}
use Rattle.rings.specs.Inner.Adjacency.{other_of, leads}
use Rattle.rings.specs.Inner.Support.{supports, supporters}
use Rattle.rings.specs.Inner.Peeling.{Setting, estimate, Place}
use Rattle.rings.specs.Inner.Settling.{Days, Settling, Least, DayFound, DroppedSupported, Queued, Waiting}
use Rattle.rings.specs.Inner.Settling.{Raised, Rising}
use Rattle.rings.specs.declared.Query.{Query}
use Rattle.rings.proofs.WordLaws.{true_or_false, clash, count_mono, suc_if_yes, suc_if_no, same_or}
use Rattle.rings.proofs.RingLaws.{joins_touch, joins_cases}
use Rattle.rings.proofs.PairLaws.{joins_other, joins_same, joins_swap}
use Rattle.rings.proofs.LeadLaws.{open_lead}
use Rattle.rings.proofs.FixpointLaws.{supports_e, supports_i, Lower, enough}
use Rattle.rings.proofs.PeelStateLaws.{estimate_at}
use Rattle.rings.proofs.SupporterLaws.{at_place, in_list}

-- ---- counts

-- one place apart, p holds only where r does
count_except : (p r : ℕ → Bool) (n u : ℕ) → ((i : ℕ) → i < n → (i ≡ u → ⊥) → p i ≡ true → r i ≡ true)
    → count p n ≤ count r n + 1
unfolding count
count_except p r zero u h = omega arith
count_except p r (suc n) u h =
    let before = count_except p r n u (λ i l. h i (omega (arith, l))) in
    ⊎_elim (λ y. let a = suc_if_yes (count p n) y in
    ⊎_elim (λ z. let b = suc_if_yes (count r n) z in omega arith)
    (λ z. let b = suc_if_no (count r n) z in
    ⊎_elim
    (λ e. let m = count_mono p r n (λ i l. h i (omega (arith, l)) (λ o. omega (arith, l, o, e))) in omega arith)
    (λ k. clash (h n (le_refl (suc n)) k y) z) (same_or n u))
    (true_or_false (r n)))
    (λ y. let a = suc_if_no (count p n) y in
    ⊎_elim (λ z. let b = suc_if_yes (count r n) z in omega arith)
    (λ z. let b = suc_if_no (count r n) z in omega arith) (true_or_false (r n)))
    (true_or_false (p n))

-- from m on, p holds only where r does
pub count_split : (p r : ℕ → Bool) (m n : ℕ) → m ≤ n → ((i : ℕ) → m ≤ i → i < n → p i ≡ true → r i ≡ true)
    → count p n ≤ count p m + count r n
unfolding count
count_split p r m zero l h =
    let e : m ≡ 0 = omega arith in subst (λ (a : ℕ). 0 ≤ count p a + count r 0) (sym e) (omega arith)
count_split p r m (suc n) l h =
    ⊎_elim (λ e. subst (λ (a : ℕ). count p (suc n) ≤ count p a + count r (suc n)) (sym e) (omega arith))
    (λ k. let o = count_split p r m n (omega arith) (λ i a b. h i a (omega arith)) in
    ⊎_elim (λ y. let a = suc_if_yes (count p n) y in
    let b = suc_if_yes (count r n) (h n (omega arith) (le_refl (suc n)) y) in omega arith)
    (λ y. let a = suc_if_no (count p n) y in
    ⊎_elim (λ z. let b = suc_if_yes (count r n) z in omega arith)
    (λ z. let b = suc_if_no (count r n) z in omega arith) (true_or_false (r n)))
    (true_or_false (p n)))
    (eq-or-lt_of_le l)

-- ---- a rise

module _ (t : Table) (q : Query) (s hi : ℕ) (x x' : ℕ → ℕ) (u y : ℕ) (now : x' u ≡ y)
    (else : (v : ℕ) → (v ≡ u → ⊥) → x' v ≡ x v) (L : Least t x s q.k hi (x u) u y) where
  rise_lower : Lower t q hi s x → Lower t q hi s x'
  rise_lower low =
      record {
        under = λ v c l h m.
            ⊎_elim (λ e.
            let a : x u ≤ c = subst (λ (w : ℕ). x w ≤ c) e (low.under v c l h m) in
            let b = enough t q hi s x low v c l h m in
            let b' : q.k ≤ supporters t x s c u = subst (λ (w : ℕ). q.k ≤ supporters t x s c w) e b in
            let g : y ≤ c = ⊎_elim (λ z. leb-true y c z)
            (λ z. let f = L.fewer c a (leb-false y c z) h in absurd (omega arith))
            (true_or_false (leb y c)) in
            subst (λ (w : ℕ). x' w ≤ c) (sym e) (subst (λ (w : ℕ). w ≤ c) (sym now) g))
            (λ n. subst (λ (w : ℕ). w ≤ c) (sym (else v n)) (low.under v c l h m)) (same_or v u);
      }

  rise_own : ((j : ℕ) → j < size t → first_of t j < second_of t j) → (c : ℕ)
      → supporters t x s c u ≤ supporters t x' s c u
  unfolding supporters
  rise_own accounts c =
      count_mono (supports t x s c u) (supports t x' s c u) (names t)
      (λ v l h. let b = supports_e t x s c u v h in
      supports_i t x' s c u v
      (record {
        row = b.row;
        below = b.below;
        join = b.join;
        opens = b.opens;
        other = subst (λ (a : ℕ). a ≤ c) (sym (else v (apart v b.row b.below b.join))) b.other;
      }))
    where
      apart : (v j : ℕ) → j < size t → joins t j u v ≡ true → v ≡ u → ⊥
      apart v j l h e =
          let a = accounts j l in
          ⊎_elim (λ c. let f = c.0 in let g = c.1 in omega arith) (λ c. let f = c.0 in let g = c.1 in omega arith)
          (joins_cases t j u v h)

  stays : (c w v : ℕ) → (v ≡ u → ⊥) → supports t x s c w v ≡ true → supports t x' s c w v ≡ true
  stays c w v n h =
      let b = supports_e t x s c w v h in
      supports_i t x' s c w v
      (record {
        row = b.row;
        below = b.below;
        join = b.join;
        opens = b.opens;
        other = subst (λ (a : ℕ). a ≤ c) (sym (else v n)) b.other;
      })

  -- another account loses u at most
  rise_other : (c w : ℕ) → supporters t x s c w ≤ supporters t x' s c w + 1
  unfolding supporters
  rise_other c w = count_except (supports t x s c w) (supports t x' s c w) (names t) u (λ v l n h. stays c w v n h)

  -- and not even u, if that was no supporter or is one still
  rise_keeps : (c w : ℕ) → (supports t x s c w u ≡ false) ⊎ (y ≤ c) → supporters t x s c w ≤ supporters t x' s c w
  unfolding supporters
  rise_keeps c w o =
      count_mono (supports t x s c w) (supports t x' s c w) (names t)
      (λ v l h. ⊎_elim (λ e. keeps v e h) (λ n. stays c w v n h) (same_or v u))
    where
      keeps : (v : ℕ) → v ≡ u → supports t x s c w v ≡ true → supports t x' s c w v ≡ true
      keeps v e h =
          ⊎_elim (λ f. clash (subst (λ (a : ℕ). supports t x s c w a ≡ true) e h) f)
          (λ k. let b = supports_e t x s c w v h in
          supports_i t x' s c w v
          (record {
            row = b.row;
            below = b.below;
            join = b.join;
            opens = b.opens;
            other = subst (λ (a : ℕ). x' a ≤ c) (sym e) (subst (λ (a : ℕ). a ≤ c) (sym now) k);
          }))
          o

-- ---- an account settles

module _ (t : Table) (q : Query) (s hi lo : ℕ) (S : Setting t q s hi lo) {xs sp : List ℕ}
    (Z : Settling t q hi s xs sp) {u y m : ℕ} (small : u < 4096)
    (K : DayFound t (estimate xs) s q.k hi (get_or xs u 0) u y m) where
  xs' : List ℕ
  xs' = set xs u y

  long' : length xs' ≡ 4096
  unfolding xs'
  long' = length-set xs u y ∙ Z.long

  now_is : estimate xs' u ≡ y
  unfolding xs'
  now_is = estimate_at xs' u long' small ∙ get_or-set_same xs u y 0 (let m = Z.long in omega arith)

  else_is : (v : ℕ) → (v ≡ u → ⊥) → estimate xs' v ≡ estimate xs v
  unfolding estimate xs'
  else_is v n = get_or-set_other xs u v y never n

  L : Least t (estimate xs) s q.k hi (estimate xs u) u y
  L = subst (λ (c : ℕ). Least t (estimate xs) s q.k hi c u y) (sym (estimate_at xs u Z.long small)) K.least

  days' : Days hi xs'
  unfolding xs'
  days' w l =
      ⊎_elim (λ e. subst (λ (c : ℕ). (c ≤ hi) ⊎ (c ≡ never))
      (sym (at_place (set xs u y) e ∙ get_or-set_same xs u y 0 (let m = Z.long in omega arith)))
      (⊎_elim ◌⊎◌.inr (λ k. ◌⊎◌.inl k.0) K.least.enough))
      (λ n. subst (λ (c : ℕ). (c ≤ hi) ⊎ (c ≡ never)) (sym (get_or-set_other xs u w y 0 n)) (Z.days w l)) (same_or w u)

  sp_here : get_or (set sp u m) u 0 ≡ m
  sp_here = get_or-set_same sp u m 0 (let n = Z.long_slack in omega arith)

  -- what an account has after the rise, of what it had: u has what the scan found
  own : (sp'' : List ℕ) → get_or sp'' u 0 ≤ m
      → (estimate xs' u ≡ never) ⊎ (q.k + get_or sp'' u 0 ≤ supporters t (estimate xs') s (estimate xs' u) u + 1)
  own sp'' h =
      ⊎_elim (λ e. ◌⊎◌.inl (now_is ∙ e))
      (λ k. let o = rise_own t q s hi (estimate xs) (estimate xs') u y now_is else_is L S.accounts y in
      let g : supporters t (estimate xs') s (estimate xs' u) u ≡ supporters t (estimate xs') s y u =
      ap (λ (c : ℕ). supporters t (estimate xs') s c u) now_is in
      ◌⊎◌.inr (omega arith))
      K.enough

  -- and another account has lost u at most, and one to spare for that
  other : (sp'' : List ℕ)
      → DroppedSupported t (estimate xs') lo u (size t) (estimate xs u) y (set sp u m) sp''
      → (w : ℕ) → w < 4096
      → (w ≡ u → ⊥)
      → 1 ≤ get_or sp'' w 0
      → (estimate xs' w ≡ never) ⊎ (q.k + get_or sp'' w 0 ≤ supporters t (estimate xs') s (estimate xs' w) w + 1)
  other sp'' O w l n some =
      let a : get_or (set sp u m) w 0 ≡ get_or sp w 0 = get_or-set_other sp u w m 0 n in
      let b = O.less w in
      ⊎_elim (λ e. ◌⊎◌.inl (else_is w n ∙ (estimate_at xs w Z.long l ∙ e)))
      (λ k. let c : get_or xs w 0 ≡ estimate xs w = sym (estimate_at xs w Z.long l) in
      let d : supporters t (estimate xs) s (get_or xs w 0) w ≡ supporters t (estimate xs) s (estimate xs w) w =
      ap (λ (i : ℕ). supporters t (estimate xs) s i w) c in
      let g : supporters t (estimate xs') s (estimate xs' w) w ≡ supporters t (estimate xs') s (estimate xs w) w =
      ap (λ (i : ℕ). supporters t (estimate xs') s i w) (else_is w n) in
      ◌⊎◌.inr (⊎_elim (λ v. ⊎_elim
      (λ z. let r = rise_keeps t q s hi (estimate xs) (estimate xs') u y now_is else_is L (estimate xs w) w
      (◌⊎◌.inr (leb-true y (estimate xs w) z)) in
      omega arith)
      (λ z.
      let r = rise_other t q s hi (estimate xs) (estimate xs') u y now_is else_is L (estimate xs w) w in
      let h = less w n v (leb-false y (estimate xs w) z) in
      omega arith)
      (true_or_false (leb y (estimate xs w))))
      (λ v. let r = rise_keeps t q s hi (estimate xs) (estimate xs') u y now_is else_is L (estimate xs w) w
      (◌⊎◌.inl v) in
      omega arith)
      (true_or_false (supports t (estimate xs) s (estimate xs w) w u))))
      (Z.enough w l (omega arith))
    where
      -- w had u for a supporter: the first row of their pair says so too
      less : (w : ℕ) → (w ≡ u → ⊥) → supports t (estimate xs) s (estimate xs w) w u ≡ true → estimate xs w < y
          → get_or sp'' w 0 ≤ get_or (set sp u m) w 0 - 1
      less w n v h =
          let b = supports_e t (estimate xs) s (estimate xs w) w u v in
          let f = open_lead t q s hi lo S b.row u w (estimate xs w) b.below
          (joins_swap t b.row w u b.join) b.opens in
          let below = f.below in
          let tu = (joins_touch t f.row u w f.join).0 in
          let e : other_of t f.row u ≡ w = joins_same t f.row u (other_of t f.row u) w
          (joins_other t f.row u (S.accounts f.row below) tu)
          f.join in
          let g : estimate xs' (other_of t f.row u) ≡ estimate xs w = ap (estimate xs') e ∙ else_is w n in
          let c = f.by in
          let o = b.other in
          let x₁ = at_place sp'' e in
          let x₂ = at_place (set sp u m) e in
          let z = O.dropped f.row below f.is_lead tu (omega arith) (omega arith) (omega arith) in omega arith

  settled : (sp'' : List ℕ) → DroppedSupported t (estimate xs') lo u (size t) (estimate xs u) y (set sp u m) sp''
      → Settling t q hi s xs' sp''
  settled sp'' O =
      record {
        long = long';
        long_slack = O.long;
        days = days';
        lower =
            (rise_lower t q s hi (estimate xs) (estimate xs') u y now_is else_is L
            (record { under = Z.lower })).under;
        enough = λ w l h.
            subst
            (λ (c : ℕ). (c ≡ never) ⊎ (q.k + get_or sp'' w 0 ≤ supporters t (estimate xs') s c w + 1))
            (estimate_at xs' w long' l)
            (⊎_elim
            (λ e. subst
            (λ (v : ℕ). (estimate xs' v ≡ never)
            ⊎ (q.k + get_or sp'' v 0 ≤ supporters t (estimate xs') s (estimate xs' v) v + 1))
            (sym e) (own sp'' (let a = O.less u in let b = sp_here in omega arith)))
            (λ n. other sp'' O w l n h) (same_or w u));
      }

  module _ {xs₀ ws : List ℕ} {head tail r : ℕ} (W : Waiting head tail sp ws) (front : get_or ws head 0 ≡ u)
      (B : r ≤ head) (I : Raised xs₀ xs ws r) (here : head < tail) (room : tail ≤ 4352) where
    -- who waits stands behind u
    behind : (w : ℕ) → w < 4096 → get_or (set sp u m) w 0 ≡ 0 → Place ws (head + 1) tail w
    behind w l z =
        ⊎_elim
        (λ e. let a = at_place (set sp u m) e in let b = sp_here in let c = K.known in absurd (omega arith))
        (λ n. go n (W.waits w l (sym (get_or-set_other sp u w m 0 n) ∙ z))) (same_or w u)
      where
        go : (w ≡ u → ⊥) → Place ws head tail w → Place ws (head + 1) tail w
        go n p =
            record {
              place = p.place;
              from =
                  ⊎_elim (λ e. absurd (n (sym p.is ∙ (at_place ws (sym e) ∙ front)))) (λ k. omega arith)
                  (eq-or-lt_of_le p.from);
              below = p.below;
              is = p.is;
            }

    pub account_same : y ≡ get_or xs u 0 → Rising t q hi s xs₀ xs (set sp u m) ws (head + 1) tail r
    unfolding xs'
    account_same e =
        record {
          settling =
              subst (λ (a : List ℕ). Settling t q hi s a (set sp u m)) same
              (settled (set sp u m)
              (record {
                long = length-set sp u m ∙ Z.long_slack;
                less = λ w. le_refl (get_or (set sp u m) w 0);
                dropped = λ j k f h a b c. absurd (never_less j k f h a c);
              }));
          waiting =
              record {
                long = W.long;
                ordered = omega arith;
                waits = behind;
                small = λ i a b. W.small i (omega arith) b;
              };
          behind = omega arith;
          raised = I;
        }
      where
        same : set xs u y ≡ xs
        same = ap (set xs u) e ∙ set-get_or xs u 0

        never_less : (j : ℕ)
            → j < size t
            → leads t lo j ≡ true
            → touches t j u ≡ true
            → estimate xs u ≤ estimate xs' (other_of t j u)
            → estimate xs' (other_of t j u) < y
            → ⊥
        never_less j k f h a c = let g = estimate_at xs u Z.long small in omega arith

    pub account_rise : {sp'' ws₁ ws'' : List ℕ} {end : ℕ}
        → ws₁ ≡ set ws r u
        → DroppedSupported t (estimate (set xs u y)) lo u (size t) (get_or xs u 0) y (set sp u m) sp''
        → Queued tail (set sp u m) ws₁ end sp'' ws''
        → end ≤ 4352
        → Rising t q hi s xs₀ (set xs u y) sp'' ws'' (head + 1) end (r + 1)
    unfolding xs'
    account_rise {sp''} {ws₁} {ws''} {end} ew O Q top =
        let up = Q.grows top in
        record {
          settling =
              settled sp''
              (subst
              (λ (c : ℕ). DroppedSupported t (estimate (set xs u y)) lo u (size t) c y (set sp u m) sp'')
              (sym (estimate_at xs u Z.long small)) O);
          waiting =
              record {
                long = Q.long;
                ordered = omega arith;
                waits = λ w l z.
                    ⊎_elim (λ o. moved (behind w l o))
                    (λ p. let a = p.from in
                    record { place = p.place; from = omega arith; below = p.below; is = p.is })
                    (Q.waits top w l z);
                small = λ i a b.
                    ⊎_elim (λ o. Q.small i (leb-true tail i o) b (omega arith))
                    (λ o. let c = leb-false tail i o in
                    subst (λ (n : ℕ). n < 4096) (sym (kept i c (omega arith))) (W.small i (omega arith) c))
                    (true_or_false (leb tail i));
              };
          behind = omega arith;
          raised =
              record {
                long = Q.long;
                within = omega arith;
                small = λ i a.
                    ⊎_elim (λ o. let b = at_place ws'' o in let c = mine in omega arith)
                    (λ o. let b = before i o in subst (λ (n : ℕ). n < 4096) (sym b) (I.small i o))
                    (eq-or-lt_of_le (omega arith));
                listed = λ w l d.
                    ⊎_elim
                    (λ o. record { place = r; from = omega arith; below = omega arith; is = mine ∙ sym o })
                    (λ o. later (I.listed w l (λ e. d (e ∙ sym (get_or-set_other xs u w y 0 o))))) (same_or w u);
              };
        }
      where
        kept : (i : ℕ) → i < tail → r < i → get_or ws'' i 0 ≡ get_or ws i 0
        kept i a b = Q.front i a (omega arith) ∙ (in_list i ew ∙ get_or-set_other ws r i u 0 (λ o. omega arith))

        before : (i : ℕ) → i < r → get_or ws'' i 0 ≡ get_or ws i 0
        before i a =
            Q.front i (omega arith) (omega arith) ∙ (in_list i ew ∙ get_or-set_other ws r i u 0 (λ o. omega arith))

        mine : get_or ws'' r 0 ≡ u
        mine =
            Q.front r (omega arith) (omega arith)
            ∙ (in_list r ew ∙ get_or-set_same ws r u 0 (let a = W.long in omega arith))

        moved : {w : ℕ} → Place ws (head + 1) tail w → Place ws'' (head + 1) end w
        moved p =
            let a = p.from in
            let b = p.below in
            let c = Q.grows top in
            record { place = p.place; from = a; below = omega arith; is = kept p.place b (omega arith) ∙ p.is }

        later : {w : ℕ} → Place ws 0 r w → Place ws'' 0 (r + 1) w
        later p =
            let b = p.below in
            record { place = p.place; from = p.from; below = omega arith; is = before p.place b ∙ p.is }
