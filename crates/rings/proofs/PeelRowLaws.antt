-- Laws of peeling: a row leaves (src/peel.rt, `remove_row`).
--     stable_walked        who has not been removed has not been walked; where nobody waits, who was removed was
--     remove_row_row, remove_row_not_lead, remove_row_removed, remove_row_first_one, remove_row_second_one,
--     remove_row_both     the last row leaves
-- Assumes nothing.
use Prim.Native.Nat.{ℕ, suc, ◌≤◌, ◌<◌}
use native.Mathlib.Nat.{le_refl, le_trans, eq-or-lt_of_le, le_of_suc-le-suc}
use native.Mathlib.Omega.{arith}
use mathlib.Core.Path.{◌≡◌, refl, sym, ◌∙◌, ap, subst}
use mathlib.Core.Logic.{◌⊎◌, ⊎_elim}
use mathlib.Core.Bool.{Bool, true, false}
use mathlib.Core.List.{List}
use lib.ListN.{get_or}
use lib.Seq.{get_or-set_same}
use lib.Dec.{ltb, eqb}
use borrow.Author.Tests.{ltb-true, lt-ltb, eqb-true, eq-eqb}
use Rattle.rings.specs.Words.{◌and◌, ◌or◌}
use Rattle.rings.specs.Table.{Table, size, day_of, first_of, second_of}
use Rattle.rings.specs.Ring.{joins, touches}
use Rattle.rings.specs.Inner.Adjacency.{other_of, leads}
use Rattle.rings.specs.Inner.Peeling.{Droppable, DroppedNeighbour, Setting, Removed, Present, PeelState, nothing}
use Rattle.rings.specs.declared.Query.{Query}
use Rattle.rings.specs.declared.frame.Frame.{Frame}
use Rattle.rings.proofs.WordLaws.{true_or_false, clash, and_i, and_l, and_r, or_l, or_r, or_e, same_truth}
use Rattle.rings.proofs.WordLaws.{count_mono, count_same, same_or}
use Rattle.rings.proofs.RingLaws.{touch_cases, touch_first, touch_second}
use Rattle.rings.proofs.PairLaws.{other_first, other_second, joins_swap, joins_ends}
use Rattle.rings.proofs.PeelStateLaws.{removed_or_not, other_joins, touch_small, Pass, room}
use Rattle.rings.proofs.DropNeighbourLaws.{droppable, dropped_step}
use Rattle.rings.proofs.PeelAccountLaws.{not_walked}

module _ (t : Table) (frame : Frame) (S : Setting t frame.query frame.start frame.stop frame.lo) where
  abbrev q : Query
  q = frame.query

  abbrev s : ℕ
  s = frame.start

  abbrev hi : ℕ
  hi = frame.stop

  abbrev lo : ℕ
  lo = frame.lo

  -- ---- rows leave from the last on

  -- row j, for which no account that has not been removed counts any more, leaves
  pub remove_row_row : {e j head tail : ℕ} {passed : ℕ → ℕ → Bool} {x d w : List ℕ}
      (F : PeelState t frame 4096 e (suc j) head tail passed x d w)
      → e ≤ day_of t j
      → ((u : ℕ) → u < 4096 → get_or x u 0 ≡ 0 → F.live j u ≡ false) → ((i u : ℕ) → passed i u ≡ true → i ≡ j)
      → PeelState t frame 4096 e j head tail nothing x d w
  remove_row_row {e} {j} {head} {tail} {passed} {x} {d} {w} F day gone only =
      record {
        buffers = F.buffers;
        walked = F.walked;
        live = live';
        queue = F.queue;
        times = F.times;
        passed_why = λ i v k p. clash refl (sym p);
        left_why = λ i k l.
            ⊎_elim (λ y. ◌⊎◌.inl (subst (λ (a : ℕ). e ≤ day_of t a) y day)) (λ y. F.left_why i y l)
            (eq-or-lt_of_le k);
        rows = record {
          live_row = λ i v h. let a = F.rows.live_row i v (old i v h) in
              record {
                below = a.below;
                before = ltb-true i j (and_r (F.live i v) (ltb i j) h);
                is_lead = a.is_lead;
                touch = a.touch;
              };
          live_not = λ i v h. F.rows.live_not i v (old i v h);
          live_passed = λ i v h. refl;
          live_all = λ i v a c p. let b = a.before in
              and_i (F.rows.live_all i v
              (record { below = a.below; before = omega arith; is_lead = a.is_lead; touch = a.touch })
              c
              (⊎_elim (λ y. let o = only i v y in absurd (omega arith)) (λ y. y) (true_or_false (passed i v))))
              (lt-ltb i j b);
        };
        counts =
            record {
              degrees = λ u k g. F.counts.degrees u k g
                  ∙ count_same (λ i. F.live i u) (λ i. live' i u) (size t)
                  (λ i o. same_truth (F.live i u) (live' i u) (new u k g i) (old i u));
              enough = F.counts.enough;
              many = λ u k g.
                  le_trans (count_mono (λ i. live' i u) (λ i. F.live i u) (size t) (λ i o. old i u))
                  (F.counts.many u k g);
              few = F.counts.few;
            };
      }
    where
      live' : ℕ → ℕ → Bool
      live' i v = F.live i v and ltb i j

      old : (i v : ℕ) → live' i v ≡ true → F.live i v ≡ true
      old i v h = and_l (F.live i v) (ltb i j) h

      new : (u : ℕ) → u < 4096 → get_or x u 0 ≡ 0 → (i : ℕ) → F.live i u ≡ true → live' i u ≡ true
      new u k g i h =
          let b = (F.rows.live_row i u h).before in
          and_i h
          (lt-ltb i j
          (⊎_elim (λ y. clash (subst (λ (a : ℕ). F.live a u ≡ true) y h) (gone u k g)) (λ y. y)
          (eq-or-lt_of_le (le_of_suc-le-suc b))))

  -- nobody waits: who was removed was walked
  pub stable_walked : {b e r head : ℕ} {passed : ℕ → ℕ → Bool} {x d w : List ℕ}
      (F : PeelState t frame b e r head head passed x d w) (u : ℕ)
      → u < 4096
      → F.walked u ≡ false → get_or x u 0 ≡ 0
  stable_walked {x = x} F u k h =
      ⊎_elim (λ z. z)
      (λ f. let p = F.queue.waits u k f h in let a = p.from in let b = p.below in absurd (omega arith))
      (removed_or_not x u)

  -- a row that does not lead leaves and changes nothing
  pub remove_row_not_lead : {e j head : ℕ} {x d w : List ℕ}
      → PeelState t frame 4096 e (suc j) head head nothing x d w → e ≤ day_of t j → leads t lo j ≡ false
      → PeelState t frame 4096 e j head head nothing x d w
  remove_row_not_lead {j = j} F day f =
      remove_row_row F day
      (λ u k g. ⊎_elim (λ h. clash (F.rows.live_row j u h).is_lead f) (λ h. h) (true_or_false (F.live j u)))
      (λ i u p. clash p refl)

  -- and so does a row one account of which has been removed
  pub remove_row_removed : {e j head : ℕ} {x d w : List ℕ}
      → PeelState t frame 4096 e (suc j) head head nothing x d w → e ≤ day_of t j → j < size t → (a : ℕ)
      → touches t j a ≡ true → Removed x a → PeelState t frame 4096 e j head head nothing x d w
  remove_row_removed {e} {j} {head} {x} F day l a touch removed =
      remove_row_row F day
      (λ u k g. ⊎_elim
      (λ h. absurd (removed
      (stable_walked F a (touch_small t q s hi lo S j a l touch)
      (subst (λ (c : ℕ). F.walked c ≡ false) (other u k g h) (F.rows.live_not j u h)))))
      (λ h. h) (true_or_false (F.live j u))) (λ i u p. clash p refl)
    where
      -- an account that has not been removed is the other one
      other : (u : ℕ) → u < 4096 → get_or x u 0 ≡ 0 → F.live j u ≡ true → other_of t j u ≡ a
      other u k g h =
          let tu = (F.rows.live_row j u h).touch in
          ⊎_elim (λ y. absurd (removed (ap (λ (c : ℕ). get_or x c 0) (sym y) ∙ g)))
          (λ y. other_joins t q s hi lo S j u a l (two u tu y)) (same_or u a)
        where
          two : (u : ℕ) → touches t j u ≡ true → (u ≡ a → ⊥) → joins t j u a ≡ true
          two u tu n =
              ⊎_elim (λ y. ⊎_elim (λ z. absurd (n (sym y ∙ z)))
              (λ z. subst (λ (c : ℕ). joins t j c a ≡ true) y
              (subst (λ (c : ℕ). joins t j (first_of t j) c ≡ true) z (joins_ends t j)))
              (touch_cases t j a touch))
              (λ y. ⊎_elim (λ z. subst (λ (c : ℕ). joins t j c a ≡ true) y
              (subst (λ (c : ℕ). joins t j (second_of t j) c ≡ true) z
              (joins_swap t j (first_of t j) (second_of t j) (joins_ends t j))))
              (λ z. absurd (n (sym y ∙ z))) (touch_cases t j a touch)) (touch_cases t j u tu)

  -- a leading row both accounts of which have not been removed: first one, then the other loses a neighbour
  module _ {e j head : ℕ} {x d w : List ℕ} (F : PeelState t frame 4096 e (suc j) head head nothing x d w)
      (day : e ≤ day_of t j) (l : j < size t)
      (f : leads t lo j ≡ true)
      (za : get_or x (first_of t j) 0 ≡ 0) (zb : get_or x (second_of t j) 0 ≡ 0) where
    pair : ℕ → ℕ → ℕ → Bool
    pair v i u = eqb i j and eqb u v

    pair_e : (v i u : ℕ) → pair v i u ≡ true → (i ≡ j) × (u ≡ v)
    unfolding pair
    pair_e v i u h = (eqb-true i j (and_l (eqb i j) (eqb u v) h), eqb-true u v (and_r (eqb i j) (eqb u v) h))

    pair_here : (v : ℕ) → pair v j v ≡ true
    unfolding pair
    pair_here v = and_i (eq-eqb j j refl) (eq-eqb v v refl)

    first_pass : Pass nothing (pair (first_of t j)) j (first_of t j)
    first_pass =
        record {
          this = pair_here (first_of t j);
          rest = λ i u n.
              ⊎_elim (λ h. absurd (n (pair_e (first_of t j) i u h))) (λ h. h) (true_or_false (pair (first_of t j) i u));
        }

    both : ℕ → ℕ → Bool
    both i u = pair (first_of t j) i u or pair (second_of t j) i u

    second_pass : Pass (pair (first_of t j)) both j (second_of t j)
    unfolding both
    second_pass =
        record {
          this =
              or_r (pair (first_of t j) j (second_of t j)) (pair (second_of t j) j (second_of t j))
              (pair_here (second_of t j));
          rest =
              λ i u n. same_truth (both i u) (pair (first_of t j) i u)
              (λ h. ⊎_elim (λ y. y) (λ y. absurd (n (pair_e (second_of t j) i u y)))
              (or_e (pair (first_of t j) i u) (pair (second_of t j) i u) h))
              (λ h. or_l (pair (first_of t j) i u) (pair (second_of t j) i u) h);
        }

    here_row : (v : ℕ) → touches t j v ≡ true → Present t lo (suc j) j v
    here_row v h = record { below = l; before = le_refl (suc j); is_lead = f; touch = h }

    first_small : first_of t j < 4096
    first_small = touch_small t q s hi lo S j (first_of t j) l (touch_first t j)

    second_small : second_of t j < 4096
    second_small = touch_small t q s hi lo S j (second_of t j) l (touch_second t j)

    pub remove_row_first_one : Droppable q.k head (first_of t j) x d w
    remove_row_first_one =
        droppable t frame S F j (first_of t j) first_small (here_row (first_of t j) (touch_first t j))
        (not_walked t frame S F (other_of t j (first_of t j)) (ap (λ (c : ℕ). get_or x c 0) (other_first t j) ∙ zb))
        refl first_pass
        (◌⊎◌.inr day)

    after_first : {x₁ d₁ w₁ : List ℕ} {tail₁ : ℕ} → DroppedNeighbour q.k e head (first_of t j) x d w x₁ d₁ w₁ tail₁
        → PeelState t frame 4096 e (suc j) head tail₁ (pair (first_of t j)) x₁ d₁ w₁
    after_first L =
        dropped_step t frame S F j (first_of t j) first_small (here_row (first_of t j) (touch_first t j))
        (not_walked t frame S F (other_of t j (first_of t j)) (ap (λ (c : ℕ). get_or x c 0) (other_first t j) ∙ zb))
        refl first_pass
        (◌⊎◌.inr day) L

    -- the first account has not been walked after that either
    first_not : {x₁ d₁ w₁ : List ℕ} {tail₁ : ℕ} (L : DroppedNeighbour q.k e head (first_of t j) x d w x₁ d₁ w₁ tail₁)
        (G : PeelState t frame 4096 e (suc j) head tail₁ (pair (first_of t j)) x₁ d₁ w₁)
        → G.walked (first_of t j) ≡ false
    first_not (DroppedNeighbour.stays h ex ed ew et) G =
        not_walked t frame S G (first_of t j) (ap (λ (y : List ℕ). get_or y (first_of t j) 0) ex ∙ za)
    first_not {w₁ = w₁} (DroppedNeighbour.removes h ex ed ew et) G =
        subst (λ (c : ℕ). G.walked c ≡ false)
        (ap (λ (y : List ℕ). get_or y head 0) ew
        ∙ get_or-set_same w head (first_of t j) 0
        (let a : head
        < 4096 = subst (λ (c : ℕ). c < 4096) (sym F.queue.tail_is) (room x (first_of t j) first_small za) in
        let b = F.buffers.queue in
        omega arith))
        (G.queue.waiting_not head (le_refl head) (omega arith))

    second_other : {x₁ d₁ w₁ : List ℕ} {tail₁ : ℕ}
        (L : DroppedNeighbour q.k e head (first_of t j) x d w x₁ d₁ w₁ tail₁)
        (G : PeelState t frame 4096 e (suc j) head tail₁ (pair (first_of t j)) x₁ d₁ w₁)
        → G.walked (other_of t j (second_of t j)) ≡ false
    second_other L G = subst (λ (c : ℕ). G.walked c ≡ false) (sym (other_second t j (S.accounts j l))) (first_not L G)

    second_new : pair (first_of t j) j (second_of t j) ≡ false
    second_new =
        ⊎_elim
        (λ h. let y = (pair_e (first_of t j) j (second_of t j) h).1 in let a = S.accounts j l in absurd (omega arith))
        (λ h. h)
        (true_or_false (pair (first_of t j) j (second_of t j)))

    module _ {x₁ d₁ w₁ : List ℕ} {tail₁ : ℕ}
        (L : DroppedNeighbour q.k e head (first_of t j) x d w x₁ d₁ w₁ tail₁) where
      pub remove_row_second_one : Droppable q.k tail₁ (second_of t j) x₁ d₁ w₁
      remove_row_second_one =
          droppable t frame S (after_first L) j (second_of t j) second_small
          (here_row (second_of t j) (touch_second t j)) (second_other L (after_first L))
          second_new second_pass (◌⊎◌.inr day)

      pub remove_row_both : {x₂ d₂ w₂ : List ℕ} {tail₂ : ℕ}
          → DroppedNeighbour q.k e tail₁ (second_of t j) x₁ d₁ w₁ x₂ d₂ w₂ tail₂
          → PeelState t frame 4096 e j head tail₂ nothing x₂ d₂ w₂
      unfolding both
      remove_row_both {x₂} {d₂} {w₂} {tail₂} M =
          remove_row_row G day
          (λ u k g. ⊎_elim
          (λ h. clash (passed_here u (G.rows.live_row j u h).touch) (G.rows.live_passed j u h))
          (λ h. h) (true_or_false (G.live j u)))
          (λ i u h. ⊎_elim (λ y. (pair_e (first_of t j) i u y).0) (λ y. (pair_e (second_of t j) i u y).0)
          (or_e (pair (first_of t j) i u) (pair (second_of t j) i u) h))
        where
          G : PeelState t frame 4096 e (suc j) head tail₂ both x₂ d₂ w₂
          G =
              dropped_step t frame S (after_first L) j (second_of t j) second_small
              (here_row (second_of t j) (touch_second t j)) (second_other L (after_first L))
              second_new second_pass (◌⊎◌.inr day) M

          passed_here : (u : ℕ) → touches t j u ≡ true → both j u ≡ true
          passed_here u h =
              ⊎_elim (λ y. or_l (pair (first_of t j) j u) (pair (second_of t j) j u)
              (subst (λ (c : ℕ). pair (first_of t j) j c ≡ true) y (pair_here (first_of t j))))
              (λ y. or_r (pair (first_of t j) j u) (pair (second_of t j) j u)
              (subst (λ (c : ℕ). pair (second_of t j) j c ≡ true) y (pair_here (second_of t j))))
              (touch_cases t j u h)
