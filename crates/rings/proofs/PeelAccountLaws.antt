-- Laws of peeling: the rows of a removed account are walked (src/peel.rt, `remove_account`).
--     not_walked        who has not been removed has not been walked; where nobody waits, who was removed was
--     remove_account_start, remove_account_small, remove_account_to, next_small, remove_account_droppable,
--     remove_account_dropped, remove_account_skip, remove_account_end     the walk over the rows of an account that
--         was removed
-- Assumes nothing.
use Prim.Native.Nat.{ℕ, ◌+◌, ◌≤◌, ◌<◌}
use native.Mathlib.Nat.{le_refl, eq-or-lt_of_le, not-suc-le-zero}
use native.Mathlib.Omega.{arith}
use mathlib.Core.Path.{◌≡◌, refl, sym, ◌∙◌, ap, subst}
use mathlib.Core.Logic.{◌⊎◌, ⊎_elim}
use mathlib.Core.Bool.{Bool, true, false}
use mathlib.Core.List.{List}
use lib.ListN.{get_or}
use lib.Dec.{leb, ltb, eqb}
use borrow.Author.Tests.{leb-true, leb-false, ltb-true, lt-ltb, eqb-true, eq-eqb}
use Rattle.rings.specs.Words.{◌or◌}
use Rattle.rings.specs.Table.{Table, size, day_of}
use Rattle.rings.specs.Ring.{joins, touches}
use Rattle.rings.specs.Inner.Adjacency.{other_of, leads}
use Rattle.rings.specs.Inner.Peeling.{Droppable, DroppedNeighbour, Setting, Removed, Present, Place, PeelState}
use Rattle.rings.specs.Inner.Peeling.{nothing, passing, AccountRemoval}
use Rattle.rings.specs.declared.Query.{Query}
use Rattle.rings.specs.declared.frame.Frame.{Frame}
use Rattle.rings.proofs.WordLaws.{true_or_false, clash, and_i, and_l, and_r, or_l, or_r, or_e, same_truth}
use Rattle.rings.proofs.RingLaws.{joins_touch}
use Rattle.rings.proofs.PairLaws.{joins_other, joins_same, joins_swap}
use Rattle.rings.proofs.PeelStateLaws.{renamed, other_joins, Pass, other_small, grown, same_front}
use Rattle.rings.proofs.DropNeighbourLaws.{droppable, dropped_step}

module _ (t : Table) (frame : Frame) (S : Setting t frame.query frame.start frame.stop frame.lo) where
  abbrev q : Query
  q = frame.query

  abbrev s : ℕ
  s = frame.start

  abbrev hi : ℕ
  hi = frame.stop

  abbrev lo : ℕ
  lo = frame.lo

  -- who has not been removed has not been walked
  pub not_walked : {b e r head tail : ℕ} {passed : ℕ → ℕ → Bool} {x d w : List ℕ}
      (F : PeelState t frame b e r head tail passed x d w) (u : ℕ)
      → get_or x u 0 ≡ 0
      → F.walked u ≡ false
  not_walked F u z = ⊎_elim (λ y. absurd ((F.queue.walked_removed u y).1 z)) (λ y. y) (true_or_false (F.walked u))

  -- ---- the walk over the rows of an account that was removed

  passing_e : (u b j v : ℕ) → passing t u b j v ≡ true → (joins t j u v ≡ true) × (j < b)
  unfolding passing
  passing_e u b j v h = (and_l (joins t j u v) (ltb j b) h, ltb-true j b (and_r (joins t j u v) (ltb j b) h))

  passing_i : (u b j v : ℕ) → joins t j u v ≡ true → j < b → passing t u b j v ≡ true
  unfolding passing
  passing_i u b j v h l = and_i h (lt-ltb j b l)

  passing_same : (u b b' j v : ℕ) → (joins t j u v ≡ true → j < b → j < b')
      → (joins t j u v ≡ true → j < b' → j < b) → passing t u b' j v ≡ passing t u b j v
  passing_same u b b' j v f g =
      same_truth (passing t u b' j v) (passing t u b j v)
      (λ h. let p = passing_e u b' j v h in passing_i u b j v p.0 (g p.0 p.1))
      (λ h. let p = passing_e u b j v h in passing_i u b' j v p.0 (f p.0 p.1))

  pub remove_account_start : {e r head tail : ℕ} {x d w : List ℕ}
      → PeelState t frame 4096 e r head tail nothing x d w → head < tail
      → AccountRemoval t frame 0 e r head tail (get_or w head 0) x d w
  remove_account_start {e} {r} {head} {tail} {x} {d} {w} F l =
      record { state = renamed F none; front = l; at_front = refl }
    where
      none : (j v : ℕ) → passing t (get_or w head 0) 0 j v ≡ false
      none j v =
          ⊎_elim (λ h. absurd (not-suc-le-zero (passing_e (get_or w head 0) 0 j v h).1)) (λ h. h)
          (true_or_false (passing t (get_or w head 0) 0 j v))

  module _ {b e r head tail u : ℕ} {x d w : List ℕ} (W : AccountRemoval t frame b e r head tail u x d w) where
    pub remove_account_small : u < 4096
    remove_account_small =
        subst (λ (a : ℕ). a < 4096) W.at_front (W.state.queue.waiting_small head (le_refl head) W.front)

    remove_account_removed : Removed x u
    remove_account_removed =
        subst (Removed x) W.at_front (W.state.queue.waiting_removed head (le_refl head) W.front)

    remove_account_not : W.state.walked u ≡ false
    remove_account_not =
        subst (λ (a : ℕ). W.state.walked a ≡ false) W.at_front
        (W.state.queue.waiting_not head (le_refl head) W.front)

    -- rows of u that do not lead are passed over
    pub remove_account_to : (m : ℕ)
        → b ≤ m
        → ((i : ℕ) → b ≤ i → i < m → touches t i u ≡ true → leads t lo i ≡ false)
        → AccountRemoval t frame m e r head tail u x d w
    remove_account_to m low not_lead = record { state = passed W.state; front = W.front; at_front = W.at_front }
      where
        passed : PeelState t frame 4096 e r head tail (passing t u b) x d w
            → PeelState t frame 4096 e r head tail (passing t u m) x d w
        passed F =
            record {
              buffers = F.buffers;
              walked = F.walked;
              live = F.live;
              queue = F.queue;
              counts = F.counts;
              times = F.times;
              left_why = F.left_why;
              rows = record {
                live_row = F.rows.live_row;
                live_not = F.rows.live_not;
                live_passed = λ i v h. agree i v (F.rows.live_row i v h).is_lead ∙ F.rows.live_passed i v h;
                live_all = λ i v a c p. F.rows.live_all i v a c (sym (agree i v a.is_lead) ∙ p);
              };
              passed_why = λ i v k p.
                  let o = other_joins t q s hi lo S i v u k (joins_swap t i u v (passing_e u m i v p).0) in
                  ◌⊎◌.inl (subst (λ (a : ℕ). (a < 4096) × Removed x a) (sym o)
                  (remove_account_small, remove_account_removed));
            }
          where
            agree : (i v : ℕ) → leads t lo i ≡ true → passing t u m i v ≡ passing t u b i v
            agree i v g =
                passing_same u b m i v (λ h k. omega arith)
                (λ h k. ⊎_elim (λ z. clash g (not_lead i (leb-true b i z) k (joins_touch t i u v h).0))
                (λ z. leb-false b i z) (true_or_false (leb b i)))

    -- the next row of u is j
    module _ (j : ℕ) (low : b ≤ j) (l : j < size t) (touch : touches t j u ≡ true)
        (none : (i : ℕ) → b ≤ i → i < j → touches t i u ≡ false) where
      other_is : other_of t j (other_of t j u) ≡ u
      other_is =
          other_joins t q s hi lo S j (other_of t j u) u l
          (joins_swap t j u (other_of t j u) (joins_other t j u (S.accounts j l) touch))

      next_pass : Pass (passing t u b) (passing t u (j + 1)) j (other_of t j u)
      next_pass =
          record {
            this = passing_i u (j + 1) j (other_of t j u) (joins_other t j u (S.accounts j l) touch) (omega arith);
            rest =
                λ i v n. passing_same u b (j + 1) i v (λ h k. omega arith)
                (λ h k. ⊎_elim
                (λ y. absurd (n (
                  y,
                  sym (joins_same t j u (other_of t j u) v (joins_other t j u (S.accounts j l) touch)
                      (subst (λ (a : ℕ). joins t a u v ≡ true) y h)),
                )))
                (λ y. before i v h y) (eq-or-lt_of_le (omega arith)));
          }
        where
          before : (i v : ℕ) → joins t i u v ≡ true → i < j → i < b
          before i v h y =
              ⊎_elim (λ z. clash (joins_touch t i u v h).0 (none i (leb-true b i z) y)) (λ z. leb-false b i z)
              (true_or_false (leb b i))

      next_new : passing t u b j (other_of t j u) ≡ false
      next_new =
          ⊎_elim (λ h. let k = (passing_e u b j (other_of t j u) h).1 in absurd (omega arith)) (λ h. h)
          (true_or_false (passing t u b j (other_of t j u)))

      next_here : j < r → leads t lo j ≡ true → Present t lo r j (other_of t j u)
      next_here k f =
          record {
            below = l;
            before = k;
            is_lead = f;
            touch = (joins_touch t j u (other_of t j u) (joins_other t j u (S.accounts j l) touch)).1;
          }

      next_why : ((other_of t j (other_of t j u) < 4096) × Removed x (other_of t j (other_of t j u))) ⊎ (e ≤ day_of t j)
      next_why =
          ◌⊎◌.inl (subst (λ (a : ℕ). (a < 4096) × Removed x a) (sym other_is)
          (remove_account_small, remove_account_removed))

      next_not : W.state.walked (other_of t j (other_of t j u)) ≡ false
      next_not = subst (λ (a : ℕ). W.state.walked a ≡ false) (sym other_is) remove_account_not

      pub next_small : other_of t j u < 4096
      next_small = other_small t q s hi lo S j u l touch

      -- a leading row that has not left: its other account loses a neighbour
      pub remove_account_droppable : j < r → leads t lo j ≡ true → Droppable q.k tail (other_of t j u) x d w
      remove_account_droppable k f =
          droppable t frame S W.state j (other_of t j u) next_small
          (next_here k f) next_not next_new next_pass next_why

      pub remove_account_dropped : j < r
          → leads t lo j ≡ true
          → {x' d' w' : List ℕ} {tail' : ℕ}
          → DroppedNeighbour q.k e tail (other_of t j u) x d w x' d' w' tail'
          → AccountRemoval t frame (j + 1) e r head tail' u x' d' w'
      remove_account_dropped k f L =
          record {
            state =
                dropped_step t frame S W.state j (other_of t j u) next_small
                (next_here k f) next_not next_new next_pass next_why L;
            front = grown L W.front;
            at_front = same_front L W.front ∙ W.at_front;
          }

      -- a row that does not lead is passed over
      pub remove_account_skip : leads t lo j ≡ false → AccountRemoval t frame (j + 1) e r head tail u x d w
      remove_account_skip f =
          remove_account_to (j + 1) (omega arith)
          (λ i a k h. ⊎_elim (λ y. subst (λ (c : ℕ). leads t lo c ≡ false) (sym y) f) (λ y. clash h (none i a y))
          (eq-or-lt_of_le (omega arith)))

    -- the walk ends where no row of u from b on is below r
    pub remove_account_end : ((i : ℕ) → b ≤ i → i < r → i < size t → touches t i u ≡ false)
        → PeelState t frame 4096 e r (head + 1) tail nothing x d w
    remove_account_end none =
        record {
          buffers = F.buffers;
          walked = walked';
          live = F.live;
          counts = F.counts;
          times = F.times;
          left_why = F.left_why;
          passed_why = λ i v k p. clash refl (sym p);
          rows = record {
            live_row = F.rows.live_row;
            live_not = λ i v h.
                off (F.rows.live_not i v h)
                (λ y. clash (all_passed i v (F.rows.live_row i v h) y) (F.rows.live_passed i v h));
            live_passed = λ i v h. refl;
            live_all =
                λ i v a c p. F.rows.live_all i v a (left c)
                (⊎_elim
                (λ h. absurd
                (right c
                (other_joins t q s hi lo S i v u a.below (joins_swap t i u v (passing_e u b i v h).0))))
                (λ h. h)
                (true_or_false (passing t u b i v)));
          };
          queue = record {
            walked_removed =
                λ a h.
                ⊎_elim (λ y. F.queue.walked_removed a y)
                (λ y. subst (λ (c : ℕ). (c < 4096) × Removed x c) (sym (eqb-true a u y))
                (remove_account_small, remove_account_removed))
                (or_e (F.walked a) (eqb a u) h);
            waits = λ a k f h. let p = F.queue.waits a k f (left h) in
                record { place = p.place; from = not_head a (right h) p; below = p.below; is = p.is };
            waiting_small = λ i a c. F.queue.waiting_small i (omega arith) c;
            waiting_removed = λ i a c. F.queue.waiting_removed i (omega arith) c;
            waiting_not =
                λ i a c.
                off (F.queue.waiting_not i (omega arith) c)
                (λ y. F.queue.apart head i (le_refl head) (omega arith) c (W.at_front ∙ sym y));
            apart = λ i i' a o c. F.queue.apart i i' (omega arith) o c;
            in_order = let o = W.front in omega arith;
            tail_is = F.queue.tail_is;
          };
        }
      where
        F : PeelState t frame 4096 e r head tail (passing t u b) x d w
        F = W.state

        walked' : ℕ → Bool
        walked' a = F.walked a or eqb a u

        off : {a : ℕ} → F.walked a ≡ false → (a ≡ u → ⊥) → walked' a ≡ false
        off {a} h n =
            ⊎_elim
            (λ y. ⊎_elim (λ z. clash z h) (λ z. absurd (n (eqb-true a u z))) (or_e (F.walked a) (eqb a u) y))
            (λ y. y) (true_or_false (walked' a))

        left : {a : ℕ} → walked' a ≡ false → F.walked a ≡ false
        left {a} h = ⊎_elim (λ y. clash (or_l (F.walked a) (eqb a u) y) h) (λ y. y) (true_or_false (F.walked a))

        right : {a : ℕ} → walked' a ≡ false → a ≡ u → ⊥
        right {a} h y = clash (or_r (F.walked a) (eqb a u) (eq-eqb a u y)) h

        all_passed : (i v : ℕ) → Present t lo r i v → other_of t i v ≡ u → passing t u b i v ≡ true
        all_passed i v a y =
            let jn : joins t i u v ≡ true =
            joins_swap t i v u
            (subst (λ (c : ℕ). joins t i v c ≡ true) y
            (joins_other t i v (S.accounts i a.below) a.touch)) in
            passing_i u b i v jn
            (⊎_elim
            (λ z. clash (joins_touch t i u v jn).0 (none i (leb-true b i z) a.before a.below))
            (λ z. leb-false b i z) (true_or_false (leb b i)))

        not_head : (a : ℕ) → (a ≡ u → ⊥) → (p : Place w head tail a) → head + 1 ≤ p.place
        not_head a n p =
            ⊎_elim (λ y. absurd (n (sym p.is ∙ (ap (λ (c : ℕ). get_or w c 0) (sym y) ∙ W.at_front))))
            (λ y. omega arith)
            (eq-or-lt_of_le p.from)
