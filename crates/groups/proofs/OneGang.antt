-- 02, S-4, as theorems about the ring of a window of an accepted table, and the labels and groups of its rows.
--     Grouped                  what is stated, a field a sentence
--     grouped                  it holds
-- Assumes nothing.
use Prim.Native.Nat.{ℕ, ◌≤◌, ◌<◌}
use native.Mathlib.Nat.{zero-add, le_trans}
use native.Mathlib.Omega.{arith}
use mathlib.Core.Path.{◌≡◌, sym, ◌∙◌, ap, subst}
use mathlib.Core.Logic.{◌⊎◌, ⊎_elim}
use mathlib.Core.Bool.{Bool, true, false}
use mathlib.Core.List.{List}
use lib.ListN.{length, length-replicate}
use Rattle.rings.specs.Words.{at, marked}
use Rattle.rings.specs.Table.{Table, table_of, size, day_of, first_of, second_of}
use Rattle.rings.specs.Ring.{touches, met, neighbour, names, degree, Good, Within, IsRing, ring}
use Rattle.rings.specs.Sound.{Sound}
use Rattle.rings.specs.declared.Query.{Query}
use Rattle.rings.proofs.WordLaws.{same_marks, length_tabulate, get_d_tabulate, count_mono}
use Rattle.rings.proofs.RingLaws.{Inside, window_e, window_i}
use Rattle.rings.proofs.RingLaws.{ring_within, ring_good, ring_only}
use Rattle.rings.proofs.RingLaws.{met_i, met_e, met_mono, neighbour_i}
use Rattle.rings.proofs.RingLaws.{neighbour_e, joins_touch, touch_first, touch_second}
use Rattle.rings.proofs.PartLaws.{copy_good}
use Rattle.groups.specs.Groups.{Connected, Reaches, IsLabel, RowsConnected, choose, none}
use Rattle.groups.specs.Groups.{leader, labels_of, group, picked, alone}
use Rattle.groups.specs.Groups.Connected.{itself, through}
use Rattle.groups.proofs.ForestLaws.{choose_yes, choose_no}
use Rattle.groups.proofs.ConnectedLaws.{Proper, connected_trans, connected_symm, row_linked}
use Rattle.groups.proofs.ConnectedLaws.{leader_connected, leader_same, leader_least, row_leader}
use Rattle.groups.proofs.ConnectedLaws.{label_is, group_e, group_i}
use Rattle.groups.proofs.AloneLaws.{all, all_i, all_below, place, d_at, alone_copies, copies_alone, alone_sound}

touch_i : (t : Table) {u : ℕ} (j : ℕ) → (first_of t j ≡ u) ⊎ (second_of t j ≡ u) → touches t j u ≡ true
touch_i t {u} j h =
    ⊎_elim (λ e. subst (λ (x : ℕ). touches t j x ≡ true) e (touch_first t j))
    (λ e. subst (λ (x : ℕ). touches t j x ≡ true) e (touch_second t j)) h

-- t is an accepted table, m the ring of its window [s, e]
pub record Grouped (t : Table) (q : Query) (s e : ℕ) (m : List Bool) : Type 0 where
  -- "Label each row of a window's ring with the smallest account connected to it through ring rows"
  pub label : (j : ℕ) → marked m j ≡ true → IsLabel t m j (at (labels_of t m) j)
  -- "and rows outside with 65,535"
  pub outside : (j : ℕ) → j < size t → marked m j ≡ false → at (labels_of t m) j ≡ 65535
  -- two rows of the ring have one label exactly if they are connected
  pub one_label : (i j : ℕ) → marked m i ≡ true → marked m j ≡ true → RowsConnected t m i j
      → at (labels_of t m) i ≡ at (labels_of t m) j
  pub connected : (i j : ℕ) → marked m i ≡ true → marked m j ≡ true → at (labels_of t m) i ≡ at (labels_of t m) j
      → RowsConnected t m i j
  -- a row is in the group of an account exactly if it is a row of the ring that is connected with the account
  pub member : (a j : ℕ) → marked (group t m a) j ≡ true → (marked m j ≡ true) × Reaches t m j a
  pub members : (a j : ℕ) → marked m j ≡ true → Reaches t m j a → marked (group t m a) j ≡ true
  -- "the groups together are the whole ring": a row of the ring is in the group of its label, and a group has
  -- no other rows
  pub together : (j : ℕ) → marked m j ≡ true → marked (group t m (at (labels_of t m) j)) j ≡ true
  pub within : (a : ℕ) → Within (group t m a) m
  -- no two groups share a row
  pub apart : (a b j : ℕ) → marked (group t m a) j ≡ true → marked (group t m b) j ≡ true → group t m a ≡ group t m b
  -- a label is an account of its own group, and the smallest
  pub own_account : (j : ℕ) → marked m j ≡ true → met t (group t m (at (labels_of t m) j)) (at (labels_of t m) j) ≡ true
  pub smallest : (j a : ℕ) → marked m j ≡ true → met t (group t m (at (labels_of t m) j)) a ≡ true → at (labels_of t
      m) j ≤ a
  -- "Each group taken as a table of its own has itself as its ring for that window"
  pub itself : (a : ℕ) → ring (alone t (group t m a)) q s e ≡ all (alone t (group t m a))
  -- and is a table that is accepted
  pub accepted : (a : ℕ) → Sound (alone t (group t m a)).days (alone t (group t m a)).first (alone t (group t m
      a)).second

module _ {d f g : List ℕ} (S : Sound d f g) (q : Query) (s e : ℕ) where
  abbrev t : Table
  t = table_of d f g

  abbrev m : List Bool
  m = ring t q s e

  proper : Proper t m
  unfolding first_of second_of at
  proper =
      record {
        in_table = λ j h. (window_e t s e j ((ring_within t q s e).all j h)).row;
        apart = λ j h. (S.rows j (window_e t s e j ((ring_within t q s e).all j h)).row).accounts;
      }

  -- the label of a row of the ring
  label_at : (j : ℕ) → marked m j ≡ true → at (labels_of t m) j ≡ leader t m (size t) (first_of t j)
  unfolding labels_of at
  label_at j h =
      get_d_tabulate (λ j. choose (marked m j) (leader t m (size t) (first_of t j)) none) 0 (size t) j 0 (proper.in_table j h)
      ∙ (ap (λ (i : ℕ). choose (marked m i) (leader t m (size t) (first_of t i)) none) (zero-add j)
      ∙ choose_yes (leader t m (size t) (first_of t j)) none h)

  no_label : (j : ℕ) → j < size t → marked m j ≡ false → at (labels_of t m) j ≡ 65535
  unfolding labels_of at
  no_label j l h =
      get_d_tabulate (λ j. choose (marked m j) (leader t m (size t) (first_of t j)) none) 0 (size t) j 0 l
      ∙ (ap (λ (i : ℕ). choose (marked m i) (leader t m (size t) (first_of t i)) none) (zero-add j)
      ∙ choose_no (leader t m (size t) (first_of t j)) none h)

  -- from the first account of a row to its label
  to_label : (j : ℕ) → marked m j ≡ true → Connected t m (first_of t j) (at (labels_of t m) j)
  to_label j h =
      subst (λ (l : ℕ). Connected t m (first_of t j) l) (sym (label_at j h))
      (connected_symm t m (leader_connected t m proper (size t) (first_of t j)))

  in_own : (j : ℕ) → marked m j ≡ true → marked (group t m (at (labels_of t m) j)) j ≡ true
  in_own j h =
      group_i t m proper (at (labels_of t m) j) j h
      (record { account = first_of t j; has = touch_first t j; connected = to_label j h })

  -- an account met in a group is connected with it
  met_connected : (a u : ℕ) → met t (group t m a) u ≡ true → Connected t m u a
  met_connected a u h =
      let w = met_e t (group t m a) u h in
      let x = group_e t m proper a w.row w.has in
      connected_trans t m (row_linked t m proper w.row u x.1.account x.0 w.touch x.1.has) x.1.connected

  group_within : (a : ℕ) → Within (group t m a) m
  group_within a = record { all = λ j h. (group_e t m proper a j h).0 }

  group_sized : (a : ℕ) → length (group t m a) ≡ size t
  unfolding group
  group_sized a = length_tabulate _ 0 (size t)

  -- every row of the ring at an account of the group is in the group
  kept : (a u j : ℕ) → met t (group t m a) u ≡ true → marked m j ≡ true → touches t j u ≡ true → marked (group t m
      a) j ≡ true
  kept a u j h k w = group_i t m proper a j k (record { account = u; has = w; connected = met_connected a u h })

  group_good : (a : ℕ) → Good t q (group t m a)
  unfolding degree
  group_good a =
      record {
        neighbours = λ u h.
            le_trans ((ring_good t q s e).neighbours u (met_mono t u (group_within a) h))
            (count_mono (neighbour t m u) (neighbour t (group t m a) u) (names t)
            (λ v l k. let w = neighbour_e t m u v k in
            neighbour_i t (group t m a) w.row u v w.below
            (kept a u w.row h w.has (joins_touch t w.row u v w.join).0) w.join));
      }

  -- and so is every account that is connected with one
  met_on : (a : ℕ) {u v : ℕ} → Connected t m u v → met t (group t m a) u ≡ true → met t (group t m a) v ≡ true
  met_on a itself h = h
  met_on a (through C R) h =
      met_i t (group t m a) R.row _ R.in_table
      (kept a _ R.row (met_on a C h) R.in_set (touch_i t R.row R.has_u)) (touch_i t R.row R.has_v)

  label_met : (j : ℕ) → marked m j ≡ true → met t (group t m (at (labels_of t m) j)) (at (labels_of t m) j) ≡ true
  label_met j h =
      met_on (at (labels_of t m) j) (to_label j h)
      (met_i t (group t m (at (labels_of t m) j)) j (first_of t j) (proper.in_table j h) (in_own j h) (touch_first t j))

  -- ---- two groups with a row in common

  common : (a b j : ℕ) → marked (group t m a) j ≡ true → marked (group t m b) j ≡ true → Connected t m a b
  common a b j h k =
      let x = group_e t m proper a j h in
      let y = group_e t m proper b j k in
      connected_trans t m (connected_symm t m x.1.connected)
      (connected_trans t m (row_linked t m proper j x.1.account y.1.account x.0 x.1.has y.1.has)
      y.1.connected)

  carried : (a b i : ℕ) → Connected t m a b → marked (group t m a) i ≡ true → marked (group t m b) i ≡ true
  carried a b i C h =
      let x = group_e t m proper a i h in
      group_i t m proper b i x.0
      (record { account = x.1.account; has = x.1.has; connected = connected_trans t m x.1.connected C })

  -- ---- a group as a table of its own

  its_window : (a i : ℕ) → i < length (picked (group t m a) d) → Inside (alone t (group t m a)) s e i
  unfolding day_of at
  its_window a i l =
      let w = d_at S (group t m a) (group_sized a) i l in
      let x =
      window_e t s e (place (group t m a) i) ((ring_within t q s e).all (place (group t m a) i) ((group_within a).all
      (place (group t m a) i) w.has)) in
      let y = w.same in
      let from = x.from in
      let to = x.to in
      record { row = l; from = omega arith; to = omega arith }

  its_ring : (a : ℕ) → IsRing (alone t (group t m a)) q s e (all (alone t (group t m a)))
  its_ring a =
      let p = alone t (group t m a) in
      record {
        sized = length-replicate (size p) true;
        within = record { all = λ i h. window_i p s e i (its_window a i (all_below (size p) i h)) };
        good = copy_good q (alone_copies S (group t m a) (group_sized a)) (copies_alone S (group t m a)
            (group_sized a)) (group_good a);
        greatest_one = λ m' W G. record { all = λ i h. all_i (size p) i (window_e p s e i (W.all i h)).row };
      }

  -- ---- the theorem

  pub grouped : Grouped t q s e m
  grouped =
      record {
        label = λ j h. subst (IsLabel t m j) (sym (label_at j h)) (label_is t m proper j h);
        outside = no_label;
        one_label = λ i j h k R.
            label_at i h
            ∙ (row_leader t m proper i R.account h R.has
            ∙ (sym (leader_same t m R.reached.connected)
            ∙ (sym (row_leader t m proper j R.reached.account k R.reached.has) ∙ sym (label_at j k))));
        connected = λ i j h k x. record {
          account = first_of t i;
          has = touch_first t i;
          reached = record {
            account = first_of t j;
            has = touch_first t j;
            connected = connected_trans t m (to_label j k)
                (connected_symm t m (subst (λ (l : ℕ). Connected t m (first_of t i) l) x (to_label i h)));
          };
        };
        member = group_e t m proper;
        members = group_i t m proper;
        together = in_own;
        within = group_within;
        apart = λ a b j h k.
            same_marks (group t m a) (group t m b) (group_sized a ∙ sym (group_sized b))
            (λ i. carried a b i (common a b j h k)) (λ i. carried b a i (common b a j k h));
        own_account = label_met;
        smallest = λ j a h k.
            let l = leader_least t m (connected_symm t m (met_connected (at (labels_of t m) j) a k)) in
            let e = label_at j h in
            let w = leader_same t m (to_label j h) in
            omega arith;
        itself = λ a. sym (ring_only (alone t (group t m a)) q s e (all (alone t (group t m a))) (its_ring a));
        accepted = λ a. alone_sound S (group t m a) (group_sized a);
      }
