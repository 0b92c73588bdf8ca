-- The loop over the rows of an account that was removed (src/peel.rt, `remove_account`).
--     RemovingAccount                 the rows of u before place p have been passed
--     head_small, head_place, removing_small, removing_start      before the loop
--     removing_stands, removing_few, removing_stop, removing_room, removing_drop, removing_skip, removing_out     the
--     loop's laws
--     lead_is     whether a row leads, as the code tests it
-- Assumes nothing.
use Prim.Native.Nat.{ℕ, ◌+◌, ◌≤◌, ◌<◌}
use native.Mathlib.Nat.{le_refl}
use native.Mathlib.Omega.{arith}
use mathlib.Core.Path.{◌≡◌, refl, sym, ◌∙◌, ap, subst}
use mathlib.Core.Logic.{◌⊎◌, ⊎_elim}
use mathlib.Core.Bool.{Bool, true, false, ◌&&◌}
use mathlib.Core.List.{List}
use lib.ListN.{length, get_or}
use lib.Dec.{leb}
use Rattle.rings.specs.Words.{◌and◌}
use Rattle.rings.specs.Table.{Table, table_of}
use Rattle.rings.specs.Ring.{touches}
use Rattle.rings.specs.CoreTimes.{never}
use Rattle.rings.specs.Inner.Adjacency.{leads, PrunedAdjacency, Reading, Every}
use Rattle.rings.specs.Inner.Incident.{RowStands, RowRead}
use Rattle.rings.specs.Inner.Peeling.{Droppable, DroppedNeighbour, PeelState, AccountRemoval, nothing, Ready}
use Rattle.rings.specs.Inner.Peeling.{HeadWaits, HeadWalked}
use Rattle.rings.specs.declared.frame.Frame.{Frame}
use Rattle.rings.specs.declared.incident.Incident.{Incident}
use Rattle.rings.specs.declared.peel.Removal.{Removal}
use Rattle.rings.proofs.WordLaws.{true_or_false}
use Rattle.rings.proofs.LeadLaws.{lead_from}
use Rattle.rings.proofs.IncidentLaws.{row_leads}
use Rattle.rings.proofs.PrunedLaws.{reading_start, reading_out, reading_stands, reading_few, reading_from}
use Rattle.rings.proofs.PrunedLaws.{reading_gap, reading_next, adjacency_pruned, adjacency_every, none_missing}
use Rattle.rings.proofs.PeelAccountLaws.{remove_account_start, remove_account_small, remove_account_to}
use Rattle.rings.proofs.PeelAccountLaws.{remove_account_droppable, remove_account_dropped, remove_account_skip}
use Rattle.rings.proofs.PeelAccountLaws.{remove_account_end}
use Rattle.rings.proofs.PeelLoopLaws.{SameLengths, same_start, same_next, tail_most}

-- what `leads` returns
and_is : (a b : Bool) → (a && b) ≡ (a and b)
unfolding ◌and◌
and_is true b = refl
and_is false b = refl

pub lead_is : (lo j : ℕ) {e e' : ℕ} → e' ≡ e → (leb lo j && leb e' lo) ≡ (leb lo j and leb e lo)
lead_is lo j {e' = e'} y = and_is (leb lo j) (leb e' lo) ∙ ap (λ (m : ℕ). leb lo j and leb m lo) y

-- the rows of u, which stands at the head of the queue, before place p have been passed; the queue ends at tail now
pub record RemovingAccount (d f s scratch : List ℕ) (q : Frame) (m : Removal) (u end p tail : ℕ)
    (x₀ l₀ w₀ x l w : List ℕ) : Type 0 where
  pub lengths : SameLengths x₀ l₀ w₀ x l w
  pub end_is : end ≡ get_or scratch u 0
  pub b : ℕ
  pub within : b ≤ length d
  pub state : AccountRemoval (table_of d f s) q b m.day m.end m.head tail u x l w
  pub reading : Reading scratch u b p

module _ (d f s scratch : List ℕ) (q : Frame) (R : Ready (table_of d f s) scratch q) where
  abbrev t : Table
  t = table_of d f s

  pruned : PrunedAdjacency t scratch
  pruned = adjacency_pruned R.adjacency

  -- a row that is not in the adjacency from the head on is below lo, so it does not lead
  not_lead : {i : ℕ} → (i < q.lo) ⊎ (0 ≡ never) → leads t q.lo i ≡ false
  not_lead {i} h =
      ⊎_elim
      (λ y. let a = lead_from t q.lo i y in let b = none_missing h in absurd (omega arith))
      (λ y. y) (true_or_false (leads t q.lo i))

  module _ {m : Removal} {x l w : List ℕ} (H : HeadWaits (table_of d f s) q m x l w) where
    pub head_small : m.head < 4096
    head_small = let a = tail_most d f s scratch q R H.state in let b = H.some in omega arith

    pub head_place : m.head < length w
    head_place =
        let a = tail_most d f s scratch q R H.state in
        let b = H.some in let c = H.state.buffers.queue in omega arith

    module _ {u : ℕ} (eu : u ≡ get_or w m.head 0) where
      removing_account : AccountRemoval t q 0 m.day m.end m.head m.tail u x l w
      removing_account =
          subst (λ (c : ℕ). AccountRemoval t q 0 m.day m.end m.head m.tail c x l w) (sym eu)
          (remove_account_start t q R.setting H.state H.some)

      pub removing_small : u < 4096
      removing_small = remove_account_small t q R.setting removing_account

      pub removing_start : {end p : ℕ}
          → end ≡ get_or scratch u 0
          → p ≡ get_or scratch (4096 + u) 0
          → RemovingAccount d f s scratch q m u end p m.tail x l w x l w
      removing_start ee ep =
          record {
            lengths = same_start x l w;
            end_is = ee;
            b = 0;
            within = omega arith;
            state = removing_account;
            reading = reading_start (pruned.pruned_list u removing_small) ep;
          }

  module _ {m : Removal} {u tail : ℕ} {x₀ l₀ w₀ x l w : List ℕ} where
    module _ {p end : ℕ} (A : RemovingAccount d f s scratch q m u end p tail x₀ l₀ w₀ x l w) where
      walked : PeelState t q 4096 m.day m.end (m.head + 1) tail nothing x l w
          → HeadWalked (table_of d f s) q m (record { day = m.day; end = m.end; head = m.head + 1; tail = tail }) x l w
      walked F = record { goes_on = record { state = F; day = refl; end = refl }; head = refl }

      small : u < 4096
      small = remove_account_small t q R.setting A.state

      every : Every t (λ v. 0) q.lo u scratch
      every = adjacency_every R.adjacency R.setting.from_lo small

      -- the loop ends: no row of u from b on leads
      pub removing_out : end ≤ p
          → HeadWalked (table_of d f s) q m (record { day = m.day; end = m.end; head = m.head + 1; tail = tail }) x l w
      removing_out h = walked (remove_account_end t q R.setting past (λ i a c k. absurd (omega arith)))
        where
          past : AccountRemoval t q (length d) m.day m.end m.head tail u x l w
          past =
              remove_account_to t q R.setting A.state (length d) A.within
              (λ i a k y. not_lead
              (reading_out d f s scratch R.sound pruned small A.reading A.end_is every h i a k y))

      module _ (more : p < end) where
        pub removing_stands : RowStands (table_of d f s) scratch u p
        removing_stands = reading_stands d f s scratch R.sound pruned small A.reading A.end_is more

        pub removing_few : p < 32768
        removing_few = reading_few d f s scratch R.sound pruned small A.reading A.end_is more

        module _ {r : Incident} (I : RowRead t scratch q.lo u p r) where
          row_from : A.b ≤ r.row
          row_from = reading_from d f s scratch R.sound pruned small A.reading A.end_is more I.row

          -- what was passed over up to this row does not lead
          to_row : AccountRemoval t q r.row m.day m.end m.head tail u x l w
          to_row =
              remove_account_to t q R.setting A.state r.row row_from
              (λ i a k y. not_lead
              (reading_gap d f s scratch R.sound pruned small A.reading A.end_is more
              I.row every i a k y))

          nothing_between : (i : ℕ) → r.row ≤ i → i < r.row → touches t i u ≡ false
          nothing_between i a k = absurd (omega arith)

          -- rows rise: this one, and so every later one, has left
          pub removing_stop : m.end ≤ r.row
              → HeadWalked (table_of d f s) q m (record { day = m.day; end = m.end; head = m.head + 1; tail = tail }) x l w
          removing_stop h = walked (remove_account_end t q R.setting to_row (λ i a c k. absurd (omega arith)))

          next_reading : Reading scratch u (r.row + 1) (p + 1)
          next_reading = reading_next d f s scratch R.sound pruned small A.reading A.end_is more I.row

          pub removing_skip : (leb q.lo r.row && r.leads) ≡ false
              → RemovingAccount d f s scratch q m u end (p + 1) tail x₀ l₀ w₀ x l w
          removing_skip h =
              record {
                lengths = A.lengths;
                end_is = A.end_is;
                b = r.row + 1;
                within = let a = I.below in omega arith;
                state =
                    remove_account_skip t q R.setting to_row r.row (le_refl r.row) I.below
                    I.touch nothing_between (sym (row_leads I) ∙ h);
                reading = next_reading;
              }

          module _ (left : r.row < m.end) (h : (leb q.lo r.row && r.leads) ≡ true) where
            lead : leads t q.lo r.row ≡ true
            lead = sym (row_leads I) ∙ h

            pub removing_room : Droppable q.query.k tail r.other x l w
            removing_room =
                subst (λ (y : ℕ). Droppable q.query.k tail y x l w) (sym I.other)
                (remove_account_droppable t q R.setting to_row r.row (le_refl r.row) I.below
                I.touch nothing_between left lead)

            pub removing_drop : {x' l' w' : List ℕ} {tail' : ℕ} → length x' ≡ length x → length l' ≡ length l
                → length w' ≡ length w
                → DroppedNeighbour q.query.k m.day tail r.other x l w x' l' w' tail'
                → RemovingAccount d f s scratch q m u end (p + 1) tail' x₀ l₀ w₀ x' l' w'
            removing_drop {x'} {l'} {w'} {tail'} ex el ew L =
                record {
                  lengths = same_next A.lengths ex el ew;
                  end_is = A.end_is;
                  b = r.row + 1;
                  within = let a = I.below in omega arith;
                  reading = next_reading;
                  state =
                      remove_account_dropped t q R.setting to_row r.row (le_refl r.row) I.below
                      I.touch nothing_between left lead
                      (subst
                      (λ (y : ℕ). DroppedNeighbour q.query.k m.day tail y x l w x' l' w' tail')
                      I.other L);
                }
