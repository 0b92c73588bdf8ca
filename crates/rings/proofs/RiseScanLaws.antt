-- A scan that keeps what a rise needs (src/scan.rt, scan_for_rise): how many rows of u move with it, and who loses it.
--     moving_e, moving_i      a row of u that comes in by c
--     rise_scanned_start, rise_scanned_next, rise_scanned_out, rise_scanned_stop       the rows of u, one after the
--         other
--     RiseScanning, as_day_scan, rise_scan_start, rise_scan_out, rise_scan_few, rise_scan_over, rise_scan_next
--         the walk of `scan_for_rise` in the adjacency
--     Moved     what a row that moves with u says
-- Assumes nothing.
use Prim.Native.Nat.{ℕ, max, ◌+◌, ◌≤◌, ◌<◌}
use native.Mathlib.Nat.{le_refl, le_trans, eq-or-lt_of_le}
use native.Mathlib.Numerals.{add-one}
use native.Mathlib.Omega.{arith}
use mathlib.Core.Path.{◌≡◌, refl, sym, ◌∙◌, ap, subst}
use mathlib.Core.Logic.{◌⊎◌, ⊎_elim}
use mathlib.Core.Bool.{Bool, true, false, ◌&&◌}
use mathlib.Core.List.{List}
use lib.ListN.{length, get_or, set, length-set}
use lib.Seq.{get_or-set_same, get_or-set_other}
use lib.Dec.{leb, eqb}
use borrow.Author.Tests.{leb-true, leb-false, eq-eqb, le-leb}
use Rattle.rings.specs.Words.{◌and◌, count}
use Rattle.rings.specs.Table.{Table, table_of, size, day_of}
use Rattle.rings.specs.Ring.{touches}
use Rattle.rings.specs.CoreTimes.{never}
use Rattle.rings.specs.Choice.{Picked}
use Rattle.rings.specs.Inner.Adjacency.{other_of, pair_counts, leads, Reading, Every}
use Rattle.rings.specs.Inner.Incident.{RowRead}
use Rattle.rings.specs.Inner.Peeling.{ReadyPruned, Place, estimate}
use Rattle.rings.specs.declared.frame.Frame.{Frame}
use Rattle.rings.specs.declared.incident.Incident.{Incident}
use Rattle.rings.specs.Inner.Settling.{value, moving, Days, RowsScanned, RowNoted, Behind, RiseScanned}
use Rattle.rings.proofs.WordLaws.{true_or_false, and_i, and_l, and_r, count_le, count_none, suc_if_yes}
use Rattle.rings.proofs.WordLaws.{suc_if_no, same_or}
use Rattle.rings.proofs.LeadLaws.{counts_from, counts_here, lead_from}
use Rattle.rings.proofs.PeelStateLaws.{estimate_at}
use Rattle.rings.proofs.PrunedLaws.{reading_out, reading_from, reading_gap, reading_next}
use Rattle.rings.proofs.CountingLaws.{count_past}
use Rattle.rings.proofs.ChoiceLaws.{picked_most}
use Rattle.rings.proofs.DayScanLaws.{both, DayScanning}
use Rattle.rings.proofs.ScanLaws.{scanned_start, scanned_note, scanned_idle}
use Rattle.rings.proofs.SupporterLaws.{at_place, in_list}

-- ---- the rows of u, one after the other

-- what a row more does to the day above
row_noted_above : {y : Bool} {z c n above more n' above' more' : ℕ} → RowNoted y z c n above more n' above' more'
    → (above' ≤ above) × ((z ≤ c) ⊎ (above' ≤ z))
row_noted_above (RowNoted.back h en ea em) = (omega arith, ◌⊎◌.inl h)
row_noted_above (RowNoted.nearer h k en ea em) = (omega arith, ◌⊎◌.inr (omega arith))
row_noted_above (RowNoted.level h k en ea em) = (omega arith, ◌⊎◌.inr (omega arith))
row_noted_above (RowNoted.farther h k en ea em) = (omega arith, ◌⊎◌.inr (omega arith))

module _ (t : Table) (x : ℕ → ℕ) (lo hi : ℕ) where
  pub record Moved (c u j : ℕ) : Type 0 where
    pub counts : pair_counts t lo j ≡ true
    pub touch : touches t j u ≡ true
    pub by : value t x j u ≤ c

  pub moving_e : (c u j : ℕ) → moving t x lo c u j ≡ true → Moved c u j
  unfolding moving
  moving_e c u j h =
      let b = and_r (pair_counts t lo j) (touches t j u and leb (value t x j u) c) h in
      record {
        counts = and_l (pair_counts t lo j) (touches t j u and leb (value t x j u) c) h;
        touch = and_l (touches t j u) (leb (value t x j u) c) b;
        by = leb-true (value t x j u) c (and_r (touches t j u) (leb (value t x j u) c) b);
      }

  pub moving_i : (c u j : ℕ) → Moved c u j → moving t x lo c u j ≡ true
  unfolding moving
  moving_i c u j b = and_i b.counts (and_i b.touch (le-leb (value t x j u) c b.by))

  moving_not : (c u j : ℕ) → (Moved c u j → ⊥) → moving t x lo c u j ≡ false
  moving_not c u j h = ⊎_elim (λ y. absurd (h (moving_e c u j y))) (λ y. y) (true_or_false (moving t x lo c u j))

  pub rise_scanned_start : {c u tail : ℕ} (ws : List ℕ) → RiseScanned t x lo hi c u lo never 0 tail tail ws
  rise_scanned_start {c} {u} {tail} ws =
      record {
        apart = λ j a l. let b = counts_from t lo j a in absurd (omega arith);
        moves =
            sym (count_none (moving t x lo c u) lo
            (λ i l. moving_not c u i (λ m. let a = counts_from t lo i m.counts in omega arith)));
        loses = λ j l f. let a = lead_from t lo j f in absurd (omega arith);
        small = λ i a b. absurd (omega arith);
        grows = le_refl tail;
      }

  module _ {c u b above moved tail end : ℕ} {ws : List ℕ} (soon : c < never) (top : above ≤ never)
      (G : RiseScanned t x lo hi c u b above moved tail end ws) where
    -- a row that the walk passes over comes in on no day
    gap_not : {i : ℕ} → (touches t i u ≡ true → (i < lo) ⊎ (x (other_of t i u) ≡ never)) → moving t x lo c u i ≡ false
    unfolding value
    gap_not {i} gap =
        moving_not c u i
        (λ m.
        let a = counts_from t lo i m.counts in
        let b = m.by in
        ⊎_elim (λ z. omega arith) (λ z. omega arith) (gap m.touch))

    gap_apart : {i above' : ℕ} → above' ≤ above → lo ≤ i → (i < lo) ⊎ (x (other_of t i u) ≡ never)
        → (value t x i u ≤ c) ⊎ (above' ≤ value t x i u)
    unfolding value
    gap_apart le l o = ⊎_elim (λ z. absurd (omega arith)) (λ z. ◌⊎◌.inr (omega arith)) o

    gap_loses : {A : Type 0} {i : ℕ} → leads t lo i ≡ true → x (other_of t i u) ≡ c
        → (i < lo) ⊎ (x (other_of t i u) ≡ never) → A
    gap_loses {i = i} f e o =
        let a = lead_from t lo i f in ⊎_elim (λ z. absurd (omega arith)) (λ z. absurd (omega arith)) o

    pub rise_scanned_out : b ≤ size t
        → ((i : ℕ) → b ≤ i → i < size t → touches t i u ≡ true → (i < lo) ⊎ (x (other_of t i u) ≡ never))
        → RiseScanned t x lo hi c u (size t) above moved tail end ws
    rise_scanned_out l gap =
        record {
          apart = λ j a k h o.
              ⊎_elim
              (λ y. gap_apart (le_refl above) (counts_from t lo j a) (gap j (leb-true b j y) k h))
              (λ y. G.apart j a (leb-false b j y) h o) (true_or_false (leb b j));
          moves = G.moves ∙ sym (count_past (moving t x lo c u) b (size t) l (λ i a k. gap_not (gap i a k)));
          loses = λ j k f h e o.
              ⊎_elim (λ y. gap_loses f e (gap j (leb-true b j y) k h)) (λ y. G.loses j (leb-false b j y) f h e o)
              (true_or_false (leb b j));
          small = G.small;
          grows = G.grows;
        }

    -- the next row of u in the adjacency is j
    module _ (j : ℕ) (from : b ≤ j)
        (gap : (i : ℕ) → b ≤ i → i < j → touches t i u ≡ true → (i < lo) ⊎ (x (other_of t i u) ≡ never)) where
      earlier : {above' : ℕ}
          → above' ≤ above
          → (i : ℕ) → pair_counts t lo i ≡ true
          → i < j
          → touches t i u ≡ true
          → day_of t i ≤ hi
          → (value t x i u ≤ c) ⊎ (above' ≤ value t x i u)
      earlier le i a l h o =
          ⊎_elim (λ y. gap_apart le (counts_from t lo i a) (gap i (leb-true b i y) l h))
          (λ y. ⊎_elim ◌⊎◌.inl (λ z. ◌⊎◌.inr (le_trans le z)) (G.apart i a (leb-false b i y) h o))
          (true_or_false (leb b i))

      listed : (i : ℕ) → i < j → leads t lo i ≡ true → touches t i u ≡ true → x (other_of t i u) ≡ c
          → day_of t i ≤ c → Place ws tail end (other_of t i u)
      listed i l f h e o =
          ⊎_elim (λ y. gap_loses f e (gap i (leb-true b i y) l h)) (λ y. G.loses i (leb-false b i y) f h e o)
          (true_or_false (leb b i))

      moves_to : moved ≡ count (moving t x lo c u) j
      moves_to = G.moves ∙ sym (count_past (moving t x lo c u) b j from (λ i a k. gap_not (gap i a k)))

      -- from j on every row is dated after c, and after the range or not before the day above
      pub rise_scanned_stop : ((i : ℕ) → j ≤ i → i < size t → c < day_of t i)
          → ((i : ℕ) → j ≤ i → i < size t → (hi < day_of t i) ⊎ (above ≤ day_of t i))
          → j ≤ size t
          → RiseScanned t x lo hi c u (size t) above moved tail end ws
      unfolding value
      rise_scanned_stop late far l =
          record {
            apart = λ i a k h o.
                ⊎_elim
                (λ y. ⊎_elim (λ z. absurd (omega arith)) (λ z. ◌⊎◌.inr (omega arith)) (far i (leb-true j i y) k))
                (λ y. earlier (le_refl above) i a (leb-false j i y) h o) (true_or_false (leb j i));
            moves =
                moves_to
                ∙ sym (count_past (moving t x lo c u) j (size t) l
                (λ i a k. moving_not c u i (λ m. let z = m.by in let w = late i a k in omega arith)));
            loses = λ i k f h e o.
                ⊎_elim (λ y. let w = late i (leb-true j i y) k in absurd (omega arith))
                (λ y. listed i (leb-false j i y) f h e o) (true_or_false (leb j i));
            small = G.small;
            grows = G.grows;
          }

      module _ {y : Bool} {v xv z n more n' above' more' a w : ℕ} {ws' : List ℕ} (l : lo ≤ j)
          (touch : touches t j u ≡ true) (ev : v ≡ other_of t j u) (small : v < 4096) (ex : xv ≡ x v)
          (ez : z ≡ value t x j u) (ef : y ≡ leads t lo j) (N : RowNoted y z c n above more n' above' more')
          (A : Picked (leb z c) 1 0 a) (room : end < length ws) (eq : ws' ≡ set ws end v)
          (B : Picked ((leb z c && y) && eqb xv c) 1 0 w) where
        here_now : get_or ws' end 0 ≡ v
        here_now = in_list end eq ∙ get_or-set_same ws end v 0 room

        else_now : (i : ℕ) → (i ≡ end → ⊥) → get_or ws' i 0 ≡ get_or ws i 0
        else_now i ne = in_list i eq ∙ get_or-set_other ws end i v 0 ne

        is_moved : moved + a ≡ count (moving t x lo c u) (j + 1)
        unfolding count
        is_moved =
            subst (λ (i : ℕ). moved + a ≡ count (moving t x lo c u) i) (sym (add-one j))
            (⊎_elim (λ h.
            let e = A.yes h in
            let m = moves_to in
            let o = suc_if_yes (count (moving t x lo c u) j)
            (moving_i c u j
            (record {
              counts = counts_here t lo j l;
              touch = touch;
              by = let g = leb-true z c h in omega arith;
            })) in
            omega arith)
            (λ h.
            let e = A.no h in
            let m = moves_to in
            let o = suc_if_no (count (moving t x lo c u) j)
            (moving_not c u j (λ k. let g = leb-false z c h in let i = k.by in omega arith)) in
            omega arith)
            (true_or_false (leb z c)))

        own : leads t lo j ≡ true → x (other_of t j u) ≡ c → day_of t j ≤ c → Place ws' tail (end + w) (other_of t j u)
        unfolding value
        own f e o =
            let g : xv ≡ c = ex ∙ (ap x ev ∙ e) in
            let h : w ≡ 1 = B.yes (both (both (le-leb z c (omega arith)) (ef ∙ f)) (eq-eqb xv c g)) in
            record { place = end; from = G.grows; below = omega arith; is = here_now ∙ ev }

        pub rise_scanned_next : RiseScanned t x lo hi c u (j + 1) above' (moved + a) tail (end + w) ws'
        rise_scanned_next =
            let up = row_noted_above N in
            record {
              apart = λ i b k h o.
                  ⊎_elim
                  (λ e. subst (λ (m : ℕ). (value t x m u ≤ c) ⊎ (above' ≤ value t x m u)) (sym e)
                  (subst (λ (m : ℕ). (m ≤ c) ⊎ (above' ≤ m)) ez up.1))
                  (λ q. earlier up.0 i b q h o) (eq-or-lt_of_le (let r : i ≤ j = omega arith in r));
              moves = is_moved;
              loses = λ i k f h e o.
                  ⊎_elim (λ q. subst (λ (m : ℕ). Place ws' tail (end + w) (other_of t m u)) (sym q)
                  (own (subst (λ (m : ℕ). leads t lo m ≡ true) q f) (subst (λ (m : ℕ). x (other_of t m u) ≡ c) q e)
                  (subst (λ (m : ℕ). day_of t m ≤ c) q o)))
                  (λ q.
                  let P = listed i q f h e o in
                  let m = P.below in
                  record {
                    place = P.place;
                    from = P.from;
                    below = omega arith;
                    is = else_now P.place (λ r. omega arith) ∙ P.is;
                  })
                  (eq-or-lt_of_le (let r : i ≤ j = omega arith in r));
              small = λ i b k.
                  ⊎_elim (λ e. let m = at_place ws' e in let o = here_now in omega arith)
                  (λ ne.
                  let m = else_now i ne in
                  let o = G.small i b
                  (⊎_elim (λ q. absurd (ne q)) (λ q. q)
                  (eq-or-lt_of_le (let r : i ≤ end = (let g = picked_most B in omega arith) in r))) in
                  omega arith)
                  (same_or i end);
              grows = let m = G.grows in omega arith;
            }

-- ---- the walk in the adjacency

-- the rows of u before place p have been seen
pub record RiseScanning (d f g scratch : List ℕ) (r : Frame) (xs : List ℕ) (u c tail : ℕ) (ws₀ : List ℕ)
    (p n above more moved end : ℕ) (ws : List ℕ) : Type 0 where
  pub b : ℕ
  pub within : b ≤ length d
  pub late : r.lo ≤ b
  pub reading : Reading scratch u b p
  pub scanned : RowsScanned (table_of d f g) (estimate xs) r.lo r.stop c u b n above more
  pub kept : RiseScanned (table_of d f g) (estimate xs) r.lo r.stop c u b above moved tail end ws
  pub behind : Behind tail ws₀ ws

pub as_day_scan : {d f g scratch : List ℕ} {r : Frame} {xs : List ℕ} {u c tail : ℕ} {ws₀ : List ℕ}
    {p n above more moved end : ℕ} {ws : List ℕ}
    → RiseScanning d f g scratch r xs u c tail ws₀ p n above more moved end ws
    → DayScanning d f g scratch r xs u c p n above more
as_day_scan G = record { b = G.b; within = G.within; late = G.late; reading = G.reading; scanned = G.scanned }

module _ (d f g scratch : List ℕ) (r : Frame) (R : ReadyPruned (table_of d f g) scratch r) (xs : List ℕ)
    (len : length xs ≡ 4096) (D : Days r.stop xs) {u c : ℕ} (small : u < 4096) (top : c ≤ r.stop)
    (E : Every (table_of d f g) (estimate xs) r.lo u scratch) (tail : ℕ) (ws₀ : List ℕ) where
  abbrev tt : Table
  tt = table_of d f g

  soon : c < never
  soon = let h = R.setting.fits in omega arith

  pub rise_scan_start : {p : ℕ} → length ws₀ ≡ 4352 → Reading scratch u r.lo p
      → RiseScanning d f g scratch r xs u c tail ws₀ p 0 never 0 0 tail ws₀
  rise_scan_start l A =
      record {
        b = r.lo;
        within = R.within;
        late = le_refl r.lo;
        reading = A;
        scanned = scanned_start tt r.query r.start r.stop r.lo R.setting (estimate xs) c u soon;
        kept = rise_scanned_start tt (estimate xs) r.lo r.stop ws₀;
        behind = record { long = l; front = λ i h. refl };
      }

  module _ {p n above more moved end last : ℕ} {ws : List ℕ}
      (G : RiseScanning d f g scratch r xs u c tail ws₀ p n above more moved end ws)
      (ee : last ≡ get_or scratch u 0) where
    above_most : above ≤ never
    above_most = let h = R.setting.fits in ⊎_elim (λ y. omega arith) (λ y. omega arith) G.scanned.day

    pub rise_scan_out : last ≤ p → RiseScanned tt (estimate xs) r.lo r.stop c u (length d) above moved tail end ws
    rise_scan_out h =
        rise_scanned_out tt (estimate xs) r.lo r.stop soon above_most G.kept G.within
        (reading_out d f g scratch R.sound R.pruned small G.reading ee E h)

    module _ (here : p < last) {it : Incident} (I : RowRead tt scratch r.lo u p it) where
      from : G.b ≤ it.row
      from = reading_from d f g scratch R.sound R.pruned small G.reading ee here I.row

      gap : (i : ℕ) → G.b ≤ i → i < it.row → touches tt i u ≡ true
          → (i < r.lo) ⊎ (estimate xs (other_of tt i u) ≡ never)
      gap = reading_gap d f g scratch R.sound R.pruned small G.reading ee here I.row E

      -- the walk began at lo
      late : r.lo ≤ it.row
      late = let h = G.late in let k = from in omega arith

      pub rise_scan_few : moved < 16384
      rise_scan_few =
          let a = G.kept.moves in
          let b = count_le (moving tt (estimate xs) r.lo c u) G.b in
          let h = from in let k = I.below in let m = R.sound.most in omega arith

      pub rise_scan_over : (c < it.day) × ((r.query.k ≤ n) ⊎ ((r.stop < it.day) ⊎ (above < it.day)))
          → n < r.query.k
          → RiseScanned tt (estimate xs) r.lo r.stop c u (length d) above moved tail end ws
      rise_scan_over o few =
          rise_scanned_stop tt (estimate xs) r.lo r.stop soon above_most G.kept it.row from gap
          (λ i a k. let e = I.day in let y = R.setting.rising it.row i a k in let z = o.0 in omega arith)
          (λ i a k.
          let e = I.day in
          let y = R.setting.rising it.row i a k in
          ⊎_elim (λ h. absurd (omega arith))
          (λ h. ⊎_elim (λ z. ◌⊎◌.inl (omega arith)) (λ z. ◌⊎◌.inr (omega arith)) h) o.1)
          (let b = I.below in omega arith)

      module _ {xv z n' above' more' : ℕ} (l : it.day ≤ r.stop) (ex : xv ≡ get_or xs it.other 0)
          (ez : z ≡ max xv it.day) (N : RowNoted it.leads z c n above more n' above' more') where
        x_is : xv ≡ estimate xs it.other
        x_is = ex ∙ sym (estimate_at xs it.other len I.small)

        z_is : z ≡ value tt (estimate xs) it.row u
        unfolding value
        z_is =
            let h : estimate xs (other_of tt it.row u) ≡ estimate xs it.other =
            ap (estimate xs) (sym I.other) in
            let k = x_is in let o = I.day in omega arith

        z_day : (z ≤ r.stop) ⊎ (z ≡ never)
        z_day =
            let o = R.setting.fits in
            ⊎_elim (λ k. ◌⊎◌.inl (omega arith)) (λ k. ◌⊎◌.inr (omega arith)) (D it.other I.small)

        scanned_on : RowsScanned tt (estimate xs) r.lo r.stop c u (it.row + 1) n' above' more'
        scanned_on =
            ⊎_elim
            (λ h. scanned_note tt r.query r.start r.stop r.lo R.setting (estimate xs) G.scanned
            it.row from gap (sym (I.leads late) ∙ h) I.touch z_is z_day
            (subst (λ (w : Bool). RowNoted w z c n above more n' above' more') h N))
            (λ h. scanned_idle tt r.query r.start r.stop r.lo R.setting (estimate xs) G.scanned
            it.row from gap (sym (I.leads late) ∙ h) z_day
            (subst (λ (w : Bool). RowNoted w z c n above more n' above' more') h N))
            (true_or_false it.leads)

        pub rise_scan_next : {m w : ℕ} {ws' : List ℕ}
            → Picked (leb z c) 1 0 m
            → end < length ws
            → ws' ≡ set ws end it.other
            → Picked ((leb z c && it.leads) && eqb xv c) 1 0 w
            → RiseScanning d f g scratch r xs u c tail ws₀ (p + 1) n' above' more' (moved + m) (end + w) ws'
        rise_scan_next {ws' = ws'} A room eq B =
            record {
              b = it.row + 1;
              within = let h = I.below in omega arith;
              late = let h = late in omega arith;
              reading = reading_next d f g scratch R.sound R.pruned small G.reading ee here I.row;
              scanned = scanned_on;
              kept =
                  rise_scanned_next tt (estimate xs) r.lo r.stop soon above_most G.kept
                  it.row from gap late I.touch I.other I.small x_is z_is (I.leads late) N A room eq B;
              behind =
                  record {
                    long = ap length eq ∙ (length-set ws end it.other ∙ G.behind.long);
                    front = λ i h. in_list i eq
                        ∙ (get_or-set_other ws end i it.other 0 (λ o. let k = G.kept.grows in omega arith)
                        ∙ G.behind.front i h);
                  };
            }
