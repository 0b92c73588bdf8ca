-- Who loses a supporter (src/supporters.rt), and who waits for a scan by that.
--     at_place, in_list         equal places, equal lists
--     under, dropped_supporter, dropped_supporter_on, dropped_supporter_less, queued_start, queued_dropped_supporter,
--     queued_then     a loss, and the queue after it
--     DroppingSupported, dropping_start, dropping_out, dropping_late, dropping_stop, dropping_next      the walk of
--     `drop_supported` in the adjacency
--     OneLess     v has one to spare less where y says so; nobody has more
--     new_most     a time is never at most
-- Assumes nothing.
use Prim.Native.Nat.{ℕ, min, max, ◌+◌, ◌-◌, ◌≤◌, ◌<◌}
use native.Mathlib.Nat.{le_refl, le_trans, eq-or-lt_of_le}
use native.Mathlib.Omega.{arith}
use mathlib.Core.Path.{◌≡◌, refl, sym, ◌∙◌, ap, subst}
use mathlib.Core.Logic.{◌⊎◌, ⊎_elim}
use mathlib.Core.Bool.{Bool, true, false, ◌&&◌}
use mathlib.Core.List.{List}
use lib.ListN.{length, get_or, set, length-set}
use lib.Seq.{get_or-set_same, get_or-set_other}
use lib.Dec.{leb, ltb, eqb}
use borrow.Author.Tests.{leb-true, leb-false, ltb-true, ltb-false, eqb-false, le-leb, lt-ltb}
use Rattle.rings.specs.Table.{Table, table_of, day_of}
use Rattle.rings.specs.Ring.{touches}
use Rattle.rings.specs.CoreTimes.{never}
use Rattle.rings.specs.Choice.{Picked}
use Rattle.rings.specs.Inner.Adjacency.{other_of, leads, Reading, Every}
use Rattle.rings.specs.Inner.Incident.{RowRead}
use Rattle.rings.specs.Inner.Peeling.{ReadyPruned, Place, estimate}
use Rattle.rings.specs.declared.frame.Frame.{Frame}
use Rattle.rings.specs.declared.incident.Incident.{Incident}
use Rattle.rings.specs.Inner.Settling.{Days, DroppedSupporter, DroppedSupported, Queued}
use Rattle.rings.proofs.WordLaws.{true_or_false, clash, same_or}
use Rattle.rings.proofs.LeadLaws.{lead_from}
use Rattle.rings.proofs.PeelStateLaws.{estimate_at, other_small}
use Rattle.rings.proofs.PrunedLaws.{reading_out, reading_gap, reading_next}
use Rattle.rings.proofs.ChoiceLaws.{picked_most}
use Rattle.rings.proofs.DayScanLaws.{both, not_first}

-- ---- who loses a supporter

pub dropped_i : (old z day new : ℕ) → old ≤ z → day ≤ z → z < new → ((leb old z && leb day z) && ltb z new) ≡ true
dropped_i old z day new a b c = both (both (le-leb old z a) (le-leb day z b)) (lt-ltb z new c)

pub at_place : (ys : List ℕ) {a b : ℕ} → a ≡ b → get_or ys a 0 ≡ get_or ys b 0
at_place ys e = ap (λ (c : ℕ). get_or ys c 0) e

pub in_list : {xs ys : List ℕ} (a : ℕ) → xs ≡ ys → get_or xs a 0 ≡ get_or ys a 0
in_list a e = ap (λ (zs : List ℕ). get_or zs a 0) e

-- v has one to spare less where y says so; nobody has more
pub record OneLess (y : Bool) (v : ℕ) (sp sp' : List ℕ) : Type 0 where
  pub long : length sp' ≡ 4096
  pub one : y ≡ true → get_or sp' v 0 ≤ get_or sp v 0 - 1
  pub down : (w : ℕ) → get_or sp' w 0 ≤ get_or sp w 0

dropped_supporter_at : {y : Bool} {v tail r : ℕ} {sp ws sp' ws' : List ℕ}
    → v < 4096
    → length sp ≡ 4096
    → (L : DroppedSupporter y v tail sp ws sp' ws' r) → get_or sp' v 0 ≡ L.left
dropped_supporter_at {v = v} {sp = sp} small len L = in_list v L.stored ∙ get_or-set_same sp v L.left 0 (omega arith)

dropped_supporter_else : {y : Bool} {v tail r : ℕ} {sp ws sp' ws' : List ℕ}
    → DroppedSupporter y v tail sp ws sp' ws' r
    → (w : ℕ) → (w ≡ v → ⊥)
    → get_or sp' w 0 ≡ get_or sp w 0
dropped_supporter_else {v = v} {sp = sp} L w n = in_list w L.stored ∙ get_or-set_other sp v w L.left 0 n

pub dropped_supporter_less : {y : Bool} {v tail r : ℕ} {sp ws sp' ws' : List ℕ}
    → v < 4096
    → length sp ≡ 4096
    → DroppedSupporter y v tail sp ws sp' ws' r
    → OneLess y v sp sp'
dropped_supporter_less {v = v} {sp = sp} {sp' = sp'} small len L =
    let at_v = dropped_supporter_at small len L in
    record {
      long = ap length L.stored ∙ (length-set sp v L.left ∙ len);
      one = λ h. let m = L.dropped h in omega arith;
      down = λ w.
          ⊎_elim
          (λ e. let a = at_place sp' e in let b = at_place sp e in let m = L.less in omega arith)
          (λ n. let c = dropped_supporter_else L w n in omega arith) (same_or w v);
    }

-- what `lose` computes without a branch
pub under : (y : Bool) (n : ℕ) {a : ℕ} → Picked (y && ltb 0 n) 1 0 a → a ≤ n
under y n A =
    ⊎_elim (λ h. let e = ltb-true 0 n h in let m = picked_most A in omega arith)
    (λ h. let e = A.no (none y h) in omega arith) (true_or_false (ltb 0 n))
  where
    none : (w : Bool) → ltb 0 n ≡ false → (w && ltb 0 n) ≡ false
    none true h = h
    none false h = refl

pub dropped_supporter_on : {y : Bool} {v tail r : ℕ} {sp ws sp' ws' : List ℕ}
    → DroppedSupporter y v tail sp ws sp' ws' r → r ≤ tail + 1
dropped_supporter_on L = ⊎_elim (λ e. let h = e.0 in omega arith) (λ e. omega arith) L.ended

pub dropped_supporter : (y : Bool) (v tail : ℕ) (sp ws : List ℕ) {a b m : ℕ} {sp' ws' : List ℕ}
    → Picked (y && ltb 0 (get_or sp v 0)) 1 0 a
    → Picked (y && eqb (get_or sp v 0) 1) 1 0 b
    → sp' ≡ set sp v (get_or sp v 0 - a)
    → ws' ≡ set ws tail v
    → m ≡ b
    → DroppedSupporter y v tail sp ws sp' ws' (tail + m)
dropped_supporter y v tail sp ws {a} {b} {m} A B es ew em =
    record {
      left = get_or sp v 0 - a;
      stored = es;
      less = omega arith;
      dropped = λ h.
          ⊎_elim (λ k. let e = A.yes (both h k) in omega arith)
          (λ k. let e = ltb-false 0 (get_or sp v 0) k in omega arith) (true_or_false (ltb 0 (get_or sp v 0)));
      queued = ew;
      ended =
          ⊎_elim (λ h. ◌⊎◌.inr (let e = B.yes h in omega arith))
          (λ h. let e = B.no h in ◌⊎◌.inl (omega arith, λ z. stays z h)) (true_or_false (y && eqb (get_or sp v 0) 1));
    }
  where
    stays : get_or sp v 0 - a ≡ 0 → (y && eqb (get_or sp v 0) 1) ≡ false → get_or sp v 0 ≡ 0
    stays z h =
        ⊎_elim
        (λ k. ⊎_elim
        (λ o. ⊎_elim (λ e. clash (both k e) h)
        (λ e.
        let c = A.yes (both k o) in
        let i = ltb-true 0 (get_or sp v 0) o in
        absurd (eqb-false (get_or sp v 0) 1 e (omega arith)))
        (true_or_false (eqb (get_or sp v 0) 1)))
        (λ o. let e = ltb-false 0 (get_or sp v 0) o in omega arith) (true_or_false (ltb 0 (get_or sp v 0))))
        (λ k. let c = A.no (not_first (ltb 0 (get_or sp v 0)) k) in omega arith) (true_or_false y)

pub queued_start : (tail : ℕ) (sp ws : List ℕ) → length ws ≡ 4352 → Queued tail sp ws tail sp ws
queued_start tail sp ws l =
    record {
      long = l;
      grows = λ h. le_refl tail;
      front = λ i h o. refl;
      waits = λ h u k z. ◌⊎◌.inl z;
      small = λ i a b. absurd (omega arith);
    }

-- an account stands at the end of the queue, or behind it, and the rest stays
pub queued_dropped_supporter : {y : Bool} {v tail r r' : ℕ} {sp₀ ws₀ sp ws sp' ws' : List ℕ}
    → v < 4096
    → r < 4352
    → length sp ≡ 4096
    → Queued tail sp₀ ws₀ r sp ws
    → DroppedSupporter y v r sp ws sp' ws' r'
    → Queued tail sp₀ ws₀ r' sp' ws'
queued_dropped_supporter {y} {v} {tail} {r} {r'} {sp₀} {ws₀} {sp} {ws} {sp'} {ws'} small room len Q L =
    record {
      long = ap length L.queued ∙ (length-set ws r v ∙ Q.long);
      grows = λ h. let a = up in let o = on.0 in omega arith;
      front = λ i h o. kept i (λ e. let a = up in omega arith) ∙ Q.front i h o;
      waits = λ h u k w.
          ⊎_elim (λ e. at_v (sym (at_place sp' e) ∙ w) u e) (λ n. before u k (sym (dropped_supporter_else L u n) ∙ w))
          (same_or u v);
      small = λ i a b c.
          ⊎_elim (λ e. let m = at_place ws' e in let n = there in omega arith)
          (λ n. subst (λ (m : ℕ). m < 4096) (sym (kept i n)) (Q.small i a (apart i n b) c)) (same_or i r);
    }
  where
    up : tail ≤ r
    up = Q.grows (omega arith)

    on : (r ≤ r') × (r' ≤ r + 1)
    on = ⊎_elim (λ e. let h = e.0 in (omega arith, omega arith)) (λ e. (omega arith, omega arith)) L.ended

    there : get_or ws' r 0 ≡ v
    there = in_list r L.queued ∙ get_or-set_same ws r v 0 (let m = Q.long in omega arith)

    kept : (i : ℕ) → (i ≡ r → ⊥) → get_or ws' i 0 ≡ get_or ws i 0
    kept i n = in_list i L.queued ∙ get_or-set_other ws r i v 0 n

    apart : (i : ℕ) → (i ≡ r → ⊥) → i < r' → i < r
    apart i n b = ⊎_elim (λ q. absurd (n q)) (λ k. k) (eq-or-lt_of_le (let o = on.1 in omega arith))

    before : (u : ℕ) → u < 4096 → get_or sp u 0 ≡ 0 → (get_or sp₀ u 0 ≡ 0) ⊎ Place ws' tail r' u
    before u k w =
        ⊎_elim ◌⊎◌.inl
        (λ P.
        let b = P.below in
        let o = on.0 in
        ◌⊎◌.inr (record {
          place = P.place;
          from = P.from;
          below = omega arith;
          is = kept P.place (λ e. omega arith) ∙ P.is;
        }))
        (Q.waits (omega arith) u k w)

    at_v : get_or sp' v 0 ≡ 0 → (u : ℕ) → u ≡ v → (get_or sp₀ u 0 ≡ 0) ⊎ Place ws' tail r' u
    at_v w u e =
        ⊎_elim (λ h. before u (omega arith) (at_place sp e ∙ h.1 (sym (dropped_supporter_at small len L) ∙ w)))
        (λ h. ◌⊎◌.inr (record { place = r; from = up; below = omega arith; is = there ∙ sym e })) L.ended

pub queued_then : {a b c : ℕ} {sp ws sp₁ ws₁ sp₂ ws₂ : List ℕ} → Queued a sp ws b sp₁ ws₁
    → Queued b sp₁ ws₁ c sp₂ ws₂ → Queued a sp ws c sp₂ ws₂
queued_then {a} {b} {c} {sp} {ws} {sp₁} {ws₁} {sp₂} {ws₂} P Q =
    record {
      long = Q.long;
      grows = λ h. let m = Q.grows h in let n = P.grows (omega arith) in omega arith;
      front = λ i h o.
          Q.front i
          (⊎_elim (λ y. let n = P.grows (leb-true b 4352 y) in omega arith)
          (λ y. let n = leb-false b 4352 y in omega arith) (true_or_false (leb b 4352)))
          o
          ∙ P.front i h o;
      waits = λ h u l z.
          let m = Q.grows h in
          let n = P.grows (omega arith) in
          ⊎_elim (λ y. ⊎_elim ◌⊎◌.inl
          (λ p. let k = p.below in
          ◌⊎◌.inr (record {
            place = p.place;
            from = p.from;
            below = omega arith;
            is = Q.front p.place k (omega arith) ∙ p.is;
          }))
          (P.waits (omega arith) u l y))
          (λ p. let k = p.from in
          ◌⊎◌.inr (record { place = p.place; from = omega arith; below = p.below; is = p.is }))
          (Q.waits h u l z);
      small = λ i h k o.
          ⊎_elim (λ y. Q.small i (leb-true b i y) k o)
          (λ y. let l = leb-false b i y in subst (λ (m : ℕ). m < 4096) (sym (Q.front i l o)) (P.small i h l o))
          (true_or_false (leb b i));
    }

-- ---- who loses a supporter by a rise

module _ (t : Table) (x : ℕ → ℕ) (lo u old new : ℕ) (sp₀ : List ℕ) where
  dropped_supported_start : length sp₀ ≡ 4096 → DroppedSupported t x lo u lo old new sp₀ sp₀
  dropped_supported_start l =
      record {
        long = l;
        less = λ w. le_refl (get_or sp₀ w 0);
        dropped = λ j a f. let y = lead_from t lo j f in absurd (omega arith);
      }

  module _ {b : ℕ} {sp : List ℕ} (O : DroppedSupported t x lo u b old new sp₀ sp) where
    -- what is left takes nothing
    dropped_supported_all : (m : ℕ)
        → ((i : ℕ) → b ≤ i → i < m → leads t lo i ≡ true → touches t i u ≡ true → day_of t i ≤ x (other_of t i u)
        → x (other_of t i u) < new → ⊥)
        → DroppedSupported t x lo u m old new sp₀ sp
    dropped_supported_all m late =
        record {
          long = O.long;
          less = O.less;
          dropped = λ i k f h p o n. ⊎_elim (λ y. absurd (late i (leb-true b i y) k f h o n))
              (λ y. O.dropped i (leb-false b i y) f h p o n) (true_or_false (leb b i));
        }

    dropped_supported_next : (j : ℕ) {y : Bool} {v tail r : ℕ} {ws sp' ws' : List ℕ}
        → ((i : ℕ) → b ≤ i → i < j → leads t lo i ≡ true → touches t i u ≡ true → x (other_of t i u) < new → ⊥)
        → v ≡ other_of t j u
        → v < 4096
        → (leads t lo j ≡ true → old ≤ x v → day_of t j ≤ x v → x v < new → y ≡ true)
        → DroppedSupporter y v tail sp ws sp' ws' r
        → DroppedSupported t x lo u (j + 1) old new sp₀ sp'
    dropped_supported_next j {y} {v} {sp' = sp'} none ev small is_dropped L =
        let D = dropped_supporter_less small O.long L in
        record {
          long = D.long;
          less = λ w. le_trans (D.down w) (O.less w);
          dropped = λ i k f h p o n.
              ⊎_elim (λ z. ⊎_elim (λ q. here i q f p o n) (λ q. absurd (none i (leb-true b i z) q f h n))
              (eq-or-lt_of_le (omega arith)))
              (λ z. let m = O.dropped i (leb-false b i z) f h p o n in let d = D.down (other_of t i u) in
              omega arith)
              (true_or_false (leb b i));
        }
      where
        here : (i : ℕ)
            → i ≡ j
            → leads t lo i ≡ true
            → old ≤ x (other_of t i u)
            → day_of t i ≤ x (other_of t i u)
            → x (other_of t i u) < new
            → get_or sp' (other_of t i u) 0 ≤ get_or sp₀ (other_of t i u) 0 - 1
        here i q f p o n =
            let e : other_of t i u ≡ v = ap (λ (c : ℕ). other_of t c u) q ∙ sym ev in
            let z : x (other_of t i u) ≡ x v = ap x e in
            let g : day_of t i ≡ day_of t j = ap (day_of t) q in
            let d = (dropped_supporter_less small O.long L).one
            (is_dropped (subst (λ (c : ℕ). leads t lo c ≡ true) q f) (omega arith) (omega arith) (omega arith)) in
            let a = at_place sp' e in let c = at_place sp₀ e in let m = O.less v in omega arith

-- the rows of u below b, which stand before place p, have been seen; the queue had tail entries, and has end
pub record DroppingSupported (d f g scratch : List ℕ) (r : Frame) (xs : List ℕ) (u old new tail : ℕ)
    (sp₀ ws₀ : List ℕ) (b p end : ℕ) (sp ws : List ℕ) : Type 0 where
  pub reading : Reading scratch u b p
  pub done : DroppedSupported (table_of d f g) (estimate xs) r.lo u b old new sp₀ sp
  pub queued : Queued tail sp₀ ws₀ end sp ws

module _ (d f g scratch : List ℕ) (r : Frame) (R : ReadyPruned (table_of d f g) scratch r) (xs : List ℕ)
    (len : length xs ≡ 4096) {u : ℕ} (small : u < 4096)
    (E : Every (table_of d f g) (estimate xs) r.lo u scratch) (D : Days r.stop xs) (old new : ℕ)
    (en : new ≡ get_or xs u 0) (tail : ℕ) (sp₀ ws₀ : List ℕ) where
  abbrev tw : Table
  tw = table_of d f g

  pub new_most : new ≤ never
  new_most = let h = R.setting.fits in ⊎_elim (λ y. omega arith) (λ y. omega arith) (D u small)

  -- a first row of u that the walk passed over takes nobody away
  over : {i : ℕ} → (i < r.lo) ⊎ (estimate xs (other_of tw i u) ≡ never) → leads tw r.lo i ≡ true
      → estimate xs (other_of tw i u) < new → ⊥
  over {i} o f h = let a = lead_from tw r.lo i f in let m = new_most in ⊎_elim (λ z. omega arith) (λ z. omega arith) o

  pub dropping_start : {p : ℕ}
      → length sp₀ ≡ 4096
      → length ws₀ ≡ 4352
      → Reading scratch u r.lo p
      → DroppingSupported d f g scratch r xs u old new tail sp₀ ws₀ r.lo p tail sp₀ ws₀
  dropping_start l m A =
      record {
        reading = A;
        done = dropped_supported_start tw (estimate xs) r.lo u old new sp₀ l;
        queued = queued_start tail sp₀ ws₀ m;
      }

  module _ {b p end last : ℕ} {sp ws : List ℕ}
      (W : DroppingSupported d f g scratch r xs u old new tail sp₀ ws₀ b p end sp ws)
      (ee : last ≡ get_or scratch u 0) where
    pub dropping_out : last ≤ p
        → DroppedSupported tw (estimate xs) r.lo u (length d) old new sp₀ sp × Queued tail sp₀ ws₀ end sp ws
    dropping_out h = (
      dropped_supported_all tw (estimate xs) r.lo u old new sp₀ W.done (length d)
          (λ i a k z y p o. over
          (reading_out d f g scratch R.sound R.pruned small W.reading ee E h i a k y) z o),
      W.queued,
    )

    module _ (more : p < last) {it : Incident} (I : RowRead tw scratch r.lo u p it) where
      w_gap : (i : ℕ) → b ≤ i → i < it.row → touches tw i u ≡ true → (i < r.lo) ⊎ (estimate xs (other_of tw i u) ≡ never)
      w_gap = reading_gap d f g scratch R.sound R.pruned small W.reading ee more I.row E

      -- a row of u from there on takes none: it was passed over, or is dated on the new time or later, or behind the range
      pub dropping_late : {until : ℕ} → until ≡ min new (r.stop + 1) → until ≤ it.day → (i : ℕ) → b ≤ i
          → i < length d → touches tw i u ≡ true
          → ((i < r.lo) ⊎ (estimate xs (other_of tw i u) ≡ never)) ⊎ ((new ≤ day_of tw i) ⊎ (r.stop < day_of tw i))
      dropping_late eu h i a k y =
          ⊎_elim
          (λ z.
          let o = R.setting.rising it.row i (leb-true it.row i z) k in
          let e = I.day in
          ◌⊎◌.inr
          (⊎_elim (λ m. let c = leb-true new (day_of tw i) m in ◌⊎◌.inl c)
          (λ m. let c = leb-false new (day_of tw i) m in ◌⊎◌.inr (omega arith))
          (true_or_false (leb new (day_of tw i)))))
          (λ z. ◌⊎◌.inl (w_gap i a (leb-false it.row i z) y)) (true_or_false (leb it.row i))

      pub dropping_stop : {until : ℕ} → until ≡ min new (r.stop + 1) → until ≤ it.day
          → DroppedSupported tw (estimate xs) r.lo u (length d) old new sp₀ sp × Queued tail sp₀ ws₀ end sp ws
      dropping_stop eu h = (
        dropped_supported_all tw (estimate xs) r.lo u old new sp₀ W.done (length d)
            (λ i a k z y p o.
            let v = other_small tw r.query r.start r.stop r.lo R.setting i u k y in
            let gv = estimate_at xs (other_of tw i u) len v in
            ⊎_elim (λ m. over m z o)
            (λ w. ⊎_elim (λ m. omega arith)
            (λ m. ⊎_elim (λ c. omega arith) (λ c. let n = new_most in omega arith) (D (other_of tw i u) v))
            w)
            (dropping_late eu h i a k y)),
        W.queued,
      )

      pub dropping_next : {w : Bool} {z own end' : ℕ} {sp' ws' : List ℕ}
          → end < 4352
          → z ≡ get_or xs it.other 0
          → own ≡ max old it.day
          → w ≡ (leb own z && ltb z new)
          → DroppedSupporter (it.leads && w) it.other end sp ws sp' ws' end'
          → DroppingSupported d f g scratch r xs u old new tail sp₀ ws₀ (it.row + 1) (p + 1) end' sp' ws'
      dropping_next {w} {z} {own} room ez eo ew L =
          record {
            reading = reading_next d f g scratch R.sound R.pruned small W.reading ee more I.row;
            done =
                dropped_supported_next tw (estimate xs) r.lo u old new sp₀ W.done it.row
                (λ i a k z y o. over (w_gap i a k y) z o) I.other I.small dropped L;
            queued = queued_dropped_supporter I.small room W.done.long W.queued L;
          }
        where
          time : z ≡ estimate xs it.other
          time = ez ∙ sym (estimate_at xs it.other len I.small)

          dropped : leads tw r.lo it.row ≡ true
              → old ≤ estimate xs it.other
              → day_of tw it.row ≤ estimate xs it.other
              → estimate xs it.other < new
              → (it.leads && w) ≡ true
          dropped h a c n =
              let t = time in
              let e = I.day in
              both (I.leads (lead_from tw r.lo it.row h) ∙ h)
              (ew ∙ both (le-leb own z (omega arith)) (lt-ltb z new (omega arith)))
