-- Who is listed by a scan for a rise loses a supporter when it comes (src/supporters.rt, drop_listed_supporters).
--     DroppingListed, dropping_listed_start, dropping_listed_next, dropping_listed_end     the loop
--     rise_scanned_dropped_supported     who is listed is who loses u by the rise
-- Assumes nothing.
use Prim.Native.Nat.{ℕ, ◌+◌, ◌-◌, ◌≤◌, ◌<◌}
use native.Mathlib.Nat.{le_refl, le_trans, eq-or-lt_of_le}
use native.Mathlib.Omega.{arith}
use mathlib.Core.Path.{◌≡◌, refl, sym, ◌∙◌}
use mathlib.Core.Logic.{⊎_elim}
use mathlib.Core.Bool.{true}
use mathlib.Core.List.{List}
use lib.ListN.{length, get_or, set}
use lib.Seq.{get_or-set_other}
use Rattle.rings.specs.Table.{Table, size, day_of}
use Rattle.rings.specs.Ring.{touches}
use Rattle.rings.specs.CoreTimes.{never}
use Rattle.rings.specs.Inner.Adjacency.{other_of, leads}
use Rattle.rings.specs.Inner.Peeling.{Setting, Place, estimate}
use Rattle.rings.specs.Inner.Settling.{value, Days, RiseScanned, DroppedSupporter, DroppedListed}
use Rattle.rings.specs.Inner.Settling.{DroppedSupported, Queued}
use Rattle.rings.specs.declared.Query.{Query}
use Rattle.rings.proofs.PairLaws.{other_apart}
use Rattle.rings.proofs.LeadLaws.{lead_counts}
use Rattle.rings.proofs.PeelStateLaws.{estimate_at, other_small}
use Rattle.rings.proofs.SupporterLaws.{at_place, in_list, dropped_supporter_less, dropped_supporter_on}
use Rattle.rings.proofs.SupporterLaws.{queued_start, queued_dropped_supporter}
use Rattle.rings.proofs.RiseScanLaws.{}

-- ---- who is listed loses a supporter

-- the accounts before place p of the list have lost one; the queue ends at `end`, and from p on the list is as it was
pub record DroppingListed (tail : ℕ) (sp₀ ws₀ : List ℕ) (p end : ℕ) (sp ws : List ℕ) : Type 0 where
  pub behind : end ≤ p
  pub queued : Queued tail sp₀ ws₀ end sp ws
  pub fewer : DroppedListed tail p ws₀ sp₀ sp
  pub rest : (i : ℕ) → p ≤ i → get_or ws i 0 ≡ get_or ws₀ i 0

pub dropping_listed_start : (tail : ℕ) (sp ws : List ℕ) → length sp ≡ 4096 → length ws ≡ 4352
    → DroppingListed tail sp ws tail tail sp ws
dropping_listed_start tail sp ws l m =
    record {
      behind = le_refl tail;
      queued = queued_start tail sp ws m;
      fewer = record { long = l; less = λ w. le_refl (get_or sp w 0); each = λ i a b. absurd (omega arith) };
      rest = λ i h. refl;
    }

pub dropping_listed_next : {tail p end end' v : ℕ} {sp₀ ws₀ sp ws sp' ws' : List ℕ}
    → DroppingListed tail sp₀ ws₀ p end sp ws
    → p < 4352
    → v ≡ get_or ws p 0
    → v < 4096
    → DroppedSupporter true v end sp ws sp' ws' end'
    → DroppingListed tail sp₀ ws₀ (p + 1) end' sp' ws'
dropping_listed_next {p = p} {end = end} {v = v} {sp₀ = sp₀} {ws₀ = ws₀} {ws = ws} {sp' = sp'} Z here ev small L =
    let o = Z.behind in
    let D = dropped_supporter_less small Z.fewer.long L in
    record {
      behind = let h = dropped_supporter_on L in omega arith;
      queued = queued_dropped_supporter small (omega arith) Z.fewer.long Z.queued L;
      fewer =
          record {
            long = D.long;
            less = λ w. le_trans (D.down w) (Z.fewer.less w);
            each = λ i a b.
                ⊎_elim (λ e.
                let h : get_or ws₀ i 0 ≡ v = at_place ws₀ e ∙ (sym (Z.rest p (le_refl p)) ∙ sym ev) in
                let k = at_place sp' h in
                let m = at_place sp₀ h in
                let n = D.one refl in
                let c = Z.fewer.less v in
                omega arith)
                (λ l. let h = Z.fewer.each i a l in let k = D.down (get_or ws₀ i 0) in omega arith)
                (eq-or-lt_of_le (let r : i ≤ p = omega arith in r));
          };
      rest = λ i h. in_list i L.queued ∙ (get_or-set_other ws end i v 0 (λ e. omega arith) ∙ Z.rest i (omega arith));
    }

pub dropping_listed_end : {tail p upto end : ℕ} {sp₀ ws₀ sp ws : List ℕ}
    → DroppingListed tail sp₀ ws₀ p end sp ws
    → upto ≤ p
    → DroppedListed tail upto ws₀ sp₀ sp
dropping_listed_end Z h =
    record { long = Z.fewer.long; less = Z.fewer.less; each = λ i a b. Z.fewer.each i a (omega arith) }

-- ---- and is who loses u by the rise

pub rise_scanned_dropped_supported : (t : Table) (q : Query) (s hi lo : ℕ)
    → Setting t q s hi lo
    → (xs : List ℕ) → length xs ≡ 4096
    → Days hi xs
    → {u c new moved tail end : ℕ} {ws ws₁ sp sp' : List ℕ}
    → new ≤ never
    → RiseScanned t (estimate xs) lo hi c u (size t) new moved tail end ws
    → ((i : ℕ) → tail ≤ i → get_or ws₁ i 0 ≡ get_or ws i 0)
    → DroppedListed tail end ws₁ sp sp'
    → DroppedSupported t (estimate (set xs u new)) lo u (size t) c new sp sp'
unfolding estimate value
rise_scanned_dropped_supported t q s hi lo S xs len D {u} {c} {new} {tail = tail} {end = end} {ws = ws}
    {ws₁ = ws₁} {sp = sp} {sp' = sp'} top G same F =
    record {
      long = F.long;
      less = F.less;
      dropped = λ j l f h a b k. let e = same_time j l h in
          loses j l f h (omega arith) (omega arith) (omega arith);
    }
  where
    same_time : (j : ℕ) → j < size t → touches t j u ≡ true
        → estimate (set xs u new) (other_of t j u) ≡ estimate xs (other_of t j u)
    same_time j l h = get_or-set_other xs u (other_of t j u) new never (other_apart t j u (S.accounts j l) h)

    taken : {v : ℕ} → Place ws tail end v → get_or sp' v 0 ≤ get_or sp v 0 - 1
    taken {v} P =
        let e : get_or ws₁ P.place 0 ≡ v = same P.place P.from ∙ P.is in
        let m = F.each P.place P.from P.below in
        let n = at_place sp' e in let o = at_place sp e in omega arith

    loses : (j : ℕ)
        → j < size t
        → leads t lo j ≡ true
        → touches t j u ≡ true
        → c ≤ estimate xs (other_of t j u)
        → day_of t j ≤ estimate xs (other_of t j u)
        → estimate xs (other_of t j u) < new
        → get_or sp' (other_of t j u) 0 ≤ get_or sp (other_of t j u) 0 - 1
    loses j l f h a b k =
        let v = other_small t q s hi lo S j u l h in
        let g = estimate_at xs (other_of t j u) len v in
        let day : day_of t j ≤ hi = ⊎_elim (λ y. omega arith) (λ y. absurd (omega arith)) (D (other_of t j u) v) in
        let same_day : estimate xs (other_of t j u) ≡ c =
        ⊎_elim (λ y. omega arith) (λ y. absurd (omega arith)) (G.apart j (lead_counts t lo j f) l h day) in
        taken (G.loses j l f h same_day (omega arith))
