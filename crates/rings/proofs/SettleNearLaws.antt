-- Settling one account by the common way (src/settle.rt, `settle_near`), and what stays where nothing changed.
--     behind_rising, same_short, same_rising, same_covered, same_counted     what is written behind the queue changes
--         nothing
--     scanned_on, rise_scanned_on, moving_on     a scan, or a move, on a day that has two names
--     account_days, account_now, account_never, account_every, account_counts_before_rise        what the loop over
--         its rows asks of it
--     near_day, near_every, near_short, near_same, near_never, near_asks, near_counts, near_small, near_rise     the
--         common way: one walk is enough
-- Assumes nothing.
use Prim.Native.Nat.{ℕ, ◌+◌, ◌-◌, ◌≤◌, ◌<◌}
use native.Mathlib.Nat.{le_refl, eq-or-lt_of_le}
use native.Mathlib.Omega.{arith}
use mathlib.Core.Path.{◌≡◌, refl, sym, ◌∙◌, ap, subst}
use mathlib.Core.Logic.{◌⊎◌, ⊎_elim}
use mathlib.Core.List.{List}
use lib.ListN.{length, get_or, set}
use lib.Seq.{get_or-set_same, get_or-set_other}
use Rattle.rings.specs.Table.{Table, table_of, size}
use Rattle.rings.specs.CoreTimes.{never}
use Rattle.rings.specs.Inner.Adjacency.{Every, Covered}
use Rattle.rings.specs.Inner.Peeling.{Setting, estimate, Place}
use Rattle.rings.specs.Inner.Settling.{moving, Days, DayScanned, Behind, RiseScanned, Short, SlackAbove}
use Rattle.rings.specs.Inner.Settling.{DayFound, DroppedListed, Queued, Rising}
use Rattle.rings.specs.Inner.Counting.{time_by, Histogram, Moving, CountsBeforeRise, MoveAsks}
use Rattle.rings.specs.declared.Query.{Query}
use Rattle.rings.proofs.WordLaws.{same_or}
use Rattle.rings.proofs.PeelStateLaws.{estimate_at}
use Rattle.rings.proofs.FindDayLaws.{few_start, find_day_next, find_day_found, find_day_near, short_start}
use Rattle.rings.proofs.FindDayLaws.{short_next}
use Rattle.rings.proofs.SupporterLaws.{in_list}
use Rattle.rings.proofs.PrunedLaws.{every_rise}
use Rattle.rings.proofs.MovingLaws.{Moves, moving_asks, moving_hist}
use Rattle.rings.proofs.ShiftLaws.{rise_moves}
use Rattle.rings.proofs.ListedLaws.{rise_scanned_dropped_supported}
use Rattle.rings.proofs.SettleLaws.{account_same, account_rise}

-- what is written behind the queue changes nothing
pub behind_rising : {t : Table} {q : Query} {hi s : ℕ} {xs₀ xs sp ws ws' : List ℕ} {head tail m : ℕ}
    → Behind tail ws ws'
    → Rising t q hi s xs₀ xs sp ws head tail m
    → Rising t q hi s xs₀ xs sp ws' head tail m
behind_rising {ws = ws} {ws' = ws'} {tail = tail} B Z =
    let o = Z.waiting.ordered in let b = Z.behind in
    record {
      settling = Z.settling;
      waiting =
          record {
            long = B.long;
            ordered = o;
            waits = λ u l z. stands (Z.waiting.waits u l z);
            small = λ i a c. subst (λ (n : ℕ). n < 4096) (sym (B.front i c)) (Z.waiting.small i a c);
          };
      behind = b;
      raised =
          record {
            long = B.long;
            within = Z.raised.within;
            small = λ i a. subst (λ (n : ℕ). n < 4096) (sym (B.front i (omega arith))) (Z.raised.small i a);
            listed = λ u l n.
                let P = Z.raised.listed u l n in
                let c = P.below in
                record {
                  place = P.place;
                  from = P.from;
                  below = c;
                  is = B.front P.place (omega arith) ∙ P.is;
                };
          };
    }
  where
    stands : {head u : ℕ} → Place ws head tail u → Place ws' head tail u
    stands P =
        record { place = P.place; from = P.from; below = P.below; is = B.front P.place P.below ∙ P.is }

-- and equal lists are as good
pub same_short : (t : Table) (s k hi : ℕ) {xs xs' : List ℕ} {u d : ℕ}
    → xs' ≡ xs
    → Short t (estimate xs) s k hi (get_or xs u 0) u d
    → Short t (estimate xs') s k hi (get_or xs' u 0) u d
same_short t s k hi {u = u} {d = d} e = subst (λ (ys : List ℕ). Short t (estimate ys) s k hi (get_or ys u 0) u d) (sym e)

pub same_rising : {t : Table} {q : Query} {hi s : ℕ} {xs₀ xs xs' sp sp' ws ws' : List ℕ} {head tail m : ℕ}
    → xs' ≡ xs
    → sp' ≡ sp
    → Behind tail ws ws'
    → Rising t q hi s xs₀ xs sp ws head tail m
    → Rising t q hi s xs₀ xs' sp' ws' head tail m
same_rising {t} {q} {hi} {s} {xs₀} {xs} {xs'} {sp} {sp'} {ws} {ws'} {head} {tail} {m} e h B Z =
    subst (λ (ys : List ℕ). Rising t q hi s xs₀ ys sp' ws' head tail m) (sym e)
    (subst (λ (ys : List ℕ). Rising t q hi s xs₀ xs ys ws' head tail m) (sym h) (behind_rising B Z))

pub same_covered : {t : Table} {lo : ℕ} {xs xs' sc : List ℕ} → xs' ≡ xs → Covered t (estimate xs) lo sc
    → Covered t (estimate xs') lo sc
same_covered {t} {lo} {sc = sc} e = subst (λ (ys : List ℕ). Covered t (estimate ys) lo sc) (sym e)

pub same_counted : (t : Table) (s hi : ℕ) {n : ℕ} {xs xs' counts counts' : List ℕ}
    → xs' ≡ xs
    → counts' ≡ counts
    → Histogram (time_by t (estimate xs) s hi) n counts
    → Histogram (time_by t (estimate xs') s hi) n counts'
same_counted t s hi {n} {xs} {xs'} {counts} {counts'} e h T =
    subst (λ (ys : List ℕ). Histogram (time_by t (estimate ys) s hi) n counts') (sym e)
    (subst (Histogram (time_by t (estimate xs) s hi) n) (sym h) T)

-- a scan on a day is one on any number that is equal to it, and so is a move from it
pub scanned_on : {t : Table} {x : ℕ → ℕ} {lo hi c c' u b k n above more : ℕ} → c ≡ c'
    → DayScanned t x lo hi c u b k n above more → DayScanned t x lo hi c' u b k n above more
scanned_on {t} {x} {lo} {hi} {u = u} {b = b} {k = k} {n = n} {above = above} {more = more} =
    subst (λ (c : ℕ). DayScanned t x lo hi c u b k n above more)

pub rise_scanned_on : {t : Table} {x : ℕ → ℕ} {lo hi c c' u b above moved tail end : ℕ} {ws : List ℕ} → c ≡ c'
    → RiseScanned t x lo hi c u b above moved tail end ws → RiseScanned t x lo hi c' u b above moved tail end ws
rise_scanned_on {t} {x} {lo} {hi} {u = u} {b = b} {above = above} {moved = moved} {tail = tail} {end = end} {ws = ws} =
    subst (λ (c : ℕ). RiseScanned t x lo hi c u b above moved tail end ws)

pub moving_on : {m c c' new : ℕ} {xs xs' : List ℕ} → c ≡ c' → Moving m c new xs xs' → Moving m c' new xs xs'
moving_on {m} {new = new} {xs = xs} {xs' = xs'} = subst (λ (c : ℕ). Moving m c new xs xs')

-- what the loop over its rows asks of an account that rose
module _ (xs : List ℕ) {t : Table} {k s hi u y m : ℕ} (fits : hi < never) (long : length xs ≡ 4096)
    (small : u < 4096) (D : Days hi xs) (K : DayFound t (estimate xs) s k hi (get_or xs u 0) u y m) where
  pub account_days : Days hi (set xs u y)
  account_days v l =
      ⊎_elim (λ e. let g : get_or (set xs u y) v 0 ≡ y = ap (λ (c : ℕ). get_or (set xs u y) c 0) e
      ∙ get_or-set_same xs u y 0 (omega arith) in
      ⊎_elim (λ o. ◌⊎◌.inr (g ∙ o)) (λ o. let a = o.0 in ◌⊎◌.inl (omega arith)) K.least.enough)
      (λ n. subst (λ (c : ℕ). (c ≤ hi) ⊎ (c ≡ never)) (sym (get_or-set_other xs u v y 0 n)) (D v l)) (same_or v u)

  pub account_now : y ≡ get_or (set xs u y) u 0
  account_now = sym (get_or-set_same xs u y 0 (omega arith))

  -- who has no time has none after it
  pub account_never : (v : ℕ) → estimate xs v ≡ never → estimate (set xs u y) v ≡ never
  unfolding estimate
  account_never v e =
      ⊎_elim (λ o.
      let g : get_or xs u never ≡ get_or xs u 0 = estimate_at xs u long small in
      let h : get_or xs v never ≡ get_or xs u never = ap (λ (c : ℕ). get_or xs c never) o in
      let z : get_or (set xs u y) v never ≡ y =
      ap (λ (c : ℕ). get_or (set xs u y) c never) o ∙ get_or-set_same xs u y never (omega arith) in
      let a = K.least.from in
      ⊎_elim (λ w. z ∙ w) (λ w. let b = w.0 in absurd (omega arith)) K.least.enough)
      (λ n. get_or-set_other xs u v y never n ∙ e) (same_or v u)

  -- an account that rose had one, so its rows stand in the adjacency, but for those whose other account has none
  pub account_every : {lo : ℕ} {sc : List ℕ} → (y ≡ get_or xs u 0 → ⊥) → Covered t (estimate xs) lo sc
      → Every t (estimate (set xs u y)) lo u sc
  account_every {lo} n C =
      every_rise account_never (le_refl lo)
      (C.rows u small
      (λ e.
      let g = estimate_at xs u long small in
      let a = K.least.from in
      ⊎_elim (λ w. n (omega arith)) (λ w. let b = w.0 in omega arith) K.least.enough))

  pub account_counts_before_rise : {counts : List ℕ}
      → (y ≡ get_or xs u 0 → ⊥)
      → hi ≤ 1024
      → Histogram (time_by t (estimate xs) s hi) (size t) counts
      → CountsBeforeRise t s hi u (get_or xs u 0) y (set xs u y) counts
  account_counts_before_rise n top T =
      let a = K.least.from in
      let up : get_or xs u 0 < y = ⊎_elim (λ e. absurd (n (sym e))) (λ e. e) (eq-or-lt_of_le a) in
      record {
        was = xs;
        long = long;
        then = refl;
        from = refl;
        up = up;
        day =
            ⊎_elim (λ e. e)
            (λ e. ⊎_elim (λ o. absurd (omega arith)) (λ o. let b = o.0 in absurd (omega arith)) K.least.enough)
            (D u small);
        top = top;
        counted = T;
      }

-- ---- the common way: one walk is enough

module _ (d f g : List ℕ) (q : Query) (s te lo : ℕ) (S : Setting (table_of d f g) q s te lo) (xs : List ℕ)
    (len : length xs ≡ 4096) (D : Days te xs) {u : ℕ} (small : u < 4096) (timed : get_or xs u 0 ≡ never → ⊥) where
  abbrev tn : Table
  tn = table_of d f g

  abbrev old : ℕ
  old = get_or xs u 0

  pub near_day : old ≤ te
  near_day = ⊎_elim (λ y. y) (λ y. absurd (timed y)) (D u small)

  pub near_every : {sc : List ℕ} → Covered tn (estimate xs) lo sc → Every tn (estimate xs) lo u sc
  near_every C = C.rows u small (λ e. timed (sym (estimate_at xs u len small) ∙ e))

  near_here : Short tn (estimate xs) s q.k te old u old
  near_here = short_start tn q s te lo S (estimate xs) old u (D u small)

  front_stays : {ws₀ ws : List ℕ} {head tail : ℕ} → Behind tail ws₀ ws → get_or ws₀ head 0 ≡ u → head < tail
      → get_or ws head 0 ≡ u
  front_stays {head = head} B e h = B.front head h ∙ e

  module _ {n above more : ℕ} (A : DayScanned tn (estimate xs) lo te old u (length d) q.k n above more) where
    -- u has enough still
    pub near_same : {xs₀ sp ws₀ ws : List ℕ} {head tail r : ℕ}
        → q.k ≤ n
        → Behind tail ws₀ ws
        → Rising tn q te s xs₀ xs sp ws₀ head tail r
        → get_or ws₀ head 0 ≡ u
        → head < tail
        → tail ≤ 4352
        → Rising tn q te s xs₀ xs (set sp u (n + 1 - q.k)) ws (head + 1) tail r
    near_same {ws₀ = ws₀} {ws = ws} {head = head} h B Z front here room =
        let Y = behind_rising B Z in
        account_same tn q s te lo S Y.settling small
        (find_day_found tn q s te lo S (estimate xs) (few_start tn q s te lo S (estimate xs) old u)
        (le_refl old) A h near_day refl)
        Y.waiting (front_stays B front here) Y.behind Y.raised here room refl

    -- it has too few on the days before the day above
    pub near_short : n < q.k → Short tn (estimate xs) s q.k te old u above
    near_short few = short_next tn q s te lo S (estimate xs) near_here A few

    -- or it has enough there
    module _ {both m moved tail end : ℕ} {ws : List ℕ} (few : n < q.k) (eb : both ≡ n + more)
        (P : SlackAbove above both q.k m) (some : m ≡ 0 → ⊥)
        (G : RiseScanned tn (estimate xs) lo te old u (length d) above moved tail end ws) where
      near_day_found : DayFound tn (estimate xs) s q.k te old u above m
      near_day_found = find_day_near tn q s te lo S (estimate xs) A few eb P some

      near_step : (old < above) × ((above ≤ te) ⊎ (above ≡ never))
      near_step =
          let L = find_day_next tn q s te lo S (estimate xs) (few_start tn q s te lo S (estimate xs) old u) A few in
          (L.1, L.2)

      pub near_never : (v : ℕ) → estimate xs v ≡ never → estimate (set xs u above) v ≡ never
      near_never = account_never xs S.fits len small D near_day_found

      near_moves : Moves (time_by tn (estimate xs) s te) (time_by tn (estimate (set xs u above)) s te)
          (moving tn (estimate xs) lo old u) old above (length d)
      near_moves =
          rise_moves tn q s te lo S u old above (set xs u above) small xs len refl refl near_step.0 near_day G

      pub near_asks : {counts : List ℕ}
          → length d ≤ 16384
          → te ≤ 1024
          → Histogram (time_by tn (estimate xs) s te) (length d) counts
          → MoveAsks moved old above counts
      near_asks most top T =
          moving_asks (moving tn (estimate xs) lo old u) (time_by tn (estimate xs) s te)
          (time_by tn (estimate (set xs u above)) s te) old above near_moves T G.moves most
          (let h = near_day in omega arith) (⊎_elim (λ y. ◌⊎◌.inl (omega arith)) ◌⊎◌.inr near_step.1)

      pub near_counts : {counts counts' : List ℕ}
          → Histogram (time_by tn (estimate xs) s te) (length d) counts
          → Moving moved old above counts counts'
          → Histogram (time_by tn (estimate (set xs u above)) s te) (length d) counts'
      near_counts T M =
          moving_hist (moving tn (estimate xs) lo old u) (time_by tn (estimate xs) s te)
          (time_by tn (estimate (set xs u above)) s te) old above near_moves T G.moves M

      -- what is listed behind the queue stands there still when u is listed as raised
      near_list : {ws₁ : List ℕ} {r : ℕ} → ws₁ ≡ set ws r u → r < tail → (i : ℕ) → tail ≤ i → get_or ws₁ i 0 ≡ get_or ws i 0
      near_list {r = r} e h i a = in_list i e ∙ get_or-set_other ws r i u 0 (λ o. omega arith)

      pub near_small : {ws₁ : List ℕ} {r : ℕ} → ws₁ ≡ set ws r u → r < tail → (i : ℕ) → tail ≤ i → i < end
          → get_or ws₁ i 0 < 4096
      near_small e h i a b = subst (λ (c : ℕ). c < 4096) (sym (near_list e h i a)) (G.small i a b)

      pub near_rise : {xs₀ sp sp'' ws₀ ws₁ ws'' : List ℕ} {head r e : ℕ}
          → Behind tail ws₀ ws
          → Rising tn q te s xs₀ xs sp ws₀ head tail r
          → get_or ws₀ head 0 ≡ u
          → head < tail
          → tail ≤ 4352
          → ws₁ ≡ set ws r u
          → Queued tail (set sp u m) ws₁ e sp'' ws''
          → DroppedListed tail end ws₁ (set sp u m) sp''
          → e ≤ 4352
          → Rising tn q te s xs₀ (set xs u above) sp'' ws'' (head + 1) e (r + 1)
      near_rise B Z front here room ew Q F top =
          let Y = behind_rising B Z in
          account_rise tn q s te lo S Y.settling small near_day_found Y.waiting (front_stays B front here)
          Y.behind Y.raised here room ew
          (rise_scanned_dropped_supported tn q s te lo S xs len D
          (let h = S.fits in ⊎_elim (λ y. omega arith) (λ y. omega arith) near_step.1) G
          (near_list ew (let h = Y.behind in omega arith)) F)
          Q top
