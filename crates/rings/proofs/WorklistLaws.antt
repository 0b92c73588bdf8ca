-- From one account of the worklist to the next, in the terms of specs/Inner/Worklist.antt: what the functions of
-- src/settle.rt hand on.
--     unmoved_none       nothing was done for an account
--     unmoved_working    an account that one walk leaves open can be worked on further
--     unmoved_attempt    what the long way makes of it is what both ways make
--     moved_more         a wider bound on the rows that scans passed
--     Settles            the loop over those who wait
--     walked_to     the worklist with another number of rows passed
--     step_placed  what a step works on, at the start that it leaves
--     settled      a start that is not given up is settled
use Prim.Native.Nat.{ℕ, ◌+◌, ◌≤◌}
use native.Mathlib.Omega.{arith}
use mathlib.Core.Path.{◌≡◌, refl, sym, ◌∙◌, ap, subst}
use mathlib.Core.Bool.{Bool, true, true≢false}
use mathlib.Core.List.{List}
use lib.ListN.{length}
use Rattle.std.specs.Prelude.{Option, Some, None, is_some}
use Rattle.rings.specs.Table.{Table, table_of}
use Rattle.rings.specs.Inner.Adjacency.{Covered}
use Rattle.rings.specs.Inner.Peeling.{ReadyPairs, estimate}
use Rattle.rings.specs.Inner.Settling.{Days, Rising}
use Rattle.rings.specs.Inner.Counting.{CountsBy, WhereCounted}
use Rattle.rings.specs.Inner.Worklist.{Arrays, Working, NearAsks, Moved, Unmoved, AttemptIs, AtTimes, SettledIs, StepAsks}
use Rattle.rings.specs.declared.frame.Frame.{Frame}
use Rattle.rings.specs.declared.scan.Scan.{Scan}
use Rattle.rings.specs.declared.settle.Worklist.{Worklist}
use Rattle.rings.proofs.FindDayLaws.{short_start}
use Rattle.rings.proofs.SettleNearLaws.{same_rising, same_covered, same_counted}
use Rattle.rings.proofs.DayLaws.{ready_pairs_of, pruned_paired}

-- the worklist with another number of rows passed
abbrev pub walked_to : Worklist → ℕ → Worklist
walked_to list walked = record { head = list.head; tail = list.tail; raised = list.raised; walked = walked }

pub unmoved_none : {d f g scratch : List ℕ} {p : Frame} {counting : Bool} {list : Worklist} {s : Scan} {a : Arrays}
    → NearAsks (table_of d f g) scratch p counting list s a → Unmoved (table_of d f g) p list s a a list.walked s.day
unmoved_none A =
    let w = A.working in
    record {
      same_times = refl;
      same_slack = refl;
      same_counts = refl;
      behind = record { long = w.queue_long; front = λ i l. refl };
      short = rw A.its_time (short_start _ _ _ _ _ w.opened.setting _ _ _ (w.days _ A.at_head.small));
      few = omega arith;
    }

pub unmoved_working : {d f g scratch : List ℕ} {p : Frame} {counting : Bool} {list : Worklist} {s : Scan}
    {a a' : Arrays} {walked day : ℕ}
    → Unmoved (table_of d f g) p list s a a' walked day → Working d f g scratch p counting list 65536 a
    → Working d f g scratch p counting (walked_to list walked) 98304 a'
unmoved_working {d} {f} {g} {p = p} U w =
    record {
      opened = w.opened;
      covered = same_covered U.same_times w.covered;
      waits = w.waits;
      within = w.within;
      behind = w.behind;
      few = let x = U.few in let y = w.few in omega arith;
      times_long = ap length U.same_times ∙ w.times_long;
      slack_long = ap length U.same_slack ∙ w.slack_long;
      queue_long = U.behind.long;
      days = subst (λ (ys : List ℕ). Days p.stop ys) (sym U.same_times) w.days;
      counted = λ y. record {
        in_days = (w.counted y).in_days;
        counts_are =
            same_counted (table_of d f g) p.start p.stop U.same_times U.same_counts
            (w.counted y).counts_are;
      };
    }

pub moved_more : {t : Table} {p : Frame} {counting : Bool} {list list' : Worklist} {m n : ℕ} {a a' : Arrays}
    → m ≤ n → Moved t p counting list m a a' list' → Moved t p counting list n a a' list'
moved_more h M =
    record {
      next = M.next;
      within = M.within;
      walked = let x = M.walked in omega arith;
      rising = M.rising;
      nevers = M.nevers;
      counted = M.counted;
    }

pub unmoved_attempt : {t : Table} {p : Frame} (counting : Bool) {list : Worklist} {s : Scan} {a a' : Arrays}
    (a'' : Arrays) {walked day : ℕ} (r : Option Worklist)
    → Unmoved t p list s a a' walked day → AttemptIs r t p counting (walked_to list walked) 98304 a' a''
    → AttemptIs r t p counting list 131072 a a''
unmoved_attempt counting a'' (Some list') U M =
    record {
      next = M.next;
      within = M.within;
      walked = let x = U.few in let y = M.walked in omega arith;
      rising = λ xs Z. M.rising xs (same_rising U.same_times U.same_slack U.behind Z);
      nevers = λ v e. M.nevers v (ap (λ (ys : List ℕ). estimate ys v) U.same_times ∙ e);
      counted = record { counted = M.counted.counted; same = λ y. M.counted.same y ∙ U.same_counts };
    }
unmoved_attempt counting a'' None U K = record { same = λ y. K.same y ∙ U.same_counts }

-- a₀ are the arrays as they were lent
pub record Settles (d f g scratch : List ℕ) (p : Frame) (counting : Bool) (budget : ℕ) (a₀ : Arrays)
    (list : Worklist) (a : Arrays) : Type 0 where
  pub covered : Covered (table_of d f g) (estimate a.times) p.lo scratch
  pub within : list.tail ≤ 4352
  pub few : list.walked ≤ budget + 131072
  pub rising : Rising (table_of d f g) p.query p.stop p.start a₀.times a.times a.slack a.queue
      list.head list.tail list.raised
  pub long_counts : length a.counts ≡ length a₀.counts
  pub counted : WhereCounted counting (CountsBy (table_of d f g) p.start p.stop a.times a.counts) a₀.counts
      a.counts

-- a step is asked at the start after: its table, scratch and query are those of the start that it leaves
pub step_placed : {d f g scratch : List ℕ} {p : Frame} {counting : Bool} {next end : ℕ} {a : Arrays}
    → StepAsks (table_of d f g) scratch p counting next end a → ReadyPairs (table_of d f g) scratch p
step_placed A =
    let o = A.opened in
    ready_pairs_of o.sound (pruned_paired o.pruned) o.setting.some_k A.in_days A.starts

-- a start that is not given up is settled
pub settled : {t : Table} {p : Frame} {counting : Bool} {times counts : List ℕ} {a : Arrays} (r : Option ℕ)
    → SettledIs r t p counting times counts a → is_some r ≡ true
    → (n : ℕ) × AtTimes t p counting times counts a n
settled (Some n) h e = (n, h)
settled None h e = absurd (true≢false (sym e))
