use lib.ListN.{length}
use Rattle.rings.proofs.CheckLaws.{handed_on}
use Rattle.rings.proofs.CallLaws.{times_refused, times_done}
use Rattle.rings.proofs.AcceptedLaws.{call_sound, call_k, call_window, call_lengths, call_scratch, start_e}
use Rattle.rings.proofs.AcceptedLaws.{lengths_e}
use mathlib.Core.Path.{◌∙◌, sym}
use Rattle.rings.proofs.times.core_times.Goals as goal

pub returns-in_err-check_call : goal.returns-in_err-check_call
returns-in_err-check_call c =
    let all = times_refused _ _ _ _ _ c.args.accounts.now c.args.rows.now c.args.scratch.now c.is_start-window.ensures
    c.are_equal-lengths.ensures (sym c.check_call.ensures ∙ c.in_err-check_call.was) in
    let r = handed_on c.from_residual.ensures.1 in record {
      result_value = r ∙ all.0;
      accounts_after = rw r all.1.0;
      rows_after = rw r all.1.1.0;
      scratch_after = rw r all.1.1.1;
    }

pub invariant_of-payments : goal.invariant_of-payments
invariant_of-payments c = record { sound = call_sound _ _ _ _ _ _ _ (sym c.check_call.ensures ∙ c.in_ok-check_call.was) }

pub find_times-requires : goal.find_times-requires
find_times-requires c =
    let accepted = sym c.check_call.ensures ∙ c.in_ok-check_call.was in let window = start_e c.args.ts c.args.s
    c.args.te c.is_start-window.ensures (call_window _ _ _ _ _ _ _ accepted) in let lengths = lengths_e
    (length c.args.accounts.now) 4096 (length c.args.rows.now) (length c.args.days.now) c.are_equal-lengths.ensures
    (call_lengths _ _ _ _ _ _ _ accepted) in
    record {
      asked = record { some_k = (call_k _ _ _ _ _ _ _ accepted).0; ordered = window.0; last_day_lem = window.1 };
      times_buffers = record { accounts = lengths.0; rows = lengths.1; scratch = call_scratch _ _ _ _ _ _ _ accepted };
    }

pub returns : goal.returns
returns c =
    let all = times_done _ _ _ _ _ c.args.accounts.now c.args.rows.now c.args.scratch.now c.is_start-window.ensures
    c.are_equal-lengths.ensures (sym c.check_call.ensures ∙ c.in_ok-check_call.was) c.find_times.ensures in record {
      result_value = all.0;
      accounts_after = all.1.0;
      rows_after = all.1.1.0;
      scratch_after = all.1.1.1;
    }
