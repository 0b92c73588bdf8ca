use Rattle.rings.proofs.CheckLaws.{handed_on}
use Rattle.rings.proofs.CallLaws.{ring_refused, ring_done}
use Rattle.rings.proofs.AcceptedLaws.{call_sound, call_k, call_window, call_lengths, call_scratch, window_e}
use borrow.Author.Tests.{eqb-true}
use mathlib.Core.Path.{◌∙◌, sym}
use Rattle.rings.proofs.ring.window_ring.Goals as goal

pub returns-in_err-check_call : goal.returns-in_err-check_call
returns-in_err-check_call c =
    let all = ring_refused _ _ _ _ c.args.marks.now c.args.scratch.now c.is_window-window.ensures
    (sym c.check_call.ensures ∙ c.in_err-check_call.was) in
    let r = handed_on c.from_residual.ensures.1 in record {
      result_value = r ∙ all.0;
      marks_after = rw r all.1.0;
      scratch_after = rw r all.1.1;
    }

pub invariant_of-payments : goal.invariant_of-payments
invariant_of-payments c = record { sound = call_sound _ _ _ _ _ _ _ (sym c.check_call.ensures ∙ c.in_ok-check_call.was) }

pub mark_ring-requires : goal.mark_ring-requires
mark_ring-requires c =
    let accepted = sym c.check_call.ensures ∙ c.in_ok-check_call.was in let window = window_e c.args.s c.args.e
    c.is_window-window.ensures (call_window _ _ _ _ _ _ _ accepted) in
    record {
      asked = record { some_k = (call_k _ _ _ _ _ _ _ accepted).0; ordered = window.1; last_day_lem = window.2 };
      ring_buffers = record {
        marks = eqb-true _ _ (call_lengths _ _ _ _ _ _ _ accepted);
        scratch = call_scratch _ _ _ _ _ _ _ accepted;
      };
    }

pub returns : goal.returns
returns c =
    let all = ring_done _ _ _ _ c.args.marks.now c.args.scratch.now c.is_window-window.ensures
    (sym c.check_call.ensures ∙ c.in_ok-check_call.was) c.mark_ring.ensures in record {
      result_value = all.0;
      marks_after = all.1.0;
      scratch_after = all.1.1;
    }
