-- `mark::mark_part` meets its contract: Window ring's refusals, then 15, then the group.
-- Assumes nothing.
use Rattle.rings.proofs.CheckLaws.{handed_on}
use Rattle.groups.proofs.RingCallLaws.{ring_call, lent_of}
use Rattle.groups.proofs.CallLaws.{ring_bytes, places_of, account_small, group_refused, group_absent, group_done}
use mathlib.Core.Path.{sym, ◌∙◌}
use native.Mathlib.Omega.{arith}
use Rattle.groups.proofs.mark.mark_part.Goals as goal

pub returns-in_err-window_ring : goal.returns-in_err-window_ring
returns-in_err-window_ring c =
    let told = c.window_ring.ensures in
    let all = group_refused _ _ _ _ _ _ _ _ _ (c.requires) told.result_value told.scratch_after
    c.in_err-window_ring.was in
    let r = handed_on c.from_residual.ensures.1 in
    record {
      result_value = r ∙ all.0;
      marks_after = rw r all.1.0;
      scratch_after = rw r all.1.1;
    }

pub window_rows-rows-requires : goal.window_rows-rows-requires
window_rows-rows-requires c =
    let call = ring_call c.window_ring.ensures.result_value c.in_ok-window_ring.was in
    record {
      never_fall = call.sound.rising;
      e_bound = omega (arith, call.last_day_lem);
    }

pub invariant_of-ring : goal.invariant_of-ring
invariant_of-ring c =
    let told = c.window_ring.ensures in
    let was = c.in_ok-window_ring.was in
    record {
      lent = lent_of (ring_call told.result_value was) (ring_bytes _ _ _ _ _ _ _ was told.marks_after)
          c.window_rows-rows.ensures;
    }

pub returns-then-not-is_met : goal.returns-then-not-is_met
returns-then-not-is_met c =
    let told = c.window_ring.ensures in
    let all = group_absent _ _ _ _ _ _ _ _ _ (c.requires) told.result_value told.scratch_after _ c.in_ok-window_ring.was
    told.marks_after c.is_met.ensures c.if-not-is_met.true in
    record {
      result_value = all.0;
      marks_after = all.1.0;
      scratch_after = all.1.1;
    }

pub unwrap-requires : goal.unwrap-requires
unwrap-requires c =
    let call = ring_call c.window_ring.ensures.result_value c.in_ok-window_ring.was in
    c.first_chunk_mut.ensures.variant.1 (omega (arith, c.window_ring.auto.scratch, call.scratch))

pub mark_rows-n-requires : goal.mark_rows-n-requires
mark_rows-n-requires c =
    let call = ring_call c.window_ring.ensures.result_value c.in_ok-window_ring.was in
    record {
      account_bound = account_small _ _ call.sound (sym c.is_met.ensures ∙ c.if-not-is_met.false);
      marks_len = places_of call (c.requires);
    }

pub returns : goal.returns
returns c =
    let told = c.window_ring.ensures in
    let all = group_done _ _ _ _ _ _ _ _ _ (c.requires) told.result_value told.scratch_after _ c.in_ok-window_ring.was
    told.marks_after c.is_met.ensures c.if-not-is_met.false c.mark_rows-n.ensures.group_marked
    c.mark_rows-n.ensures.parents_after in
    record {
      result_value = all.0;
      marks_after = all.1.0;
      scratch_after = all.1.1;
    }
