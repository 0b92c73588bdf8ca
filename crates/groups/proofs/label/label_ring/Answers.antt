-- `label::label_ring` meets its contract: Window ring's answer for marks of that length is the answer for the labels.
-- Assumes nothing.
use Rattle.rings.proofs.CheckLaws.{handed_on}
use Rattle.groups.proofs.RingCallLaws.{ring_call, lent_of}
use Rattle.groups.proofs.CallLaws.{ring_bytes, places_of, label_refused, label_done}
use mathlib.Core.Path.{◌∙◌}
use native.Mathlib.Omega.{arith}
use Rattle.groups.proofs.label.label_ring.Goals as goal

pub returns-in_err-n : goal.returns-in_err-n
returns-in_err-n c =
    let told = c.window_ring.ensures in
    let all = label_refused _ _ _ _ _ _ _ _ (c.requires) told.result_value told.scratch_after c.in_err-n.was in
    let r = handed_on c.from_residual.ensures.1 in
    record {
      result_value = r ∙ all.0;
      labels_after = rw r all.1.0;
      scratch_after = rw r all.1.1;
    }

pub window_rows-rows-requires : goal.window_rows-rows-requires
window_rows-rows-requires c =
    let call = ring_call c.window_ring.ensures.result_value c.in_ok-n.was in
    record {
      never_fall = call.sound.rising;
      e_bound = omega (arith, call.last_day_lem);
    }

pub invariant_of-ring : goal.invariant_of-ring
invariant_of-ring c =
    let told = c.window_ring.ensures in
    let was = c.in_ok-n.was in
    record {
      lent = lent_of (ring_call told.result_value was) (ring_bytes _ _ _ _ _ _ _ was told.marks_after)
          c.window_rows-rows.ensures;
    }

pub unwrap-requires : goal.unwrap-requires
unwrap-requires c =
    let call = ring_call c.window_ring.ensures.result_value c.in_ok-n.was in
    c.first_chunk_mut.ensures.variant.1 (omega (arith, c.window_ring.auto.scratch, call.scratch))

pub label_rows-requires : goal.label_rows-requires
label_rows-requires c =
    let call = ring_call c.window_ring.ensures.result_value c.in_ok-n.was in
    places_of call (c.requires)

pub returns : goal.returns
returns c =
    let told = c.window_ring.ensures in
    let all = label_done _ _ _ _ _ _ _ _ (c.requires) told.result_value told.scratch_after _ c.in_ok-n.was
    told.marks_after c.label_rows.ensures.labels_after c.label_rows.ensures.parents_after in
    record {
      result_value = all.0;
      labels_after = all.1.0;
      scratch_after = all.1.1;
    }
