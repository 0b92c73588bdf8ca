use Rattle.listing.proofs.FoundLaws.{list_checked, list_refused, list_done}
use Rattle.listing.specs.ListingCall.{columns_of}
use Rattle.rings.proofs.CheckLaws.{handed_on}
use Rattle.rings.specs.Table.{table_of}
use mathlib.Core.Path.{sym, ◌∙◌}
use Rattle.listing.proofs.list.list_rings.Goals as goal

pub returns-in_err-check_call : goal.returns-in_err-check_call
returns-in_err-check_call c =
    let all = list_refused _ _ _ _ (columns_of c.args.starts.now c.args.ends.now c.args.rows.now c.args.windows.now)
    c.args.scratch.now c.is_window-window.ensures c.one_length-lengths.ensures
    (sym c.check_call.ensures ∙ c.in_err-check_call.was) in
    let r = handed_on c.from_residual.ensures.1 in record {
      result_value = r ∙ all.0;
      after = rw r all.1.0;
      scratch_after = rw r all.1.1;
    }

pub invariant_of-payments : goal.invariant_of-payments
invariant_of-payments c =
    record {
      sound =
          (list_checked (table_of c.args.days.now c.args.first.now c.args.second.now) c.args.query c.args.ts c.args.te
          (columns_of c.args.starts.now c.args.ends.now c.args.rows.now c.args.windows.now) c.args.scratch.now
          c.is_window-window.ensures c.one_length-lengths.ensures (sym c.check_call.ensures ∙ c.in_ok-check_call.was)).sound;
    }

pub find_rings-requires : goal.find_rings-requires
find_rings-requires c =
    list_checked (table_of c.args.days.now c.args.first.now c.args.second.now) c.args.query c.args.ts c.args.te
    (columns_of c.args.starts.now c.args.ends.now c.args.rows.now c.args.windows.now) c.args.scratch.now
    c.is_window-window.ensures c.one_length-lengths.ensures (sym c.check_call.ensures ∙ c.in_ok-check_call.was)

pub returns : goal.returns
returns c =
    let all = list_done _ _ _ _ (columns_of c.args.starts.now c.args.ends.now c.args.rows.now c.args.windows.now)
    c.args.scratch.now c.is_window-window.ensures c.one_length-lengths.ensures
    (sym c.check_call.ensures ∙ c.in_ok-check_call.was) c.find_rings.ensures in record {
      result_value = all.0;
      after = all.1.0;
      scratch_after = all.1.1;
    }
