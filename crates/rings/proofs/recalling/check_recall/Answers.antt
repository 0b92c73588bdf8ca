-- `recalling::check_recall` meets its contract: the first check that refuses decides (proofs/RecallLaws.antt).
-- Assumes nothing.
use Rattle.rings.proofs.CheckLaws.{handed_on}
use Rattle.rings.proofs.RecallLaws.{answer_table, answer_lengths, answer_entries, answer_window, lengths_same}
use mathlib.Core.Path.{sym, ◌∙◌}
use Rattle.rings.proofs.recalling.check_recall.Goals as goal

pub returns-in_err-check_table : goal.returns-in_err-check_table
returns-in_err-check_table c =
    handed_on c.from_residual.ensures.1
    ∙ answer_table _ _ _ _ _ _ _ _ _ (sym c.in_err-check_table.was ∙ c.check_table.ensures)

pub returns-in_err-check_lengths : goal.returns-in_err-check_lengths
returns-in_err-check_lengths c =
    handed_on c.from_residual-in_err-check_lengths.ensures.1
    ∙ answer_lengths _ _ _ _ _ _ _ _ _ (sym c.in_ok-check_table.was ∙ c.check_table.ensures)
    (sym c.in_err-check_lengths.was ∙ c.check_lengths.ensures)

pub check_entries-requires : goal.check_entries-requires
check_entries-requires c =
    let x = lengths_same c.args.days.now c.args.rows.now c.args.starts.now c.args.ends.now c.args.places
    (sym c.in_ok-check_lengths.was ∙ c.check_lengths.ensures) in record { starts = x.0; ends = x.1 }

pub returns-in_err-check_entries : goal.returns-in_err-check_entries
returns-in_err-check_entries c =
    handed_on c.from_residual-in_err-check_entries.ensures.1
    ∙ answer_entries _ _ _ _ _ _ _ _ _ (sym c.in_ok-check_table.was ∙ c.check_table.ensures)
    (sym c.in_ok-check_lengths.was ∙ c.check_lengths.ensures) (sym c.in_err-check_entries.was ∙ c.check_entries.ensures)

pub returns : goal.returns
returns c =
    answer_window _ _ _ _ _ _ _ _ _ (sym c.in_ok-check_table.was ∙ c.check_table.ensures)
    (sym c.in_ok-check_lengths.was ∙ c.check_lengths.ensures) (sym c.in_ok-check_entries.was ∙ c.check_entries.ensures)
    c.check_window.ensures
