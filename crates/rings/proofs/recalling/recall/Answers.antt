-- `recalling::recall` meets its contract: a refusal leaves the marks, an accepted list is marked
-- (proofs/RecallLaws.antt).
-- Assumes nothing.
use Rattle.rings.proofs.CheckLaws.{handed_on}
use Rattle.rings.proofs.RecallLaws.{marks_ready, marks_right}
use Rattle.rings.specs.RecallCall.{recall_marks}
use mathlib.Core.Path.{refl, sym, ◌∙◌}
use Rattle.rings.proofs.recalling.recall.Goals as goal

pub returns-in_err-check_recall : goal.returns-in_err-check_recall
unfolding recall_marks
returns-in_err-check_recall c =
    let r = handed_on c.from_residual.ensures.1 in
    record {
      result_value = r ∙ (sym c.in_err-check_recall.was ∙ c.check_recall.ensures);
      marks_after = rw r refl;
    }

pub mark_entries-requires : goal.mark_entries-requires
mark_entries-requires c =
    marks_ready c.args.days.now c.args.first.now c.args.second.now c.args.rows.now c.args.starts.now
    c.args.ends.now c.args.s c.args.e c.args.marks.now (sym c.in_ok-check_recall.was ∙ c.check_recall.ensures)
    (c.fill.ensures.after (λ y e. e))

pub returns : goal.returns
unfolding recall_marks
returns c =
    let accepted = sym c.in_ok-check_recall.was ∙ c.check_recall.ensures in
    record {
      result_value = accepted;
      marks_after = marks_right c.args.days.now c.args.first.now c.args.second.now c.args.rows.now c.args.starts.now
          c.args.ends.now c.args.s c.args.e c.args.marks.now accepted (c.fill.ensures.after (λ y e. e)) c.mark_entries.ensures;
    }
