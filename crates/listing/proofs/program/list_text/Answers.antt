use Rattle.listing.proofs.ReadingLaws.{too_long, asked_none, asked_most, asked_rows}
use Rattle.listing.proofs.AnswerLaws.{answer_none, answer_refused, answer_as}
use Rattle.listing.specs.Program.{outcome}
use Rattle.rings.specs.declared.refusal.Refusal.TheVariants.{TooLarge}
use Rattle.std.proofs.lemmas.Result.{err_from_is_err_and}
use lib.Seq.{length-take-le}
use native.Mathlib.Omega.{arith}
use mathlib.Core.Path.{sym, ◌∙◌, ap}
use Rattle.std.specs.Prelude.{Err}
use Rattle.listing.proofs.program.list_text.Goals as goal

pub returns-then-input-gt-MOST_INPUT : goal.returns-then-input-gt-MOST_INPUT
returns-then-input-gt-MOST_INPUT c =
    let prints = answer_refused (outcome c.args.input.now) c.args.output.now TooLarge
    (too_long c.args.input.now c.if-input-gt-MOST_INPUT.true) c.refused.ensures in
    record {
      value = prints.answer;
      output_after = prints.output;
    }

pub returns-in_err-asked : goal.returns-in_err-asked
returns-in_err-asked c =
    let out = err_from_is_err_and c.from_residual.result c.from_residual.ensures.1 in
    let r = out.1 ∙ ap Err out.2 in
    let prints = answer_none (outcome c.args.input.now) c.args.output.now
    (asked_none c.read_input.ensures c.in_err-asked.was) in
    record {
      value = r ∙ prints.answer;
      output_after = rw r prints.output;
    }

pub slice_bounds-days-end : goal.slice_bounds-days-end
slice_bounds-days-end c = omega (arith, asked_most c.read_input.ensures c.in_ok-asked.was)

pub slice_bounds-print_rings-end : goal.slice_bounds-print_rings-end
slice_bounds-print_rings-end c =
    sym
    (length-take-le _ c.read_input.new.days (omega (arith, asked_most c.read_input.ensures c.in_ok-asked.was)))

pub slice_bounds-first-end : goal.slice_bounds-first-end
slice_bounds-first-end c = omega (arith, asked_most c.read_input.ensures c.in_ok-asked.was)

pub slice_bounds-print_rings-end-2 : goal.slice_bounds-print_rings-end-2
slice_bounds-print_rings-end-2 c =
    sym
    (length-take-le _ c.read_input.new.first (omega (arith, asked_most c.read_input.ensures c.in_ok-asked.was)))

pub slice_bounds-second-end : goal.slice_bounds-second-end
slice_bounds-second-end c = omega (arith, asked_most c.read_input.ensures c.in_ok-asked.was)

pub slice_bounds-print_rings-end-3 : goal.slice_bounds-print_rings-end-3
slice_bounds-print_rings-end-3 c =
    sym
    (length-take-le _ c.read_input.new.second (omega (arith, asked_most c.read_input.ensures c.in_ok-asked.was)))

pub returns : goal.returns
returns c =
    let prints = answer_as (asked_rows c.read_input.ensures c.in_ok-asked.was) c.print_rings.ensures in
    record {
      value = prints.answer;
      output_after = prints.output;
    }
