use mathlib.Core.Path.{◌∙◌, ap}
use native.Mathlib.Omega.{arith}
use Rattle.std.specs.Prelude.{Err}
use Rattle.text.proofs.TableLaws.{judging_first, stays, moves}
use Rattle.text.proofs.table.check_lines.Goals as goal

pub loop-line-init : goal.loop-line-init
loop-line-init c = judging_first c.args.text.now

pub returns-in-Ok : goal.returns-in-Ok
returns-in-Ok c = stays c.loop-line.invariant c.read_line-step.ensures c.in-Ok.is c.if-step-line.true

pub returns-in-Err : goal.returns-in-Err
returns-in-Err c =
    ap Err c.at_line.ensures
    ∙ stays c.loop-line.invariant c.read_line-step.ensures c.in-Err.is c.if-step-line.true

pub loop-line-smaller : goal.loop-line-smaller
loop-line-smaller c =
    let on = moves c.loop-line.invariant c.read_line-step.ensures c.if-step-line.false in
    omega (arith, on.next, on.judging.within)

pub loop-line-preserved : goal.loop-line-preserved
loop-line-preserved c = (moves c.loop-line.invariant c.read_line-step.ensures c.if-step-line.false).judging
