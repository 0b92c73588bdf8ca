use native.Mathlib.Omega.{arith}
use lib.ListN.{length}
use Rattle.text.proofs.PrintLaws.{columns_none, columns_more}
use Rattle.text.proofs.print.print_field.Goals as goal

pub loop-j-init : goal.loop-j-init
loop-j-init c = columns_none (length c.args.field.now) c.args.n (c.fill.ensures.after (λ y e. e))

pub loop-j-preserved : goal.loop-j-preserved
loop-j-preserved c =
    columns_more (length c.args.field.now) c.args.n c.loop-j.invariant (omega arith) (omega arith)
    c.write_column.ensures
