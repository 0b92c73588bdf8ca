use Rattle.listing.proofs.ColumnLaws.{fill_part, fill_none}
use borrow.Author.Tests.{ne_eqb, eq-eqb}
use mathlib.Core.Bool.{not}
use mathlib.Core.Path.{ap}
use Rattle.listing.proofs.list.fill_starts.Goals as goal

pub returns-then-this-ne0 : goal.returns-then-this-ne0
returns-then-this-ne0 g c =
    let writes = ap not (ne_eqb g.row.WRITES 0 c.if-this-ne0.true) in
    fill_part writes _ _ _ c.args.starts.now c.requires.order (c.requires.in_starts writes) (c.fill.ensures.after (λ y e. e))

pub returns-else-this-ne0 : goal.returns-else-this-ne0
returns-else-this-ne0 g c = fill_none (ap not (eq-eqb g.row.WRITES 0 c.if-this-ne0.false)) _ _ _ c.args.starts.now
