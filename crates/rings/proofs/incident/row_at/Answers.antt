use Rattle.rings.proofs.IncidentLaws.{stands_ends, row_read}
use mathlib.Core.Path.{refl}
use Rattle.rings.proofs.incident.row_at.Goals as goal

pub other-v-requires : goal.other-v-requires
other-v-requires c = stands_ends c.requires c.entry-row.ensures c.entry-a.ensures c.entry-b.ensures

pub returns : goal.returns
returns c =
    row_read c.requires c.entry-row.ensures c.entry-a.ensures c.entry-b.ensures c.args.lo refl c.other-v.ensures
    c.entry-earlier.ensures
