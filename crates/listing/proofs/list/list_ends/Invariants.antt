use Rattle.listing.proofs.EndsLaws.{EndsAt}
use Rattle.listing.specs.Inner.{filled_if}
use Rattle.listing.specs.ListingCall.{columns_of}
use lib.Dec.{eqb}
use mathlib.Core.Bool.{not}
use Prim.Native.Nat.{◌+◌, ◌-◌}
use Rattle.listing.proofs.list.list_ends.Given as goal

abbrev pub invariant-loop-e : goal.invariant-loop-e
invariant-loop-e g l =
    EndsAt l.counts l.initial.gathered l.least l.start l.low l.stop (not (eqb g.row.WRITES 0)) l.passed (columns_of l.starts l.initial.ends l.initial.rows l.initial.windows) l.e l.total l.entries
    l.summed (columns_of (filled_if (not (eqb g.row.WRITES 0)) l.start l.passed.count l.entries l.starts) l.ends l.rows l.windows) l.gathered

abbrev pub decreases-loop-e : goal.decreases-loop-e
decreases-loop-e g l =
    l.stop + 1 - l.e
