use Rattle.listing.proofs.AnswerLaws.{refused_told}
use Rattle.rings.specs.Refusals.{place_number, place_of}
use mathlib.Core.Path.{ap}
use native.Mathlib.Omega.{arith}
use Rattle.listing.proofs.program.refused.Goals as goal

pub place_line-requires : goal.place_line-requires
unfolding place_of
place_line-requires c = omega (arith, c.requires, ap place_number c.place.ensures)

pub returns : goal.returns
returns c = refused_told c.args.r c.number.ensures c.place.ensures c.place_line.ensures
