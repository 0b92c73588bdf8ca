-- `program::print_rings` meets its contract: what Listing ensures of its answer and of the columns.
-- Assumes nothing.
use mathlib.Core.Path.{sym, ap, ◌∙◌}
use native.Mathlib.Omega.{arith}
use lib.ListN.{replicate}
use Rattle.std.proofs.lemmas.Result.{err_from_is_err_and}
use Rattle.rings.specs.Table.{table_of}
use Rattle.listing.specs.ListingCall.{each}
use Rattle.listing.specs.Program.{found, most_listed, program_scratch, listed}
use Rattle.listing.proofs.ResultLaws.{mapped_ok, mapped_err}
use Rattle.listing.proofs.AnswerLaws.{refused_place, listed_rings, listed_none, rings_most, cut_long, rings_are, rings_all_rise}
use Rattle.listing.proofs.AnswerLaws.{answer_refused, answer_as}
use Rattle.listing.proofs.program.print_rings.Goals as goal

pub map_err-requires : goal.map_err-requires
map_err-requires c e h =
    let t = table_of c.args.days.now c.args.first.now c.args.second.now in
    omega (
      arith,
      c.requires,
      refused_place t c.args.query c.args.ts c.args.te (each most_listed) program_scratch
          (sym c.list_rings.ensures.result_value ∙ h),
    )

pub returns-in_err-listed : goal.returns-in_err-listed
returns-in_err-listed c =
    let t = table_of c.args.days.now c.args.first.now c.args.second.now in
    let out = err_from_is_err_and c.from_residual.result c.from_residual.ensures.1 in
    let r = mapped_err _ _ c.map_err.ensures.cases c.in_err-listed.was in
    rw out.1
    (
    answer_refused (listed t c.args.query c.args.ts c.args.te) c.args.output.now r.0
    (listed_none t c.args.query c.args.ts c.args.te c.list_rings.ensures.result_value r.1) (out.2 ∙ r.2)
    )

pub slice_bounds-starts-end : goal.slice_bounds-starts-end
slice_bounds-starts-end c =
    let is = mapped_ok _ _ c.map_err.ensures.cases c.in_ok-listed.was in
    omega (arith, c.list_rings.auto.starts, rings_most _ _ _ _ c.list_rings.ensures.result_value is)

pub slice_bounds-write_listing-end : goal.slice_bounds-write_listing-end
slice_bounds-write_listing-end c =
    let is = mapped_ok _ _ c.map_err.ensures.cases c.in_ok-listed.was in
    cut_long c.list_rings.new.starts c.list_rings.auto.starts (rings_most _ _ _ _ c.list_rings.ensures.result_value is)

pub slice_bounds-ends-end : goal.slice_bounds-ends-end
slice_bounds-ends-end c =
    let is = mapped_ok _ _ c.map_err.ensures.cases c.in_ok-listed.was in
    omega (arith, c.list_rings.auto.ends, rings_most _ _ _ _ c.list_rings.ensures.result_value is)

pub slice_bounds-write_listing-end-2 : goal.slice_bounds-write_listing-end-2
slice_bounds-write_listing-end-2 c =
    let is = mapped_ok _ _ c.map_err.ensures.cases c.in_ok-listed.was in
    cut_long c.list_rings.new.ends c.list_rings.auto.ends (rings_most _ _ _ _ c.list_rings.ensures.result_value is)

pub slice_bounds-rows-end : goal.slice_bounds-rows-end
slice_bounds-rows-end c =
    let is = mapped_ok _ _ c.map_err.ensures.cases c.in_ok-listed.was in
    omega (arith, c.list_rings.auto.rows, rings_most _ _ _ _ c.list_rings.ensures.result_value is)

pub slice_bounds-write_listing-end-3 : goal.slice_bounds-write_listing-end-3
slice_bounds-write_listing-end-3 c =
    let is = mapped_ok _ _ c.map_err.ensures.cases c.in_ok-listed.was in
    cut_long c.list_rings.new.rows c.list_rings.auto.rows (rings_most _ _ _ _ c.list_rings.ensures.result_value is)

pub write_listing-requires : goal.write_listing-requires
write_listing-requires c =
    let t = table_of c.args.days.now c.args.first.now c.args.second.now in
    let is = mapped_ok _ _ c.map_err.ensures.cases c.in_ok-listed.was in
    rings_all_rise t c.args.query c.args.ts c.args.te c.list_rings.ensures.result_value (each (replicate most_listed 0))
    c.list_rings.ensures.after is

pub returns : goal.returns
returns c =
    let t = table_of c.args.days.now c.args.first.now c.args.second.now in
    let is = mapped_ok _ _ c.map_err.ensures.cases c.in_ok-listed.was in
    let so = c.list_rings.ensures.result_value in
    let entries = rings_are t c.args.query c.args.ts c.args.te so (each (replicate most_listed 0)) c.list_rings.ensures.after is in
    answer_as (listed_rings t c.args.query c.args.ts c.args.te so is ∙ ap found (sym entries)) c.write_listing.ensures
