use Rattle.listing.proofs.ResultLaws.{mapped_ok, mapped_err}
use Rattle.listing.proofs.ReadingLaws.{place_lines, query_fits, rows_asked, rows_refused, rest_fits, asks_query, asks_none}
use Rattle.std.proofs.lemmas.Result.{err_from_is_err_and}
use native.Mathlib.Omega.{arith}
use mathlib.Core.Path.{sym, ◌∙◌, ap}
use Rattle.std.specs.Prelude.{Err}
use Rattle.listing.proofs.program.read_input.Goals as goal

pub returns-in_err-query : goal.returns-in_err-query
returns-in_err-query c =
    let out = err_from_is_err_and c.from_residual.result c.from_residual.ensures.1 in
    rw (out.1, out.2) (asks_none c.args.input.now c.requires.short c.read_query.ensures c.in_err-query.was)

pub slice_bounds-read_table-count : goal.slice_bounds-read_table-count
slice_bounds-read_table-count c =
    omega (arith, query_fits c.args.input.now _ (sym c.read_query.ensures ∙ c.in_ok-query.was))

pub slice_bounds-read_table-start : goal.slice_bounds-read_table-start
slice_bounds-read_table-start c =
    omega (arith, query_fits c.args.input.now _ (sym c.read_query.ensures ∙ c.in_ok-query.was))

pub map_err-requires : goal.map_err-requires
map_err-requires c e h =
    let rest = rest_fits c.args.input.now c.requires.short c.requires in
    omega (arith, rest.short, place_lines _ _ _ _ (sym h ∙ c.read_table.ensures.answers))

pub returns-in_err-count : goal.returns-in_err-count
returns-in_err-count c =
    let out = err_from_is_err_and c.from_residual-in_err-count.result c.from_residual-in_err-count.ensures.1 in
    let r = mapped_err _ _ c.map_err.ensures.cases c.in_err-count.was in
    let told = out.1 ∙ ap Err (out.2 ∙ r.2) in
    rw told
    (
    asks_query c.args.input.now c.requires.short c.read_query.ensures c.in_ok-query.was
    (
    rows_refused _ _ _ _ c.args.days.now c.args.first.now c.args.second.now c.read_table.ensures.answers
    (rest_fits c.args.input.now c.requires.short c.requires) r.1
    )
    )

pub returns : goal.returns
returns c =
    asks_query c.args.input.now c.requires.short c.read_query.ensures c.in_ok-query.was
    (
    rows_asked _ _ _ _ c.args.days.now c.args.first.now c.args.second.now c.read_table.ensures.answers
    (rest_fits c.args.input.now c.requires.short c.requires) (mapped_ok _ _ c.map_err.ensures.cases c.in_ok-count.was)
    c.read_table.ensures.days_hold c.read_table.ensures.first_hold c.read_table.ensures.second_hold
    )
