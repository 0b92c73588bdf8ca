-- `mark::is_met` meets its contract: what is tested of the rows of the window finds the account.
-- Assumes nothing.
use Rattle.std.proofs.Common.{rules, tests, ◌-◌, ◌∙◌, refl}
use Rattle.std.proofs.lemmas.Iterator.{YieldsList-from_range}
use Rattle.std.proofs.lemmas.Iterator.Search.{any_from_yields_List}
use Rattle.rings.specs.Words.{◌and◌, ◌or◌, no}
use Rattle.groups.proofs.MetLaws.{tested, met_is}
use Rattle.groups.proofs.mark.is_met.Goals as goal

pub returns : goal.returns
unfolding ◌and◌ ◌or◌ no
returns c =
    let r = c.args.ring in
    let lo = r.rows.lo in
    let end = r.rows.end in
    any_from_yields_List (tested r.marks.now r.first.now r.second.now c.args.account) _ _ c.any.result
    c.any.ensures.ran (YieldsList-from_range lo end (end - lo) refl refl) (λ x b q k. search (rules, tests))
    ∙ met_is r.lent c.args.account
