-- `text::decimal::blanks` meets its contract: the byte that is looked for is the first that is no blank.
-- Assumes nothing.
use Rattle.std.proofs.Common.{rules, tests}
use Rattle.std.proofs.lemmas.Iterator.{YieldsList-from_slice}
use Rattle.std.proofs.lemmas.Iterator.Search.{position_from_yields_List}
use Rattle.text.proofs.FieldLaws.{is_mark, blanks_end}
use Rattle.text.proofs.decimal.blanks.Goals as goal

pub returns : goal.returns
returns c =
    let first =
    position_from_yields_List is_mark _ _ c.position.result c.position.ensures.ran
    (YieldsList-from_slice c.args.f.now cc) (λ x b q k. search (rules, tests)) in
    blanks_end c.args.f.now first c.unwrap_or.ensures
