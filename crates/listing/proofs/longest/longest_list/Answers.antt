-- `longest::longest_list` meets its contract: each return rewrites check 7 by what `is_window` told.
-- Assumes nothing.
use mathlib.Core.Path.{◌≡◌, ◌∙◌, sym, ap}
use native.Mathlib.Omega.{arith}
use Rattle.rings.specs.Words.{no}
use Rattle.rings.specs.Checks.{◌when◌, counted, range_check}
use Rattle.rings.proofs.AcceptedLaws.{window_e}
use Rattle.listing.specs.LongestList.{longest, days_of, longest_answer}
use Rattle.listing.proofs.longest.longest_list.Goals as goal

pub overflow_sub-days : goal.overflow_sub-days
overflow_sub-days c = omega (arith, (window_e _ _ c.is_window.ensures c.if-is_window.true).1)

pub overflow_add-days : goal.overflow_add-days
overflow_add-days c = omega (arith, (window_e _ _ c.is_window.ensures c.if-is_window.true).2)

pub most-requires : goal.most-requires
most-requires c =
    let window = window_e _ _ c.is_window.ensures c.if-is_window.true in
    omega arith

pub returns-then-is_window : goal.returns-then-is_window
unfolding longest_answer counted range_check ◌when◌ no days_of
returns-then-is_window c =
    let e : c.most.result ≡ longest (days_of c.args.ts c.args.te) =
    c.most.ensures ∙ ap longest (omega (arith, (window_e _ _ c.is_window.ensures c.if-is_window.true).1)) in
    simp (sym c.is_window.ensures ∙ c.if-is_window.true, e)

pub returns : goal.returns
unfolding longest_answer counted range_check ◌when◌ no
returns c = simp (sym c.is_window.ensures ∙ c.if-is_window.false)
