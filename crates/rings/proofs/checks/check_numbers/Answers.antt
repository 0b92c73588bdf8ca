use Rattle.rings.specs.Checks.{◌when◌, ◌then◌, query_check, scratch_check}
use Rattle.rings.specs.Words.{◌and◌, no}
use borrow.Author.Tests.{lt-ltb, le-ltb, le-leb, lt-leb}
use Rattle.rings.proofs.checks.check_numbers.Goals as goal

pub returns-then-k-lt1 : goal.returns-then-k-lt1
unfolding query_check scratch_check ◌when◌ ◌then◌ ◌and◌ no
returns-then-k-lt1 c = simp (lt-leb _ _ c.if-k-lt1.true)

pub returns-then-k-gt-LAST_ACCOUNT : goal.returns-then-k-gt-LAST_ACCOUNT
unfolding query_check scratch_check ◌when◌ ◌then◌ ◌and◌ no
returns-then-k-gt-LAST_ACCOUNT c = simp (le-leb _ _ c.if-k-lt1.false, lt-leb _ _ c.if-k-gt-LAST_ACCOUNT.true)

pub returns-then-not-window : goal.returns-then-not-window
unfolding query_check scratch_check ◌when◌ ◌then◌ ◌and◌ no
returns-then-not-window c = simp (le-leb _ _ c.if-k-lt1.false, le-leb _ _ c.if-k-gt-LAST_ACCOUNT.false, c.if-not-window.true)

pub returns-then-not-lengths : goal.returns-then-not-lengths
unfolding query_check scratch_check ◌when◌ ◌then◌ ◌and◌ no
returns-then-not-lengths c =
    simp (
      le-leb _ _ c.if-k-lt1.false,
      le-leb _ _ c.if-k-gt-LAST_ACCOUNT.false,
      c.if-not-window.false,
      c.if-not-lengths.true,
    )

pub returns-then-scratch-rows : goal.returns-then-scratch-rows
unfolding query_check scratch_check ◌when◌ ◌then◌ ◌and◌ no
returns-then-scratch-rows c =
    simp (
      le-leb _ _ c.if-k-lt1.false,
      le-leb _ _ c.if-k-gt-LAST_ACCOUNT.false,
      c.if-not-window.false,
      c.if-not-lengths.false,
      lt-ltb _ _ c.if-scratch-rows.true,
    )

pub returns : goal.returns
unfolding query_check scratch_check ◌when◌ ◌then◌ ◌and◌ no
returns c =
    simp (
      le-leb _ _ c.if-k-lt1.false,
      le-leb _ _ c.if-k-gt-LAST_ACCOUNT.false,
      c.if-not-window.false,
      c.if-not-lengths.false,
      le-ltb _ _ c.if-scratch-rows.false,
    )
