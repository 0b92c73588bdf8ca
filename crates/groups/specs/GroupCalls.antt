-- Label groups and Mark group (k, s, e): the answers, and each lent buffer at exit. Both run Window ring's checks.
--     label_answer        Label groups: the answer, the number of rows of the ring
--     label_column        the labels at exit
--     group_checks        what stops Mark group, in order
--     group_answer        its answer: the number of rows of the group
--     group_marks         the marks at exit; the scratch of both is `counted_scratch`
use Rattle.std.specs.Prelude.{ℕ, List, Ok, Err}
use Rattle.rings.specs.Words.{no}
use Rattle.rings.specs.Table.{Table}
use Rattle.rings.specs.Ring.{met, ring, members}
use Rattle.rings.specs.Refusals.{Verdict, Counted}
use Rattle.rings.specs.Checks.{◌when◌, ◌then◌, counted}
use Rattle.rings.specs.Buffers.{marks}
use Rattle.rings.specs.WindowRingCall.{ring_checks, ring_answer}
use Rattle.rings.specs.declared.Query.{Query}
use Rattle.rings.specs.declared.refusal.Refusal.TheVariants.{NotInRing}
use Rattle.groups.specs.Groups.{labels_of, group}

-- 02: "Both run Window ring's checks first, the label column standing for the marks in 8"
unfoldable pub label_answer : Table → Query → ℕ → ℕ → ℕ → ℕ → Counted
label_answer t q s e label_places scratch = ring_answer t q s e label_places scratch

unfoldable pub label_column : Counted → Table → Query → ℕ → ℕ → List ℕ → List ℕ
label_column (Ok n) t q s e old = labels_of t (ring t q s e)
label_column (Err r) t q s e old = old

-- 02: "Refused: 15, the named account isn't in the window's ring, after 9"
unfoldable pub group_checks : Table → Query → ℕ → ℕ → ℕ → ℕ → ℕ → Verdict
group_checks t q s e a mark_places scratch =
    ring_checks t q s e mark_places scratch
    then NotInRing when no (met t (ring t q s e) a)

unfoldable pub group_answer : Table → Query → ℕ → ℕ → ℕ → ℕ → ℕ → Counted
group_answer t q s e a mark_places scratch =
    counted (group_checks t q s e a mark_places scratch) (members (group t (ring t q s e) a))

unfoldable pub group_marks : Counted → Table → Query → ℕ → ℕ → ℕ → List ℕ → List ℕ
group_marks (Ok n) t q s e a old = marks (group t (ring t q s e) a)
group_marks (Err r) t q s e a old = old
