-- Window ring (k, s, e): the answer, and each lent buffer at exit. Lent buffers go into the checks by their lengths.
--     ring_checks         what stops the call, in order
--     ring_answer         the answer: the count of ones
--     ring_marks          the marks at exit; the scratch is `counted_scratch`
use Rattle.std.specs.Prelude.{ℕ, List, eqb, Ok, Err}
use Rattle.rings.specs.Words.{no}
use Rattle.rings.specs.Table.{Table, size}
use Rattle.rings.specs.Ring.{ring, members}
use Rattle.rings.specs.Checks.{◌when◌, ◌then◌, counted, query_check, range_check, scratch_check}
use Rattle.rings.specs.Buffers.{marks}
use Rattle.rings.specs.TableCheck.{table_check}
use Rattle.rings.specs.declared.Query.{Query}
use Rattle.rings.specs.declared.refusal.Refusal.TheVariants.{BadLength}
use Rattle.rings.specs.Refusals.{Verdict, Counted}

-- 01: "6: k outside 1 to 4,095. 7: not 1 ≤ s ≤ e ≤ 1,024. 8: marks not as long as the table. 9: scratch below .."
unfoldable pub ring_checks : Table → Query → ℕ → ℕ → ℕ → ℕ → Verdict
ring_checks t q s e mark_places scratch =
    table_check t
    then query_check q
    then range_check s e
    then BadLength when no (eqb mark_places (size t))
    then scratch_check (size t) scratch

-- 01: "marks 1 or 0 for each row and the count of ones"
unfoldable pub ring_answer : Table → Query → ℕ → ℕ → ℕ → ℕ → Counted
ring_answer t q s e mark_places scratch = counted (ring_checks t q s e mark_places scratch) (members (ring t q s e))

unfoldable pub ring_marks : Counted → Table → Query → ℕ → ℕ → List ℕ → List ℕ
ring_marks (Ok n) t q s e old = marks (ring t q s e)
ring_marks (Err r) t q s e old = old
