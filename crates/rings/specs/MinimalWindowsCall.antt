-- Minimal windows (k, Ts, Te): the answer, and each lent buffer at exit. Lent buffers go into the checks by their lengths.
--     minimal_checks      what stops the call, in order
--     minimal_answer      the answer: the count of entries
--     entry_column        a column at exit, for the part of an entry that it holds; the scratch is `counted_scratch`
--     minimal_rows, minimal_starts, minimal_ends    the three columns at exit
use Rattle.std.specs.Prelude.{ℕ, List, map, length, ltb, eqb, Ok, Err}
use Rattle.rings.specs.Words.{◌and◌, no}
use Rattle.rings.specs.Table.{Table, size}
use Rattle.rings.specs.Windows.{Entry, minimal_windows}
use Rattle.rings.specs.Checks.{◌when◌, ◌then◌, counted, query_check, range_check, scratch_check}
use Rattle.rings.specs.Buffers.{over}
use Rattle.rings.specs.TableCheck.{table_check}
use Rattle.rings.specs.declared.Query.{Query}
use Rattle.rings.specs.declared.refusal.Refusal.TheVariants.{BadLength, NoRoom}
use Rattle.rings.specs.Refusals.{Verdict, Counted}

-- 01: "6. 7: not 1 ≤ Ts ≤ Te ≤ 1,024, as for every range. 8: the three lengths differ. 9. 10: more entries than the columns hold"
unfoldable pub minimal_checks : Table → Query → ℕ → ℕ → ℕ → ℕ → ℕ → ℕ → Verdict
minimal_checks t q lo hi row_places start_places end_places scratch =
    table_check t
    then query_check q
    then range_check lo hi
    then BadLength when no (eqb start_places row_places and eqb end_places row_places)
    then scratch_check (size t) scratch
    then NoRoom when ltb row_places (length (minimal_windows t q lo hi))

-- 01: "columns row, start, end, ordered by row, then start; the count"
unfoldable pub minimal_answer : Table → Query → ℕ → ℕ → ℕ → ℕ → ℕ → ℕ → Counted
minimal_answer t q lo hi row_places start_places end_places scratch =
    counted (minimal_checks t q lo hi row_places start_places end_places scratch) (length (minimal_windows t q lo hi))

unfoldable pub entry_column : Counted → (Entry → ℕ) → List Entry → List ℕ → List ℕ
entry_column (Ok n) part es old = over (map part es) old
entry_column (Err r) part es old = old

unfoldable pub minimal_rows : Counted → Table → Query → ℕ → ℕ → List ℕ → List ℕ
minimal_rows a t q lo hi old = entry_column a (λ x. x.row) (minimal_windows t q lo hi) old

unfoldable pub minimal_starts : Counted → Table → Query → ℕ → ℕ → List ℕ → List ℕ
minimal_starts a t q lo hi old = entry_column a (λ x. x.start) (minimal_windows t q lo hi) old

unfoldable pub minimal_ends : Counted → Table → Query → ℕ → ℕ → List ℕ → List ℕ
minimal_ends a t q lo hi old = entry_column a (λ x. x.end) (minimal_windows t q lo hi) old
