-- Core times (k, Ts, Te, s): the answer, and each lent buffer at exit. Lent buffers go into the checks by their lengths.
--     times_answer    the answer: what stops the call, in order
--     account_column  the account column at exit: 4,096 core times
--     row_column      the row column at exit: a core time for each row; the scratch is `verdict_scratch`
use Rattle.std.specs.Prelude.{ℕ, List, leb, eqb, Ok, Err}
use Rattle.rings.specs.Words.{◌and◌, no, tabulate}
use Rattle.rings.specs.Table.{Table, size}
use Rattle.rings.specs.CoreTimes.{account_time, row_time}
use Rattle.rings.specs.Checks.{◌when◌, ◌then◌, query_check, scratch_check}
use Rattle.rings.specs.TableCheck.{table_check}
use Rattle.rings.specs.declared.Query.{Query}
use Rattle.rings.specs.declared.refusal.Refusal.TheVariants.{BadRange, BadLength}
use Rattle.rings.specs.Refusals.{Verdict}

-- 01: "6. 7: not 1 ≤ Ts ≤ s ≤ Te ≤ 1,024. 8: account column not 4,096 long, or row column not as long as the table. 9"
unfoldable pub times_answer : Table → Query → ℕ → ℕ → ℕ → ℕ → ℕ → ℕ → Verdict
times_answer t q lo hi s account_places row_places scratch =
    table_check t
    then query_check q
    then BadRange when no (leb 1 lo and leb lo s and leb s hi and leb hi 1024)
    then BadLength when no (eqb account_places 4096 and eqb row_places (size t))
    then scratch_check (size t) scratch

-- 01: "the least e with s ≤ e ≤ Te such that the account is in the ring of [s, e]; 65,535 means never": so for an account of no row
unfoldable pub account_column : Verdict → Table → Query → ℕ → ℕ → List ℕ → List ℕ
account_column (Ok _) t q hi s old = tabulate (account_time t q hi s) 0 4096
account_column (Err r) t q hi s old = old

unfoldable pub row_column : Verdict → Table → Query → ℕ → ℕ → List ℕ → List ℕ
row_column (Ok _) t q hi s old = tabulate (row_time t q hi s) 0 (size t)
row_column (Err r) t q hi s old = old
