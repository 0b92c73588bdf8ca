-- What lent buffers hold at exit: the words that the calls share.
--     mark b             a mark byte
--     marks m            a row set as mark bytes
--     over new old       a column with new written from place 0 on
--     cleared x          as long as x, all 0
--     cleared_if b x      x, cleared where b holds
--     scratch_on r x      the scratch x after the refusal r
--     verdict_scratch v x, counted_scratch c x    the scratch x at exit, by the answer
use Rattle.std.specs.Prelude.{ℕ, Bool, true, false, List, ◌++◌, map, length, drop, replicate, Ok, Err}
use Rattle.rings.specs.Refusals.{behind_scratch, Verdict, Counted}
use Rattle.rings.specs.declared.refusal.Refusal.{Refusal}

-- 01: "marks 1 or 0 for each row"
unfoldable pub mark : Bool → ℕ
mark true = 1
mark false = 0

unfoldable pub marks : List Bool → List ℕ
marks m = map mark m

-- 01: "columns and output text past the answer keep their contents"
unfoldable pub over : List ℕ → List ℕ → List ℕ
over new old = new ++ drop (length new) old

unfoldable pub cleared : List ℕ → List ℕ
cleared scratch = replicate (length scratch) 0

unfoldable pub cleared_if : Bool → List ℕ → List ℕ
cleared_if true scratch = cleared scratch
cleared_if false scratch = scratch

-- 01: "Every buffer keeps its contents on a refusal, but a check that stands behind 9 leaves the scratch, where one is lent, all 0"
unfoldable pub scratch_on : Refusal → List ℕ → List ℕ
scratch_on r scratch = cleared_if (behind_scratch r) scratch

-- 01: "After success the scratch is all 0"
unfoldable pub verdict_scratch : Verdict → List ℕ → List ℕ
verdict_scratch (Ok _) scratch = cleared scratch
verdict_scratch (Err r) scratch = scratch_on r scratch

unfoldable pub counted_scratch : Counted → List ℕ → List ℕ
counted_scratch (Ok n) scratch = cleared scratch
counted_scratch (Err r) scratch = scratch_on r scratch
