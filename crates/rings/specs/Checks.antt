-- Checks in the order written: the words, and the checks that several calls share.
--     r when b           one check: it refuses r where b holds
--     v then w           the checks v, then the checks w: the first that refuses decides
--     in_order vs         the checks of a list, one after the other
--     counted v n        the answer of a call that counts: n where no check refuses
--     query_check q       6
--     range_check s e     7, of a window and of a range
--     scratch_check rows n    9, for a table of so many rows and a scratch of n numbers
use Rattle.std.specs.Prelude.{ℕ, ◌+◌, ◌*◌, Bool, true, false, List, [], ◌∷◌, leb, ltb, Ok, Err}
use Rattle.rings.specs.Words.{◌and◌, no}
use Rattle.rings.specs.declared.Query.{Query}
use Rattle.rings.specs.declared.refusal.Refusal.{Refusal}
use Rattle.rings.specs.declared.refusal.Refusal.TheVariants.{BadK, BadRange, Scratch}
use Rattle.rings.specs.Refusals.{Verdict, Counted}

infix 20 ◌when◌
infixr 15 ◌then◌
-- 01's "7: not .." reads `BadRange when no ..`
unfoldable pub ◌when◌ : Refusal → Bool → Verdict
r when true = Err r
r when false = Ok tt

-- 01: "Checks run in the order written"
unfoldable pub ◌then◌ : Verdict → Verdict → Verdict
Ok _ then w = w
Err r then w = Err r

unfoldable pub in_order : List Verdict → Verdict
in_order [] = Ok tt
in_order (v ∷ vs) = v then in_order vs

unfoldable pub counted : Verdict → ℕ → Counted
counted (Ok _) n = Ok n
counted (Err r) n = Err r

-- 01: "6: k outside 1 to 4,095"
unfoldable pub query_check : Query → Verdict
query_check q = BadK when no (leb 1 q.k and leb q.k 4095)

-- 01: "7: not 1 ≤ s ≤ e ≤ 1,024"; "7: not 1 ≤ Ts ≤ Te ≤ 1,024, as for every range"
unfoldable pub range_check : ℕ → ℕ → Verdict
range_check s e = BadRange when no (leb 1 s and leb s e and leb e 1024)

-- 01: "9: scratch below 8,192 + 4 × rows 16-bit numbers"
unfoldable pub scratch_check : ℕ → ℕ → Verdict
scratch_check rows scratch = Scratch when ltb scratch (8192 + 4 * rows)
