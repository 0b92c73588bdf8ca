-- The numbers, places and counts of document 01, and of 02 from 15 on, for each case of the answers.
--     Rule, rule_of r     what 01 says of a refusal: a row for each
--     number_of r         its number
--     place_number p, place_of r     a place as a number; the place of a refusal
--     behind_scratch r    its check stands behind 9
--     Verdict, Counted   what is answered where nothing or a number is found: Ok, or the refusal
--     Report             what a call tells its caller in numbers: the refusal's number (0 for none), its place, and the count (0 on a refusal)
--     done n, refused r  the reports of a success and of a refusal
--     verdict_report v    the report of Table check, Core times and Recall
--     counted_report c    the report of Window ring and Minimal windows
use Rattle.std.specs.Prelude.{ℕ, Bool, true, false, Option, Some, None, Result, Ok, Err, ⊤}
use Rattle.rings.specs.declared.refusal.Refusal.{Refusal}
use Rattle.rings.specs.declared.refusal.Refusal.TheVariants.{ColumnsDiffer, TooLarge, BadDay, BadAccounts}
use Rattle.rings.specs.declared.refusal.Refusal.TheVariants.{DayFalls, BadK, BadRange, BadLength, Scratch}
use Rattle.rings.specs.declared.refusal.Refusal.TheVariants.{NoRoom, BadEntry, NotInRing}
use Rattle.rings.specs.declared.refusal.Place.{Place}
use Rattle.rings.specs.declared.refusal.Place.TheVariants.{Row, Entry}

-- 01: "A refusal is a number and a place: a row for 3, 4, 5; a list entry from 0 for 14; .. else 0"; "a check that stands behind 9"
pub record Rule : Type 0 where
  pub number : ℕ
  pub place : Option Place
  pub is_behind_scratch : Bool

-- a row for each refusal
abbrev pub rule_of : Refusal → Rule
rule_of ColumnsDiffer = record { number = 1; place = None; is_behind_scratch = false }
rule_of TooLarge = record { number = 2; place = None; is_behind_scratch = false }
rule_of (BadDay j) = record { number = 3; place = Some (Row j); is_behind_scratch = false }
rule_of (BadAccounts j) = record { number = 4; place = Some (Row j); is_behind_scratch = false }
rule_of (DayFalls j) = record { number = 5; place = Some (Row j); is_behind_scratch = false }
rule_of BadK = record { number = 6; place = None; is_behind_scratch = false }
rule_of BadRange = record { number = 7; place = None; is_behind_scratch = false }
rule_of BadLength = record { number = 8; place = None; is_behind_scratch = false }
rule_of Scratch = record { number = 9; place = None; is_behind_scratch = false }
rule_of NoRoom = record { number = 10; place = None; is_behind_scratch = true }
rule_of (BadEntry i) = record { number = 14; place = Some (Entry i); is_behind_scratch = false }
-- 02, S-4: "Refused: 15, the named account isn't in the window's ring, after 9"
rule_of NotInRing = record { number = 15; place = None; is_behind_scratch = true }

abbrev pub place_number : Option Place → ℕ
place_number None = 0
place_number (Some (Row j)) = j
place_number (Some (Entry i)) = i

unfoldable pub number_of : Refusal → ℕ
number_of r = (rule_of r).number

unfoldable pub place_of : Refusal → ℕ
place_of r = place_number (rule_of r).place

unfoldable pub behind_scratch : Refusal → Bool
behind_scratch r = (rule_of r).is_behind_scratch

-- the answer of a list of checks, and of Table check, Core times and Recall
abbrev pub Verdict : Type 0
Verdict = Result ⊤ Refusal

-- the answer of Window ring and Minimal windows
abbrev pub Counted : Type 0
Counted = Result ℕ Refusal

pub record Report : Type 0 where
  pub number : ℕ
  pub place : ℕ
  pub count : ℕ

unfoldable pub done : ℕ → Report
done n = record { number = 0; place = 0; count = n }

unfoldable pub refused : Refusal → Report
refused r = record { number = number_of r; place = place_of r; count = 0 }

unfoldable pub verdict_report : Verdict → Report
verdict_report (Ok _) = done 0
verdict_report (Err r) = refused r

unfoldable pub counted_report : Counted → Report
counted_report (Ok n) = done n
counted_report (Err r) = refused r
