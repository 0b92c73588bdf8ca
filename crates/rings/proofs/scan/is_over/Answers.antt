use mathlib.Core.Path.{refl}
use mathlib.Core.Logic.{◌⊎◌}
use Rattle.rings.proofs.WordLaws.{clash}
use Rattle.rings.proofs.scan.is_over.Goals as goal

pub returns-then-day-c : goal.returns-then-day-c
returns-then-day-c c = record { yes = λ e. clash e refl; not = λ e. ◌⊎◌.inl c.if-day-c.true }

pub returns-then-k-count : goal.returns-then-k-count
returns-then-k-count c = record { yes = λ e. (c.if-day-c.false, ◌⊎◌.inl c.if-k-count.true); not = λ e. clash refl e }

pub returns-then-stop-day : goal.returns-then-stop-day
returns-then-stop-day c =
    record { yes = λ e. (c.if-day-c.false, ◌⊎◌.inr (◌⊎◌.inl c.if-stop-day.true)); not = λ e. clash refl e }

pub returns-then-above-day : goal.returns-then-above-day
returns-then-above-day c =
    record { yes = λ e. (c.if-day-c.false, ◌⊎◌.inr (◌⊎◌.inr c.if-above-day.true)); not = λ e. clash refl e }

pub returns : goal.returns
returns c = record { yes = λ e. clash e refl; not = λ e. ◌⊎◌.inr c.if-stop-day.false }
