use native.Mathlib.Omega.{arith}
use Rattle.text.proofs.FieldLaws.{digit_at, value_few, value_next, value_end}
use Rattle.text.proofs.decimal.value_of.Goals as goal

pub loop-i-init : goal.loop-i-init
loop-i-init c = record { within = omega arith; total = omega arith }

pub overflow_sub-digit : goal.overflow_sub-digit
overflow_sub-digit c = (digit_at c.args.f.now c.loop-i.i c.requires.digits (omega arith)).0

pub overflow_mul-sum : goal.overflow_mul-sum
overflow_mul-sum c =
    let next = value_next c.args.f.now c.loop-i.i c.place.result (omega arith) c.place.ensures in
    omega (arith, value_few c.requires, next)

pub overflow_add-sum : goal.overflow_add-sum
overflow_add-sum c =
    let next = value_next c.args.f.now c.loop-i.i c.place.result (omega arith) c.place.ensures in
    omega (arith, value_few c.requires, next)

pub loop-i-preserved : goal.loop-i-preserved
loop-i-preserved c =
    let next = value_next c.args.f.now c.loop-i.i c.place.result (omega arith) c.place.ensures in
    record { within = omega arith; total = omega (arith, next) }

pub returns : goal.returns
returns c = omega (arith, value_end c.args.f.now c.loop-i.i (omega arith))
