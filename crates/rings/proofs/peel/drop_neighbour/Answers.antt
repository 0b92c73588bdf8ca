use native.Mathlib.Omega.{arith}
use mathlib.Core.Path.{refl}
use Rattle.rings.specs.Inner.Peeling.{DroppedNeighbour}
use Rattle.rings.proofs.peel.drop_neighbour.Goals as goal

pub returns-then-n-k : goal.returns-then-n-k
returns-then-n-k c = DroppedNeighbour.stays c.if-n-k.true refl refl refl refl

pub offset_bounds-queue-tail : goal.offset_bounds-queue-tail
offset_bounds-queue-tail c = omega (arith, c.requires.room c.if-n-k.false)

pub bounds-queue-tail : goal.bounds-queue-tail
bounds-queue-tail c = omega (arith, c.requires.room c.if-n-k.false, c.requires.buffers.queue)

pub overflow_add-result : goal.overflow_add-result
overflow_add-result c = omega (arith, c.requires.room c.if-n-k.false)

pub returns : goal.returns
returns c = DroppedNeighbour.removes c.if-n-k.false refl refl refl refl
