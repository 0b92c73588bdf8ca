-- `text::decimal::place` meets its contract: the entries are 10 ^ 0 to 10 ^ 4 themselves.
-- Assumes nothing.
use Prim.Native.Nat.{◌^◌}
use Rattle.text.proofs.ConstantLaws.{listed_at}
use Rattle.text.proofs.decimal.place.Goals as goal

pub returns : goal.returns
returns c = listed_at (λ k. 10 ^ k) 5 c.args.k c.requires
