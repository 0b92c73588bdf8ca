use native.Mathlib.Omega.{arith}
use Rattle.rings.proofs.SlotLaws.{chain_start, pairing_start}
use Rattle.rings.proofs.pairs.pair_rows.Goals as goal

pub chain_rows-requires : goal.chain_rows-requires
chain_rows-requires c =
    chain_start _ _ _ c.args.payments.sound c.requires c.clear_slots.ensures

pub find_pairs-requires : goal.find_pairs-requires
find_pairs-requires c =
    pairing_start _ _ _ c.args.payments.sound c.chain_rows.ensures

pub returns : goal.returns
returns c =
    record { long = c.find_pairs.ensures.long; pairs = λ r l. c.find_pairs.ensures.pairs r (omega arith) l }
