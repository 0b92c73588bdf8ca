use lib.Dec.{ltb}
use Rattle.std.proofs.Common.{rules}
use Rattle.std.proofs.lemmas.List.Sorted.{IsPartitionPoint-from_clause}
use Rattle.rings.proofs.DayLaws.{dated_before, split_of}
use Rattle.rings.proofs.table.rows_before.Goals as goal

pub returns : goal.returns
returns c =
    split_of c.partition_point.ensures.bound
    (IsPartitionPoint-from_clause (λ x. ltb x c.args.day) _ _ c.partition_point.ensures.partitioned
    (dated_before c.requires c.args.day) (λ a r q k. search rules))
