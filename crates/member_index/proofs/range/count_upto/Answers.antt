use Rattle.std.proofs.Common.{rules}
use Rattle.std.proofs.lemmas.List.Sorted.{IsPartitionPoint-from_clause}
use Rattle.std.specs.Ordering.{is_le}
use Rattle.member_index.specs.Order.{meant, key_cmp, key_at, keys_of}
use Rattle.member_index.proofs.Ranged.{upto_parted}
use Rattle.member_index.proofs.range.count_upto.Goals as goal

pub returns-clause-parted : goal.returns-clause-parted
returns-clause-parted c = λ up.
    IsPartitionPoint-from_clause
    (λ place. is_le (key_cmp (key_at (keys_of c.args.kind c.args.class.now) place)
    (meant c.args.key.now))) c.args.order.now c.partition_point.result
    c.partition_point.ensures.partitioned
    (upto_parted (keys_of c.args.kind c.args.class.now) (meant c.args.key.now) c.args.order.now up)
    (λ a r q k. search rules)
