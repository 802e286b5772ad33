use Rattle.std.proofs.Common.{◌≡◌, ◌∙◌, ap, sym, subst, take, drop, List, ℕ, true, false}
use Rattle.std.specs.List.Sorted.{IsPartitionPoint, IsSortedByKey}
use Rattle.std.specs.Ordering.{is_lt, is_le}
use Rattle.member_index.specs.Order.{meant, key_cmp, key_at, keys_of}
use Rattle.member_index.proofs.Ranged.{ranged}
use Rattle.member_index.proofs.range.range.Goals as goal

pub returns : goal.returns
returns c = λ is.
    let keys = keys_of c.args.kind c.args.class.now in
    let key = meant c.args.key.now in
    c.split_at-2.ensures.front
    ∙ ap (take c.count_upto.result) c.split_at.ensures.back
    ∙ ranged keys key c.args.order.now c.count_before.result c.count_upto.result
    c.count_before.ensures.parted
    (subst (λ (rest : List ℕ). IsSortedByKey (key_at keys) key_cmp rest →
    IsPartitionPoint (λ place. is_le (key_cmp (key_at keys place) key) ≡ true)
    (λ place. is_le (key_cmp (key_at keys place) key) ≡ false) rest c.count_upto.result)
    c.split_at.ensures.back c.count_upto.ensures.parted) is
