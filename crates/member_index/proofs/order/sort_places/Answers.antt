use Rattle.std.proofs.Common.{rules}
use Rattle.std.specs.Ordering.{is_lt}
use Rattle.std.proofs.lemmas.Fn.{always_returns_same}
use Rattle.std.proofs.lemmas.List.Sorted.{ranks_by}
use Rattle.member_index.specs.Order.{key_cmp, key_at, keys_of}
use Rattle.member_index.proofs.Keys.{key_total}
use Rattle.member_index.proofs.order.sort_places.Goals as goal

pub returns-clause-sorted : goal.returns-clause-sorted
returns-clause-sorted c =
    let key = key_at (keys_of c.args.kind c.args.class.now) in
    c.in_ok-sort_by.ensures.sorted (λ x y. is_lt (key_cmp (key x) (key y))) (ranks_by key_total key)
    (always_returns_same _ _ _ (λ a r q k. search rules))

pub returns-clause-stable : goal.returns-clause-stable
returns-clause-stable c =
    let key = key_at (keys_of c.args.kind c.args.class.now) in
    c.sort_by.ensures.stable (λ x y. is_lt (key_cmp (key x) (key y))) (ranks_by key_total key)
    (always_returns_same _ _ _ (λ a r q k. search rules))
