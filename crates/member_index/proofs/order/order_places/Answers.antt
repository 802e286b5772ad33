use Rattle.std.proofs.Common.{◌∙◌, ap}
use Rattle.std.specs.List.{range_with_len}
use Rattle.member_index.specs.Order.{keys_of}
use Rattle.member_index.proofs.Ordered.{ordered, all_ok}
use Rattle.member_index.proofs.order.order_places.Goals as goal

pub returns : goal.returns
returns c =
    all_ok c.sort_places.result c.sort_places.ensures.permutation c.sort_places.ensures.sorted
    c.sort_places.ensures.stable (λ permuted up stable.
    ordered (keys_of c.args.kind c.args.class.now) c.list_places.new.places.items
    c.sort_places.new.places.items
    (c.in_ok-list_places.ensures ∙ ap (range_with_len 0) c.count.ensures) permuted up stable)
