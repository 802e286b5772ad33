use Rattle.std.proofs.Common.{refl, ap, subst, ◌∙◌, List, [], ◌∷◌, ◌++◌, length, arith}
use Rattle.std.proofs.lemmas.List.{take_all}
use Rattle.std.proofs.lemmas.Option.{slice_get_read}
use Rattle.class_desc.specs.declared.class.ClassDesc.{ClassDesc}
use Rattle.member_index.specs.Order.{AreOrdersOf}
use Rattle.member_index.proofs.Ordered.{no_orders, orders_more, few_keys}
use Rattle.member_index.proofs.order.orders.Goals as goal

pub loop-class-init : goal.loop-class-init
loop-class-init c = no_orders c.args.kind c.in_ok-orders.orders c.in_ok-orders.ensures

pub order_places-requires : goal.order_places-requires
order_places-requires c =
    few_keys c.args.kind c.class-item.result
    (c.requires c.loop-class.class-index c.class-item.result
    (slice_get_read c.args.classes.now (length c.args.classes.now) c.loop-class.class-index
    c.class-item.result refl c.loop-class-test.true c.class-item.is))

pub loop-class-preserved : goal.loop-class-preserved
loop-class-preserved c =
    orders_more c.args.kind c.loop-class.orders c.push.new.self c.order_places.new.places.items
    c.args.classes.now c.loop-class.class-index c.class-item.result c.loop-class-test.true
    c.class-item.is c.in_ok-order_places.ensures
    (c.in_ok-push.ensures.ok ∙ ap (λ row. c.loop-class.orders ++ row ∷ []) c.deref.ensures.value)
    c.loop-class.invariant

pub returns : goal.returns
returns c =
    let over = c.loop-class-test.false in
    subst (λ (l : List ClassDesc). AreOrdersOf c.args.kind c.loop-class.orders l)
    (take_all c.loop-class.class-index c.args.classes.now (omega (arith, over)))
    c.loop-class.invariant
