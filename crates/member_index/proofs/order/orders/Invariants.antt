use Rattle.std.proofs.Common.{take}
use Rattle.member_index.specs.Order.{AreOrdersOf}
use Rattle.member_index.proofs.order.orders.Given as goal

abbrev pub invariant-loop-class : goal.invariant-loop-class
invariant-loop-class l = AreOrdersOf l.kind l.orders (take l.class-index l.classes)
