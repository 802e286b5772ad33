use Rattle.std.proofs.Common.{take}
use Rattle.client_view.specs.Sought.{meant}
use Rattle.client_view.specs.Numbers.{views}
use Rattle.client_view.specs.Sole.{IsSoleYet}
use Rattle.client_view.proofs.superinterfaces.sole_concrete.Given as goal

abbrev pub invariant-loop-class : goal.invariant-loop-class
invariant-loop-class l =
    IsSoleYet (views l.classes) (meant l.sought) l.search.list
    (take l.class-index l.candidates) l.sole
