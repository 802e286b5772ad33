use Rattle.std.proofs.Common.{take}
use Rattle.supertypes.specs.State.{IsSteady, Grew}
use Rattle.supertypes.proofs.state.State.mark_each.Given as goal

abbrev pub invariant-loop-class : goal.invariant-loop-class
invariant-loop-class l = record {
  steady : IsSteady l.self;
  grew : Grew l.fn.self l.self (take l.class-index l.classes);
}
