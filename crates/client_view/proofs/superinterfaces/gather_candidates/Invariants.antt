use Rattle.std.proofs.Common.{◌≡◌, take}
use Rattle.std.specs.Prelude.{filter}
use Rattle.std.specs.Vec.{vec_capacity}
use Rattle.class_views.specs.Resolution.{interface_method_in}
use Rattle.client_view.specs.Members.{declares}
use Rattle.client_view.specs.Sought.{meant}
use Rattle.client_view.specs.Numbers.{views}
use Rattle.client_view.proofs.superinterfaces.gather_candidates.Given as goal

abbrev pub invariant-loop-class : goal.invariant-loop-class
invariant-loop-class l = record {
  kept : l.candidates.items
      ≡ filter (declares (views l.classes) (interface_method_in (meant l.sought)))
      (take l.class-index l.above);
  capacity : vec_capacity l.candidates ≡ vec_capacity l.fn.candidates;
}
