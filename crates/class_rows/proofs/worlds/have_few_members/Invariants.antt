use Rattle.std.proofs.Common.{◌≡◌, ℕ, ◌<◌, Some}
use Rattle.std.specs.Prelude.{slice_get}
use Rattle.class_desc.specs.declared.class.ClassDesc.{ClassDesc}
use Rattle.client_view.specs.Indexed.{HasFewMembers}
use Rattle.class_rows.proofs.worlds.have_few_members.Given as goal

abbrev pub invariant-loop-class : goal.invariant-loop-class
invariant-loop-class l =
    (number : ℕ) (class : ClassDesc) → number < l.class-index →
    slice_get l.classes number ≡ Some class → HasFewMembers class
