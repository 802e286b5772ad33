use Rattle.std.proofs.Common.{◌∙◌, sym, subst, ap, List, Option}
use Rattle.std.specs.Prelude.{option_and_then, option_to_list}
use Rattle.class_desc.specs.ClassFile.{object_name}
use Rattle.class_desc.specs.declared.class.ClassDesc.{ClassDesc}
use Rattle.class_views.specs.Resolution.{Declared, NameAndType, first_declared, object_method_in}
use Rattle.class_views.specs.World.{class_of}
use Rattle.member_index.specs.Index.{IsIndexOf}
use Rattle.client_view.specs.Indexed.{HaveFewMembers}
use Rattle.client_view.specs.Members.{Meets, declared_at}
use Rattle.client_view.specs.Numbers.{views}
use Rattle.client_view.specs.Replies.{methods_of}
use Rattle.client_view.specs.Sought.{meant}
use Rattle.client_view.proofs.Resolved.{declared_in_one}
use Rattle.client_view.proofs.world.ClientWorld.object_method.Goals as goal

pub object_method_of-requires-clause-few : goal.object_method_of-requires-clause-few
object_method_of-requires-clause-few c =
    subst HaveFewMembers (sym c.deref.ensures.value) c.self.invariant.members

pub object_method_of-requires-clause-indexed : goal.object_method_of-requires-clause-indexed
object_method_of-requires-clause-indexed c =
    subst (IsIndexOf c.self.inside.members) (sym c.deref.ensures.value)
    c.self.invariant.members_are

pub returns-clause-met : goal.returns-clause-met
returns-clause-met c =
    let sought = meant c.of-sought.result in
    let world = views c.self.inside.classes.items in
    let result = c.object_method_of.result in
    subst (λ (s : NameAndType). Meets (views c.args.self.now) methods_of result (first_declared
    (object_method_in s) (option_to_list (class_of (views c.args.self.now) object_name))))
    c.of-sought.ensures
    (subst (λ (classes : List ClassDesc). Meets (views classes) methods_of result (first_declared
    (object_method_in sought) (option_to_list (class_of (views classes) object_name))))
    c.self.view_is
    (subst (λ (o : Option Declared). Meets world methods_of result o)
    (sym (declared_in_one world (object_method_in sought) object_name
    ∙ ap (option_and_then (declared_at world (object_method_in sought)))
    (sym c.self.invariant.object)))
    (subst (λ (classes : List ClassDesc). Meets (views classes) methods_of result
    (option_and_then (declared_at (views classes) (object_method_in sought))
    c.self.inside.object)) c.deref.ensures.value c.object_method_of.ensures.met)))
