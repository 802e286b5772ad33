use Rattle.std.proofs.Common.{◌≡◌, ◌∙◌, sym, subst, List, Some}
use Rattle.std.specs.Prelude.{slice_get}
use Rattle.class_desc.specs.declared.class.ClassDesc.{ClassDesc}
use Rattle.class_views.specs.View.{View}
use Rattle.client_view.specs.Members.{named, replied}
use Rattle.client_view.specs.Numbers.{views}
use Rattle.client_view.specs.Replies.{client_seen}
use Rattle.client_view.specs.declared.members.Met.{Met}
use Rattle.client_view.proofs.Inside.{free_small}
use Rattle.client_view.proofs.Resolved.{interface_method_wrong, interface_method_says}
use Rattle.client_view.proofs.world.ClientWorld.interface_method_of.Goals as goal

pub is_interface-requires : goal.is_interface-requires
is_interface-requires c = free_small c.args.self.now c.args.class c.requires

pub returns-else-is_interface-clause-says : goal.returns-else-is_interface-clause-says
returns-else-is_interface-clause-says c = λ v at.
    interface_method_wrong (views c.args.self.now) (client_seen c.args.client.now) v.name v
    (named c.args.name.now c.args.descriptor.now)
    (sym (c.is_interface.ensures v at) ∙ c.if-is_interface.false)

pub returns-then-is_interface-clause-says : goal.returns-then-is_interface-clause-says
returns-then-is_interface-clause-says c = λ v at.
    let world = views c.args.self.now in
    let client = client_seen c.args.client.now in
    interface_method_says world client v.name v (named c.args.name.now c.args.descriptor.now)
    c.resolved_interface_method-met.result c.reply.result c.reply.ensures.none
    (subst (λ (classes : List ClassDesc). (one : Met) (u : View) →
    c.resolved_interface_method-met.result ≡ Some one →
    slice_get (views classes) one.at.class ≡ Some u →
    c.reply.result ≡ replied (views classes) client u one)
    c.resolved_interface_method-met.ensures.kept
    c.reply.ensures.some) (sym (c.is_interface.ensures v at) ∙ c.if-is_interface.true)
    (c.resolved_interface_method-met.ensures.met v at)
