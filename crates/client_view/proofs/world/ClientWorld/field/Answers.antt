use Rattle.std.proofs.Common.{◌≡◌, subst, List, Some}
use Rattle.std.specs.Prelude.{slice_get}
use Rattle.class_desc.specs.declared.class.ClassDesc.{ClassDesc}
use Rattle.class_views.specs.View.{View}
use Rattle.client_view.specs.Members.{named, replied}
use Rattle.client_view.specs.Numbers.{views}
use Rattle.client_view.specs.Replies.{client_seen}
use Rattle.client_view.specs.declared.members.Met.{Met}
use Rattle.client_view.proofs.Said.{field_says}
use Rattle.client_view.proofs.world.ClientWorld.field.Goals as goal

pub returns-in-Ok-clause-says : goal.returns-in-Ok-clause-says
returns-in-Ok-clause-says c =
    let world = views c.args.self.now in
    let client = client_seen c.args.client.now in
    let enters = c.in-Ok.ensures in
    field_says world client c.args.class.now c.in-Ok.number enters c.first_field-met.result
    c.reply.result c.reply.ensures.none
    (subst (λ (classes : List ClassDesc). (one : Met) (v : View) →
    c.first_field-met.result ≡ Some one → slice_get (views classes) one.at.class ≡ Some v →
    c.reply.result ≡ replied (views classes) client v one) c.first_field-met.ensures.kept
    c.reply.ensures.some) (named c.args.name.now c.args.descriptor.now)
    (c.first_field-met.ensures.met enters.class enters.there)
