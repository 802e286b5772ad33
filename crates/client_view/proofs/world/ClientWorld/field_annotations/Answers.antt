use Rattle.std.proofs.Common.{refl, subst, sym, ℕ}
use Rattle.class_views.specs.Query.{Part, FieldPart, annotations_at}
use Rattle.client_view.specs.Members.{field_named_in}
use Rattle.client_view.specs.Numbers.{views}
use Rattle.client_view.specs.Replies.{client_seen, Says, IsAnnotationsFound, fields_of}
use Rattle.client_view.specs.declared.reply.Reply.{Reply}
use Rattle.client_view.proofs.Own.{annotations_say}
use Rattle.client_view.proofs.world.ClientWorld.field_annotations.Goals as goal

pub returns-clause-says : goal.returns-clause-says
returns-clause-says c = λ v at.
    let world = views c.args.self.now in
    let client = client_seen c.args.client.now in
    let part : Part = FieldPart c.args.name.now in
    subst (λ (r : Reply ℕ).
    Says world (IsAnnotationsFound world v.name part) r (annotations_at world client v part))
    (sym c.class.ensures)
    (annotations_say world client c.args.class v at fields_of
    (field_named_in c.args.name.now) part (λ u. refl)
    c.own_field-met.result c.own_field-met.ensures.met c.reply.result
    c.reply.ensures.none c.reply.ensures.some)
