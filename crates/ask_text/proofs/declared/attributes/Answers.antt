use Rattle.std.proofs.Common.{◌&&◌, refl, sym, ap, ◌∙◌}
use Rattle.std.specs.Prelude.{find, option_map}
use Rattle.java_names.specs.Names.{is_text}
use Rattle.class_desc.specs.declared.class.FieldDesc.{FieldDesc}
use Rattle.class_desc.specs.declared.class.MethodDesc.{MethodDesc}
use Rattle.class_views.specs.View.{MemberView, view_of_desc, view_of_field, view_of_method}
use Rattle.client_view.specs.Replies.{annotations_in, part_seen}
use Rattle.ask_text.proofs.Annotated.{annotations_through}
use Rattle.ask_text.proofs.declared.attributes.Goals as goal

pub returns-in-FieldPart : goal.returns-in-FieldPart
returns-in-FieldPart c =
    let name = c.in-FieldPart.name in
    annotations_through view_of_field (λ (f : FieldDesc). f.attrs)
    (λ (m : MemberView). is_text m.name name) c.args.class.now.fields c.field_attributes.result
    (λ f. refl)
    (c.field_attributes.ensures ∙ ap (λ fs. option_map (λ (f : FieldDesc). f.attrs)
    (find (λ (f : FieldDesc). is_text f.name name) fs)) c.items-in-FieldPart.ensures)
    ∙ sym (ap (λ p. annotations_in (view_of_desc c.args.class.now) (part_seen p))
    c.in-FieldPart.is)

pub returns-in-MethodPart : goal.returns-in-MethodPart
returns-in-MethodPart c =
    let name = c.in-MethodPart.name in
    let descriptor = c.in-MethodPart.descriptor in
    annotations_through view_of_method (λ (m : MethodDesc). m.attrs)
    (λ (m : MemberView). is_text m.name name && is_text m.descriptor descriptor)
    c.args.class.now.methods c.method_attributes.result (λ m. refl)
    (c.method_attributes.ensures ∙ ap (λ ms. option_map (λ (m : MethodDesc). m.attrs)
    (find (λ (m : MethodDesc). is_text m.name name && is_text m.descriptor descriptor) ms))
    c.items-in-MethodPart.ensures)
    ∙ sym (ap (λ p. annotations_in (view_of_desc c.args.class.now) (part_seen p))
    c.in-MethodPart.is)
