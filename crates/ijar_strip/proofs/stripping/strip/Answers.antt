use Rattle.std.proofs.Common.{◌≡◌, length, map, ap, sym, ◌∙◌}
use Rattle.std.specs.Prelude.{filter}
use Rattle.std.specs.List.{flat_map}
use Rattle.class_views.specs.Strip.{stays_field, stays_method, strip_attribute}
use Rattle.ijar_strip.specs.Marks.{attribute_marks, entries_of}
use Rattle.ijar_strip.proofs.Loops.{marks_long}
use Rattle.ijar_strip.proofs.Made.{stripped_is}
use Rattle.ijar_strip.proofs.stripping.strip.Goals as goal

pub copy_attributes-requires : goal.copy_attributes-requires
copy_attributes-requires c =
    let d = c.args.desc.now in
    ap (map length) (c.deref-3.ensures.value ∙ c.in_ok-attributes.ensures)
    ∙ (marks_long d d.attrs ∙ ap (map (λ a. length (entries_of a))) (sym c.items.ensures))

pub returns : goal.returns
returns c =
    let d = c.args.desc.now in
    let fields : c.in_ok-copy_marked.field-0 ≡ filter stays_field d.fields =
    c.in_ok-copy_marked.ensures stays_field (c.deref.ensures.value ∙ c.in_ok-field_marks.ensures)
    ∙ ap (filter stays_field) c.items-fields.ensures in
    let methods : c.in_ok-copy_marked-2.field-0 ≡ filter stays_method d.methods =
    c.in_ok-copy_marked-2.ensures stays_method
    (c.deref-2.ensures.value ∙ c.in_ok-method_marks.ensures)
    ∙ ap (filter stays_method) c.items-methods.ensures in
    let marks : c.deref-3.result.now ≡ map (attribute_marks d) c.items.result.now =
    c.deref-3.ensures.value ∙ (c.in_ok-attributes.ensures
    ∙ ap (map (attribute_marks d)) (sym c.items.ensures)) in
    let attrs : c.in_ok-copy_attributes.field-0 ≡ flat_map (strip_attribute d) d.attrs =
    c.in_ok-copy_attributes.ensures d marks ∙ ap (flat_map (strip_attribute d)) c.items.ensures in
    stripped_is d c.in_ok-copy.field-0 c.in_ok-try_copy.field-0 c.in_ok-copy-2.field-0
    c.in_ok-copy_marked.field-0 c.in_ok-copy_marked-2.field-0 c.in_ok-copy_attributes.field-0
    c.in_ok-copy.ensures c.in_ok-try_copy.ensures c.in_ok-copy-2.ensures fields methods attrs
