use Rattle.std.proofs.Common.{◌≡◌, length, map, refl, ap, ◌∙◌}
use Rattle.std.specs.Prelude.{filter}
use Rattle.std.specs.List.{flat_map}
use Rattle.class_views.specs.Strip.{stays_field, stays_method, strip_attribute}
use Rattle.ijar_strip.proofs.Loops.{marks_long}
use Rattle.ijar_strip.proofs.Made.{stripped_is}
use Rattle.ijar_strip.proofs.stripping.into_stripped.Goals as goal

pub keep_attributes-requires : goal.keep_attributes-requires
keep_attributes-requires c =
    ap (map length) (c.deref.ensures.value ∙ c.in_ok-attributes.ensures)
    ∙ marks_long c.args.desc c.args.desc.attrs

pub returns : goal.returns
returns c =
    let d = c.args.desc in
    let fields : c.keep_marked.result ≡ filter stays_field d.fields =
    c.keep_marked.ensures stays_field
    (c.deref-2.ensures.value ∙ (c.in_ok-fields.ensures
    ∙ ap (map stays_field) c.items.ensures)) in
    let methods : c.keep_marked-2.result ≡ filter stays_method d.methods =
    c.keep_marked-2.ensures stays_method
    (c.deref-3.ensures.value ∙ (c.in_ok-methods.ensures
    ∙ ap (map stays_method) c.items-2.ensures)) in
    let attrs : c.in_ok-attrs.attrs ≡ flat_map (strip_attribute d) d.attrs =
    c.in_ok-attrs.ensures d (c.deref.ensures.value ∙ c.in_ok-attributes.ensures) in
    stripped_is d d.name d.super_name d.interfaces c.keep_marked.result c.keep_marked-2.result
    c.in_ok-attrs.attrs refl refl refl fields methods attrs
