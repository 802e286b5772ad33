use Rattle.std.proofs.Common.{◌≡◌, List, [], ap, sym, ◌∙◌}
use Rattle.std.specs.Prelude.{Some, None, unwrap_or}
use Rattle.std.specs.Option.{option_map}
use Rattle.std.specs.Borrow.{Bor}
use Rattle.class_desc.specs.declared.attribute.InnerEntry.{InnerEntry}
use Rattle.class_desc.specs.declared.attribute.Attr.{out-Attr}
use Rattle.class_views.specs.View.{inner_in}
use Rattle.ijar_strip.proofs.Loops.{first_step, first_found}
use Rattle.ijar_strip.proofs.kept.first_entries.Goals as goal

pub returns-in-Some : goal.returns-in-Some
returns-in-Some c =
    let seen = λ (entries : Bor (List InnerEntry)). entries.now in
    let found : inner_in (out-Attr c.attribute-item.result) ≡ Some c.in-Some.entries.now =
    sym c.entries_of.ensures ∙ ap (option_map seen) c.in-Some.is in
    sym (ap (λ o. unwrap_or o [])
    (first_found inner_in c.args.attributes.now c.loop-attribute.attribute-index
    c.attribute-item.result c.in-Some.entries.now c.loop-attribute-test.true
    c.attribute-item.is c.loop-attribute.invariant found))

pub loop-attribute-preserved : goal.loop-attribute-preserved
loop-attribute-preserved c =
    let seen = λ (entries : Bor (List InnerEntry)). entries.now in
    let absent : inner_in (out-Attr c.attribute-item.result) ≡ None = sym c.entries_of.ensures
    ∙ ap (option_map seen) c.in-None.is in
    first_step inner_in c.args.attributes.now c.loop-attribute.attribute-index
    c.attribute-item.result c.loop-attribute-test.true c.attribute-item.is
    c.loop-attribute.invariant absent
