use Rattle.std.proofs.Common.{◌≡◌, false, ap, sym, subst, ◌∙◌, map}
use Rattle.std.specs.Prelude.{IfOk}
use Rattle.std.specs.List.{list_any}
use Rattle.class_views.specs.Staying.{stays_in}
use Rattle.class_views.specs.Kept.{is_local}
use Rattle.ijar_strip.specs.Links.{link_seen, begins, leads_to}
use Rattle.ijar_strip.specs.Marks.{class_link}
use Rattle.ijar_strip.proofs.Loops.{all_kept}
use Rattle.ijar_strip.proofs.Mapped.{class_marks_mapped}
use Rattle.ijar_strip.proofs.kept.kept_marks.Goals as goal

pub returns-then-not-has_local : goal.returns-then-not-has_local
returns-then-not-has_local c =
    let none : list_any is_local c.args.list.now ≡ false = sym c.has_local.ensures
    ∙ c.if-not-has_local.true in
    c.in_ok-from_elem.ensures.items_if_clones_equal (λ y is. is)
    ∙ sym (all_kept c.args.list.now c.args.list.now none)

pub returns : goal.returns
returns c =
    let seen : map link_seen c.deref.result.now ≡ map class_link c.args.list.now =
    ap (map link_seen) c.deref.ensures.value ∙ c.in_ok-links.ensures in
    subst (λ list. IfOk c.staying.result (λ marks. marks.items ≡ list))
    (ap (λ links. map (stays_in begins leads_to links) links) seen
    ∙ sym (class_marks_mapped c.args.list.now)) c.staying.ensures
