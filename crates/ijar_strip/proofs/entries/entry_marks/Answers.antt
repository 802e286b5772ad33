use Rattle.std.proofs.Common.{◌≡◌, ap, sym, ◌∙◌, map}
use Rattle.class_views.specs.Staying.{stays_in}
use Rattle.class_views.specs.Strip.{stripped_names}
use Rattle.ijar_strip.specs.Links.{link_seen, begins, leads_to}
use Rattle.ijar_strip.specs.Marks.{entry_link}
use Rattle.ijar_strip.proofs.Mapped.{entry_marks_mapped}
use Rattle.ijar_strip.proofs.entries.entry_marks.Goals as goal

pub returns : goal.returns
returns c =
    let d = c.args.desc.now in
    let entries = c.args.entries.now in
    let seen : map link_seen c.deref.result.now
    ≡ map (entry_link (stripped_names d) d.name) entries =
    ap (map link_seen) c.deref.ensures.value
    ∙ (c.in_ok-links.ensures ∙ ap (λ names. map (entry_link names d.name) entries) c.requires)
    in
    c.of.ensures
    ∙ (c.in_ok-staying.ensures ∙ (ap (λ links. map (stays_in begins leads_to links) links) seen
    ∙ sym (entry_marks_mapped d entries)))
