use Rattle.std.proofs.Common.{◌≡◌, map, take}
use Rattle.class_views.specs.Staying.{stays_in}
use Rattle.ijar_strip.specs.Links.{link_seen, begins, leads_to}
use Rattle.ijar_strip.proofs.links.staying.Given as goal

abbrev pub invariant-loop-index : goal.invariant-loop-index
invariant-loop-index l = l.stays.items
    ≡ map (stays_in begins leads_to (map link_seen l.links)) (map link_seen (take l.index l.links))
