use Rattle.std.proofs.Common.{◌≡◌, map, take}
use Rattle.ijar_strip.specs.Links.{link_seen}
use Rattle.ijar_strip.specs.Marks.{entry_link}
use Rattle.ijar_strip.proofs.entries.entry_links.Given as goal

abbrev pub invariant-loop-entry : goal.invariant-loop-entry
invariant-loop-entry l = map link_seen l.links.items
    ≡ map (entry_link l.names l.class) (take l.entry-index l.entries)
