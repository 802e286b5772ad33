use Rattle.std.proofs.Common.{◌≡◌, map, take}
use Rattle.ijar_strip.specs.Links.{link_seen}
use Rattle.ijar_strip.specs.Marks.{class_link}
use Rattle.ijar_strip.proofs.kept.class_links.Given as goal

abbrev pub invariant-loop-desc : goal.invariant-loop-desc
invariant-loop-desc l = map link_seen l.links.items ≡ map class_link (take l.desc-index l.list)
