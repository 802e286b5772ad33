use Rattle.std.proofs.Common.{◌≡◌, map, take}
use Rattle.std.specs.Prelude.{None}
use Rattle.ijar_strip.specs.Links.{AreValues, link_seen, names_of, before_of}
use Rattle.ijar_strip.proofs.links.placed.Given as goal

abbrev pub invariant-loop-link : goal.invariant-loop-link
invariant-loop-link l = record {
  names : l.places ≡ names_of (map link_seen (take l.link-index l.links));
  befores : AreValues (before_of (map link_seen l.links)) None l.link-index l.befores.items;
}
