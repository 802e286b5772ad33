use Rattle.std.proofs.Common.{◌≡◌, [], map, take}
use Rattle.std.specs.List.{flat_map}
use Rattle.ijar_strip.specs.Links.{AreValues, link_seen, names_of, begun_places, row_of}
use Rattle.ijar_strip.proofs.links.graph.Given as goal

abbrev pub invariant-loop-index : goal.invariant-loop-index
invariant-loop-index l = record {
  rows : AreValues (row_of (map link_seen l.links)) [] l.index l.rows;
  begun : l.begun.items ≡ flat_map (begun_places (names_of (map link_seen l.links)))
      (map link_seen (take l.index l.links));
}
