use Rattle.std.proofs.Common.{◌≡◌, ◌++◌, take}
use Rattle.ijar_strip.specs.Links.{places_of}
use Rattle.ijar_strip.proofs.links.push_others.Given as goal

abbrev pub invariant-loop-name : goal.invariant-loop-name
invariant-loop-name l = l.out.items ≡ l.initial.out.items
    ++ places_of l.places (take l.name-index l.names)
