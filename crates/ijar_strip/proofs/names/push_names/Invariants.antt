use Rattle.std.proofs.Common.{◌≡◌, ◌++◌, take}
use Rattle.ijar_strip.proofs.names.push_names.Given as goal

abbrev pub invariant-loop-name : goal.invariant-loop-name
invariant-loop-name l = l.places ≡ l.initial.places ++ take l.name-index l.names
