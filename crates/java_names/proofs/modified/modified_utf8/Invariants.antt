use Rattle.std.proofs.Common.{◌≡◌, ◌++◌, drop}
use Rattle.java_names.specs.ModifiedUtf8.{modified_utf8}
use Rattle.java_names.proofs.modified.modified_utf8.Given as goal

-- what has been gone over, and then what is left
abbrev pub invariant-loop-unit : goal.invariant-loop-unit
invariant-loop-unit l =
    l.bytes.items ++ modified_utf8 (drop l.unit-index l.units) ≡ modified_utf8 l.units
