-- The members of a list in their order.
use Rattle.std.specs.Prelude.{List, [], ◌∷◌}
use Rattle.std.specs.declared.cmp.Ordering.{Ordering}
use Rattle.std.specs.BTreeSet.{insert_key}

-- the members, the lesser first, each once
abbrev pub in_order : {X : Type 0} → (X → X → Ordering) → List X → List X
in_order order [] = []
in_order order (x ∷ xs) = insert_key order (in_order order xs) x
