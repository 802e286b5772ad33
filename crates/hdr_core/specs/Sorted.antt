-- What it is to sort a list by an order, and to keep each of its members once.
use Rattle.std.specs.Prelude.{List, Contains}
use Rattle.std.specs.declared.cmp.Ordering.{Ordering}
use Rattle.std.specs.List.Sorted.{IsStrictlySortedBy}

-- The sorted list has the members of the given one, each once, the lesser first.
-- Where the order is total, no other list is so.
pub record Sorts {X : Type 0} (order : X → X → Ordering) (given sorted : List X) : Type 0 where
  pub ascending : IsStrictlySortedBy order sorted
  pub none_new : (x : X) → Contains sorted x → Contains given x
  pub none_lost : (x : X) → Contains given x → Contains sorted x
