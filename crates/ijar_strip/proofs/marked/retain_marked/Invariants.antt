use Rattle.std.proofs.Common.{◌≡◌, ◌≤◌, Bool, length, map}
use Rattle.std.proofs.lemmas.List.Filters.{FiltersInPlace}
use Rattle.ijar_strip.proofs.marked.retain_marked.Given as goal

abbrev pub invariant-loop-index : goal.invariant-loop-index
invariant-loop-index g l = record {
  behind : l.kept ≤ l.index;
  long : length l.items.items ≡ length l.initial.items.items;
  front : (stays : g.row.T.Denot → Bool) → l.marks ≡ map stays l.initial.items.items →
      FiltersInPlace stays l.initial.items.items l.items.items l.kept l.index;
}
