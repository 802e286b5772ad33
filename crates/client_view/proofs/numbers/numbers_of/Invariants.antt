use Rattle.std.proofs.Common.{◌≡◌, ℕ, List, take}
use Rattle.std.specs.BTreeMap.{get}
use Rattle.std.specs.Cmp.Lexicographic.{slice_cmp}
use Rattle.std.specs.Ordering.{nat_cmp}
use Rattle.client_view.specs.Numbers.{views, number_of, AreApart}
use Rattle.client_view.proofs.numbers.numbers_of.Given as goal

abbrev pub invariant-loop-index : goal.invariant-loop-index
invariant-loop-index l = record {
  numbers : (name : List ℕ) → get (slice_cmp nat_cmp) l.numbers name
      ≡ number_of (take l.index (views l.classes)) name;
  apart : AreApart (take l.index (views l.classes));
}
