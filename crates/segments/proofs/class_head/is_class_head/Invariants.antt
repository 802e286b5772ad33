use Rattle.std.proofs.Common.{◌≡◌, ◌≤◌, [], take, drop}
use Rattle.segments.specs.Brackets.{opens, closes}
use Rattle.segments.specs.Cut.{declares_class, ends_in_dot}
use Rattle.segments.proofs.ClassHeads.{some_place}
use Rattle.segments.proofs.class_head.is_class_head.Given as goal

-- the brackets before the place are counted, and no place before it declares a class
abbrev pub invariant-loop-at : goal.invariant-loop-at
invariant-loop-at l = record {
  opened : l.opened ≡ opens (take l.at l.head);
  opened_few : l.opened ≤ l.at;
  closed : l.closed ≡ closes (take l.at l.head);
  closed_few : l.closed ≤ l.at;
  dot : l.is_behind_dot ≡ ends_in_dot (take l.at l.head);
  none : some_place declares_class (take l.at l.head) (drop l.at l.head)
      ≡ some_place declares_class [] l.head;
}
