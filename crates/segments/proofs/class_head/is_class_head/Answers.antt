use Rattle.std.proofs.Common.{◌∙◌}
use Rattle.java_token.specs.declared.token.Token.{Token}
use Rattle.segments.specs.Brackets.{mark_of, is_opening, is_closing}
use Rattle.segments.proofs.ClassHeads.{found, not_found, counted_place, counted_few, dot_place}
use Rattle.segments.proofs.ClassHeads.{none_found, class_head_is}
use Rattle.segments.proofs.class_head.is_class_head.Goals as goal

pub returns-then-declares_class : goal.returns-then-declares_class
returns-then-declares_class c =
    let h = c.loop-at.invariant in
    found _ _ _ _ _ _ h.opened h.closed h.dot h.none c.declares_class.ensures
    c.if-declares_class.true
    ∙ class_head_is c.args.head.now

pub loop-at-preserved : goal.loop-at-preserved
loop-at-preserved c =
    let h = c.loop-at.invariant in
    let opening = λ (t : Token). is_opening (mark_of t) in
    let closing = λ (t : Token). is_closing (mark_of t) in
    let marked = c.of-mark.ensures in record {
      opened = c.counted-opened.ensures
          ∙ rw (c.is_opening.ensures, marked)
          (counted_place opening _ _ _ _ c.loop-at-test.true c.index-head-at.is h.opened);
      opened_few = rw c.counted-opened.ensures (counted_few _ _ _ h.opened_few);
      closed = c.counted-closed.ensures
          ∙ rw (c.is_closing.ensures, marked)
          (counted_place closing _ _ _ _ c.loop-at-test.true c.index-head-at.is h.closed);
      closed_few = rw c.counted-closed.ensures (counted_few _ _ _ h.closed_few);
      dot = c.is_dot-is_behind_dot.ensures
          ∙ dot_place _ _ _ c.loop-at-test.true c.index-head-at.is;
      none =
          not_found _ _ _ _ _ _ _ c.loop-at-test.true c.index-head-at.is h.opened h.closed h.dot
          h.none c.declares_class.ensures c.if-declares_class.false;
    }

pub returns : goal.returns
returns c = none_found _ _ c.loop-at-test.false c.loop-at.invariant.none
    ∙ class_head_is c.args.head.now
