use Rattle.std.proofs.Common.{◌<◌, arith, true, false, length, refl, sym, ◌∙◌}
use Rattle.std.proofs.lemmas.List.{get_or_default}
use Rattle.ijar_strip.proofs.ByMarks.{retain_more, retain_same}
use Rattle.ijar_strip.proofs.marked.retain_marked.Goals as goal
use Rattle.ijar_strip.proofs.marked.retain_marked.Goals.{then-mark, else-mark}

pub loop-index-preserved : goal.loop-index-preserved
loop-index-preserved g c =
    let marks = c.args.marks.now in
    let i = c.loop-index.index in
    let within : i < length marks = omega arith in
    let inside : i < length c.loop-index.items.items = omega arith in
    elim c.if-mark.branch [
      | then-mark w ↦ rw (w.items-is, w.kept-is) record {
        behind = omega arith;
        long = omega (arith, w.swap.ensures.len);
        front = λ stays are.
            retain_more stays c.args.items.now.items c.loop-index.items.items
            w.swap.new.self.items marks c.loop-index.kept i true are
            (c.loop-index.invariant.front stays are) inside
            (sym (get_or_default marks i true _ within ∙ w.if-mark.true)) refl
            w.swap.ensures.by_index;
      }
      | else-mark w ↦ rw (w.items-is, w.kept-is) record {
        behind = omega arith;
        long = c.loop-index.invariant.long;
        front = λ stays are.
            retain_same stays c.args.items.now.items c.loop-index.items.items marks
            c.loop-index.kept i false are
            (c.loop-index.invariant.front stays are) inside
            (sym (get_or_default marks i false _ within ∙ w.if-mark.false)) refl;
      }
    ]
