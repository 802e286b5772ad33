use Rattle.std.proofs.Common.{◌∙◌, ◌++◌, ◌+◌, sym, ap, arith, drop, length-drop}
use Rattle.std.proofs.lemmas.List.{take_rest, drop_more}
use Rattle.java_text.specs.Source.{inputs_behind}
use Rattle.java_text.proofs.EscapeLemmas.{units_of, pushed, further, ended}
use Rattle.java_text.proofs.escape.translate.Goals as goal

pub loop-at-preserved : goal.loop-at-preserved
loop-at-preserved c =
    let held = c.loop-at.invariant in
    let raw = c.args.raw.now in
    let at = c.loop-at.at in
    let taken = c.next-taken.result.1 in
    let within = simp take_rest at c.next-taken.ensures.within in (
      _,
      c.behind-ending.ensures held.0 held.1,
      omega (arith, within, length-drop (at + 1) raw, c.loop-at-test.true),
      rw (further at taken raw) (
          pushed held.0 _ (drop (at + 1) raw) _ c.loop-at.units.items _ c.next-taken.result.0
          (simp take_rest at (c.next-taken.ensures.value held.0 held.1)) c.in_ok-push.ensures.items
          ∙ ap (λ t. c.loop-at.units.items ++ units_of (inputs_behind held.0 t))
          (sym (drop_more raw at 0 c.loop-at-test.true))
          ∙ held.3),
    )

pub returns : goal.returns
returns c =
    ended c.loop-at.at c.loop-at.invariant.0 c.args.raw.now _ c.loop-at-test.false
    c.loop-at.invariant.3
