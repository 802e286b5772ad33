use Rattle.std.proofs.Common.{◌≡◌, ◌+◌, ◌-◌, ◌∙◌, sym, ap, refl, arith, take, drop, length-drop}
use Rattle.std.proofs.lemmas.List.{take_rest, length-take}
use Rattle.java_lexer.specs.Lexing.{Cut, line_behind}
use Rattle.java_lexer.specs.Cutting.{ends_begun, ends_in_return}
use Rattle.java_lexer.proofs.CutLemmas.{behind_tokens, cut_at, cut_step, cut_stops, cut_ends}
use Rattle.java_lexer.proofs.CutLemmas.{line_ends_further, ends_in_return_further}
use Rattle.java_lexer.proofs.LineLemmas.{all_counted}
use Rattle.java_lexer.proofs.cut.cut_pieces.Goals as goal

pub loop-at-init : goal.loop-at-init
unfolding ends_begun ends_in_return
loop-at-init c = record {
  whole = rw c.new-tokens.ensures.items refl;
  within = omega arith;
  ends = refl;
  last = refl;
  bound = omega arith;
}

pub returns-in-None : goal.returns-in-None
returns-in-None c =
    let same =
    sym (cut_stops c.loop-at.at c.loop-at.tokens.items c.args.units.now
    (sym (simp take_rest at c.in-None.ensures.value))) ∙ c.loop-at.invariant.whole in
    record {
      tokens = ap (λ (x : Cut). x.tokens) same;
      before = ap (λ (x : Cut). x.before) same;
      rest = ap (λ (x : Cut). x.rest) same;
      within = c.loop-at.invariant.within;
      counted = c.loop-at.invariant.ends ∙ all_counted (take c.loop-at.at c.args.units.now);
      bound = c.loop-at.invariant.bound;
    }

pub loop-at-preserved : goal.loop-at-preserved
loop-at-preserved c =
    let at = c.loop-at.at in
    let n = c.in-Some.length in
    let units = c.args.units.now in
    let same : at + n - at ≡ n = omega arith in
    let line : c.loop-at.place.line_ends + 1 ≡ line_behind (take at units) =
    omega (arith, c.loop-at.invariant.ends, all_counted (take at units)) in
    let room = simp take_rest at c.in-Some.ensures.within in
    record {
      whole =
          ap (λ tokens. behind_tokens tokens (cut_at (at + n) units))
          (rw same at c.in_ok-push_token-in-Some.ensures)
          ∙ cut_step at n c.in-Some.kind _ c.loop-at.tokens.items units c.loop-at-test.true
          (sym (simp take_rest at c.in-Some.ensures.value)) c.in-Some.ensures.progress line
          ∙ c.loop-at.invariant.whole;
      within = omega (arith, room, length-drop at units, c.loop-at.invariant.within);
      ends = (rw same at c.behind-place.ensures.ends)
          ∙ rw (c.loop-at.invariant.ends, c.loop-at.invariant.last)
          (sym (line_ends_further at n units));
      last = (rw same at c.behind-place.ensures.last)
          ∙ rw c.loop-at.invariant.last (sym (ends_in_return_further at n units));
      bound =
          omega (
            arith,
            rw same at c.behind-place.ensures.bound,
            length-take n (drop at units),
            c.loop-at.invariant.bound,
          );
    }

pub returns : goal.returns
returns c =
    let same =
    sym (cut_ends c.loop-at.at c.loop-at.tokens.items c.args.units.now c.loop-at-test.false)
    ∙ c.loop-at.invariant.whole in
    record {
      tokens = ap (λ (x : Cut). x.tokens) same;
      before = ap (λ (x : Cut). x.before) same;
      rest = ap (λ (x : Cut). x.rest) same;
      within = c.loop-at.invariant.within;
      counted = c.loop-at.invariant.ends ∙ all_counted (take c.loop-at.at c.args.units.now);
      bound = c.loop-at.invariant.bound;
    }
