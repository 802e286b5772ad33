use Rattle.std.proofs.Common.{◌≡◌, ◌<◌, ◌++◌, ◌∙◌, ap, length, drop, length-drop, arith}
use Rattle.java_lexer.specs.Blocks.{stripped}
use Rattle.java_lexer.proofs.BlockLemmas.{first_length, stripped_last, stripped_line, further}
use Rattle.java_lexer.proofs.block.strip.Goals as goal

pub returns-then-end-content : goal.returns-then-end-content
returns-then-end-content c =
    let rest = drop c.lines.at c.args.content.now in
    let whole : first_length rest ≡ length rest =
    omega (
      arith,
      c.line_at-line.ensures.length,
      c.if-end-content.true,
      length-drop c.lines.at c.args.content.now,
    ) in
    stripped_last c.args.width _ _ _ _ c.line_at-line.ensures.line whole
    (c.in_ok-extend_from_slice.ensures.items
    ∙ ap (λ t. c.lines.stripped.items ++ t) c.kept.ensures)
    ∙ c.lines.invariant.text

pub lines-preserved : goal.lines-preserved
lines-preserved c =
    let rest = drop c.lines.at c.args.content.now in
    let more : first_length rest < length rest =
    omega (
      arith,
      c.line_at-line.ensures.length,
      c.line_at-line.ensures.within,
      c.if-end-content.false,
      length-drop c.lines.at c.args.content.now,
    ) in
    record {
      text =
          ap (λ units. c.push.new.self.items ++ stripped c.args.width units)
          (further _ _ _ c.args.content.now c.line_at-line.ensures.length)
          ∙ stripped_line c.args.width _ _ _ _ _ c.line_at-line.ensures.line more
          (c.in_ok-extend_from_slice.ensures.items
          ∙ ap (λ t. c.lines.stripped.items ++ t) c.kept.ensures) c.in_ok-push.ensures.items
          ∙ c.lines.invariant.text;
      within = omega (arith, c.line_at-line.ensures.within, c.if-end-content.false);
    }
