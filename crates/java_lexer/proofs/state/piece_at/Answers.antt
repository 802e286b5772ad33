use Rattle.std.proofs.Common.{◌∙◌, sym}
use Rattle.std.proofs.lemmas.Bool.{OnTrue_at}
use Rattle.java_lexer.proofs.Longest.{piece_scanned}
use Rattle.java_lexer.proofs.CutLemmas.{piece_not_empty}
use Rattle.java_lexer.proofs.state.piece_at.Goals as goal

pub returns-then-opens_comment-clause-progress : goal.returns-then-opens_comment-clause-progress
returns-then-opens_comment-clause-progress c =
    rw c.comment_at.ensures.value (piece_not_empty c.args.units.now)

pub returns-then-begins_blank-clause-value : goal.returns-then-begins_blank-clause-value
returns-then-begins_blank-clause-value c =
    sym (OnTrue_at c.if-begins_blank.true c.begins_blank.ensures.piece)
    ∙ piece_scanned c.args.units.now (sym c.opens_comment.ensures.value ∙ c.if-opens_comment.false)

pub returns-then-word-gt0-clause-value : goal.returns-then-word-gt0-clause-value
returns-then-word-gt0-clause-value c = c.scan.ensures.value
    ∙ c.ascii_word-word.ensures.value c.if-word-gt0.true
    ∙ piece_scanned c.args.units.now (sym c.opens_comment.ensures.value ∙ c.if-opens_comment.false)

pub returns-else-word-gt0-clause-value : goal.returns-else-word-gt0-clause-value
returns-else-word-gt0-clause-value c = c.scan-else-word-gt0.ensures.value
    ∙ piece_scanned c.args.units.now (sym c.opens_comment.ensures.value ∙ c.if-opens_comment.false)

pub returns-then-word-gt0-clause-progress : goal.returns-then-word-gt0-clause-progress
returns-then-word-gt0-clause-progress c =
    rw (returns-then-word-gt0-clause-value c) (piece_not_empty c.args.units.now)

pub returns-else-word-gt0-clause-progress : goal.returns-else-word-gt0-clause-progress
returns-else-word-gt0-clause-progress c =
    rw (returns-else-word-gt0-clause-value c) (piece_not_empty c.args.units.now)
