use Rattle.std.proofs.Common.{◌<◌, arith, length}
use Rattle.std.proofs.lemmas.Bool.{OnTrue_from, OnTrue_at}
use Rattle.java_lexer.proofs.FrontLemmas.{blank_scanned}
use Rattle.java_lexer.proofs.state.begins_blank.Goals as goal

pub returns-then-not-is_empty-clause-piece : goal.returns-then-not-is_empty-clause-piece
returns-then-not-is_empty-clause-piece c =
    let room : 0 < length c.args.units.now =
    grind (arith, c.is_empty.ensures, c.if-not-is_empty.true) in
    OnTrue_from c.is_blank.result _
    (λ e. blank_scanned c.args.units.now room (OnTrue_at e c.is_blank.ensures))
