use Rattle.type_expr_parser.proofs.TokenLaws.{operator_found, operator_missing}
use Rattle.type_expr_parser.proofs.tokens.operator.Goals as goal

pub returns-in-Some : goal.returns-in-Some
returns-in-Some c = operator_found _ _ _ c.in-Some.ensures.read

pub returns-in-None : goal.returns-in-None
returns-in-None c = operator_missing _ _ c.in-None.ensures.none
