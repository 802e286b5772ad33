use Rattle.type_expr_parser.specs.Expressions.{Whole}
use Rattle.type_expr_parser.proofs.ExprSound.{bound_of, nested_takes}
use Rattle.type_expr_parser.proofs.ExprComplete.{nested_again}
use Rattle.type_expr_parser.proofs.laws.expressions_are_read.Goals as goal

pub returns : goal.returns
returns c = record {
  takes = λ depth text e left h.
      let x = nested_takes depth Whole text e left h in
      record {
        front = x.front;
        whole = x.whole;
        spelled = (bound_of depth, x.spelled);
      };
  again = λ depth e text left x few ends.
      (nested_again depth).reads Whole x.0 e text left x.1 few ends;
}
