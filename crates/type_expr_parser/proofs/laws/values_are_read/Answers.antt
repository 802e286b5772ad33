use Rattle.type_expr_parser.proofs.Lines.{front_as}
use Rattle.type_expr_parser.proofs.AnnTakes.{value_takes}
use Rattle.type_expr_parser.proofs.AnnAgain.{values_read}
use Rattle.type_expr_parser.proofs.laws.values_are_read.Goals as goal

pub returns : goal.returns
returns c = record {
  takes = λ depth text e left h. front_as (λ l x. (depth, x)) (value_takes depth text e left h);
  again = λ depth e text left x few ends. (values_read depth).reads x.0 e text left x.1 few ends;
}
