use Rattle.type_expr_parser.proofs.TypeTakes.{type_spelled}
use Rattle.type_expr_parser.proofs.TypeAgain.{types_read}
use Rattle.type_expr_parser.proofs.laws.types_are_read.Goals as goal

pub returns : goal.returns
returns c = record {
  takes = type_spelled;
  again = λ depth t text left x few ends.
      (types_read depth).reads x.0 t text left x.1 few ends;
}
