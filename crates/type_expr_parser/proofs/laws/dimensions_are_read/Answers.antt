use Rattle.std.proofs.Common.{ap, Some}
use Rattle.java_grammar.specs.Types.{Dims}
use Rattle.type_expr_parser.proofs.AnnTakes.{given}
use Rattle.type_expr_parser.proofs.TypeTakes.{dims_takes}
use Rattle.type_expr_parser.proofs.ArgAgain.{dims_again}
use Rattle.type_expr_parser.proofs.laws.dimensions_are_read.Goals as goal

pub returns : goal.returns
returns c = record {
  takes = λ depth text k left h. given Dims h (dims_takes depth text);
  again = λ depth k text left x few ends. ap Some (dims_again depth k text left x few (ends depth));
}
