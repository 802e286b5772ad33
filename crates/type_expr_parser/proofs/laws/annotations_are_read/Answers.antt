use Rattle.std.proofs.Common.{suc, ◌≤◌, length, arith}
use Rattle.type_expr_parser.proofs.AnnTakes.{annotation_spelled}
use Rattle.type_expr_parser.proofs.AnnAgain.{annotation_again}
use Rattle.type_expr_parser.proofs.laws.annotations_are_read.Goals as goal

pub returns : goal.returns
returns c = record {
  takes = annotation_spelled;
  again = λ depth a text left x few ends.
      let fits : length text ≤ suc depth = omega arith in
      annotation_again depth a text left x fits ends;
}
