use Rattle.std.proofs.Common.{suc, ◌≤◌, length, arith}
use Rattle.java_ast.specs.declared.types.TypeTree.{out-TypeTree}
use Rattle.java_ast.specs.declared.types.ArgTree.TheViews.{roll-out-TypeTree}
use Rattle.type_expr_parser.specs.Types.{type_at}
use Rattle.type_expr_parser.proofs.Lines.{front_as}
use Rattle.type_expr_parser.proofs.TypeTakes.{bare_takes, type_takes}
use Rattle.type_expr_parser.proofs.TypeAgain.{bare_again, types_read}
use Rattle.type_expr_parser.proofs.laws.bare_types_are_read.Goals as goal

pub returns : goal.returns
returns c = record {
  takes = λ depth text t left h.
      front_as (λ l x. (depth, x))
      (bare_takes depth depth (type_at depth) (type_takes depth) text t left h);
  again = λ depth t text left x few ends.
      let fits : length text ≤ suc depth = omega arith in
      bare_again depth (type_at depth) (types_read depth) x.0 t (out-TypeTree t) text left
      (roll-out-TypeTree t) x.1 fits ends;
}
