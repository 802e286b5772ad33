use Rattle.std.proofs.Common.{refl, []}
use Rattle.productions.proofs.Combining.{law_reads}
use Rattle.productions.specs.Lists.{typed}
use Rattle.head_parser.specs.Types.{named, named_types, bounds, param, throws}
use Rattle.head_parser.specs.Modifiers.{modifiers, modifier_line, sealed_line, non_sealed_line, keyword}
use Rattle.head_parser.specs.Formals.{formals, formal, formal_end, outer_this}
use Rattle.head_parser.specs.Methods.{method_line, method_tail, generic, some_params, result}
use Rattle.head_parser.specs.Methods.{default_value}
use Rattle.head_parser.proofs.MethodLaws.{method_law}
use Rattle.head_parser.proofs.laws.methods_are_read.Goals as goal

pub returns : goal.returns
unfolding method_line method_tail modifiers modifier_line sealed_line non_sealed_line keyword generic
    some_params param bounds named named_types result formals formal formal_end outer_this typed
    throws default_value
returns c = law_reads method_law [] refl
