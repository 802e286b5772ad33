use Rattle.std.proofs.Common.{refl, []}
use Rattle.productions.proofs.Combining.{law_reads}
use Rattle.productions.specs.Lists.{typed}
use Rattle.head_parser.specs.Types.{named, named_types, bounds, param, params, throws}
use Rattle.head_parser.specs.Modifiers.{modifiers, modifier_line, sealed_line, non_sealed_line, keyword}
use Rattle.head_parser.specs.Formals.{formals, formal, formal_end, outer_this}
use Rattle.head_parser.specs.Methods.{constructor_line, constructor_end}
use Rattle.head_parser.proofs.MethodLaws.{constructor_law}
use Rattle.head_parser.proofs.laws.constructors_are_read.Goals as goal

pub returns : goal.returns
unfolding constructor_line constructor_end modifiers modifier_line sealed_line non_sealed_line keyword params
    param bounds named named_types formals formal formal_end outer_this typed throws
returns c = λ name. law_reads (constructor_law name) [] refl
