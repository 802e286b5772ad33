use Rattle.std.proofs.Common.{refl, []}
use Rattle.productions.proofs.Combining.{law_reads}
use Rattle.productions.specs.Lists.{typed}
use Rattle.head_parser.specs.Types.{named, named_types, bounds, param, params, superclass}
use Rattle.head_parser.specs.Types.{superinterfaces, implements, permits}
use Rattle.head_parser.specs.Modifiers.{modifiers, modifier_line, sealed_line, non_sealed_line, keyword}
use Rattle.head_parser.specs.Formals.{component}
use Rattle.head_parser.specs.Heads.{head_line, declared_line, class_head, interface_head, enum_head}
use Rattle.head_parser.specs.Heads.{annotation_head, record_head}
use Rattle.head_parser.proofs.HeadLaws.{head_law}
use Rattle.head_parser.proofs.laws.heads_are_read.Goals as goal

pub returns : goal.returns
unfolding head_line declared_line class_head interface_head enum_head annotation_head record_head params
    param bounds named named_types superclass superinterfaces implements permits component typed
    modifiers modifier_line sealed_line non_sealed_line keyword
returns c = law_reads head_law [] refl
