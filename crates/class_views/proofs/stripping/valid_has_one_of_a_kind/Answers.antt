use Rattle.class_views.specs.Strip.{strip_class}
use Rattle.class_views.proofs.OneOfAKind.{one_of_each, one_inner}
use Rattle.class_views.proofs.Stripped.{stripped_valid}
use Rattle.class_views.proofs.stripping.valid_has_one_of_a_kind.Goals as goal

pub returns-clause-each : goal.returns-clause-each
returns-clause-each c = one_of_each

pub returns-clause-stripped : goal.returns-clause-stripped
returns-clause-stripped c = λ d valid. one_of_each (strip_class d) (stripped_valid d valid)

pub returns-clause-inner_classes : goal.returns-clause-inner_classes
returns-clause-inner_classes c = one_inner
