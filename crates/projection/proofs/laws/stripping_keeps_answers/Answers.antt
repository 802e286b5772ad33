use Rattle.std.proofs.Common.{refl}
use Rattle.class_views.specs.Kept.{strip_each}
use Rattle.projection.proofs.Written.{stripped_keeps, left_keeps}
use Rattle.projection.proofs.laws.stripping_keeps_answers.Goals as goal

pub returns-clause-set : goal.returns-clause-set
returns-clause-set c = stripped_keeps

pub returns-clause-each : goal.returns-clause-each
returns-clause-each c = λ list one. left_keeps list (strip_each list) refl one
