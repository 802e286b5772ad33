use Rattle.std.proofs.Common.{◌≡◌, drop}
use Rattle.std.specs.Prelude.{find}
use Rattle.java_names.specs.Names.{is_text}
use Rattle.questions.specs.Kinds.{option_of}
use Rattle.questions.specs.declared.kind.Kind.{Kind}
use Rattle.questions.proofs.kind.kind_among.Given as goal

abbrev pub invariant-loop-kind : goal.invariant-loop-kind
invariant-loop-kind l =
    find (λ (kind : Kind). is_text (option_of kind) l.option) (drop l.kind-index l.kinds)
    ≡ find (λ (kind : Kind). is_text (option_of kind) l.option) l.kinds
