-- The options that ask.
use Rattle.std.specs.Prelude.{ℕ, List, drop, find, Option}
use Rattle.java_names.specs.Names.{is_text}
use Rattle.questions.specs.declared.kind.Kind.{Kind}
use Rattle.questions.specs.declared.kind.Kind.TheVariants as kind
use Rattle.questions.specs.declared.kind.TheConstants.{TYPE, SUPERS, FIELD, METHOD, CONSTANT}
use Rattle.questions.specs.declared.kind.TheConstants.{INTERFACE_METHOD, ANNOTATIONS, KINDS}

abbrev pub option_of : Kind → List ℕ
option_of kind.Type = TYPE.now
option_of kind.Supers = SUPERS.now
option_of kind.Field = FIELD.now
option_of kind.Method = METHOD.now
option_of kind.InterfaceMethod = INTERFACE_METHOD.now
option_of kind.Constant = CONSTANT.now
option_of kind.Annotations = ANNOTATIONS.now

-- the option without its --
abbrev pub word_of : Kind → List ℕ
word_of asked = drop 2 (option_of asked)

-- the kind of questions that an option asks
unfoldable pub kind_of : List ℕ → Option Kind
kind_of option = find (λ asked. is_text (option_of asked) option) KINDS
