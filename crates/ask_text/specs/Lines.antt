-- The line that answers a question. Its form is this project's own.
use Rattle.std.specs.Prelude.{ℕ, List, ◌++◌, codes}
use Rattle.class_views.specs.View.{View}
use Rattle.class_views.specs.Query.{Finding, ClassFound, MemberFound, ConstantFound}
use Rattle.class_views.specs.Query.{AnnotationsFound, Answer, Found, NotFound, NotAccessible}
use Rattle.class_views.specs.Query.{Ambiguous, WrongKind, Cycle}
use Rattle.questions.specs.declared.kind.Kind.{Kind}
use Rattle.questions.specs.declared.kind.Kind.TheVariants as kind
use Rattle.questions.specs.Kinds.{word_of}
use Rattle.ask_text.specs.Texts.{behind_blank, blanked, flags_text, superclass_text}
use Rattle.ask_text.specs.Texts.{constant_text, annotation_texts}

abbrev pub supers_text : View → List ℕ
supers_text c = superclass_text c.super_name ++ blanked c.interfaces

-- of a class its supertypes or its flags, by what is asked
abbrev pub class_text : Kind → View → List ℕ
class_text kind.Supers c = supers_text c
class_text other c = behind_blank (flags_text c.flags)

abbrev pub finding_text : Kind → Finding → List ℕ
finding_text asked (ClassFound c) = class_text asked c
finding_text asked (MemberFound declarer m) =
    behind_blank declarer ++ behind_blank (flags_text m.flags) ++ behind_blank m.descriptor
finding_text asked (ConstantFound value) = constant_text value
finding_text asked (AnnotationsFound annotations) = annotation_texts annotations

abbrev pub answer_text : Kind → Answer → List ℕ
answer_text asked (Found finding) = codes "found" ++ finding_text asked finding
answer_text asked NotFound = codes "not-found"
answer_text asked (NotAccessible declarer) = codes "not-accessible" ++ behind_blank declarer
answer_text asked (Ambiguous first second) =
    codes "ambiguous" ++ behind_blank first ++ behind_blank second
answer_text asked WrongKind = codes "wrong-kind"
answer_text asked (Cycle at) = codes "cycle" ++ behind_blank at

-- the option without its --, the value as written, the answer, and a line feed
abbrev pub line_of : Kind → List ℕ → Answer → List ℕ
line_of asked value answer =
    word_of asked ++ behind_blank value ++ behind_blank (answer_text asked answer) ++ codes "\n"
