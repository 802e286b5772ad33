-- Answers without where their descriptions lie in memory.
use Rattle.std.specs.Prelude.{map}
use Rattle.class_desc.specs.declared.attribute.Attr.{out-Attr}
use Rattle.class_views.specs.View.{view_of_desc, view_of_field, view_of_method, annotations_of}
use Rattle.class_views.specs.Query as query
use Rattle.ask_text.specs.declared.answer.Answer.{Answer}
use Rattle.ask_text.specs.declared.answer.Answer.TheVariants as answer
use Rattle.ask_text.specs.declared.answer.Finding.{Finding}
use Rattle.ask_text.specs.declared.answer.Finding.TheVariants as finding

abbrev pub finding_seen : Finding → query.Finding
finding_seen (finding.Class class) =
    query.ClassFound (query.without_members (view_of_desc class.now))
finding_seen (finding.Field declarer field) =
    query.MemberFound declarer.now (view_of_field field.now)
finding_seen (finding.Method declarer method) =
    query.MemberFound declarer.now (view_of_method method.now)
finding_seen (finding.Constant value) = query.ConstantFound value.now
finding_seen (finding.Annotations attributes) =
    query.AnnotationsFound (annotations_of (map out-Attr attributes.now))

abbrev pub answer_seen : Answer → query.Answer
answer_seen (answer.Found found) = query.Found (finding_seen found)
answer_seen answer.NotFound = query.NotFound
answer_seen (answer.NotAccessible declarer) = query.NotAccessible declarer.now
answer_seen (answer.Ambiguous first second) = query.Ambiguous first.now second.now
answer_seen answer.WrongKind = query.WrongKind
answer_seen (answer.Cycle at) = query.Cycle at.now
