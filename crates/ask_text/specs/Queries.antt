-- Questions as those of the definitions.
use Rattle.class_views.specs.Query as asked
use Rattle.class_views.specs.Resolution.{NameAndType}
use Rattle.questions.specs.declared.query.MemberRef.{MemberRef}
use Rattle.questions.specs.declared.query.Part.{Part}
use Rattle.questions.specs.declared.query.Part.TheVariants.{Whole, FieldPart, MethodPart}
use Rattle.questions.specs.declared.query.Query.{Query}
use Rattle.questions.specs.declared.query.Query.TheVariants as query

abbrev pub sought : MemberRef → NameAndType
sought member = record { name = member.name; descriptor = member.descriptor }

abbrev pub part_of : Part → asked.Part
part_of Whole = asked.Whole
part_of (FieldPart name) = asked.FieldPart name
part_of (MethodPart name descriptor) =
    asked.MethodPart (record { name = name; descriptor = descriptor })

abbrev pub query_of : Query → asked.Query
query_of (query.Type class) = asked.ClassQuery class
query_of (query.Supers class) = asked.SupersQuery class
query_of (query.Field field) = asked.FieldQuery field.class (sought field)
query_of (query.Method method) = asked.MethodQuery method.class (sought method)
query_of (query.InterfaceMethod method) = asked.InterfaceMethodQuery method.class (sought method)
query_of (query.Constant field) = asked.ConstantQuery field.class field.name
query_of (query.Annotations class part) = asked.AnnotationsQuery class (part_of part)
