-- What replies say of a world, where numbers are places in its list.
use Rattle.std.specs.Prelude.{◌≡◌, ℕ, List, slice_get, Option, Some, option_map}
use Rattle.class_desc.specs.declared.value.Value.{Value}
use Rattle.class_desc.specs.declared.bound_annotations.Ann.{Ann}
use Rattle.class_views.specs.View.{View, MemberView}
use Rattle.class_views.specs.World.{World}
use Rattle.class_views.specs.Access.{Client}
use Rattle.class_views.specs.Resolution.{method_in}
use Rattle.class_views.specs.Query.{Finding, ClassFound, MemberFound, ConstantFound}
use Rattle.class_views.specs.Query.{AnnotationsFound, Answer, Found, NotFound, NotAccessible}
use Rattle.class_views.specs.Query.{Ambiguous, WrongKind, Cycle, without_members}
use Rattle.class_views.specs.Query.{Part, Whole, FieldPart, MethodPart}
use Rattle.client_view.specs.Members.{constant_in_class, field_named_in}
use Rattle.client_view.specs.declared.asked.Client.{Client as Asking}
use Rattle.client_view.specs.declared.asked.Part.{Part as Asked}
use Rattle.client_view.specs.declared.asked.Part.TheVariants as asked
use Rattle.client_view.specs.declared.reply.Reply.{Reply}
use Rattle.client_view.specs.declared.reply.Reply.TheVariants as reply
use Rattle.client_view.specs.declared.reply.MemberAt.{MemberAt}

abbrev pub client_seen : Asking → Client
client_seen client = record {
  package_name = client.package;
  super_name = client.super_name;
}

abbrev pub part_seen : Asked → Part
part_seen asked.Whole = Whole
part_seen (asked.FieldPart name) = FieldPart name
part_seen (asked.MethodPart name descriptor) =
    MethodPart (record { name = name; descriptor = descriptor })

-- an answer that tells the name of a class, where a reply has its number
pub record Tells (world : World) (number : ℕ) (told : List ℕ → Answer) (answer : Answer)
    : Type 0 where
  pub class : View
  pub there : slice_get world number ≡ Some class
  pub is : answer ≡ told class.name

pub record TellsTwo (world : World) (first second : ℕ) (answer : Answer) : Type 0 where
  pub one : View
  pub other : View
  pub one_there : slice_get world first ≡ Some one
  pub other_there : slice_get world second ≡ Some other
  pub is : answer ≡ Ambiguous one.name other.name

pub record TellsOf {T : Type 0} (IsFound : T → Finding → Type 0) (found : T) (answer : Answer)
    : Type 0 where
  pub finding : Finding
  pub there : IsFound found finding
  pub is : answer ≡ Found finding

-- the answer for which a reply stands
abbrev pub Says : {T : Type 0} → World → (T → Finding → Type 0) → Reply T → Answer → Type 0
Says world IsFound (reply.Found found) answer = TellsOf IsFound found answer
Says world IsFound reply.NotFound answer = answer ≡ NotFound
Says world IsFound (reply.NotAccessible declarer) answer =
    Tells world declarer (λ name. NotAccessible name) answer
Says world IsFound (reply.Ambiguous first second) answer = TellsTwo world first second answer
Says world IsFound reply.WrongKind answer = answer ≡ WrongKind
Says world IsFound (reply.Cycle at) answer = Tells world at (λ name. Cycle name) answer

-- ---- what is found

pub record IsClassFound (world : World) (number : ℕ) (finding : Finding) : Type 0 where
  pub class : View
  pub there : slice_get world number ≡ Some class
  pub is : finding ≡ ClassFound (without_members class)

-- the member of a place, among the fields or the methods
pub record IsMember (world : World) (members : View → List MemberView) (at : MemberAt)
    (class : View) (member : MemberView) : Type 0 where
  pub there : slice_get world at.class ≡ Some class
  pub among : slice_get (members class) at.index ≡ Some member

pub record IsMemberFound (world : World) (members : View → List MemberView) (at : MemberAt)
    (finding : Finding) : Type 0 where
  pub class : View
  pub member : MemberView
  pub at_place : IsMember world members at class member
  pub is : finding ≡ MemberFound class.name member

abbrev pub fields_of : View → List MemberView
fields_of c = c.fields

abbrev pub methods_of : View → List MemberView
methods_of c = c.methods

-- the first final field of a name that has a constant, in the class of a name, with its value
pub record IsConstantFound (world : World) (class_name field_name : List ℕ) (at : MemberAt)
    (finding : Finding) : Type 0 where
  pub class : View
  pub field : MemberView
  pub value : Value
  pub at_place : IsMember world fields_of at class field
  pub named : class.name ≡ class_name
  pub first : constant_in_class field_name class ≡ Some field
  pub held : field.constant ≡ Some value
  pub is : finding ≡ ConstantFound value

-- the annotations of a class, or of the member that is asked of
abbrev pub annotations_in : View → Part → Option (List Ann)
annotations_in c Whole = Some c.annotations
annotations_in c (FieldPart name) =
    option_map (λ m. m.annotations) (field_named_in name c)
annotations_in c (MethodPart sought) = option_map (λ m. m.annotations) (method_in sought c)

-- the annotations that the class of a name, which has the number, has there
pub record IsAnnotationsFound (world : World) (name : List ℕ) (part : Part) (number : ℕ)
    (finding : Finding) : Type 0 where
  pub class : View
  pub annotations : List Ann
  pub there : slice_get world number ≡ Some class
  pub named : class.name ≡ name
  pub held : annotations_in class part ≡ Some annotations
  pub is : finding ≡ AnnotationsFound annotations
