-- What a client asks of classes, and what it finds. The queries and the form of the answers are
-- this project's own.
use Rattle.std.specs.Prelude.{ℕ, ◌&&◌, ◌≡◌, Bool, true, false, List, [], ◌∷◌, find, Option, Some}
use Rattle.std.specs.Prelude.{None, option_map, if◌then◌else◌}
use Rattle.std.specs.Option.{option_or}
use Rattle.std.specs.List.{list_any, list_all}
use Rattle.class_desc.specs.declared.value.Value.{Value}
use Rattle.class_desc.specs.declared.bound_annotations.Ann.{Ann}
use Rattle.java_names.specs.Names.{is_text}
use Rattle.class_views.specs.View.{View, MemberView}
use Rattle.class_views.specs.World.{World, class_of, is_interface, walk, ring_of}
use Rattle.class_views.specs.Flags.{is_private, is_final, is_abstract}
use Rattle.class_views.specs.Access.{Client, is_accessible_class, is_accessible}
use Rattle.class_views.specs.Resolution.{Declared, NameAndType, is_meant, method_in}
use Rattle.class_views.specs.Resolution.{field_resolution, method_resolution}
use Rattle.class_views.specs.Resolution.{interface_method_resolution}
use Rattle.class_views.specs.Membership.{Candidate, member_fields, member_methods}

-- what annotations are asked of
pub data Part : Type 0 where
  Whole : Part
  FieldPart : List ℕ → Part
  MethodPart : NameAndType → Part

-- each query names a class first
pub data Query : Type 0 where
  -- a class
  ClassQuery : List ℕ → Query
  -- its supertypes
  SupersQuery : List ℕ → Query
  -- JVMS 5.4.3.2
  FieldQuery : List ℕ → NameAndType → Query
  -- JVMS 5.4.3.3
  MethodQuery : List ℕ → NameAndType → Query
  -- JVMS 5.4.3.4
  InterfaceMethodQuery : List ℕ → NameAndType → Query
  -- the member fields of a name
  MemberFieldQuery : List ℕ → List ℕ → Query
  -- the member methods of a name and descriptor
  MemberMethodQuery : List ℕ → NameAndType → Query
  -- the constant of a field that the class declares
  ConstantQuery : List ℕ → List ℕ → Query
  -- the annotations of the class, or of a member that it declares
  AnnotationsQuery : List ℕ → Part → Query

-- what is found
pub data Finding : Type 0 where
  -- the view of a class without the lists of its members
  ClassFound : View → Finding
  -- the name of the class that declares the member, and the member
  MemberFound : List ℕ → MemberView → Finding
  ConstantFound : Value → Finding
  AnnotationsFound : List Ann → Finding

-- classes are told by their names
pub data Answer : Type 0 where
  Found : Finding → Answer
  NotFound : Answer
  -- the class that isn't accessible, or that declares what isn't
  NotAccessible : List ℕ → Answer
  -- the classes that declare the first two
  Ambiguous : List ℕ → List ℕ → Answer
  -- a method of a class is asked of an interface, or the other way round
  WrongKind : Answer
  -- a class that reaches itself
  Cycle : List ℕ → Answer

abbrev pub class_asked : Query → List ℕ
class_asked (ClassQuery name) = name
class_asked (SupersQuery name) = name
class_asked (FieldQuery name sought) = name
class_asked (MethodQuery name sought) = name
class_asked (InterfaceMethodQuery name sought) = name
class_asked (MemberFieldQuery name field) = name
class_asked (MemberMethodQuery name sought) = name
class_asked (ConstantQuery name field) = name
class_asked (AnnotationsQuery name part) = name

abbrev pub without_members : View → View
without_members c = record c { fields = []; methods = [] }

-- ---- answers about members

-- what is found of a member, where it is accessible
abbrev pub reply : World → Client → List ℕ → MemberView → Finding → Answer
reply world client declarer m finding =
    if is_accessible world client declarer m then Found finding else NotAccessible declarer

abbrev pub member_reply : World → Client → List ℕ → MemberView → Answer
member_reply world client declarer m =
    reply world client declarer m (MemberFound declarer m)

abbrev pub resolved : World → Client → Option Declared → Answer
resolved world client None = NotFound
resolved world client (Some d) = member_reply world client d.declarer.name d.member

-- one field, since two or more are ambiguous
abbrev pub field_member : World → Client → List Candidate → Answer
field_member world client [] = NotFound
field_member world client (k ∷ []) = member_reply world client k.declarer k.member
field_member world client (first ∷ second ∷ more) = Ambiguous first.declarer second.declarer

-- one method; several abstract ones stand for the first
abbrev pub method_member : World → Client → List Candidate → Answer
method_member world client [] = NotFound
method_member world client (k ∷ []) = member_reply world client k.declarer k.member
method_member world client (first ∷ second ∷ more) =
    if list_all (λ k. is_abstract k.member.flags) (first ∷ second ∷ more)
    then member_reply world client first.declarer first.member
    else Ambiguous first.declarer second.declarer

-- a final field of the name
abbrev pub is_final_field : List ℕ → MemberView → Bool
is_final_field name m = is_text m.name name && is_final m.flags

-- the first final field of the name that has a constant, with it
abbrev pub first_constant : List ℕ → List MemberView → Option (MemberView × Value)
first_constant name [] = None
first_constant name (m ∷ fields) =
    option_or
    (if is_final_field name m then option_map (λ value. (m, value)) m.constant else None)
    (first_constant name fields)

abbrev pub constant_answer : World → Client → View → Option (MemberView × Value) → Answer
constant_answer world client c None = NotFound
constant_answer world client c (Some constant) =
    reply world client c.name constant.0 (ConstantFound constant.1)

abbrev pub annotations_answer : World → Client → View → Option MemberView → Answer
annotations_answer world client c None = NotFound
annotations_answer world client c (Some m) =
    reply world client c.name m (AnnotationsFound m.annotations)

-- the first field of a name, or method of a name and descriptor, that the class declares
abbrev pub annotations_at : World → Client → View → Part → Answer
annotations_at world client c Whole = Found (AnnotationsFound c.annotations)
annotations_at world client c (FieldPart name) =
    annotations_answer world client c (find (λ m. is_text m.name name) c.fields)
annotations_at world client c (MethodPart sought) =
    annotations_answer world client c (method_in sought c)

-- ---- the order of the questions: the class, a cycle, the kind, and then the rest

abbrev pub unless_ring : Option View → Answer → Answer
unless_ring None answer = answer
unless_ring (Some ring) answer = Cycle ring.name

-- the answer about an accessible class that leads to no ring
abbrev pub answer_in : World → Client → View → Query → Answer
answer_in world client c (ClassQuery name) = Found (ClassFound (without_members c))
answer_in world client c (SupersQuery name) = Found (ClassFound (without_members c))
answer_in world client c (FieldQuery name sought) =
    resolved world client (field_resolution world name sought)
answer_in world client c (MethodQuery name sought) =
    if is_interface c then WrongKind
    else resolved world client (method_resolution world name sought)
answer_in world client c (InterfaceMethodQuery name sought) =
    if is_interface c then resolved world client (interface_method_resolution world name sought)
    else WrongKind
answer_in world client c (MemberFieldQuery name field) =
    field_member world client (member_fields world name field)
answer_in world client c (MemberMethodQuery name sought) =
    method_member world client (member_methods world name sought)
answer_in world client c (ConstantQuery name field) =
    constant_answer world client c (first_constant field c.fields)
answer_in world client c (AnnotationsQuery name part) = annotations_at world client c part

-- a class and its supertypes are told also where they lead to a ring
abbrev pub asks_beyond : Query → Bool
asks_beyond (ClassQuery name) = false
asks_beyond (SupersQuery name) = false
asks_beyond other = true

abbrev pub ring_met : World → Query → Option View
ring_met world query =
    if asks_beyond query then ring_of world (class_asked query) else None

abbrev pub answer_of : World → Client → Query → Option View → Answer
answer_of world client query None = NotFound
answer_of world client query (Some c) =
    if is_accessible_class client c
    then unless_ring (ring_met world query) (answer_in world client c query)
    else NotAccessible c.name

unfoldable pub ask : World → Client → Query → Answer
ask world client query = answer_of world client query (class_of world (class_asked query))

abbrev pub Succeeds : Answer → Type 0
Succeeds answer = (finding : Finding) × (answer ≡ Found finding)

-- ---- private members that hide

-- a class whose private member hides what a question of membership asks for
abbrev pub hides : Query → View → Bool
hides (MemberFieldQuery name field) c =
    list_any (λ m. is_text m.name field && is_private m.flags) c.fields
hides (MemberMethodQuery name sought) c =
    list_any (λ m. is_meant sought m && is_private m.flags) c.methods
hides other c = false

abbrev pub hides_among : List (List ℕ) → Query → View → Bool
hides_among read query c = list_any (is_text c.name) read && hides query c

-- some class of the walk that is among those read, told by their names, which differ, hides it
unfoldable pub is_hidden : World → List (List ℕ) → Query → Bool
is_hidden world read query = list_any (hides_among read query) (walk world (class_asked query))

abbrev pub IsUnhidden : World → List (List ℕ) → Query → Type 0
IsUnhidden world read query = is_hidden world read query ≡ false
