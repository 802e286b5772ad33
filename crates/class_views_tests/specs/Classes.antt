-- Small classes and questions, for the tables of examples.
use Rattle.std.specs.Prelude.{◌≡◌, ℕ, false, List, [], map, codes, Option, Some, None}
use Rattle.class_desc.specs.ClassFile.{object_name}
use Rattle.class_views.specs.View.{View, MemberView}
use Rattle.class_views.specs.World.{World}
use Rattle.class_views.specs.Access.{Client}
use Rattle.class_views.specs.Resolution.{NameAndType}
use Rattle.class_views.specs.Query.{Query, FieldQuery, MethodQuery, InterfaceMethodQuery}
use Rattle.class_views.specs.Query.{MemberFieldQuery, MemberMethodQuery, Answer, Found}
use Rattle.class_views.specs.Query.{MemberFound, ask}

-- a member without attributes
abbrev pub member : ℕ → List ℕ → List ℕ → MemberView
member flags descriptor name = record {
  flags = flags;
  name = name;
  descriptor = descriptor;
  signature = None;
  thrown = [];
  constant = None;
  default = None;
  annotations = [];
  visible_formals = [];
  invisible_formals = [];
  parameters = [];
  deprecated = false;
  synthetic = false;
}

-- a field of type int
abbrev pub int_field : ℕ → List ℕ → MemberView
int_field flags name = member flags (codes "I") name

-- a method without parameters and result
abbrev pub method : ℕ → List ℕ → MemberView
method flags name = member flags (codes "()V") name

-- a class without attributes
abbrev pub type : ℕ → List ℕ → Option (List ℕ) → List (List ℕ) → List MemberView →
    List MemberView →
    View
type flags name super_name interfaces fields methods = record {
  name = name;
  flags = flags;
  own_entry = None;
  super_name = super_name;
  interfaces = interfaces;
  signature = None;
  permitted = [];
  components = None;
  annotations = [];
  deprecated = false;
  fields = fields;
  methods = methods;
}

-- public, and below java/lang/Object
abbrev pub class : List ℕ → List (List ℕ) → List MemberView → List MemberView → View
class name interfaces fields methods =
    type 0x0021 name (Some object_name) interfaces fields methods

abbrev pub object : List MemberView → View
object methods = type 0x0021 object_name None [] [] methods

-- public, with a superclass
abbrev pub subclass : List ℕ → List ℕ → List (List ℕ) → List MemberView → List MemberView → View
subclass name super_name interfaces fields methods =
    type 0x0021 name (Some super_name) interfaces fields methods

abbrev pub interface : List ℕ → List (List ℕ) → List MemberView → List MemberView → View
interface name interfaces fields methods =
    type 0x0601 name (Some object_name) interfaces fields methods

-- ---- clients and questions

-- of the unnamed package, with no superclass
abbrev pub stranger : Client
stranger = record { package_name = []; super_name = None }

abbrev pub of_package : List ℕ → Client
of_package name = record { package_name = name; super_name = None }

-- of the unnamed package, with this superclass
abbrev pub extending : List ℕ → Client
extending name = record { package_name = []; super_name = Some name }

abbrev pub int_named : List ℕ → NameAndType
int_named name = record { name = name; descriptor = codes "I" }

abbrev pub call : List ℕ → NameAndType
call name = record { name = name; descriptor = codes "()V" }

abbrev pub field_x : List ℕ → Query
field_x name = FieldQuery name (int_named (codes "x"))

abbrev pub member_x : List ℕ → Query
member_x name = MemberFieldQuery name (codes "x")

abbrev pub method_m : List ℕ → Query
method_m name = MethodQuery name (call (codes "m"))

abbrev pub interface_m : List ℕ → Query
interface_m name = InterfaceMethodQuery name (call (codes "m"))

abbrev pub member_m : List ℕ → Query
member_m name = MemberMethodQuery name (call (codes "m"))

-- the field x, or the method m, of these flags, with the class that declares it
abbrev pub found_x : List ℕ → ℕ → Answer
found_x declarer flags = Found (MemberFound declarer (int_field flags (codes "x")))

abbrev pub found_method : List ℕ → ℕ → List ℕ → Answer
found_method declarer flags name = Found (MemberFound declarer (method flags name))

abbrev pub found_m : List ℕ → ℕ → Answer
found_m declarer flags = found_method declarer flags (codes "m")

-- ---- tables

-- a client, a question and its answer
abbrev pub Row : Type 0
Row = Client × Query × Answer

-- a world, and questions about it
pub record Example : Type 0 where
  pub world : World
  pub rows : List Row

abbrev pub answers : Example → List Answer
answers e = map (λ row. ask e.world row.0 row.1) e.rows

-- each answer is the one that stands in the row
abbrev pub Agree : List Example → Type 0
Agree examples = map answers examples ≡ map (λ e. map (λ row. row.2) e.rows) examples
