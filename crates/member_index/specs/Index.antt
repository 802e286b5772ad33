-- Where the members of classes stand.
pub use Rattle.member_index.specs.Places.{places_of, passes_at}
use Rattle.std.specs.Prelude.{◌≡◌, ◌<◌, ◌^◌, ℕ, List, [], length, slice_get, Some}
use Rattle.std.specs.Option.{option_map_or}
use Rattle.java_names.specs.Names.{is_text}
use Rattle.class_desc.specs.ClassFile.{Key, is_key, field_key, method_key}
use Rattle.class_desc.specs.declared.class.ClassDesc.{ClassDesc}
use Rattle.class_desc.specs.declared.class.FieldDesc.{FieldDesc}
use Rattle.class_desc.specs.declared.class.MethodDesc.{MethodDesc}
use Rattle.member_index.specs.Order.{AreOrdersOf}
use Rattle.member_index.specs.declared.index.MemberIndex.{MemberIndex}
use Rattle.member_index.specs.declared.kind.Kind.TheVariants as kind

-- places are numbers of 32 bits
pub record HasFewMembers (class : ClassDesc) : Type 0 where
  pub fields : length class.fields < 2 ^ 32
  pub methods : length class.methods < 2 ^ 32

abbrev pub HaveFewMembers : List ClassDesc → Type 0
HaveFewMembers classes =
    (number : ℕ) (class : ClassDesc) → slice_get classes number ≡ Some class → HasFewMembers class

-- ---- what classes declare

abbrev pub fields_of : List ClassDesc → ℕ → List FieldDesc
fields_of classes class = option_map_or (λ d. d.fields) (slice_get classes class) []

abbrev pub methods_of : List ClassDesc → ℕ → List MethodDesc
methods_of classes class = option_map_or (λ d. d.methods) (slice_get classes class) []

-- ---- the places of those of a name and a descriptor, or of a name

abbrev pub fields_by : List ClassDesc → ℕ → Key → List ℕ
fields_by classes class key =
    places_of (λ f. is_key (field_key f) key) (fields_of classes class)

abbrev pub names_by : List ClassDesc → ℕ → List ℕ → List ℕ
names_by classes class name = places_of (λ f. is_text f.name name) (fields_of classes class)

abbrev pub methods_by : List ClassDesc → ℕ → Key → List ℕ
methods_by classes class key =
    places_of (λ m. is_key (method_key m) key) (methods_of classes class)

-- an index tells, for each class and key, the places of those members that have it
pub record IsIndexOf (index : MemberIndex) (classes : List ClassDesc) : Type 0 where
  pub fields : AreOrdersOf kind.Fields index.fields classes
  pub names : AreOrdersOf kind.Names index.names classes
  pub methods : AreOrdersOf kind.Methods index.methods classes
