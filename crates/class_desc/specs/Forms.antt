-- The forms of texts in class files (JVMS 4.2, 4.3, 4.4.7, 4.7.9.1).
use Rattle.std.specs.Prelude.{◌≡◌, ℕ, ◌+◌, ◌≤◌, ◌==◌, Bool, true, bit_and, List, [], codes}
use Rattle.std.specs.Prelude.{if◌then◌else◌}
use Rattle.std.specs.Prelude.{◌⊎◌}
use Rattle.class_desc.specs.declared.place.Place.{Place}
use Rattle.class_desc.specs.declared.place.Place.TheVariants as place
use Rattle.java_names.specs.Names.{is_class_name, is_field_name, is_method_name}
use Rattle.java_types.specs.declared.production.SigPlace.{SigPlace}
use Rattle.java_types.specs.declared.production.SigPlace.TheVariants.{ClassPlace, MethodPlace}
use Rattle.java_types.specs.declared.production.SigPlace.TheVariants.{FieldPlace}
use Rattle.java_types.specs.declared.types.JSig.{JSig}
use Rattle.java_types.specs.declared.types.JSig.TheVariants.{OfMethod, OfField}
use Rattle.java_types.specs.declared.types.JType.{JType}
use Rattle.java_types.specs.Descriptor.{DescriptorSpells}
use Rattle.java_types.specs.Nesting.{nesting, nesting_limit}
use Rattle.java_types.specs.Signature.{SignatureSpells}
use Rattle.descriptor_scan.specs.Forms.{slots}

-- no form is asked for
abbrev pub IsAnyText : List ℕ → Type 0
IsAnyText text = Unit {0}

-- JVMS 4.2.1
abbrev pub IsClassName : List ℕ → Type 0
IsClassName text = is_class_name text ≡ true

-- JVMS 4.2.2; the name of a component of a record has this form too (JVMS 4.7.30)
abbrev pub IsFieldName : List ℕ → Type 0
IsFieldName text = is_field_name text ≡ true

-- JVMS 4.2.2, with <init> and <clinit> (JVMS 2.9.1, 2.9.2)
abbrev pub IsMethodName : List ℕ → Type 0
IsMethodName text = is_method_name text ≡ true

-- the descriptor of a field (JVMS 4.3.2)
abbrev pub IsFieldDescriptor : List ℕ → Type 0
IsFieldDescriptor text = (type : JType) × DescriptorSpells (OfField type) text

-- the descriptor of a result: of a field, or void (JVMS 4.3.3)
abbrev pub IsReturnDescriptor : List ℕ → Type 0
IsReturnDescriptor text = IsFieldDescriptor text ⊎ (text ≡ codes "V")

-- the flag of a method without this (JVMS table 4.6-A)
abbrev pub static_flag : ℕ
static_flag = 0x0008

-- how many slots this takes in a method of these flags (JVMS 4.3.3)
abbrev pub this_slots : ℕ → ℕ
this_slots flags = if bit_and flags static_flag == 0 then 1 else 0

-- The descriptor of a method of these flags, whatever its name (JVMS 4.3.3): at most 255 slots.
pub record IsMethodDescriptor (flags : ℕ) (text : List ℕ) : Type 0 where
  pub formals : List JType
  pub ret : JType
  pub spells : DescriptorSpells (OfMethod [] formals ret []) text
  pub few : slots formals + this_slots flags ≤ 255

-- what a signature here is one of (JVMS 4.7.9): of a field also at a component
abbrev pub signature_place : Place → SigPlace
signature_place place.Class = ClassPlace
signature_place place.Field = FieldPlace
signature_place place.Method = MethodPlace
signature_place place.Component = FieldPlace

-- a signature of this place (JVMS 4.7.9.1), nested no deeper than may be
pub record IsSignatureText (place : Place) (text : List ℕ) : Type 0 where
  pub signature : JSig
  pub spells : SignatureSpells (signature_place place) signature text
  pub nested : nesting signature ≤ nesting_limit
