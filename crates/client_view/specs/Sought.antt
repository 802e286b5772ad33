-- The members that are sought.
use Rattle.std.specs.Prelude.{◌&&◌, ℕ, Bool, not, List, is_some}
use Rattle.class_desc.specs.declared.class.ClassDesc.{ClassDesc}
use Rattle.class_desc.specs.declared.class.FieldDesc.{FieldDesc}
use Rattle.class_desc.specs.declared.class.MethodDesc.{MethodDesc}
use Rattle.class_views.specs.Flags.{has_flag}
use Rattle.class_views.specs.Resolution.{NameAndType}
use Rattle.class_views.specs.View.{constant_in, first_attribute}
use Rattle.member_index.specs.Index.{fields_by, methods_by}
use Rattle.client_view.specs.declared.sought.Sought.{Sought}

abbrev pub meant : Sought → NameAndType
meant sought = record { name = sought.name.now; descriptor = sought.descriptor.now }

-- the places of those that a class declares
abbrev pub fields_sought : List ClassDesc → ℕ → Sought → List ℕ
fields_sought classes class sought =
    fields_by classes class (sought.name.now, sought.descriptor.now)

abbrev pub methods_sought : List ClassDesc → ℕ → Sought → List ℕ
methods_sought classes class sought =
    methods_by classes class (sought.name.now, sought.descriptor.now)

-- ---- which of those that have the name and descriptor count

-- a final field that has a constant (JVMS 4.7.2)
abbrev pub holds_constant : FieldDesc → Bool
holds_constant f = has_flag 0x0010 f.flags && is_some (first_attribute constant_in f.attrs)

-- a method that an interface can give to those below it
abbrev pub is_inherited : MethodDesc → Bool
is_inherited m = not (has_flag 0x0002 m.flags) && not (has_flag 0x0008 m.flags)

-- a method that interfaces have of java/lang/Object (JVMS 5.4.3.4)
abbrev pub is_shared : MethodDesc → Bool
is_shared m = has_flag 0x0001 m.flags && not (has_flag 0x0008 m.flags)
