-- The grammar of class files (JVMS 4.1), over a free pool: its entries may stand in any order, be
-- unused or repeated.
use Rattle.std.specs.Prelude.{◌≡◌, ℕ, ◌+◌, ◌<◌, ◌≤◌, ◌^◌, ◌&&◌, Bool, true, false, List, []}
use Rattle.std.specs.Prelude.{◌∷◌, ◌++◌, length, map, codes, Option, Some, None}
use Rattle.std.specs.List.{flat_map, AllByRecursion, IsDistinct}
use Rattle.std.specs.Int.{w16, w32, to_be_bytes}
use Rattle.class_desc.specs.declared.attribute.Attr.{Attr}
use Rattle.class_desc.specs.declared.class.ClassDesc.{ClassDesc}
use Rattle.class_desc.specs.declared.class.FieldDesc.{FieldDesc}
use Rattle.class_desc.specs.declared.class.MethodDesc.{MethodDesc}
use Rattle.class_desc.specs.declared.limits.TheConstants.{MOST_TEXT}
use Rattle.class_desc.specs.declared.place.Place.{Place}
use Rattle.class_desc.specs.declared.place.Place.TheVariants as place
use Rattle.java_names.specs.Names.{is_text}
use Rattle.class_desc.specs.Attributes.{AttributesSpell}
use Rattle.class_desc.specs.Forms.{IsFieldName, IsMethodName, IsFieldDescriptor}
use Rattle.class_desc.specs.Forms.{IsMethodDescriptor}
use Rattle.class_desc.specs.Items.{NamesTextOf, NamesClassOf, CountedSpells}
use Rattle.class_desc.specs.Pool.{Entry, entry_bytes, EntryFits, numbered}
use Rattle.class_desc.specs.Texts.{class_texts}

-- ---- the head of a class

-- the name of the class that has no superclass
abbrev pub object_name : List ℕ
object_name = codes "java/lang/Object"

-- the superclass: the number 0 for java/lang/Object alone, which has none (JVMS 4.1)
abbrev pub NamesSuper : List Entry → ℕ → List ℕ → Option (List ℕ) → Type 0
NamesSuper pool n name None = (n ≡ 0) × (is_text name object_name ≡ true)
NamesSuper pool n name (Some super) = (is_text name object_name ≡ false)
    × NamesClassOf pool n super

-- numbers of classes, each with its name
abbrev pub NamesClasses : List Entry → List ℕ → List (List ℕ) → Type 0
NamesClasses pool [] [] = Unit {0}
NamesClasses pool (n ∷ ns) (name ∷ names) = NamesClassOf pool n name × NamesClasses pool ns names
NamesClasses pool [] (name ∷ names) = ⊥
NamesClasses pool (n ∷ ns) [] = ⊥

-- ---- members

-- a field or a method (JVMS 4.5, 4.6), whose name and descriptor have these forms
pub record MemberSpells (pool : List Entry) (place : Place) (IsName IsDescriptor : List ℕ
    → Type 0) (flags : ℕ) (name descriptor : List ℕ) (kept : List Attr) (bytes : List ℕ) : Type 0
  where
    pub name_number : ℕ
    pub descriptor_number : ℕ
    pub attributes : List ℕ
    pub flags_fit : flags < 2 ^ 16
    pub whole : bytes ≡ to_be_bytes w16 flags
        ++ (to_be_bytes w16 name_number ++ (to_be_bytes w16 descriptor_number ++ attributes))
    pub named : NamesTextOf pool IsName name_number name
    pub described : NamesTextOf pool IsDescriptor descriptor_number descriptor
    pub attributed : AttributesSpell pool place descriptor kept attributes

abbrev pub FieldSpells : List Entry → FieldDesc → List ℕ → Type 0
FieldSpells pool f bytes =
    MemberSpells pool place.Field IsFieldName IsFieldDescriptor f.flags f.name f.descriptor f.attrs
    bytes

abbrev pub MethodSpells : List Entry → MethodDesc → List ℕ → Type 0
MethodSpells pool m bytes =
    MemberSpells pool place.Method IsMethodName (IsMethodDescriptor m.flags) m.flags m.name
    m.descriptor m.attrs bytes

-- ---- the class

-- what tells members of a class apart: the name and the descriptor (JVMS 4.5, 4.6)
abbrev pub Key : Type 0
Key = List ℕ × List ℕ

abbrev pub is_key : Key → Key → Bool
is_key a b = is_text a.0 b.0 && is_text a.1 b.1

abbrev pub field_key : FieldDesc → Key
field_key f = (f.name, f.descriptor)

abbrev pub method_key : MethodDesc → Key
method_key m = (m.name, m.descriptor)

-- the parts of a class file behind the pool, each as its bytes
pub record Parts : Type 0 where
  pub this : ℕ
  pub super : ℕ
  pub interfaces : List ℕ
  pub fields : List ℕ
  pub methods : List ℕ
  pub attributes : List ℕ

abbrev pub magic : ℕ
magic = 0xCAFE_BABE

-- the bytes of a class file that has this pool and these parts, in the order of JVMS 4.1
abbrev pub file_bytes : ClassDesc → List Entry → Parts → List ℕ
file_bytes d pool p =
    to_be_bytes w32 magic ++ (to_be_bytes w16 d.minor ++ (to_be_bytes w16 d.major
    ++ (to_be_bytes w16 (length (numbered pool) + 1) ++ (flat_map entry_bytes pool
    ++ (to_be_bytes w16 d.flags ++ (to_be_bytes w16 p.this ++ (to_be_bytes w16 p.super
    ++ (to_be_bytes w16 (length p.interfaces) ++ (flat_map (to_be_bytes w16) p.interfaces
    ++ (p.fields ++ (p.methods ++ p.attributes)))))))))))

-- the bytes are a class file over this pool, and the description is what its kept items name
pub record SpellsOver (d : ClassDesc) (bytes : List ℕ) (pool : List Entry) : Type 0 where
  pub parts : Parts
  pub whole : bytes ≡ file_bytes d pool parts
  pub entries : AllByRecursion EntryFits pool
  -- JVMS 4.1: the count is one more than the numbers
  pub pool_count : length (numbered pool) + 1 < 2 ^ 16
  pub minor : d.minor < 2 ^ 16
  -- JDK 1.0.2 to Java SE 17 (JVMS table 4.1-A)
  pub major : (45 ≤ d.major) × (d.major ≤ 61)
  -- without MODULE, the highest bit (JVMS table 4.1-B)
  pub flags : d.flags < 2 ^ 15
  pub this : NamesClassOf pool parts.this d.name
  pub super : NamesSuper pool parts.super d.name d.super_name
  pub super_fits : parts.super < 2 ^ 16
  pub interface_count : length parts.interfaces < 2 ^ 16
  pub interfaces : NamesClasses pool parts.interfaces d.interfaces
  pub fields : CountedSpells (FieldSpells pool) d.fields parts.fields
  pub distinct_fields : IsDistinct is_key (map field_key d.fields)
  pub methods : CountedSpells (MethodSpells pool) d.methods parts.methods
  pub distinct_methods : IsDistinct is_key (map method_key d.methods)
  pub attributes : AttributesSpell pool place.Class [] d.attrs parts.attributes

-- The bytes spell the description. That its texts are bounded is no rule of the JVMS: a class file
-- can name one long text very often.
abbrev pub ClassSpells : ClassDesc → List ℕ → Type 0
ClassSpells d bytes = (pool : List Entry) × SpellsOver d bytes pool × (class_texts d ≤ MOST_TEXT)

-- some file spells the description
abbrev pub IsValid : ClassDesc → Type 0
IsValid d = (bytes : List ℕ) × AllByRecursion (λ b. b < 2 ^ 8) bytes × ClassSpells d bytes
