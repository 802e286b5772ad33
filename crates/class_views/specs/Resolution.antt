-- Which field or method a name and a descriptor stand for (JVMS 5.4.3.2 to 5.4.3.4).
-- Where a class declares two of one name and descriptor, the first counts; of methods that an
-- interface gives to those below it the first that it can give. Signature-polymorphic methods
-- (JVMS 2.9.3) are methods as all others.
use Rattle.std.specs.Prelude.{ℕ, ◌&&◌, Bool, not, List, [], ◌∷◌, filter, find, Option, Some, None}
use Rattle.std.specs.Prelude.{option_map, option_to_list, if◌then◌else◌}
use Rattle.std.specs.List.{list_any, filter_map}
use Rattle.std.specs.Option.{option_or}
use Rattle.java_names.specs.Names.{is_text}
use Rattle.class_desc.specs.ClassFile.{object_name}
use Rattle.class_views.specs.View.{View, MemberView}
use Rattle.class_views.specs.World.{World, class_of, is_interface, walk, chain, supers_of}
use Rattle.class_views.specs.World.{is_below}
use Rattle.class_views.specs.Flags.{has_flag, is_private, is_static, is_abstract}

-- a member, with the class that declares it
pub record Declared : Type 0 where
  pub declarer : View
  pub member : MemberView

-- a name and a descriptor (JVMS 4.4.6)
pub record NameAndType : Type 0 where
  pub name : List ℕ
  pub descriptor : List ℕ

abbrev pub is_meant : NameAndType → MemberView → Bool
is_meant sought m = is_text m.name sought.name && is_text m.descriptor sought.descriptor

-- the member that a way to choose one takes in a class
abbrev pub declared_by : (View → Option MemberView) → View → Option Declared
declared_by choice c = option_map (λ m. record { declarer = c; member = m }) (choice c)

-- the member of the first class that has one
abbrev pub first_declared : (View → Option MemberView) → List View → Option Declared
first_declared choice [] = None
first_declared choice (c ∷ cs) = option_or (declared_by choice c) (first_declared choice cs)

-- ---- fields

abbrev pub field_in : NameAndType → View → Option MemberView
field_in sought c = find (is_meant sought) c.fields

-- the first in the walk (JVMS 5.4.3.2)
unfoldable pub field_resolution : World → List ℕ → NameAndType → Option Declared
field_resolution world name sought = first_declared (field_in sought) (walk world name)

-- ---- methods

abbrev pub method_in : NameAndType → View → Option MemberView
method_in sought c = find (is_meant sought) c.methods

-- what an interface can give to those below it: neither private nor static
abbrev pub is_given : NameAndType → MemberView → Bool
is_given sought m = is_meant sought m && not (is_private m.flags) && not (is_static m.flags)

abbrev pub interface_method_in : NameAndType → View → Option MemberView
interface_method_in sought c = if is_interface c then find (is_given sought) c.methods else None

-- what each superinterface gives
abbrev pub superinterface_methods : World → List ℕ → NameAndType → List Declared
superinterface_methods world name sought =
    filter_map (declared_by (interface_method_in sought)) (supers_of world name)

-- the interface of no other one is below its own
abbrev pub is_most_specific : World → List Declared → Declared → Bool
is_most_specific world methods m =
    not (list_any (λ other. is_below world other.declarer.name m.declarer.name) methods)

-- the maximally specific superinterface methods (JVMS 5.4.3.3)
unfoldable pub specific : World → List ℕ → NameAndType → List Declared
specific world name sought =
    let methods = superinterface_methods world name sought in
    filter (is_most_specific world methods) methods

-- the only one
abbrev pub sole : {A : Type 0} → List A → Option A
sole [] = None
sole (x ∷ []) = Some x
sole (x ∷ y ∷ xs) = None

-- the only maximally specific one that isn't abstract, else the first in the walk, where the
-- standard chooses arbitrarily
abbrev pub from_superinterfaces : World → List ℕ → NameAndType → Option Declared
from_superinterfaces world name sought =
    option_or
    (sole (filter (λ m. not (is_abstract m.member.flags)) (specific world name sought)))
    (first_declared (interface_method_in sought) (walk world name))

-- in a class (JVMS 5.4.3.3): first the class and its superclasses
unfoldable pub method_resolution : World → List ℕ → NameAndType → Option Declared
method_resolution world name sought =
    option_or
    (first_declared (method_in sought) (chain world name))
    (from_superinterfaces world name sought)

-- what an interface has of java/lang/Object: public and not static, whatever other flags it has
abbrev pub object_method_in : NameAndType → View → Option MemberView
object_method_in sought c =
    find (λ m. is_meant sought m && has_flag 0x0001 m.flags && not (is_static m.flags)) c.methods

-- in an interface (JVMS 5.4.3.4): first its own
unfoldable pub interface_method_resolution : World → List ℕ → NameAndType → Option Declared
interface_method_resolution world name sought =
    option_or
    (first_declared (method_in sought) (option_to_list (class_of world name)))
    (option_or
    (first_declared (object_method_in sought) (option_to_list (class_of world object_name)))
    (from_superinterfaces world name sought))
