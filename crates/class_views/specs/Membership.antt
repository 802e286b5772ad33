-- The members of a class: what it declares, else what it inherits (JLS 8.2, 8.3, 8.4.8, 9.4.1).
-- Methods are compared by erased descriptors. That what comes by the superclass, abstract or not,
-- and isn't overridden drops all that comes by superinterfaces alone is this project's own rule;
-- so is it that an interface has what java/lang/Object gives, its superclass, also what isn't
-- public there.
use Rattle.std.specs.Prelude.{ℕ, ◌&&◌, ◌||◌, Bool, true, false, not, List, [], ◌∷◌, length, map}
use Rattle.std.specs.Prelude.{filter, codes, Option, unwrap_or, if◌then◌else◌}
use Rattle.std.specs.Option.{option_map_or}
use Rattle.std.specs.List.{list_any, flat_map, enumerate_from}
use Rattle.java_names.specs.Names.{is_text}
use Rattle.class_views.specs.View.{View, MemberView}
use Rattle.class_views.specs.World.{World, Step, made_at, walk, each_once, is_interface, is_below}
use Rattle.class_views.specs.Flags.{Access, Private, Public, Protected, InPackage, access_of}
use Rattle.class_views.specs.Flags.{is_static}
use Rattle.class_views.specs.Access.{package_of}
use Rattle.class_views.specs.Resolution.{NameAndType, is_meant}

-- which members are asked for
pub data Key : Type 0 where
  -- fields, by their name
  FieldKey : List ℕ → Key
  -- methods, by their name and descriptor
  MethodKey : NameAndType → Key

-- constructors and the class initialiser are no members (JLS 8.2, JVMS 2.9)
abbrev pub is_special : List ℕ → Bool
is_special name = is_text name (codes "<init>") || is_text name (codes "<clinit>")

abbrev pub declared : Key → View → List MemberView
declared (FieldKey name) c = filter (λ m. is_text m.name name) c.fields
declared (MethodKey sought) c =
    if is_special sought.name then [] else filter (is_meant sought) c.methods

-- A member of a class or of one above it. The declarer's name and its place among those of the key
-- that this one declares tell it from all others; the rest follows from these in a world.
pub record Candidate : Type 0 where
  pub declarer : List ℕ
  pub place : ℕ
  -- the declarer is an interface
  pub in_interface : Bool
  pub member : MemberView

abbrev pub candidate : View → ℕ × MemberView → Candidate
candidate c m = record {
  declarer = c.name;
  place = m.0;
  in_interface = is_interface c;
  member = m.1;
}

abbrev pub candidates_in : Key → View → List Candidate
candidates_in key c = map (candidate c) (enumerate_from 0 (declared key c))

-- what the classes of the walk declare, each class once, in the order of the walk
abbrev pub candidates : World → Key → List ℕ → List Candidate
candidates world key name = flat_map (candidates_in key) (each_once (walk world name))

-- a set of candidates, as a test
abbrev pub Members : Type 0
Members = Candidate → Bool

-- ---- what is inherited

-- to a class: nothing private; without an access flag only inside the declarer's package (JLS 8.2)
abbrev pub comes_by : Access → Candidate → View → Bool
comes_by Private k c = false
comes_by Public k c = true
comes_by Protected k c = true
comes_by InPackage k c = is_text (package_of k.declarer) (package_of c.name)

-- static methods of interfaces aren't inherited (JLS 8.4.8, 9.4.1)
abbrev pub stays_behind : Key → Candidate → Bool
stays_behind (FieldKey name) k = false
stays_behind (MethodKey sought) k = k.in_interface && is_static k.member.flags

abbrev pub inherits : Key → View → Candidate → Bool
inherits key c k = comes_by (access_of k.member.flags) k c && not (stays_behind key k)

-- a member of the set, declared by an interface below the one of k
abbrev pub overrides : World → Members → Candidate → Candidate → Bool
overrides world set k other =
    set other && other.in_interface && is_below world other.declarer k.declarer

-- a method of an interface, where some member of the set overrides it (JLS 8.4.8)
abbrev pub is_overridden : World → List Candidate → Members → Candidate → Bool
is_overridden world all set k = k.in_interface && list_any (overrides world set k) all

abbrev pub either : Members → Members → Members
either a b k = a k || b k

-- of a set, what no method of others overrides
abbrev pub remaining : World → List Candidate → Members → Members → Members
remaining world all set others k = set k && not (is_overridden world all others k)

-- of methods that come by the superclass and by the superinterfaces first those go that another
-- one overrides
abbrev pub left : World → List Candidate → Members → Members → Members
left world all by_super by_interface =
    remaining world all (either by_super by_interface) (either by_super by_interface)

abbrev pub left_by_super : World → List Candidate → Members → Members → Members
left_by_super world all by_super by_interface k =
    by_super k && left world all by_super by_interface k

-- then, where one is left that came by the superclass, only such stay
abbrev pub chosen : World → List Candidate → Members → Members → Members
chosen world all by_super by_interface =
    if list_any (left_by_super world all by_super by_interface) all
    then left_by_super world all by_super by_interface
    else left world all by_super by_interface

-- of fields all that come stay (JLS 8.3)
abbrev pub chosen_of : Key → World → List Candidate → Members → Members → Members
chosen_of (FieldKey name) world all by_super by_interface = either by_super by_interface
chosen_of (MethodKey sought) world all by_super by_interface =
    chosen world all by_super by_interface

-- what a class inherits by its superclass, and by its superinterfaces, from their members
abbrev pub by_superclass : Key → View → Option Members → Members
by_superclass key c super k = option_map_or (λ set. set k) super false && inherits key c k

abbrev pub by_superinterfaces : Key → View → List Members → Members
by_superinterfaces key c interfaces k = list_any (λ set. set k) interfaces && inherits key c k

-- what it would inherit if it declared none of the key
abbrev pub would_inherit : World → Key → List Candidate → View → Option Members → List Members →
    Members
would_inherit world key all c super interfaces =
    chosen_of key world all (by_superclass key c super) (by_superinterfaces key c interfaces)

-- ---- members

abbrev pub is_empty : {A : Type 0} → List A → Bool
is_empty [] = true
is_empty (x ∷ xs) = false

abbrev pub own : View → Members
own c k = is_text k.declarer c.name

-- its own, if there are any, else what it inherits
abbrev pub member_step : World → Key → List Candidate → Step Members
member_step world key all c super interfaces =
    if is_empty (declared key c) then would_inherit world key all c super interfaces else own c

abbrev pub nothing : Members
nothing k = false

-- The members of a class, among these candidates: all that the classes of its walk declare have
-- to be among them, since what is chosen is sought there.
unfoldable pub members_at : World → Key → List Candidate → ℕ → List ℕ → Members
members_at world key all depth name =
    unwrap_or (made_at (member_step world key all) world depth name) nothing

abbrev pub members_among : World → Key → List Candidate → List ℕ → Members
members_among world key all name = members_at world key all (length world) name

-- the members of the class, in the order of its walk
unfoldable pub members : World → Key → List ℕ → List Candidate
members world key name =
    let all = candidates world key name in
    filter (members_among world key all name) all

abbrev pub member_fields : World → List ℕ → List ℕ → List Candidate
member_fields world name field = members world (FieldKey field) name

abbrev pub member_methods : World → List ℕ → NameAndType → List Candidate
member_methods world name sought = members world (MethodKey sought) name
