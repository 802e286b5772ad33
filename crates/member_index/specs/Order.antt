-- Members in the order of what they are told by.
use Rattle.std.specs.Prelude.{◌≡◌, ℕ, Bool, List, [], map, length, slice_get, slice_index_or, Some}
use Rattle.std.specs.Cmp.Lexicographic.{slice_cmp}
use Rattle.std.specs.List.{filter}
use Rattle.std.specs.List.Sorted.{IsSortedByKey}
use Rattle.std.specs.Option.{option_map_or}
use Rattle.std.specs.Ordering.{nat_cmp, ordering_then}
use Rattle.std.specs.declared.cmp.Ordering.{Ordering}
use Rattle.class_desc.specs.ClassFile.{Key, is_key, field_key, method_key}
use Rattle.class_desc.specs.declared.class.ClassDesc.{ClassDesc}
use Rattle.class_desc.specs.declared.class.FieldDesc.{FieldDesc}
use Rattle.member_index.specs.Places.{places_of}
use Rattle.member_index.specs.declared.key.MemberKey.{MemberKey}
use Rattle.member_index.specs.declared.kind.Kind.{Kind}
use Rattle.member_index.specs.declared.kind.Kind.TheVariants as kind

abbrev pub meant : MemberKey → Key
meant key = (key.name.now, key.descriptor.now)

-- by name, then by descriptor, each byte by byte
abbrev pub key_cmp : Key → Key → Ordering
key_cmp a b = ordering_then (slice_cmp nat_cmp a.0 b.0) (slice_cmp nat_cmp a.1 b.1)

-- the name alone
abbrev pub name_key : FieldDesc → Key
name_key f = (f.name, [])

-- what the members of a class are told by
abbrev pub keys_of : Kind → ClassDesc → List Key
keys_of kind.Fields class = map field_key class.fields
keys_of kind.Names class = map name_key class.fields
keys_of kind.Methods class = map method_key class.methods

abbrev pub key_at : List Key → ℕ → Key
key_at keys place = slice_index_or keys place ([], [])

abbrev pub has_key : List Key → Key → ℕ → Bool
has_key keys key place = is_key (key_at keys place) key

-- the places of all members, sorted, and those of one key in their order
pub record IsOrderOf (keys : List Key) (order : List ℕ) : Type 0 where
  pub sorted : IsSortedByKey (key_at keys) key_cmp order
  pub each : (key : Key) →
      filter (has_key keys key) order ≡ places_of (λ k. is_key k key) keys

-- a list for each class
pub record AreOrdersOf (kind : Kind) (orders : List (List ℕ)) (classes : List ClassDesc) : Type 0
  where
    pub level : length orders ≡ length classes
    pub each : (class : ℕ) (desc : ClassDesc) → slice_get classes class ≡ Some desc →
        IsOrderOf (keys_of kind desc) (slice_index_or orders class [])

-- the places of a key in a class
abbrev pub placed : Kind → List ClassDesc → ℕ → Key → List ℕ
placed kind classes class key =
    option_map_or (λ desc. places_of (λ k. is_key k key) (keys_of kind desc))
    (slice_get classes class) []
