-- What the pool of a file names, and what it is for an item to be met in it.
use Rattle.std.proofs.Common.{◌≡◌, ℕ, zero, suc, ◌+◌, ◌<◌, ◌≤◌, ◌^◌, arith, List, [], ◌∷◌}
use Rattle.std.proofs.Common.{length, sym, subst, length-append}
use Rattle.std.specs.Prelude.{slice_get, Option, Some}
use Rattle.std.specs.List.{flat_map, AllByRecursion}
use Rattle.std.proofs.lemmas.List.Sums.{sum_by-append}
use Rattle.class_desc.specs.declared.constant_kind.NumberKind.{NumberKind}
use Rattle.class_desc.specs.declared.constant_kind.NumberKind.TheVariants as kind
use Rattle.class_desc.specs.Constants.{number_entry}
use Rattle.class_desc.specs.Pool.{Entry, Utf8, Integer, Float, Long, Double, ClassRef, StringRef}
use Rattle.class_desc.specs.Pool.{Other, entry_bytes, EntryFits, slots_of, numbered, entry_of}
use Rattle.class_desc.specs.Pool.{NamesText}
use Rattle.class_desc.specs.Layout.{Need, TextNeed, ClassNeed, StringNeed, NumberNeed}
use Rattle.class_desc.specs.Layout.{with_its_text, width, numbers_needed, Item, Tag, Flags}
use Rattle.class_desc.specs.Layout.{ParameterCount, Count, BodyLength, EntryNumber, NoEntry}
use Rattle.class_desc.proofs.Numbering.{entry_placed}
use Rattle.lemmas.proofs.Lists.{all_front, all_behind}
use Rattle.class_writer.proofs.Entries.{IsByte, NeedFits}
use Rattle.class_writer.proofs.Needed.{IsIn, in_head, in_left, in_right}

-- ---- what a pool names

named_class : Option Entry → List Need
named_class (Some (Utf8 text)) = ClassNeed text ∷ []
named_class _ = []

named_string : Option Entry → List Need
named_string (Some (Utf8 text)) = StringNeed text ∷ []
named_string _ = []

-- what an entry names, over the pool that it is in
named_by : List Entry → Entry → List Need
named_by pool (Utf8 text) = TextNeed text ∷ []
named_by pool (Integer bits) = NumberNeed kind.Integer bits ∷ []
named_by pool (Float bits) = NumberNeed kind.Float bits ∷ []
named_by pool (Long bits) = NumberNeed kind.Long bits ∷ []
named_by pool (Double bits) = NumberNeed kind.Double bits ∷ []
named_by pool (ClassRef n) = named_class (entry_of pool n)
named_by pool (StringRef n) = named_string (entry_of pool n)
named_by pool (Other tag bytes) = []

pub named_in : List Entry → List Need
named_in pool = flat_map (named_by pool) pool

-- ---- how many numbers that takes

class_narrow : (entry : Option Entry) → numbers_needed (named_class entry) ≤ 1
unfolding named_class
class_narrow (Some (Utf8 text)) = omega arith
class_narrow _ = omega arith

string_narrow : (entry : Option Entry) → numbers_needed (named_string entry) ≤ 1
unfolding named_string
string_narrow (Some (Utf8 text)) = omega arith
string_narrow _ = omega arith

-- no more than the entry
within_entry : (pool : List Entry) (entry : Entry)
    → numbers_needed (named_by pool entry) ≤ length (slots_of entry)
unfolding named_by
within_entry pool (Utf8 text) = omega arith
within_entry pool (Integer bits) = omega arith
within_entry pool (Float bits) = omega arith
within_entry pool (Long bits) = omega arith
within_entry pool (Double bits) = omega arith
within_entry pool (ClassRef n) = class_narrow (entry_of pool n)
within_entry pool (StringRef n) = string_narrow (entry_of pool n)
within_entry pool (Other tag bytes) = omega arith

within_entries : (pool entries : List Entry)
    → numbers_needed (flat_map (named_by pool) entries) ≤ length (numbered entries)
within_entries pool [] = omega arith
within_entries pool (entry ∷ entries) =
    let one : numbers_needed (named_by pool entry) ≤ length (slots_of entry) =
    within_entry pool entry in
    let rest : numbers_needed (flat_map (named_by pool) entries) ≤ length (numbered entries) =
    within_entries pool entries in
    let needed : numbers_needed (flat_map (named_by pool) (entry ∷ entries))
    ≡ numbers_needed (named_by pool entry) + numbers_needed (flat_map (named_by pool) entries) =
    sum_by-append width (named_by pool entry) (flat_map (named_by pool) entries) in
    let had : length (numbered (entry ∷ entries)) ≡ length (slots_of entry)
    + length (numbered entries) = length-append (slots_of entry) (numbered entries) in
    omega arith

pub names_few : (pool : List Entry) → numbers_needed (named_in pool) ≤ length (numbered pool)
unfolding named_in
names_few pool = within_entries pool pool

-- ---- the entry at a place

in_flat : (named : Entry → List Need) (entries : List Entry) (k : ℕ) (entry : Entry) (need : Need)
    → slice_get entries k ≡ Some entry → IsIn need (named entry)
    → IsIn need (flat_map named entries)
in_flat named [] k entry need is h = absurd (cc)
in_flat named (e ∷ entries) zero entry need is h =
    let same : entry ≡ e = cc in
    in_left need (named e) (flat_map named entries) (subst (λ e. IsIn need (named e)) same h)
in_flat named (e ∷ entries) (suc k) entry need is h = in_right need (named e)
    (flat_map named entries) (in_flat named entries k entry need is h)

fits_at : (entries : List Entry) (k : ℕ) (entry : Entry) → AllByRecursion EntryFits entries
    → slice_get entries k ≡ Some entry → EntryFits entry
fits_at [] k entry all is = absurd (cc)
fits_at (e ∷ entries) zero entry all is =
    let same : e ≡ entry = cc in
    subst EntryFits same all.0
fits_at (e ∷ entries) (suc k) entry all is = fits_at entries k entry all.1 is

-- the bytes of the entry at a place
bytes_at : (entries : List Entry) (k : ℕ) (entry : Entry)
    → AllByRecursion IsByte (flat_map entry_bytes entries) → slice_get entries k ≡ Some entry
    → AllByRecursion IsByte (entry_bytes entry)
bytes_at [] k entry all is = absurd (cc)
bytes_at (e ∷ entries) zero entry all is =
    let same : e ≡ entry = cc in
    subst (λ e. AllByRecursion IsByte (entry_bytes e)) same
    (all_front IsByte (entry_bytes e) (flat_map entry_bytes entries) all)
bytes_at (e ∷ entries) (suc k) entry all is = bytes_at entries k entry
    (all_behind IsByte (entry_bytes e) (flat_map entry_bytes entries) all) is

-- ---- over the pool of a file

-- the pool names the need, which can be written down
pub record IsMet (pool : List Entry) (need : Need) : Type 0 where
  pub named : IsIn need (named_in pool)
  pub fits : NeedFits need

-- what the item needs is met, and its field holds it
abbrev pub ItemIsMet : List Entry → Item → Type 0
ItemIsMet pool (Tag tag) = IsByte tag
ItemIsMet pool (Flags flags) = Unit {0}
ItemIsMet pool (ParameterCount count) = count < 2 ^ 8
ItemIsMet pool (Count count) = count < 2 ^ 16
ItemIsMet pool (BodyLength bytes) = bytes < 2 ^ 32
ItemIsMet pool (EntryNumber need) = AllByRecursion (IsMet pool) (with_its_text need)
ItemIsMet pool NoEntry = Unit {0}

abbrev pub AreMet : List Entry → List Item → Type 0
AreMet pool items = AllByRecursion (ItemIsMet pool) items

pub number_fits : (pool : List Entry) → AllByRecursion EntryFits pool → (n : ℕ) (entry : Entry)
    → entry_of pool n ≡ Some entry → EntryFits entry
number_fits pool fit n entry is =
    let at = entry_placed pool n entry is in fits_at pool at.0 entry fit at.1

module _ (pool : List Entry) (fit : AllByRecursion EntryFits pool)
    (octets : AllByRecursion IsByte (flat_map entry_bytes pool)) where
  named_at : (n : ℕ) (entry : Entry) (need : Need) → entry_of pool n ≡ Some entry
      → IsIn need (named_by pool entry) → IsIn need (named_in pool)
  unfolding named_in
  named_at n entry need is named =
      let at = entry_placed pool n entry is in
      in_flat (named_by pool) pool at.0 entry need at.1 named

  pub text_met : (n : ℕ) (text : List ℕ) → NamesText pool n text → IsMet pool (TextNeed text)
  unfolding named_by
  text_met n text is =
      let at = entry_placed pool n (Utf8 text) is in record {
        named = named_at n (Utf8 text) (TextNeed text) is (in_head (TextNeed text) []);
        fits = (
          fits_at pool at.0 (Utf8 text) fit at.1,
          (bytes_at pool at.0 (Utf8 text) octets at.1).1.1.1,
        );
      }

  pub class_met : (n i : ℕ) (name : List ℕ) → entry_of pool n ≡ Some (ClassRef i)
      → NamesText pool i name → IsMet pool (ClassNeed name)
  unfolding named_by named_class
  class_met n i name is text = record {
    named = named_at n (ClassRef i) (ClassNeed name) is (subst
        (λ entry. IsIn (ClassNeed name) (named_class entry)) (sym text)
        (in_head (ClassNeed name) []));
    fits = tt;
  }

  pub string_met : (n i : ℕ) (text : List ℕ) → entry_of pool n ≡ Some (StringRef i)
      → NamesText pool i text → IsMet pool (StringNeed text)
  unfolding named_by named_string
  string_met n i text is named = record {
    named = named_at n (StringRef i) (StringNeed text) is (subst
        (λ entry. IsIn (StringNeed text) (named_string entry)) (sym named)
        (in_head (StringNeed text) []));
    fits = tt;
  }

  number_named : (number : NumberKind) (bits : ℕ)
      → IsIn (NumberNeed number bits) (named_by pool (number_entry number bits))
  unfolding named_by
  number_named kind.Integer bits = in_head (NumberNeed kind.Integer bits) []
  number_named kind.Float bits = in_head (NumberNeed kind.Float bits) []
  number_named kind.Long bits = in_head (NumberNeed kind.Long bits) []
  number_named kind.Double bits = in_head (NumberNeed kind.Double bits) []

  pub number_met : (number : NumberKind) (n bits : ℕ)
      → entry_of pool n ≡ Some (number_entry number bits) → IsMet pool (NumberNeed number bits)
  number_met number n bits is = record {
    named = named_at n (number_entry number bits) (NumberNeed number bits) is
        (number_named number bits);
    fits = number_fits pool fit n (number_entry number bits) is;
  }
