-- How the layout of a part of a description is put together, for a part that a file spells.
use Rattle.std.proofs.Common.{◌≡◌, ℕ, ◌+◌, ◌<◌, ◌≤◌, ◌^◌, arith, List, [], ◌∷◌, ◌++◌, length}
use Rattle.std.proofs.Common.{refl, sym, ap, subst, ◌∙◌, length-append}
use Rattle.std.specs.Prelude.{Option, Some, None}
use Rattle.std.specs.List.{flat_map}
use Rattle.std.specs.Int.{w8, w16, w32, to_be_bytes}
use Rattle.std.proofs.lemmas.List.Sums.{sum_by-cons, sum_by-append}
use Rattle.class_desc.specs.Items.{OrZero, Numbered, FlagsSpell, Both, Tagged, Within, EachSpells}
use Rattle.class_desc.specs.Items.{CountedSpells, ForParametersSpell}
use Rattle.class_desc.specs.Pool.{Entry}
use Rattle.class_desc.specs.Layout.{Need, number_in, Item, Tag, Flags, ParameterCount, Count}
use Rattle.class_desc.specs.Layout.{BodyLength, EntryNumber, item_size, size, or_no_entry}
use Rattle.class_desc.specs.Layout.{counted, for_parameters, told}
use Rattle.class_writer.proofs.Entries.{IsByte, entries_in}
use Rattle.class_writer.proofs.Held.{bytes_over, bytes_append, AreHeld, held_front, held_behind}
use Rattle.class_writer.proofs.Held.{HasFewNumbers, number_in_fits}
use Rattle.lemmas.proofs.Lists.{all_append}
use Rattle.class_writer.proofs.Pooled.{ItemIsMet, AreMet}
use Rattle.class_writer.proofs.Named.{IsNamed}
use Rattle.class_writer.proofs.Sizes.{items_length}

-- how something is spelled, over the entries of a pool
abbrev pub Over : Type 1
Over = List Entry → List ℕ → Type 0

-- The items of something that is spelled in these bytes over the pool of a file: they are no
-- longer than that, they are met in that pool, and they spell the same over a pool of needs.
pub record Laid (read : List Entry) (items : List Item) (bytes : List ℕ) (Spells : Over) : Type 0
  where
    pub sized : size items ≤ length bytes
    pub met : AreMet read items
    pub spelled : (pool : List Need) → HasFewNumbers pool → AreHeld pool items
        → Spells (entries_in pool pool) (bytes_over pool items)

-- ---- one item

pub entry_laid : {A : Type 0} (read : List Entry) (Names : List Entry → ℕ → A → Type 0) (item : A)
    (need : Need) (bytes : List ℕ) → Numbered (Names read) item bytes
    → IsNamed read need (λ entries n. Names entries n item)
    → Laid read (EntryNumber need ∷ []) bytes (λ entries. Numbered (Names entries) item)
entry_laid read Names item need bytes given named = record {
  sized = let two : length bytes ≡ 2 = ap length given.is in omega arith;
  met = (named.met, tt);
  spelled = λ pool few held. record {
    number = number_in pool need;
    fits = number_in_fits pool few need;
    named = named.named pool few held.0;
    is = refl;
  };
}

pub or_zero_laid : (read : List Entry) (Names : List Entry → ℕ → List ℕ → Type 0)
    (need : List ℕ → Need)
    → ((n : ℕ) (text : List ℕ) → Names read n text
    → IsNamed read (need text) (λ entries n. Names entries n text))
    → (text : Option (List ℕ)) (bytes : List ℕ) → Numbered (OrZero (Names read)) text bytes
    → Laid read (or_no_entry (λ text. EntryNumber (need text)) text ∷ []) bytes
    (λ entries. Numbered (OrZero (Names entries)) text)
or_zero_laid read Names need law None bytes given = record {
  sized = let two : length bytes ≡ 2 = ap length given.is in omega arith;
  met = (tt, tt);
  spelled = λ pool few held. record { number = 0; fits = omega arith; named = refl; is = refl };
}
or_zero_laid read Names need law (Some text) bytes given =
    let named = law given.number text given.named in record {
      sized = let two : length bytes ≡ 2 = ap length given.is in omega arith;
      met = (named.met, tt);
      spelled = λ pool few held. record {
        number = number_in pool (need text);
        fits = number_in_fits pool few (need text);
        named = named.named pool few held.0;
        is = refl;
      };
    }

pub flags_laid : (read : List Entry) (flags : ℕ) (bytes : List ℕ) → FlagsSpell flags bytes
    → Laid read (Flags flags ∷ []) bytes (λ entries. FlagsSpell flags)
flags_laid read flags bytes given = record {
  sized = let two : length bytes ≡ 2 = ap length given.1 in omega arith;
  met = (tt, tt);
  spelled = λ pool few held. (given.0, refl);
}

pub nothing_laid : (read : List Entry) (bytes : List ℕ) → bytes ≡ []
    → Laid read [] bytes (λ entries bytes. bytes ≡ [])
nothing_laid read bytes given = record {
  sized = omega arith;
  met = tt;
  spelled = λ pool few held. refl;
}

-- ---- items and items

pub laid_as : {read : List Entry} {items others : List Item} {bytes : List ℕ} {Spells : Over}
    → items ≡ others → Laid read others bytes Spells → Laid read items bytes Spells
laid_as {read} {items} {others} {bytes} {Spells} same laid =
    subst (λ items. Laid read items bytes Spells) (sym same) laid

pub both_laid : {read : List Entry} {fronts rests : List Item} {bytes front rest : List ℕ}
    {First Second : Over} → bytes ≡ front ++ rest → Laid read fronts front First
    → Laid read rests rest Second
    → Laid read (fronts ++ rests) bytes (λ entries. Both (First entries) (Second entries))
both_laid {read} {fronts} {rests} {bytes} {front} {rest} whole one two = record {
  sized =
      let items : size (fronts ++ rests) ≡ size fronts + size rests =
      sum_by-append item_size fronts rests in
      let long : length bytes ≡ length front + length rest =
      ap length whole ∙ length-append front rest in
      let first : size fronts ≤ length front = one.sized in
      let second : size rests ≤ length rest = two.sized in
      omega arith;
  met = all_append (ItemIsMet read) fronts rests one.met two.met;
  spelled = λ pool few held. record {
    front = bytes_over pool fronts;
    rest = bytes_over pool rests;
    whole = bytes_append pool fronts rests;
    first = one.spelled pool few (held_front pool fronts rests held);
    second = two.spelled pool few (held_behind pool fronts rests held);
  };
}

pub item_laid : {read : List Entry} {item : Item} {rests : List Item} {bytes front rest : List ℕ}
    {First Second : Over} → bytes ≡ front ++ rest → Laid read (item ∷ []) front First
    → Laid read rests rest Second
    → Laid read (item ∷ rests) bytes (λ entries. Both (First entries) (Second entries))
item_laid {read} {item} {rests} whole one two =
    both_laid {read = read} {fronts = item ∷ []} {rests = rests} whole one two

pub tagged_laid : {read : List Entry} {items : List Item} {bytes rest : List ℕ} {Rest : Over}
    (tag : ℕ) → IsByte tag → bytes ≡ tag ∷ rest → Laid read items rest Rest
    → Laid read (Tag tag ∷ items) bytes (λ entries. Tagged tag (Rest entries))
tagged_laid {read} {items} {bytes} {rest} tag is_byte whole laid = record {
  sized =
      let all : size (Tag tag ∷ items) ≡ 1 + size items = sum_by-cons item_size (Tag tag) items in
      let long : length bytes ≡ 1 + length rest =
      ap length whole ∙ length-append (tag ∷ []) rest in
      let within : size items ≤ length rest = laid.sized in
      omega arith;
  met = (is_byte, laid.met);
  spelled = λ pool few held. record {
    rest = bytes_over pool items;
    whole = refl;
    spelled = laid.spelled pool few held.1;
  };
}

pub within_laid : {read : List Entry} {items : List Item} {bytes body : List ℕ} {Body : Over}
    → length body < 2 ^ 32 → bytes ≡ to_be_bytes w32 (length body) ++ body
    → Laid read items body Body
    → Laid read (BodyLength (told (size items)) ∷ items) bytes (λ entries. Within (Body entries))
within_laid {read} {items} {bytes} {body} short whole laid =
    let within : size items ≤ length body = laid.sized in
    let same : told (size items) ≡ size items = omega arith in
    record {
      sized =
          let all : size (BodyLength (told (size items)) ∷ items) ≡ 4 + size items =
          sum_by-cons item_size (BodyLength (told (size items))) items in
          let long : length bytes ≡ 4 + length body =
          ap length whole ∙ length-append (to_be_bytes w32 (length body)) body in
          omega arith;
      met = (omega arith, laid.met);
      spelled = λ pool few held.
          let long : length (bytes_over pool items) ≡ size items =
          items_length (number_in pool) items in
          record {
            body = bytes_over pool items;
            fits = omega arith;
            whole = ap (λ n. to_be_bytes w32 n ++ bytes_over pool items) (same ∙ sym long);
            spelled = laid.spelled pool few held.1;
          };
    }

-- ---- lists

module _ {A : Type 0} (read : List Entry) (Spells : List Entry → A → List ℕ → Type 0)
    (items : A → List Item)
    (law : (x : A) (bytes : List ℕ) → Spells read x bytes
    → Laid read (items x) bytes (λ entries. Spells entries x)) where
  pub each_laid : (xs : List A) (bytes : List ℕ) → EachSpells (Spells read) xs bytes
      → Laid read (flat_map items xs) bytes (λ entries. EachSpells (Spells entries) xs)
  each_laid [] bytes given = record {
    sized = omega arith;
    met = tt;
    spelled = λ pool few held. refl;
  }
  each_laid (x ∷ xs) bytes given =
      let pair : Laid read (items x ++ flat_map items xs) bytes
      (λ entries. Both (Spells entries x) (EachSpells (Spells entries) xs)) =
      both_laid given.2 (law x given.0 given.3) (each_laid xs given.1 given.4) in
      record {
        sized = pair.sized;
        met = pair.met;
        spelled = λ pool few held.
            let s = pair.spelled pool few held in
            (s.front, s.rest, s.whole, s.first, s.second);
      }

  pub counted_laid : (xs : List A) (bytes : List ℕ) → CountedSpells (Spells read) xs bytes
      → Laid read (counted items xs) bytes (λ entries. CountedSpells (Spells entries) xs)
  counted_laid xs bytes given =
      let each = each_laid xs given.rest given.each in record {
        sized =
            let all : size (counted items xs) ≡ 2 + size (flat_map items xs) =
            sum_by-cons item_size (Count (length xs)) (flat_map items xs) in
            let long : length bytes ≡ 2 + length given.rest =
            ap length given.whole ∙ length-append (to_be_bytes w16 (length xs)) given.rest in
            let within : size (flat_map items xs) ≤ length given.rest = each.sized in
            omega arith;
        met = (given.count, each.met);
        spelled = λ pool few held. record {
          rest = bytes_over pool (flat_map items xs);
          count = given.count;
          whole = refl;
          each = each.spelled pool few held.1;
        };
      }

  pub for_parameters_laid : (xs : List A) (bytes : List ℕ)
      → ForParametersSpell (Spells read) xs bytes
      → Laid read (for_parameters items xs) bytes
      (λ entries. ForParametersSpell (Spells entries) xs)
  for_parameters_laid xs bytes given =
      let each = each_laid xs given.rest given.each in record {
        sized =
            let all : size (for_parameters items xs) ≡ 1 + size (flat_map items xs) =
            sum_by-cons item_size (ParameterCount (length xs)) (flat_map items xs) in
            let long : length bytes ≡ 1 + length given.rest =
            ap length given.whole ∙ length-append (to_be_bytes w8 (length xs)) given.rest in
            let within : size (flat_map items xs) ≤ length given.rest = each.sized in
            omega arith;
        met = (given.count, each.met);
        spelled = λ pool few held. record {
          rest = bytes_over pool (flat_map items xs);
          count = given.count;
          whole = refl;
          each = each.spelled pool few held.1;
        };
      }
