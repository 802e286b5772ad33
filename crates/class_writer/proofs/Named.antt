-- What a number of a file names, a number over the pool of needs names too.
use Rattle.std.proofs.Common.{◌≡◌, ℕ, ◌==◌, arith, Bool, true, false, cond, List, []}
use Rattle.std.proofs.Common.{◌∷◌, refl, sym, ap, subst}
use Rattle.std.specs.Prelude.{Option, Some, None, option_map, find}
use Rattle.std.specs.List.{flat_map, AllByRecursion}
use Rattle.std.specs.Int.{w32, w64}
use Rattle.std.proofs.lemmas.Bool.{eqb-true}
use Rattle.std.proofs.lemmas.Int.{of_z-to_z}
use Rattle.class_desc.specs.declared.constant_kind.ConstantKind.{ConstantKind}
use Rattle.class_desc.specs.declared.constant_kind.ConstantKind.TheVariants as constant
use Rattle.class_desc.specs.declared.constant_kind.NumberKind.{NumberKind}
use Rattle.class_desc.specs.declared.constant_kind.NumberKind.TheVariants as kind
use Rattle.class_desc.specs.declared.constant_kind.TheConstants.{NUMBER_LETTERS}
use Rattle.class_desc.specs.declared.element_tag.TheConstants.{TEXT}
use Rattle.class_desc.specs.declared.value.Value.{Value}
use Rattle.class_desc.specs.declared.value.Value.TheVariants as value
use Rattle.class_desc.specs.Constants.{number_entry, number_value, number_of_letter}
use Rattle.class_desc.specs.Constants.{element_constant}
use Rattle.class_desc.specs.Forms.{IsAnyText}
use Rattle.class_desc.specs.Items.{NamesForm, NamesTextOf, NamesClassOf, NamesString, NamesNumber}
use Rattle.class_desc.specs.Items.{NamesConstant}
use Rattle.class_desc.specs.Pool.{Entry, entry_bytes, EntryFits, entry_of}
use Rattle.class_desc.specs.Layout.{Need, TextNeed, ClassNeed, StringNeed, NumberNeed, number_in}
use Rattle.class_desc.specs.Layout.{EntryNumber, constant_need}
use Rattle.class_writer.proofs.Entries.{IsByte, entries_in, number_names}
use Rattle.class_writer.proofs.Held.{IsHeld, HasFewNumbers, number_in_fits}
use Rattle.class_writer.proofs.Pooled.{ItemIsMet, number_fits, text_met, class_met, string_met}
use Rattle.class_writer.proofs.Pooled.{number_met}

-- the need is met in the file's pool, and its number over a pool of needs names this
pub record IsNamed (read : List Entry) (need : Need) (Names : List Entry → ℕ → Type 0) : Type 0
  where
    pub met : ItemIsMet read (EntryNumber need)
    pub named : (pool : List Need) → HasFewNumbers pool → IsHeld pool (EntryNumber need)
        → Names (entries_in pool pool) (number_in pool need)

-- ---- texts, classes and strings

module _ (read : List Entry) (fit : AllByRecursion EntryFits read)
    (octets : AllByRecursion IsByte (flat_map entry_bytes read)) where
  pub text_named : (IsForm : List ℕ → Type 0) (n : ℕ) (text : List ℕ)
      → NamesTextOf read IsForm n text
      → IsNamed read (TextNeed text) (λ entries m. NamesTextOf entries IsForm m text)
  text_named IsForm n text given = record {
    met = (text_met read fit octets n text given.named, tt);
    named = λ pool few held. record {
      fits = number_in_fits pool few (TextNeed text);
      named = number_names pool (TextNeed text) held.0;
      modified = given.modified;
      form = given.form;
    };
  }

  pub class_named : (n : ℕ) (name : List ℕ) → NamesClassOf read n name
      → IsNamed read (ClassNeed name) (λ entries m. NamesClassOf entries m name)
  class_named n name given =
      let is = given.named in record {
        met = (
          text_met read fit octets is.0 name is.2,
          (class_met read fit octets n is.0 name is.1 is.2, tt),
        );
        named = λ pool few held. record {
          fits = number_in_fits pool few (ClassNeed name);
          named = (
            number_in pool (TextNeed name),
            number_names pool (ClassNeed name) held.1.0,
            number_names pool (TextNeed name) held.0,
          );
          modified = given.modified;
          form = given.form;
        };
      }

  pub string_named : (n : ℕ) (text : List ℕ) → NamesForm (NamesString read) IsAnyText n text
      → IsNamed read (StringNeed text)
      (λ entries m. NamesForm (NamesString entries) IsAnyText m text)
  string_named n text given =
      let is = given.named in record {
        met = (
          text_met read fit octets is.0 text is.2,
          (string_met read fit octets n is.0 text is.1 is.2, tt),
        );
        named = λ pool few held. record {
          fits = number_in_fits pool few (StringNeed text);
          named = (
            number_in pool (TextNeed text),
            number_names pool (StringNeed text) held.1.0,
            number_names pool (TextNeed text) held.0,
          );
          modified = given.modified;
          form = given.form;
        };
      }

-- ---- constants

-- the constant is named at its need
abbrev pub IsConstant : List Entry → (List Entry → ℕ → List ℕ → Type 0) → (List ℕ → Need)
    → Option ConstantKind → Value → Type 0
IsConstant read Names of_text kind own =
    IsNamed read (constant_need of_text own)
    (λ entries m. NamesConstant (Names entries) entries kind m own)

-- the layout takes the entry of a number's own kind and bits
own_need : (of_text : List ℕ → Need) (number : NumberKind) (bits : ℕ)
    → EntryFits (number_entry number bits)
    → constant_need of_text (number_value number bits) ≡ NumberNeed number bits
own_need of_text kind.Integer bits fits = ap (NumberNeed kind.Integer) (of_z-to_z w32 bits fits)
own_need of_text kind.Float bits fits = refl
own_need of_text kind.Long bits fits = ap (NumberNeed kind.Long) (of_z-to_z w64 bits fits)
own_need of_text kind.Double bits fits = refl

module _ (read : List Entry) (fit : AllByRecursion EntryFits read)
    (octets : AllByRecursion IsByte (flat_map entry_bytes read)) where
  number_named : (Names : List Entry → ℕ → List ℕ → Type 0) (of_text : List ℕ → Need)
      (number : NumberKind) (n bits : ℕ) → entry_of read n ≡ Some (number_entry number bits)
      → IsConstant read Names of_text (Some (constant.Number number)) (number_value number bits)
  number_named Names of_text number n bits is =
      let own = own_need of_text number bits
      (number_fits read fit n (number_entry number bits) is) in
      subst (λ need. IsNamed read need
      (λ entries m. NamesNumber entries number m (number_value number bits))) (sym own) (record {
        met = (number_met read fit octets number n bits is, tt);
        named = λ pool few held. record {
          bits = bits;
          named = number_names pool (NumberNeed number bits) held.0;
          is = refl;
        };
      })

  text_constant_named : (Names : List Entry → ℕ → List ℕ → Type 0) (of_text : List ℕ → Need)
      (text : List ℕ)
      → IsNamed read (of_text text) (λ entries m. NamesForm (Names entries) IsAnyText m text)
      → IsConstant read Names of_text (Some constant.Text) (value.Str text)
  text_constant_named Names of_text text named = record {
    met = named.met;
    named = λ pool few held. record {
      text = text;
      named = named.named pool few held;
      is = refl;
    };
  }

  -- whatever a text gives
  pub constant_named : (Names : List Entry → ℕ → List ℕ → Type 0) (of_text : List ℕ → Need)
      → ((n : ℕ) (text : List ℕ) → NamesForm (Names read) IsAnyText n text
      → IsNamed read (of_text text) (λ entries m. NamesForm (Names entries) IsAnyText m text))
      → (kind : Option ConstantKind) (n : ℕ) (own : Value)
      → NamesConstant (Names read) read kind n own → IsConstant read Names of_text kind own
  constant_named Names of_text law None n own given = absurd given
  constant_named Names of_text law (Some (constant.Number number)) n own given =
      subst (IsConstant read Names of_text (Some (constant.Number number))) (sym given.is)
      (number_named Names of_text number n given.bits given.named)
  constant_named Names of_text law (Some constant.Text) n own given =
      subst (IsConstant read Names of_text (Some constant.Text)) (sym given.is)
      (text_constant_named Names of_text given.text (law n given.text given.named))

-- ---- the tag of a constant is a byte

-- the kind of the constants under a letter, by these rows
abbrev kind_among : ℕ → List (ℕ × NumberKind) → Option ConstantKind
kind_among letter rows =
    option_map (λ row. constant.Number row.1) (find (λ row. row.0 == letter) rows)

letter_is_byte : (Names : ℕ → List ℕ → Type 0) (read : List Entry) (n : ℕ) (own : Value)
    (letter : ℕ) (rows : List (ℕ × NumberKind)) → AllByRecursion (λ row. IsByte row.0) rows
    → NamesConstant Names read (kind_among letter rows) n own → IsByte letter
letter_is_byte Names read n own letter [] all given = absurd given
letter_is_byte Names read n own letter (row ∷ rows) all given =
    by (row.0 == letter) refl given (letter_is_byte Names read n own letter rows all.1)
  where
    by : (b : Bool) → (row.0 == letter) ≡ b
        → NamesConstant Names read
        (option_map (λ row. constant.Number row.1)
        (cond b (Some row) (find (λ row. row.0 == letter) rows))) n own
        → (NamesConstant Names read (kind_among letter rows) n own → IsByte letter)
        → IsByte letter
    by true same given later = subst IsByte (eqb-true row.0 letter same) all.0
    by false differs given later = later given

pub tag_is_byte : (Names : ℕ → List ℕ → Type 0) (read : List Entry) (tag n : ℕ) (own : Value)
    → NamesConstant Names read (element_constant tag) n own → IsByte tag
tag_is_byte Names read tag n own given = by (tag == TEXT) refl given
  where
    by : (b : Bool) → (tag == TEXT) ≡ b
        → NamesConstant Names read (cond b (Some constant.Text) (number_of_letter tag)) n own
        → IsByte tag
    by true same given = let is : tag ≡ TEXT = eqb-true tag TEXT same in omega arith
    by false differs given =
        letter_is_byte Names read n own tag NUMBER_LETTERS (
          omega arith,
          (
            omega arith,
            (
              omega arith,
              (
                omega arith,
                (
                  omega arith,
                  (
                    omega arith,
                    (omega arith, (omega arith, tt)),
                  ),
                ),
              ),
            ),
          ),
        ) given
