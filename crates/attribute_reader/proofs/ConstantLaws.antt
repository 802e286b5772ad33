-- Items that are numbers of constants.
use Rattle.std.proofs.Common.{◌≡◌, ℕ, ◌<◌, ◌^◌, Bool, true, false, cond, List, Option, Some, None}
use Rattle.std.proofs.Common.{Result, Ok, Err, refl, sym, ap, ◌∙◌}
use Rattle.std.specs.Prelude.{option_map}
use Rattle.java_names.specs.Units.{is_modified_utf8}
use Rattle.class_desc.specs.declared.constant_kind.ConstantKind.{ConstantKind}
use Rattle.class_desc.specs.declared.constant_kind.ConstantKind.TheVariants as kind
use Rattle.class_desc.specs.declared.constant_kind.NumberKind.{NumberKind}
use Rattle.class_desc.specs.declared.constant_kind.NumberKind.TheVariants as number
use Rattle.class_desc.specs.declared.value.Value.{Value}
use Rattle.class_desc.specs.declared.value.Value.TheVariants as value
use Rattle.class_desc.specs.Constants.{number_entry, number_value}
use Rattle.class_desc.specs.Items.{NamesForm, NamesString, NamesTextConstant}
use Rattle.class_desc.specs.Items.{NamesConstant, Numbered}
use Rattle.class_desc.specs.Pool.{Entry, Utf8, Integer, Float, Long, Double, ClassRef, StringRef}
use Rattle.class_desc.specs.Pool.{Other, Slot, Held, Second, held_in, NamesText}
use Rattle.class_desc.specs.Texts.{constant_texts}
use Rattle.pool_reader.specs.declared.fault.ClassKind.{ClassKind}
use Rattle.pool_reader.specs.declared.fault.ClassKind.TheVariants.{F5}
use Rattle.pool_reader.specs.Pooled.{Row, TextRow, MalformedRow, row_of, slot_row, rows_of}
use Rattle.pool_reader.specs.Pooled.{text_named}
use Rattle.pool_reader.proofs.Laws.{Weighs, ok_is}
use Rattle.pool_reader.proofs.Named.{slot_in, row_is, entry_is, is_text_named, text_named_is}
use Rattle.attribute_reader.specs.declared.constants.ConstantPlace.{ConstantPlace}
use Rattle.attribute_reader.specs.declared.constants.ConstantPlace.TheVariants as place
use Rattle.attribute_reader.specs.Items.{number_of_row, string_of_row}
use Rattle.attribute_reader.specs.Items.{constant_text, text_value, constant_named, told_at}
use Rattle.attribute_reader.specs.Items.{constant_checked, constant_at}
use Rattle.attribute_reader.proofs.ItemLaws.{Finds, weighs_numbered}

-- ---- numbers

abbrev Number : Type 0
Number = Result Value ClassKind

-- a slot that holds a number of this kind
record HoldsNumber (kind : NumberKind) (slot : Option Slot) (constant : Value) : Type 0 where
  bits : ℕ
  held : held_in slot ≡ Some (number_entry kind bits)
  is : constant ≡ number_value kind bits

text_is_none : (kind : NumberKind) (text : List ℕ)
    → number_of_row kind (Some (row_of (Utf8 text))) ≡ Err F5
text_is_none kind text = by kind (is_modified_utf8 text)
  where
    by : (kind : NumberKind) (b : Bool)
        → number_of_row kind (Some (cond b (TextRow text) MalformedRow)) ≡ Err F5
    by number.Integer true = refl
    by number.Integer false = refl
    by number.Float true = refl
    by number.Float false = refl
    by number.Long true = refl
    by number.Long false = refl
    by number.Double true = refl
    by number.Double false = refl

holds : (kind : NumberKind) (entry : Entry) (constant : Value)
    → number_of_row kind (Some (row_of entry)) ≡ Ok constant
    → HoldsNumber kind (Some (Held entry)) constant
holds kind (Utf8 text) constant e =
    absurd (let none : number_of_row kind (Some (row_of (Utf8 text))) ≡ Err F5 =
    text_is_none kind text in cc)
holds number.Integer (Integer bits) constant e = record { bits = bits; held = refl; is = cc }
holds number.Float (Float bits) constant e = record { bits = bits; held = refl; is = cc }
holds number.Long (Long bits) constant e = record { bits = bits; held = refl; is = cc }
holds number.Double (Double bits) constant e = record { bits = bits; held = refl; is = cc }
holds number.Integer (Float bits) constant e = absurd cc
holds number.Integer (Long bits) constant e = absurd cc
holds number.Integer (Double bits) constant e = absurd cc
holds number.Float (Integer bits) constant e = absurd cc
holds number.Float (Long bits) constant e = absurd cc
holds number.Float (Double bits) constant e = absurd cc
holds number.Long (Integer bits) constant e = absurd cc
holds number.Long (Float bits) constant e = absurd cc
holds number.Long (Double bits) constant e = absurd cc
holds number.Double (Integer bits) constant e = absurd cc
holds number.Double (Float bits) constant e = absurd cc
holds number.Double (Long bits) constant e = absurd cc
holds number.Integer (ClassRef n) constant e = absurd cc
holds number.Integer (StringRef n) constant e = absurd cc
holds number.Integer (Other tag bytes) constant e = absurd cc
holds number.Float (ClassRef n) constant e = absurd cc
holds number.Float (StringRef n) constant e = absurd cc
holds number.Float (Other tag bytes) constant e = absurd cc
holds number.Long (ClassRef n) constant e = absurd cc
holds number.Long (StringRef n) constant e = absurd cc
holds number.Long (Other tag bytes) constant e = absurd cc
holds number.Double (ClassRef n) constant e = absurd cc
holds number.Double (StringRef n) constant e = absurd cc
holds number.Double (Other tag bytes) constant e = absurd cc

holds_number : (kind : NumberKind) (slot : Option Slot) (constant : Value)
    → number_of_row kind (option_map slot_row slot) ≡ Ok constant
    → HoldsNumber kind slot constant
holds_number number.Integer None constant e = absurd cc
holds_number number.Float None constant e = absurd cc
holds_number number.Long None constant e = absurd cc
holds_number number.Double None constant e = absurd cc
holds_number number.Integer (Some Second) constant e = absurd cc
holds_number number.Float (Some Second) constant e = absurd cc
holds_number number.Long (Some Second) constant e = absurd cc
holds_number number.Double (Some Second) constant e = absurd cc
holds_number kind (Some (Held entry)) constant e = holds kind entry constant e

own_value : (kind : NumberKind) (bits : ℕ)
    → number_of_row kind (Some (row_of (number_entry kind bits))) ≡ Ok (number_value kind bits)
own_value number.Integer bits = refl
own_value number.Float bits = refl
own_value number.Long bits = refl
own_value number.Double bits = refl

tells_number : (kind : NumberKind) (slot : Option Slot) (bits : ℕ)
    → held_in slot ≡ Some (number_entry kind bits)
    → number_of_row kind (option_map slot_row slot) ≡ Ok (number_value kind bits)
tells_number kind None bits e = absurd cc
tells_number kind (Some Second) bits e = absurd cc
tells_number kind (Some (Held entry)) bits e =
    ap (λ entry. number_of_row kind (Some (row_of entry))) (some_is entry _ e)
    ∙ own_value kind bits
  where
    some_is : (a b : Entry) → Some a ≡ Some b → a ≡ b
    some_is a b e = cc

-- ---- strings

record HoldsString (rows : List Row) (slot : Option Slot) (text : List ℕ) : Type 0 where
  number : ℕ
  held : held_in slot ≡ Some (StringRef number)
  named : text_named rows number ≡ Ok text

holds_string : (rows : List Row) (slot : Option Slot) (text : List ℕ)
    → string_of_row rows (option_map slot_row slot) ≡ Ok text
    → HoldsString rows slot text
holds_string rows None text e = absurd cc
holds_string rows (Some Second) text e = absurd cc
holds_string rows (Some (Held (Utf8 t))) text e = absurd (by (is_modified_utf8 t) e)
  where
    by : (b : Bool) → string_of_row rows (Some (cond b (TextRow t) MalformedRow)) ≡ Ok text → ⊥
    by true e = cc
    by false e = cc
holds_string rows (Some (Held (Integer bits))) text e = absurd cc
holds_string rows (Some (Held (Float bits))) text e = absurd cc
holds_string rows (Some (Held (Long bits))) text e = absurd cc
holds_string rows (Some (Held (Double bits))) text e = absurd cc
holds_string rows (Some (Held (ClassRef n))) text e = absurd cc
holds_string rows (Some (Held (StringRef n))) text e =
    record { number = n; held = refl; named = e }
holds_string rows (Some (Held (Other tag bytes))) text e = absurd cc

tells_string : (rows : List Row) (slot : Option Slot) (text : List ℕ)
    → HoldsString rows slot text
    → string_of_row rows (option_map slot_row slot) ≡ Ok text
tells_string rows None text h = absurd (let e = h.held in cc)
tells_string rows (Some Second) text h = absurd (let e = h.held in cc)
tells_string rows (Some (Held entry)) text h =
    ap (λ entry. string_of_row rows (Some (row_of entry))) (some_is entry _ h.held) ∙ h.named
  where
    some_is : (a b : Entry) → Some a ≡ Some b → a ≡ b
    some_is a b e = cc

-- ---- texts of constants, by where they stand

-- what the number of a constant's text names
abbrev pub NamesTextAt : List Entry → ConstantPlace → ℕ → List ℕ → Type 0
NamesTextAt pool place.Field = NamesString pool
NamesTextAt pool place.Element = NamesText pool

to_constant_text : (pool : List Entry) (where_ : ConstantPlace) (n : ℕ) (text : List ℕ)
    → n < 2 ^ 16
    → constant_text where_ (rows_of pool) n ≡ Ok text
    → NamesForm (NamesTextAt pool where_) (λ text. Unit {0}) n text
to_constant_text pool place.Field n text fits e =
    let told : string_of_row (rows_of pool) (option_map slot_row (slot_in pool n)) ≡ Ok text =
    ap (string_of_row (rows_of pool)) (sym (row_is pool n)) ∙ e in
    let h = holds_string (rows_of pool) (slot_in pool n) text told in
    let t = is_text_named pool h.number text h.named in
    record {
      fits = fits;
      named = (h.number, entry_is pool n ∙ h.held, t.named);
      modified = t.modified;
      form = tt;
    }
to_constant_text pool place.Element n text fits e =
    let t = is_text_named pool n text e in
    record { fits = fits; named = t.named; modified = t.modified; form = tt }

from_constant_text : (pool : List Entry) (where_ : ConstantPlace) (n : ℕ) (text : List ℕ)
    → NamesForm (NamesTextAt pool where_) (λ text. Unit {0}) n text
    → constant_text where_ (rows_of pool) n ≡ Ok text
from_constant_text pool place.Field n text s =
    ap (string_of_row (rows_of pool)) (row_is pool n)
    ∙ tells_string (rows_of pool) (slot_in pool n) text (record {
      number = s.named.0;
      held = sym (entry_is pool n) ∙ s.named.1;
      named = text_named_is pool s.named.0 text
          (record { named = s.named.2; modified = s.modified });
    })
from_constant_text pool place.Element n text s =
    text_named_is pool n text (record { named = s.named; modified = s.modified })

-- ---- constants

abbrev right : {A : Type 0} → A → Result A ClassKind
right item = Ok item

right_is : {A : Type 0} (a b : A) → right a ≡ right b → a ≡ b
right_is a b e = cc

abbrev pub NamesConstantAt : List Entry → ConstantPlace → Option ConstantKind → ℕ → Value → Type 0
NamesConstantAt pool where_ kind = NamesConstant (NamesTextAt pool where_) pool kind

to_constant : (pool : List Entry) (where_ : ConstantPlace) (of : Option ConstantKind) (n : ℕ)
    (constant : Value)
    → n < 2 ^ 16
    → constant_named where_ (rows_of pool) of n ≡ Ok constant
    → NamesConstantAt pool where_ of n constant
to_constant pool where_ None n constant fits e = absurd cc
to_constant pool where_ (Some (kind.Number k)) n constant fits e =
    let told : number_of_row k (option_map slot_row (slot_in pool n)) ≡ Ok constant =
    ap (number_of_row k) (sym (row_is pool n)) ∙ e in
    let h = holds_number k (slot_in pool n) constant told in
    record { bits = h.bits; named = entry_is pool n ∙ h.held; is = h.is }
to_constant pool where_ (Some kind.Text) n constant fits e =
    by (constant_text where_ (rows_of pool) n) refl e
  where
    by : (r : Result (List ℕ) ClassKind)
        → constant_text where_ (rows_of pool) n ≡ r
        → text_value r ≡ Ok constant
        → NamesTextConstant (NamesTextAt pool where_) n constant
    by (Ok text) is e = record {
      text = text;
      named = to_constant_text pool where_ n text fits is;
      is = sym (right_is (value.Str text) constant e);
    }
    by (Err kind) is e = absurd cc

from_constant : (pool : List Entry) (where_ : ConstantPlace) (of : Option ConstantKind) (n : ℕ)
    (constant : Value)
    → NamesConstantAt pool where_ of n constant
    → constant_named where_ (rows_of pool) of n ≡ Ok constant
from_constant pool where_ None n constant s = absurd s
from_constant pool where_ (Some (kind.Number k)) n constant s =
    ap (number_of_row k) (row_is pool n)
    ∙ tells_number k (slot_in pool n) s.bits (sym (entry_is pool n) ∙ s.named)
    ∙ ap right (sym s.is)
from_constant pool where_ (Some kind.Text) n constant s =
    ap text_value (from_constant_text pool where_ n s.text s.named) ∙ ap right (sym s.is)

told_ok : {A : Type 0} (at : ℕ) (r : Result A ClassKind) (item : A)
    → told_at at r ≡ Ok item
    → r ≡ Ok item
told_ok at (Ok x) item e = ap right (ok_is x item e)
told_ok at (Err kind) item e = absurd cc

pub finds_constant : (pool : List Entry) (where_ : ConstantPlace) (of : Option ConstantKind)
    → Finds (constant_checked where_ (rows_of pool) of) (NamesConstantAt pool where_ of)
finds_constant pool where_ of = record {
  right = λ at n constant fits e.
      to_constant pool where_ of n constant fits
      (told_ok at (constant_named where_ (rows_of pool) of n) constant e);
  again = λ at n constant s. ap (told_at at) (from_constant pool where_ of n constant s);
}

pub weighs_constant : (pool : List Entry) (where_ : ConstantPlace) (of : Option ConstantKind)
    → Weighs 0 constant_texts (constant_at where_ (rows_of pool) of)
    (Numbered (NamesConstantAt pool where_ of))
weighs_constant pool where_ of = weighs_numbered constant_texts (finds_constant pool where_ of)
