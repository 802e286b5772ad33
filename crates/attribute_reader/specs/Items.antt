-- Reading items that are numbers of the pool, and lists of items.
use Rattle.std.specs.Prelude.{ℕ, zero, suc, ◌==◌, List, ◌++◌, length, Option, Some, None}
use Rattle.std.specs.Prelude.{Result, Ok, Err, if◌then◌else◌}
use Rattle.std.specs.Int.{w8, w16}
use Rattle.class_desc.specs.declared.constant_kind.ConstantKind.{ConstantKind}
use Rattle.class_desc.specs.declared.constant_kind.ConstantKind.TheVariants as kind
use Rattle.class_desc.specs.declared.constant_kind.NumberKind.{NumberKind}
use Rattle.class_desc.specs.declared.constant_kind.NumberKind.TheVariants as number
use Rattle.class_desc.specs.declared.value.Value.{Value}
use Rattle.class_desc.specs.declared.value.Value.TheVariants as value
use Rattle.class_desc.specs.Constants.{number_value}
use Rattle.class_desc.specs.Texts.{option_texts, constant_texts}
use Rattle.pool_reader.specs.declared.fault.ClassKind.{ClassKind}
use Rattle.pool_reader.specs.declared.fault.ClassKind.TheVariants.{F5}
use Rattle.pool_reader.specs.declared.fault.ClassFault.{ClassFault}
use Rattle.pool_reader.specs.Reading.{◌>>=◌, Position, offset, Read, fault_at, number_at}
use Rattle.pool_reader.specs.Reading.{spent_at, times}
use Rattle.pool_reader.specs.Pooled.{Row, IntegerRow, FloatRow, LongRow}
use Rattle.pool_reader.specs.Pooled.{DoubleRow, StringRow, row_in}
use Rattle.pool_reader.specs.Pooled.{text_named, class_named}
use Rattle.attribute_reader.specs.declared.constants.ConstantPlace.{ConstantPlace}
use Rattle.attribute_reader.specs.declared.constants.ConstantPlace.TheVariants as place
use Rattle.attribute_reader.specs.declared.forms.Form.TheVariants as form
use Rattle.attribute_reader.specs.Forms.{form_fault}

-- ---- what is asked of a number, which stands at this offset

abbrev pub passed : List ℕ → ℕ → Option ClassKind → Result (List ℕ) ClassFault
passed text at None = Ok text
passed text at (Some kind) = Err (fault_at at kind)

-- The text that an item at this offset names, where nothing is told of it: first what is wrong
-- with the entries, then with the text's form.
abbrev pub checked : (List ℕ → Option ClassKind) → ℕ → Result (List ℕ) ClassKind
    → Result (List ℕ) ClassFault
checked fault at (Err kind) = Err (fault_at at kind)
checked fault at (Ok text) = passed text at (fault text)

abbrev pub text_checked : List Row → (List ℕ → Option ClassKind) → ℕ → ℕ
    → Result (List ℕ) ClassFault
text_checked rows fault at n = checked fault at (text_named rows n)

abbrev pub class_checked : List Row → ℕ → ℕ → Result (List ℕ) ClassFault
class_checked rows at n = checked (form_fault form.ClassName) at (class_named rows n)

-- the number 0, or what else is asked
abbrev pub or_zero : {A : Type 0} → (ℕ → ℕ → Result A ClassFault) → ℕ → ℕ
    → Result (Option A) ClassFault
or_zero check at n = if n == 0 then Ok None else (check at n >>= λ item. Ok (Some item))

-- ---- constants

abbrev pub number_of_row : NumberKind → Option Row → Result Value ClassKind
number_of_row number.Integer (Some (IntegerRow bits)) = Ok (number_value number.Integer bits)
number_of_row number.Float (Some (FloatRow bits)) = Ok (number_value number.Float bits)
number_of_row number.Long (Some (LongRow bits)) = Ok (number_value number.Long bits)
number_of_row number.Double (Some (DoubleRow bits)) = Ok (number_value number.Double bits)
number_of_row other row = Err F5

abbrev pub string_of_row : List Row → Option Row → Result (List ℕ) ClassKind
string_of_row rows (Some (StringRow n)) = text_named rows n
string_of_row rows row = Err F5

-- the text of a string of this number
abbrev pub string_named : List Row → ℕ → Result (List ℕ) ClassKind
string_named rows n = string_of_row rows (row_in rows n)

-- the text of a constant of this number: of a string in a field, as it is in an element
abbrev pub constant_text : ConstantPlace → List Row → ℕ → Result (List ℕ) ClassKind
constant_text place.Field rows n = string_named rows n
constant_text place.Element rows n = text_named rows n

abbrev pub text_value : Result (List ℕ) ClassKind → Result Value ClassKind
text_value (Ok text) = Ok (value.Str text)
text_value (Err kind) = Err kind

-- the constant of this number, if it is one of this kind
abbrev pub constant_named : ConstantPlace → List Row → Option ConstantKind → ℕ
    → Result Value ClassKind
constant_named place rows None n = Err F5
constant_named place rows (Some (kind.Number of)) n = number_of_row of (row_in rows n)
constant_named place rows (Some kind.Text) n = text_value (constant_text place rows n)

abbrev pub told_at : {A : Type 0} → ℕ → Result A ClassKind → Result A ClassFault
told_at at (Ok item) = Ok item
told_at at (Err kind) = Err (fault_at at kind)

abbrev pub constant_checked : ConstantPlace → List Row → Option ConstantKind → ℕ → ℕ
    → Result Value ClassFault
constant_checked place rows kind at n = told_at at (constant_named place rows kind n)

-- ---- items

-- A number, of which this is asked. Last of all there has to be room for the texts of what it names.
unfoldable pub numbered_at : {A : Type 0} → (A → ℕ) → (ℕ → ℕ → Result A ClassFault) → Position
    → Read A
numbered_at texts check p = do
  n ← number_at w16 p
  item ← check (offset p) n.0
  room ← spent_at (offset p) (texts item) n.1
  Ok (item, room.1)

abbrev pub text_at : List Row → (List ℕ → Option ClassKind) → Position → Read (List ℕ)
text_at rows fault = numbered_at length (text_checked rows fault)

abbrev pub class_at : List Row → Position → Read (List ℕ)
class_at rows = numbered_at length (class_checked rows)

abbrev pub constant_at : ConstantPlace → List Row → Option ConstantKind → Position → Read Value
constant_at place rows kind = numbered_at constant_texts (constant_checked place rows kind)

-- the number 0, or what else is asked
abbrev pub optional_at : (ℕ → ℕ → Result (List ℕ) ClassFault) → Position → Read (Option (List ℕ))
optional_at check = numbered_at option_texts (or_zero check)

-- the name of an attribute, which stands in no description
unfoldable pub attribute_name_at : List Row → Position → Read (List ℕ)
attribute_name_at rows p = do
  n ← number_at w16 p
  name ← text_checked rows (form_fault form.AnyText) (offset p) n.0
  Ok (name, n.1)

-- ---- lists

-- items behind their count
unfoldable pub counted_at : {A : Type 0} → (Position → Read A) → Position → Read (List A)
counted_at read p = do
  count ← number_at w16 p
  times read count.0 count.1

-- items, one for each parameter, behind their count in one byte (JVMS 4.7.18, 4.7.19, 4.7.24)
unfoldable pub for_parameters_at : {A : Type 0} → (Position → Read A) → Position → Read (List A)
for_parameters_at read p = do
  count ← number_at w8 p
  times read count.0 count.1

-- what as many items add to those before them, each read with all before it
unfoldable pub growing : {A : Type 0} → (List A → Position → Read (List A)) → List A → ℕ → Position
    → Read (List A)
growing read before zero p = Ok (before, p)
growing read before (suc n) p = do
  more ← read before p
  growing read (before ++ more.0) n more.1
