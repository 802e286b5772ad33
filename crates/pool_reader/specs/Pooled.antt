-- Reading the constant pool (JVMS 4.4), and what a reader asks of its numbers.
use Rattle.std.specs.Prelude.{ℕ, zero, suc, ◌-◌, Bool, true, false, List, [], ◌∷◌, ◌++◌, map}
use Rattle.std.specs.Prelude.{Option, Some, None}
use Rattle.std.specs.Prelude.{Result, Ok, Err, slice_get, ◌==◌, if◌then◌else◌}
use Rattle.std.specs.Int.{w8, w16, w32, w64}
use Rattle.java_names.specs.Units.{is_modified_utf8}
use Rattle.class_desc.specs.Pool as pool
use Rattle.class_desc.specs.Pool.{Entry, other_fields, Slot, Held, Second, numbered}
use Rattle.pool_reader.specs.declared.fault.ClassKind.{ClassKind}
use Rattle.pool_reader.specs.declared.fault.ClassKind.TheVariants.{F4, F5, F6}
use Rattle.pool_reader.specs.Reading.{◌>>=◌, Position, offset, Read, fault_at, told, number_at}
use Rattle.pool_reader.specs.Reading.{piece_at}

-- ---- what is kept of a number

-- what a number of the pool is to a reader
pub data Row : Type 0 where
  -- a text in modified UTF-8
  TextRow : List ℕ → Row
  -- a CONSTANT_Utf8 of other bytes
  MalformedRow : Row
  IntegerRow : ℕ → Row
  FloatRow : ℕ → Row
  LongRow : ℕ → Row
  DoubleRow : ℕ → Row
  -- a class, by the number of its name
  ClassRow : ℕ → Row
  -- a string, by the number of its text
  StringRow : ℕ → Row
  -- an entry that nothing kept may name, or the second number of a Long or Double
  UnreadRow : Row

abbrev pub row_of : Entry → Row
row_of (pool.Utf8 text) = if is_modified_utf8 text then TextRow text else MalformedRow
row_of (pool.Integer bits) = IntegerRow bits
row_of (pool.Float bits) = FloatRow bits
row_of (pool.Long bits) = LongRow bits
row_of (pool.Double bits) = DoubleRow bits
row_of (pool.ClassRef n) = ClassRow n
row_of (pool.StringRef n) = StringRow n
row_of (pool.Other tag bytes) = UnreadRow

abbrev pub slot_row : Slot → Row
slot_row (Held entry) = row_of entry
slot_row Second = UnreadRow

-- the rows of a pool, by their numbers
abbrev pub rows_of : List Entry → List Row
rows_of entries = map slot_row (numbered entries)

-- whether the next number is the second one of the same entry
abbrev pub is_wide_row : Row → Bool
is_wide_row (TextRow text) = false
is_wide_row MalformedRow = false
is_wide_row (IntegerRow bits) = false
is_wide_row (FloatRow bits) = false
is_wide_row (LongRow bits) = true
is_wide_row (DoubleRow bits) = true
is_wide_row (ClassRow n) = false
is_wide_row (StringRow n) = false
is_wide_row UnreadRow = false

-- ---- reading the pool

-- a number that an entry is made of
abbrev pub made_of : (ℕ → Entry) → Read ℕ → Read Entry
made_of make read = read >>= λ n. Ok (make n.0, n.1)

unfoldable pub text_entry_at : Position → Read Entry
text_entry_at p = do
  n ← number_at w16 p
  text ← piece_at n.0 n.1
  Ok (pool.Utf8 text.0, text.1)

-- an entry of two numbers, where as many are left behind its first: F5 at its tag where none is
abbrev pub wide_entry_at : (ℕ → Entry) → ℕ → ℕ → Position → Read Entry
wide_entry_at make behind tag_at p =
    if behind == 0 then Err (fault_at tag_at F5) else made_of make (number_at w64 p)

-- fields of these sizes, one behind the other: each is an item
unfoldable pub fields_at : List ℕ → Position → Read (List ℕ)
fields_at [] p = Ok ([], p)
fields_at (n ∷ ns) p = do
  field ← piece_at n p
  fields ← fields_at ns field.1
  Ok (field.0 ++ fields.0, fields.1)

abbrev pub other_entry_at : ℕ → Option (List ℕ) → ℕ → Position → Read Entry
other_entry_at tag None tag_at p = Err (fault_at tag_at F4)
other_entry_at tag (Some sizes) tag_at p = fields_at sizes p >>= λ b. Ok (pool.Other tag b.0, b.1)

-- what stands behind a tag of this offset
unfoldable pub behind_tag : ℕ → ℕ → ℕ → Position → Read Entry
behind_tag behind tag tag_at p =
    if tag == 1 then text_entry_at p
    else if tag == 3 then made_of pool.Integer (number_at w32 p)
    else if tag == 4 then made_of pool.Float (number_at w32 p)
    else if tag == 5 then wide_entry_at pool.Long behind tag_at p
    else if tag == 6 then wide_entry_at pool.Double behind tag_at p
    else if tag == 7 then made_of pool.ClassRef (number_at w16 p)
    else if tag == 8 then made_of pool.StringRef (number_at w16 p)
    else other_entry_at tag (other_fields tag) tag_at p

-- an entry, where as many numbers are left behind its first
unfoldable pub entry_at : ℕ → Position → Read Entry
entry_at behind p = do
  tag ← number_at w8 p
  behind_tag behind tag.0 (offset p) tag.1

abbrev pub as_row : Read Entry → Read Row
as_row read = read >>= λ entry. Ok (row_of entry.0, entry.1)

-- the row of a number: nothing is read for a second one
unfoldable pub row_at : Bool → ℕ → Position → Read Row
row_at is_second behind p =
    if is_second then Ok (UnreadRow, p)
    else as_row (entry_at behind p)

-- the rows of as many numbers
unfoldable pub rows_at : Bool → ℕ → Position → Read (List Row)
rows_at is_second zero p = Ok ([], p)
rows_at is_second (suc n) p = do
  row ← row_at is_second n p
  rows ← rows_at (is_wide_row row.0) n row.1
  Ok (row.0 ∷ rows.0, rows.1)

-- the pool, its count first, which is one more than the numbers (JVMS 4.1)
unfoldable pub pool_at : Position → Read (List Row)
pool_at p = do
  count ← number_at w16 p
  if count.0 == 0 then Err (told p F5) else rows_at false (count.0 - 1) count.1

-- ---- what numbers name

abbrev pub row_in : List Row → ℕ → Option Row
row_in rows n = if n == 0 then None else slice_get rows (n - 1)

abbrev pub text_of_row : Option Row → Result (List ℕ) ClassKind
text_of_row (Some (TextRow text)) = Ok text
text_of_row (Some MalformedRow) = Err F6
text_of_row (Some (IntegerRow bits)) = Err F5
text_of_row (Some (FloatRow bits)) = Err F5
text_of_row (Some (LongRow bits)) = Err F5
text_of_row (Some (DoubleRow bits)) = Err F5
text_of_row (Some (ClassRow n)) = Err F5
text_of_row (Some (StringRow n)) = Err F5
text_of_row (Some UnreadRow) = Err F5
text_of_row None = Err F5

-- the text of this number: F5 where it is none, F6 where it is no modified UTF-8
abbrev pub text_named : List Row → ℕ → Result (List ℕ) ClassKind
text_named rows n = text_of_row (row_in rows n)

abbrev pub class_of_row : List Row → Option Row → Result (List ℕ) ClassKind
class_of_row rows (Some (ClassRow n)) = text_named rows n
class_of_row rows (Some (TextRow text)) = Err F5
class_of_row rows (Some MalformedRow) = Err F5
class_of_row rows (Some (IntegerRow bits)) = Err F5
class_of_row rows (Some (FloatRow bits)) = Err F5
class_of_row rows (Some (LongRow bits)) = Err F5
class_of_row rows (Some (DoubleRow bits)) = Err F5
class_of_row rows (Some (StringRow n)) = Err F5
class_of_row rows (Some UnreadRow) = Err F5
class_of_row rows None = Err F5

-- the name of the class of this number
abbrev pub class_named : List Row → ℕ → Result (List ℕ) ClassKind
class_named rows n = class_of_row rows (row_in rows n)
