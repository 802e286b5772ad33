-- Reading from front to back, item by item, up to the first check that fails.
use Rattle.std.specs.Prelude.{◌≡◌, ℕ, zero, suc, ◌-◌, ◌<◌, ◌^◌, List, [], ◌∷◌, length, take}
use Rattle.std.specs.Prelude.{drop}
use Rattle.std.specs.Prelude.{Option, Some, None, Result, Ok, Err, nat_lt, ◌==◌}
use Rattle.std.specs.Prelude.{if◌then◌else◌}
use Rattle.std.specs.Int.{Width, w32, byte_len, from_be_bytes}
use Rattle.std.specs.List.{AllByRecursion}
use Rattle.class_desc.specs.declared.limits.TheConstants.{MOST_TEXT}
use Rattle.pool_reader.specs.declared.fault.ClassKind.{ClassKind}
use Rattle.pool_reader.specs.declared.fault.ClassKind.TheVariants.{F1, F8, F10, F13}
use Rattle.pool_reader.specs.declared.fault.ClassFault.{ClassFault}
use Rattle.pool_reader.specs.declared.fault.ReadErr.{ReadErr}
use Rattle.pool_reader.specs.declared.fault.ReadErr.TheVariants as errors

-- what a file can hold
abbrev pub AreBytes : List ℕ → Type 0
AreBytes = AllByRecursion (λ b. b < 2 ^ 8)

-- Where a reading stands: what is left, the offset at which it ends, in the body of an attribute
-- the offset of the length of that attribute, and how many bytes of texts may still be named.
pub record Position : Type 0 where
  pub rest : List ℕ
  pub end : ℕ
  pub outer : Option ℕ
  pub spare : ℕ

-- the same with these bytes left
abbrev pub leaving : Position → List ℕ → Position
leaving p rest = record p { rest = rest }

-- the same with these bytes left, and room for as much text
abbrev pub left_with : Position → List ℕ → ℕ → Position
left_with p rest spare = record p { rest = rest; spare = spare }

-- the position of a whole file
abbrev pub start : List ℕ → Position
start bytes = record { rest = bytes; end = length bytes; outer = None; spare = MOST_TEXT }

-- the offset of the next item
abbrev pub offset : Position → ℕ
offset p = p.end - length p.rest

abbrev pub fault_at : ℕ → ClassKind → ClassFault
fault_at offset kind = record { offset = offset; kind = kind }

-- a check of the item at this position fails
abbrev pub told : Position → ClassKind → ClassFault
told p kind = fault_at (offset p) kind

abbrev pub cut_in : Position → Option ℕ → ClassFault
cut_in p None = told p F1
cut_in p (Some length_at) = fault_at length_at F8

-- The item at this position isn't whole. In the body of an attribute its length is wrong.
abbrev pub cut : Position → ClassFault
cut p = cut_in p p.outer

-- what reading an item gives: its value and where the reading stands behind it, or the first check
-- that fails
abbrev pub Read : Type 0 → Type 0
Read A = Result (A × Position) ClassFault

infixl 10 ◌>>=◌
abbrev pub ◌>>=◌ : {A B : Type 0} → Result A ClassFault → (A → Result B ClassFault)
    → Result B ClassFault
(Ok x) >>= f = f x
(Err e) >>= f = Err e

abbrev pub Fails : {Y : Type 0} → ReadErr → Result Y ClassFault → Type 0
Fails errors.Memory read = Unit {0}
Fails (errors.Fault f) read = read ≡ Err f

-- what a function returned, seen by view, and where it left the reader are what reading gives,
-- unless memory ran out
abbrev pub Gives : {X Y : Type 0} → (X → Y) → Result X ReadErr → Position → Read Y → Type 0
Gives view (Ok x) left read = read ≡ Ok (view x, left)
Gives view (Err e) left read = Fails e read

-- the same of a check, or of a whole file, which leave nothing
abbrev pub Answers : {X Y : Type 0} → (X → Y) → Result X ReadErr → Result Y ClassFault → Type 0
Answers view (Ok x) read = read ≡ Ok (view x)
Answers view (Err e) read = Fails e read

-- the next bytes, as many as that
abbrev pub piece_at : ℕ → Position → Read (List ℕ)
piece_at n p = if nat_lt (length p.rest) n then Err (cut p) else Ok
    (take n p.rest, leaving p (drop n p.rest))

-- a number, its highest byte first (JVMS 4)
abbrev pub number_at : Width → Position → Read ℕ
number_at w p =
    if nat_lt (length p.rest) (byte_len w) then Err (cut p)
    else Ok (from_be_bytes w (take (byte_len w) p.rest), leaving p (drop (byte_len w) p.rest))

-- Nothing is read: a text of as many bytes is named by the item at this offset.
unfoldable pub spent_at : ℕ → ℕ → Position → Read (Unit {0})
spent_at at n p =
    if nat_lt p.spare n then Err (fault_at at F13) else Ok
    (tt, left_with p p.rest (p.spare - n))

-- as many items as that, one behind the other
unfoldable pub times : {A : Type 0} → (Position → Read A) → ℕ → Position → Read (List A)
times read zero p = Ok ([], p)
times read (suc n) p = do
  item ← read p
  items ← times read n item.1
  Ok (item.0 ∷ items.0, items.1)

-- as many items as that, of which nothing is kept
unfoldable pub pass_all : (Position → Read (Unit {0})) → ℕ → Position → Read (Unit {0})
pass_all read zero p = Ok (tt, p)
pass_all read (suc n) p = read p >>= λ item. pass_all read n item.1

-- ---- bodies of attributes (JVMS 4.7)

-- The body behind its length, as a reading of its own. An item of it that isn't whole is told at
-- the length.
unfoldable pub body_at : Position → Read Position
body_at p = do
  count ← number_at w32 p
  body ← piece_at count.0 count.1
  Ok (
    record { rest = body.0; end = offset body.1; outer = Some (offset p); spare = p.spare },
    body.1,
  )

abbrev pub left_over : Position → Option ℕ → ClassFault
left_over p None = told p F10
left_over p (Some length_at) = fault_at length_at F8

-- that no byte is left of the file, or of the body
abbrev pub ended : Position → Result (Unit {0}) ClassFault
ended p = if length p.rest == 0 then Ok tt else Err (left_over p p.outer)

-- behind a body, of which this is the end, with the room for texts that it leaves
abbrev pub behind_body : Position → Position → Read (Unit {0})
behind_body body p = ended body >>= λ end. Ok (tt, left_with p p.rest body.spare)

-- an item that is the whole body of an attribute
abbrev pub within : {A : Type 0} → (Position → Read A) → Position → Read A
within read p = do
  body ← body_at p
  item ← read body.0
  behind ← behind_body item.1 body.1
  Ok (item.0, behind.1)
