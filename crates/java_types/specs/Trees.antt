-- The descriptor or signature of a text, as a function of the text (JVMS 4.3.2, 4.3.3, 4.7.9.1).
-- The text is taken for one, from front to back; what
-- it was taken for has to be one with this text.
use Rattle.std.specs.Prelude.{ℕ, zero, suc, ◌==◌, ◌&&◌, not, Bool, true, false, List, [], ◌∷◌}
use Rattle.std.specs.Prelude.{length, take, drop, Option, Some, None, if◌then◌else◌}
use Rattle.std.specs.List.{position_or_len, prefix_len}
use Rattle.java_names.specs.Names.{is_text}
use Rattle.java_types.specs.declared.production.SigPlace.{SigPlace}
use Rattle.java_types.specs.declared.production.SigPlace.TheVariants.{ClassPlace, MethodPlace}
use Rattle.java_types.specs.declared.production.SigPlace.TheVariants.{FieldPlace}
use Rattle.java_types.specs.declared.types.JType.{JType}
use Rattle.java_types.specs.declared.types.JType.TheVariants as type
use Rattle.java_types.specs.declared.types.JPart.{JPart, roll-JPart}
use Rattle.java_types.specs.declared.types.JArg.{JArg}
use Rattle.java_types.specs.declared.types.JArg.TheVariants as arg
use Rattle.java_types.specs.declared.types.JParam.{JParam}
use Rattle.java_types.specs.declared.types.JSig.{JSig}
use Rattle.java_types.specs.declared.types.JSig.TheVariants.{OfClass, OfMethod, OfField}
use Rattle.java_types.specs.Types.{signature_text}
use Rattle.java_types.specs.Bytes.{class_letter, variable_letter, void_letter, bracket, less}
use Rattle.java_types.specs.Bytes.{greater, opening, closing, dot, semicolon, colon, caret, plus}
use Rattle.java_types.specs.Bytes.{minus, star}
use Rattle.java_types.specs.Descriptor.{is_descriptor}
use Rattle.java_types.specs.Signature.{is_signature}
use Rattle.java_types.specs.Fronts.{begins_with, ends_name, is_before_type}

-- what the front of a text is taken for, and the bytes behind it
abbrev pub Taking : Type 0 → Type 0
Taking A = List ℕ → A × List ℕ

-- the same, made into another value
abbrev pub under : {A B : Type 0} → (A → B) → A × List ℕ → B × List ℕ
under f taken = (f taken.0, taken.1)

-- ---- rows

-- values, one behind another, up to where the text goes on so; at most n
abbrev pub many : {A : Type 0} → (List ℕ → Bool) → Taking A → ℕ → Taking (List A)
many stops item zero text = ([], text)
many stops item (suc n) text = if stops text then ([], text)
    else (let first = item text in
    let later = many stops item n first.1 in (first.0 ∷ later.0, later.1))

-- values, each behind this byte
abbrev pub marked : {A : Type 0} → ℕ → Taking A → ℕ → Taking (List A)
marked mark item n text =
    many (λ rest. not (begins_with mark rest)) (λ rest. item (drop 1 rest)) n text

-- values between < and >, where there are some
abbrev pub enclosed : {A : Type 0} → Taking A → ℕ → Taking (List A)
enclosed item n text = if begins_with less text
    then (let inside = many (begins_with greater) item n (drop 1 text) in
    (inside.0, drop 1 inside.1))
    else ([], text)

abbrev pub is_at_end : List ℕ → Bool
is_at_end [] = true
is_at_end (b ∷ bytes) = false

-- ---- types

-- a name, up to a byte that ends it
abbrev pub name : (ℕ → Bool) → Taking (List ℕ)
name ends text = (take (position_or_len ends text) text, drop (position_or_len ends text) text)

abbrev pub argument : Taking JType → Taking JArg
argument inner [] = (arg.Any, [])
argument inner (b ∷ rest) = if b == star then (arg.Any, rest)
    else (if b == plus then under arg.Extends (inner rest)
    else (if b == minus then under arg.Super (inner rest)
    else under arg.Exact (inner (b ∷ rest))))

abbrev pub part : (ℕ → Bool) → Taking JType → ℕ → Taking JPart
part ends inner n text =
    let named = name ends text in
    let args = enclosed (argument inner) n named.1 in
    (roll-JPart (record { name = named.0; args = args.0 }), args.1)

-- the parts of a class with . between, and its ;
abbrev pub parts : Taking JPart → ℕ → Taking (List JPart)
parts one n text =
    let first = one text in
    let later = marked dot one n first.1 in
    (first.0 ∷ later.0, drop 1 later.1)

-- a type that is no array, from the types in it
abbrev pub element : (ℕ → Bool) → Taking JType → ℕ → Taking JType
element ends inner n [] = (type.Void, [])
element ends inner n (b ∷ rest) = if b == class_letter
    then under type.Named (parts (part ends inner n) n rest)
    else (if b == variable_letter
    then (let named = name ends rest in (type.Var named.0, drop 1 named.1))
    else (if b == void_letter then (type.Void, rest) else (type.Prim b, rest)))

abbrev pub arrayed : ℕ → JType → JType
arrayed zero element = element
arrayed (suc more) element = type.Array element (suc more)

-- a type with its dimensions; no type in it is deeper than n
unfoldable pub java_type : (ℕ → Bool) → ℕ → Taking JType
java_type ends zero text = (type.Void, text)
java_type ends (suc n) text =
    let dims = prefix_len (λ b. b == bracket) text in
    let inside = element ends (java_type ends n) n (drop dims text) in
    (arrayed dims inside.0, inside.1)

-- ---- signatures

-- the class bound of a type parameter, there or not
abbrev pub class_bound : Taking JType → Taking (Option JType)
class_bound inner text = if is_before_type text then under Some (inner text) else (None, text)

abbrev pub param : Taking JType → ℕ → Taking JParam
param inner n text =
    let named = name ends_name text in
    let bound = class_bound inner (drop 1 named.1) in
    let others = marked colon inner n bound.1 in
    (record { name = named.0; class_bound = bound.0; interface_bounds = others.0 }, others.1)

abbrev pub tree_at : SigPlace → Taking JType → ℕ → List ℕ → JSig
tree_at ClassPlace inner n text =
    let params = enclosed (param inner n) n text in
    let super = inner params.1 in
    let interfaces = many is_at_end inner n super.1 in
    OfClass params.0 super.0 interfaces.0
tree_at MethodPlace inner n text =
    let params = enclosed (param inner n) n text in
    let formals = many (begins_with closing) inner n (drop 1 params.1) in
    let ret = inner (drop 1 formals.1) in
    let throws = marked caret inner n ret.1 in
    OfMethod params.0 formals.0 ret.0 throws.0
tree_at FieldPlace inner n text = OfField (inner text).0

-- the tree, if it is right and has this text
abbrev pub checked : (JSig → Bool) → List ℕ → JSig → Option JSig
checked is_right text sig =
    if is_right sig && is_text (signature_text sig) text then Some sig else None

-- the signature that the text is at this place
unfoldable pub signature_of : SigPlace → List ℕ → Option JSig
signature_of place text =
    let n = length text in
    checked (is_signature place) text (tree_at place (java_type ends_name n) n text)

-- the byte that ends the name of a class in a descriptor
abbrev pub ends_class : ℕ → Bool
ends_class b = b == semicolon

abbrev pub descriptor_place : List ℕ → SigPlace
descriptor_place text = if begins_with opening text then MethodPlace else FieldPlace

-- the descriptor that the text is
unfoldable pub descriptor_of : List ℕ → Option JSig
descriptor_of text =
    let n = length text in
    checked is_descriptor text (tree_at (descriptor_place text) (java_type ends_class n) n text)
