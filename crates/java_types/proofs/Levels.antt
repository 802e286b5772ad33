-- The levels of a right signature are told by its text alone: by its bytes < and >.
use Rattle.std.proofs.Common.{◌≡◌, refl, sym, ap, ◌∙◌, subst, ℕ, suc, zero, ◌+◌, ◌-◌, ◌^◌, Bool}
use Rattle.std.proofs.Common.{true, false, not, ◌&&◌, ◌==◌, List, [], ◌∷◌, ◌++◌, length, map}
use Rattle.std.proofs.Common.{replicate, if◌then◌else◌, append_assoc, append-nil, Option, Some}
use Rattle.std.proofs.Common.{None, arith}
use Rattle.std.specs.Prelude.{codes, nat_le, nat_lt}
use Rattle.std.specs.List.{list_all, slice_split, flat_map, concat}
use Rattle.std.proofs.lemmas.Bool.{false≢true, and_parts, and_from, not-true}
use Rattle.java_types.specs.declared.types.JType.{JType, roll-JType, map-JType, ind-JType}
use Rattle.java_types.specs.declared.types.JPart.{JPart, roll-JPart, map-JPart}
use Rattle.java_types.specs.declared.types.JArg.{JArg, roll-JArg, map-JArg}
use Rattle.java_types.specs.declared.types.JArg.TheOpen.{JType-F, JPart-F, JArg-F}
use Rattle.java_types.specs.declared.types.JParam.{JParam}
use Rattle.java_types.specs.declared.types.JSig.{JSig}
use Rattle.java_types.specs.declared.types.JSig.TheVariants.{OfClass, OfMethod, OfField}
use Rattle.java_types.specs.declared.types.JType.TheVariants as type
use Rattle.java_types.specs.declared.types.JArg.TheVariants as arg
use Rattle.java_names.specs.Names.{is_among, is_identifier, is_binary_name}
use Rattle.java_types.specs.Types.{type_text, part_text, arg_text, parts_text, args_text}
use Rattle.java_types.specs.Types.{bound_text, param_text, params_text, signature_text}
use Rattle.java_types.specs.Descriptor.{is_primitive}
use Rattle.java_types.specs.declared.production.Production.{Production}
use Rattle.java_types.specs.declared.production.Production.TheVariants.{AnyResult, AnyType}
use Rattle.java_types.specs.declared.production.Production.TheVariants.{Reference, Thrown}
use Rattle.java_types.specs.declared.production.Production.TheVariants.{ClassType, Element}
use Rattle.java_types.specs.declared.production.SigPlace.{SigPlace}
use Rattle.java_types.specs.declared.production.SigPlace.TheVariants.{ClassPlace, MethodPlace}
use Rattle.java_types.specs.declared.production.SigPlace.TheVariants.{FieldPlace}
use Rattle.java_types.specs.Signature.{is_type, is_part, is_arg, are_parts, allows_primitive}
use Rattle.java_types.specs.Signature.{allows_variable, allows_array, are_types, is_class_bound}
use Rattle.java_types.specs.Signature.{is_param, is_signature, IsSignature}
use Rattle.java_types.specs.Nesting.{flat, type_levels, part_levels, arg_levels, parts_levels}
use Rattle.java_types.specs.Nesting.{args_levels, top_levels, bound_levels, param_levels}
use Rattle.java_types.specs.Nesting.{params_levels, levels}
use Rattle.java_types.proofs.Fronts.{unlike, weaker, uncut, is_type_byte}
use Rattle.java_types.proofs.Fronts.{type_begins as type_front}
use Rattle.java_types.proofs.Layers.{text_void, text_prim, text_named, text_var, text_array}
use Rattle.java_types.proofs.Layers.{text_rolled_part, text_exact, text_extends, text_super}
use Rattle.java_types.proofs.Layers.{text_any, form_prim, form_named, form_var, form_array}
use Rattle.java_types.proofs.Layers.{form_rolled_part, form_exact, form_extends, form_super}
use Rattle.java_types.proofs.Layers.{levels_void, levels_prim, levels_named, levels_var}
use Rattle.java_types.proofs.Layers.{levels_array, levels_rolled_part, levels_exact}
use Rattle.java_types.proofs.Layers.{levels_extends, levels_super, levels_any}

-- the depth after a byte that stands inside type arguments nested so deep
abbrev pub depth_after : ℕ → ℕ → ℕ
depth_after depth b = if b == 60 then depth + 1 else (if b == 62 then depth - 1 else depth)

-- the level of the byte
abbrev pub byte_level : ℕ → ℕ → ℕ
byte_level depth b = if b == 60 then depth + 1 else 0

-- the levels of the bytes from there on
abbrev pub counted : ℕ → List ℕ → List ℕ
counted depth [] = []
counted depth (b ∷ bytes) = byte_level depth b ∷ counted (depth_after depth b) bytes

-- the levels of a signature's text: a < that it begins with is that of type parameters
abbrev pub text_levels : List ℕ → List ℕ
text_levels [] = []
text_levels (b ∷ bytes) = if b == 60 then 0 ∷ counted 0 bytes else counted 0 (b ∷ bytes)

-- the depth after bytes
abbrev pub depth_over : ℕ → List ℕ → ℕ
depth_over depth [] = depth
depth_over depth (b ∷ bytes) = depth_over (depth_after depth b) bytes

-- the depth after a text
abbrev pub text_depth : List ℕ → ℕ
text_depth [] = 0
text_depth (b ∷ bytes) = if b == 60 then depth_over 0 bytes else depth_over 0 (b ∷ bytes)

-- ---- texts in two halves

pub counted_append : (depth : ℕ) (front more : List ℕ)
    → counted depth (front ++ more) ≡ counted depth front ++ counted (depth_over depth front) more
counted_append depth [] more = refl
counted_append depth (b ∷ front) more =
    ap (λ r. byte_level depth b ∷ r) (counted_append (depth_after depth b) front more)

pub depth_over_append : (depth : ℕ) (front more : List ℕ)
    → depth_over depth (front ++ more) ≡ depth_over (depth_over depth front) more
depth_over_append depth [] more = refl
depth_over_append depth (b ∷ front) more = depth_over_append (depth_after depth b) front more

pub text_levels_append : (b : ℕ) (front more : List ℕ)
    → text_levels (b ∷ front ++ more)
    ≡ text_levels (b ∷ front) ++ counted (text_depth (b ∷ front)) more
text_levels_append b front more = by (b == 60)
  where
    by : (t : Bool) → (if t then 0 ∷ counted 0 (front ++ more) else counted 0 (b ∷ front ++ more))
        ≡ (if t then 0 ∷ counted 0 front else counted 0 (b ∷ front))
        ++ counted (if t then depth_over 0 front else depth_over 0 (b ∷ front)) more
    by true = ap (λ r. 0 ∷ r) (counted_append 0 front more)
    by false = counted_append 0 (b ∷ front) more

pub text_depth_append : (b : ℕ) (front more : List ℕ)
    → text_depth (b ∷ front ++ more) ≡ depth_over (text_depth (b ∷ front)) more
text_depth_append b front more = by (b == 60)
  where
    by : (t : Bool) → (if t then depth_over 0 (front ++ more)
        else depth_over 0 (b ∷ front ++ more))
        ≡ depth_over (if t then depth_over 0 front else depth_over 0 (b ∷ front)) more
    by true = depth_over_append 0 front more
    by false = depth_over_append 0 (b ∷ front) more

-- one more byte
pub text_levels_push : (b : ℕ) (front : List ℕ) (c : ℕ)
    → text_levels (b ∷ front ++ (c ∷ []))
    ≡ text_levels (b ∷ front) ++ (byte_level (text_depth (b ∷ front)) c ∷ [])
text_levels_push b front c = text_levels_append b front (c ∷ [])

pub text_depth_push : (b : ℕ) (front : List ℕ) (c : ℕ)
    → text_depth (b ∷ front ++ (c ∷ [])) ≡ depth_after (text_depth (b ∷ front)) c
text_depth_push b front c = text_depth_append b front (c ∷ [])

-- ---- texts that are counted alone, whatever follows

-- the text leads back to its own depth, and its bytes have these levels
abbrev pub CountsAt : ℕ → List ℕ → List ℕ → Type 0
CountsAt depth text levels =
    (more : List ℕ) → counted depth (text ++ more) ≡ levels ++ counted depth more

counts_none : (depth : ℕ) → CountsAt depth [] []
counts_none depth more = refl

counts_append : (depth : ℕ) (xs ls ys ms : List ℕ) → CountsAt depth xs ls → CountsAt depth ys ms
    → CountsAt depth (xs ++ ys) (ls ++ ms)
counts_append depth xs ls ys ms left right more =
    ap (counted depth) (append_assoc xs ys more) ∙ left (ys ++ more)
    ∙ ap (λ r. ls ++ r) (right more) ∙ sym (append_assoc ls ms (counted depth more))

-- < … > around a text that stands one deeper
counts_arguments : (depth : ℕ) (xs ls : List ℕ) → CountsAt (depth + 1) xs ls
    → CountsAt depth (60 ∷ xs ++ (62 ∷ [])) ((depth + 1) ∷ ls ++ (0 ∷ []))
counts_arguments depth xs ls inside more = ap (λ r. (depth + 1) ∷ r) (
    ap (counted (depth + 1)) (append_assoc xs (62 ∷ []) more) ∙ inside (62 ∷ more)
    ∙ ap (λ d. ls ++ (0 ∷ counted d more)) back
    ∙ sym (append_assoc ls (0 ∷ []) (counted depth more)))
  where
    back : depth + 1 - 1 ≡ depth
    back = omega arith

-- ---- bytes that are neither < nor >

abbrev is_flat : ℕ → Bool
is_flat b = not (b == 60) && not (b == 62)

abbrev Flat : List ℕ → Type 0
Flat bytes = list_all is_flat bytes ≡ true

and_left : (a b : Bool) → a && b ≡ true → a ≡ true
and_left a b h = (and_parts a b h).0

and_right : (a b : Bool) → a && b ≡ true → b ≡ true
and_right a b h = (and_parts a b h).1

counts_flat : (depth : ℕ) (bytes : List ℕ) → Flat bytes → CountsAt depth bytes (flat bytes)
counts_flat depth [] f more = refl
counts_flat depth (b ∷ bytes) f more =
    ap (λ t. (if t then depth + 1 else 0)
    ∷ counted (if t then depth + 1 else (if b == 62 then depth - 1 else depth)) (bytes ++ more))
    opens
    ∙ ap (λ t. 0 ∷ counted (if t then depth - 1 else depth) (bytes ++ more)) closes
    ∙ ap (λ r. 0 ∷ r) (counts_flat depth bytes (and_right (is_flat b) (list_all is_flat bytes) f)
    more)
  where
    here : is_flat b ≡ true
    here = and_left (is_flat b) (list_all is_flat bytes) f

    opens : b == 60 ≡ false
    opens = not-true (b == 60) (and_left (not (b == 60)) (not (b == 62)) here)

    closes : b == 62 ≡ false
    closes = not-true (b == 62) (and_right (not (b == 60)) (not (b == 62)) here)

-- a test that neither < nor > passes
passes_flat : (test : ℕ → Bool) → test 60 ≡ false → test 62 ≡ false → (b : ℕ) → test b ≡ true
    → is_flat b ≡ true
passes_flat test no_open no_close b passes =
    and_from (not (b == 60)) (not (b == 62)) (ap not (unlike test b 60 passes no_open))
    (ap not (unlike test b 62 passes no_close))

all_flat : (test : ℕ → Bool) → test 60 ≡ false → test 62 ≡ false → (bytes : List ℕ)
    → list_all test bytes ≡ true → Flat bytes
all_flat test no_open no_close = weaker test is_flat (passes_flat test no_open no_close)

primitive_flat : (letter : ℕ) → is_primitive letter ≡ true → is_flat letter ≡ true
primitive_flat = passes_flat is_primitive refl refl

identifier_flat : (name : List ℕ) → is_identifier name ≡ true → Flat name
identifier_flat name is =
    all_flat (λ b. not (is_among (codes ".;[/<>:") b)) refl refl name
    (and_right (not (length name == 0)) (list_all (λ b. not (is_among (codes ".;[/<>:") b)) name)
    is)

binary_name_flat : (name : List ℕ) → is_binary_name name ≡ true → Flat name
binary_name_flat name is =
    uncut is_flat refl name (weaker is_identifier (list_all is_flat) identifier_flat
    (slice_split (λ b. b == 47) name) is)

-- ---- types

counts_by : (depth : ℕ) (xs ls ys ms : List ℕ) → ys ≡ xs → ms ≡ ls → CountsAt depth xs ls
    → CountsAt depth ys ms
counts_by depth xs ls ys ms text levels counts more =
    ap (λ t. counted depth (t ++ more)) text ∙ counts more
    ∙ ap (λ l. l ++ counted depth more) (sym levels)

counts_dims : (depth dims : ℕ) → CountsAt depth (replicate dims 91) (replicate dims 0)
counts_dims depth zero more = refl
counts_dims depth (suc dims) more = ap (λ r. 0 ∷ r) (counts_dims depth dims more)

abbrev IsCountedType : JType → Type 0
IsCountedType ty =
    (at : Production) → is_type ty at ≡ true → (depth : ℕ)
    → CountsAt depth (type_text ty) (type_levels ty depth)

abbrev IsCountedPart : JPart → Type 0
IsCountedPart part =
    (is_name : List ℕ → Bool) → ((name : List ℕ) → is_name name ≡ true → Flat name)
    → is_part part is_name ≡ true → (depth : ℕ)
    → CountsAt depth (part_text part) (part_levels part depth)

abbrev IsCountedArg : JArg → Type 0
IsCountedArg a = is_arg a ≡ true → (depth : ℕ) → CountsAt depth (arg_text a) (arg_levels a depth)

abbrev CountedType : Type 0
CountedType = (ty : JType) × IsCountedType ty

abbrev CountedPart : Type 0
CountedPart = (part : JPart) × IsCountedPart part

abbrev CountedArg : Type 0
CountedArg = (a : JArg) × IsCountedArg a

-- type arguments

exact_counts : (ty : JType) → IsCountedType ty → IsCountedArg (arg.Exact ty)
exact_counts ty counts right depth =
    counts_by depth (type_text ty) (type_levels ty depth) (arg_text (arg.Exact ty))
    (arg_levels (arg.Exact ty) depth) (text_exact ty) (levels_exact ty depth)
    (counts Reference (sym (form_exact ty) ∙ right) depth)

extends_counts : (ty : JType) → IsCountedType ty → IsCountedArg (arg.Extends ty)
extends_counts ty counts right depth =
    counts_by depth (43 ∷ type_text ty) (0 ∷ type_levels ty depth) (arg_text (arg.Extends ty))
    (arg_levels (arg.Extends ty) depth) (text_extends ty) (levels_extends ty depth)
    (λ more. ap (λ r. 0 ∷ r) (counts Reference (sym (form_extends ty) ∙ right) depth more))

super_counts : (ty : JType) → IsCountedType ty → IsCountedArg (arg.Super ty)
super_counts ty counts right depth =
    counts_by depth (45 ∷ type_text ty) (0 ∷ type_levels ty depth) (arg_text (arg.Super ty))
    (arg_levels (arg.Super ty) depth) (text_super ty) (levels_super ty depth)
    (λ more. ap (λ r. 0 ∷ r) (counts Reference (sym (form_super ty) ∙ right) depth more))

any_counts : IsCountedArg arg.Any
any_counts right depth =
    counts_by depth (42 ∷ []) (0 ∷ []) (arg_text arg.Any) (arg_levels arg.Any depth) text_any
    (levels_any depth) (λ more. refl)

arg_step : (y : JArg-F CountedArg CountedType CountedPart)
    → IsCountedArg (roll-JArg (map-JArg CountedArg CountedType CountedPart JArg JType JPart
    (λ e. e.0) (λ e. e.0) (λ e. e.0) y))
arg_step (JArg-F.Exact ty) =
    subst IsCountedArg (sym (arg.rolls-Exact ty.0)) (exact_counts ty.0 ty.1)
arg_step (JArg-F.Extends ty) =
    subst IsCountedArg (sym (arg.rolls-Extends ty.0)) (extends_counts ty.0 ty.1)
arg_step (JArg-F.Super ty) =
    subst IsCountedArg (sym (arg.rolls-Super ty.0)) (super_counts ty.0 ty.1)
arg_step JArg-F.Any = subst IsCountedArg (sym arg.rolls-Any) any_counts

-- parts

args_count : (args : List CountedArg) → list_all (λ a. a) (map is_arg (map (λ e. e.0) args)) ≡ true
    → (depth : ℕ) → CountsAt depth (concat (map arg_text (map (λ e. e.0) args)))
    (flat_map (λ levels. levels depth) (map arg_levels (map (λ e. e.0) args)))
args_count [] right depth = counts_none depth
args_count (a ∷ args) right depth =
    counts_append depth (arg_text a.0) (arg_levels a.0 depth)
    (concat (map arg_text (map (λ e. e.0) args)))
    (flat_map (λ levels. levels depth) (map arg_levels (map (λ e. e.0) args)))
    (a.1 (and_left (is_arg a.0) (list_all (λ a. a) (map is_arg (map (λ e. e.0) args))) right)
    depth)
    (args_count args (and_right (is_arg a.0) (list_all (λ a. a) (map is_arg (map (λ e. e.0) args)))
    right) depth)

arguments_count : (args : List CountedArg)
    → list_all (λ a. a) (map is_arg (map (λ e. e.0) args)) ≡ true → (depth : ℕ)
    → CountsAt depth (args_text (map arg_text (map (λ e. e.0) args)))
    (args_levels (map arg_levels (map (λ e. e.0) args)) depth)
arguments_count [] right depth = counts_none depth
arguments_count (a ∷ args) right depth =
    counts_arguments depth (concat (map arg_text (map (λ e. e.0) (a ∷ args))))
    (flat_map (λ levels. levels (depth + 1)) (map arg_levels (map (λ e. e.0) (a ∷ args))))
    (args_count (a ∷ args) right (depth + 1))

part_step : (y : JPart-F CountedArg CountedType CountedPart)
    → IsCountedPart (roll-JPart (map-JPart CountedArg CountedType CountedPart JArg JType JPart
    (λ e. e.0) (λ e. e.0) (λ e. e.0) y))
part_step y is_name flatly right depth =
    let layer = map-JPart CountedArg CountedType CountedPart JArg JType JPart (λ e. e.0) (λ e. e.0)
    (λ e. e.0) y in
    let form = sym (form_rolled_part layer is_name) ∙ right in
    counts_by depth (layer.name ++ args_text (map arg_text layer.args))
    (flat layer.name ++ args_levels (map arg_levels layer.args) depth)
    (part_text (roll-JPart layer)) (part_levels (roll-JPart layer) depth)
    (text_rolled_part layer) (levels_rolled_part layer depth)
    (counts_append depth layer.name (flat layer.name) (args_text (map arg_text layer.args))
    (args_levels (map arg_levels layer.args) depth)
    (counts_flat depth layer.name
    (flatly layer.name (and_left (is_name layer.name)
    (list_all (λ a. a) (map is_arg layer.args)) form)))
    (arguments_count y.args (and_right (is_name layer.name)
    (list_all (λ a. a) (map is_arg layer.args)) form) depth))

-- types

void_counts : IsCountedType type.Void
void_counts at right depth =
    counts_by depth (86 ∷ []) (0 ∷ []) (type_text type.Void) (type_levels type.Void depth)
    text_void
    (levels_void depth) (λ more. refl)

prim_counts : (letter : ℕ) → IsCountedType (type.Prim letter)
prim_counts letter at right depth =
    let form = and_right (allows_primitive at) (is_primitive letter)
    (sym (form_prim letter at) ∙ right) in
    counts_by depth (letter ∷ []) (0 ∷ []) (type_text (type.Prim letter))
    (type_levels (type.Prim letter) depth) (text_prim letter) (levels_prim letter depth)
    (counts_flat depth (letter ∷ [])
    (and_from (is_flat letter) true (primitive_flat letter form) refl))

var_counts : (name : List ℕ) → IsCountedType (type.Var name)
var_counts name at right depth =
    let form = and_right (allows_variable at) (is_identifier name)
    (sym (form_var name at) ∙ right) in
    counts_by depth (84 ∷ name ++ (59 ∷ [])) (0 ∷ flat name ++ (0 ∷ []))
    (type_text (type.Var name))
    (type_levels (type.Var name) depth) (text_var name) (levels_var name depth)
    (λ more. ap (λ r. 0 ∷ r) (counts_append depth name (flat name) (59 ∷ []) (0 ∷ [])
    (counts_flat depth name (identifier_flat name form)) (λ more. refl) more))

array_counts : (element : JType) (dims : ℕ) → IsCountedType element
    → IsCountedType (type.Array element dims)
array_counts element dims counts at right depth =
    let form = and_right (allows_array at && nat_le 1 dims && nat_lt dims (2 ^ 32))
    (is_type element Element) (sym (form_array element dims at) ∙ right) in
    counts_by depth (replicate dims 91 ++ type_text element)
    (replicate dims 0 ++ type_levels element depth) (type_text (type.Array element dims))
    (type_levels (type.Array element dims) depth) (text_array element dims)
    (levels_array element dims depth)
    (counts_append depth (replicate dims 91) (replicate dims 0) (type_text element)
    (type_levels element depth) (counts_dims depth dims) (counts Element form depth))

later_parts_count : (parts : List CountedPart)
    → list_all (λ part. part is_identifier) (map is_part (map (λ e. e.0) parts)) ≡ true
    → (depth : ℕ) → CountsAt depth
    (flat_map (λ part. codes "." ++ part) (map part_text (map (λ e. e.0) parts)))
    (flat_map (λ part. 0 ∷ part depth) (map part_levels (map (λ e. e.0) parts)))
later_parts_count [] right depth = counts_none depth
later_parts_count (part ∷ parts) right depth =
    counts_append depth (46 ∷ part_text part.0) (0 ∷ part_levels part.0 depth)
    (flat_map (λ part. codes "." ++ part) (map part_text (map (λ e. e.0) parts)))
    (flat_map (λ part. 0 ∷ part depth) (map part_levels (map (λ e. e.0) parts)))
    (λ more. ap (λ r. 0 ∷ r) (part.1 is_identifier identifier_flat
    (and_left (is_part part.0 is_identifier)
    (list_all (λ part. part is_identifier) (map is_part (map (λ e. e.0) parts))) right) depth
    more))
    (later_parts_count parts (and_right (is_part part.0 is_identifier)
    (list_all (λ part. part is_identifier) (map is_part (map (λ e. e.0) parts))) right) depth)

parts_count : (parts : List CountedPart) → are_parts (map is_part (map (λ e. e.0) parts)) ≡ true
    → (depth : ℕ) → CountsAt depth (parts_text (map part_text (map (λ e. e.0) parts)))
    (parts_levels (map part_levels (map (λ e. e.0) parts)) depth)
parts_count [] right depth = counts_none depth
parts_count (part ∷ parts) right depth =
    counts_append depth (part_text part.0) (part_levels part.0 depth)
    (flat_map (λ part. codes "." ++ part) (map part_text (map (λ e. e.0) parts)))
    (flat_map (λ part. 0 ∷ part depth) (map part_levels (map (λ e. e.0) parts)))
    (part.1 is_binary_name binary_name_flat
    (and_left (is_part part.0 is_binary_name)
    (list_all (λ part. part is_identifier) (map is_part (map (λ e. e.0) parts))) right) depth)
    (later_parts_count parts (and_right (is_part part.0 is_binary_name)
    (list_all (λ part. part is_identifier) (map is_part (map (λ e. e.0) parts))) right) depth)

named_counts : (parts : List CountedPart) → IsCountedType (type.Named (map (λ e. e.0) parts))
named_counts parts at right depth =
    let bare : List JPart = map (λ e. e.0) parts in
    counts_by depth (76 ∷ parts_text (map part_text bare) ++ (59 ∷ []))
    (0 ∷ parts_levels (map part_levels bare) depth ++ (0 ∷ [])) (type_text (type.Named bare))
    (type_levels (type.Named bare) depth) (text_named bare) (levels_named bare depth)
    (λ more. ap (λ r. 0 ∷ r) (counts_append depth (parts_text (map part_text bare))
    (parts_levels (map part_levels bare) depth) (59 ∷ []) (0 ∷ [])
    (parts_count parts (sym (form_named bare at) ∙ right) depth) (λ more. refl) more))

type_step : (y : JType-F CountedArg CountedType CountedPart)
    → IsCountedType (roll-JType (map-JType CountedArg CountedType CountedPart JArg JType JPart
    (λ e. e.0) (λ e. e.0) (λ e. e.0) y))
type_step JType-F.Void = subst IsCountedType (sym type.rolls-Void) void_counts
type_step (JType-F.Prim letter) =
    subst IsCountedType (sym (type.rolls-Prim letter)) (prim_counts letter)
type_step (JType-F.Named parts) =
    subst IsCountedType (sym (type.rolls-Named (map (λ e. e.0) parts))) (named_counts parts)
type_step (JType-F.Var name) = subst IsCountedType (sym (type.rolls-Var name)) (var_counts name)
type_step (JType-F.Array element dims) =
    subst IsCountedType (sym (type.rolls-Array element.0 dims))
    (array_counts element.0 dims element.1)

-- each layer comes with a proof beside each part
pub type_counts : (ty : JType) → IsCountedType ty
type_counts = ind-JType IsCountedArg IsCountedType IsCountedPart
    (λ x y is. subst (λ layer. IsCountedArg (roll-JArg layer)) is (arg_step y))
    (λ x y is. subst (λ layer. IsCountedType (roll-JType layer)) is (type_step y))
    (λ x y is. subst (λ layer. IsCountedPart (roll-JPart layer)) is (part_step y))

-- ---- signatures

-- no right type begins with <
abbrev BeginsOtherwise : JType → Type 0
BeginsOtherwise ty =
    (at : Production) → is_type ty at ≡ true → (more : List ℕ)
    → text_levels (type_text ty ++ more) ≡ counted 0 (type_text ty ++ more)

pub type_begins : (ty : JType) → BeginsOtherwise ty
type_begins ty at right more =
    let b = type_front at ty right in
    let whole : type_text ty ++ more
    ≡ b.byte ∷ (b.tail ++ more) = ap (λ (t : List ℕ). t ++ more) b.text in
    ap text_levels whole ∙ ap (λ t. if t then 0 ∷ counted 0 (b.tail ++ more)
    else counted 0 (b.byte ∷ (b.tail ++ more))) (unlike is_type_byte b.byte 60 b.is refl)
    ∙ ap (counted 0) (sym whole)

-- what stands in no type arguments, one after another
each_counts : {X : Type 0} (text levels : X → List ℕ) (test : X → Bool)
    → ((x : X) → test x ≡ true → CountsAt 0 (text x) (levels x)) → (xs : List X)
    → list_all test xs ≡ true → CountsAt 0 (flat_map text xs) (flat_map levels xs)
each_counts text levels test counts [] right = counts_none 0
each_counts text levels test counts (x ∷ xs) right =
    counts_append 0 (text x) (levels x) (flat_map text xs) (flat_map levels xs)
    (counts x (and_left (test x) (list_all test xs) right))
    (each_counts text levels test counts xs (and_right (test x) (list_all test xs) right))

types_count : (at : Production) (types : List JType) → are_types at types ≡ true
    → CountsAt 0 (flat_map type_text types) (flat_map top_levels types)
types_count at =
    each_counts type_text top_levels (λ ty. is_type ty at) (λ ty right. type_counts ty at right 0)

-- a byte before each
marked_count : (mark : ℕ) → is_flat mark ≡ true → (at : Production) (types : List JType)
    → are_types at types ≡ true → CountsAt 0 (flat_map (λ ty. mark ∷ type_text ty) types)
    (flat_map (λ ty. 0 ∷ top_levels ty) types)
marked_count mark flatly at =
    each_counts (λ ty. mark ∷ type_text ty) (λ ty. 0 ∷ top_levels ty) (λ ty. is_type ty at)
    (λ ty right. counts_append 0 (mark ∷ []) (0 ∷ []) (type_text ty) (top_levels ty)
    (counts_flat 0 (mark ∷ []) (and_from (is_flat mark) true flatly refl))
    (type_counts ty at right 0))

bound_counts : (bound : Option JType) → is_class_bound bound ≡ true
    → CountsAt 0 (bound_text bound) (bound_levels bound)
bound_counts None right = counts_none 0
bound_counts (Some bound) right = type_counts bound Reference right 0

param_counts : (param : JParam) → is_param param ≡ true
    → CountsAt 0 (param_text param) (param_levels param)
param_counts param right =
    let named = and_left (is_identifier param.name && is_class_bound param.class_bound)
    (are_types Reference param.interface_bounds) right in
    let interfaces = flat_map (λ bound. codes ":" ++ type_text bound) param.interface_bounds in
    let interface_levels = flat_map (λ bound. 0 ∷ top_levels bound) param.interface_bounds in
    counts_append 0 param.name (flat param.name) (58 ∷ bound_text param.class_bound ++ interfaces)
    (0 ∷ bound_levels param.class_bound ++ interface_levels)
    (counts_flat 0 param.name (identifier_flat param.name
    (and_left (is_identifier param.name) (is_class_bound param.class_bound) named)))
    (λ more. ap (λ r. 0 ∷ r) (counts_append 0 (bound_text param.class_bound)
    (bound_levels param.class_bound) interfaces interface_levels
    (bound_counts param.class_bound
    (and_right (is_identifier param.name) (is_class_bound param.class_bound) named))
    (marked_count 58 refl Reference param.interface_bounds
    (and_right (is_identifier param.name && is_class_bound param.class_bound)
    (are_types Reference param.interface_bounds) right)) more))

whole : (text levels : List ℕ) → CountsAt 0 text levels → levels ≡ counted 0 text
whole text levels counts =
    sym (append-nil levels) ∙ sym (counts []) ∙ ap (counted 0) (append-nil text)

-- type parameters, there or not, and then what begins with no <
params_then : (params : List JParam) (text levels : List ℕ) → list_all is_param params ≡ true
    → text_levels text ≡ counted 0 text → CountsAt 0 text levels
    → params_levels params ++ levels ≡ text_levels (params_text params ++ text)
params_then [] text levels right begins counts = whole text levels counts ∙ sym begins
params_then (param ∷ params) text levels right begins counts =
    let inside = flat_map param_text (param ∷ params) in
    let inside_levels = flat_map param_levels (param ∷ params) in
    ap (λ r. 0 ∷ r) (whole ((inside ++ (62 ∷ [])) ++ text) ((inside_levels ++ (0 ∷ [])) ++ levels)
    (counts_append 0 (inside ++ (62 ∷ [])) (inside_levels ++ (0 ∷ [])) text levels
    (counts_append 0 inside inside_levels (62 ∷ []) (0 ∷ [])
    (each_counts param_text param_levels is_param param_counts (param ∷ params) right)
    (λ more. refl))
    counts))

class_levels : (params : List JParam) (super : JType) (interfaces : List JType)
    → is_signature ClassPlace (OfClass params super interfaces) ≡ true
    → levels (OfClass params super interfaces)
    ≡ text_levels (signature_text (OfClass params super interfaces))
class_levels params super interfaces right =
    let front = and_left (list_all is_param params && is_type super ClassType)
    (are_types ClassType interfaces) right in
    let over = and_right (list_all is_param params) (is_type super ClassType) front in
    params_then params (type_text super ++ flat_map type_text interfaces)
    (top_levels super ++ flat_map top_levels interfaces)
    (and_left (list_all is_param params) (is_type super ClassType) front)
    (type_begins super ClassType over (flat_map type_text interfaces))
    (counts_append 0 (type_text super) (top_levels super) (flat_map type_text interfaces)
    (flat_map top_levels interfaces) (type_counts super ClassType over 0)
    (types_count ClassType interfaces
    (and_right (list_all is_param params && is_type super ClassType)
    (are_types ClassType interfaces) right)))

method_levels : (params : List JParam) (formals : List JType) (ret : JType) (throws : List JType)
    → is_signature MethodPlace (OfMethod params formals ret throws) ≡ true
    → levels (OfMethod params formals ret throws)
    ≡ text_levels (signature_text (OfMethod params formals ret throws))
method_levels params formals ret throws right =
    let before_throws = and_left
    (list_all is_param params && are_types AnyType formals && is_type ret AnyResult)
    (are_types Thrown throws) right in
    let before_ret = and_left (list_all is_param params && are_types AnyType formals)
    (is_type ret AnyResult) before_throws in
    let thrown = flat_map (λ thrown. codes "^" ++ type_text thrown) throws in
    let thrown_levels = flat_map (λ thrown. 0 ∷ top_levels thrown) throws in
    let end_counts : CountsAt 0 (type_text ret ++ thrown) (top_levels ret ++ thrown_levels) =
    counts_append 0 (type_text ret) (top_levels ret) thrown thrown_levels
    (type_counts ret AnyResult (and_right (list_all is_param params && are_types AnyType formals)
    (is_type ret AnyResult) before_throws) 0)
    (marked_count 94 refl Thrown throws
    (and_right (list_all is_param params && are_types AnyType formals && is_type ret AnyResult)
    (are_types Thrown throws) right)) in
    let formals_count : CountsAt 0 (flat_map type_text formals ++ (41 ∷ type_text ret ++ thrown))
    (flat_map top_levels formals ++ (0 ∷ top_levels ret ++ thrown_levels)) =
    counts_append 0 (flat_map type_text formals) (flat_map top_levels formals)
    (41 ∷ type_text ret ++ thrown) (0 ∷ top_levels ret ++ thrown_levels)
    (types_count AnyType formals
    (and_right (list_all is_param params) (are_types AnyType formals) before_ret))
    (λ more. ap (λ r. 0 ∷ r) (end_counts more)) in
    params_then params (40 ∷ flat_map type_text formals ++ (41 ∷ type_text ret ++ thrown))
    (0 ∷ flat_map top_levels formals ++ (0 ∷ top_levels ret ++ thrown_levels))
    (and_left (list_all is_param params) (are_types AnyType formals) before_ret)
    refl (λ more. ap (λ r. 0 ∷ r) (formals_count more))

field_levels : (ty : JType) → is_type ty Reference ≡ true
    → top_levels ty ≡ text_levels (type_text ty)
field_levels ty right =
    whole (type_text ty) (top_levels ty) (type_counts ty Reference right 0)
    ∙ ap (counted 0) (sym (append-nil (type_text ty))) ∙ sym (type_begins ty Reference right [])
    ∙ ap text_levels (append-nil (type_text ty))

pub levels_by_text : (place : SigPlace) (sig : JSig) → IsSignature place sig
    → levels sig ≡ text_levels (signature_text sig)
levels_by_text ClassPlace (OfClass params super interfaces) right =
    class_levels params super interfaces right
levels_by_text MethodPlace (OfMethod params formals ret throws) right =
    method_levels params formals ret throws right
levels_by_text FieldPlace (OfField ty) right = field_levels ty right
levels_by_text ClassPlace (OfMethod params formals ret throws) right = absurd (false≢true right)
levels_by_text ClassPlace (OfField ty) right = absurd (false≢true right)
levels_by_text MethodPlace (OfClass params super interfaces) right = absurd (false≢true right)
levels_by_text MethodPlace (OfField ty) right = absurd (false≢true right)
levels_by_text FieldPlace (OfClass params super interfaces) right = absurd (false≢true right)
levels_by_text FieldPlace (OfMethod params formals ret throws) right = absurd (false≢true right)
