-- Each right value is what its text is taken for: a text has one signature and one descriptor.
use Rattle.std.proofs.Common.{◌≡◌, refl, sym, ap, ◌∙◌, subst, ℕ, zero, suc, ◌+◌, ◌≤◌, ◌==◌, ◌||◌}
use Rattle.std.proofs.Common.{not, Bool, true, false, List, [], ◌∷◌, ◌++◌, length, map, drop}
use Rattle.std.proofs.Common.{replicate, append_assoc, length-append, arith}
use Rattle.std.specs.Prelude.{codes}
use Rattle.std.specs.List.{list_all, flat_map, AllByRecursion}
use Rattle.std.proofs.lemmas.Bool.{false≢true, and_parts}
use Rattle.std.proofs.lemmas.List.Folds.{flat_map-map}
use Rattle.lemmas.proofs.Lists.{concat-map}
use Rattle.java_names.specs.Names.{is_among, is_identifier, is_binary_name}
use Rattle.java_types.specs.declared.production.Production.{Production}
use Rattle.java_types.specs.declared.production.Production.TheVariants.{Reference, Element}
use Rattle.java_types.specs.declared.types.JType.{JType, roll-JType, map-JType, ind-JType}
use Rattle.java_types.specs.declared.types.JType.TheVariants as type
use Rattle.java_types.specs.declared.types.JPart.{JPart, roll-JPart, map-JPart}
use Rattle.java_types.specs.declared.types.JArg.{JArg, roll-JArg, map-JArg}
use Rattle.java_types.specs.declared.types.JArg.TheVariants as arg
use Rattle.java_types.specs.declared.types.JArg.TheOpen.{JType-F, JPart-F, JArg-F}
use Rattle.java_types.specs.Types.{type_text, part_text, arg_text, parts_text, args_text}
use Rattle.java_types.specs.Descriptor.{is_primitive}
use Rattle.java_types.specs.Signature.{is_type, is_part, is_arg, are_parts, allows_variable}
use Rattle.java_types.specs.Fronts.{begins_with, begins_among, ends_name, is_plain_name}
use Rattle.java_types.specs.Trees.{under, marked, enclosed, name, argument, part, parts, element}
use Rattle.java_types.specs.Trees.{arrayed, java_type}
use Rattle.java_types.proofs.Layers.{text_void, text_prim, text_named, text_var, text_array}
use Rattle.java_types.proofs.Layers.{text_rolled_part, text_exact, text_extends, text_super}
use Rattle.java_types.proofs.Layers.{text_any, form_named, form_var, form_rolled_part, form_exact}
use Rattle.java_types.proofs.Layers.{form_extends, form_super}
use Rattle.java_types.proofs.Fronts.{unlike, name_place, identifier_is_plain, binary_is_plain}
use Rattle.java_types.proofs.Fronts.{count_brackets, drop_brackets, is_type_byte, type_begins}
use Rattle.java_types.proofs.Fronts.{element_unlike, type_some, array_parts, prim_parts}
use Rattle.java_types.proofs.Rows.{not_chosen, Taken, many_taken, behind_mark, name_taken}
use Rattle.java_types.proofs.Rows.{enclosed_text, enclosed_taken}

-- whatever follows
abbrev pub Any : List ℕ → Type 0
Any more = Unit {0}

-- ---- a type by its dimensions and what is no array

pub by_dimensions : (ends : ℕ → Bool) (dims : ℕ) (rest : List ℕ) (n : ℕ)
    → begins_with 91 rest ≡ false
    → java_type ends (suc n) (replicate dims 91 ++ rest)
    ≡ (
      arrayed dims
          (element ends (java_type ends n) n rest).0,
      (element ends (java_type ends n) n rest).1,
    )
unfolding java_type
by_dimensions ends dims rest n plain =
    let text = replicate dims 91 ++ rest in
    ap (λ (k : ℕ). (
      arrayed k (element ends (java_type ends n) n (drop k text)).0,
      (element ends
          (java_type ends n) n (drop k text)).1,
    )) (count_brackets dims rest plain)
    ∙ ap (λ (t : List ℕ). (
      arrayed dims
          (element ends (java_type ends n) n t).0,
      (element ends (java_type ends n) n t).1,
    ))
    (drop_brackets dims rest)

-- what a type without its dimensions has to be
pub record Core (ends : ℕ → Bool) (core : JType) (text : List ℕ) : Type 0 where
  pub some : 1 ≤ length text
  pub plain : (more : List ℕ) → begins_with 91 (text ++ more) ≡ false
  pub taken : (n : ℕ) → length text ≤ suc n → (more : List ℕ)
      → element ends (java_type ends n) n (text ++ more) ≡ (core, more)

pub core_taken : (ends : ℕ → Bool) (t : JType) (dims : ℕ) (core : JType) (text : List ℕ)
    → arrayed dims core ≡ t → type_text t ≡ replicate dims 91 ++ text → Core ends core text
    → (n : ℕ) → length (type_text t) ≤ n → (more : List ℕ)
    → java_type ends n (type_text t ++ more) ≡ (t, more)
core_taken ends t dims core text is whole c zero fits more =
    let all = ap length whole in let sum = length-append (replicate dims 91) text in let some
    = c.some in absurd (omega arith)
core_taken ends t dims core text is whole c (suc n) fits more =
    let all = ap length whole in let sum = length-append (replicate dims 91) text in
    ap (λ (s : List ℕ). java_type ends (suc n) (s ++ more)) whole
    ∙ ap (java_type ends (suc n)) (append_assoc (replicate dims 91) text more)
    ∙ by_dimensions ends dims (text ++ more) n (c.plain more)
    ∙ ap (λ (e : JType × List ℕ). (arrayed dims e.0, e.1)) (c.taken n (omega arith) more)
    ∙ ap (λ (u : JType). (u, more)) is

-- a type that is no array
pub plain_taken : (ends : ℕ → Bool) (t : JType) (text : List ℕ) → type_text t ≡ text
    → Core ends t text → (n : ℕ) → length (type_text t) ≤ n → (more : List ℕ)
    → java_type ends n (type_text t ++ more) ≡ (t, more)
plain_taken ends t text whole c n fits more =
    core_taken ends t zero t text refl whole c n fits more

pub array_taken : (ends : ℕ → Bool) (inside : JType) (dims : ℕ) → 1 ≤ dims
    → 1 ≤ length (type_text inside)
    → ((more : List ℕ) → begins_with 91 (type_text inside ++ more) ≡ false)
    → ((n : ℕ) → length (type_text inside) ≤ n → (more : List ℕ)
    → java_type ends n (type_text inside ++ more) ≡ (inside, more))
    → (n : ℕ) → length (type_text (type.Array inside dims)) ≤ n → (more : List ℕ)
    → java_type ends n (type_text (type.Array inside dims) ++ more)
    ≡ (type.Array inside dims, more)
array_taken ends inside dims some filled plain taken n fits more
    = core_taken ends (type.Array inside dims) dims inside (type_text inside) (by dims some)
    (text_array inside dims) core n fits more
  where
    by : (dims : ℕ) → 1 ≤ dims → arrayed dims inside ≡ type.Array inside dims
    by zero some = absurd (omega arith)
    by (suc more) some = refl

    core : Core ends inside (type_text inside)
    core = record {
      some = filled;
      plain = plain;
      taken = λ n fits more. sym (by_dimensions ends zero (type_text inside ++ more) n
          (plain more)) ∙ taken (suc n) fits more;
    }

pub void_core : (ends : ℕ → Bool) → Core ends type.Void (86 ∷ [])
void_core ends = record { some = omega arith; plain = λ more. refl; taken = λ n fits more. refl }

pub prim_core : (ends : ℕ → Bool) (letter : ℕ) → is_primitive letter ≡ true
    → Core ends (type.Prim letter) (letter ∷ [])
prim_core ends letter is = record {
  some = omega arith;
  plain = λ more. unlike is_primitive letter 91 is refl;
  taken = λ n fits more.
      not_chosen (letter == 76) _ _ (unlike is_primitive letter 76 is refl)
      ∙ (not_chosen (letter == 84) _ _ (unlike is_primitive letter 84 is refl)
      ∙ not_chosen (letter == 86) (type.Void, more) (type.Prim letter, more)
      (unlike is_primitive letter 86 is refl));
}

-- ---- types in signatures

abbrev IsTakenType : JType → Type 0
IsTakenType t = (at : Production) → is_type t at ≡ true → (n : ℕ) → length (type_text t) ≤ n
    → (more : List ℕ) → java_type ends_name n (type_text t ++ more) ≡ (t, more)

-- a part, in front of the next one or the end of the class
abbrev Dotted : List ℕ → Type 0
Dotted more = begins_among (codes ".;") more ≡ true

abbrev one_part : ℕ → List ℕ → JPart × List ℕ
one_part n = part ends_name (java_type ends_name n) n

abbrev IsTakenPart : JPart → Type 0
IsTakenPart p = (is_name : List ℕ → Bool)
    → ((name : List ℕ) → is_name name ≡ true → is_plain_name name ≡ true) → is_part p is_name
    ≡ true
    → (n : ℕ) → length (part_text p) ≤ n → (more : List ℕ) → Dotted more
    → one_part n (part_text p ++ more) ≡ (p, more)

abbrev one_argument : ℕ → List ℕ → JArg × List ℕ
one_argument n = argument (java_type ends_name n)

abbrev IsTakenArg : JArg → Type 0
IsTakenArg a = is_arg a ≡ true → (n : ℕ) → length (arg_text a) ≤ n
    → Taken (begins_with 62) (one_argument n) arg_text Any a

abbrev TakenType : Type 0
TakenType = (t : JType) × IsTakenType t

abbrev TakenPart : Type 0
TakenPart = (p : JPart) × IsTakenPart p

abbrev TakenArg : Type 0
TakenArg = (a : JArg) × IsTakenArg a

-- type arguments

exact_chosen : (inner : List ℕ → JType × List ℕ) (b : ℕ) (rest : List ℕ) → b == 42 ≡ false
    → b == 43 ≡ false → b == 45 ≡ false
    → argument inner (b ∷ rest) ≡ under arg.Exact (inner (b ∷ rest))
exact_chosen inner b rest e f g = not_chosen (b == 42) (arg.Any, rest) _ e
    ∙ (not_chosen (b == 43) (under arg.Extends (inner rest)) _ f
    ∙ not_chosen (b == 45) (under arg.Super (inner rest)) _ g)

exact_taken : (t : JType) → IsTakenType t → IsTakenArg (arg.Exact t)
exact_taken t taken right n fits more g =
    let form = sym (form_exact t) ∙ right in
    let b = type_begins Reference t form in
    let text = text_exact t in
    let same : length (arg_text (arg.Exact t)) ≡ length (type_text t) = ap length text in
    let some = type_some Reference t form in
    let whole : arg_text (arg.Exact t) ++ more ≡ b.byte ∷ (b.tail ++ more)
    = ap (λ (s : List ℕ). s ++ more) (text ∙ b.text) in
    let back : b.byte ∷ (b.tail ++ more) ≡ type_text t ++ more
    = ap (λ (s : List ℕ). s ++ more) (sym b.text) in
    record {
      some = omega arith;
      goes_on = ap (begins_with 62) whole ∙ unlike is_type_byte b.byte 62 b.is refl;
      taken = ap (one_argument n) whole
          ∙ exact_chosen (java_type ends_name n) b.byte (b.tail ++ more)
          (unlike is_type_byte b.byte 42 b.is refl) (unlike is_type_byte b.byte 43 b.is refl)
          (unlike is_type_byte b.byte 45 b.is refl)
          ∙ ap (λ (r : JType × List ℕ). under arg.Exact r) (ap (java_type ends_name n) back
          ∙ taken Reference form n (omega arith) more);
      good = tt;
    }

extends_taken : (t : JType) → IsTakenType t → IsTakenArg (arg.Extends t)
extends_taken t taken right n fits more g =
    let same : length (arg_text (arg.Extends t)) ≡ length (43 ∷ type_text t)
    = ap length (text_extends t) in record {
      some = omega arith;
      goes_on = ap (λ (s : List ℕ). begins_with 62 (s ++ more)) (text_extends t);
      taken = ap (λ (s : List ℕ). one_argument n (s ++ more)) (text_extends t)
          ∙ ap (λ (r : JType × List ℕ). under arg.Extends r) (taken Reference (sym (form_extends t)
          ∙ right) n (omega arith) more);
      good = tt;
    }

super_taken : (t : JType) → IsTakenType t → IsTakenArg (arg.Super t)
super_taken t taken right n fits more g =
    let same : length (arg_text (arg.Super t)) ≡ length (45 ∷ type_text t)
    = ap length (text_super t) in record {
      some = omega arith;
      goes_on = ap (λ (s : List ℕ). begins_with 62 (s ++ more)) (text_super t);
      taken = ap (λ (s : List ℕ). one_argument n (s ++ more)) (text_super t)
          ∙ ap (λ (r : JType × List ℕ). under arg.Super r) (taken Reference (sym (form_super t)
          ∙ right) n (omega arith) more);
      good = tt;
    }

any_taken : IsTakenArg arg.Any
any_taken right n fits more g =
    let same : length (arg_text arg.Any) ≡ 1 = ap length text_any in record {
      some = omega arith;
      goes_on = ap (λ (s : List ℕ). begins_with 62 (s ++ more)) text_any;
      taken = ap (λ (s : List ℕ). one_argument n (s ++ more)) text_any;
      good = tt;
    }

arg_step : (y : JArg-F TakenArg TakenType TakenPart)
    → IsTakenArg (roll-JArg
    (map-JArg TakenArg TakenType TakenPart JArg JType JPart (λ e. e.0) (λ e. e.0) (λ e. e.0) y))
arg_step (JArg-F.Exact t) = subst IsTakenArg (sym (arg.rolls-Exact t.0)) (exact_taken t.0 t.1)
arg_step (JArg-F.Extends t) = subst IsTakenArg (sym (arg.rolls-Extends t.0))
    (extends_taken t.0 t.1)
arg_step (JArg-F.Super t) = subst IsTakenArg (sym (arg.rolls-Super t.0)) (super_taken t.0 t.1)
arg_step JArg-F.Any = subst IsTakenArg (sym arg.rolls-Any) any_taken

-- parts

args_as : (args : List JArg) → args_text (map arg_text args) ≡ enclosed_text arg_text args
args_as [] = refl
args_as (a ∷ args) = ap (λ (row : List ℕ). 60 ∷ (row ++ (62 ∷ [])))
    (concat-map arg_text (a ∷ args))

pub inside_fits : {X : Type 0} (text : X → List ℕ) (xs : List X)
    → length (flat_map text xs) ≤ length (enclosed_text text xs)
inside_fits text [] = omega arith
inside_fits text (x ∷ xs) = let sum = length-append (flat_map text (x ∷ xs)) (62 ∷ []) in
    omega arith

args_taken : (n : ℕ) (args : List TakenArg)
    → list_all (λ a. a) (map is_arg (map (λ e. e.0) args)) ≡ true
    → length (flat_map arg_text (map (λ e. e.0) args)) ≤ n
    → AllByRecursion (Taken (begins_with 62) (one_argument n) arg_text Any) (map (λ e. e.0) args)
args_taken n [] right fits = tt
args_taken n (a ∷ args) right fits =
    let p = and_parts (is_arg a.0) (list_all (λ a. a) (map is_arg (map (λ e. e.0) args))) right in
    let sum : length (arg_text a.0 ++ flat_map arg_text (map (λ e. e.0) args))
    ≡ length (arg_text a.0) + length (flat_map arg_text (map (λ e. e.0) args))
    = length-append (arg_text a.0) (flat_map arg_text (map (λ e. e.0) args)) in
    (a.1 p.0 n (omega arith), args_taken n args p.1 (omega arith))

-- of some tests the first two
two_of : (a b c : Bool) → a || (b || false) ≡ true → a || (b || c) ≡ true
two_of true b c e = refl
two_of false true c e = refl
two_of false false c e = absurd (false≢true e)

args_end : (args : List JArg) (more : List ℕ) → Dotted more
    → begins_among (codes ".;[<>:") (enclosed_text arg_text args ++ more) ≡ true
args_end [] [] e = absurd (false≢true e)
args_end [] (b ∷ more) e
    = two_of (46 == b) (59 == b) ((91 == b) || ((60 == b) || ((62 == b) || ((58 == b) || false))))
    e
args_end (a ∷ args) more e = refl

dotted_unlike : (more : List ℕ) → Dotted more → begins_with 60 more ≡ false
dotted_unlike [] e = refl
dotted_unlike (b ∷ more) e = unlike (is_among (codes ".;")) b 60 e refl

part_step : (y : JPart-F TakenArg TakenType TakenPart)
    → IsTakenPart (roll-JPart
    (map-JPart TakenArg TakenType TakenPart JArg JType JPart (λ e. e.0) (λ e. e.0) (λ e. e.0) y))
part_step y is_name plain right n fits more dotted =
    let layer = map-JPart TakenArg TakenType TakenPart JArg JType JPart (λ e. e.0) (λ e. e.0)
    (λ e. e.0) y in
    let form = and_parts (is_name layer.name) (list_all (λ a. a) (map is_arg layer.args)) (sym
    (form_rolled_part layer is_name) ∙ right) in
    let args = enclosed_text arg_text layer.args in
    let text : part_text (roll-JPart layer) ≡ layer.name ++ args = text_rolled_part layer
    ∙ ap (λ (t : List ℕ). layer.name ++ t) (args_as layer.args) in
    let all : length (part_text (roll-JPart layer)) ≡ length (layer.name ++ args)
    = ap length text in
    let sum : length (layer.name ++ args) ≡ length layer.name + length args
    = length-append layer.name args in
    let within = inside_fits arg_text layer.args in
    let whole : part_text (roll-JPart layer) ++ more ≡ layer.name ++ (args ++ more)
    = ap (λ (t : List ℕ). t ++ more) text ∙ append_assoc layer.name args more in
    let named : name ends_name (layer.name ++ (args ++ more)) ≡ (layer.name, args ++ more)
    = name_taken ends_name layer.name (args ++ more) (name_place layer.name (args ++ more)
    (plain layer.name form.0) (args_end layer.args more dotted)) in
    let inside : enclosed (one_argument n) n (args ++ more) ≡ (layer.args, more)
    = enclosed_taken (one_argument n) arg_text Any layer.args n more (omega arith)
    (args_taken n y.args form.1 (omega arith)) tt (λ none. dotted_unlike more dotted) in
    ap (one_part n) whole
    ∙ ap (λ (front : List ℕ × List ℕ). (
      roll-JPart (record {
        name = front.0;
        args = (enclosed (one_argument n) n front.1).0;
      }),
      (enclosed
          (one_argument n) n front.1).1,
    )) named
    ∙ ap (λ (found : List JArg × List ℕ).
    (roll-JPart (record { name = layer.name; args = found.0 }), found.1)) inside

-- classes

abbrev dotted_text : JPart → List ℕ
dotted_text p = 46 ∷ part_text p

later_taken : (n : ℕ) (ps : List TakenPart)
    → list_all (λ part. part is_identifier) (map is_part (map (λ e. e.0) ps)) ≡ true
    → length (flat_map dotted_text (map (λ e. e.0) ps)) ≤ n
    → AllByRecursion (Taken (λ rest. not (begins_with 46 rest))
    (λ rest. one_part n (drop 1 rest)) dotted_text Dotted) (map (λ e. e.0) ps)
later_taken n [] right fits = tt
later_taken n (p ∷ ps) right fits =
    let form = and_parts (is_part p.0 is_identifier) (list_all (λ part. part is_identifier)
    (map is_part (map (λ e. e.0) ps))) right in
    let rest = flat_map dotted_text (map (λ e. e.0) ps) in
    let sum : length (dotted_text p.0 ++ rest) ≡ length (dotted_text p.0) + length rest
    = length-append (dotted_text p.0) rest in (
      behind_mark 46 (one_part n) part_text Dotted p.0 refl
          (λ more dotted. p.1 is_identifier identifier_is_plain form.0 n
          (omega arith) more dotted) (λ more. refl),
      later_taken n ps form.1 (omega arith),
    )

dotted_front : (ps : List JPart) (more : List ℕ) → Dotted (flat_map dotted_text ps ++ (59 ∷ more))
dotted_front [] more = refl
dotted_front (p ∷ ps) more = refl

parts_taken : (n : ℕ) (ps : List TakenPart) → are_parts (map is_part (map (λ e. e.0) ps)) ≡ true
    → length (parts_text (map part_text (map (λ e. e.0) ps))) ≤ n → (more : List ℕ)
    → parts (one_part n) n (parts_text (map part_text (map (λ e. e.0) ps)) ++ (59 ∷ more))
    ≡ (map (λ e. e.0) ps, more)
parts_taken n [] right fits more = absurd (false≢true right)
parts_taken n (p ∷ ps) right fits more =
    let bare : List JPart = map (λ e. e.0) ps in
    let form = and_parts (is_part p.0 is_binary_name) (list_all (λ part. part is_identifier)
    (map is_part bare)) right in
    let rest = flat_map dotted_text bare in
    let same : flat_map (λ part. codes "." ++ part) (map part_text bare) ≡ rest
    = flat_map-map (λ part. codes "." ++ part) part_text bare in
    let all : length (parts_text (map part_text (p.0 ∷ bare))) ≡ length (part_text p.0 ++ rest)
    = ap (λ (t : List ℕ). length (part_text p.0 ++ t)) same in
    let sum : length (part_text p.0 ++ rest) ≡ length (part_text p.0) + length rest
    = length-append (part_text p.0) rest in
    let whole : parts_text (map part_text (p.0 ∷ bare)) ++ (59 ∷ more)
    ≡ part_text p.0 ++ (rest ++ (59 ∷ more))
    = ap (λ (t : List ℕ). (part_text p.0 ++ t) ++ (59 ∷ more)) same
    ∙ append_assoc (part_text p.0) rest (59 ∷ more) in
    let first : one_part n (part_text p.0 ++ (rest ++ (59 ∷ more))) ≡ (p.0, rest ++ (59 ∷ more))
    = p.1 is_binary_name binary_is_plain form.0 n (omega arith) (rest ++
    (59 ∷ more)) (dotted_front bare more) in
    let others : marked 46 (one_part n) n (rest ++ (59 ∷ more)) ≡ (bare, 59 ∷ more)
    = many_taken (λ rest. not (begins_with 46 rest)) (λ rest. one_part n
    (drop 1 rest)) dotted_text Dotted bare n (59 ∷ more) (omega arith)
    (later_taken n ps form.1 (omega arith)) refl refl in
    ap (parts (one_part n) n) whole
    ∙ ap (λ (front : JPart × List ℕ). (
      front.0 ∷ (marked 46 (one_part n) n front.1).0,
      drop 1
          (marked 46 (one_part n) n front.1).1,
    )) first
    ∙ ap (λ (found : List JPart × List ℕ). (p.0 ∷ found.0, drop 1 found.1)) others

named_core : (ps : List TakenPart) → are_parts (map is_part (map (λ e. e.0) ps)) ≡ true
    → Core ends_name (type.Named (map (λ e. e.0) ps)) (76 ∷
    (parts_text (map part_text (map (λ e. e.0) ps)) ++ (59 ∷ [])))
named_core ps right =
    let text = parts_text (map part_text (map (λ e. e.0) ps)) in
    let sum : length (text ++ (59 ∷ [])) ≡ length text + 1 = length-append text (59 ∷ []) in
    record {
      some = omega arith;
      plain = λ more. refl;
      taken = λ n fits more.
          ap (λ (t : List ℕ). under type.Named (parts (one_part n) n t)) (append_assoc text
          (59 ∷ []) more)
          ∙ ap (λ (r : List JPart × List ℕ). under type.Named r) (parts_taken n ps right
          (omega arith) more);
    }

var_core : (v : List ℕ) → is_identifier v ≡ true
    → Core ends_name (type.Var v) (84 ∷ (v ++ (59 ∷ [])))
var_core v form = record {
  some = omega arith;
  plain = λ more. refl;
  taken = λ n fits more.
      ap (λ (t : List ℕ).
      (type.Var (name ends_name t).0, drop 1 (name ends_name t).1))
      (append_assoc v (59 ∷ []) more)
      ∙ ap (λ (front : List ℕ × List ℕ). (type.Var front.0, drop 1 front.1))
      (name_taken ends_name v
      (59 ∷ more) (name_place v (59 ∷ more) (identifier_is_plain v form) refl));
}

type_step : (y : JType-F TakenArg TakenType TakenPart)
    → IsTakenType (roll-JType
    (map-JType TakenArg TakenType TakenPart JArg JType JPart (λ e. e.0) (λ e. e.0) (λ e. e.0) y))
type_step JType-F.Void
    = subst IsTakenType (sym type.rolls-Void) (λ at right. plain_taken ends_name type.Void
    (86 ∷ []) text_void (void_core ends_name))
type_step (JType-F.Prim letter) = subst IsTakenType (sym (type.rolls-Prim letter))
    (λ at right. plain_taken ends_name (type.Prim letter) (letter ∷ []) (text_prim letter)
    (prim_core ends_name letter (prim_parts at letter right).1))
type_step (JType-F.Named ps) = subst IsTakenType (sym (type.rolls-Named (map (λ e. e.0) ps)))
    (λ at right. plain_taken ends_name (type.Named (map (λ e. e.0) ps)) _
    (text_named (map (λ e. e.0) ps)) (named_core ps (sym (form_named (map (λ e. e.0) ps) at)
    ∙ right)))
type_step (JType-F.Var v) = subst IsTakenType (sym (type.rolls-Var v))
    (λ at right. plain_taken ends_name (type.Var v) _ (text_var v)
    (var_core v (and_parts (allows_variable at) (is_identifier v) (sym (form_var v at)
    ∙ right)).1))
type_step (JType-F.Array inside dims) = subst IsTakenType (sym (type.rolls-Array inside.0 dims))
    (λ at right. let p = array_parts at inside.0 dims right in
    array_taken ends_name inside.0 dims p.1 (type_some Element inside.0 p.2)
    (λ more. element_unlike inside.0 more p.2) (inside.1 Element p.2))

-- each layer comes with a proof beside each part
pub type_taken : (t : JType) → IsTakenType t
type_taken = ind-JType IsTakenArg IsTakenType IsTakenPart
    (λ x y is. subst (λ layer. IsTakenArg (roll-JArg layer)) is (arg_step y))
    (λ x y is. subst (λ layer. IsTakenType (roll-JType layer)) is (type_step y))
    (λ x y is. subst (λ layer. IsTakenPart (roll-JPart layer)) is (part_step y))
