-- What is written piece by piece is the text.
use Rattle.std.proofs.Common.{◌≡◌, refl, sym, ap, ◌∙◌, ℕ, ◌+◌, ◌-◌, ◌<◌, ◌≤◌, ◌==◌, false, List}
use Rattle.std.proofs.Common.{[], ◌∷◌, ◌++◌, length, get_or, take, map, replicate, append_assoc}
use Rattle.std.proofs.Common.{append-nil, take_all, arith}
use Rattle.std.specs.Prelude.{codes}
use Rattle.std.specs.List.{flat_map}
use Rattle.std.proofs.lemmas.Bool.{false≢true}
use Rattle.std.proofs.lemmas.List.{take_more}
use Rattle.std.proofs.lemmas.List.Concat.{flat_map-append}
use Rattle.std.proofs.lemmas.List.Folds.{flat_map-map}
use Rattle.lemmas.proofs.Lists.{concat-map}
use Rattle.java_types.specs.declared.types.JType.{JType}
use Rattle.java_types.specs.declared.types.JPart.{JPart, out-JPart}
use Rattle.java_types.specs.declared.types.JArg.{JArg}
use Rattle.java_types.specs.declared.types.JParam.{JParam}
use Rattle.java_types.specs.declared.types.JType.TheVariants as type
use Rattle.java_types.specs.declared.types.JArg.TheVariants as arg
use Rattle.java_types.specs.Types.{type_text, part_text, arg_text, parts_text, args_text}
use Rattle.java_types.specs.Types.{param_text, params_text}
use Rattle.java_types.proofs.Layers.{text_void, text_prim, text_named, text_var, text_array}
use Rattle.java_types.proofs.Layers.{text_exact, text_extends, text_super, text_any, text_part}

-- ---- pieces, one after another

pub two_written : (old first second one all text : List ℕ) → one ≡ old ++ first
    → all ≡ one ++ second → text ≡ first ++ second → all ≡ old ++ text
two_written old first second one all text e f is =
    f ∙ ap (λ r. r ++ second) e ∙ append_assoc old first second ∙ ap (λ r. old ++ r) (sym is)

pub three_written : (old first second third one two all text : List ℕ) → one ≡ old ++ first
    → two ≡ one ++ second → all ≡ two ++ third → text ≡ first ++ (second ++ third)
    → all ≡ old ++ text
three_written old first second third one two all text e f g is =
    two_written old first (second ++ third) one all text e
    (two_written one second third two all (second ++ third) f g refl) is

-- ---- the items of a list

-- a loop that has written the pieces of the first items, and writes that of the next
pub one_more : {X : Type 0} (text : X → List ℕ) (i : ℕ) (xs : List X) (x : X)
    (start before after : List ℕ) → i < length xs → x ≡ get_or xs i x
    → before ≡ start ++ flat_map text (take i xs) → after ≡ before ++ text x
    → after ≡ start ++ flat_map text (take (i + 1) xs)
one_more text i xs x start before after within is so_far now =
    two_written start (flat_map text (take i xs)) (text x) before after
    (flat_map text (take (i + 1) xs)) so_far now next
  where
    next : flat_map text (take (i + 1) xs) ≡ flat_map text (take i xs) ++ text x
    next =
        ap (flat_map text) (take_more xs i x within)
        ∙ flat_map-append text (take i xs) (get_or xs i x ∷ [])
        ∙ ap (λ r. flat_map text (take i xs) ++ r)
        (append-nil (text (get_or xs i x)) ∙ ap text (sym is))

pub all_written : {X : Type 0} (text : X → List ℕ) (i : ℕ) (xs : List X) (start all : List ℕ)
    → length xs ≤ i → all ≡ start ++ flat_map text (take i xs) → all ≡ start ++ flat_map text xs
all_written text i xs start all end so_far =
    so_far ∙ ap (λ items. start ++ flat_map text items) (take_all i xs end)

-- the parts of a class
pub parts_written : (first : JPart) (later : List JPart) (old one all : List ℕ)
    → one ≡ old ++ part_text first → all ≡ one ++ flat_map (λ part. 46 ∷ part_text part) later
    → all ≡ old ++ parts_text (map part_text (first ∷ later))
parts_written first later old one all e f =
    two_written old (part_text first) (flat_map (λ part. 46 ∷ part_text part) later) one all
    (parts_text (map part_text (first ∷ later))) e f
    (ap (λ r. part_text first ++ r) (flat_map-map (λ part. 46 ∷ part) part_text later))

pub part_written : (part : JPart) (old one all : List ℕ) → one ≡ old ++ (out-JPart part).name
    → all ≡ one ++ args_text (map arg_text (out-JPart part).args) → all ≡ old ++ part_text part
part_written part old one all e f =
    two_written old (out-JPart part).name (args_text (map arg_text (out-JPart part).args)) one all
    (part_text part) e f (text_part part)

-- type arguments or type parameters, of which there are some
pub args_written : (args : List JArg) (old one two all : List ℕ) → (length args == 0) ≡ false
    → one ≡ old ++ (60 ∷ []) → two ≡ one ++ flat_map arg_text args → all ≡ two ++ (62 ∷ [])
    → all ≡ old ++ args_text (map arg_text args)
args_written [] old one two all some e f g = absurd (false≢true (sym some))
args_written (a ∷ args) old one two all some e f g =
    three_written old (60 ∷ []) (flat_map arg_text (a ∷ args)) (62 ∷ []) one two all
    (args_text (map arg_text (a ∷ args))) e f g
    (ap (λ r. 60 ∷ (r ++ (62 ∷ []))) (concat-map arg_text (a ∷ args)))

pub params_written : (params : List JParam) (old one two all : List ℕ)
    → (length params == 0) ≡ false → one ≡ old ++ (60 ∷ [])
    → two ≡ one ++ flat_map param_text params → all ≡ two ++ (62 ∷ [])
    → all ≡ old ++ params_text params
params_written [] old one two all some e f g = absurd (false≢true (sym some))
params_written (p ∷ params) old one two all some e f g =
    three_written old (60 ∷ []) (flat_map param_text (p ∷ params)) (62 ∷ []) one two all
    (params_text (p ∷ params)) e f g refl

-- ---- types and type arguments

pub void_written : (ty : JType) (old all : List ℕ) → ty ≡ type.Void → all ≡ old ++ (86 ∷ [])
    → all ≡ old ++ type_text ty
void_written ty old all is e = e ∙ ap (λ r. old ++ r) (sym (ap type_text is ∙ text_void))

pub prim_written : (ty : JType) (letter : ℕ) (old all : List ℕ) → ty ≡ type.Prim letter
    → all ≡ old ++ (letter ∷ []) → all ≡ old ++ type_text ty
prim_written ty letter old all is e =
    e ∙ ap (λ r. old ++ r) (sym (ap type_text is ∙ text_prim letter))

pub named_written : (ty : JType) (parts : List JPart) (old one two all : List ℕ)
    → ty ≡ type.Named parts → one ≡ old ++ (76 ∷ []) →
    two ≡ one ++ parts_text (map part_text parts)
    → all ≡ two ++ (59 ∷ []) → all ≡ old ++ type_text ty
named_written ty parts old one two all is e f g =
    three_written old (76 ∷ []) (parts_text (map part_text parts)) (59 ∷ []) one two all
    (type_text ty) e f g (ap type_text is ∙ text_named parts)

pub var_written : (ty : JType) (name old all : List ℕ) → ty ≡ type.Var name
    → all ≡ old ++ (codes "T" ++ (name ++ codes ";")) → all ≡ old ++ type_text ty
var_written ty name old all is e = e ∙ ap (λ r. old ++ r) (sym (ap type_text is ∙ text_var name))

pub array_written : (ty element : JType) (dims : ℕ) (old one all : List ℕ)
    → ty ≡ type.Array element dims → one ≡ old ++ replicate dims 91 →
    all ≡ one ++ type_text element
    → all ≡ old ++ type_text ty
array_written ty element dims old one all is e f =
    two_written old (replicate dims 91) (type_text element) one all (type_text ty) e f
    (ap type_text is ∙ text_array element dims)

pub brackets_written : (dims len size : ℕ) (old all : List ℕ) → size ≡ length old → len ≡ size
    → all ≡ take (len + dims) old ++ replicate (len + dims - size) 91
    → all ≡ old ++ replicate dims 91
brackets_written dims len size old all sized at e =
    e ∙ ap (λ r. r ++ replicate (len + dims - size) 91) (take_all (len + dims) old (omega arith))
    ∙ ap (λ n. old ++ replicate n 91) fill
  where
    fill : len + dims - size ≡ dims
    fill = omega arith

pub exact_written : (a : JArg) (ty : JType) (old all : List ℕ) → a ≡ arg.Exact ty
    → all ≡ old ++ type_text ty → all ≡ old ++ arg_text a
exact_written a ty old all is e = e ∙ ap (λ r. old ++ r) (sym (ap arg_text is ∙ text_exact ty))

pub extends_written : (a : JArg) (ty : JType) (old one all : List ℕ) → a ≡ arg.Extends ty
    → one ≡ old ++ (43 ∷ []) → all ≡ one ++ type_text ty → all ≡ old ++ arg_text a
extends_written a ty old one all is e f =
    two_written old (43 ∷ []) (type_text ty) one all (arg_text a) e f
    (ap arg_text is ∙ text_extends ty)

pub super_written : (a : JArg) (ty : JType) (old one all : List ℕ) → a ≡ arg.Super ty
    → one ≡ old ++ (45 ∷ []) → all ≡ one ++ type_text ty → all ≡ old ++ arg_text a
super_written a ty old one all is e f =
    two_written old (45 ∷ []) (type_text ty) one all (arg_text a) e f
    (ap arg_text is ∙ text_super ty)

pub any_written : (a : JArg) (old all : List ℕ) → a ≡ arg.Any → all ≡ old ++ (42 ∷ [])
    → all ≡ old ++ arg_text a
any_written a old all is e = e ∙ ap (λ r. old ++ r) (sym (ap arg_text is ∙ text_any))
