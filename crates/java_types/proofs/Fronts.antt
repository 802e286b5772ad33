-- Names, dimensions and types at the front of a text.
use Rattle.std.proofs.Common.{◌≡◌, refl, sym, ap, ◌∙◌, ℕ, ◌+◌, ◌==◌, ◌&&◌, ◌||◌, ◌^◌, ◌≤◌, not}
use Rattle.std.proofs.Common.{Bool, true, false, cond, List, [], ◌∷◌, ◌++◌, length, map, drop}
use Rattle.std.proofs.Common.{replicate, append_assoc, subst, arith, zero, suc}
use Rattle.std.specs.Prelude.{codes, nat_le, nat_lt}
use Rattle.std.specs.List.{list_all, flat_map, position_or_len, prefix_len, slice_split}
use Rattle.std.specs.List.{onto_first}
use Rattle.std.proofs.lemmas.Bool.{false≢true, eqb-true, eq-eqb, and_parts, leb-true}
use Rattle.std.proofs.Math.Seq.{drop-append_seam}
use Rattle.java_names.specs.Names.{is_among, is_unqualified, is_class_name, is_identifier}
use Rattle.java_names.specs.Names.{is_binary_name}
use Rattle.java_types.specs.declared.production.Production.{Production}
use Rattle.java_types.specs.declared.production.Production.TheVariants.{Reference, Element}
use Rattle.java_types.specs.declared.types.JType.{JType, roll-JType, out-JType, roll-out-JType}
use Rattle.java_types.specs.declared.types.JType.TheVariants as type
use Rattle.java_types.specs.declared.types.JPart.{JPart, out-JPart}
use Rattle.java_types.specs.declared.types.JArg.{JArg}
use Rattle.java_types.specs.declared.types.JArg.TheOpen.{JType-F}
use Rattle.java_types.specs.Types.{type_text, part_text, arg_text, parts_text, args_text}
use Rattle.java_types.specs.Descriptor.{is_primitive}
use Rattle.java_types.specs.Signature.{is_type, is_part, is_arg, are_parts, allows_primitive}
use Rattle.java_types.specs.Signature.{allows_variable, allows_array}
use Rattle.java_types.specs.Fronts.{begins_with, begins_among, ends_name, is_plain_name}
use Rattle.java_types.specs.Fronts.{behind_name, is_before_type}
use Rattle.java_types.specs.Trees.{ends_class}
use Rattle.java_types.proofs.Layers.{text_void, text_prim, text_named, text_var, text_array}
use Rattle.java_types.proofs.Layers.{text_part, form_void, form_prim, form_named, form_var}
use Rattle.java_types.proofs.Layers.{form_array, form_part}

-- a byte that passes is none that doesn't
pub unlike : (test : ℕ → Bool) (b c : ℕ) → test b ≡ true → test c ≡ false → b == c ≡ false
unlike test b c passes fails = by (b == c) refl
  where
    by : (t : Bool) → b == c ≡ t → t ≡ false
    by true e = absurd (false≢true (sym fails ∙ ap test (sym (eqb-true b c e)) ∙ passes))
    by false e = refl

-- ---- names

-- the place of the first byte that passes, where bytes that don't are in front of one that does
pub place_behind : (p : ℕ → Bool) (front more : List ℕ) → list_all (λ b. not (p b)) front ≡ true
    → position_or_len p more ≡ 0 → position_or_len p (front ++ more) ≡ length front
place_behind p [] more all z = z
place_behind p (b ∷ front) more all z =
    let h = and_parts (not (p b)) (list_all (λ b. not (p b)) front) all in
    let k = place_behind p front more h.1 z in
    ap (λ t. cond t (1 + position_or_len p (front ++ more)) 0) h.0 ∙ omega (arith, k)

pub stopped : (p : ℕ → Bool) (b : ℕ) (more : List ℕ) → p b ≡ true → position_or_len p (b ∷ more)
    ≡ 0
stopped p b more e = ap (λ t. cond (not t) (1 + position_or_len p more) 0) e

stop_among : (more : List ℕ)
    → begins_among (codes ".;[<>:") more ≡ true → position_or_len ends_name more ≡ 0
stop_among [] e = absurd (false≢true e)
stop_among (b ∷ more) e = stopped ends_name b more e

pub name_place : (name more : List ℕ) → is_plain_name name ≡ true
    → begins_among (codes ".;[<>:") more ≡ true
    → position_or_len ends_name (name ++ more) ≡ length name
name_place name more plain stops = place_behind ends_name name more plain (stop_among more stops)

-- behind a name, the byte that ends it
pub name_passed : (name more : List ℕ) → is_plain_name name ≡ true
    → begins_among (codes ".;[<>:") more ≡ true → behind_name (name ++ more) ≡ more
name_passed name more plain stops
    = ap (λ n. drop n (name ++ more)) (name_place name more plain stops)
    ∙ drop-append_seam name more

pub weaker : {X : Type 0} (p q : X → Bool) → ((x : X) → p x ≡ true → q x ≡ true) → (xs : List X)
    → list_all p xs ≡ true → list_all q xs ≡ true
weaker p q h [] all = refl
weaker p q h (x ∷ xs) all =
    let k = and_parts (p x) (list_all p xs) all in
    ap (λ t. t && list_all q xs) (h x k.0) ∙ weaker p q h xs k.1

-- of seven tests, the fourth left out
but_fourth : (a b c d e f g : Bool)
    → not (a || (b || (c || (d || (e || (f || (g || false))))))) ≡ true
    → not (a || (b || (c || (e || (f || (g || false)))))) ≡ true
but_fourth true b c d e f g h = absurd (false≢true h)
but_fourth false true c d e f g h = absurd (false≢true h)
but_fourth false false true d e f g h = absurd (false≢true h)
but_fourth false false false true e f g h = absurd (false≢true h)
but_fourth false false false false e f g h = h

-- a byte that no identifier has but / ends no name
plain_byte : (b : ℕ) → not (is_among (codes ".;[/<>:") b) ≡ true → not (ends_name b) ≡ true
plain_byte b e = but_fourth (46 == b) (59 == b) (91 == b) (47 == b) (60 == b) (62 == b) (58 == b) e

pub identifier_is_plain : (name : List ℕ) → is_identifier name ≡ true → is_plain_name name ≡ true
identifier_is_plain name e
    = weaker (λ b. not (is_among (codes ".;[/<>:") b)) (λ b. not (ends_name b)) plain_byte name
    (and_parts (not (length name == 0))
    (list_all (λ b. not (is_among (codes ".;[/<>:") b)) name) e).1

-- bytes that pass in each part of a name pass in the whole
pub uncut : (test : ℕ → Bool) → test 47 ≡ true → (name : List ℕ)
    → list_all (list_all test) (slice_split (λ b. b == 47) name) ≡ true → list_all test name ≡ true
uncut test slash [] all = refl
uncut test slash (b ∷ bytes) all = by (b == 47) refl all (uncut test slash bytes) where
  onto : (parts : List (List ℕ)) → list_all (list_all test) (onto_first b parts) ≡ true
      → (test b ≡ true) × (list_all (list_all test) parts ≡ true)
  onto [] h = ((and_parts (test b) true (and_parts (test b && true) true h).0).0, refl)
  onto (part ∷ parts) h =
      let k = and_parts (list_all test (b ∷ part)) (list_all (list_all test) parts) h in
      let l = and_parts (test b) (list_all test part) k.0 in
      (l.0, ap (λ t. t && list_all (list_all test) parts) l.1 ∙ k.1)

  by : (t : Bool) → (b == 47) ≡ t
      → list_all (list_all test) (cond t ([] ∷ slice_split (λ b. b == 47) bytes)
      (onto_first b (slice_split (λ b. b == 47) bytes))) ≡ true
      → (list_all (list_all test) (slice_split (λ b. b == 47) bytes) ≡ true
      → list_all test bytes ≡ true) → list_all test (b ∷ bytes) ≡ true
  by true e h k = ap (λ x. test x && list_all test bytes) (eqb-true b 47 e)
      ∙ ap (λ t. t && list_all test bytes) slash ∙ k h
  by false e h k = let o = onto (slice_split (λ b. b == 47) bytes) h in
      ap (λ t. t && list_all test bytes) o.0 ∙ k o.1

pub binary_is_plain : (name : List ℕ) → is_binary_name name ≡ true → is_plain_name name ≡ true
binary_is_plain name e
    = uncut (λ b. not
    (ends_name b)) refl name
    (weaker is_identifier is_plain_name identifier_is_plain (slice_split (λ b. b == 47) name) e)

-- the name of a class in a descriptor ends before its ;
class_byte : (a b c d : Bool) → not (a || (b || (c || (d || false)))) ≡ true → not b ≡ true
class_byte true b c d e = absurd (false≢true e)
class_byte false true c d e = absurd (false≢true e)
class_byte false false c d e = refl

turned : (a b : ℕ) (t : Bool) → a == b ≡ t → b == a ≡ t
turned a b true e = eq-eqb b a (sym (eqb-true a b e))
turned a b false e = by (b == a) refl
  where
    by : (t : Bool) → b == a ≡ t → t ≡ false
    by true f = absurd (false≢true (sym e ∙ eq-eqb a b (sym (eqb-true b a f))))
    by false f = refl

no_end : (b : ℕ) → not (is_among (codes ".;[/") b) ≡ true → not (ends_class b) ≡ true
no_end b e = ap not (turned 59 b (59 == b) refl)
    ∙ class_byte (46 == b) (59 == b) (91 == b) (47 == b) e

part_is_open : (name : List ℕ) → is_unqualified name ≡ true
    → list_all (λ b. not (ends_class b)) name ≡ true
part_is_open name e
    = weaker (λ b. not (is_among (codes ".;[/") b)) (λ b. not (ends_class b)) no_end name
    (and_parts (not (length name == 0)) (list_all (λ b. not (is_among (codes ".;[/") b)) name) e).1

pub class_name_place : (name more : List ℕ) → is_class_name name ≡ true
    → position_or_len ends_class (name ++ (59 ∷ more)) ≡ length name
class_name_place name more form =
    place_behind ends_class name (59 ∷ more)
    (uncut (λ b. not (ends_class b)) refl name
    (weaker is_unqualified (list_all (λ b. not (ends_class b))) part_is_open
    (slice_split (λ b. b == 47) name) form))
    (stopped ends_class 59 more refl)

-- the first byte of an identifier is none that it can't have
pub name_unlike : (x : ℕ) (name more : List ℕ)
    → is_among (codes ".;[/<>:") x ≡ true → is_identifier name ≡ true
    → begins_with x (name ++ more) ≡ false
name_unlike x [] more among form = absurd (false≢true form)
name_unlike x (b ∷ name) more among form
    = unlike (λ c. not (is_among (codes ".;[/<>:") c)) b x first (ap not among) where
      first : not (is_among (codes ".;[/<>:") b) ≡ true
      first = (and_parts
          (not (is_among (codes ".;[/<>:") b))
          (list_all (λ c. not (is_among (codes ".;[/<>:") c)) name)
          (and_parts (not (length (b ∷ name) == 0))
          (list_all (λ c. not (is_among (codes ".;[/<>:") c)) (b ∷ name)) form).1).0

-- ---- dimensions

pub count_brackets : (dims : ℕ) (more : List ℕ) → begins_with 91 more ≡ false
    → prefix_len (λ b. b == 91) (replicate dims 91 ++ more) ≡ dims
count_brackets zero [] e = refl
count_brackets zero (b ∷ more) e = ap (λ t. cond t (1 + prefix_len (λ b. b == 91) more) 0) e
count_brackets (suc dims) more e = let h = count_brackets dims more e in omega (arith, h)

pub drop_brackets : (dims : ℕ) (more : List ℕ) → drop dims (replicate dims 91 ++ more) ≡ more
drop_brackets zero more = refl
drop_brackets (suc dims) more = drop_brackets dims more

-- ---- types

abbrev pub is_type_byte : ℕ → Bool
is_type_byte b = is_primitive b || is_among (codes "VLT[") b

-- how the text of a right type begins
pub record TypeBegins (at : Production) (t : JType) : Type 0 where
  pub byte : ℕ
  pub tail : List ℕ
  pub text : type_text t ≡ byte ∷ tail
  pub is : is_type_byte byte ≡ true
  pub no_array : allows_array at ≡ false → byte == 91 ≡ false

-- a fact on each right type, from the kinds of types
pub of_kinds : (at : Production) (Fact : JType → Type 0)
    → (is_type type.Void at ≡ true → Fact type.Void)
    → ((letter : ℕ) → is_type (type.Prim letter) at ≡ true → Fact (type.Prim letter))
    → ((parts : List JPart) → is_type (type.Named parts) at ≡ true → Fact (type.Named parts))
    → ((name : List ℕ) → is_type (type.Var name) at ≡ true → Fact (type.Var name))
    → ((element : JType) (dims : ℕ) → is_type (type.Array element dims) at ≡ true
    → Fact (type.Array element dims))
    → (t : JType) → is_type t at ≡ true → Fact t
of_kinds at Fact void prim named var array t = subst (λ u. is_type u at ≡ true
    → Fact u) (roll-out-JType t) (by (out-JType t))
  where
    by : (layer : JType-F JArg JType JPart) → is_type (roll-JType layer) at ≡ true
        → Fact (roll-JType layer)
    by JType-F.Void = subst (λ u. is_type u at ≡ true → Fact u) (sym type.rolls-Void) void
    by (JType-F.Prim letter) = subst (λ u. is_type u at ≡ true
        → Fact u) (sym (type.rolls-Prim letter)) (prim letter)
    by (JType-F.Named parts) = subst (λ u. is_type u at ≡ true
        → Fact u) (sym (type.rolls-Named parts)) (named parts)
    by (JType-F.Var name) = subst (λ u. is_type u at ≡ true
        → Fact u) (sym (type.rolls-Var name)) (var name)
    by (JType-F.Array element dims) = subst (λ u. is_type u at ≡ true
        → Fact u) (sym (type.rolls-Array element dims)) (array element dims)

pub array_parts : (at : Production) (element : JType) (dims : ℕ)
    → is_type (type.Array element dims) at ≡ true
    → (allows_array at ≡ true) × (1 ≤ dims) × (is_type element Element ≡ true)
array_parts at element dims right =
    let all = and_parts (allows_array at && nat_le 1 dims && nat_lt dims
    (2 ^ 32)) (is_type element Element) (sym (form_array element dims at) ∙ right) in
    let front = and_parts (allows_array at && nat_le 1 dims) (nat_lt dims (2 ^ 32)) all.0 in
    let first = and_parts (allows_array at) (nat_le 1 dims) front.0 in
    (first.0, leb-true 1 dims first.1, all.1)

pub prim_parts : (at : Production) (letter : ℕ) → is_type (type.Prim letter) at ≡ true
    → (allows_primitive at ≡ true) × (is_primitive letter ≡ true)
prim_parts at letter right
    = and_parts (allows_primitive at) (is_primitive letter) (sym (form_prim letter at) ∙ right)

pub type_begins : (at : Production) (t : JType) → is_type t at ≡ true → TypeBegins at t
type_begins at = of_kinds at (TypeBegins at)
    (λ right. record {
      byte = 86;
      tail = [];
      text = text_void;
      is = refl;
      no_array =
          λ none. refl;
    })
    (λ letter right. let primitive = (prim_parts at letter right).1 in
    record {
      byte = letter;
      tail = [];
      text = text_prim letter;
      is = ap (λ t. t || is_among (codes "VLT[") letter) primitive;
      no_array = λ none. unlike is_primitive letter 91 primitive refl;
    })
    (λ parts right. record {
      byte = 76;
      tail = parts_text (map part_text parts) ++ (59 ∷ []);
      text = text_named parts;
      is = refl;
      no_array = λ none. refl;
    })
    (λ name right. record {
      byte = 84;
      tail = name ++ (59 ∷ []);
      text = text_var name;
      is = refl;
      no_array = λ none. refl;
    })
    (λ element dims right. let p = array_parts at element dims right in array element dims p.0 p.1)
  where
    array : (element : JType) (dims : ℕ) → allows_array at ≡ true → 1 ≤ dims
        → TypeBegins at (type.Array element dims)
    array element zero allowed some = absurd (omega arith)
    array element (suc more) allowed some = record {
      byte = 91;
      tail = replicate more 91 ++ type_text element;
      text = text_array element (suc more);
      is = refl;
      no_array = λ none. absurd (false≢true (sym none ∙ allowed));
    }

-- a right type begins with no other byte
pub type_unlike : (at : Production) (t : JType) (c : ℕ) (more : List ℕ) → is_type t at ≡ true
    → is_type_byte c ≡ false → begins_with c (type_text t ++ more) ≡ false
type_unlike at t c more right none = let b = type_begins at t right in
    ap (λ text. begins_with c (text ++ more)) b.text ∙ unlike is_type_byte b.byte c b.is none

-- the element of an array begins with no [
pub element_unlike : (t : JType) (more : List ℕ) → is_type t Element ≡ true
    → begins_with 91 (type_text t ++ more) ≡ false
element_unlike t more right = let b = type_begins Element t right in
    ap (λ text. begins_with 91 (text ++ more)) b.text ∙ b.no_array refl

pub type_some : (at : Production) (t : JType) → is_type t at ≡ true → 1 ≤ length (type_text t)
type_some at t right = let b = type_begins at t right in
    let e : length (type_text t) ≡ length (b.byte ∷ b.tail) = ap length b.text in omega arith

-- ---- whether a type is ahead

-- by its parts
ahead : (x y z : Bool) → y ≡ true → z ≡ false → (x || (y && not z)) ≡ true
ahead true y z e f = refl
ahead false true true e f = absurd (false≢true (sym f))
ahead false true false e f = refl
ahead false false z e f = absurd (false≢true e)

not_ahead : (x y z : Bool) → x ≡ false → z ≡ true → (x || (y && not z)) ≡ false
not_ahead true y z e f = absurd (false≢true (sym e))
not_ahead false true true e f = refl
not_ahead false false true e f = refl
not_ahead false y false e f = absurd (false≢true f)

-- none stands at the name of the next parameter
pub name_ahead : (name more : List ℕ) → is_identifier name ≡ true
    → is_before_type (name ++ (58 ∷ more)) ≡ false
name_ahead name more form =
    let whole = name ++ (58 ∷ more) in
    not_ahead (begins_with 91 whole) (begins_with 76 whole || begins_with 84 whole) (begins_with 58
    (behind_name whole))
    (name_unlike 91 name (58 ∷ more) refl form)
    (ap (begins_with 58) (name_passed name (58 ∷ more) (identifier_is_plain name form) refl))

-- what stands behind the name of a class
record Follows (text : List ℕ) : Type 0 where
  ends : begins_among (codes ".;[<>:") text ≡ true
  no_colon : begins_with 58 text ≡ false

follows : (args : List JArg) (later : List JPart) (more : List ℕ)
    → Follows (args_text (map arg_text args) ++
    (flat_map (λ part. codes "." ++ part) (map part_text later) ++ (59 ∷ more)))
follows [] [] more = record { ends = refl; no_colon = refl }
follows [] (part ∷ later) more = record { ends = refl; no_colon = refl }
follows (a ∷ args) later more = record { ends = refl; no_colon = refl }

named_ahead : (parts : List JPart) (more : List ℕ) → are_parts (map is_part parts) ≡ true
    → is_before_type (76 ∷ (parts_text (map part_text parts) ++ (59 ∷ more))) ≡ true
named_ahead [] more right = absurd (false≢true right)
named_ahead (part ∷ later) more right =
    let layer = out-JPart part in
    let rest = flat_map (λ part. codes "." ++ part) (map part_text later) in
    let args = args_text (map arg_text layer.args) in
    let right_part
    = (and_parts (is_part part is_binary_name)
    (list_all (λ part. part is_identifier) (map is_part later)) right).0 in
    let right_name
    = (and_parts (is_binary_name layer.name) (list_all (λ a. a) (map is_arg layer.args))
    (sym (form_part part is_binary_name) ∙ right_part)).0 in
    let behind = args ++ (rest ++ (59 ∷ more)) in
    let f = follows layer.args later more in
    let whole : 76 ∷ ((part_text part ++ rest) ++ (59 ∷ more)) ≡ (76 ∷ layer.name) ++ behind =
    ap (λ (t : List ℕ). 76 ∷ ((t ++ rest) ++ (59 ∷ more))) (text_part part)
    ∙ ap (λ (t : List ℕ). 76 ∷ t) (append_assoc (layer.name ++ args) rest (59 ∷ more)
    ∙ append_assoc layer.name args (rest ++ (59 ∷ more))) in
    ap is_before_type whole
    ∙ ahead false true (begins_with 58 (behind_name ((76 ∷ layer.name) ++ behind))) refl
    (ap (begins_with 58)
    (name_passed (76 ∷ layer.name) behind (binary_is_plain layer.name right_name) f.ends)
    ∙ f.no_colon)

-- a type stands where a reference type does
pub type_ahead : (t : JType) (more : List ℕ) → is_type t Reference ≡ true
    → is_before_type (type_text t ++ more) ≡ true
type_ahead t more = of_kinds Reference (λ u. is_before_type (type_text u ++ more) ≡ true)
    (λ right. absurd (false≢true (sym (form_void Reference) ∙ right)))
    (λ letter right. absurd (false≢true (prim_parts Reference letter right).0))
    (λ parts right. ap (λ (text : List ℕ). is_before_type (text ++ more)) (text_named parts)
    ∙ ap (λ (text : List ℕ). is_before_type (76 ∷ text)) (append_assoc
    (parts_text (map part_text parts)) (59 ∷ []) more)
    ∙ named_ahead parts more (sym (form_named parts Reference) ∙ right))
    (λ name right. ap (λ (text : List ℕ). is_before_type (text ++ more)) (text_var name)
    ∙ ap (λ (text : List ℕ). is_before_type (84 ∷ text)) (append_assoc name (59 ∷ []) more)
    ∙ ahead false true (begins_with 58 (behind_name ((84 ∷ name) ++ (59 ∷ more)))) refl
    (ap (begins_with 58)
    (name_passed (84 ∷ name) (59 ∷ more)
    (identifier_is_plain name
    (and_parts (allows_variable Reference) (is_identifier name) (sym (form_var name Reference)
    ∙ right)).1) refl)))
    (λ element dims right. let p = array_parts Reference element dims right in
    array element dims p.1)
    t
  where
    array : (element : JType) (dims : ℕ) → 1 ≤ dims
        → is_before_type (type_text (type.Array element dims) ++ more) ≡ true
    array element zero some = absurd (omega arith)
    array element (suc rest) some
        = ap (λ (text : List ℕ). is_before_type (text ++ more)) (text_array element (suc rest))
