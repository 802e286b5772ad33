-- What is left behind a byte of each expression: the laws for types, and so for all.
use Rattle.std.proofs.Common.{◌≡◌, ◌↔◌, ◌⊎◌, inl, inr, refl, sym, ap, ◌∙◌, subst, ℕ, zero, suc}
use Rattle.std.proofs.Common.{◌^◌, ◌<◌, ◌≤◌, Bool, true, ◌&&◌, ◌==◌, eqb-true, eq-eqb, List, []}
use Rattle.std.proofs.Common.{◌∷◌, ◌++◌, map, replicate, arith}
use Rattle.std.specs.Prelude.{codes, nat_le, nat_lt}
use Rattle.std.proofs.lemmas.Bool.{false≢true, ltb-true, leb-true, lt-ltb, le-leb}
use Rattle.java_types.specs.declared.types.JType.{JType, roll-JType, out-JType, roll-out-JType}
use Rattle.java_types.specs.declared.types.JType.TheVariants as type
use Rattle.java_types.specs.declared.types.JPart.{JPart}
use Rattle.java_types.specs.declared.types.JArg.{JArg}
use Rattle.java_types.specs.declared.types.JArg.TheOpen.{JType-F}
use Rattle.java_types.specs.Types.{type_text, part_text, parts_text}
use Rattle.java_types.specs.Descriptor.{is_primitive}
use Rattle.java_types.specs.declared.production.Production.{Production}
use Rattle.java_types.specs.declared.production.Production.TheVariants.{Element}
use Rattle.java_types.specs.Signature.{is_type, allows_void, allows_primitive, allows_variable}
use Rattle.java_types.specs.Signature.{allows_array}
use Rattle.java_names.specs.Names.{is_identifier}
use Rattle.java_types.proofs.Layers as layers
use Rattle.signature_scan.proofs.Conjunctions.{and_true, four_true}
use Rattle.signature_scan.proofs.Languages.{same, and_then, turned, either, pair, Empty}
use Rattle.signature_scan.proofs.Expressions.{Expr, Byte, NameByte, Many, Maybe, Or, Both, Kind}
use Rattle.signature_scan.proofs.Expressions.{Dims, Words, Rows, AnyRow, IsKind, IsElement, names}
use Rattle.signature_scan.proofs.Expressions.{slashes, arguments, inners, class_row, variable_row}
use Rattle.signature_scan.proofs.Expressions.{only, kind_after, one_fewer, any_append, only_is}
use Rattle.signature_scan.proofs.Expressions.{one_row, row_one, EndIs, AfterIs, parts_is}
use Rattle.signature_scan.proofs.Expressions.{byte_after, name_byte_after, maybe_after, or_after}
use Rattle.signature_scan.proofs.Expressions.{both_after, many_after, byte_end, name_byte_end}
use Rattle.signature_scan.proofs.Expressions.{maybe_end, or_end, both_end, many_end, derive_all}
use Rattle.signature_scan.proofs.Expressions.{derive_all_is}
use Rattle.signature_scan.proofs.Names.{identifier_is}
use Rattle.signature_scan.proofs.Types.{class_to, class_back}

-- ---- the alternatives behind the first byte of a type

abbrev Alternatives : Production → ℕ → List ℕ → Type 0
Alternatives at b w =
    ((b == 76 ≡ true) × Rows class_row w)
    ⊎ (((b == 84 && allows_variable at ≡ true) × Rows variable_row w)
    ⊎ (((b == 91 && allows_array at ≡ true) × Rows (Dims 4294967294 ∷ []) w)
    ⊎ (((b == 86 && allows_void at ≡ true) × Empty w)
    ⊎ ((is_primitive b && allows_primitive at ≡ true) × Empty w))))

only_one : (test : Bool) (row : List Expr) (w : List ℕ) → AnyRow (only test (row ∷ [])) w
    ↔ ((test ≡ true) × Rows row w)
only_one test row w = and_then (only_is test (row ∷ []) w) (pair same (one_row row w))

alternatives : (at : Production) (b : ℕ) (w : List ℕ) → AnyRow (kind_after at b) w
    ↔ Alternatives at b w
alternatives at b w =
    and_then (any_append (only (b == 76) (class_row ∷ [])) _ w)
    (either (only_one (b == 76) class_row w)
    (and_then (any_append (only (b == 84 && allows_variable at) (variable_row ∷ [])) _ w)
    (either (only_one (b == 84 && allows_variable at) variable_row w)
    (and_then (any_append (only (b == 91 && allows_array at) ((Dims 4294967294 ∷ []) ∷ [])) _ w)
    (either (only_one (b == 91 && allows_array at) (Dims 4294967294 ∷ []) w)
    (and_then (any_append (only (b == 86 && allows_void at) ([] ∷ []))
    (only (is_primitive b && allows_primitive at) ([] ∷ [])) w)
    (either (only_one (b == 86 && allows_void at) [] w)
    (only_one (is_primitive b && allows_primitive at) [] w))))))))

-- ---- a class, a variable and an array behind their first byte

abbrev class_parts : Expr
class_parts = Both (Both (Both (Both NameByte (Both names slashes)) arguments) inners) (Byte 59)

abbrev variable_parts : Expr
variable_parts = Both (Both NameByte names) (Byte 59)

class_row_is : (w : List ℕ) → Words class_parts w ↔ Rows class_row w
class_row_is w = parts_is class_parts w

variable_row_is : (w : List ℕ) → Words variable_parts w ↔ Rows variable_row w
variable_row_is w = parts_is variable_parts w

-- ---- to the alternatives

void_to : (at : Production) (b : ℕ) (w : List ℕ) → is_type type.Void at ≡ true
    → b ∷ w ≡ type_text type.Void → Alternatives at b w
void_to at b w is e =
    let f : b ∷ w ≡ 86 ∷ [] = e ∙ layers.text_void in
    let head : b ≡ 86 = cc in
    let tail : w ≡ [] = cc in
    inr (inr (inr (inl (
      (and_true (b == 86) (allows_void at)).0
          (eq-eqb b 86 head, sym (layers.form_void at) ∙ is),
      tail,
    ))))

prim_to : (at : Production) (b : ℕ) (w : List ℕ) (letter : ℕ) → is_type (type.Prim letter) at
    ≡ true
    → b ∷ w ≡ type_text (type.Prim letter) → Alternatives at b w
prim_to at b w letter is e =
    let f : b ∷ w ≡ letter ∷ [] = e ∙ layers.text_prim letter in
    let head : letter ≡ b = cc in
    let tail : w ≡ [] = cc in
    let p = (and_true (allows_primitive at) (is_primitive letter)).1
    (sym (layers.form_prim letter at) ∙ is) in
    inr (inr (inr (inr (
      (and_true (is_primitive b) (allows_primitive at)).0
          (subst (λ l. is_primitive l ≡ true) head p.1, p.0),
      tail,
    ))))

named_to : (at : Production) (b : ℕ) (w : List ℕ) (parts : List JPart)
    → is_type (type.Named parts) at ≡ true → b ∷ w ≡ type_text (type.Named parts)
    → Alternatives at b w
named_to at b w parts is e =
    let f : b ∷ w ≡ 76 ∷ (parts_text (map part_text parts) ++ codes ";") = e
    ∙ layers.text_named parts in
    let head : b ≡ 76 = cc in
    let tail : w ≡ parts_text (map part_text parts) ++ codes ";" = cc in
    inl (
      eq-eqb b 76 head,
      (class_row_is w).0 (record {
        front = parts_text (map part_text parts);
        rest = codes ";";
        whole = tail;
        first =
            class_to (parts_text (map part_text parts)) parts
            (sym (layers.form_named parts at) ∙ is) refl;
        second = refl;
      }),
    )

var_to : (at : Production) (b : ℕ) (w : List ℕ) (name : List ℕ) → is_type (type.Var name) at ≡ true
    → b ∷ w ≡ type_text (type.Var name) → Alternatives at b w
var_to at b w name is e =
    let f : b ∷ w ≡ 84 ∷ (name ++ codes ";") = e ∙ layers.text_var name in
    let head : b ≡ 84 = cc in
    let tail : w ≡ name ++ codes ";" = cc in
    let p = (and_true (allows_variable at) (is_identifier name)).1
    (sym (layers.form_var name at) ∙ is) in
    inr (inl (
      (and_true (b == 84) (allows_variable at)).0 (eq-eqb b 84 head, p.0),
      (variable_row_is w).0 (record {
        front = name;
        rest = codes ";";
        whole = tail;
        first = (identifier_is name).0 p.1;
        second = refl;
      }),
    ))

array_to : (at : Production) (b : ℕ) (w : List ℕ) (element : JType) (dims : ℕ)
    → is_type (type.Array element dims) at ≡ true → b ∷ w ≡ type_text (type.Array element dims)
    → Alternatives at b w
array_to at b w element dims is e =
    let p = (four_true (allows_array at) (nat_le 1 dims) (nat_lt dims (2 ^ 32))
    (is_type element Element)).1 (sym (layers.form_array element dims at) ∙ is) in
    by dims (leb-true 1 dims p.1) (ltb-true dims (2 ^ 32) p.2) (e ∙ layers.text_array element dims)
    p.0 p.3
  where
    by : (dims : ℕ) → 1 ≤ dims → dims < 2 ^ 32 → b ∷ w ≡ replicate dims 91 ++ type_text element
        → allows_array at ≡ true → is_type element Element ≡ true → Alternatives at b w
    by zero some most f allowed is = absurd (omega arith)
    by (suc more) some most f allowed is =
        let head : b ≡ 91 = cc in
        let tail : w ≡ replicate more 91 ++ type_text element = cc in
        inr (inr (inl (
          (and_true (b == 91) (allows_array at)).0 (eq-eqb b 91 head, allowed),
          (row_one (Dims 4294967294) w).1 (record {
            dims = more;
            type = element;
            within = omega arith;
            is = is;
            text = tail;
          }),
        )))

type_to : (at : Production) (b : ℕ) (w : List ℕ) (t : JType) (layer : JType-F JArg JType JPart)
    → roll-JType layer ≡ t → is_type t at ≡ true → b ∷ w ≡ type_text t → Alternatives at b w
type_to at b w t JType-F.Void r is e = let v = sym r ∙ type.rolls-Void in
    void_to at b w (ap (λ t. is_type t at) (sym v) ∙ is) (e ∙ ap type_text v)
type_to at b w t (JType-F.Prim letter) r is e = let v = sym r ∙ type.rolls-Prim letter in
    prim_to at b w letter (ap (λ t. is_type t at) (sym v) ∙ is) (e ∙ ap type_text v)
type_to at b w t (JType-F.Named parts) r is e = let v = sym r ∙ type.rolls-Named parts in
    named_to at b w parts (ap (λ t. is_type t at) (sym v) ∙ is) (e ∙ ap type_text v)
type_to at b w t (JType-F.Var name) r is e = let v = sym r ∙ type.rolls-Var name in
    var_to at b w name (ap (λ t. is_type t at) (sym v) ∙ is) (e ∙ ap type_text v)
type_to at b w t (JType-F.Array element dims) r is e =
    let v = sym r ∙ type.rolls-Array element dims in
    array_to at b w element dims (ap (λ t. is_type t at) (sym v) ∙ is) (e ∙ ap type_text v)

-- ---- and back

type_back : (at : Production) (b : ℕ) (w : List ℕ) → Alternatives at b w → IsKind at (b ∷ w)
type_back at b w (inl p) =
    let c = (class_row_is w).1 p.1 in
    let parts = class_back c.front c.first in
    record {
      item = type.Named parts.item;
      is = layers.form_named parts.item at ∙ parts.is;
      whole =
          ap (λ (d : ℕ). d ∷ w) (eqb-true b 76 p.0)
          ∙ ap (λ (v : List ℕ). 76 ∷ v)
          (c.whole ∙ ap (λ (v : List ℕ). v ++ c.rest) parts.whole
          ∙ ap (λ (v : List ℕ). parts_text (map part_text parts.item) ++ v) c.second)
          ∙ sym (layers.text_named parts.item);
    }
type_back at b w (inr (inl p)) =
    let tests = (and_true (b == 84) (allows_variable at)).1 p.0 in
    let c = (variable_row_is w).1 p.1 in
    record {
      item = type.Var c.front;
      is =
          layers.form_var c.front at ∙ (and_true (allows_variable at) (is_identifier c.front)).0
          (tests.1, (identifier_is c.front).1 c.first);
      whole =
          ap (λ (d : ℕ). d ∷ w) (eqb-true b 84 tests.0)
          ∙ ap (λ (v : List ℕ). 84 ∷ v) (c.whole ∙ ap (λ (v : List ℕ). c.front ++ v) c.second)
          ∙ sym (layers.text_var c.front);
    }
type_back at b w (inr (inr (inl p))) =
    let tests = (and_true (b == 91) (allows_array at)).1 p.0 in
    let x = (row_one (Dims 4294967294) w).0 p.1 in
    let small : x.dims ≤ 4294967294 = x.within in
    record {
      item = type.Array x.type (suc x.dims);
      is =
          layers.form_array x.type (suc x.dims) at
          ∙ (four_true (allows_array at) (nat_le 1 (suc x.dims)) (nat_lt (suc x.dims) (2 ^ 32))
          (is_type x.type Element)).0 (
            tests.1,
            le-leb 1 (suc x.dims) (omega arith),
            lt-ltb (suc x.dims) (2 ^ 32) (omega arith),
            x.is,
          );
      whole =
          ap (λ (d : ℕ). d ∷ w) (eqb-true b 91 tests.0) ∙ ap (λ (v : List ℕ). 91 ∷ v) x.text
          ∙ sym (layers.text_array x.type (suc x.dims));
    }
type_back at b w (inr (inr (inr (inl p)))) =
    let tests = (and_true (b == 86) (allows_void at)).1 p.0 in
    record {
      item = type.Void;
      is = layers.form_void at ∙ tests.1;
      whole =
          ap (λ (d : ℕ). d ∷ w) (eqb-true b 86 tests.0) ∙ ap (λ (v : List ℕ). 86 ∷ v) p.1
          ∙ sym layers.text_void;
    }
type_back at b w (inr (inr (inr (inr p)))) =
    let tests = (and_true (is_primitive b) (allows_primitive at)).1 p.0 in
    record {
      item = type.Prim b;
      is =
          layers.form_prim b at ∙ (and_true (allows_primitive at) (is_primitive b)).0
          (tests.1, tests.0);
      whole = ap (λ (v : List ℕ). b ∷ v) p.1 ∙ sym (layers.text_prim b);
    }

kind_goes : (at : Production) → AfterIs (Kind at)
kind_goes at b w =
    and_then (
      λ t. type_to at b w t.item (out-JType t.item) (roll-out-JType t.item) t.is t.whole,
      type_back at b w,
    ) (turned (alternatives at b w))

-- ---- dimensions

elements : (most b : ℕ) (w : List ℕ) → IsElement most (b ∷ w)
    → (((b == 91 ≡ true) × AnyRow (one_fewer most) w) ⊎ IsKind Element (b ∷ w))
elements most b w x = by most x.dims x.within x.text
  where
    by : (most dims : ℕ) → dims ≤ most → b ∷ w ≡ replicate dims 91 ++ type_text x.type
        → (((b == 91 ≡ true) × AnyRow (one_fewer most) w) ⊎ IsKind Element (b ∷ w))
    by most zero h e = inr (record { item = x.type; is = x.is; whole = e })
    by zero (suc dims) h e = absurd (omega arith)
    by (suc most) (suc dims) h e =
        let head : b ≡ 91 = cc in
        let tail : w ≡ replicate dims 91 ++ type_text x.type = cc in
        inl (
          eq-eqb b 91 head,
          (one_row (Dims most ∷ []) w).1
              ((row_one (Dims most) w).1 (record {
                dims = dims;
                type = x.type;
                within = omega arith;
                is = x.is;
                text = tail;
              })),
        )

one_more : (most b : ℕ) (w : List ℕ) → (b == 91 ≡ true) × AnyRow (one_fewer most) w
    → IsElement most (b ∷ w)
one_more zero b w p = absurd p.1
one_more (suc most) b w p =
    let x = (row_one (Dims most) w).0 ((one_row (Dims most ∷ []) w).0 p.1) in
    let small : x.dims ≤ most = x.within in
    record {
      dims = suc x.dims;
      type = x.type;
      within = omega arith;
      is = x.is;
      text = ap (λ (d : ℕ). d ∷ w) (eqb-true b 91 p.0) ∙ ap (λ (v : List ℕ). 91 ∷ v) x.text;
    }

none_more : (most b : ℕ) (w : List ℕ) → IsKind Element (b ∷ w) → IsElement most (b ∷ w)
none_more most b w t =
    record { dims = 0; type = t.item; within = omega arith; is = t.is; text = t.whole }

elements_back : (most b : ℕ) (w : List ℕ)
    → (((b == 91 ≡ true) × AnyRow (one_fewer most) w) ⊎ IsKind Element (b ∷ w))
    → IsElement most (b ∷ w)
elements_back most b w (inl p) = one_more most b w p
elements_back most b w (inr t) = none_more most b w t

dims_goes : (most : ℕ) → AfterIs (Dims most)
dims_goes most b w =
    and_then (elements most b w, elements_back most b w)
    (and_then (either (turned (only_is (b == 91) (one_fewer most) w)) (kind_goes Element b w))
    (turned (any_append (only (b == 91) (one_fewer most)) (kind_after Element b) w)))

-- ---- no type is empty

empty_text : (t : JType) (layer : JType-F JArg JType JPart) → roll-JType layer ≡ t
    → (at : Production) → is_type t at ≡ true → type_text t ≡ [] → ⊥
empty_text t JType-F.Void r at is e =
    let f = sym layers.text_void ∙ ap type_text (sym type.rolls-Void ∙ r) ∙ e in absurd (cc)
empty_text t (JType-F.Prim letter) r at is e =
    let f = sym (layers.text_prim letter) ∙ ap type_text (sym (type.rolls-Prim letter) ∙ r) ∙ e in
    absurd (cc)
empty_text t (JType-F.Named parts) r at is e =
    let f = sym (layers.text_named parts) ∙ ap type_text (sym (type.rolls-Named parts) ∙ r) ∙ e in
    absurd (cc)
empty_text t (JType-F.Var name) r at is e =
    let f = sym (layers.text_var name) ∙ ap type_text (sym (type.rolls-Var name) ∙ r) ∙ e in
    absurd (cc)
empty_text t (JType-F.Array element dims) r at is e =
    let v = sym r ∙ type.rolls-Array element dims in
    let p = (four_true (allows_array at) (nat_le 1 dims) (nat_lt dims (2 ^ 32))
    (is_type element Element)).1
    (sym (layers.form_array element dims at) ∙ ap (λ t. is_type t at) (sym v) ∙ is) in
    by dims (leb-true 1 dims p.1) (sym (layers.text_array element dims) ∙ ap type_text (sym v) ∙ e)
  where
    by : (dims : ℕ) → 1 ≤ dims → replicate dims 91 ++ type_text element ≡ [] → ⊥
    by zero some f = absurd (omega arith)
    by (suc more) some f = absurd (cc)

kind_ends : (at : Production) → EndIs (Kind at)
kind_ends at = (
  λ t. absurd (empty_text t.item (out-JType t.item) (roll-out-JType t.item) at t.is
      (sym t.whole)),
  λ e. absurd (false≢true e),
)

dims_empty : (most : ℕ) → IsElement most [] → ⊥
dims_empty most x = by x.dims x.text
  where
    by : (dims : ℕ) → [] ≡ replicate dims 91 ++ type_text x.type → ⊥
    by zero e = empty_text x.type (out-JType x.type) (roll-out-JType x.type) Element x.is (sym e)
    by (suc dims) e = absurd (cc)

-- ---- each expression

pub ends : (e : Expr) → EndIs e
ends (Byte n) = byte_end n
ends NameByte = name_byte_end
ends (Many e) = many_end e
ends (Maybe e) = maybe_end e
ends (Or e f) = or_end e f (ends e) (ends f)
ends (Both e f) = both_end e f (ends e) (ends f)
ends (Kind at) = kind_ends at
ends (Dims most) = (λ x. absurd (dims_empty most x), λ e. absurd (false≢true e))

pub goes : (e : Expr) → AfterIs e
goes (Byte n) = byte_after n
goes NameByte = name_byte_after
goes (Many e) = many_after e (goes e)
goes (Maybe e) = maybe_after e (goes e)
goes (Or e f) = or_after e f (goes e) (goes f)
goes (Both e f) = both_after e f (ends e) (goes e) (goes f)
goes (Kind at) = kind_goes at
goes (Dims most) = dims_goes most

-- what follows behind a byte
pub step_is : (rows : List (List Expr)) (b : ℕ) (w : List ℕ) → AnyRow rows (b ∷ w)
    ↔ AnyRow (derive_all rows b) w
step_is = derive_all_is ends goes
