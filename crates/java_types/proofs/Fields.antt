-- Types in descriptors by their dimensions, and rows of them.
use Rattle.std.proofs.Common.{◌≡◌, refl, ap, sym, ◌∙◌, ℕ, zero, suc, ◌+◌, ◌≤◌, true, false, ◌&&◌}
use Rattle.std.proofs.Common.{List, [], ◌∷◌, ◌++◌, length, replicate, append_assoc, arith}
use Rattle.std.specs.Prelude.{nat_le}
use Rattle.std.specs.List.{flat_map, list_all}
use Rattle.std.proofs.lemmas.Bool.{and_parts, and_from, false≢true, leb-true, le-leb}
use Rattle.java_types.specs.declared.types.JType.{JType, out-JType, roll-JType, roll-out-JType}
use Rattle.java_types.specs.declared.types.JType.TheVariants as type
use Rattle.java_types.specs.declared.types.JPart.{JPart, roll-JPart, out-roll-JPart}
use Rattle.java_types.specs.declared.types.JArg.{JArg}
use Rattle.java_types.specs.declared.types.JArg.TheOpen.{JType-F, JPart-F}
use Rattle.java_names.specs.Names.{is_class_name}
use Rattle.java_types.specs.Types.{type_text}
use Rattle.java_types.specs.Descriptor.{class_named, plain_part, element_layer, is_element}
use Rattle.java_types.specs.Descriptor.{field_layer, is_field_type}
use Rattle.java_types.specs.Fronts.{begins_with}
use Rattle.java_types.specs.Trees.{many, arrayed, java_type, ends_class}
use Rattle.java_types.proofs.Layers.{text_array}
use Rattle.java_types.proofs.Fronts.{is_type_byte}
use Rattle.java_types.proofs.OneTree.{types_taken, no_type}
use Rattle.java_types.proofs.OneDescriptor.{takes_fields, fields_apart}

pub arrayed_text : (dims : ℕ) (element : JType)
    → type_text (arrayed dims element) ≡ replicate dims 91 ++ type_text element
arrayed_text zero element = refl
arrayed_text (suc more) element = text_array element (suc more)

element_is_field : (layer : JType-F JArg JType JPart) → element_layer layer ≡ true
    → field_layer layer ≡ true
element_is_field JType-F.Void h = h
element_is_field (JType-F.Prim letter) h = h
element_is_field (JType-F.Named parts) h = h
element_is_field (JType-F.Var name) h = h
element_is_field (JType-F.Array element dims) h = absurd cc

pub arrayed_form : (dims : ℕ) (element : JType) → dims ≤ 255 → is_element element ≡ true
    → is_field_type (arrayed dims element) ≡ true
arrayed_form zero element few h = element_is_field (out-JType element) h
arrayed_form (suc more) element few h =
    ap field_layer (type.outs-Array element (suc more))
    ∙ and_from (nat_le 1 (suc more) && nat_le (suc more) 255) (is_element element) (and_from
    (nat_le 1 (suc more)) (nat_le (suc more) 255) (le-leb 1 (suc more) (omega arith)) (le-leb
    (suc more) 255 few)) h

pub class_form : (name : List ℕ) → is_class_name name ≡ true → is_element (class_named name) ≡ true
class_form name h =
    let layer : JPart-F JArg JType JPart = record { name = name; args = [] } in
    ap element_layer (type.outs-Named (roll-JPart layer ∷ []))
    ∙ ap plain_part (out-roll-JPart layer) ∙ and_from (is_class_name name) true h refl

pub record FieldView (t : JType) : Type 0 where
  pub dims : ℕ
  pub element : JType
  pub is : t ≡ arrayed dims element
  pub few : dims ≤ 255
  pub form : is_element element ≡ true
  pub text : type_text t ≡ replicate dims 91 ++ type_text element

pub field_view : (t : JType) → is_field_type t ≡ true → FieldView t
field_view t h = by (out-JType t) refl h
  where
    by : (layer : JType-F JArg JType JPart) → out-JType t ≡ layer → field_layer layer ≡ true
        → FieldView t
    by JType-F.Void e k = absurd cc
    by (JType-F.Prim letter) e k = record {
      dims = 0;
      element = t;
      is = refl;
      few = omega arith;
      form = ap element_layer e ∙ k;
      text = refl;
    }
    by (JType-F.Named parts) e k = record {
      dims = 0;
      element = t;
      is = refl;
      few = omega arith;
      form = ap element_layer e ∙ k;
      text = refl;
    }
    by (JType-F.Var name) e k = absurd cc
    by (JType-F.Array element zero) e k
        = absurd (false≢true
        (and_parts (nat_le 1 0) (nat_le 0 255)
        (and_parts (nat_le 1 0 && nat_le 0 255) (is_element element) k).0).0)
    by (JType-F.Array element (suc more)) e k =
        let p = and_parts (nat_le 1 (suc more) && nat_le (suc more) 255) (is_element element) k in
        let is : t ≡ type.Array element (suc more) = sym (roll-out-JType t) ∙ ap roll-JType e
        ∙ type.rolls-Array element (suc more) in
        record {
          dims = suc more;
          element = element;
          is = is;
          few = leb-true (suc more) 255 (and_parts (nat_le 1 (suc more))
              (nat_le (suc more) 255) p.0).1;
          form = p.1;
          text = ap type_text is ∙ text_array element (suc more);
        }

-- ---- rows

abbrev texts : List JType → List ℕ
texts = flat_map type_text

-- the type of a field begins with no other byte
pub no_field : (c : ℕ) (t : JType) (more : List ℕ) → is_type_byte c ≡ false → is_field_type t
    ≡ true
    → (later : List ℕ) → type_text t ++ more ≡ c ∷ later → ⊥
no_field c t more none right later e =
    let takes = takes_fields (length (type_text t)) in
    let head : takes.byte t right ≡ c
    = (let f : takes.byte t right ∷ (takes.tail t right ++ more) ≡ c ∷ later = ap
    (λ (s : List ℕ). s ++ more) (sym (takes.text t right)) ∙ e in cc) in
    false≢true (sym none ∙ ap is_type_byte (sym head) ∙ takes.begins t right)

-- no types of parameters have a text that goes on as one after which no type and no ) can be read
pub formals_refused : (formals others : List JType) (more tail : List ℕ)
    → list_all is_field_type formals ≡ true → list_all is_field_type others ≡ true
    → ((later : List ℕ) → tail ≡ 41 ∷ later → ⊥)
    → ((t : JType) (rest : List ℕ) → is_field_type t ≡ true → type_text t ++ rest ≡ tail → ⊥)
    → texts others ++ (41 ∷ more) ≡ texts formals ++ tail → ⊥
formals_refused [] [] more tail hf ho n none e = n more (sym e)
formals_refused [] (u ∷ others) more tail hf ho n none e
    = none u (texts others ++ (41 ∷ more)) (and_parts (is_field_type u)
    (list_all is_field_type others) ho).0
    (sym (append_assoc (type_text u) (texts others) (41 ∷ more)) ∙ e)
formals_refused (t ∷ formals) [] more tail hf ho n none e
    = no_field 41 t (texts formals ++ tail) refl (and_parts (is_field_type t)
    (list_all is_field_type formals) hf).0 more (sym (e
    ∙ append_assoc (type_text t) (texts formals) tail))
formals_refused (t ∷ formals) (u ∷ others) more tail hf ho n none e =
    let f = and_parts (is_field_type t) (list_all is_field_type formals) hf in
    let o = and_parts (is_field_type u) (list_all is_field_type others) ho in
    let a = fields_apart u t (texts others ++ (41 ∷ more)) (texts formals ++ tail) o.0 f.0 (sym
    (append_assoc (type_text u) (texts others) (41 ∷ more)) ∙ e
    ∙ append_assoc (type_text t) (texts formals) tail) in
    formals_refused formals others more tail f.1 o.1 n none a.1

-- types in front of a ) are told by the text
pub formals_apart : (formals others : List JType) (x y : List ℕ)
    → list_all is_field_type formals ≡ true → list_all is_field_type others ≡ true
    → texts formals ++ (41 ∷ x) ≡ texts others ++ (41 ∷ y) → (formals ≡ others) × (x ≡ y)
formals_apart formals others x y hf ho e =
    let n = length (texts formals) + length (texts others) in
    let read = many (begins_with 41) (java_type ends_class n) n in
    let taken : (ts : List JType) → list_all is_field_type ts ≡ true → length (texts ts) ≤ n
    → (more : List ℕ) → read (texts ts ++ (41 ∷ more)) ≡ (ts, 41 ∷ more)
    = λ ts all few more. types_taken is_field_type (java_type ends_class n) n (takes_fields n)
    (begins_with 41) (no_type 41 refl) ts all few (41 ∷ more) refl in
    let same : (formals, 41 ∷ x) ≡ (others, 41 ∷ y) = sym (taken formals hf (omega arith) x)
    ∙ ap read e ∙ taken others ho (omega arith) y in
    let tails : 41 ∷ x ≡ 41 ∷ y = ap (λ (r : List JType × List ℕ). r.1) same in
    (ap (λ (r : List JType × List ℕ). r.0) same, cc)
