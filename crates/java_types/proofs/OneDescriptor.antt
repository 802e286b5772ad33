-- A text has one descriptor: what it is taken for.
use Rattle.std.proofs.Common.{◌≡◌, refl, sym, ap, ◌∙◌, subst, ℕ, zero, suc, ◌+◌, ◌≤◌, ◌==◌, ◌&&◌}
use Rattle.std.proofs.Common.{◌||◌, true, false, List, [], ◌∷◌, ◌++◌, length, drop, replicate}
use Rattle.std.proofs.Common.{append_assoc, append-nil, Some, arith}
use Rattle.std.specs.Prelude.{codes, nat_le}
use Rattle.std.specs.List.{list_all}
use Rattle.std.proofs.lemmas.Bool.{false≢true, and_parts, leb-true}
use Rattle.std.proofs.lemmas.Option.{same_Some}
use Rattle.java_names.specs.Names.{is_among, is_class_name}
use Rattle.java_types.specs.declared.production.SigPlace.{SigPlace}
use Rattle.java_types.specs.declared.production.SigPlace.TheVariants.{MethodPlace, FieldPlace}
use Rattle.java_types.specs.declared.types.JType.{JType, roll-JType, out-JType, roll-out-JType}
use Rattle.java_types.specs.declared.types.JType.TheVariants as type
use Rattle.java_types.specs.declared.types.JPart.{JPart, roll-JPart, out-JPart, roll-out-JPart}
use Rattle.java_types.specs.declared.types.JArg.{JArg}
use Rattle.java_types.specs.declared.types.JArg.TheOpen.{JType-F}
use Rattle.java_types.specs.declared.types.JParam.{JParam}
use Rattle.java_types.specs.declared.types.JSig.{JSig}
use Rattle.java_types.specs.declared.types.JSig.TheVariants.{OfClass, OfMethod, OfField}
use Rattle.java_types.specs.Types.{type_text, part_text, signature_text}
use Rattle.java_types.specs.Descriptor.{is_primitive, has_no_params, has_no_throws, has_no_args}
use Rattle.java_types.specs.Descriptor.{class_named, plain_part, is_plain_class, is_element}
use Rattle.java_types.specs.Descriptor.{element_layer, is_field_type, field_layer, is_return_type}
use Rattle.java_types.specs.Descriptor.{return_layer, is_descriptor, DescriptorSpells}
use Rattle.java_types.specs.Fronts.{begins_with}
use Rattle.java_types.specs.Trees.{under, marked, enclosed, argument, part, parts, tree_at}
use Rattle.java_types.specs.Trees.{java_type, ends_class, descriptor_place, descriptor_of}
use Rattle.java_types.proofs.Layers.{text_void, text_prim, text_named, text_array, text_part}
use Rattle.java_types.proofs.Fronts.{unlike, class_name_place, is_type_byte}
use Rattle.java_types.proofs.Rows.{not_chosen, name_taken}
use Rattle.java_types.proofs.Trees.{Core, plain_taken, array_taken, void_core, prim_core}
use Rattle.java_types.proofs.OneTree.{Takes, method_end, checked_found, checked_right}

-- ---- the types of fields, by their kinds

module _ (Fact : JType → Type 0)
    (prim : (letter : ℕ) → is_primitive letter ≡ true → Fact (type.Prim letter))
    (named : (v : List ℕ) → is_class_name v ≡ true → Fact (class_named v)) where
  plain : (part : JPart) → plain_part (out-JPart part) ≡ true → Fact (type.Named (part ∷ []))
  plain p right
      = subst (λ q. Fact (type.Named (q ∷ []))) (roll-out-JPart p) (by (out-JPart p).args
      (and_parts (is_class_name (out-JPart p).name) (has_no_args (out-JPart p).args) right))
    where
      by : (args : List JArg)
          → (is_class_name (out-JPart p).name ≡ true) × (has_no_args args ≡ true)
          → Fact (type.Named (roll-JPart (record { name = (out-JPart p).name; args = args }) ∷ []))
      by [] h = named (out-JPart p).name h.0
      by (a ∷ args) h = absurd (false≢true h.1)

  classes : (parts : List JPart) → is_plain_class parts ≡ true → Fact (type.Named parts)
  classes [] right = absurd (false≢true right)
  classes (p ∷ []) right = plain p right
  classes (p ∷ q ∷ parts) right = absurd (false≢true right)

  elements : (layer : JType-F JArg JType JPart) → element_layer layer ≡ true
      → Fact (roll-JType layer)
  elements (JType-F.Prim letter) right
      = subst Fact (sym (type.rolls-Prim letter)) (prim letter right)
  elements (JType-F.Named parts) right
      = subst Fact (sym (type.rolls-Named parts)) (classes parts right)
  elements JType-F.Void right = absurd (false≢true right)
  elements (JType-F.Var v) right = absurd (false≢true right)
  elements (JType-F.Array inside dims) right = absurd (false≢true right)

  pub of_elements : (t : JType) → is_element t ≡ true → Fact t
  of_elements t right = subst Fact (roll-out-JType t) (elements (out-JType t) right)

  module _ (array : (inside : JType) (dims : ℕ) → 1 ≤ dims → dims ≤ 255 → is_element inside ≡ true
      → Fact (type.Array inside dims)) where
    fields : (layer : JType-F JArg JType JPart) → field_layer layer ≡ true →
        Fact (roll-JType layer)
    fields (JType-F.Prim letter) right
        = subst Fact (sym (type.rolls-Prim letter)) (prim letter right)
    fields (JType-F.Named parts) right
        = subst Fact (sym (type.rolls-Named parts)) (classes parts right)
    fields JType-F.Void right = absurd (false≢true right)
    fields (JType-F.Var v) right = absurd (false≢true right)
    fields (JType-F.Array inside dims) right =
        let last = and_parts (nat_le 1 dims && nat_le dims 255) (is_element inside) right in
        let first = and_parts (nat_le 1 dims) (nat_le dims 255) last.0 in
        subst Fact (sym (type.rolls-Array inside dims))
        (array inside dims (leb-true 1 dims first.0)
        (leb-true dims 255 first.1) last.1)

    pub of_fields : (t : JType) → is_field_type t ≡ true → Fact t
    of_fields t right = subst Fact (roll-out-JType t) (fields (out-JType t) right)

    module _ (void : Fact type.Void) where
      results : (layer : JType-F JArg JType JPart) → return_layer layer ≡ true
          → Fact (roll-JType layer)
      results JType-F.Void right = subst Fact (sym type.rolls-Void) void
      results (JType-F.Prim letter) right = fields (JType-F.Prim letter) right
      results (JType-F.Named parts) right = fields (JType-F.Named parts) right
      results (JType-F.Var v) right = fields (JType-F.Var v) right
      results (JType-F.Array inside dims) right = fields (JType-F.Array inside dims) right

      pub of_results : (t : JType) → is_return_type t ≡ true → Fact t
      of_results t right = subst Fact (roll-out-JType t) (results (out-JType t) right)

-- ---- their texts

pub text_class : (v : List ℕ) → type_text (class_named v) ≡ 76 ∷ (v ++ (59 ∷ []))
text_class v =
    let one = roll-JPart (record { name = v; args = [] }) in
    text_named (one ∷ [])
    ∙ ap (λ (t : List ℕ). 76 ∷ (t ++ (59 ∷ []))) (append-nil (part_text one) ∙ text_part one
    ∙ append-nil v)

-- how a type begins, where a descriptor has it
record Starts (t : JType) : Type 0 where
  byte : ℕ
  tail : List ℕ
  text : type_text t ≡ byte ∷ tail
  is : is_type_byte byte ≡ true

prim_starts : (letter : ℕ) → is_primitive letter ≡ true → Starts (type.Prim letter)
prim_starts letter right = record {
  byte = letter;
  tail = [];
  text = text_prim letter;
  is = ap (λ t. t || is_among (codes "VLT[") letter) right;
}

class_starts : (v : List ℕ) → is_class_name v ≡ true → Starts (class_named v)
class_starts v right = record { byte = 76; tail = v ++ (59 ∷ []); text = text_class v; is = refl }

array_starts : (inside : JType) (dims : ℕ) → 1 ≤ dims → dims ≤ 255 → is_element inside ≡ true
    → Starts (type.Array inside dims)
array_starts inside zero some few right = absurd (omega arith)
array_starts inside (suc more) some few right = record {
  byte = 91;
  tail = replicate more 91 ++ type_text inside;
  text = text_array inside (suc more);
  is = refl;
}

void_starts : Starts type.Void
void_starts = record { byte = 86; tail = []; text = text_void; is = refl }

field_starts : (t : JType) → is_field_type t ≡ true → Starts t
field_starts = of_fields Starts prim_starts class_starts array_starts

result_starts : (t : JType) → is_return_type t ≡ true → Starts t
result_starts = of_results Starts prim_starts class_starts array_starts void_starts

-- ---- types are taken for themselves

abbrev IsTaken : JType → Type 0
IsTaken t = (n : ℕ) → length (type_text t) ≤ n → (more : List ℕ)
    → java_type ends_class n (type_text t ++ more) ≡ (t, more)

abbrev one_part : ℕ → List ℕ → JPart × List ℕ
one_part n = part ends_class (java_type ends_class n) n

no_more_parts : (n : ℕ) (more : List ℕ) → marked 46 (one_part n) n (59 ∷ more) ≡ ([], 59 ∷ more)
no_more_parts zero more = refl
no_more_parts (suc n) more = refl

class_core : (v : List ℕ) → is_class_name v ≡ true
    → Core ends_class (class_named v) (76 ∷ (v ++ (59 ∷ [])))
class_core v right = record {
  some = omega arith;
  plain = λ more. refl;
  taken = λ n fits more.
      let one = roll-JPart (record { name = v; args = [] }) in
      ap (λ (t : List ℕ). under type.Named (parts (one_part n) n t))
      (append_assoc v (59 ∷ []) more)
      ∙ ap (λ (front : List ℕ × List ℕ). named n front) (name_taken ends_class v (59 ∷ more)
      (class_name_place v more right))
      ∙ ap (λ (later : List JPart × List ℕ).
      (type.Named (one ∷ later.0), drop 1 later.1)) (no_more_parts n more);
}
  where
    named : (n : ℕ) (front : List ℕ × List ℕ) → JType × List ℕ
    named n front =
        let args = enclosed (argument (java_type ends_class n)) n front.1 in
        let later = marked 46 (one_part n) n args.1 in (
          type.Named (roll-JPart (record { name = front.0; args = args.0 }) ∷ later.0),
          drop 1 later.1,
        )

prim_taken : (letter : ℕ) → is_primitive letter ≡ true → IsTaken (type.Prim letter)
prim_taken letter right
    = plain_taken ends_class (type.Prim letter) (letter ∷ []) (text_prim letter)
    (prim_core ends_class letter right)

class_taken : (v : List ℕ) → is_class_name v ≡ true → IsTaken (class_named v)
class_taken v right
    = plain_taken ends_class (class_named v) (76 ∷
    (v ++ (59 ∷ []))) (text_class v) (class_core v right)

-- an element of an array begins with no [
abbrev IsPlain : JType → Type 0
IsPlain t = (1 ≤ length (type_text t)) × ((more : List ℕ)
    → begins_with 91 (type_text t ++ more) ≡ false)

pub element_plain : (t : JType) → is_element t ≡ true → IsPlain t
element_plain = of_elements IsPlain
    (λ letter right. let e : length (type_text (type.Prim letter)) ≡ 1 = ap length
    (text_prim letter) in (
      omega arith,
      λ more. ap (λ (t : List ℕ). begins_with 91 (t ++ more)) (text_prim letter)
          ∙ unlike is_primitive letter 91 right refl,
    ))
    (λ v right. let e : length (type_text (class_named v)) ≡ length
    (76 ∷ (v ++ (59 ∷ []))) = ap length (text_class v) in
    (omega arith, λ more. ap (λ (t : List ℕ). begins_with 91 (t ++ more)) (text_class v)))

element_taken : (t : JType) → is_element t ≡ true → IsTaken t
element_taken = of_elements IsTaken prim_taken class_taken

array_is_taken : (inside : JType) (dims : ℕ) → 1 ≤ dims → dims ≤ 255 → is_element inside ≡ true
    → IsTaken (type.Array inside dims)
array_is_taken inside dims some few right = let p = element_plain inside right in
    array_taken ends_class inside dims some p.0 p.1 (element_taken inside right)

field_taken : (t : JType) → is_field_type t ≡ true → IsTaken t
field_taken = of_fields IsTaken prim_taken class_taken array_is_taken

result_taken : (t : JType) → is_return_type t ≡ true → IsTaken t
result_taken = of_results IsTaken prim_taken class_taken array_is_taken
    (plain_taken ends_class type.Void (86 ∷ []) text_void (void_core ends_class))

-- types that begin one text are one
pub fields_apart : (t u : JType) (x y : List ℕ) → is_field_type t ≡ true → is_field_type u ≡ true
    → type_text t ++ x ≡ type_text u ++ y → (t ≡ u) × (x ≡ y)
fields_apart t u x y ht hu e =
    let n = length (type_text t) + length (type_text u) in
    let same : (t, x) ≡ (u, y) = sym (field_taken t ht n (omega arith) x)
    ∙ ap (java_type ends_class n) e ∙ field_taken u hu n (omega arith) y in
    (ap (λ (r : JType × List ℕ). r.0) same, ap (λ (r : JType × List ℕ). r.1) same)

pub results_apart : (t u : JType) (x y : List ℕ) → is_return_type t ≡ true → is_return_type u
    ≡ true
    → type_text t ++ x ≡ type_text u ++ y → (t ≡ u) × (x ≡ y)
results_apart t u x y ht hu e =
    let n = length (type_text t) + length (type_text u) in
    let same : (t, x) ≡ (u, y) = sym (result_taken t ht n (omega arith) x)
    ∙ ap (java_type ends_class n) e ∙ result_taken u hu n (omega arith) y in
    (ap (λ (r : JType × List ℕ). r.0) same, ap (λ (r : JType × List ℕ). r.1) same)

pub takes_fields : (n : ℕ) → Takes is_field_type (java_type ends_class n) n
takes_fields n = record {
  taken = λ t right fits more. field_taken t right n fits more;
  byte = λ t right. (field_starts t right).byte;
  tail = λ t right. (field_starts t right).tail;
  text = λ t right. (field_starts t right).text;
  begins = λ t right. (field_starts t right).is;
}

takes_results : (n : ℕ) → Takes is_return_type (java_type ends_class n) n
takes_results n = record {
  taken = λ t right fits more. result_taken t right n fits more;
  byte = λ t right. (result_starts t right).byte;
  tail = λ t right. (result_starts t right).tail;
  text = λ t right. (result_starts t right).text;
  begins = λ t right. (result_starts t right).is;
}

-- ---- descriptors

no_params : (params : List JParam) → has_no_params params ≡ true → params ≡ []
no_params [] right = refl
no_params (p ∷ params) right = absurd (false≢true right)

no_throws : (throws : List JType) → has_no_throws throws ≡ true → throws ≡ []
no_throws [] right = refl
no_throws (t ∷ throws) right = absurd (false≢true right)

method_tree : (n : ℕ) (formals : List JType) (ret : JType) → list_all is_field_type formals ≡ true
    → is_return_type ret ≡ true → length (signature_text (OfMethod [] formals ret [])) ≤ n
    → tree_at MethodPlace (java_type ends_class n) n (signature_text (OfMethod [] formals ret []))
    ≡ OfMethod [] formals ret []
method_tree n formals ret all is_result fits =
    method_end is_field_type is_return_type is_return_type (java_type ends_class n) n
    (takes_fields n) (takes_results n) (takes_results n) formals ret [] all is_result refl
    (omega arith) []

field_tree : (n : ℕ) (t : JType) → is_field_type t ≡ true → length (type_text t) ≤ n
    → tree_at FieldPlace (java_type ends_class n) n (type_text t) ≡ OfField t
field_tree n t right fits
    = ap (λ (r : JType × List ℕ). OfField r.0) (ap (java_type ends_class n)
    (sym (append-nil (type_text t))) ∙ field_taken t right n fits [])

descriptor_tree : (sig : JSig) (n : ℕ) → is_descriptor sig ≡ true → length (signature_text sig) ≤ n
    → tree_at (descriptor_place
    (signature_text sig)) (java_type ends_class n) n (signature_text sig) ≡ sig
descriptor_tree (OfField t) n right fits =
    let s = field_starts t right in
    let place : descriptor_place (type_text t) ≡ FieldPlace = ap descriptor_place s.text
    ∙ not_chosen (s.byte == 40) MethodPlace FieldPlace
    (unlike is_type_byte s.byte 40 s.is refl) in
    ap (λ (p : SigPlace). tree_at p (java_type ends_class n) n (type_text t)) place
    ∙ field_tree n t right fits
descriptor_tree (OfMethod params formals ret throws) n right fits =
    let three = and_parts
    (has_no_params params && list_all is_field_type formals && is_return_type ret)
    (has_no_throws throws) right in
    let two = and_parts (has_no_params params && list_all is_field_type formals)
    (is_return_type ret) three.0 in
    let one = and_parts (has_no_params params) (list_all is_field_type formals) two.0 in
    by params throws (no_params params one.0) (no_throws throws three.1) one.1 two.1 fits
  where
    by : (params : List JParam) (throws : List JType) → params ≡ [] → throws ≡ []
        → list_all is_field_type formals ≡ true → is_return_type ret ≡ true
        → length (signature_text (OfMethod params formals ret throws)) ≤ n
        → tree_at (descriptor_place
        (signature_text (OfMethod params formals ret throws))) (java_type ends_class n) n
        (signature_text (OfMethod params formals ret throws))
        ≡ OfMethod params formals ret throws
    by [] [] e f all is_result fits = method_tree n formals ret all is_result fits
    by (p ∷ params) throws e f all is_result fits = absurd (cc)
    by [] (t ∷ throws) e f all is_result fits = absurd (cc)
descriptor_tree (OfClass params super interfaces) n right fits = absurd (false≢true right)

pub descriptor_found : (sig : JSig) (text : List ℕ) → DescriptorSpells sig text
    → descriptor_of text ≡ Some sig
unfolding descriptor_of
descriptor_found sig text s =
    checked_found is_descriptor text (tree_at (descriptor_place text)
    (java_type ends_class (length text)) (length text) text) sig
    (ap (λ (t : List ℕ). tree_at (descriptor_place t) (java_type ends_class (length text))
    (length text) t) s.whole
    ∙ descriptor_tree sig (length text) s.form (let e : length text ≡ length
    (signature_text sig) = ap length s.whole in omega arith))
    s.form s.whole

pub descriptor_spelled : (sig : JSig) (text : List ℕ) → descriptor_of text ≡ Some sig
    → DescriptorSpells sig text
unfolding descriptor_of
descriptor_spelled sig text e =
    let p = checked_right is_descriptor text (tree_at (descriptor_place text)
    (java_type ends_class (length text)) (length text) text) sig e in
    record { form = p.0; whole = p.1 }

pub one_descriptor : (text : List ℕ) (a b : JSig) → DescriptorSpells a text
    → DescriptorSpells b text → a ≡ b
one_descriptor text a b s t = same_Some a b (sym (descriptor_found a text s)
    ∙ descriptor_found b text t)
