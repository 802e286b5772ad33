-- The parameters of a method, type by type, and the whole descriptor.
use Rattle.std.proofs.Common.{◌≡◌, refl, sym, ap, ◌∙◌, subst, ℕ, zero, suc, ◌+◌, ◌*◌, ◌<◌, ◌≤◌}
use Rattle.std.proofs.Common.{◌&&◌, Bool, true, false, List, [], ◌∷◌, ◌++◌, length, get_or}
use Rattle.std.proofs.Common.{append_assoc, append-nil, length-append, Option, Some, None, arith}
use Rattle.std.proofs.Common.{inl, inr, ◌⊎◌}
use Rattle.std.specs.Prelude.{codes, if◌then◌else◌}
use Rattle.std.specs.List.{list_all, flat_map}
use Rattle.std.proofs.lemmas.Bool.{false≢true, and_parts, and_from}
use Rattle.std.proofs.lemmas.List.Folds.{list_all-append}
use Rattle.std.proofs.lemmas.List.Concat.{flat_map-append}
use Rattle.std.proofs.lemmas.Option.{same_Some}
use Rattle.java_names.specs.Names.{is_among}
use Rattle.java_types.specs.declared.types.JType.{JType, roll-JType, out-JType, roll-out-JType}
use Rattle.java_types.specs.declared.types.JType.TheVariants as type
use Rattle.java_types.specs.declared.types.JPart.{JPart}
use Rattle.java_types.specs.declared.types.JArg.{JArg}
use Rattle.java_types.specs.declared.types.JArg.TheOpen.{JType-F}
use Rattle.java_types.specs.declared.types.JParam.{JParam}
use Rattle.java_types.specs.declared.types.JSig.{JSig}
use Rattle.java_types.specs.declared.types.JSig.TheVariants.{OfClass, OfMethod, OfField}
use Rattle.java_types.specs.Types.{type_text}
use Rattle.java_types.specs.Descriptor.{has_no_params, has_no_throws, is_field_type, field_layer}
use Rattle.java_types.specs.Descriptor.{is_return_type, return_layer, DescriptorSpells}
use Rattle.java_types.specs.Trees.{descriptor_of}
use Rattle.java_types.proofs.Layers.{text_void, text_prim, text_array}
use Rattle.java_types.proofs.Fields.{formals_refused, formals_apart}
use Rattle.java_types.proofs.OneDescriptor.{text_class, of_fields, takes_fields, descriptor_found}
use Rattle.java_types.proofs.OneDescriptor.{descriptor_spelled}
use Rattle.descriptor_scan.specs.Forms.{type_slots, layer_slots, slots, slots_of, parameter_slots}
use Rattle.descriptor_scan.specs.Passing.{IsPassed, HasNone, ArePassed, HasNoParameters}
use Rattle.descriptor_scan.specs.Passing.{first_slots}

abbrev texts : List JType → List ℕ
texts = flat_map type_text

-- ---- parameters

-- the first byte tells the slots
pub slots_first : (t : JType) (more : List ℕ) → is_field_type t ≡ true
    → first_slots (type_text t ++ more) ≡ type_slots t
slots_first t more = of_fields (λ u. first_slots (type_text u ++ more) ≡ type_slots u)
    (λ letter right. ap (λ (s : List ℕ). first_slots (s ++ more)) (text_prim letter)
    ∙ sym (ap layer_slots (type.outs-Prim letter)))
    (λ name right. ap (λ (s : List ℕ). first_slots (s ++ more)) (text_class name)
    ∙ sym (ap layer_slots (type.outs-Named _)))
    (λ inside dims some few right. array inside dims some
    ∙ sym (ap layer_slots (type.outs-Array inside dims)))
    t
  where
    array : (inside : JType) (dims : ℕ) → 1 ≤ dims
        → first_slots (type_text (type.Array inside dims) ++ more) ≡ 1
    array inside zero some = absurd (omega arith)
    array inside (suc rest) some
        = ap (λ (s : List ℕ). first_slots (s ++ more)) (text_array inside (suc rest))

slots_append : (xs ys : List JType) → slots (xs ++ ys) ≡ slots xs + slots ys
slots_append [] ys = omega arith
slots_append (x ∷ xs) ys = let e = slots_append xs ys in omega arith

few_slots : (text : List ℕ) → first_slots text ≤ 2
few_slots [] = omega arith
few_slots (b ∷ text) = by (is_among (codes "DJ") b)
  where
    by : (t : Bool) → (if t then 2 else 1) ≤ 2
    by true = omega arith
    by false = omega arith

field_some : (t : JType) → is_field_type t ≡ true → 1 ≤ length (type_text t)
field_some t right =
    let takes = takes_fields (length (type_text t)) in
    let e : length (type_text t) ≡ length (takes.byte t right ∷ takes.tail t right)
    = ap length (takes.text t right) in omega arith

-- what was passed over so far
pub record SoFar (text rest : List ℕ) (count : ℕ) : Type 0 where
  pub done : List JType
  pub form : list_all is_field_type done ≡ true
  pub whole : text ≡ texts done ++ rest
  pub counted : count ≡ slots done
  pub few : count + 2 * length rest ≤ 2 * length text

pub so_far_start : (text : List ℕ) → SoFar text text 0
so_far_start text = record {
  done = [];
  form = refl;
  whole = refl;
  counted = refl;
  few = omega arith;
}

pub shorter : (rest behind : List ℕ) → IsPassed is_field_type rest behind
    → length behind < length rest
shorter rest behind p =
    let some = field_some p.passed p.form in
    let size : length rest ≡ length (type_text p.passed) + length behind = ap length p.whole
    ∙ length-append (type_text p.passed) behind in omega arith

pub so_far_more : (text rest behind : List ℕ) (count more : ℕ) → SoFar text rest count
    → IsPassed is_field_type rest behind → more ≡ first_slots rest
    → SoFar text behind (count + more)
so_far_more text rest behind count more s p at =
    let here : first_slots rest ≡ type_slots p.passed = ap first_slots p.whole
    ∙ slots_first p.passed behind p.form in
    let sum : slots (s.done ++ p.passed ∷ []) ≡ slots s.done + (type_slots p.passed + 0)
    = slots_append s.done (p.passed ∷ []) in
    let most = few_slots rest in
    let less = shorter rest behind p in
    let few = s.few in
    let counted = s.counted in record {
      done = s.done ++ p.passed ∷ [];
      form = list_all-append is_field_type s.done (p.passed ∷ [])
          ∙ and_from (list_all is_field_type s.done) (is_field_type p.passed && true) s.form
          (and_from (is_field_type p.passed) true p.form refl);
      whole =
          s.whole ∙ ap (λ (x : List ℕ). texts s.done ++ x) (p.whole
          ∙ ap (λ (x : List ℕ). x ++ behind) (sym (append-nil (type_text p.passed))))
          ∙ sym (append_assoc (texts s.done) (texts (p.passed ∷ [])) behind)
          ∙ ap (λ (x : List ℕ). x ++ behind) (sym
          (flat_map-append type_text s.done (p.passed ∷ [])));
      counted = omega arith;
      few = omega arith;
    }

pub slots_fit : (text rest behind : List ℕ) (count more : ℕ) → SoFar text rest count
    → IsPassed is_field_type rest behind → more ≡ first_slots rest → count + more ≤ 2 * length text
slots_fit text rest behind count more s p at = let m
    = so_far_more text rest behind count more s p at in let few = m.few in omega arith

pub all_passed : (text rest behind : List ℕ) (count : ℕ) → SoFar text rest count
    → rest ≡ 41 ∷ behind → ArePassed text behind count
all_passed text rest behind count s front = record {
  passed = s.done;
  form = s.form;
  whole = s.whole
      ∙ ap (λ (x : List ℕ). texts s.done ++ x) front;
  counted = s.counted;
}

pub none_passed : (text rest : List ℕ) (count : ℕ) → SoFar text rest count
    → ((later : List ℕ) → rest ≡ 41 ∷ later → ⊥) → HasNone is_field_type rest →
    HasNoParameters text
none_passed text rest count s other none others more right whole =
    formals_refused s.done others more rest s.form right other (λ t tail form e. none t tail form
    (sym e)) (sym whole ∙ s.whole)

-- ---- results

pub void_result : (text : List ℕ) → text ≡ codes "V"
    → (t : JType) × (is_return_type t ≡ true) × (text ≡ type_text t)
void_result text e = (type.Void, ap return_layer type.outs-Void, e ∙ sym text_void)

field_is_return : (t : JType) → is_field_type t ≡ true → is_return_type t ≡ true
field_is_return t h = by (out-JType t) h
  where
    by : (layer : JType-F JArg JType JPart) → field_layer layer ≡ true → return_layer layer ≡ true
    by JType-F.Void k = refl
    by (JType-F.Prim letter) k = k
    by (JType-F.Named parts) k = k
    by (JType-F.Var name) k = k
    by (JType-F.Array element dims) k = k

pub field_result : (text : List ℕ) → (t : JType) × DescriptorSpells (OfField t) text
    → (t : JType) × (is_return_type t ≡ true) × (text ≡ type_text t)
field_result text s = (s.0, field_is_return s.0 s.1.form, s.1.whole)

-- a result is void or the type of a field
pub result_cases : (text : List ℕ) (t : JType) → is_return_type t ≡ true → text ≡ type_text t
    → (text ≡ codes "V") ⊎ DescriptorSpells (OfField t) text
result_cases text t right whole = by (out-JType t) refl right
  where
    by : (layer : JType-F JArg JType JPart) → out-JType t ≡ layer → return_layer layer ≡ true
        → (text ≡ codes "V") ⊎ DescriptorSpells (OfField t) text
    by JType-F.Void e k = inl (whole
        ∙ ap type_text (sym (roll-out-JType t) ∙ ap roll-JType e ∙ type.rolls-Void) ∙ text_void)
    by (JType-F.Prim letter) e k = inr (record { form = ap field_layer e ∙ k; whole = whole })
    by (JType-F.Named parts) e k = inr (record { form = ap field_layer e ∙ k; whole = whole })
    by (JType-F.Var name) e k = inr (record { form = ap field_layer e ∙ k; whole = whole })
    by (JType-F.Array element dims) e k
        = inr (record { form = ap field_layer e ∙ k; whole = whole })

pub one_byte : (b : ℕ) (text : List ℕ) → length text ≡ 1 → get_or text 0 0 ≡ b → text ≡ b ∷ []
one_byte b [] size e = absurd (omega arith)
one_byte b (c ∷ []) size e = ap (λ (x : ℕ). x ∷ []) e
one_byte b (c ∷ d ∷ text) size e = absurd (omega arith)

pub longer_than_one : (b : ℕ) (text : List ℕ) → 2 ≤ length text → text ≡ b ∷ [] → ⊥
longer_than_one b text h e = absurd (omega (arith, ap length e))

pub result_only : (text : List ℕ) (result : Bool) → (text ≡ codes "V" → ⊥)
    → ((t : JType) → DescriptorSpells (OfField t) text → result ≡ true) → (t : JType)
    → is_return_type t ≡ true → text ≡ type_text t → result ≡ true
result_only text result other only t right whole = by (result_cases text t right whole)
  where
    by : (text ≡ codes "V") ⊎ DescriptorSpells (OfField t) text → result ≡ true
    by (inl e) = absurd (other e)
    by (inr s) = only t s

-- ---- whole descriptors

-- a descriptor of a method has neither type parameters nor thrown types
pub record IsMethod (text : List ℕ) (formals : List JType) (ret : JType) : Type 0 where
  pub all : list_all is_field_type formals ≡ true
  pub is_result : is_return_type ret ≡ true
  pub whole : text ≡ 40 ∷ (texts formals ++ (41 ∷ type_text ret))

pub method_parts : (text : List ℕ) (formals : List JType) (ret : JType)
    → DescriptorSpells (OfMethod [] formals ret []) text → IsMethod text formals ret
method_parts text formals ret s =
    let two = and_parts
    (true && list_all is_field_type formals && is_return_type ret) true s.form in
    let one = and_parts (true && list_all is_field_type formals) (is_return_type ret) two.0 in
    let first = and_parts true (list_all is_field_type formals) one.0 in record {
      all = first.1;
      is_result = one.1;
      whole = s.whole
          ∙ ap (λ (x : List ℕ). 40 ∷ (texts formals ++ (41 ∷ x))) (append-nil (type_text ret));
    }

pub method_spelled : (text formals_text ret_text : List ℕ) (count : ℕ) → text ≡ 40 ∷ formals_text
    → ArePassed formals_text ret_text count
    → (ret : JType) × (is_return_type ret ≡ true) × (ret_text ≡ type_text ret)
    → (formals : List JType) × (ret : JType) × DescriptorSpells (OfMethod [] formals ret []) text ×
    (count ≡ slots formals)
method_spelled text formals_text ret_text count front p r = (
  p.passed,
  r.0,
  record {
    form = and_from (list_all is_field_type p.passed && is_return_type r.0) true (and_from
        (list_all is_field_type p.passed) (is_return_type r.0) p.form r.1) refl;
    whole = front
        ∙ ap (λ (x : List ℕ). 40 ∷ x) (p.whole
        ∙ ap (λ (x : List ℕ). texts p.passed ++ (41 ∷ x))
        (r.2 ∙ sym (append-nil (type_text r.0))));
  },
  p.counted,
)

-- the parameters of a descriptor are those that were passed over
pub same_parameters : (text formals_text ret_text : List ℕ) (count : ℕ) (formals : List JType)
    (ret : JType) → text ≡ 40 ∷ formals_text → ArePassed formals_text ret_text count
    → DescriptorSpells (OfMethod [] formals ret []) text
    → (count ≡ slots formals) × (ret_text ≡ type_text ret) × (is_return_type ret ≡ true)
same_parameters text formals_text ret_text count formals ret front p s =
    let m = method_parts text formals ret s in
    let f : 40 ∷ formals_text ≡ 40 ∷ (texts formals ++ (41 ∷ type_text ret)) = sym front
    ∙ m.whole in
    let tail : formals_text ≡ texts formals ++ (41 ∷ type_text ret) = cc in
    let a = formals_apart p.passed formals ret_text (type_text ret) p.form m.all (sym p.whole
    ∙ tail) in
    (p.counted ∙ ap slots a.0, a.1, m.is_result)

pub no_parameters : (text formals_text : List ℕ) (formals : List JType) (ret : JType)
    → text ≡ 40 ∷ formals_text → HasNoParameters formals_text
    → DescriptorSpells (OfMethod [] formals ret []) text → ⊥
no_parameters text formals_text formals ret front none s =
    let m = method_parts text formals ret s in
    let f : 40 ∷ formals_text ≡ 40 ∷ (texts formals ++ (41 ∷ type_text ret)) = sym front
    ∙ m.whole in
    none formals (type_text ret) m.all (cc)

-- a text that begins otherwise
pub no_method : (text : List ℕ) → ((later : List ℕ) → text ≡ 40 ∷ later → ⊥)
    → (formals : List JType) (ret : JType) → DescriptorSpells (OfMethod [] formals ret []) text → ⊥
no_method text other formals ret s = let m = method_parts text formals ret s in
    other (texts formals ++ (41 ∷ type_text ret)) m.whole

pub by_text : (text : List ℕ) (result : Option ℕ)
    → ((count : ℕ) → result ≡ Some count
    → (formals : List JType) × (ret : JType) × DescriptorSpells (OfMethod [] formals ret []) text ×
    (count ≡ slots formals))
    → ((formals : List JType) (ret : JType) → DescriptorSpells (OfMethod [] formals ret []) text
    → result ≡ Some (slots formals)) → result ≡ parameter_slots text
by_text text (Some count) spelled only =
    let s = spelled count refl in
    ap Some s.3 ∙ sym (ap slots_of (descriptor_found (OfMethod [] s.0 s.1 []) text s.2))
by_text text None spelled only = by (descriptor_of text) refl
  where
    bare : (params : List JParam) (formals : List JType) (ret : JType) (throws : List JType)
        → DescriptorSpells (OfMethod params formals ret throws) text → ⊥
    bare params formals ret throws s =
        let three = and_parts
        (has_no_params params && list_all is_field_type formals && is_return_type ret)
        (has_no_throws throws) s.form in
        let two = and_parts (has_no_params params && list_all is_field_type formals)
        (is_return_type ret) three.0 in
        let one = and_parts (has_no_params params) (list_all is_field_type formals) two.0 in
        plain params throws one.0 three.1 s
      where
        plain : (params : List JParam) (throws : List JType) → has_no_params params ≡ true
            → has_no_throws throws ≡ true
            → DescriptorSpells (OfMethod params formals ret throws) text → ⊥
        plain [] [] e f s = let g = only formals ret s in absurd (cc)
        plain (p ∷ params) throws e f s = false≢true e
        plain [] (t ∷ throws) e f s = false≢true f

    by : (o : Option JSig) → descriptor_of text ≡ o → None ≡ slots_of o
    by None e = refl
    by (Some (OfClass params super interfaces)) e = refl
    by (Some (OfMethod params formals ret throws)) e
        = absurd (bare params formals ret throws
        (descriptor_spelled (OfMethod params formals ret throws) text e))
    by (Some (OfField t)) e = refl

-- what is told where there is none
pub none_by_text : (text : List ℕ)
    → ((formals : List JType) (ret : JType) → DescriptorSpells (OfMethod [] formals ret []) text
    → ⊥) → None ≡ parameter_slots text
none_by_text text none
    = by_text text None (λ count e. absurd (cc)) (λ formals ret s. absurd (none formals ret s))

-- parameters were passed over, and a result is behind them
pub only_so : (text formals_text ret_text : List ℕ) (count : ℕ) → text ≡ 40 ∷ formals_text
    → ArePassed formals_text ret_text count → (formals : List JType) (ret : JType)
    → DescriptorSpells (OfMethod [] formals ret []) text → Some count ≡ Some (slots formals)
only_so text formals_text ret_text count front p formals ret s
    = ap Some (same_parameters text formals_text ret_text count formals ret front p s).0

pub some_by_text : (text formals_text ret_text : List ℕ) (count : ℕ) → text ≡ 40 ∷ formals_text
    → ArePassed formals_text ret_text count
    → (ret : JType) × (is_return_type ret ≡ true) × (ret_text ≡ type_text ret)
    → Some count ≡ parameter_slots text
some_by_text text formals_text ret_text count front p r =
    by_text text (Some count) (λ n e. subst
    (λ (m : ℕ). (formals : List JType) × (ret : JType) × DescriptorSpells
    (OfMethod [] formals ret []) text × (m ≡ slots formals)) (same_Some count n e)
    (method_spelled text formals_text ret_text count front p r))
    (only_so text formals_text ret_text count front p)

-- no result is behind them
pub no_result : (text formals_text ret_text : List ℕ) (count : ℕ) → text ≡ 40 ∷ formals_text
    → ArePassed formals_text ret_text count
    → ((t : JType) → is_return_type t ≡ true → ret_text ≡ type_text t → ⊥)
    → (formals : List JType) (ret : JType) → DescriptorSpells (OfMethod [] formals ret []) text → ⊥
no_result text formals_text ret_text count front p none formals ret s =
    let same = same_parameters text formals_text ret_text count formals ret front p s in
    none ret same.2 same.1
