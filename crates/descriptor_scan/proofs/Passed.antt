-- What is passed over at the front of a text is told by its first bytes.
use Rattle.std.proofs.Common.{◌≡◌, refl, sym, ap, ◌∙◌, subst, ℕ, zero, suc, ◌+◌, ◌-◌, ◌<◌, ◌≤◌}
use Rattle.std.proofs.Common.{◌==◌, Bool, true, false, not, cond, List, [], ◌∷◌, ◌++◌, length}
use Rattle.std.proofs.Common.{get_or, take, drop, replicate, append_assoc, append-nil, Option}
use Rattle.std.proofs.Common.{Some, None, MatchOption, arith}
use Rattle.std.specs.List.{position_or_len, prefix_len}
use Rattle.std.proofs.lemmas.Bool.{false≢true, eqb-true}
use Rattle.std.proofs.lemmas.List.{take-append-drop, take_all}
use Rattle.std.proofs.Math.Seq.{take-append_seam, drop-append_seam}
use Rattle.java_names.specs.Names.{is_class_name}
use Rattle.java_types.specs.declared.types.JType.{JType}
use Rattle.java_types.specs.declared.types.JType.TheVariants as type
use Rattle.java_types.specs.declared.types.JSig.{JSig}
use Rattle.java_types.specs.declared.types.JSig.TheVariants.{OfClass, OfMethod, OfField}
use Rattle.java_types.specs.Types.{type_text}
use Rattle.java_types.specs.Descriptor.{is_primitive, class_named, element_layer, is_element}
use Rattle.java_types.specs.Descriptor.{is_field_type, DescriptorSpells}
use Rattle.java_types.specs.Fronts.{begins_with}
use Rattle.java_types.specs.Trees.{arrayed, ends_class, descriptor_of}
use Rattle.java_types.proofs.Layers.{text_prim}
use Rattle.java_types.proofs.Fronts.{class_name_place, count_brackets, drop_brackets}
use Rattle.java_types.proofs.Fields.{arrayed_text, arrayed_form, FieldView, field_view, class_form}
use Rattle.java_types.proofs.OneDescriptor.{text_class, element_plain, of_elements, fields_apart}
use Rattle.java_types.proofs.OneDescriptor.{descriptor_found, descriptor_spelled}
use Rattle.descriptor_scan.specs.Forms.{is_of_field, is_field_descriptor}
use Rattle.descriptor_scan.specs.Passing.{IsPassed, HasNone, IsNamePassed, HasNoName}

-- ---- dimensions

pub brackets_split : (text : List ℕ) (n : ℕ) → n ≡ prefix_len (λ b. b == 91) text
    → (text ≡ replicate n 91 ++ drop n text) × (begins_with 91 (drop n text) ≡ false)
brackets_split [] zero e = (refl, refl)
brackets_split [] (suc n) e = absurd (omega arith)
brackets_split (b ∷ text) n e = by (b == 91) refl n e (brackets_split text)
  where
    by : (t : Bool) → b == 91 ≡ t → (n : ℕ) → n ≡ cond t (1 + prefix_len (λ b. b == 91) text) 0
        → ((m : ℕ) → m ≡ prefix_len (λ b. b == 91) text
        → (text ≡ replicate m 91 ++ drop m text) × (begins_with 91 (drop m text) ≡ false))
        → (b ∷ text ≡ replicate n 91 ++ drop n (b ∷ text)) × (begins_with 91 (drop n (b ∷ text))
        ≡ false)
    by true is zero e further = absurd (omega arith)
    by true is (suc n) e further =
        let more = further n (omega arith) in
        let head = eqb-true b 91 is in
        (ap (λ (c : ℕ). c ∷ text) head ∙ ap (λ (t : List ℕ). 91 ∷ t) more.0, more.1)
    by false is zero e further = (refl, is)
    by false is (suc n) e further = absurd (omega arith)

pub field_passed : (text inner rest : List ℕ) (dims : ℕ) → dims ≡ prefix_len (λ b. b == 91) text
    → inner ≡ drop dims text → dims ≤ 255 → IsPassed is_element inner rest
    → IsPassed is_field_type text rest
field_passed text inner rest dims is at few p = record {
  passed = arrayed dims p.passed;
  form = arrayed_form dims p.passed few p.form;
  whole =
      (brackets_split text dims is).0
      ∙ ap (λ (t : List ℕ). replicate dims 91 ++ t) (sym at ∙ p.whole)
      ∙ sym (append_assoc (replicate dims 91) (type_text p.passed) rest)
      ∙ ap (λ (t : List ℕ). t ++ rest) (sym (arrayed_text dims p.passed));
}

-- the dimensions and the element of a type at the front
field_front : (text : List ℕ) (t : JType) (more : List ℕ) (v : FieldView t)
    → text ≡ type_text t ++ more
    → (prefix_len (λ b. b == 91) text ≡ v.dims) × (drop v.dims text ≡ type_text v.element ++ more)
field_front text t more v whole =
    let front : text ≡ replicate v.dims 91 ++ (type_text v.element ++ more) = whole
    ∙ ap (λ (s : List ℕ). s ++ more) v.text
    ∙ append_assoc (replicate v.dims 91) (type_text v.element) more in (
      ap (prefix_len (λ b. b == 91)) front
          ∙ count_brackets v.dims (type_text v.element ++ more)
          ((element_plain v.element v.form).1 more),
      ap (drop v.dims) front
          ∙ drop_brackets v.dims (type_text v.element ++ more),
    )

pub too_many : (text : List ℕ) (dims : ℕ) → dims ≡ prefix_len (λ b. b == 91) text → 255 < dims
    → HasNone is_field_type text
too_many text dims is many t more form whole =
    let v = field_view t form in
    let few = v.few in
    let same : dims ≡ v.dims = is ∙ (field_front text t more v whole).0 in
    absurd (omega arith)

pub no_field : (text inner : List ℕ) (dims : ℕ) → dims ≡ prefix_len (λ b. b == 91) text
    → inner ≡ drop dims text → HasNone is_element inner → HasNone is_field_type text
no_field text inner dims is at none t more form whole =
    let v = field_view t form in
    let f = field_front text t more v whole in
    none v.element more v.form (at ∙ ap (λ (n : ℕ). drop n text) (is ∙ f.0) ∙ f.1)

-- ---- elements

-- what is behind the first byte, as a slice says it
abbrev pub tail_of : List ℕ → List ℕ
tail_of text = take (length text - 1) (drop 1 text)

pub first_byte : (b : ℕ) (text : List ℕ) → 1 ≤ length text → get_or text 0 0 ≡ b
    → text ≡ b ∷ tail_of text
first_byte b [] some e = absurd (omega arith)
first_byte b (c ∷ text) some e = ap (λ (x : ℕ). x ∷ text) e
    ∙ ap (λ (t : List ℕ). b ∷ t) (sym (take_all (suc (length text) - 1) text (omega arith)))

pub otherwise_at_end : (b : ℕ) (text : List ℕ) → length text < 1 → (later : List ℕ)
    → text ≡ b ∷ later → ⊥
otherwise_at_end b text h later is = absurd (omega (arith, ap length is))

pub otherwise_at : (b : ℕ) (text : List ℕ) → (get_or text 0 0 ≡ b → ⊥) → (later : List ℕ)
    → text ≡ b ∷ later → ⊥
otherwise_at b text h later is = h (ap (λ (t : List ℕ). get_or t 0 0) is)

-- the answer of a part, handed on
pub handed : {A : Type 0} {P Q : Type 0} {F G : A → Type 0} → (P → Q) → ((x : A) → F x → G x)
    → (r : Option A) → MatchOption r P F → MatchOption r Q G
handed none some None h = none h
handed none some (Some x) h = some x h

pub class_passed : (text inner rest : List ℕ) → text ≡ 76 ∷ inner → IsNamePassed inner rest
    → IsPassed is_element text rest
class_passed text inner rest front p = record {
  passed = class_named p.passed;
  form = class_form p.passed p.form;
  whole = front ∙ ap (λ (t : List ℕ). 76 ∷ t)
      (p.whole ∙ sym (append_assoc p.passed (59 ∷ []) rest))
      ∙ ap (λ (t : List ℕ). t ++ rest) (sym (text_class p.passed));
}

pub letter_passed : (text rest : List ℕ) (letter : ℕ) → text ≡ letter ∷ rest
    → is_primitive letter ≡ true → IsPassed is_element text rest
letter_passed text rest letter front right = record {
  passed = type.Prim letter;
  form = ap element_layer (type.outs-Prim letter) ∙ right;
  whole = front ∙ ap (λ (t : List ℕ). t ++ rest) (sym (text_prim letter));
}

-- what an element begins with
begins_so : (text : List ℕ)
    → ((letter : ℕ) (more : List ℕ) → is_primitive letter ≡ true → text ≡ letter ∷ more → ⊥)
    → ((name more : List ℕ) → is_class_name name ≡ true → text ≡ 76 ∷ (name ++ (59 ∷ more)) → ⊥)
    → HasNone is_element text
begins_so text no_letter no_class t more form =
    of_elements (λ (u : JType). text ≡ type_text u ++ more → ⊥)
    (λ letter right whole. no_letter letter more right (whole
    ∙ ap (λ (s : List ℕ). s ++ more) (text_prim letter)))
    (λ name right whole. no_class name more right (whole
    ∙ ap (λ (s : List ℕ). s ++ more) (text_class name)
    ∙ ap (λ (s : List ℕ). 76 ∷ s) (append_assoc name (59 ∷ []) more)))
    t form

pub no_class : (text inner : List ℕ) → text ≡ 76 ∷ inner → HasNoName inner →
    HasNone is_element text
no_class text inner front none = begins_so text
    (λ letter more right e. let f : 76 ∷ inner ≡ letter ∷ more = sym front
    ∙ e in let same : letter ≡ 76 = cc in false≢true (sym (ap is_primitive same) ∙ right))
    (λ name more right e. let f : 76 ∷ inner ≡ 76 ∷ (name ++ (59 ∷ more)) = sym front
    ∙ e in none name more right (cc))

pub no_letter : (text : List ℕ) → 1 ≤ length text → (get_or text 0 0 ≡ 76 → ⊥)
    → is_primitive (get_or text 0 0) ≡ false → HasNone is_element text
no_letter text some other fails = begins_so text
    (λ letter more right e. false≢true (sym fails
    ∙ ap (λ (t : List ℕ). is_primitive (get_or t 0 0)) e ∙ right))
    (λ name more right e. other (ap (λ (t : List ℕ). get_or t 0 0) e))

pub no_byte : (text : List ℕ) → length text < 1 → HasNone is_element text
no_byte text empty
    = begins_so text (λ letter more right e. absurd
    (omega (arith, ap length e))) (λ name more right e. absurd (omega (arith, ap length e)))

-- ---- names

first_passes : (test : ℕ → Bool) (text : List ℕ) (b : ℕ) (rest : List ℕ)
    → drop (position_or_len test text) text ≡ b ∷ rest → test b ≡ true
first_passes test [] b rest e = absurd (cc)
first_passes test (c ∷ text) b rest e = by (test c) refl e (first_passes test text b rest)
  where
    by : (t : Bool) → test c ≡ t
        → drop (cond (not t) (1 + position_or_len test text) 0) (c ∷ text) ≡ b ∷ rest
        → (drop (position_or_len test text) text ≡ b ∷ rest → test b ≡ true) → test b ≡ true
    by true is e further = let same : c ≡ b = cc in ap test (sym same) ∙ is
    by false is e further = further (subst (λ (n : ℕ). drop n (c ∷ text) ≡ b ∷ rest) next e)
      where
        next : 1 + position_or_len test text ≡ suc (position_or_len test text)
        next = omega arith

pub name_passed : (text name behind rest : List ℕ) (k b : ℕ) → k ≡ position_or_len ends_class text
    → name ≡ take k text → behind ≡ drop k text → behind ≡ b ∷ rest → is_class_name name ≡ true
    → IsNamePassed text rest
name_passed text name behind rest k b at front back cut right =
    let ends : b ≡ 59
    = eqb-true b 59 (first_passes ends_class text b rest (ap (λ (n : ℕ). drop n text) (sym at)
    ∙ sym back ∙ cut)) in record {
      passed = name;
      form = right;
      whole = sym (take-append-drop k text) ∙ ap (λ (t : List ℕ). t ++ drop k text) (sym front)
          ∙ ap (λ (t : List ℕ). name ++ t) (sym back ∙ cut)
          ∙ ap (λ (c : ℕ). name ++ (c ∷ rest)) ends;
    }

-- the name at the front is the one that is cut off
named : (text name behind : List ℕ) (k : ℕ) → k ≡ position_or_len ends_class text
    → name ≡ take k text → behind ≡ drop k text → (other more : List ℕ) → is_class_name other
    ≡ true
    → text ≡ other ++ (59 ∷ more) → (name ≡ other) × (behind ≡ 59 ∷ more)
named text name behind k at front back other more right whole =
    let size : k ≡ length other = at ∙ ap (position_or_len ends_class) whole
    ∙ class_name_place other more right in (
      front ∙ ap (λ (n : ℕ). take n text) size ∙ ap (take (length other)) whole
          ∙ take-append_seam other (59 ∷ more),
      back ∙ ap (λ (n : ℕ). drop n text) size ∙ ap (drop (length other)) whole
          ∙ drop-append_seam other (59 ∷ more),
    )

pub not_named : (text name behind : List ℕ) (k : ℕ) → k ≡ position_or_len ends_class text
    → name ≡ take k text → behind ≡ drop k text → is_class_name name ≡ false → HasNoName text
not_named text name behind k at front back wrong other more right whole =
    let n = named text name behind k at front back other more right whole in false≢true (sym wrong
    ∙ ap is_class_name n.0 ∙ right)

pub not_ended : (text name behind : List ℕ) (k : ℕ) → k ≡ position_or_len ends_class text
    → name ≡ take k text → behind ≡ drop k text → length behind < 1 → HasNoName text
not_ended text name behind k at front back empty other more right whole =
    let n = named text name behind k at front back other more right whole in
    absurd (omega (arith, ap length n.1))

-- ---- whole texts

pub field_spelled : (text rest : List ℕ) → IsPassed is_field_type text rest → rest ≡ []
    → (t : JType) × DescriptorSpells (OfField t) text
field_spelled text rest p e
    = (
      p.passed,
      record {
        form = p.form;
        whole = p.whole
            ∙ ap (λ (s : List ℕ). type_text p.passed ++ s) e ∙ append-nil (type_text p.passed);
      },
    )

pub field_ends : (text rest : List ℕ) → IsPassed is_field_type text rest → (t : JType)
    → DescriptorSpells (OfField t) text → rest ≡ []
field_ends text rest p t s =
    (fields_apart p.passed t rest [] p.form s.form (sym p.whole ∙ s.whole
    ∙ sym (append-nil (type_text t)))).1

pub field_none : (text : List ℕ) → HasNone is_field_type text → (t : JType)
    → DescriptorSpells (OfField t) text → ⊥
field_none text none t s = none t [] s.form (s.whole ∙ sym (append-nil (type_text t)))

pub by_text : (text : List ℕ) (result : Bool)
    → (result ≡ true → (t : JType) × DescriptorSpells (OfField t) text)
    → ((t : JType) → DescriptorSpells (OfField t) text → result ≡ true)
    → result ≡ is_field_descriptor text
by_text text true spelled only = let s = spelled refl in
    sym (ap is_of_field (descriptor_found (OfField s.0) text s.1))
by_text text false spelled only = by (descriptor_of text) refl
  where
    by : (o : Option JSig) → descriptor_of text ≡ o → false ≡ is_of_field o
    by None e = refl
    by (Some (OfClass params super interfaces)) e = refl
    by (Some (OfMethod params formals ret throws)) e = refl
    by (Some (OfField t)) e = absurd (false≢true (only t (descriptor_spelled (OfField t) text e)))
