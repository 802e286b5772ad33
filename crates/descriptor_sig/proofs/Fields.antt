-- The types of fields, by their dimensions and elements.
use Rattle.std.proofs.Common.{◌≡◌, refl, ap, sym, subst, ◌∙◌, ℕ, ◌<◌, ◌≤◌, Bool, true, false}
use Rattle.std.proofs.Common.{◌||◌, eqb, List, [], ◌∷◌, ◌++◌, length, zero, suc, get_or}
use Rattle.std.proofs.Common.{replicate, append_assoc, append-nil, length-append, arith}
use Rattle.std.specs.Prelude.{codes}
use Rattle.std.proofs.lemmas.Bool.{and_parts, or_left, or_from, false≢true, ne_eqb}
use Rattle.java_types.specs.declared.types.JType.{JType, out-JType, roll-JType, roll-out-JType}
use Rattle.java_types.specs.declared.types.JType.TheVariants as type
use Rattle.java_types.specs.declared.types.JPart.{JPart, out-JPart, roll-JPart, roll-out-JPart}
use Rattle.java_types.specs.declared.types.JArg.{JArg}
use Rattle.java_types.specs.declared.types.JArg.TheOpen.{JType-F}
use Rattle.java_names.specs.Names.{is_among, is_class_name}
use Rattle.java_types.specs.Types.{type_text}
use Rattle.java_types.specs.Descriptor.{is_primitive, class_named, has_no_args, plain_part}
use Rattle.java_types.specs.Descriptor.{is_plain_class, element_layer, is_element, is_field_type}
use Rattle.java_types.specs.Trees.{arrayed}
use Rattle.java_types.proofs.Fields.{arrayed_text, arrayed_form, field_view, class_form}
use Rattle.java_types.proofs.OneDescriptor.{text_class}
use Rattle.java_types.proofs.Layers.{text_prim}
use Rattle.descriptor_sig.specs.Parts.{BeginsOtherwise, NameSpells, ElementSpells, FieldSpells}
use Rattle.descriptor_sig.specs.Parts.{IsRead, IsStuck, as_left, AreAll, AreTooMany}

-- ---- what is left of a text begins as before

pub begins_as : (b : ℕ) (front left later : List ℕ) → BeginsOtherwise b (front ++ left)
    → BeginsOtherwise b (front ++ as_left left later)
begins_as b [] [] later h more e = absurd cc
begins_as b [] (a ∷ left) later h more e =
    h left (let f : a ≡ b = cc in ap (λ (k : ℕ). k ∷ left) f)
begins_as b (a ∷ front) left later h more e =
    h (front ++ left) (let f : a ≡ b = cc in ap (λ (k : ℕ). k ∷ (front ++ left)) f)

-- ---- elements

pub data ElementView (t : JType) : Type 0 where
  primitive : (letter : ℕ) → t ≡ type.Prim letter → is_primitive letter ≡ true
      → type_text t ≡ letter ∷ [] → ElementView t
  class : (name : List ℕ) → t ≡ class_named name → is_class_name name ≡ true
      → type_text t ≡ 76 ∷ (name ++ (59 ∷ [])) → ElementView t

part_view : (p : JPart) → plain_part (out-JPart p) ≡ true
    → (name : List ℕ) × (p ≡ roll-JPart (record { name = name; args = [] }))
    × (is_class_name name ≡ true)
part_view p h =
    let both = and_parts (is_class_name (out-JPart p).name) (has_no_args (out-JPart p).args) h in
    by (out-JPart p).args refl both.1 both.0
  where
    by : (args : List JArg) → (out-JPart p).args ≡ args → has_no_args args ≡ true
        → is_class_name (out-JPart p).name ≡ true
        → (name : List ℕ) × (p ≡ roll-JPart (record { name = name; args = [] }))
        × (is_class_name name ≡ true)
    by [] e a n = (
      (out-JPart p).name,
      sym (roll-out-JPart p)
          ∙ ap (λ (args : List JArg). roll-JPart
          (record { name = (out-JPart p).name; args = args }))
          e,
      n,
    )
    by (arg ∷ args) e a n = absurd cc

class_view : (parts : List JPart) → is_plain_class parts ≡ true
    → (name : List ℕ) × (type.Named parts ≡ class_named name) × (is_class_name name ≡ true)
class_view [] h = absurd cc
class_view (p ∷ []) h = let v = part_view p h in
    (v.0, ap (λ (x : JPart). type.Named (x ∷ [])) v.1, v.2)
class_view (p ∷ q ∷ parts) h = absurd cc

pub element_view : (t : JType) → is_element t ≡ true → ElementView t
element_view t h = by (out-JType t) refl h
  where
    by : (layer : JType-F JArg JType JPart) → out-JType t ≡ layer → element_layer layer ≡ true
        → ElementView t
    by JType-F.Void e k = absurd cc
    by (JType-F.Prim letter) e k =
        let is : t ≡ type.Prim letter = sym (roll-out-JType t) ∙ ap roll-JType e
        ∙ type.rolls-Prim letter in
        primitive letter is k (ap type_text is ∙ text_prim letter)
    by (JType-F.Named parts) e k =
        let v = class_view parts k in
        let is : t ≡ class_named v.0 = sym (roll-out-JType t) ∙ ap roll-JType e
        ∙ type.rolls-Named parts ∙ v.1 in
        class v.0 is v.2 (ap type_text is ∙ text_class v.0)
    by (JType-F.Var name) e k = absurd cc
    by (JType-F.Array element dims) e k = absurd cc

-- the first byte of an element
pub element_begins : (t : JType) (b : ℕ) (more later : List ℕ) → is_element t ≡ true
    → type_text t ++ more ≡ b ∷ later → is_primitive b || is_among (codes "L") b ≡ true
element_begins t b more later h e = by (element_view t h)
  where
    by : ElementView t → is_primitive b || is_among (codes "L") b ≡ true
    by (primitive letter is form text) =
        let f : letter ∷ more ≡ b ∷ later = sym (ap (λ (s : List ℕ). s ++ more) text) ∙ e in
        let g : letter ≡ b = cc in
        or_left (is_primitive b) (is_among (codes "L") b)
        (subst (λ k. is_primitive k ≡ true) g form)
    by (class name is form text) =
        let f : 76 ∷ ((name ++ (59 ∷ [])) ++ more)
        ≡ b ∷ later = sym (ap (λ (s : List ℕ). s ++ more) text) ∙ e in
        let g : 76 ≡ b = cc in
        subst (λ k. is_primitive k || is_among (codes "L") k ≡ true) g refl

pub element_some : (t : JType) (more : List ℕ) → is_element t ≡ true → type_text t ++ more ≡ [] → ⊥
element_some t more h e = by (element_view t h)
  where
    by : ElementView t → ⊥
    by (primitive letter is form text) =
        let f : letter ∷ more ≡ [] = sym (ap (λ (s : List ℕ). s ++ more) text) ∙ e in absurd cc
    by (class name is form text) =
        let f : 76 ∷ ((name ++ (59 ∷ [])) ++ more) ≡ [] = sym (ap (λ (s : List ℕ). s ++ more) text)
        ∙ e in absurd cc

-- ---- dimensions

element_no_bracket : (t : JType) (more : List ℕ) → is_element t ≡ true
    → BeginsOtherwise 91 (type_text t ++ more)
element_no_bracket t more h later e = false≢true (element_begins t 91 more later h e)

-- the first byte of a field's type
abbrev pub begins_field : ℕ → Bool
begins_field b = is_primitive b || is_among (codes "L") b || is_among (codes "[") b

pub field_begins : (t : JType) (b : ℕ) (more later : List ℕ) → is_field_type t ≡ true
    → type_text t ++ more ≡ b ∷ later → begins_field b ≡ true
field_begins t b more later h e = let v = field_view t h in
    by v.dims v.element v.form (sym (ap (λ (s : List ℕ). s ++ more) v.text) ∙ e)
  where
    by : (dims : ℕ) (element : JType) → is_element element ≡ true
        → (replicate dims 91 ++ type_text element) ++ more ≡ b ∷ later → begins_field b ≡ true
    by zero element k f =
        or_left (is_primitive b || is_among (codes "L") b) (is_among (codes "[") b)
        (element_begins element b more later k f)
    by (suc dims) element k f = let g : 91 ≡ b = cc in subst (λ x. begins_field x ≡ true) g refl

-- ---- reading an element

pub read_primitive : (letter : ℕ) (text left : List ℕ) → text ≡ letter ∷ left
    → is_primitive letter ≡ true → IsRead ElementSpells text left (type.Prim letter)
read_primitive letter text left e h = record {
  front = letter ∷ [];
  whole = e;
  spells =
      record {
        form = ap element_layer (type.outs-Prim letter) ∙ h;
        whole = sym (text_prim letter);
      };
}

class_spelled : (name front : List ℕ) → NameSpells name front
    → ElementSpells (class_named name) (76 ∷ front)
class_spelled name front s =
    record {
      form = class_form name s.form;
      whole = ap (λ (t : List ℕ). 76 ∷ t) s.whole ∙ sym (text_class name);
    }

pub read_class : (name text inner left : List ℕ) → text ≡ 76 ∷ inner
    → IsRead NameSpells inner left name → IsRead ElementSpells text left (class_named name)
read_class name text inner left e r = record {
  front = 76 ∷ r.front;
  whole = e ∙ ap (λ (t : List ℕ). 76 ∷ t) r.whole;
  spells = class_spelled name r.front r.spells;
}

pub stuck_class : (text inner left : List ℕ) → text ≡ 76 ∷ inner → IsStuck NameSpells inner left
    → IsStuck ElementSpells text left
stuck_class text inner left e s = record {
  front = 76 ∷ s.front;
  whole = e ∙ ap (λ (t : List ℕ). 76 ∷ t) s.whole;
  begun =
      (class_named s.begun.0, s.begun.1, class_spelled s.begun.0 (s.front ++ s.begun.1) s.begun.2);
  refused =
      λ item spelled more later sp f. by item more later (element_view item sp.form)
      (ap (λ (t : List ℕ). t ++ more) (sym sp.whole) ∙ f);
}
  where
    by : (item : JType) (more later : List ℕ) → ElementView item
        → type_text item ++ more ≡ 76 ∷ (s.front ++ as_left left later) → ⊥
    by item more later (primitive letter is form text) f =
        let g : letter ∷ more ≡ 76 ∷ (s.front ++ as_left left later) = sym
        (ap (λ (t : List ℕ). t ++ more) text) ∙ f in
        let k : letter ≡ 76 = cc in
        false≢true (subst (λ b. is_primitive b ≡ true) k form)
    by item more later (class name is form text) f =
        let g : 76 ∷ ((name ++ (59 ∷ [])) ++ more)
        ≡ 76 ∷ (s.front ++ as_left left later) =
        sym (ap (λ (t : List ℕ). t ++ more) text) ∙ f in
        s.refused name (name ++ (59 ∷ [])) more later (record { form = form; whole = refl }) cc

-- nothing to read as an element
pub stuck_element : (text : List ℕ)
    → ((b : ℕ) (later : List ℕ) → text ≡ b ∷ later
    → is_primitive b || is_among (codes "L") b ≡ false) → IsStuck ElementSpells text text
stuck_element text h = record {
  front = [];
  whole = refl;
  begun = (
    type.Prim 73,
    73 ∷ [],
    record {
      form = ap element_layer (type.outs-Prim 73);
      whole = sym (text_prim 73);
    },
  );
  refused =
      λ item spelled more later sp e. by item more later text refl sp.form
      (ap (λ (t : List ℕ). t ++ more) (sym sp.whole) ∙ e);
}
  where
    by : (item : JType) (more later left : List ℕ) → text ≡ left → is_element item ≡ true
        → type_text item ++ more ≡ as_left left later → ⊥
    by item more later [] e form f = element_some item more form f
    by item more later (b ∷ left) e form f =
        false≢true (sym (h b left e) ∙ element_begins item b more later form f)

pub stuck_at_end : (text : List ℕ) → length text < 1 → IsStuck ElementSpells text text
stuck_at_end text h = stuck_element text (λ b later is. absurd (omega (arith, ap length is)))

pub stuck_at : (text : List ℕ) → (get_or text 0 0 ≡ 76 → ⊥) → is_primitive (get_or text 0 0)
    ≡ false
    → IsStuck ElementSpells text text
stuck_at text no_class no_primitive = stuck_element text (λ b later is.
    let f : get_or text 0 0 ≡ b = ap (λ (t : List ℕ). get_or t 0 0) is in
    subst (λ k. is_primitive k || is_among (codes "L") k ≡ false) f
    (or_from (is_primitive (get_or text 0 0)) (is_among (codes "L") (get_or text 0 0))
    no_primitive (or_from (eqb 76 (get_or text 0 0)) false
    (ne_eqb 76 (get_or text 0 0) (λ e. no_class (sym e))) refl)))

-- ---- reading the type of a field

pub read_field : (dims : ℕ) (element : JType) (text inner left : List ℕ) → AreAll text inner dims
    → IsRead ElementSpells inner left element → IsRead FieldSpells text left (arrayed dims element)
read_field dims element text inner left a r = record {
  front = replicate dims 91 ++ r.front;
  whole =
      a.whole ∙ ap (λ (t : List ℕ). replicate dims 91 ++ t) r.whole
      ∙ sym (append_assoc (replicate dims 91) r.front left);
  spells = record {
    form = arrayed_form dims element a.few r.spells.form;
    whole =
        ap (λ (t : List ℕ). replicate dims 91 ++ t) r.spells.whole
        ∙ sym (arrayed_text dims element);
  };
}

pub read_array : (dims : ℕ) (element array : JType) (text inner left : List ℕ) → (dims ≡ 0 → ⊥)
    → array ≡ element → AreAll text inner dims → IsRead ElementSpells inner left element
    → IsRead FieldSpells text left (type.Array array dims)
read_array zero element array text inner left n is a r = absurd (n refl)
read_array (suc more) element array text inner left n is a r =
    subst (λ (t : JType). IsRead FieldSpells text left (type.Array t (suc more))) (sym is)
    (read_field (suc more) element text inner left a r)

-- an element under too many dimensions
too_deep : (d k : ℕ) (t : JType) (more later : List ℕ) → d ≤ k → is_element t ≡ true
    → (replicate d 91 ++ type_text t) ++ more ≡ replicate k 91 ++ (91 ∷ later) → ⊥
too_deep zero zero t more later le h e = element_no_bracket t more h later e
too_deep zero (suc k) t more later le h e = element_no_bracket t more h _ e
too_deep (suc d) zero t more later le h e = absurd (omega arith)
too_deep (suc d) (suc k) t more later le h e = too_deep d k t more later (omega arith) h cc

pub stuck_dimensions : (text left : List ℕ) → AreTooMany text left → IsStuck FieldSpells text left
stuck_dimensions text left a = record {
  front = replicate a.dims 91;
  whole = a.whole;
  begun = (
    arrayed a.dims (type.Prim 73),
    73 ∷ [],
    record {
      form =
          arrayed_form a.dims (type.Prim 73) (omega (arith, a.most))
          (ap element_layer (type.outs-Prim 73));
      whole =
          ap (λ (t : List ℕ). replicate a.dims 91 ++ t) (sym (text_prim 73))
          ∙ sym (arrayed_text a.dims (type.Prim 73));
    },
  );
  refused = λ item spelled more later sp e.
      let v = field_view item sp.form in
      too_deep v.dims a.dims v.element more later (omega (arith, v.few, a.most)) v.form
      (ap (λ (t : List ℕ). t ++ more) (sym (sp.whole ∙ v.text)) ∙ e
      ∙ ap (λ (t : List ℕ). replicate a.dims 91 ++ as_left t later) a.next);
}

-- an element behind as many brackets as there are
same_brackets : (d k : ℕ) (t : JType) (more tail : List ℕ) → is_element t ≡ true
    → BeginsOtherwise 91 tail → (replicate d 91 ++ type_text t) ++ more ≡ replicate k 91 ++ tail
    → type_text t ++ more ≡ tail
same_brackets zero zero t more tail h n e = e
same_brackets zero (suc k) t more tail h n e = absurd (element_no_bracket t more h _ e)
same_brackets (suc d) zero t more tail h n e = absurd (n _ (sym e))
same_brackets (suc d) (suc k) t more tail h n e = same_brackets d k t more tail h n cc

pub stuck_field : (dims : ℕ) (text inner left : List ℕ) → AreAll text inner dims
    → IsStuck ElementSpells inner left → IsStuck FieldSpells text left
stuck_field dims text inner left a s = record {
  front = replicate dims 91 ++ s.front;
  whole =
      a.whole ∙ ap (λ (t : List ℕ). replicate dims 91 ++ t) s.whole
      ∙ sym (append_assoc (replicate dims 91) s.front left);
  begun = (
    arrayed dims s.begun.0,
    s.begun.1,
    record {
      form = arrayed_form dims s.begun.0 a.few s.begun.2.form;
      whole =
          append_assoc (replicate dims 91) s.front s.begun.1
          ∙ ap (λ (t : List ℕ). replicate dims 91 ++ t) s.begun.2.whole
          ∙ sym (arrayed_text dims s.begun.0);
    },
  );
  refused = λ item spelled more later sp e.
      let v = field_view item sp.form in
      let n : BeginsOtherwise 91 (s.front ++ as_left left later) = begins_as 91 s.front left later
      (subst (BeginsOtherwise 91) s.whole a.next) in
      s.refused v.element (type_text v.element) more later (record { form = v.form; whole = refl })
      (same_brackets v.dims dims v.element more (s.front ++ as_left left later) v.form n
      (ap (λ (t : List ℕ). t ++ more) (sym (sp.whole ∙ v.text)) ∙ e
      ∙ append_assoc (replicate dims 91) s.front (as_left left later)));
}

pub read_smaller : (t : JType) (text left : List ℕ) → IsRead FieldSpells text left t
    → length left < length text
read_smaller t text left r = by r.front refl
  where
    by : (front : List ℕ) → r.front ≡ front → length left < length text
    by [] e =
        let v = field_view t r.spells.form in
        absurd (none v.dims v.element v.form (sym v.text ∙ sym r.spells.whole ∙ e))
      where
        none : (dims : ℕ) (element : JType) → is_element element ≡ true
            → replicate dims 91 ++ type_text element ≡ [] → ⊥
        none zero element h f = element_some element [] h (append-nil (type_text element) ∙ f)
        none (suc dims) element h f = absurd cc
    by (b ∷ front) e = omega (arith, ap length r.whole, length-append r.front left, ap length e)
