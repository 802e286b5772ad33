-- Descriptors, from the types of fields.
use Rattle.std.proofs.Common.{◌≡◌, refl, ap, sym, subst, ◌∙◌, ℕ, ◌+◌, ◌-◌, ◌<◌, ◌≤◌, true, false}
use Rattle.std.proofs.Common.{◌&&◌, List, [], ◌∷◌, ◌++◌, length, zero, suc, take, drop}
use Rattle.std.proofs.Common.{append_assoc, append-nil, length-append, arith, inl, inr, ◌⊎◌}
use Rattle.std.specs.Prelude.{codes}
use Rattle.std.specs.List.{flat_map, list_all}
use Rattle.std.proofs.lemmas.Bool.{and_parts, and_from, false≢true, cases_lt}
use Rattle.std.proofs.lemmas.List.{take_at}
use Rattle.std.proofs.lemmas.List.Folds.{list_all-append}
use Rattle.std.proofs.lemmas.Grind.{flat_map-append}
use Rattle.java_types.specs.declared.types.JType.{JType, out-JType, roll-JType, roll-out-JType}
use Rattle.java_types.specs.declared.types.JType.TheVariants as type
use Rattle.java_types.specs.declared.types.JPart.{JPart}
use Rattle.java_types.specs.declared.types.JArg.{JArg}
use Rattle.java_types.specs.declared.types.JArg.TheOpen.{JType-F}
use Rattle.java_types.specs.declared.types.JSig.{JSig}
use Rattle.java_types.specs.declared.types.JSig.TheVariants.{OfClass, OfMethod, OfField}
use Rattle.java_types.specs.Types.{type_text, signature_text}
use Rattle.java_types.specs.Descriptor.{return_layer, is_return_type, field_layer, is_field_type}
use Rattle.java_types.specs.Descriptor.{is_descriptor, DescriptorSpells}
use Rattle.java_types.proofs.Layers.{text_void}
use Rattle.java_types.proofs.Fields.{formals_refused, formals_apart}
use Rattle.java_types.proofs.OneDescriptor.{fields_apart, results_apart, one_descriptor}
use Rattle.descriptor_sig.specs.Parts.{BeginsOtherwise, FieldSpells, ReturnSpells, FormalsSpell}
use Rattle.descriptor_sig.specs.Parts.{MethodSpells, IsRead, IsStuck, as_left, IsOnly}
use Rattle.descriptor_sig.specs.Parts.{IsStuckWhole}
use Rattle.java_types.specs.Spelling.{IsBadText}
use Rattle.descriptor_sig.proofs.Fields.{begins_as, field_begins, begins_field}

-- ---- the result of a method

return_cases : (t : JType) → is_return_type t ≡ true → (t ≡ type.Void) ⊎ (is_field_type t ≡ true)
return_cases t h = by (out-JType t) refl h
  where
    by : (layer : JType-F JArg JType JPart) → out-JType t ≡ layer → return_layer layer ≡ true
        → (t ≡ type.Void) ⊎ (is_field_type t ≡ true)
    by JType-F.Void e k = inl (sym (roll-out-JType t) ∙ ap roll-JType e ∙ type.rolls-Void)
    by (JType-F.Prim letter) e k = inr (ap field_layer e ∙ k)
    by (JType-F.Named parts) e k = inr (ap field_layer e ∙ k)
    by (JType-F.Var name) e k = inr (ap field_layer e ∙ k)
    by (JType-F.Array element dims) e k = inr (ap field_layer e ∙ k)

field_is_return : (t : JType) → is_field_type t ≡ true → is_return_type t ≡ true
field_is_return t h = by (out-JType t) h
  where
    by : (layer : JType-F JArg JType JPart) → field_layer layer ≡ true → return_layer layer ≡ true
    by JType-F.Void k = refl
    by (JType-F.Prim letter) k = k
    by (JType-F.Named parts) k = k
    by (JType-F.Var name) k = k
    by (JType-F.Array element dims) k = k

void_begins : (t : JType) (more : List ℕ) → t ≡ type.Void → type_text t ++ more ≡ 86 ∷ more
void_begins t more is =
    ap (λ (x : JType). type_text x ++ more) is ∙ ap (λ (s : List ℕ). s ++ more) text_void

field_not : (b : ℕ) (t : JType) (more : List ℕ) → begins_field b ≡ false → is_field_type t ≡ true
    → BeginsOtherwise b (type_text t ++ more)
field_not b t more none h later e = false≢true (sym none ∙ field_begins t b more later h e)

pub read_void : (text left : List ℕ) → text ≡ 86 ∷ left → IsRead ReturnSpells text left type.Void
read_void text left e =
    record {
      front = 86 ∷ [];
      whole = e;
      spells = record { form = ap return_layer type.outs-Void; whole = sym text_void };
    }

pub read_returned : (t : JType) (text left : List ℕ) → IsRead FieldSpells text left t
    → IsRead ReturnSpells text left t
read_returned t text left r =
    record {
      front = r.front;
      whole = r.whole;
      spells = record { form = field_is_return t r.spells.form; whole = r.spells.whole };
    }

pub stuck_returned : (text left : List ℕ) → BeginsOtherwise 86 text → IsStuck FieldSpells text left
    → IsStuck ReturnSpells text left
stuck_returned text left n s = record {
  front = s.front;
  whole = s.whole;
  begun = (
    s.begun.0,
    s.begun.1,
    record {
      form = field_is_return s.begun.0 s.begun.2.form;
      whole = s.begun.2.whole;
    },
  );
  refused =
      λ item spelled more later sp e. by item spelled more later sp e (return_cases item sp.form);
}
  where
    by : (item : JType) (spelled more later : List ℕ) → ReturnSpells item spelled
        → spelled ++ more ≡ s.front ++ as_left left later
        → (item ≡ type.Void) ⊎ (is_field_type item ≡ true) → ⊥
    by item spelled more later sp e (inl v) =
        begins_as 86 s.front left later (subst (BeginsOtherwise 86) s.whole n) more
        (sym e ∙ ap (λ (t : List ℕ). t ++ more) sp.whole ∙ void_begins item more v)
    by item spelled more later sp e (inr f) =
        s.refused item spelled more later (record { form = f; whole = sp.whole }) e

-- ---- the types of parameters

abbrev texts : List JType → List ℕ
texts = flat_map type_text

pub record FormalsSoFar (formals : List JType) (text left : List ℕ) : Type 0 where
  pub form : list_all is_field_type formals ≡ true
  pub whole : text ≡ texts formals ++ left

pub formals_start : (text : List ℕ) → FormalsSoFar [] text text
formals_start text = record { form = refl; whole = refl }

pub formals_more : (formals : List JType) (t : JType) (text inner left : List ℕ)
    → FormalsSoFar formals text inner → IsRead FieldSpells inner left t
    → FormalsSoFar (formals ++ t ∷ []) text left
formals_more formals t text inner left s r = record {
  form =
      list_all-append is_field_type formals (t ∷ [])
      ∙ and_from (list_all is_field_type formals) (is_field_type t && true) s.form
      (and_from (is_field_type t) true r.spells.form refl);
  whole =
      s.whole ∙ ap (λ (x : List ℕ). texts formals ++ x)
      (r.whole ∙ ap (λ (x : List ℕ). x ++ left) (r.spells.whole ∙ sym (append-nil (type_text t))))
      ∙ sym (append_assoc (texts formals) (texts (t ∷ [])) left)
      ∙ ap (λ (x : List ℕ). x ++ left) (sym (flat_map-append type_text formals (t ∷ [])));
}

pub formals_done : (formals : List JType) (text inner left : List ℕ)
    → FormalsSoFar formals text inner → inner ≡ 41 ∷ left → IsRead FormalsSpell text left formals
formals_done formals text inner left s e = record {
  front = texts formals ++ codes ")";
  whole =
      s.whole ∙ ap (λ (x : List ℕ). texts formals ++ x) e
      ∙ sym (append_assoc (texts formals) (codes ")") left);
  spells = record { form = s.form; whole = refl };
}

pub stuck_formals : (formals : List JType) (text inner left : List ℕ)
    → FormalsSoFar formals text inner → BeginsOtherwise 41 inner → IsStuck FieldSpells inner left
    → IsStuck FormalsSpell text left
stuck_formals formals text inner left f n s =
    let item = s.begun.0 in
    record {
      front = texts formals ++ s.front;
      whole =
          f.whole ∙ ap (λ (x : List ℕ). texts formals ++ x) s.whole
          ∙ sym (append_assoc (texts formals) s.front left);
      begun = (
        formals ++ item ∷ [],
        s.begun.1 ++ codes ")",
        record {
          form =
              list_all-append is_field_type formals (item ∷ [])
              ∙ and_from (list_all is_field_type formals) (is_field_type item && true) f.form
              (and_from (is_field_type item) true s.begun.2.form refl);
          whole = begun_text;
        },
      );
      refused =
          λ others spelled more later sp e. formals_refused formals others more
          (s.front ++ as_left left later) f.form sp.form
          (begins_as 41 s.front left later (subst (BeginsOtherwise 41) s.whole n))
          (λ t rest h g. s.refused t (type_text t) rest later (record { form = h; whole = refl })
          g)
          (sym (append_assoc (texts others) (codes ")") more)
          ∙ ap (λ (x : List ℕ). x ++ more) (sym sp.whole) ∙ e
          ∙ append_assoc (texts formals) s.front (as_left left later));
    }
  where
    begun_text : (texts formals ++ s.front) ++ (s.begun.1 ++ codes ")")
        ≡ texts (formals ++ s.begun.0 ∷ []) ++ codes ")"
    begun_text =
        append_assoc (texts formals) s.front (s.begun.1 ++ codes ")")
        ∙ ap (λ (x : List ℕ). texts formals ++ x)
        (sym (append_assoc s.front s.begun.1 (codes ")"))
        ∙ ap (λ (x : List ℕ). x ++ codes ")")
        (s.begun.2.whole ∙ sym (append-nil (type_text s.begun.0))))
        ∙ sym (append_assoc (texts formals) (texts (s.begun.0 ∷ [])) (codes ")"))
        ∙ ap (λ (x : List ℕ). x ++ codes ")")
        (sym (flat_map-append type_text formals (s.begun.0 ∷ [])))

-- ---- the descriptor of a method

abbrev pub method_of : List JType → JType → JSig
method_of formals ret = OfMethod [] formals ret []

method_form : (formals : List JType) (ret : JType) → list_all is_field_type formals ≡ true
    → is_return_type ret ≡ true → is_descriptor (method_of formals ret) ≡ true
method_form formals ret f r =
    and_from (list_all is_field_type formals && is_return_type ret) true
    (and_from (list_all is_field_type formals) (is_return_type ret) f r) refl

method_text : (formals : List JType) (ret : JType)
    → signature_text (method_of formals ret) ≡ 40 ∷ ((texts formals ++ codes ")") ++ type_text ret)
method_text formals ret =
    ap (λ (x : List ℕ). 40 ∷ (texts formals ++ (41 ∷ x))) (append-nil (type_text ret))
    ∙ ap (λ (x : List ℕ). 40 ∷ x) (sym (append_assoc (texts formals) (codes ")") (type_text ret)))

record MethodView (sig : JSig) (text : List ℕ) : Type 0 where
  formals : List JType
  ret : JType
  is : sig ≡ method_of formals ret
  formals_form : list_all is_field_type formals ≡ true
  ret_form : is_return_type ret ≡ true
  whole : text ≡ 40 ∷ ((texts formals ++ codes ")") ++ type_text ret)

record FieldOnly (sig : JSig) (text : List ℕ) : Type 0 where
  t : JType
  is : sig ≡ OfField t
  form : is_field_type t ≡ true
  whole : text ≡ type_text t

descriptor_cases : (sig : JSig) (text : List ℕ) → DescriptorSpells sig text
    → MethodView sig text ⊎ FieldOnly sig text
descriptor_cases (OfClass params super interfaces) text s = absurd (let f = s.form in cc)
descriptor_cases (OfField t) text s =
    inr (record { t = t; is = refl; form = s.form; whole = s.whole })
descriptor_cases (OfMethod (param ∷ params) formals ret throws) text s =
    absurd (let f = s.form in cc)
descriptor_cases (OfMethod [] formals ret (thrown ∷ throws)) text s =
    absurd (false≢true (and_parts (list_all is_field_type formals && is_return_type ret) false
    s.form).1)
descriptor_cases (OfMethod [] formals ret []) text s =
    let p = and_parts (list_all is_field_type formals) (is_return_type ret)
    (and_parts (list_all is_field_type formals && is_return_type ret) true s.form).0 in
    inl (record {
      formals = formals;
      ret = ret;
      is = refl;
      formals_form = p.0;
      ret_form = p.1;
      whole = s.whole ∙ method_text formals ret;
    })

method_spelled : (formals : List JType) (ret : JType) (front rest : List ℕ)
    → FormalsSpell formals front → ReturnSpells ret rest
    → MethodSpells (method_of formals ret) (front ++ rest)
method_spelled formals ret front rest f r = record {
  form = method_form formals ret f.form r.form;
  whole =
      ap (λ (x : List ℕ). 40 ∷ (x ++ rest)) f.whole
      ∙ ap (λ (x : List ℕ). 40 ∷ ((texts formals ++ codes ")") ++ x)) r.whole
      ∙ sym (method_text formals ret);
}

pub read_method : (formals : List JType) (ret : JType) (text inner left : List ℕ)
    → IsRead FormalsSpell text inner formals → IsRead ReturnSpells inner left ret
    → IsRead MethodSpells text left (method_of formals ret)
read_method formals ret text inner left f r = record {
  front = f.front ++ r.front;
  whole =
      f.whole ∙ ap (λ (x : List ℕ). f.front ++ x) r.whole
      ∙ sym (append_assoc f.front r.front left);
  spells = method_spelled formals ret f.front r.front f.spells r.spells;
}

-- what stands behind the ( of a method
behind_paren : (sig : JSig) (spelled : List ℕ) → MethodSpells sig spelled
    → MethodView sig (40 ∷ spelled)
behind_paren sig spelled s = by (descriptor_cases sig (40 ∷ spelled) s)
  where
    by : MethodView sig (40 ∷ spelled) ⊎ FieldOnly sig (40 ∷ spelled)
        → MethodView sig (40 ∷ spelled)
    by (inl v) = v
    by (inr f) =
        absurd (field_not 40 f.t [] refl f.form spelled (append-nil (type_text f.t) ∙ sym f.whole))

tail_is : (a : ℕ) (x y : List ℕ) → a ∷ x ≡ a ∷ y → x ≡ y
tail_is a x y e = cc

pub stuck_method_formals : (text left : List ℕ) → IsStuck FormalsSpell text left
    → IsStuck MethodSpells text left
stuck_method_formals text left s = record {
  front = s.front;
  whole = s.whole;
  begun = (
    method_of s.begun.0 type.Void,
    s.begun.1
        ++ codes "V",
    subst (MethodSpells (method_of s.begun.0 type.Void))
        (append_assoc s.front s.begun.1 (codes "V"))
        (method_spelled s.begun.0 type.Void (s.front ++ s.begun.1) (codes "V") s.begun.2
        (record { form = ap return_layer type.outs-Void; whole = sym text_void })),
  );
  refused = λ sig spelled more later sp e.
      let v = behind_paren sig spelled sp in
      let w = tail_is 40 spelled ((texts v.formals ++ codes ")") ++ type_text v.ret) v.whole in
      s.refused v.formals (texts v.formals ++ codes ")") (type_text v.ret ++ more) later
      (record { form = v.formals_form; whole = refl })
      (sym (append_assoc (texts v.formals ++ codes ")") (type_text v.ret) more)
      ∙ ap (λ (x : List ℕ). x ++ more) (sym w) ∙ e);
}

pub stuck_method_return : (formals : List JType) (text inner left : List ℕ)
    → IsRead FormalsSpell text inner formals → IsStuck ReturnSpells inner left
    → IsStuck MethodSpells text left
stuck_method_return formals text inner left f s = record {
  front = f.front ++ s.front;
  whole =
      f.whole ∙ ap (λ (x : List ℕ). f.front ++ x) s.whole
      ∙ sym (append_assoc f.front s.front left);
  begun = (
    method_of formals s.begun.0,
    s.begun.1,
    subst (MethodSpells (method_of formals s.begun.0))
        (sym (append_assoc f.front s.front s.begun.1))
        (method_spelled formals s.begun.0 f.front (s.front ++ s.begun.1) f.spells s.begun.2),
  );
  refused = λ sig spelled more later sp e.
      let v = behind_paren sig spelled sp in
      let w = tail_is 40 spelled ((texts v.formals ++ codes ")") ++ type_text v.ret) v.whole in
      let tail = s.front ++ as_left left later in
      let a = formals_apart v.formals formals (type_text v.ret ++ more) tail v.formals_form
      f.spells.form
      (sym (append_assoc (texts v.formals) (codes ")") (type_text v.ret ++ more))
      ∙ sym (append_assoc (texts v.formals ++ codes ")") (type_text v.ret) more)
      ∙ ap (λ (x : List ℕ). x ++ more) (sym w) ∙ e
      ∙ append_assoc f.front s.front (as_left left later)
      ∙ ap (λ (x : List ℕ). x ++ tail) f.spells.whole
      ∙ append_assoc (texts formals) (codes ")") tail) in
      s.refused v.ret (type_text v.ret) more later (record { form = v.ret_form; whole = refl })
      a.1;
}

-- ---- a descriptor

pub read_of_method : (sig : JSig) (text inner left : List ℕ) → text ≡ 40 ∷ inner
    → IsRead MethodSpells inner left sig → IsRead DescriptorSpells text left sig
read_of_method sig text inner left e r =
    record {
      front = 40 ∷ r.front;
      whole = e ∙ ap (λ (x : List ℕ). 40 ∷ x) r.whole;
      spells = r.spells;
    }

pub stuck_of_method : (text inner left : List ℕ) → text ≡ 40 ∷ inner
    → IsStuck MethodSpells inner left → IsStuck DescriptorSpells text left
stuck_of_method text inner left e s = record {
  front = 40 ∷ s.front;
  whole = e ∙ ap (λ (x : List ℕ). 40 ∷ x) s.whole;
  begun = s.begun;
  refused =
      λ sig spelled more later sp f. by sig spelled more later sp f
      (descriptor_cases sig spelled sp);
}
  where
    by : (sig : JSig) (spelled more later : List ℕ) → DescriptorSpells sig spelled
        → spelled ++ more ≡ 40 ∷ (s.front ++ as_left left later)
        → MethodView sig spelled ⊎ FieldOnly sig spelled → ⊥
    by sig spelled more later sp f (inl v) =
        let rest = (texts v.formals ++ codes ")") ++ type_text v.ret in
        s.refused sig rest more later (subst (DescriptorSpells sig) v.whole sp)
        (tail_is 40 (rest ++ more) (s.front ++ as_left left later)
        (ap (λ (x : List ℕ). x ++ more) (sym v.whole) ∙ f))
    by sig spelled more later sp f (inr w) =
        field_not 40 w.t more refl w.form (s.front ++ as_left left later)
        (ap (λ (x : List ℕ). x ++ more) (sym w.whole) ∙ f)

pub read_of_field : (t : JType) (text left : List ℕ) → IsRead FieldSpells text left t
    → IsRead DescriptorSpells text left (OfField t)
read_of_field t text left r =
    record {
      front = r.front;
      whole = r.whole;
      spells = record { form = r.spells.form; whole = r.spells.whole };
    }

pub stuck_of_field : (text left : List ℕ) → BeginsOtherwise 40 text → IsStuck FieldSpells text left
    → IsStuck DescriptorSpells text left
stuck_of_field text left n s = record {
  front = s.front;
  whole = s.whole;
  begun = (
    OfField s.begun.0,
    s.begun.1,
    record { form = s.begun.2.form; whole = s.begun.2.whole },
  );
  refused =
      λ sig spelled more later sp f. by sig spelled more later sp f
      (descriptor_cases sig spelled sp);
}
  where
    by : (sig : JSig) (spelled more later : List ℕ) → DescriptorSpells sig spelled
        → spelled ++ more ≡ s.front ++ as_left left later
        → MethodView sig spelled ⊎ FieldOnly sig spelled → ⊥
    by sig spelled more later sp f (inl v) =
        begins_as 40 s.front left later (subst (BeginsOtherwise 40) s.whole n)
        (((texts v.formals ++ codes ")") ++ type_text v.ret) ++ more)
        (sym f ∙ ap (λ (x : List ℕ). x ++ more) v.whole)
    by sig spelled more later sp f (inr w) =
        s.refused w.t spelled more later (record { form = w.form; whole = w.whole }) f

descriptors_apart : (s u : JSig) (p q x y : List ℕ) → DescriptorSpells s p → DescriptorSpells u q
    → p ++ x ≡ q ++ y → (s ≡ u) × (x ≡ y)
descriptors_apart s u p q x y hs hu e = by (descriptor_cases s p hs) (descriptor_cases u q hu)
  where
    by : MethodView s p ⊎ FieldOnly s p → MethodView u q ⊎ FieldOnly u q → (s ≡ u) × (x ≡ y)
    by (inl v) (inl w) =
        let vf = texts v.formals ++ codes ")" in
        let wf = texts w.formals ++ codes ")" in
        let t = tail_is 40 ((vf ++ type_text v.ret) ++ x) ((wf ++ type_text w.ret) ++ y)
        (ap (λ (z : List ℕ). z ++ x) (sym v.whole) ∙ e ∙ ap (λ (z : List ℕ). z ++ y) w.whole) in
        let a = formals_apart v.formals w.formals (type_text v.ret ++ x) (type_text w.ret ++ y)
        v.formals_form w.formals_form
        (sym (append_assoc (texts v.formals) (codes ")") (type_text v.ret ++ x))
        ∙ sym (append_assoc vf (type_text v.ret) x) ∙ t ∙ append_assoc wf (type_text w.ret) y
        ∙ append_assoc (texts w.formals) (codes ")") (type_text w.ret ++ y)) in
        let b = results_apart v.ret w.ret x y v.ret_form w.ret_form a.1 in (
          v.is ∙ ap (λ (fs : List JType). method_of fs v.ret) a.0 ∙ ap (method_of w.formals) b.0
              ∙ sym w.is,
          b.1,
        )
    by (inl v) (inr w) =
        absurd (field_not 40 w.t y refl w.form
        (((texts v.formals ++ codes ")") ++ type_text v.ret) ++ x)
        (ap (λ (z : List ℕ). z ++ y) (sym w.whole) ∙ sym e ∙ ap (λ (z : List ℕ). z ++ x) v.whole))
    by (inr v) (inl w) =
        absurd (field_not 40 v.t x refl v.form
        (((texts w.formals ++ codes ")") ++ type_text w.ret) ++ y)
        (ap (λ (z : List ℕ). z ++ x) (sym v.whole) ∙ e ∙ ap (λ (z : List ℕ). z ++ y) w.whole))
    by (inr v) (inr w) =
        let a = fields_apart v.t w.t x y v.form w.form
        (ap (λ (z : List ℕ). z ++ x) (sym v.whole) ∙ e ∙ ap (λ (z : List ℕ). z ++ y) w.whole) in
        (v.is ∙ ap OfField a.0 ∙ sym w.is, a.1)

-- ---- a whole text

pub whole_read : (sig : JSig) (text left : List ℕ) → IsRead DescriptorSpells text left sig
    → left ≡ [] → IsOnly text sig
whole_read sig text left r e =
    let is : text ≡ r.front = r.whole ∙ ap (λ (x : List ℕ). r.front ++ x) e ∙ append-nil r.front in
    record {
      spells = subst (DescriptorSpells sig) (sym is) r.spells;
      only =
          λ other sp. one_descriptor text other sig sp
          (subst (DescriptorSpells sig) (sym is) r.spells);
    }

pub whole_more : (sig : JSig) (text left : List ℕ) → IsRead DescriptorSpells text left sig
    → (left ≡ [] → ⊥) → IsStuckWhole text left
whole_more sig text left r n = by left refl
  where
    by : (rest : List ℕ) → left ≡ rest → IsStuckWhole text left
    by [] e = absurd (n e)
    by (b ∷ rest) e = record {
      front = r.front;
      whole = r.whole;
      begun = (sig, [], subst (DescriptorSpells sig) (sym (append-nil r.front)) r.spells);
      refused = λ other later sp.
          let a = descriptors_apart other sig (r.front ++ as_left left later) r.front []
          (as_left left later) sp r.spells (append-nil (r.front ++ as_left left later)) in
          let f : [] ≡ b ∷ later = a.1 ∙ ap (λ (x : List ℕ). as_left x later) e in
          absurd cc;
    }

pub whole_stuck : (text left : List ℕ) → IsStuck DescriptorSpells text left →
    IsStuckWhole text left
whole_stuck text left s = record {
  front = s.front;
  whole = s.whole;
  begun = s.begun;
  refused =
      λ sig later sp. s.refused sig (s.front ++ as_left left later) [] later sp
      (append-nil (s.front ++ as_left left later));
}

-- ---- the answer

same_left : (left : List ℕ) → as_left left (drop 1 left) ≡ left
same_left [] = refl
same_left (b ∷ left) = refl

cut_behind : (front : List ℕ) (b : ℕ) (left : List ℕ) (m : ℕ) → length front < m
    → take m (front ++ (b ∷ left)) ≡ front ++ (b ∷ take (m - (length front + 1)) left)
cut_behind front b left zero lt = absurd (omega arith)
cut_behind [] b left (suc m) lt =
    ap (λ (k : ℕ). b ∷ take k left) (let e : m ≡ suc m - (0 + 1) = omega arith in e)
cut_behind (a ∷ front) b left (suc m) lt =
    ap (λ (x : List ℕ). a ∷ x) (cut_behind front b left m (omega arith)
    ∙ ap (λ (k : ℕ). front ++ (b ∷ take k left))
    (let e : m - (length front + 1) ≡ suc m - (suc (length front) + 1) = omega arith in e))

-- a longer front of the text goes on as what is left
longer : (front left : List ℕ) (m : ℕ) (more : List ℕ) → length front < m
    → m ≤ length (front ++ left)
    → (later : List ℕ) × (take m (front ++ left) ++ more ≡ front ++ as_left left later)
longer front [] m more lt le = absurd (omega (arith, length-append front []))
longer front (b ∷ left) m more lt le =
    let rest = take (m - (length front + 1)) left in (
      rest ++ more,
      ap (λ (x : List ℕ). x ++ more) (cut_behind front b left m lt)
          ∙ append_assoc front (b ∷ rest) more,
    )

pub bad_text : (text left : List ℕ) (at : ℕ) → IsStuckWhole text left
    → at ≡ length text - length left → IsBadText DescriptorSpells text at
bad_text text left at s e =
    let size : length text ≡ length s.front + length left = ap length s.whole
    ∙ length-append s.front left in
    let n : length s.front ≡ at = omega arith in
    let front : take at text ≡ s.front = ap (take at) s.whole ∙ take_at s.front left at n in
    record {
      unspelled =
          λ sig sp. s.refused sig (drop 1 left)
          (subst (DescriptorSpells sig)
          (s.whole ∙ ap (λ (x : List ℕ). s.front ++ x) (sym (same_left left))) sp);
      longest = record {
        fits = omega arith;
        begins = (
          s.begun.0,
          s.begun.1,
          subst
              (λ (x : List ℕ). DescriptorSpells s.begun.0 (x ++ s.begun.1)) (sym front) s.begun.2,
        );
        longest = λ m le b. by m b.0 b.1 le n b.2 (cases_lt at m);
      };
    }
  where
    by : (m : ℕ) (sig : JSig) (more : List ℕ) → m ≤ length text → length s.front ≡ at
        → DescriptorSpells sig (take m text ++ more) → (at < m) ⊎ (m ≤ at) → m ≤ at
    by m sig more le n sp (inr h) = h
    by m sig more le n sp (inl h) =
        let l = longer s.front left m more (omega arith)
        (subst (λ (x : List ℕ). m ≤ length x) s.whole le) in
        absurd (s.refused sig l.0 (subst (DescriptorSpells sig)
        (ap (λ (x : List ℕ). take m x ++ more) s.whole ∙ l.1) sp))
