-- Each form as a function of the text is the form of the grammar.
use Rattle.std.proofs.Common.{◌≡◌, ℕ, ◌+◌, ◌≤◌, ◌&&◌, Bool, true, false, true≢false, List, []}
use Rattle.std.proofs.Common.{◌∷◌, Option, Some, None, refl, sym, ap, subst, ◌∙◌, inl, inr}
use Rattle.std.proofs.Common.{◌||◌, ltb, cond, codes}
use Rattle.std.specs.List.{list_all}
use Rattle.std.specs.Cmp.Lexicographic.{same_text}
use Rattle.std.proofs.lemmas.Bool.{leb-true, le-leb, ltb-false, le-ltb, and_parts}
use Rattle.java_names.specs.Names.{is_text, is_class_name, is_field_name, is_method_name}
use Rattle.java_types.specs.declared.types.JType.{JType}
use Rattle.java_types.specs.declared.types.JParam.{JParam}
use Rattle.java_types.specs.declared.types.JSig.{JSig}
use Rattle.java_types.specs.declared.types.JSig.TheVariants.{OfClass, OfMethod, OfField}
use Rattle.java_types.specs.Descriptor.{has_no_params, has_no_throws, is_field_type}
use Rattle.java_types.specs.Descriptor.{is_return_type, DescriptorSpells}
use Rattle.java_types.specs.Trees.{descriptor_of}
use Rattle.java_types.specs.Nesting.{nesting, nesting_limit, opens_at}
use Rattle.java_types.specs.Trees.{signature_of}
use Rattle.java_types.proofs.OneDescriptor.{descriptor_found, descriptor_spelled}
use Rattle.java_types.proofs.OneTree.{signature_found, signature_spelled}
use Rattle.signature_scan.specs.Beginning.{beginning}
use Rattle.signature_scan.specs.declared.verdict.Verdict.TheVariants as verdict
use Rattle.signature_scan.specs.Scanned.{verdict_on, verdict_of}
use Rattle.descriptor_scan.specs.Forms.{slots, is_of_field, slots_of, is_field_descriptor}
use Rattle.descriptor_scan.specs.Forms.{parameter_slots}
use Rattle.class_desc.specs.declared.place.Place.{Place}
use Rattle.class_desc.specs.Forms.{IsAnyText, IsClassName, IsFieldName, IsMethodName}
use Rattle.class_desc.specs.Forms.{IsFieldDescriptor, IsReturnDescriptor, this_slots}
use Rattle.class_desc.specs.Forms.{IsMethodDescriptor, signature_place, IsSignatureText}
use Rattle.pool_reader.specs.declared.fault.ClassKind.{ClassKind}
use Rattle.pool_reader.specs.declared.fault.ClassKind.TheVariants.{F7}
use Rattle.attribute_reader.specs.declared.forms.Form.TheVariants as form
use Rattle.attribute_reader.specs.Forms.{are_few, is_method_descriptor, is_return_descriptor}
use Rattle.attribute_reader.specs.Forms.{unless, verdict_fault, form_fault}

-- nothing is told just of the texts of this form
pub record Tells (fault : List ℕ → Option ClassKind) (IsForm : List ℕ → Type 0) : Type 0 where
  pub right : (text : List ℕ) → fault text ≡ None → IsForm text
  pub again : (text : List ℕ) → IsForm text → fault text ≡ None

holds : (b : Bool) (kind : ClassKind) → unless b kind ≡ None → b ≡ true
holds true kind e = refl
holds false kind e = absurd cc

by_test : (fault : List ℕ → Option ClassKind) (test : List ℕ → Bool) (kind : ClassKind)
    → ((text : List ℕ) → fault text ≡ unless (test text) kind)
    → Tells fault (λ text. test text ≡ true)
by_test fault test kind is = record {
  right = λ text e. holds (test text) kind (sym (is text) ∙ e);
  again = λ text e. is text ∙ ap (λ b. unless b kind) e;
}

rewords : {fault : List ℕ → Option ClassKind} {IsForm : List ℕ → Type 0} (IsSo : List ℕ → Type 0)
    → Tells fault IsForm
    → ((text : List ℕ) → IsForm text → IsSo text)
    → ((text : List ℕ) → IsSo text → IsForm text)
    → Tells fault IsSo
rewords IsSo law to from = record {
  right = λ text e. to text (law.right text e);
  again = λ text h. law.again text (from text h);
}

-- ---- descriptors

is_field : (text : List ℕ) → is_field_descriptor text ≡ true → IsFieldDescriptor text
is_field text e = by (descriptor_of text) refl e
  where
    by : (o : Option JSig) → descriptor_of text ≡ o → is_of_field o ≡ true → IsFieldDescriptor text
    by None is e = absurd (true≢false (sym e))
    by (Some (OfClass params super interfaces)) is e = absurd (true≢false (sym e))
    by (Some (OfMethod params formals ret throws)) is e = absurd (true≢false (sym e))
    by (Some (OfField t)) is e = (t, descriptor_spelled (OfField t) text is)

field_is : (text : List ℕ) → IsFieldDescriptor text → is_field_descriptor text ≡ true
field_is text d = ap is_of_field (descriptor_found (OfField d.0) text d.1)

-- the parameters of a method, and the law of its descriptor
record Slots (text : List ℕ) (count : ℕ) : Type 0 where
  formals : List JType
  ret : JType
  spells : DescriptorSpells (OfMethod [] formals ret []) text
  is : count ≡ slots formals

slots_parts : (params : List JParam) (formals : List JType) (ret : JType) (throws : List JType)
    (text : List ℕ)
    → DescriptorSpells (OfMethod params formals ret throws) text
    → Slots text (slots formals)
slots_parts params formals ret throws text s =
    let three = and_parts (has_no_params params && list_all is_field_type formals && is_return_type
    ret)
    (has_no_throws throws) s.form in
    let two = and_parts (has_no_params params && list_all is_field_type formals)
    (is_return_type ret) three.0 in
    let one = and_parts (has_no_params params) (list_all is_field_type formals) two.0 in
    by params throws one.0 three.1 s
  where
    by : (params : List JParam) (throws : List JType)
        → has_no_params params ≡ true
        → has_no_throws throws ≡ true
        → DescriptorSpells (OfMethod params formals ret throws) text
        → Slots text (slots formals)
    by [] [] e f s = record { formals = formals; ret = ret; spells = s; is = refl }
    by (p ∷ params) throws e f s = absurd (true≢false (sym e))
    by [] (t ∷ throws) e f s = absurd (true≢false (sym f))

has_slots : (text : List ℕ) (count : ℕ) → parameter_slots text ≡ Some count → Slots text count
has_slots text count e = by (descriptor_of text) refl e
  where
    by : (o : Option JSig) → descriptor_of text ≡ o → slots_of o ≡ Some count → Slots text count
    by None is e = absurd cc
    by (Some (OfClass params super interfaces)) is e = absurd cc
    by (Some (OfField t)) is e = absurd cc
    by (Some (OfMethod params formals ret throws)) is e =
        let same : slots formals ≡ count = cc in
        subst (Slots text) same
        (slots_parts params formals ret throws text
        (descriptor_spelled (OfMethod params formals ret throws) text is))

is_method : (flags : ℕ) (text : List ℕ)
    → is_method_descriptor flags text ≡ true
    → IsMethodDescriptor flags text
is_method flags text e = by (parameter_slots text) refl e
  where
    by : (o : Option ℕ) → parameter_slots text ≡ o → are_few flags o ≡ true
        → IsMethodDescriptor flags text
    by None is e = absurd (true≢false (sym e))
    by (Some count) is e =
        let s = has_slots text count is in
        let few : count + this_slots flags ≤ 255 = leb-true (count + this_slots flags) 255 e in
        record {
          formals = s.formals;
          ret = s.ret;
          spells = s.spells;
          few = subst (λ (n : ℕ). n + this_slots flags ≤ 255) s.is few;
        }

method_is : (flags : ℕ) (text : List ℕ)
    → IsMethodDescriptor flags text
    → is_method_descriptor flags text ≡ true
method_is flags text d =
    let found : parameter_slots text ≡ Some (slots d.formals) =
    ap slots_of (descriptor_found (OfMethod [] d.formals d.ret []) text d.spells) in
    ap (are_few flags) found ∙ le-leb (slots d.formals + this_slots flags) 255 d.few

-- ---- the forms

pub class_name_tells : Tells (form_fault form.ClassName) IsClassName
unfolding form_fault
class_name_tells = by_test (form_fault form.ClassName) is_class_name F7 (λ text. refl)

pub field_name_tells : Tells (form_fault form.FieldName) IsFieldName
unfolding form_fault
field_name_tells = by_test (form_fault form.FieldName) is_field_name F7 (λ text. refl)

pub method_name_tells : Tells (form_fault form.MethodName) IsMethodName
unfolding form_fault
method_name_tells = by_test (form_fault form.MethodName) is_method_name F7 (λ text. refl)

pub field_descriptor_tells : Tells (form_fault form.FieldDescriptor) IsFieldDescriptor
unfolding form_fault
field_descriptor_tells =
    rewords IsFieldDescriptor
    (by_test (form_fault form.FieldDescriptor) is_field_descriptor F7 (λ text. refl))
    is_field
    field_is

pub method_descriptor_tells : (flags : ℕ)
    → Tells (form_fault (form.MethodDescriptor flags)) (IsMethodDescriptor flags)
unfolding form_fault
method_descriptor_tells flags =
    rewords (IsMethodDescriptor flags)
    (by_test (form_fault (form.MethodDescriptor flags)) (is_method_descriptor flags) F7 (λ text.
    refl))
    (is_method flags)
    (method_is flags)

pub any_text_tells : Tells (form_fault form.AnyText) IsAnyText
unfolding form_fault
any_text_tells = record { right = λ text e. tt; again = λ text h. refl }

pub return_descriptor_tells : Tells (form_fault form.ReturnDescriptor) IsReturnDescriptor
unfolding form_fault
return_descriptor_tells =
    rewords IsReturnDescriptor
    (by_test (form_fault form.ReturnDescriptor) is_return_descriptor F7 (λ text. refl))
    to
    from
  where
    to : (text : List ℕ) → is_return_descriptor text ≡ true → IsReturnDescriptor text
    to text e = by (is_field_descriptor text) refl e
      where
        by : (b : Bool)
            → is_field_descriptor text ≡ b
            → (b || is_text text (codes "V")) ≡ true
            → IsReturnDescriptor text
        by true is e = inl (is_field text is)
        by false is e = inr (same_text text (codes "V") (sym e))

    from : (text : List ℕ) → IsReturnDescriptor text → is_return_descriptor text ≡ true
    from text (inl field) = ap (λ b. b || is_text text (codes "V")) (field_is text field)
    from text (inr void) = by (is_field_descriptor text)
      where
        by : (b : Bool) → (b || is_text text (codes "V")) ≡ true
        by true = refl
        by false = rw void refl

-- ---- signatures

-- a signature, and whether it is nested too deep
on_signature : (place : Place) (text : List ℕ) (o : Option JSig)
    → signature_of (signature_place place) text ≡ o
    → (at : ℕ)
    → verdict_fault (verdict_on o at) ≡ None
    → IsSignatureText place text
on_signature place text None is at e = absurd cc
on_signature place text (Some sig) is at e = by (ltb nesting_limit (nesting sig)) refl e
  where
    by : (b : Bool)
        → ltb nesting_limit (nesting sig) ≡ b
        → verdict_fault (cond b (verdict.TooDeep (opens_at nesting_limit sig)) verdict.Fine)
        ≡ None
        → IsSignatureText place text
    by true deep e = absurd cc
    by false fine e = record {
      signature = sig;
      spells = signature_spelled (signature_place place) sig text is;
      nested = ltb-false nesting_limit (nesting sig) fine;
    }

pub signature_tells : (place : Place)
    → Tells (form_fault (form.Signature place)) (IsSignatureText place)
unfolding form_fault verdict_of
signature_tells place = record {
  right = λ text e. on_signature place text (signature_of (signature_place place) text) refl
      (beginning (signature_place place) text) e;
  again = λ text s.
      ap (λ o. verdict_fault (verdict_on o (beginning (signature_place place) text)))
      (signature_found (signature_place place) s.signature text s.spells)
      ∙ ap (λ b. verdict_fault (cond b (verdict.TooDeep (opens_at nesting_limit s.signature))
      verdict.Fine)) (le-ltb nesting_limit (nesting s.signature) s.nested);
}
