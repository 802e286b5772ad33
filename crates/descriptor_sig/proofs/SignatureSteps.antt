-- What stands where whole signatures are read.
use Rattle.std.proofs.Common.{◌≡◌, ◌⊎◌, inl, inr, refl, sym, ap, ◌∙◌, subst, ℕ, ◌&&◌, true, false}
use Rattle.std.proofs.Common.{List, [], ◌∷◌, ◌++◌, Option, Some, None, Ok, Err, append_assoc}
use Rattle.std.proofs.Common.{append-nil}
use Rattle.std.specs.List.{list_all, flat_map}
use Rattle.std.proofs.lemmas.Bool.{false≢true, and_parts}
use Rattle.java_types.specs.declared.types.JType.{JType}
use Rattle.java_types.specs.declared.types.JType.TheVariants as type
use Rattle.java_types.specs.declared.types.JParam.{JParam}
use Rattle.java_types.specs.declared.types.JSig.{JSig}
use Rattle.java_types.specs.declared.types.JSig.TheVariants.{OfClass, OfMethod, OfField}
use Rattle.java_types.specs.Types.{type_text, params_text}
use Rattle.java_types.specs.declared.production.Production.TheVariants.{AnyResult, AnyType}
use Rattle.java_types.specs.declared.production.Production.TheVariants.{Reference, Thrown}
use Rattle.java_types.specs.declared.production.Production.TheVariants.{ClassType}
use Rattle.java_types.specs.declared.production.SigPlace.TheVariants.{ClassPlace, MethodPlace}
use Rattle.java_types.specs.declared.production.SigPlace.TheVariants.{FieldPlace}
use Rattle.java_types.specs.Signature.{is_type, are_types, is_param}
use Rattle.java_types.specs.Nesting.{top_levels, params_levels}
use Rattle.java_types.proofs.Layers.{text_void, form_prim, form_named, form_var, form_array}
use Rattle.descriptor_sig.specs.declared.error.SigErr.{SigErr}
use Rattle.java_types.specs.Fronts.{begins_with}
use Rattle.descriptor_sig.specs.Standing.{Builds, Shallow, Takes, ends_types, TypeStands}
use Rattle.descriptor_sig.specs.Standing.{TypesStand, MarkedStand, ParamsStand, FormalsStand}
use Rattle.descriptor_sig.specs.Standing.{SigStands}
use Rattle.descriptor_sig.proofs.Bytes.{rest_of_cons}
use Rattle.descriptor_sig.proofs.Cases.{TypeKind, is_void, is_prim, is_named, is_var, is_array}
use Rattle.descriptor_sig.proofs.Cases.{type_kind}
use Rattle.descriptor_sig.proofs.Leading.{Leads, Splits}
use Rattle.descriptor_sig.proofs.Shallows.{shallow_left, shallow_right, shallow_tail}
use Rattle.descriptor_sig.proofs.TypeSteps.{any_type, type_unlike}
use Rattle.descriptor_sig.proofs.ParamSteps.{types_row, marked_row}

-- ---- a result

-- a type that may be void is it, or is any other
result_is : (t : JType) → is_type t AnyResult ≡ true → (t ≡ type.Void) ⊎ (is_type t AnyType ≡ true)
result_is t form = by (type_kind t) where
  here : (v : JType) → t ≡ v → is_type v AnyResult ≡ true
  here v e = sym (ap (λ u. is_type u AnyResult) e) ∙ form

  by : TypeKind t → (t ≡ type.Void) ⊎ (is_type t AnyType ≡ true)
  by (is_void e) = inl e
  by (is_prim letter e) =
      inr (ap (λ u. is_type u AnyType) e
      ∙ (form_prim letter AnyType ∙ (sym (form_prim letter AnyResult)
      ∙ here (type.Prim letter) e)))
  by (is_named parts e) =
      inr (ap (λ u. is_type u AnyType) e
      ∙ (form_named parts AnyType ∙ (sym (form_named parts AnyResult)
      ∙ here (type.Named parts) e)))
  by (is_var name e) =
      inr (ap (λ u. is_type u AnyType) e
      ∙ (form_var name AnyType ∙ (sym (form_var name AnyResult) ∙ here (type.Var name) e)))
  by (is_array element dims e) =
      inr (ap (λ u. is_type u AnyType) e
      ∙ (form_array element dims AnyType
      ∙ (sym (form_array element dims AnyResult) ∙ here (type.Array element dims) e)))

void_front : (t : JType) (bytes more : List ℕ) → t ≡ type.Void →
    TypeStands AnyResult 0 t bytes more
    → bytes ≡ 86 ∷ more
void_front t bytes more e s = s.whole ∙ ap (λ text. text ++ more) (ap type_text e ∙ text_void)

as_type : (t : JType) (bytes more : List ℕ) → is_type t AnyType ≡ true
    → TypeStands AnyResult 0 t bytes more → TypeStands AnyType 0 t bytes more
as_type t bytes more form s = record { form = form; shallow = s.shallow; whole = s.whole }

pub void_built : (bytes left : List ℕ) → bytes ≡ 86 ∷ left
    → Builds (TypeStands AnyResult 0) bytes (Ok type.Void) left
void_built bytes left front = record { gives = λ t more s. by t more s (result_is t s.form) } where
  by : (t : JType) (more : List ℕ) → TypeStands AnyResult 0 t bytes more
      → (t ≡ type.Void) ⊎ (is_type t AnyType ≡ true) → (type.Void ≡ t) × (left ≡ more)
  by t more s (inl e) = (sym e, rest_of_cons (sym front ∙ void_front t bytes more e s))
  by t more s (inr form) =
      absurd (false≢true (sym (type_unlike 86 0 t bytes more refl (as_type t bytes more form s))
      ∙ ap (begins_with 86) front))

pub result_leads : (bytes rest : List ℕ) → (begins_with 86 bytes ≡ false) × (rest ≡ bytes)
    → Leads (λ t. t) (TypeStands AnyResult 0) (TypeStands AnyType 0) bytes rest
result_leads bytes rest differs =
    record { leads = λ t more s. by t more s (result_is t s.form) } where
      by : (t : JType) (more : List ℕ) → TypeStands AnyResult 0 t bytes more
          → (t ≡ type.Void) ⊎ (is_type t AnyType ≡ true)
          → (u : JType) × (u ≡ t) × TypeStands AnyType 0 u rest more
      by t more s (inl e) =
          absurd (false≢true (sym differs.0 ∙ ap (begins_with 86) (void_front t bytes more e s)))
      by t more s (inr form) = (
        t,
        refl,
        subst (λ b. TypeStands AnyType 0 t b more) (sym differs.1)
            (as_type t bytes more form s),
      )

-- ---- between parentheses

abbrev pub Inside : List JType → List ℕ → List ℕ → Type 0
Inside formals bytes more = TypesStand formals bytes (41 ∷ more)

pub inside_leads : (bytes rest : List ℕ) (r : Option ℕ) → Takes bytes r rest
    → Leads (λ types. types) FormalsStand Inside bytes rest
inside_leads bytes rest r takes =
    record { leads = λ formals more s. by r takes formals more s } where
      by : (r : Option ℕ) → Takes bytes r rest → (formals : List JType) (more : List ℕ)
          → FormalsStand formals bytes more
          → (types : List JType) × (types ≡ formals) × Inside types rest more
      by None empty formals more s =
          absurd (false≢true (ap (begins_with 40) (sym empty ∙ s.front)))
      by (Some b) front formals more s = (
        formals,
        refl,
        subst (λ rest. Inside formals rest more) (rest_of_cons (sym s.front ∙ front))
            s.types,
      )

pub inside_ok : (bytes left end : List ℕ) (r : Option ℕ) (types : List JType)
    → Builds TypesStand bytes (Ok types) left → Takes left r end
    → Builds Inside bytes (Ok types) end
inside_ok bytes left end r types b takes =
    record {
      gives = λ formals more s. let g = b.gives formals (41 ∷ more) s in
          (g.0, by r takes more g.1);
    } where
      by : (r : Option ℕ) → Takes left r end → (more : List ℕ) → left ≡ 41 ∷ more → end ≡ more
      by None empty more e = absurd (false≢true (ap (begins_with 41) (sym empty ∙ e)))
      by (Some x) front more e = rest_of_cons (sym front ∙ e)

pub inside_err : (bytes left end : List ℕ) (e : SigErr) → Builds TypesStand bytes (Err e) left
    → Builds Inside bytes (Err e) end
inside_err bytes left end e b = record { gives = λ formals more s. b.gives formals (41 ∷ more) s }

-- ---- whole signatures

-- what is behind the type parameters of a class
pub record ClassTail (tail : JType × List JType) (bytes more : List ℕ) : Type 0 where
  pub super_form : is_type tail.0 ClassType ≡ true
  pub interface_forms : are_types ClassType tail.1 ≡ true
  pub shallow : Shallow (top_levels tail.0 ++ flat_map top_levels tail.1)
  pub ends : more ≡ []
  pub whole : bytes ≡ type_text tail.0 ++ (flat_map type_text tail.1 ++ more)

-- what is behind the type parameters of a method
pub record MethodTail (tail : List JType × JType × List JType) (bytes more : List ℕ) : Type 0 where
  pub formal_forms : are_types AnyType tail.0 ≡ true
  pub result_form : is_type tail.1 AnyResult ≡ true
  pub throws_forms : are_types Thrown tail.2 ≡ true
  pub shallow : Shallow (flat_map top_levels tail.0
      ++ (0 ∷ (top_levels tail.1 ++ flat_map (λ thrown. 0 ∷ top_levels thrown) tail.2)))
  pub ends : more ≡ []
  pub whole : bytes ≡ 40 ∷ (flat_map type_text tail.0
      ++ (41 ∷ (type_text tail.1 ++ (flat_map (λ thrown. 94 ∷ type_text thrown) tail.2 ++ more))))

-- what is behind the parentheses
pub record MethodEnd (end : JType × List JType) (bytes more : List ℕ) : Type 0 where
  pub result_form : is_type end.0 AnyResult ≡ true
  pub throws_forms : are_types Thrown end.1 ≡ true
  pub shallow : Shallow (top_levels end.0 ++ flat_map (λ thrown. 0 ∷ top_levels thrown) end.1)
  pub ends : more ≡ []
  pub whole : bytes ≡ type_text end.0 ++ (flat_map (λ thrown. 94 ∷ type_text thrown) end.1 ++ more)

abbrev pub class_of : List JParam → JType × List JType → JSig
class_of params tail = OfClass params tail.0 tail.1

abbrev pub class_tail_of : JType → List JType → JType × List JType
class_tail_of super interfaces = (super, interfaces)

abbrev pub method_of : List JParam → List JType × JType × List JType → JSig
method_of params tail = OfMethod params tail.0 tail.1 tail.2

abbrev pub method_tail_of : List JType → JType × List JType → List JType × JType × List JType
method_tail_of formals end = (formals, end.0, end.1)

abbrev pub method_end_of : JType → List JType → JType × List JType
method_end_of ret throws = (ret, throws)

-- nothing is behind a signature
then_nothing : (bytes text more : List ℕ) → bytes ≡ text → more ≡ [] → bytes ≡ text ++ more
then_nothing bytes text more e end = e ∙ (sym (append-nil text) ∙ ap (λ m. text ++ m) (sym end))

at_end : (more : List ℕ) → more ≡ [] → ends_types more ≡ true
at_end more e = ap ends_types e

pub class_splits : (bytes : List ℕ)
    → Splits class_of (SigStands ClassPlace) ParamsStand ClassTail bytes bytes
class_splits bytes = record { splits = by } where
  of_class : (params : List JParam) (super : JType) (interfaces : List JType) (more : List ℕ)
      → SigStands ClassPlace (OfClass params super interfaces) bytes more
      → (ps : List JParam) × (tail : JType × List JType) × (middle : List ℕ)
      × (class_of ps tail ≡ OfClass params super interfaces) × ParamsStand ps bytes middle
      × ClassTail tail middle more
  of_class params super interfaces more s =
      let f = and_parts (list_all is_param params && is_type super ClassType)
      (are_types ClassType interfaces) s.spelled.form in
      let g = and_parts (list_all is_param params) (is_type super ClassType) f.0 in
      let rest = type_text super ++ flat_map type_text interfaces in
      let whole : bytes ≡ params_text params
      ++ (rest ++ more) =
      then_nothing bytes (params_text params ++ rest) more s.spelled.whole s.ends
      ∙ append_assoc (params_text params) rest more in
      let same : rest ++ more ≡ type_text super
      ++ (flat_map type_text interfaces ++ more) =
      append_assoc (type_text super) (flat_map type_text interfaces) more in
      let deep : Shallow (params_levels params
      ++ (top_levels super ++ flat_map top_levels interfaces)) = s.nested in
      let tail = shallow_right (params_levels params)
      (top_levels super ++ flat_map top_levels interfaces) deep in
      let first : TypeStands AnyType 0 super (rest ++ more)
      (flat_map type_text interfaces ++ more) =
      any_type ClassType 0 super _ _ refl
      (record {
        form = g.1;
        shallow = shallow_left (top_levels super)
            (flat_map top_levels interfaces) tail;
        whole = same;
      }) in (
        params,
        (super, interfaces),
        rest ++ more,
        refl,
        record {
          form = g.0;
          shallow = shallow_left (params_levels params) _ deep;
          stops = type_unlike 60 0 super (rest ++ more) _ refl first;
          whole = whole;
        },
        record {
          super_form = g.1;
          interface_forms = f.1;
          shallow = tail;
          ends = s.ends;
          whole = same;
        },
      )

  by : (sig : JSig) (more : List ℕ) → SigStands ClassPlace sig bytes more
      → (ps : List JParam) × (tail : JType × List JType) × (middle : List ℕ)
      × (class_of ps tail ≡ sig) × ParamsStand ps bytes middle × ClassTail tail middle more
  by (OfClass params super interfaces) more s = of_class params super interfaces more s
  by (OfMethod params formals ret throws) more s = absurd (false≢true s.spelled.form)
  by (OfField t) more s = absurd (false≢true s.spelled.form)

pub class_tail_splits : (bytes : List ℕ)
    → Splits class_tail_of ClassTail (TypeStands AnyType 0) TypesStand bytes bytes
class_tail_splits bytes = record {
  splits = λ tail more s. (
    tail.0,
    tail.1,
    flat_map type_text tail.1 ++ more,
    refl,
    any_type ClassType 0 tail.0 _ _ refl
        (record {
          form = s.super_form;
          shallow = shallow_left (top_levels tail.0) (flat_map top_levels tail.1) s.shallow;
          whole = s.whole;
        }),
    record {
      row = types_row ClassType refl tail.1 more s.interface_forms
          (shallow_right (top_levels tail.0) (flat_map top_levels tail.1) s.shallow);
      stops = at_end more s.ends;
    },
  );
}

pub method_splits : (bytes : List ℕ)
    → Splits method_of (SigStands MethodPlace) ParamsStand MethodTail bytes bytes
method_splits bytes = record { splits = by } where
  of_method : (params : List JParam) (formals : List JType) (ret : JType) (throws : List JType)
      (more : List ℕ) → SigStands MethodPlace (OfMethod params formals ret throws) bytes more
      → (ps : List JParam) × (tail : List JType × JType × List JType) × (middle : List ℕ)
      × (method_of ps tail ≡ OfMethod params formals ret throws) × ParamsStand ps bytes middle
      × MethodTail tail middle more
  of_method params formals ret throws more s =
      let f = and_parts (list_all is_param params && are_types AnyType formals
      && is_type ret AnyResult) (are_types Thrown throws) s.spelled.form in
      let g = and_parts (list_all is_param params && are_types AnyType formals)
      (is_type ret AnyResult) f.0 in
      let h = and_parts (list_all is_param params) (are_types AnyType formals) g.0 in
      let end = type_text ret ++ flat_map (λ thrown. 94 ∷ type_text thrown) throws in
      let rest = 40 ∷ (flat_map type_text formals ++ (41 ∷ end)) in
      let whole : bytes ≡ params_text params
      ++ (rest ++ more) =
      then_nothing bytes (params_text params ++ rest) more s.spelled.whole s.ends
      ∙ append_assoc (params_text params) rest more in
      let same : rest ++ more ≡ 40
      ∷ (flat_map type_text formals
      ++ (41 ∷ (type_text ret ++ (flat_map (λ thrown. 94 ∷ type_text thrown) throws
      ++ more)))) =
      ap (λ x. 40 ∷ x) (append_assoc (flat_map type_text formals) (41 ∷ end) more
      ∙ ap (λ x. flat_map type_text formals ++ (41 ∷ x))
      (append_assoc (type_text ret) (flat_map (λ thrown. 94 ∷ type_text thrown) throws)
      more)) in
      let inner = flat_map top_levels formals
      ++ (0 ∷ (top_levels ret ++ flat_map (λ thrown. 0 ∷ top_levels thrown) throws)) in
      let deep : Shallow (params_levels params ++ (0 ∷ inner)) = s.nested in (
        params,
        (formals, ret, throws),
        rest ++ more,
        refl,
        record {
          form = h.0;
          shallow = shallow_left (params_levels params) (0 ∷ inner) deep;
          stops = refl;
          whole = whole;
        },
        record {
          formal_forms = h.1;
          result_form = g.1;
          throws_forms = f.1;
          shallow = shallow_tail 0 inner (shallow_right (params_levels params) (0 ∷ inner) deep);
          ends = s.ends;
          whole = same;
        },
      )

  by : (sig : JSig) (more : List ℕ) → SigStands MethodPlace sig bytes more
      → (ps : List JParam) × (tail : List JType × JType × List JType) × (middle : List ℕ)
      × (method_of ps tail ≡ sig) × ParamsStand ps bytes middle × MethodTail tail middle more
  by (OfMethod params formals ret throws) more s = of_method params formals ret throws more s
  by (OfClass params super interfaces) more s = absurd (false≢true s.spelled.form)
  by (OfField t) more s = absurd (false≢true s.spelled.form)

pub method_tail_splits : (bytes : List ℕ)
    → Splits method_tail_of MethodTail FormalsStand MethodEnd bytes bytes
method_tail_splits bytes = record {
  splits = λ tail more s.
      let levels = top_levels tail.1 ++ flat_map (λ thrown. 0 ∷ top_levels thrown) tail.2 in
      let end = type_text tail.1 ++ (flat_map (λ thrown. 94 ∷ type_text thrown) tail.2 ++ more)
      in (
        tail.0,
        (tail.1, tail.2),
        end,
        refl,
        record {
          behind = flat_map type_text tail.0 ++ (41 ∷ end);
          front = s.whole;
          types =
              record {
                row = types_row AnyType refl tail.0 (41 ∷ end) s.formal_forms
                    (shallow_left (flat_map top_levels tail.0) (0 ∷ levels) s.shallow);
                stops = refl;
              };
        },
        record {
          result_form = s.result_form;
          throws_forms = s.throws_forms;
          shallow =
              shallow_tail 0 levels (shallow_right (flat_map top_levels tail.0) (0 ∷ levels)
              s.shallow);
          ends = s.ends;
          whole = refl;
        },
      );
}

pub method_end_splits : (bytes : List ℕ)
    → Splits method_end_of MethodEnd (TypeStands AnyResult 0) (MarkedStand 94) bytes bytes
method_end_splits bytes = record {
  splits = λ end more s.
      let levels = flat_map (λ thrown. 0 ∷ top_levels thrown) end.1 in (
        end.0,
        end.1,
        flat_map (λ thrown. 94 ∷ type_text thrown) end.1 ++ more,
        refl,
        record {
          form = s.result_form;
          shallow = shallow_left (top_levels end.0) levels s.shallow;
          whole = s.whole;
        },
        record {
          row = marked_row 94 Thrown refl end.1 more s.throws_forms
              (shallow_right (top_levels end.0) levels s.shallow);
          stops = ap (begins_with 94) s.ends;
        },
      );
}

pub field_leads : (bytes : List ℕ)
    → Leads OfField (SigStands FieldPlace) (TypeStands AnyType 0) bytes bytes
field_leads bytes = record { leads = by } where
  by : (sig : JSig) (more : List ℕ) → SigStands FieldPlace sig bytes more
      → (t : JType) × (OfField t ≡ sig) × TypeStands AnyType 0 t bytes more
  by (OfField t) more s = (
    t,
    refl,
    any_type Reference 0 t _ _ refl
        (record {
          form = s.spelled.form;
          shallow = s.nested;
          whole = then_nothing bytes (type_text t) more s.spelled.whole s.ends;
        }),
  )
  by (OfClass params super interfaces) more s = absurd (false≢true s.spelled.form)
  by (OfMethod params formals ret throws) more s = absurd (false≢true s.spelled.form)
