-- What stands where lists of types and type parameters are read.
use Rattle.std.proofs.Common.{◌≡◌, refl, sym, ap, ◌∙◌, subst, ℕ, ◌&&◌, true, false, List, [], ◌∷◌}
use Rattle.std.proofs.Common.{◌++◌, Option, Some, None, Ok, append_assoc}
use Rattle.std.specs.List.{list_all, flat_map}
use Rattle.std.proofs.lemmas.Bool.{false≢true, eq-eqb, and_parts}
use Rattle.java_types.specs.declared.types.JType.{JType}
use Rattle.java_types.specs.declared.types.JParam.{JParam}
use Rattle.java_names.specs.Names.{is_identifier}
use Rattle.java_types.specs.Types.{type_text, bound_text, param_text}
use Rattle.java_types.specs.declared.production.Production.{Production}
use Rattle.java_types.specs.declared.production.Production.TheVariants.{AnyType, Reference}
use Rattle.java_types.specs.Signature.{is_type, are_types, allows_void, is_class_bound, is_param}
use Rattle.java_types.specs.Nesting.{top_levels, bound_levels, param_levels, flat}
use Rattle.java_types.specs.Fronts.{begins_with, is_before_type}
use Rattle.java_types.proofs.Fronts.{identifier_is_plain, type_ahead, name_ahead, name_unlike}
use Rattle.descriptor_sig.specs.Standing.{Builds, Shallow, Row, RowTo, Marked, ends_types}
use Rattle.descriptor_sig.specs.Standing.{NameStands, TypeStands, TypesStand, MarkedStand}
use Rattle.descriptor_sig.specs.Standing.{BoundStands, ParamStands, ParamsStand}
use Rattle.descriptor_sig.proofs.Bytes.{rest_of_cons}
use Rattle.descriptor_sig.proofs.Leading.{Leads, Splits, cons, behind}
use Rattle.descriptor_sig.proofs.Shallows.{shallow_left, shallow_right, shallow_tail}
use Rattle.descriptor_sig.proofs.TypeSteps.{any_type, type_first, type_unlike, TypeFirst, first_is}

-- ---- lists of types

pub types_row : (at : Production) → allows_void at ≡ false → (types : List JType) (more : List ℕ)
    → are_types at types ≡ true → Shallow (flat_map top_levels types)
    → Row (TypeStands AnyType 0) types (flat_map type_text types ++ more) more
types_row at void [] more form shallow = refl
types_row at void (t ∷ types) more form shallow =
    let f = and_parts (is_type t at) (are_types at types) form in (
      flat_map type_text types ++ more,
      any_type at 0 t _ _ void (record {
        form = f.0;
        shallow = shallow_left (top_levels t) (flat_map top_levels types) shallow;
        whole = append_assoc (type_text t) (flat_map type_text types) more;
      }),
      types_row at void types more f.1
          (shallow_right (top_levels t) (flat_map top_levels types) shallow),
    )

pub marked_row : (mark : ℕ) (at : Production) → allows_void at ≡ false
    → (types : List JType) (more : List ℕ) → are_types at types ≡ true
    → Shallow (flat_map (λ t. 0 ∷ top_levels t) types)
    → Row (Marked mark (TypeStands AnyType 0)) types
    (flat_map (λ t. mark ∷ type_text t) types ++ more) more
marked_row mark at void [] more form shallow = refl
marked_row mark at void (t ∷ types) more form shallow =
    let f = and_parts (is_type t at) (are_types at types) form in
    let tail = flat_map (λ t. mark ∷ type_text t) types ++ more in
    let here : Shallow (0 ∷ top_levels t) = shallow_left (0 ∷ top_levels t)
    (flat_map (λ t. 0 ∷ top_levels t) types) shallow in (
      tail,
      record {
        behind = type_text t ++ tail;
        front = append_assoc (mark ∷ type_text t) (flat_map (λ t. mark ∷ type_text t) types) more;
        stands =
            any_type at 0 t _ _ void (record {
              form = f.0;
              shallow = shallow_tail 0 (top_levels t) here;
              whole = refl;
            });
      },
      marked_row mark at void types more f.1
          (shallow_right (0 ∷ top_levels t) (flat_map (λ t. 0 ∷ top_levels t) types) shallow),
    )

-- no type begins with a )
type_goes_on : (t : JType) (bytes more : List ℕ) → TypeStands AnyType 0 t bytes more
    → ends_types bytes ≡ false
type_goes_on t bytes more s =
    by (type_first 0 t bytes more s) (type_unlike 41 0 t bytes more refl s) where
      by : TypeFirst bytes → begins_with 41 bytes ≡ false → ends_types bytes ≡ false
      by (first_is b tail f e) h = ap ends_types f ∙ (sym (ap (begins_with 41) f) ∙ h)

pub types_next : (bytes : List ℕ) → ends_types bytes ≡ false
    → Splits cons TypesStand (TypeStands AnyType 0) TypesStand bytes bytes
types_next bytes differs = record { splits = by } where
  by : (types : List JType) (more : List ℕ) → TypesStand types bytes more
      → (t : JType) × (later : List JType) × (middle : List ℕ) × (cons t later ≡ types)
      × TypeStands AnyType 0 t bytes middle × TypesStand later middle more
  by [] more s = absurd (false≢true (sym differs ∙ (ap ends_types s.row ∙ s.stops)))
  by (t ∷ later) more s = let r = s.row in
      (t, later, r.0, refl, r.1, record { row = r.2; stops = s.stops })

pub types_end : (bytes : List ℕ) → ends_types bytes ≡ true → Builds TypesStand bytes (Ok []) bytes
types_end bytes ends = record { gives = by } where
  by : (types : List JType) (more : List ℕ) → TypesStand types bytes more
      → ([] ≡ types) × (bytes ≡ more)
  by [] more s = (refl, s.row)
  by (t ∷ types) more s = let r = s.row in
      absurd (false≢true (sym (type_goes_on t bytes r.0 r.1) ∙ ends))

pub marked_next : (mark : ℕ) (bytes rest : List ℕ) → bytes ≡ mark ∷ rest
    → Splits cons (MarkedStand mark) (TypeStands AnyType 0) (MarkedStand mark) bytes rest
marked_next mark bytes rest front = record { splits = by } where
  by : (types : List JType) (more : List ℕ) → MarkedStand mark types bytes more
      → (t : JType) × (later : List JType) × (middle : List ℕ) × (cons t later ≡ types)
      × TypeStands AnyType 0 t rest middle × MarkedStand mark later middle more
  by [] more s =
      absurd (false≢true (sym s.stops
      ∙ (ap (begins_with mark) (sym s.row ∙ front) ∙ eq-eqb mark mark refl)))
  by (t ∷ later) more s = let r = s.row in let m = r.1 in (
    t,
    later,
    r.0,
    refl,
    subst (λ b. TypeStands AnyType 0 t b r.0)
        (rest_of_cons (sym m.front ∙ front)) m.stands,
    record { row = r.2; stops = s.stops },
  )

pub marked_end : (mark : ℕ) (bytes left : List ℕ)
    → (begins_with mark bytes ≡ false) × (left ≡ bytes)
    → Builds (MarkedStand mark) bytes (Ok []) left
marked_end mark bytes left differs = record { gives = by } where
  by : (types : List JType) (more : List ℕ) → MarkedStand mark types bytes more
      → ([] ≡ types) × (left ≡ more)
  by [] more s = (refl, differs.1 ∙ s.row)
  by (t ∷ types) more s = let r = s.row in let m = r.1 in
      absurd (false≢true (sym differs.0 ∙ (ap (begins_with mark) m.front ∙ eq-eqb mark mark refl)))

-- ---- bounds

pub no_bound : (bytes : List ℕ) → is_before_type bytes ≡ false
    → Builds BoundStands bytes (Ok None) bytes
no_bound bytes differs = record { gives = by } where
  by : (bound : Option JType) (more : List ℕ) → BoundStands bound bytes more
      → (None ≡ bound) × (bytes ≡ more)
  by None more s = (refl, s.whole)
  by (Some t) more s =
      absurd (false≢true (sym differs ∙ ap is_before_type s.whole ∙ type_ahead t more s.form))

pub bound_leads : (bytes : List ℕ) → is_before_type bytes ≡ true
    → Leads Some BoundStands (TypeStands AnyType 0) bytes bytes
bound_leads bytes there = record { leads = by } where
  by : (bound : Option JType) (more : List ℕ) → BoundStands bound bytes more
      → (t : JType) × (Some t ≡ bound) × TypeStands AnyType 0 t bytes more
  by None more s = absurd (false≢true (sym (ap is_before_type s.whole ∙ s.stops) ∙ there))
  by (Some t) more s = (
    t,
    refl,
    any_type Reference 0 t bytes more refl
        (record { form = s.form; shallow = s.shallow; whole = s.whole }),
  )

-- ---- a type parameter

-- the bounds of a type parameter, behind its first :
pub record BoundsStand (bounds : Option JType × List JType) (bytes more : List ℕ) : Type 0 where
  pub class_form : is_class_bound bounds.0 ≡ true
  pub interface_forms : are_types Reference bounds.1 ≡ true
  pub shallow : Shallow (bound_levels bounds.0
      ++ flat_map (λ bound. 0 ∷ top_levels bound) bounds.1)
  pub unmarked : begins_with 58 more ≡ false
  pub stops : is_before_type more ≡ false
  pub whole : bytes ≡ bound_text bounds.0
      ++ (flat_map (λ bound. 58 ∷ type_text bound) bounds.1 ++ more)

abbrev pub param_of : List ℕ → Option JType × List JType → JParam
param_of name bounds = record { name = name; class_bound = bounds.0; interface_bounds = bounds.1 }

abbrev pub bounds_of : Option JType → List JType → Option JType × List JType
bounds_of class_bound interface_bounds = (class_bound, interface_bounds)

pub param_splits : (bytes : List ℕ)
    → Splits param_of ParamStands NameStands (Marked 58 BoundsStand) bytes bytes
param_splits bytes = record {
  splits = λ param more s.
      let f = and_parts (is_identifier param.name && is_class_bound param.class_bound)
      (are_types Reference param.interface_bounds) s.form in
      let g = and_parts (is_identifier param.name) (is_class_bound param.class_bound) f.0 in
      let bounds = bound_text param.class_bound
      ++ flat_map (λ bound. 58 ∷ type_text bound) param.interface_bounds in
      let whole : bytes ≡ param.name ++ (58 ∷ (bounds ++ more)) = s.whole
      ∙ append_assoc param.name (58 ∷ bounds) more in
      let tail : Shallow (bound_levels param.class_bound
      ++ flat_map (λ bound. 0 ∷ top_levels bound) param.interface_bounds) = shallow_tail 0 _
      (shallow_right (flat param.name)
      (0 ∷ (bound_levels param.class_bound
      ++ flat_map (λ bound. 0 ∷ top_levels bound) param.interface_bounds)) s.shallow) in (
        param.name,
        (param.class_bound, param.interface_bounds),
        58 ∷ (bounds ++ more),
        refl,
        record { plain = identifier_is_plain param.name g.0; stops = refl; whole = whole },
        record {
          behind = bounds ++ more;
          front = refl;
          stands =
              record {
                class_form = g.1;
                interface_forms = f.1;
                shallow = tail;
                unmarked = s.unmarked;
                stops = s.stops;
                whole =
                    append_assoc (bound_text param.class_bound)
                    (flat_map (λ bound. 58 ∷ type_text bound) param.interface_bounds) more;
              };
        },
      );
}

bounds_front : (types : List JType) (more : List ℕ) → is_before_type more ≡ false
    → is_before_type (flat_map (λ bound. 58 ∷ type_text bound) types ++ more) ≡ false
bounds_front [] more e = e
bounds_front (t ∷ types) more e = refl

pub bounds_split : (bytes : List ℕ)
    → Splits bounds_of BoundsStand BoundStands (MarkedStand 58) bytes bytes
bounds_split bytes = record {
  splits = λ bounds more s.
      let rest = flat_map (λ bound. 58 ∷ type_text bound) bounds.1 ++ more in (
        bounds.0,
        bounds.1,
        rest,
        refl,
        record {
          form = s.class_form;
          shallow =
              shallow_left (bound_levels bounds.0)
              (flat_map (λ bound. 0 ∷ top_levels bound) bounds.1)
              s.shallow;
          stops = bounds_front bounds.1 more s.stops;
          whole = s.whole;
        },
        record {
          row = marked_row 58 Reference refl bounds.1 more s.interface_forms
              (shallow_right (bound_levels bounds.0)
              (flat_map (λ bound. 0 ∷ top_levels bound) bounds.1) s.shallow);
          stops = s.unmarked;
        },
      );
}

-- ---- type parameters

abbrev pub ParamsRow : List JParam → List ℕ → List ℕ → Type 0
ParamsRow = RowTo 62 ParamStands

-- a type parameter begins with its name
param_front : (param : JParam) (more : List ℕ)
    → param_text param ++ more ≡ param.name
    ++ (58 ∷ ((bound_text param.class_bound
    ++ flat_map (λ bound. 58 ∷ type_text bound) param.interface_bounds) ++ more))
param_front param more =
    append_assoc param.name (58 ∷ (bound_text param.class_bound
    ++ flat_map (λ bound. 58 ∷ type_text bound) param.interface_bounds)) more

param_name : (param : JParam) → is_param param ≡ true → is_identifier param.name ≡ true
param_name param form =
    (and_parts (is_identifier param.name) (is_class_bound param.class_bound)
    (and_parts (is_identifier param.name && is_class_bound param.class_bound)
    (are_types Reference param.interface_bounds) form).0).0

params_front : (params : List JParam) (more : List ℕ) → list_all is_param params ≡ true
    → (begins_with 58 (flat_map param_text params ++ (62 ∷ more)) ≡ false)
    × (is_before_type (flat_map param_text params ++ (62 ∷ more)) ≡ false)
params_front [] more form = (refl, refl)
params_front (param ∷ params) more form =
    let name = param_name param (and_parts (is_param param) (list_all is_param params) form).0 in
    let tail = (bound_text param.class_bound
    ++ flat_map (λ bound. 58 ∷ type_text bound) param.interface_bounds)
    ++ (flat_map param_text params ++ (62 ∷ more)) in
    let whole : flat_map param_text (param ∷ params) ++ (62 ∷ more)
    ≡ param.name ++ (58 ∷ tail) =
    append_assoc (param_text param) (flat_map param_text params) (62 ∷ more)
    ∙ param_front param (flat_map param_text params ++ (62 ∷ more)) in (
      ap (begins_with 58) whole ∙ name_unlike 58 param.name (58 ∷ tail) refl name,
      ap is_before_type
          whole ∙ name_ahead param.name tail name,
    )

params_row : (params : List JParam) (more : List ℕ) → list_all is_param params ≡ true
    → Shallow (flat_map param_levels params)
    → ParamsRow params (flat_map param_text params ++ (62 ∷ more)) more
params_row [] more form shallow = refl
params_row (param ∷ params) more form shallow =
    let f = and_parts (is_param param) (list_all is_param params) form in
    let front = params_front params more f.1 in (
      flat_map param_text params ++ (62 ∷ more),
      record {
        form = f.0;
        shallow = shallow_left (param_levels param)
            (flat_map param_levels params) shallow;
        unmarked = front.0;
        stops = front.1;
        whole = append_assoc (param_text param) (flat_map param_text params) (62 ∷ more);
      },
      params_row params more f.1 (shallow_right (param_levels param) (flat_map param_levels params)
          shallow),
    )

pub no_params : (bytes left : List ℕ) → (begins_with 60 bytes ≡ false) × (left ≡ bytes)
    → (none : List JParam) → none ≡ [] → Builds ParamsStand bytes (Ok none) left
no_params bytes left differs none is = record { gives = by } where
  by : (params : List JParam) (more : List ℕ) → ParamsStand params bytes more
      → (none ≡ params) × (left ≡ more)
  by [] more s = (is, differs.1 ∙ s.whole)
  by (param ∷ params) more s = absurd (false≢true (sym differs.0 ∙ ap (begins_with 60) s.whole))

pub params_lead : (bytes left : List ℕ) → bytes ≡ 60 ∷ left → (none : List JParam) → none ≡ []
    → Leads (behind none) ParamsStand ParamsRow bytes left
params_lead bytes left front none is = record { leads = by } where
  by : (params : List JParam) (more : List ℕ) → ParamsStand params bytes more
      → (later : List JParam) × (behind none later ≡ params) × ParamsRow later left more
  by [] more s = absurd (false≢true (sym s.stops ∙ ap (begins_with 60) (sym s.whole ∙ front)))
  by (param ∷ params) more s =
      let levels : Shallow (flat_map param_levels (param ∷ params)) = shallow_left
      (flat_map param_levels (param ∷ params)) (0 ∷ []) (shallow_tail 0 _ s.shallow) in
      let same : left ≡ flat_map param_text (param ∷ params)
      ++ (62 ∷ more) =
      rest_of_cons (sym front ∙ s.whole)
      ∙ append_assoc (flat_map param_text (param ∷ params)) (62 ∷ []) more in (
        param ∷ params,
        ap (λ items. items ++ (param ∷ params)) is,
        subst
            (λ b. ParamsRow (param ∷ params) b more) (sym same)
            (params_row (param ∷ params) more s.form levels),
      )

pub param_next : (bytes rest : List ℕ) → (begins_with 62 bytes ≡ false) × (rest ≡ bytes)
    → Splits cons ParamsRow ParamStands ParamsRow bytes rest
param_next bytes rest differs = record { splits = by } where
  by : (params : List JParam) (more : List ℕ) → ParamsRow params bytes more
      → (param : JParam) × (later : List JParam) × (middle : List ℕ) × (cons param later ≡ params)
      × ParamStands param rest middle × ParamsRow later middle more
  by [] more s = absurd (false≢true (sym differs.0 ∙ ap (begins_with 62) s))
  by (param ∷ later) more s =
      (param, later, s.0, refl, subst (λ b. ParamStands param b s.0) (sym differs.1) s.1, s.2)

pub params_end : (bytes left : List ℕ) → bytes ≡ 62 ∷ left → Builds ParamsRow bytes (Ok []) left
params_end bytes left front = record { gives = by } where
  by : (params : List JParam) (more : List ℕ) → ParamsRow params bytes more
      → ([] ≡ params) × (left ≡ more)
  by [] more s = (refl, rest_of_cons (sym front ∙ s))
  by (param ∷ params) more s = let p = s.1 in
      absurd (false≢true (sym (ap (begins_with 62) (p.whole ∙ param_front param s.0)
      ∙ name_unlike 62 param.name _ refl (param_name param p.form))
      ∙ ap (begins_with 62) front))
