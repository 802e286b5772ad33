-- Signatures as languages: what may follow at the start of the scan.
use Rattle.std.proofs.Common.{◌≡◌, ◌↔◌, inl, inr, refl, ap, ◌∙◌, ℕ, true, List, [], ◌∷◌, ◌++◌}
use Rattle.std.proofs.Common.{Option, Some, None}
use Rattle.std.specs.Prelude.{codes}
use Rattle.std.specs.List.{list_all, flat_map}
use Rattle.std.proofs.lemmas.Bool.{false≢true}
use Rattle.java_types.specs.declared.types.JType.{JType}
use Rattle.java_types.specs.declared.types.JParam.{JParam}
use Rattle.java_types.specs.declared.types.JSig.{JSig}
use Rattle.java_types.specs.declared.types.JSig.TheVariants.{OfClass, OfMethod, OfField}
use Rattle.java_types.specs.Types.{type_text, bound_text, param_text, params_text, signature_text}
use Rattle.java_types.specs.declared.production.Production.TheVariants.{AnyResult, AnyType}
use Rattle.java_types.specs.declared.production.Production.TheVariants.{Reference, Thrown}
use Rattle.java_types.specs.declared.production.Production.TheVariants.{ClassType}
use Rattle.java_types.specs.declared.production.SigPlace.{SigPlace}
use Rattle.java_types.specs.declared.production.SigPlace.TheVariants.{ClassPlace, MethodPlace}
use Rattle.java_types.specs.declared.production.SigPlace.TheVariants.{FieldPlace}
use Rattle.java_types.specs.Signature.{SignatureSpells, is_type, are_types, is_class_bound}
use Rattle.java_types.specs.Signature.{is_param, is_signature}
use Rattle.java_names.specs.Names.{is_identifier}
use Rattle.signature_scan.specs.declared.state.State.TheVariants as state
use Rattle.signature_scan.proofs.Conjunctions.{and_true, three_true, four_true}
use Rattle.signature_scan.proofs.Languages.{same, and_then, turned, Star}
use Rattle.signature_scan.proofs.Expressions.{Expr, Byte, NameByte, Many, Maybe, Both, Kind}
use Rattle.signature_scan.proofs.Expressions.{Words, Rows, AnyRow, IsTextOf, IsKind, names}
use Rattle.signature_scan.proofs.Expressions.{one_row, row_one, parts_is}
use Rattle.signature_scan.proofs.Names.{identifier_is}
use Rattle.signature_scan.proofs.Items.{list_is, behind_byte}
use Rattle.signature_scan.proofs.States.{bounds, parameter, parameters, throws, body_row, rows}

-- ---- type parameters

bound_is_to : (w : List ℕ) (bound : Option JType) → is_class_bound bound ≡ true
    → w ≡ bound_text bound → Words (Maybe (Kind Reference)) w
bound_is_to w None is e = inl e
bound_is_to w (Some bound) is e = inr (record { item = bound; is = is; whole = e })

bound_is_back : (w : List ℕ) → Words (Maybe (Kind Reference)) w
    → IsTextOf is_class_bound bound_text w
bound_is_back w (inl e) = record { item = None; is = refl; whole = e }
bound_is_back w (inr t) = record { item = Some t.item; is = t.is; whole = t.whole }

bounds_is : (w : List ℕ) → IsTextOf (are_types Reference)
    (flat_map (λ bound. codes ":" ++ type_text bound)) w ↔ Words bounds w
bounds_is w =
    list_is (λ bound. is_type bound Reference) (λ bound. 58 ∷ type_text bound)
    (Words (Both (Byte 58) (Kind Reference)))
    (behind_byte (λ bound. is_type bound Reference) type_text (IsKind Reference) (λ v. same) 58) w

-- a type parameter with its parts from the right
abbrev grouped : Expr
grouped = Both (Both NameByte names) (Both (Byte 58) (Both (Maybe (Kind Reference)) bounds))

parameter_as : (w : List ℕ) → Words grouped w ↔ Words parameter w
parameter_as w = and_then (parts_is grouped w) (turned (parts_is parameter w))

param_to : (w : List ℕ) (param : JParam) → is_param param ≡ true → w ≡ param_text param
    → Words grouped w
param_to w param is e =
    let p = (three_true (is_identifier param.name) (is_class_bound param.class_bound)
    (are_types Reference param.interface_bounds)).1 is in
    let later = flat_map (λ bound. codes ":" ++ type_text bound) param.interface_bounds in
    record {
      front = param.name;
      rest = 58 ∷ (bound_text param.class_bound ++ later);
      whole = e;
      first = (identifier_is param.name).0 p.0;
      second = record {
        front = 58 ∷ [];
        rest = bound_text param.class_bound ++ later;
        whole = refl;
        first = refl;
        second = record {
          front = bound_text param.class_bound;
          rest = later;
          whole = refl;
          first = bound_is_to (bound_text param.class_bound) param.class_bound p.1 refl;
          second =
              (bounds_is later).0 (record {
                item = param.interface_bounds;
                is = p.2;
                whole = refl;
              });
        };
      };
    }

param_back : (w : List ℕ) → Words grouped w → IsTextOf is_param param_text w
param_back w c =
    let inside = c.second.second in
    let bound = bound_is_back inside.front inside.first in
    let later = (bounds_is inside.rest).1 inside.second in
    let param : JParam = record {
      name = c.front;
      class_bound = bound.item;
      interface_bounds = later.item;
    } in
    record {
      item = param;
      is =
          (three_true (is_identifier c.front) (is_class_bound bound.item)
          (are_types Reference later.item)).0
          ((identifier_is c.front).1 c.first, bound.is, later.is);
      whole = c.whole ∙ ap (λ (v : List ℕ). c.front ++ v) (c.second.whole
          ∙ ap (λ (v : List ℕ). v ++ c.second.rest) c.second.first
          ∙ ap (λ (v : List ℕ). 58 ∷ v)
          (inside.whole ∙ ap (λ (v : List ℕ). v ++ inside.rest) bound.whole
          ∙ ap (λ (v : List ℕ). bound_text bound.item ++ v) later.whole));
    }

param_is : (w : List ℕ) → IsTextOf is_param param_text w ↔ Words parameter w
param_is w = and_then (λ t. param_to w t.item t.is t.whole, param_back w) (parameter_as w)

later_params : (w : List ℕ) → IsTextOf (list_all is_param) (flat_map param_text) w
    ↔ Star (Words parameter) w
later_params w = list_is is_param param_text (Words parameter) param_is w

params_to : (w : List ℕ) (params : List JParam) → list_all is_param params ≡ true
    → w ≡ params_text params → Words parameters w
params_to w [] is e = inl e
params_to w (param ∷ params) is e =
    let p = (and_true (is_param param) (list_all is_param params)).1 is in
    inr (record {
      front = 60 ∷ (param_text param ++ flat_map param_text params);
      rest = 62 ∷ [];
      whole = e;
      first = record {
        front = 60 ∷ param_text param;
        rest = flat_map param_text params;
        whole = refl;
        first =
            record {
              front = 60 ∷ [];
              rest = param_text param;
              whole = refl;
              first = refl;
              second =
                  (param_is (param_text param)).0
                  (record { item = param; is = p.0; whole = refl });
            };
        second =
            (later_params (flat_map param_text params)).0
            (record { item = params; is = p.1; whole = refl });
      };
      second = refl;
    })

params_back : (w : List ℕ) → Words parameters w → IsTextOf (list_all is_param) params_text w
params_back w (inl e) = record { item = []; is = refl; whole = e }
params_back w (inr c) =
    let front = c.first in
    let one = (param_is front.first.rest).1 front.first.second in
    let more = (later_params front.rest).1 front.second in
    record {
      item = one.item ∷ more.item;
      is = (and_true (is_param one.item) (list_all is_param more.item)).0 (one.is, more.is);
      whole = c.whole
          ∙ ap (λ (v : List ℕ). v ++ c.rest) (front.whole
          ∙ ap (λ (v : List ℕ). v ++ front.rest)
          (front.first.whole ∙ ap (λ (v : List ℕ). v ++ front.first.rest) front.first.first
          ∙ ap (λ (v : List ℕ). 60 ∷ v) one.whole)
          ∙ ap (λ (v : List ℕ). 60 ∷ (param_text one.item ++ v)) more.whole)
          ∙ ap (λ (v : List ℕ). 60 ∷ ((param_text one.item ++ flat_map param_text more.item) ++ v))
          c.second;
    }

-- ---- lists of types

class_types : (w : List ℕ) → IsTextOf (are_types ClassType) (flat_map type_text) w
    ↔ Words (Many (Kind ClassType)) w
class_types w = list_is (λ type. is_type type ClassType) type_text (IsKind ClassType) (λ v. same) w

any_types : (w : List ℕ) → IsTextOf (are_types AnyType) (flat_map type_text) w
    ↔ Words (Many (Kind AnyType)) w
any_types w = list_is (λ type. is_type type AnyType) type_text (IsKind AnyType) (λ v. same) w

throws_is : (w : List ℕ) → IsTextOf (are_types Thrown)
    (flat_map (λ thrown. codes "^" ++ type_text thrown)) w ↔ Words throws w
throws_is w =
    list_is (λ thrown. is_type thrown Thrown) (λ thrown. 94 ∷ type_text thrown)
    (Words (Both (Byte 94) (Kind Thrown)))
    (behind_byte (λ thrown. is_type thrown Thrown) type_text (IsKind Thrown) (λ v. same) 94) w

-- ---- signatures

-- some signature has this text
abbrev pub Spelled : SigPlace → List ℕ → Type 0
Spelled place w = (sig : JSig) × SignatureSpells place sig w

class_to : (w : List ℕ) (sig : JSig) → is_signature ClassPlace sig ≡ true → w ≡ signature_text sig
    → Rows (parameters ∷ body_row ClassPlace) w
class_to w (OfMethod params formals ret thrown) is e = absurd (false≢true is)
class_to w (OfField type) is e = absurd (false≢true is)
class_to w (OfClass params super interfaces) is e =
    let p = (three_true (list_all is_param params) (is_type super ClassType)
    (are_types ClassType interfaces)).1 is in
    record {
      front = params_text params;
      rest = type_text super ++ flat_map type_text interfaces;
      whole = e;
      first = params_to (params_text params) params p.0 refl;
      second = record {
        front = type_text super;
        rest = flat_map type_text interfaces;
        whole = refl;
        first = record { item = super; is = p.1; whole = refl };
        second =
            (row_one (Many (Kind ClassType)) (flat_map type_text interfaces)).1
            ((class_types (flat_map type_text interfaces)).0
            (record { item = interfaces; is = p.2; whole = refl }));
      };
    }

class_back : (w : List ℕ) → Rows (parameters ∷ body_row ClassPlace) w → Spelled ClassPlace w
class_back w c =
    let params = params_back c.front c.first in
    let super = c.second.first in
    let interfaces = (class_types c.second.rest).1
    ((row_one (Many (Kind ClassType)) c.second.rest).0 c.second.second) in (
      OfClass params.item super.item interfaces.item,
      record {
        form =
            (three_true (list_all is_param params.item) (is_type super.item ClassType)
            (are_types ClassType interfaces.item)).0 (params.is, super.is, interfaces.is);
        whole = c.whole ∙ ap (λ (v : List ℕ). v ++ c.rest) params.whole
            ∙ ap (λ (v : List ℕ). params_text params.item ++ v)
            (c.second.whole ∙ ap (λ (v : List ℕ). v ++ c.second.rest) super.whole
            ∙ ap (λ (v : List ℕ). type_text super.item ++ v) interfaces.whole);
      },
    )

method_to : (w : List ℕ) (sig : JSig) → is_signature MethodPlace sig ≡ true →
    w ≡ signature_text sig
    → Rows (parameters ∷ body_row MethodPlace) w
method_to w (OfClass params super interfaces) is e = absurd (false≢true is)
method_to w (OfField type) is e = absurd (false≢true is)
method_to w (OfMethod params formals ret thrown) is e =
    let p = (four_true (list_all is_param params) (are_types AnyType formals)
    (is_type ret AnyResult) (are_types Thrown thrown)).1 is in
    let last = flat_map (λ thrown. codes "^" ++ type_text thrown) thrown in
    record {
      front = params_text params;
      rest = 40 ∷ (flat_map type_text formals ++ (41 ∷ (type_text ret ++ last)));
      whole = e;
      first = params_to (params_text params) params p.0 refl;
      second = record {
        front = 40 ∷ [];
        rest = flat_map type_text formals ++ (41 ∷ (type_text ret ++ last));
        whole = refl;
        first = refl;
        second = record {
          front = flat_map type_text formals;
          rest = 41 ∷ (type_text ret ++ last);
          whole = refl;
          first =
              (any_types (flat_map type_text formals)).0
              (record { item = formals; is = p.1; whole = refl });
          second = record {
            front = 41 ∷ [];
            rest = type_text ret ++ last;
            whole = refl;
            first = refl;
            second = record {
              front = type_text ret;
              rest = last;
              whole = refl;
              first = record { item = ret; is = p.2; whole = refl };
              second =
                  (row_one throws last).1 ((throws_is last).0
                  (record { item = thrown; is = p.3; whole = refl }));
            };
          };
        };
      };
    }

method_back : (w : List ℕ) → Rows (parameters ∷ body_row MethodPlace) w → Spelled MethodPlace w
method_back w c =
    let params = params_back c.front c.first in
    let opened = c.second in
    let formals = (any_types opened.second.front).1 opened.second.first in
    let closed = opened.second.second in
    let ret = closed.second.first in
    let thrown = (throws_is closed.second.rest).1
    ((row_one throws closed.second.rest).0 closed.second.second) in (
      OfMethod params.item formals.item ret.item thrown.item,
      record {
        form =
            (four_true (list_all is_param params.item) (are_types AnyType formals.item)
            (is_type ret.item AnyResult) (are_types Thrown thrown.item)).0
            (params.is, formals.is, ret.is, thrown.is);
        whole = c.whole ∙ ap (λ (v : List ℕ). v ++ c.rest) params.whole
            ∙ ap (λ (v : List ℕ). params_text params.item ++ v)
            (opened.whole ∙ ap (λ (v : List ℕ). v ++ opened.rest) opened.first
            ∙ ap (λ (v : List ℕ). 40 ∷ v)
            (opened.second.whole ∙ ap (λ (v : List ℕ). v ++ opened.second.rest) formals.whole
            ∙ ap (λ (v : List ℕ). flat_map type_text formals.item ++ v)
            (closed.whole ∙ ap (λ (v : List ℕ). v ++ closed.rest) closed.first
            ∙ ap (λ (v : List ℕ). 41 ∷ v)
            (closed.second.whole ∙ ap (λ (v : List ℕ). v ++ closed.second.rest) ret.whole
            ∙ ap (λ (v : List ℕ). type_text ret.item ++ v) thrown.whole))));
      },
    )

field_to : (w : List ℕ) (sig : JSig) → is_signature FieldPlace sig ≡ true → w ≡ signature_text sig
    → Rows (body_row FieldPlace) w
field_to w (OfClass params super interfaces) is e = absurd (false≢true is)
field_to w (OfMethod params formals ret thrown) is e = absurd (false≢true is)
field_to w (OfField type) is e =
    (row_one (Kind Reference) w).1 (record { item = type; is = is; whole = e })

field_back : (w : List ℕ) → Rows (body_row FieldPlace) w → Spelled FieldPlace w
field_back w c = let t = (row_one (Kind Reference) w).0 c in
    (OfField t.item, record { form = t.is; whole = t.whole })

-- what may follow at the start is a signature
pub start_is : (place : SigPlace) (w : List ℕ) → AnyRow (rows (state.Start place)) w
    ↔ Spelled place w
start_is ClassPlace w =
    and_then (one_row (parameters ∷ body_row ClassPlace) w)
    (λ r. class_back w r, λ s. class_to w s.0 s.1.form s.1.whole)
start_is MethodPlace w =
    and_then (one_row (parameters ∷ body_row MethodPlace) w)
    (λ r. method_back w r, λ s. method_to w s.0 s.1.form s.1.whole)
start_is FieldPlace w =
    and_then (one_row (body_row FieldPlace) w)
    (λ r. field_back w r, λ s. field_to w s.0 s.1.form s.1.whole)
