-- A text has one signature at a place, and one descriptor: what it is taken for.
use Rattle.std.proofs.Common.{◌≡◌, refl, sym, ap, ◌∙◌, ℕ, ◌+◌, ◌≤◌, ◌==◌, ◌&&◌, not, Bool, true}
use Rattle.std.proofs.Common.{false, List, [], ◌∷◌, ◌++◌, length, drop, append_assoc, append-nil}
use Rattle.std.proofs.Common.{length-append, Option, Some, None, if◌then◌else◌, arith}
use Rattle.std.specs.List.{list_all, flat_map, AllByRecursion}
use Rattle.std.specs.Cmp.Lexicographic.{same_text, other_text}
use Rattle.std.proofs.lemmas.Bool.{false≢true, and_parts, and_from}
use Rattle.std.proofs.lemmas.Option.{same_Some}
use Rattle.java_names.specs.Names.{is_text, is_identifier}
use Rattle.java_types.specs.declared.production.Production.{Production}
use Rattle.java_types.specs.declared.production.Production.TheVariants.{AnyResult, AnyType}
use Rattle.java_types.specs.declared.production.Production.TheVariants.{Reference, Thrown}
use Rattle.java_types.specs.declared.production.Production.TheVariants.{ClassType}
use Rattle.java_types.specs.declared.production.SigPlace.{SigPlace}
use Rattle.java_types.specs.declared.production.SigPlace.TheVariants.{ClassPlace, MethodPlace}
use Rattle.java_types.specs.declared.production.SigPlace.TheVariants.{FieldPlace}
use Rattle.java_types.specs.declared.types.JType.{JType}
use Rattle.java_types.specs.declared.types.JParam.{JParam}
use Rattle.java_types.specs.declared.types.JSig.{JSig}
use Rattle.java_types.specs.declared.types.JSig.TheVariants.{OfClass, OfMethod, OfField}
use Rattle.java_types.specs.Types.{type_text, bound_text, param_text, params_text, signature_text}
use Rattle.java_types.specs.Signature.{is_type, are_types, is_class_bound, is_param, is_signature}
use Rattle.java_types.specs.Signature.{SignatureSpells}
use Rattle.java_types.specs.Fronts.{begins_with, ends_name, is_before_type}
use Rattle.java_types.specs.Trees.{under, many, marked, enclosed, is_at_end, class_bound, param}
use Rattle.java_types.specs.Trees.{tree_at, java_type, checked, signature_of}
use Rattle.java_types.proofs.Fronts.{unlike, name_place, name_unlike, name_ahead}
use Rattle.java_types.proofs.Fronts.{identifier_is_plain, is_type_byte, type_begins, type_unlike}
use Rattle.java_types.proofs.Fronts.{type_ahead}
use Rattle.java_types.proofs.Rows.{chosen, not_chosen, Taken, many_taken, behind_mark, name_taken}
use Rattle.java_types.proofs.Rows.{enclosed_text, enclosed_taken}
use Rattle.java_types.proofs.Trees.{Any, inside_fits, type_taken}

-- ---- rows of types

-- right types are taken for themselves, and begin as types do
pub record Takes (right : JType → Bool) (read : List ℕ → JType × List ℕ) (n : ℕ) : Type 0 where
  pub taken : (t : JType) → right t ≡ true → length (type_text t) ≤ n → (more : List ℕ)
      → read (type_text t ++ more) ≡ (t, more)
  pub byte : (t : JType) → right t ≡ true → ℕ
  pub tail : (t : JType) → right t ≡ true → List ℕ
  pub text : (t : JType) (is : right t ≡ true) → type_text t ≡ byte t is ∷ tail t is
  pub begins : (t : JType) (is : right t ≡ true) → is_type_byte (byte t is) ≡ true

pub takes_types : (at : Production) (n : ℕ) → Takes (λ t. is_type t at) (java_type ends_name n) n
takes_types at n = record {
  taken = λ t right fits more. type_taken t at right n fits more;
  byte = λ t right. (type_begins at t right).byte;
  tail = λ t right. (type_begins at t right).tail;
  text = λ t right. (type_begins at t right).text;
  begins = λ t right. (type_begins at t right).is;
}

module _ (right : JType → Bool) (read : List ℕ
    → JType × List ℕ) (n : ℕ) (takes : Takes right read n) where
  each_taken : (stops : List ℕ → Bool)
      → ((b : ℕ) (rest : List ℕ) → is_type_byte b ≡ true → stops (b ∷ rest) ≡ false)
      → (types : List JType) → list_all right types ≡ true → length (flat_map type_text types) ≤ n
      → AllByRecursion (Taken stops read type_text Any) types
  each_taken stops goes_on [] all fits = tt
  each_taken stops goes_on (t ∷ types) all fits =
      let p = and_parts (right t) (list_all right types) all in
      let sum : length (type_text t ++ flat_map type_text types)
      ≡ length (type_text t) + length (flat_map type_text types)
      = length-append (type_text t) (flat_map type_text types) in
      let text = takes.text t p.0 in
      let size : length (type_text t) ≡ length (takes.byte t p.0 ∷ takes.tail t p.0)
      = ap length text in (
        λ more g. record {
          some = omega arith;
          goes_on = ap (λ (s : List ℕ). stops (s ++ more)) text
              ∙ goes_on (takes.byte t p.0) (takes.tail t p.0 ++ more) (takes.begins t p.0);
          taken = takes.taken t p.0 (omega arith) more;
          good = tt;
        },
        each_taken stops goes_on types p.1 (omega arith),
      )

  pub types_taken : (stops : List ℕ → Bool)
      → ((b : ℕ) (rest : List ℕ) → is_type_byte b ≡ true → stops (b ∷ rest) ≡ false)
      → (types : List JType) → list_all right types ≡ true → length (flat_map type_text types) ≤ n
      → (more : List ℕ) → stops more ≡ true
      → many stops read n (flat_map type_text types ++ more) ≡ (types, more)
  types_taken stops goes_on types all fits more end
      = many_taken stops read type_text Any types n more fits
      (each_taken stops goes_on types all fits) tt end

  each_marked : (mark : ℕ) → mark == mark ≡ true → (types : List JType)
      → list_all right types ≡ true → length (flat_map (λ t. mark ∷ type_text t) types) ≤ n
      → AllByRecursion (Taken (λ rest. not (begins_with mark rest)) (λ rest. read (drop 1 rest))
      (λ t. mark ∷ type_text t) Any) types
  each_marked mark same [] all fits = tt
  each_marked mark same (t ∷ types) all fits =
      let p = and_parts (right t) (list_all right types) all in
      let rest = flat_map (λ t. mark ∷ type_text t) types in
      let sum : length ((mark ∷ type_text t) ++ rest) ≡ length (mark ∷ type_text t) + length rest
      = length-append (mark ∷ type_text t) rest in (
        behind_mark mark read type_text Any t same (λ more g. takes.taken t p.0
            (omega arith) more) (λ more. tt),
        each_marked mark same types p.1 (omega arith),
      )

  pub marked_taken : (mark : ℕ) → mark == mark ≡ true → (types : List JType)
      → list_all right types ≡ true → length (flat_map (λ t. mark ∷ type_text t) types) ≤ n
      → (more : List ℕ) → begins_with mark more ≡ false
      → marked mark read n (flat_map (λ t. mark ∷ type_text t) types ++ more) ≡ (types, more)
  marked_taken mark same types all fits more end =
      many_taken (λ rest. not (begins_with mark rest)) (λ rest. read
      (drop 1 rest)) (λ t. mark ∷ type_text t) Any types n more fits
      (each_marked mark same types all fits) tt (ap not end)

-- no type begins so
pub no_type : (c : ℕ) → is_type_byte c ≡ false → (b : ℕ) (rest : List ℕ) → is_type_byte b ≡ true
    → begins_with c (b ∷ rest) ≡ false
no_type c fails b rest is = unlike is_type_byte b c is fails

not_at_end : (b : ℕ) (rest : List ℕ) → is_type_byte b ≡ true → is_at_end (b ∷ rest) ≡ false
not_at_end b rest is = refl

-- ---- type parameters

-- what may stand behind a type parameter
abbrev Ahead : List ℕ → Type 0
Ahead more = (begins_with 58 more ≡ false) × (is_before_type more ≡ false)

abbrev bounds_text : List JType → List ℕ
bounds_text bounds = flat_map (λ bound. 58 ∷ type_text bound) bounds

bounds_front : (bounds : List JType) (more : List ℕ) → is_before_type more ≡ false
    → is_before_type (bounds_text bounds ++ more) ≡ false
bounds_front [] more e = e
bounds_front (t ∷ bounds) more e = refl

abbrev one_param : ℕ → List ℕ → JParam × List ℕ
one_param n = param (java_type ends_name n) n

bound_taken : (n : ℕ) (bound : Option JType) → is_class_bound bound ≡ true
    → length (bound_text bound) ≤ n → (more : List ℕ) → is_before_type more ≡ false
    → class_bound (java_type ends_name n) (bound_text bound ++ more) ≡ (bound, more)
bound_taken n None right fits more e = not_chosen (is_before_type more) _ (None, more) e
bound_taken n (Some t) right fits more e =
    chosen (is_before_type (type_text t ++ more)) (under Some
    (java_type ends_name n (type_text t ++ more))) _ (type_ahead t more right)
    ∙ ap (λ (r : JType × List ℕ). under Some r) (type_taken t Reference right n fits more)

param_taken : (n : ℕ) (p : JParam) → is_param p ≡ true → length (param_text p) ≤ n
    → Taken (begins_with 62) (one_param n) param_text Ahead p
param_taken n p right fits more ahead =
    let two = and_parts (is_identifier p.name && is_class_bound p.class_bound)
    (are_types Reference p.interface_bounds) right in
    let form = and_parts (is_identifier p.name) (is_class_bound p.class_bound) two.0 in
    let bound = bound_text p.class_bound in
    let others = bounds_text p.interface_bounds in
    let front = bound ++ (others ++ more) in
    let whole : param_text p ++ more ≡ p.name ++ (58 ∷ front)
    = append_assoc p.name (58 ∷ (bound ++ others)) more
    ∙ ap (λ (t : List ℕ). p.name ++ (58 ∷ t)) (append_assoc bound others more) in
    let sum : length (param_text p) ≡ length p.name + length (58 ∷ (bound ++ others))
    = length-append p.name (58 ∷ (bound ++ others)) in
    let sums : length (bound ++ others) ≡ length bound + length others
    = length-append bound others in
    let named = name_taken ends_name p.name (58 ∷ front) (name_place p.name (58 ∷ front)
    (identifier_is_plain p.name form.0) refl) in
    let bounded : class_bound (java_type ends_name n) front ≡ (p.class_bound, others ++ more)
    = bound_taken n p.class_bound form.1 (omega arith) (others ++ more)
    (bounds_front p.interface_bounds more ahead.1) in
    let rest : marked 58 (java_type ends_name n) n (others ++ more) ≡ (p.interface_bounds, more)
    = marked_taken (λ t. is_type t Reference) (java_type ends_name n) n
    (takes_types Reference n) 58 refl p.interface_bounds two.1 (omega arith) more ahead.0 in
    record {
      some = omega arith;
      goes_on = ap (begins_with 62) whole ∙ name_unlike 62 p.name (58 ∷ front) refl form.0;
      taken = ap (one_param n) whole ∙ ap (named_param n) named
          ∙ ap (bounded_param n p.name) bounded
          ∙ ap (λ (r : List JType × List ℕ). (
            record {
              name = p.name;
              class_bound = p.class_bound;
              interface_bounds = r.0;
            },
            r.1,
          )) rest;
      good = (
        ap (begins_with 58) whole
            ∙ name_unlike 58 p.name (58 ∷ front) refl form.0,
        ap is_before_type whole
            ∙ name_ahead p.name front form.0,
      );
    }
  where
    bounded_param : (n : ℕ) (v : List ℕ) (bound : Option JType × List ℕ) → JParam × List ℕ
    bounded_param n v bound = let others = marked 58 (java_type ends_name n) n bound.1 in
        (record { name = v; class_bound = bound.0; interface_bounds = others.0 }, others.1)

    named_param : (n : ℕ) (named : List ℕ × List ℕ) → JParam × List ℕ
    named_param n named
        = bounded_param n named.0 (class_bound (java_type ends_name n) (drop 1 named.1))

each_param : (n : ℕ) (params : List JParam) → list_all is_param params ≡ true
    → length (flat_map param_text params) ≤ n
    → AllByRecursion (Taken (begins_with 62) (one_param n) param_text Ahead) params
each_param n [] right fits = tt
each_param n (p ∷ params) right fits =
    let form = and_parts (is_param p) (list_all is_param params) right in
    let sum : length (param_text p ++ flat_map param_text params)
    ≡ length (param_text p) + length (flat_map param_text params)
    = length-append (param_text p) (flat_map param_text params) in
    (param_taken n p form.0 (omega arith), each_param n params form.1 (omega arith))

params_as : (params : List JParam) → params_text params ≡ enclosed_text param_text params
params_as [] = refl
params_as (p ∷ params) = refl

params_taken : (n : ℕ) (params : List JParam) → list_all is_param params ≡ true
    → length (params_text params) ≤ n → (more : List ℕ) → begins_with 60 more ≡ false
    → enclosed (one_param n) n (params_text params ++ more) ≡ (params, more)
params_taken n params right fits more none =
    let same : length (params_text params) ≡ length (enclosed_text param_text params)
    = ap length (params_as params) in
    let within = inside_fits param_text params in
    ap (λ (t : List ℕ). enclosed (one_param n) n (t ++ more)) (params_as params)
    ∙ enclosed_taken (one_param n) param_text Ahead params n more (omega arith)
    (each_param n params right (omega arith)) (refl, refl) (λ empty. none)

-- ---- trees

class_tree : (n : ℕ) (params : List JParam) (super : JType) (interfaces : List JType)
    → is_signature ClassPlace (OfClass params super interfaces) ≡ true
    → length (signature_text (OfClass params super interfaces)) ≤ n
    → tree_at ClassPlace (java_type ends_name n) n (signature_text
    (OfClass params super interfaces)) ≡ OfClass params super interfaces
class_tree n params super interfaces right fits =
    let two = and_parts (list_all is_param params && is_type super ClassType)
    (are_types ClassType interfaces) right in
    let one = and_parts (list_all is_param params) (is_type super ClassType) two.0 in
    let last = flat_map type_text interfaces in
    let sum : length (params_text params ++ (type_text super ++ last))
    ≡ length (params_text params) + length (type_text super ++ last)
    = length-append (params_text params) (type_text super ++ last) in
    let sums : length (type_text super ++ last) ≡ length (type_text super) + length last
    = length-append (type_text super) last in
    let front : enclosed (one_param n) n (params_text params ++ (type_text super ++ last))
    ≡ (params, type_text super ++ last)
    = params_taken n params one.0 (omega arith) (type_text super ++ last)
    (type_unlike ClassType super 60 last one.1 refl) in
    let middle : java_type ends_name n (type_text super ++ last) ≡ (super, last)
    = type_taken super ClassType one.1 n (omega arith) last in
    let end : many is_at_end (java_type ends_name n) n last ≡ (interfaces, [])
    = ap (many is_at_end (java_type ends_name n) n) (sym (append-nil last))
    ∙ types_taken (λ t. is_type t ClassType) (java_type ends_name n) n
    (takes_types ClassType n) is_at_end not_at_end interfaces two.1 (omega arith) [] refl in
    ap (λ (r : List JParam × List ℕ). let super = java_type ends_name n r.1 in
    OfClass r.0 super.0 (many is_at_end (java_type ends_name n) n super.1).0) front
    ∙ ap (λ (r : JType × List ℕ). OfClass params r.0
    (many is_at_end (java_type ends_name n) n r.1).0) middle
    ∙ ap (λ (r : List JType × List ℕ). OfClass params super r.0) end

-- what stands behind the ( of a method
pub method_end : (right : JType → Bool) (right_result right_thrown : JType → Bool) (read : List ℕ
    → JType × List ℕ) (n : ℕ) → Takes right read n → Takes right_result read n
    → Takes right_thrown read n
    → (formals : List JType) (ret : JType) (throws : List JType) → list_all right formals ≡ true
    → right_result ret ≡ true → list_all right_thrown throws ≡ true
    → length (flat_map type_text formals ++
    (41 ∷ (type_text ret ++ flat_map (λ thrown. 94 ∷ type_text thrown) throws))) ≤ n
    → (params : List JParam)
    → (let formals_of = many (begins_with 41) read n
    (flat_map type_text formals ++
    (41 ∷ (type_text ret ++ flat_map (λ thrown. 94 ∷ type_text thrown) throws))) in
    let ret_of = read (drop 1 formals_of.1) in
    OfMethod params formals_of.0 ret_of.0 (marked 94 read n ret_of.1).0)
    ≡ OfMethod params formals ret throws
method_end right right_result right_thrown read n takes takes_result takes_thrown formals ret
    throws
    all is_result all_thrown fits params =
    let thrown = flat_map (λ thrown. 94 ∷ type_text thrown) throws in
    let sum : length (flat_map type_text formals ++ (41 ∷ (type_text ret ++ thrown)))
    ≡ length (flat_map type_text formals) + length (41 ∷ (type_text ret ++ thrown))
    = length-append (flat_map type_text formals) (41 ∷ (type_text ret ++ thrown)) in
    let sums : length (type_text ret ++ thrown) ≡ length (type_text ret) + length thrown
    = length-append (type_text ret) thrown in
    let front = types_taken right read n takes (begins_with 41) (no_type 41 refl) formals all
    (omega arith) (41 ∷ (type_text ret ++ thrown)) refl in
    let middle : read (type_text ret ++ thrown) ≡ (ret, thrown)
    = takes_result.taken ret is_result (omega arith) thrown in
    let end : marked 94 read n thrown ≡ (throws, [])
    = ap (marked 94 read n) (sym (append-nil thrown))
    ∙ marked_taken right_thrown read n takes_thrown 94 refl throws all_thrown
    (omega arith) [] refl in
    ap (λ (r : List JType × List ℕ). let ret_of = read (drop 1 r.1) in
    OfMethod params r.0 ret_of.0 (marked 94 read n ret_of.1).0) front
    ∙ ap (λ (r : JType × List ℕ). OfMethod params formals r.0 (marked 94 read n r.1).0) middle
    ∙ ap (λ (r : List JType × List ℕ). OfMethod params formals ret r.0) end

method_tree : (n : ℕ) (params : List JParam) (formals : List JType) (ret : JType)
    (throws : List JType) → is_signature MethodPlace (OfMethod params formals ret throws) ≡ true
    → length (signature_text (OfMethod params formals ret throws)) ≤ n
    → tree_at MethodPlace (java_type ends_name n) n (signature_text
    (OfMethod params formals ret throws)) ≡ OfMethod params formals ret throws
method_tree n params formals ret throws right fits =
    let three = and_parts
    (list_all is_param params && are_types AnyType formals && is_type ret AnyResult)
    (are_types Thrown throws) right in
    let two = and_parts (list_all is_param params && are_types AnyType formals)
    (is_type ret AnyResult) three.0 in
    let one = and_parts (list_all is_param params) (are_types AnyType formals) two.0 in
    let behind = flat_map type_text formals ++ (41 ∷
    (type_text ret ++ flat_map (λ thrown. 94 ∷ type_text thrown) throws)) in
    let sum : length (params_text params ++ (40 ∷ behind))
    ≡ length (params_text params) + length (40 ∷ behind)
    = length-append (params_text params) (40 ∷ behind) in
    let front : enclosed (one_param n) n (params_text params ++ (40 ∷ behind))
    ≡ (params, 40 ∷ behind) = params_taken n params one.0 (omega arith) (40 ∷ behind) refl in
    ap (λ (r : List JParam × List ℕ). let formals_of = many (begins_with 41)
    (java_type ends_name n) n (drop 1 r.1) in let ret_of
    = java_type ends_name n (drop 1 formals_of.1) in
    OfMethod r.0 formals_of.0 ret_of.0 (marked 94 (java_type ends_name n) n ret_of.1).0) front
    ∙ method_end (λ t. is_type t AnyType) (λ t. is_type t AnyResult) (λ t. is_type t Thrown)
    (java_type ends_name n) n (takes_types AnyType n) (takes_types AnyResult n)
    (takes_types Thrown n) formals ret throws one.1 two.1 three.1 (omega arith) params

pub tree_is : (place : SigPlace) (sig : JSig) (n : ℕ) → is_signature place sig ≡ true
    → length (signature_text sig) ≤ n
    → tree_at place (java_type ends_name n) n (signature_text sig) ≡ sig
tree_is ClassPlace (OfClass params super interfaces) n right fits
    = class_tree n params super interfaces right fits
tree_is MethodPlace (OfMethod params formals ret throws) n right fits
    = method_tree n params formals ret throws right fits
tree_is FieldPlace (OfField t) n right fits =
    ap (λ (r : JType × List ℕ). OfField r.0) (ap (java_type ends_name n)
    (sym (append-nil (type_text t))) ∙ type_taken t Reference right n fits [])
tree_is ClassPlace (OfMethod params formals ret throws) n right fits = absurd (false≢true right)
tree_is ClassPlace (OfField t) n right fits = absurd (false≢true right)
tree_is MethodPlace (OfClass params super interfaces) n right fits = absurd (false≢true right)
tree_is MethodPlace (OfField t) n right fits = absurd (false≢true right)
tree_is FieldPlace (OfClass params super interfaces) n right fits = absurd (false≢true right)
tree_is FieldPlace (OfMethod params formals ret throws) n right fits = absurd (false≢true right)

-- ---- what was taken, checked

is_same : (text : List ℕ) → is_text text text ≡ true
is_same text = by (is_text text text) refl
  where
    by : (t : Bool) → is_text text text ≡ t → t ≡ true
    by true e = refl
    by false e = absurd (other_text text text (sym e) refl)

pub checked_found : (is_right : JSig → Bool) (text : List ℕ) (tree sig : JSig) → tree ≡ sig
    → is_right sig ≡ true → text ≡ signature_text sig → checked is_right text tree ≡ Some sig
checked_found is_right text tree sig is right whole =
    ap (checked is_right text) is
    ∙ chosen (is_right sig && is_text (signature_text sig) text) (Some sig) None (and_from
    (is_right sig) (is_text (signature_text sig) text) right (ap
    (is_text (signature_text sig)) whole ∙ is_same (signature_text sig)))

pub checked_right : (is_right : JSig → Bool) (text : List ℕ) (tree sig : JSig)
    → checked is_right text tree ≡ Some sig → (is_right sig ≡ true) × (text ≡ signature_text sig)
checked_right is_right text tree sig e
    = by (is_right tree && is_text (signature_text tree) text) refl e
  where
    by : (t : Bool) → is_right tree && is_text (signature_text tree) text ≡ t
        → (if t then Some tree else None) ≡ Some sig
        → (is_right sig ≡ true) × (text ≡ signature_text sig)
    by true passed e =
        let same : tree ≡ sig = same_Some tree sig e in
        let p = and_parts (is_right tree) (is_text (signature_text tree) text) passed in (
          ap is_right (sym same) ∙ p.0,
          sym (same_text (signature_text tree) text (sym p.1))
              ∙ ap signature_text same,
        )
    by false passed e = absurd (cc)

pub signature_found : (place : SigPlace) (sig : JSig) (text : List ℕ)
    → SignatureSpells place sig text → signature_of place text ≡ Some sig
unfolding signature_of
signature_found place sig text s =
    checked_found (is_signature place) text (tree_at place (java_type ends_name (length text))
    (length text) text) sig
    (ap (tree_at place (java_type ends_name (length text)) (length text)) s.whole
    ∙ tree_is place sig (length text) s.form (let e : length text ≡ length
    (signature_text sig) = ap length s.whole in omega arith))
    s.form s.whole

pub signature_spelled : (place : SigPlace) (sig : JSig) (text : List ℕ)
    → signature_of place text ≡ Some sig → SignatureSpells place sig text
unfolding signature_of
signature_spelled place sig text e =
    let p = checked_right (is_signature place) text (tree_at place
    (java_type ends_name (length text)) (length text) text) sig e in
    record { form = p.0; whole = p.1 }

pub one_signature : (place : SigPlace) (text : List ℕ) (a b : JSig) → SignatureSpells place a text
    → SignatureSpells place b text → a ≡ b
one_signature place text a b s t = same_Some a b (sym (signature_found place a text s)
    ∙ signature_found place b text t)
