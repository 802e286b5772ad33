-- What stands where a type is read, from its first byte on.
use Rattle.std.proofs.Common.{◌≡◌, ◌≢◌, refl, sym, ap, ◌∙◌, subst, ℕ, ◌<◌, ◌≤◌, ◌==◌, ◌&&◌, ◌||◌}
use Rattle.std.proofs.Common.{◌^◌, Bool, true, false, List, [], ◌∷◌, ◌++◌, map, replicate, Ok}
use Rattle.std.proofs.Common.{Err, arith, append_assoc, zero, suc, lit<}
use Rattle.std.specs.Prelude.{codes, nat_le, nat_lt}
use Rattle.std.proofs.lemmas.Bool.{false≢true, eqb-true, ltb-true, leb-true, and_parts}
use Rattle.java_types.specs.declared.types.JType.{JType}
use Rattle.java_types.specs.declared.types.JPart.{JPart}
use Rattle.java_types.specs.declared.types.JType.TheVariants as type
use Rattle.std.proofs.lemmas.List.Folds.{list_any-append}
use Rattle.java_names.specs.Names.{is_among, is_identifier}
use Rattle.java_types.specs.Types.{type_text, part_text, parts_text}
use Rattle.java_types.specs.declared.production.Production.{Production}
use Rattle.java_types.specs.declared.production.Production.TheVariants.{AnyType, Reference}
use Rattle.java_types.specs.declared.production.Production.TheVariants.{Element}
use Rattle.java_types.specs.Signature.{is_type, allows_void, allows_primitive, allows_variable}
use Rattle.java_types.specs.Signature.{allows_array}
use Rattle.java_types.specs.Descriptor.{is_primitive}
use Rattle.java_types.specs.Nesting.{type_levels, part_levels, parts_levels}
use Rattle.java_types.specs.Trees.{arrayed}
use Rattle.java_types.proofs.Layers.{text_prim, text_named, text_var, text_array, form_void}
use Rattle.java_types.proofs.Layers.{form_prim, form_named, form_var, form_array, levels_named}
use Rattle.java_types.proofs.Layers.{levels_array}
use Rattle.java_types.proofs.Fronts.{identifier_is_plain}
use Rattle.descriptor_sig.specs.declared.error.SigErr.{SigErr}
use Rattle.descriptor_sig.specs.declared.error.SigErr.TheVariants.{Memory}
use Rattle.java_types.specs.Fronts.{begins_with, begins_among}
use Rattle.descriptor_sig.specs.Standing.{Builds, Shallow, DimensionsStand, TypeStands}
use Rattle.descriptor_sig.specs.Standing.{PartsStand, VariableStands}
use Rattle.descriptor_sig.proofs.Bytes.{first_of_cons, rest_of_cons}
use Rattle.descriptor_sig.proofs.Cases.{TypeKind, is_void, is_prim, is_named, is_var, is_array}
use Rattle.descriptor_sig.proofs.Cases.{type_kind}
use Rattle.descriptor_sig.proofs.Leading.{Leads, Splits}
use Rattle.descriptor_sig.proofs.Shallows.{shallow_left, shallow_right, shallow_tail}

-- ---- texts of each kind, in front of more

prim_front : (letter : ℕ) (more : List ℕ) → type_text (type.Prim letter) ++ more ≡ letter ∷ more
prim_front letter more = ap (λ text. text ++ more) (text_prim letter)

named_front : (parts : List JPart) (more : List ℕ)
    → type_text (type.Named parts) ++ more ≡ 76 ∷ (parts_text (map part_text parts) ++ (59 ∷ more))
named_front parts more =
    ap (λ text. text ++ more) (text_named parts)
    ∙ ap (λ tail. 76 ∷ tail) (append_assoc (parts_text (map part_text parts)) (59 ∷ []) more)

var_front : (name more : List ℕ) → type_text (type.Var name) ++ more ≡ 84 ∷ (name ++ (59 ∷ more))
var_front name more =
    ap (λ text. text ++ more) (text_var name)
    ∙ ap (λ tail. 84 ∷ tail) (append_assoc name (59 ∷ []) more)

array_front : (element : JType) (dims : ℕ) (more : List ℕ)
    → type_text (type.Array element dims) ++ more ≡ replicate dims 91
    ++ (type_text element ++ more)
array_front element dims more =
    ap (λ text. text ++ more) (text_array element dims)
    ∙ append_assoc (replicate dims 91) (type_text element) more

-- ---- the element of an array

pub data ElementKind (depth : ℕ) (t : JType) (bytes more : List ℕ) : Type 0 where
  prim_stands : (letter : ℕ) → t ≡ type.Prim letter → is_primitive letter ≡ true
      → bytes ≡ letter ∷ more → ElementKind depth t bytes more
  named_stands : (parts : List JPart) (tail : List ℕ) → t ≡ type.Named parts → bytes ≡ 76 ∷ tail
      → PartsStand depth parts tail more → ElementKind depth t bytes more
  var_stands : (name tail : List ℕ) → t ≡ type.Var name → bytes ≡ 84 ∷ tail
      → VariableStands name tail more → ElementKind depth t bytes more

pub element_kind : (depth : ℕ) (t : JType) (bytes more : List ℕ)
    → TypeStands Element depth t bytes more → ElementKind depth t bytes more
element_kind depth t bytes more s = by (type_kind t) where
  at : (v : JType) → t ≡ v → TypeStands Element depth v bytes more
  at v e = subst (λ u. TypeStands Element depth u bytes more) e s

  by : TypeKind t → ElementKind depth t bytes more
  by (is_void e) = absurd (false≢true (sym (form_void Element) ∙ (at type.Void e).form))
  by (is_prim letter e) = let v = at (type.Prim letter) e in
      prim_stands letter e (sym (form_prim letter Element) ∙ v.form)
      (v.whole ∙ prim_front letter more)
  by (is_named parts e) = let v = at (type.Named parts) e in
      let l : Shallow (0 ∷ parts_levels (map part_levels parts) depth ++ (0 ∷ [])) = subst Shallow
      (levels_named parts depth) v.shallow in
      named_stands parts (parts_text (map part_text parts) ++ (59 ∷ more)) e
      (v.whole ∙ named_front parts more)
      (record {
        form = sym (form_named parts Element) ∙ v.form;
        shallow =
            shallow_left (parts_levels (map part_levels parts) depth) (0 ∷ [])
            (shallow_tail 0 _ l);
        whole = refl;
      })
  by (is_var name e) = let v = at (type.Var name) e in
      var_stands name (name ++ (59 ∷ more)) e (v.whole ∙ var_front name more)
      (record {
        plain = identifier_is_plain name (sym (form_var name Element) ∙ v.form);
        whole = refl;
      })
  by (is_array element dims e) =
      absurd (false≢true (sym (form_array element dims Element)
      ∙ (at (type.Array element dims) e).form))

letter_is_no_bracket : (letter : ℕ) → is_primitive letter ≡ true → (letter == 91) ≡ false
letter_is_no_bracket letter e = by (letter == 91) refl where
  by : (t : Bool) → (letter == 91) ≡ t → t ≡ false
  by true h = absurd (false≢true (sym (ap is_primitive (eqb-true letter 91 h)) ∙ e))
  by false h = refl

pub element_front : (depth : ℕ) (t : JType) (bytes more : List ℕ)
    → TypeStands Element depth t bytes more → begins_with 91 bytes ≡ false
element_front depth t bytes more s = by (element_kind depth t bytes more s) where
  by : ElementKind depth t bytes more → begins_with 91 bytes ≡ false
  by (prim_stands letter e p f) = ap (begins_with 91) f ∙ letter_is_no_bracket letter p
  by (named_stands parts tail e f p) = ap (begins_with 91) f
  by (var_stands name tail e f v) = ap (begins_with 91) f

-- ---- dimensions and the element

pub arrayed_none : (dims : ℕ) (element : JType) → dims ≡ 0 → arrayed dims element ≡ element
arrayed_none dims element e = ap (λ n. arrayed n element) e

pub arrayed_some : (dims : ℕ) (element : JType) → 0 < dims
    → arrayed dims element ≡ type.Array element dims
arrayed_some zero element h = absurd (omega arith)
arrayed_some (suc dims) element h = refl

abbrev pub IsArrayed : ℕ → List ℕ → JType → List ℕ → Type 0
IsArrayed depth bytes t more =
    (dims : ℕ) × (element : JType) × (middle : List ℕ) × (arrayed dims element ≡ t)
    × DimensionsStand dims bytes middle × TypeStands Element depth element middle more

pub type_splits : (depth : ℕ) (bytes : List ℕ)
    → Splits arrayed (TypeStands AnyType depth) DimensionsStand (TypeStands Element depth) bytes
    bytes
type_splits depth bytes = record { splits = λ t more s. by_kind t more s (type_kind t) } where
  at : (t : JType) (more : List ℕ) → TypeStands AnyType depth t bytes more → (v : JType) → t ≡ v
      → TypeStands AnyType depth v bytes more
  at t more s v e = subst (λ u. TypeStands AnyType depth u bytes more) e s

  plain : (t : JType) (more : List ℕ) → TypeStands AnyType depth t bytes more
      → is_type t Element ≡ true → IsArrayed depth bytes t more
  plain t more s form =
      let here : TypeStands Element depth t bytes more =
      record { form = form; shallow = s.shallow; whole = s.whole } in (
        0,
        t,
        bytes,
        refl,
        record {
          few = lit< tt;
          stops = element_front depth t bytes more here;
          whole = refl;
        },
        here,
      )

  array : (element : JType) (dims : ℕ) (more : List ℕ)
      → TypeStands AnyType depth (type.Array element dims) bytes more
      → IsArrayed depth bytes (type.Array element dims) more
  array element dims more s =
      let f = and_parts (nat_le 1 dims && nat_lt dims (2 ^ 32)) (is_type element Element)
      (sym (form_array element dims AnyType) ∙ s.form) in
      let d = and_parts (nat_le 1 dims) (nat_lt dims (2 ^ 32)) f.0 in
      let levels : Shallow (replicate dims 0 ++ type_levels element depth) = subst Shallow
      (levels_array element dims depth) s.shallow in
      let inner : TypeStands Element depth element (type_text element ++ more) more =
      record {
        form = f.1;
        shallow = shallow_right (replicate dims 0)
            (type_levels element depth) levels;
        whole = refl;
      } in (
        dims,
        element,
        type_text element ++ more,
        arrayed_some dims element (leb-true 1 dims d.0),
        record {
          few = ltb-true dims (2 ^ 32) d.1;
          stops = element_front depth element (type_text element ++ more) more inner;
          whole = s.whole ∙ array_front element dims more;
        },
        inner,
      )

  by_kind : (t : JType) (more : List ℕ) → TypeStands AnyType depth t bytes more → TypeKind t
      → IsArrayed depth bytes t more
  by_kind t more s (is_void e) =
      absurd (false≢true (sym (form_void AnyType) ∙ (at t more s type.Void e).form))
  by_kind t more s (is_prim letter e) =
      plain t more s (ap (λ v. is_type v Element) e
      ∙ (form_prim letter Element ∙ (sym (form_prim letter AnyType)
      ∙ (at t more s (type.Prim letter) e).form)))
  by_kind t more s (is_named parts e) =
      plain t more s (ap (λ v. is_type v Element) e
      ∙ (form_named parts Element ∙ (sym (form_named parts AnyType)
      ∙ (at t more s (type.Named parts) e).form)))
  by_kind t more s (is_var name e) =
      plain t more s (ap (λ v. is_type v Element) e
      ∙ (form_var name Element ∙ (sym (form_var name AnyType)
      ∙ (at t more s (type.Var name) e).form)))
  by_kind t more s (is_array element dims e) =
      subst (λ u. IsArrayed depth bytes u more) (sym e)
      (array element dims more (at t more s (type.Array element dims) e))

-- ---- where an element is read

pub no_element : (depth : ℕ) (bytes left : List ℕ) (e : SigErr) → bytes ≡ []
    → Builds (TypeStands Element depth) bytes (Err e) left
no_element depth bytes left e empty =
    record { gives = λ t more s. by t more (element_kind depth t bytes more s) } where
      by : (t : JType) (more : List ℕ) → ElementKind depth t bytes more → e ≡ Memory
      by t more (prim_stands letter is p f) = absurd cc
      by t more (named_stands parts tail is f p) = absurd cc
      by t more (var_stands name tail is f v) = absurd cc

pub prim_built : (depth : ℕ) (bytes left : List ℕ) (letter : ℕ) → bytes ≡ letter ∷ left
    → letter ≢ 76 → letter ≢ 84 → Builds (TypeStands Element depth) bytes (Ok (type.Prim letter))
    left
prim_built depth bytes left letter front no_class no_variable =
    record { gives = λ t more s. by t more (element_kind depth t bytes more s) } where
      by : (t : JType) (more : List ℕ) → ElementKind depth t bytes more
          → (type.Prim letter ≡ t) × (left ≡ more)
      by t more (prim_stands other is p f) =
          let same : letter ∷ left ≡ other ∷ more = sym front ∙ f in
          (ap type.Prim (first_of_cons same) ∙ sym is, rest_of_cons same)
      by t more (named_stands parts tail is f p) =
          absurd (no_class (first_of_cons (sym front ∙ f)))
      by t more (var_stands name tail is f v) =
          absurd (no_variable (first_of_cons (sym front ∙ f)))

pub named_leads : (depth : ℕ) (bytes left : List ℕ) → bytes ≡ 76 ∷ left
    → Leads type.Named (TypeStands Element depth) (PartsStand depth) bytes left
named_leads depth bytes left front =
    record { leads = λ t more s. by t more (element_kind depth t bytes more s) } where
      by : (t : JType) (more : List ℕ) → ElementKind depth t bytes more
          → (parts : List JPart) × (type.Named parts ≡ t) × PartsStand depth parts left more
      by t more (prim_stands letter is p f) =
          absurd (false≢true (ap is_primitive (first_of_cons (sym front ∙ f)) ∙ p))
      by t more (named_stands parts tail is f p) = (
        parts,
        sym is,
        subst (λ rest. PartsStand depth parts rest more)
            (sym (rest_of_cons (sym front ∙ f))) p,
      )
      by t more (var_stands name tail is f v) =
          absurd (false≢true (sym (ap (begins_with 76) f) ∙ ap (begins_with 76) front))

pub var_leads : (depth : ℕ) (bytes left : List ℕ) → bytes ≡ 84 ∷ left
    → Leads type.Var (TypeStands Element depth) VariableStands bytes left
var_leads depth bytes left front =
    record { leads = λ t more s. by t more (element_kind depth t bytes more s) } where
      by : (t : JType) (more : List ℕ) → ElementKind depth t bytes more
          → (name : List ℕ) × (type.Var name ≡ t) × VariableStands name left more
      by t more (prim_stands letter is p f) =
          absurd (false≢true (ap is_primitive (first_of_cons (sym front ∙ f)) ∙ p))
      by t more (named_stands parts tail is f p) =
          absurd (false≢true (sym (ap (begins_with 84) f) ∙ ap (begins_with 84) front))
      by t more (var_stands name tail is f v) = (
        name,
        sym is,
        subst (λ rest. VariableStands name rest more)
            (sym (rest_of_cons (sym front ∙ f))) v,
      )

-- ---- types of the other productions

all_three : (x y z : Bool) → x ≡ true → y ≡ true → z ≡ true → (x && y && z) ≡ true
all_three x y z a b c = cc

-- a class, a type variable or an array is any type
pub loosened : (at : Production) (t : JType) → allows_void at ≡ false → is_type t at ≡ true
    → is_type t AnyType ≡ true
loosened at t void form = by (type_kind t) where
  given : (v : JType) → t ≡ v → is_type v at ≡ true
  given v e = sym (ap (λ u. is_type u at) e) ∙ form

  back : (v : JType) → t ≡ v → is_type v AnyType ≡ true → is_type t AnyType ≡ true
  back v e f = ap (λ u. is_type u AnyType) e ∙ f

  by : TypeKind t → is_type t AnyType ≡ true
  by (is_void e) = absurd (false≢true (sym void ∙ (sym (form_void at) ∙ given type.Void e)))
  by (is_prim letter e) =
      back (type.Prim letter) e (form_prim letter AnyType
      ∙ (and_parts (allows_primitive at) (is_primitive letter)
      (sym (form_prim letter at) ∙ given (type.Prim letter) e)).1)
  by (is_named parts e) =
      back (type.Named parts) e (form_named parts AnyType
      ∙ (sym (form_named parts at) ∙ given (type.Named parts) e))
  by (is_var name e) =
      back (type.Var name) e (form_var name AnyType
      ∙ (and_parts (allows_variable at) (is_identifier name)
      (sym (form_var name at) ∙ given (type.Var name) e)).1)
  by (is_array element dims e) =
      let f = and_parts ((allows_array at && nat_le 1 dims) && nat_lt dims (2 ^ 32))
      (is_type element Element) (sym (form_array element dims at)
      ∙ given (type.Array element dims) e) in
      let g = and_parts (allows_array at && nat_le 1 dims) (nat_lt dims (2 ^ 32)) f.0 in
      let h = and_parts (allows_array at) (nat_le 1 dims) g.0 in
      back (type.Array element dims) e
      (form_array element dims AnyType
      ∙ all_three (nat_le 1 dims) (nat_lt dims (2 ^ 32)) (is_type element Element) h.1 g.1 f.1)

pub any_type : (at : Production) (depth : ℕ) (t : JType) (bytes more : List ℕ)
    → allows_void at ≡ false → TypeStands at depth t bytes more
    → TypeStands AnyType depth t bytes more
any_type at depth t bytes more void s =
    record { form = loosened at t void s.form; shallow = s.shallow; whole = s.whole }

brackets_front : (dims : ℕ) (more : List ℕ) → 1 ≤ dims
    → begins_among (76 ∷ 84 ∷ 91 ∷ []) (replicate dims 91 ++ more) ≡ true
brackets_front zero more h = absurd (omega arith)
brackets_front (suc dims) more h = refl

-- the first byte of a class, a type variable or an array
pub reference_front : (depth : ℕ) (t : JType) (bytes more : List ℕ)
    → TypeStands Reference depth t bytes more → begins_among (76 ∷ 84 ∷ 91 ∷ []) bytes ≡ true
reference_front depth t bytes more s = by (type_kind t) where
  at : (v : JType) → t ≡ v → TypeStands Reference depth v bytes more
  at v e = subst (λ u. TypeStands Reference depth u bytes more) e s

  by : TypeKind t → begins_among (76 ∷ 84 ∷ 91 ∷ []) bytes ≡ true
  by (is_void e) = absurd (false≢true (sym (form_void Reference) ∙ (at type.Void e).form))
  by (is_prim letter e) =
      absurd (false≢true (sym (form_prim letter Reference) ∙ (at (type.Prim letter) e).form))
  by (is_named parts e) =
      ap (begins_among (76 ∷ 84 ∷ 91 ∷ []))
      ((at (type.Named parts) e).whole ∙ named_front parts more)
  by (is_var name e) =
      ap (begins_among (76 ∷ 84 ∷ 91 ∷ [])) ((at (type.Var name) e).whole ∙ var_front name more)
  by (is_array element dims e) =
      let v = at (type.Array element dims) e in
      let f = and_parts (nat_le 1 dims && nat_lt dims (2 ^ 32)) (is_type element Element)
      (sym (form_array element dims Reference) ∙ v.form) in
      let d = and_parts (nat_le 1 dims) (nat_lt dims (2 ^ 32)) f.0 in
      ap (begins_among (76 ∷ 84 ∷ 91 ∷ [])) (v.whole ∙ array_front element dims more)
      ∙ brackets_front dims (type_text element ++ more) (leb-true 1 dims d.0)

-- ---- the first byte of any type

abbrev pub type_starts : List ℕ
type_starts = codes "BCDFIJSZLT["

pub data TypeFirst (bytes : List ℕ) : Type 0 where
  first_is : (b : ℕ) (tail : List ℕ) → bytes ≡ b ∷ tail → is_among type_starts b ≡ true
      → TypeFirst bytes

primitive_starts : (letter : ℕ) → is_primitive letter ≡ true → is_among type_starts letter ≡ true
primitive_starts letter e =
    list_any-append (λ x. x == letter) (codes "BCDFIJSZ") (codes "LT[")
    ∙ ap (λ t. t || is_among (codes "LT[") letter) e

pub type_first : (depth : ℕ) (t : JType) (bytes more : List ℕ)
    → TypeStands AnyType depth t bytes more → TypeFirst bytes
type_first depth t bytes more s = let p = (type_splits depth bytes).splits t more s in
    by p.0 p.1 p.2 p.4 p.5 where
      plain : (element : JType) (middle : List ℕ) → bytes ≡ middle
          → ElementKind depth element middle more → TypeFirst bytes
      plain element middle same (prim_stands letter e p f) =
          first_is letter more (same ∙ f) (primitive_starts letter p)
      plain element middle same (named_stands parts tail e f p) = first_is 76 tail (same ∙ f) refl
      plain element middle same (var_stands name tail e f v) = first_is 84 tail (same ∙ f) refl

      by : (dims : ℕ) (element : JType) (middle : List ℕ) → DimensionsStand dims bytes middle
          → TypeStands Element depth element middle more → TypeFirst bytes
      by zero element middle d v =
          plain element middle d.whole (element_kind depth element middle more v)
      by (suc dims) element middle d v = first_is 91 (replicate dims 91 ++ middle) d.whole refl

-- a byte that begins no type
pub type_unlike : (x depth : ℕ) (t : JType) (bytes more : List ℕ) → is_among type_starts x ≡ false
    → TypeStands AnyType depth t bytes more → begins_with x bytes ≡ false
type_unlike x depth t bytes more differs s = by (type_first depth t bytes more s) where
  unlike : (b : ℕ) → is_among type_starts b ≡ true → (t : Bool) → (b == x) ≡ t → t ≡ false
  unlike b e true h =
      absurd (false≢true (sym differs ∙ (sym (ap (is_among type_starts) (eqb-true b x h)) ∙ e)))
  unlike b e false h = refl

  by : TypeFirst bytes → begins_with x bytes ≡ false
  by (first_is b tail f e) = ap (begins_with x) f ∙ unlike b e (b == x) refl
