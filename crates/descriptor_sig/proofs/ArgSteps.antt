-- What stands where type arguments are read.
use Rattle.std.proofs.Common.{◌≡◌, refl, sym, ap, ◌∙◌, subst, ℕ, ◌+◌, ◌≤◌, ◌||◌, ◌==◌, Bool, true}
use Rattle.std.proofs.Common.{false, List, [], ◌∷◌, ◌++◌, map, Ok, Err, arith, append_assoc}
use Rattle.std.specs.Prelude.{codes}
use Rattle.std.specs.List.{list_all, flat_map, concat}
use Rattle.std.proofs.lemmas.Bool.{false≢true, eqb-true, and_parts}
use Rattle.java_types.specs.declared.types.JType.{JType}
use Rattle.java_types.specs.declared.types.JArg.{JArg}
use Rattle.java_types.specs.declared.types.JArg.TheVariants as arg
use Rattle.java_types.specs.Types.{type_text, arg_text}
use Rattle.java_types.specs.declared.production.Production.TheVariants.{Reference, AnyType}
use Rattle.java_types.specs.Signature.{is_arg}
use Rattle.java_types.specs.Nesting.{type_levels, arg_levels}
use Rattle.java_types.proofs.Layers.{text_exact, text_extends, text_super, text_any, form_exact}
use Rattle.java_types.proofs.Layers.{form_extends, form_super, levels_exact, levels_extends}
use Rattle.java_types.proofs.Layers.{levels_super}
use Rattle.descriptor_sig.specs.declared.error.SigErr.{SigErr}
use Rattle.descriptor_sig.specs.declared.error.SigErr.TheVariants.{Memory}
use Rattle.java_types.specs.Fronts.{begins_with, begins_among}
use Rattle.descriptor_sig.specs.Standing.{Builds, Shallow, Row, RowTo, TypeStands, ArgsStand}
use Rattle.descriptor_sig.specs.Standing.{ArgStands}
use Rattle.descriptor_sig.proofs.Bytes.{rest_of_cons}
use Rattle.descriptor_sig.proofs.Cases.{ArgKind, is_exact, is_extends, is_super, is_any, arg_kind}
use Rattle.descriptor_sig.proofs.Leading.{Leads, Splits, cons, behind}
use Rattle.descriptor_sig.proofs.Shallows.{shallow_left, shallow_right, shallow_tail, shallow_head}
use Rattle.descriptor_sig.proofs.TypeSteps.{any_type, reference_front}

-- ---- an argument, by its first byte

pub data ArgStart (depth : ℕ) (a : JArg) (bytes more : List ℕ) : Type 0 where
  exact_stands : (t : JType) → a ≡ arg.Exact t → TypeStands Reference depth t bytes more
      → ArgStart depth a bytes more
  extends_stands : (t : JType) (tail : List ℕ) → a ≡ arg.Extends t → bytes ≡ 43 ∷ tail
      → TypeStands Reference depth t tail more → ArgStart depth a bytes more
  super_stands : (t : JType) (tail : List ℕ) → a ≡ arg.Super t → bytes ≡ 45 ∷ tail
      → TypeStands Reference depth t tail more → ArgStart depth a bytes more
  any_stands : a ≡ arg.Any → bytes ≡ 42 ∷ more → ArgStart depth a bytes more

arg_start : (depth : ℕ) (a : JArg) (bytes more : List ℕ) → ArgStands depth a bytes more
    → ArgStart depth a bytes more
arg_start depth a bytes more s = by (arg_kind a) where
  at : (v : JArg) → a ≡ v → ArgStands depth v bytes more
  at v e = subst (λ u. ArgStands depth u bytes more) e s

  by : ArgKind a → ArgStart depth a bytes more
  by (is_exact t e) = let v = at (arg.Exact t) e in
      exact_stands t e (record {
        form = sym (form_exact t) ∙ v.form;
        shallow = subst Shallow (levels_exact t depth) v.shallow;
        whole = v.whole ∙ ap (λ text. text ++ more) (text_exact t);
      })
  by (is_extends t e) = let v = at (arg.Extends t) e in
      extends_stands t (type_text t ++ more) e
      (v.whole ∙ ap (λ text. text ++ more) (text_extends t))
      (record {
        form = sym (form_extends t) ∙ v.form;
        shallow =
            shallow_tail 0 (type_levels t depth)
            (subst Shallow (levels_extends t depth) v.shallow);
        whole = refl;
      })
  by (is_super t e) = let v = at (arg.Super t) e in
      super_stands t (type_text t ++ more) e (v.whole ∙ ap (λ text. text ++ more) (text_super t))
      (record {
        form = sym (form_super t) ∙ v.form;
        shallow =
            shallow_tail 0 (type_levels t depth) (subst Shallow (levels_super t depth) v.shallow);
        whole = refl;
      })
  by (is_any e) = any_stands e ((at arg.Any e).whole ∙ ap (λ text. text ++ more) text_any)

-- a byte that is none of the first bytes of types
not_first : (x b : ℕ) → begins_among (76 ∷ 84 ∷ 91 ∷ []) (x ∷ []) ≡ false
    → (76 == b || (84 == b || (91 == b || false))) ≡ true → (b == x) ≡ false
not_first x b differs among = by (b == x) refl where
  by : (t : Bool) → (b == x) ≡ t → t ≡ false
  by true e =
      absurd (false≢true (sym differs
      ∙ (sym (ap (λ y. 76 == y || (84 == y || (91 == y || false))) (eqb-true b x e)) ∙ among)))
  by false e = refl

pub begins_else : (x : ℕ) (bytes : List ℕ) → begins_among (76 ∷ 84 ∷ 91 ∷ []) (x ∷ []) ≡ false
    → begins_among (76 ∷ 84 ∷ 91 ∷ []) bytes ≡ true → begins_with x bytes ≡ false
begins_else x [] differs among = refl
begins_else x (b ∷ bytes) differs among = not_first x b differs among

-- a byte that begins no argument
pub arg_front : (x depth : ℕ) (a : JArg) (bytes more : List ℕ)
    → begins_among (76 ∷ 84 ∷ 91 ∷ []) (x ∷ []) ≡ false → (43 == x) ≡ false → (45 == x) ≡ false
    → (42 == x) ≡ false → ArgStands depth a bytes more → begins_with x bytes ≡ false
arg_front x depth a bytes more differs plus minus star s =
    by (arg_start depth a bytes more s) where
      by : ArgStart depth a bytes more → begins_with x bytes ≡ false
      by (exact_stands t e v) = begins_else x bytes differs (reference_front depth t bytes more v)
      by (extends_stands t tail e f v) = ap (begins_with x) f ∙ plus
      by (super_stands t tail e f v) = ap (begins_with x) f ∙ minus
      by (any_stands e f) = ap (begins_with x) f ∙ star

-- ---- where an argument is read

pub any_built : (depth : ℕ) (bytes left : List ℕ) → bytes ≡ 42 ∷ left
    → Builds (ArgStands depth) bytes (Ok arg.Any) left
any_built depth bytes left front =
    record { gives = λ a more s. by a more (arg_start depth a bytes more s) } where
      is : begins_with 42 bytes ≡ true
      is = ap (begins_with 42) front

      by : (a : JArg) (more : List ℕ) → ArgStart depth a bytes more → (arg.Any ≡ a) × (left ≡ more)
      by a more (exact_stands t e v) =
          absurd (false≢true (sym (begins_else 42 bytes refl
          (reference_front depth t bytes more v))
          ∙ is))
      by a more (extends_stands t tail e f v) =
          absurd (false≢true (sym (ap (begins_with 42) f) ∙ is))
      by a more (super_stands t tail e f v) =
          absurd (false≢true (sym (ap (begins_with 42) f) ∙ is))
      by a more (any_stands e f) = (sym e, rest_of_cons (sym front ∙ f))

pub extends_leads : (depth : ℕ) (bytes left : List ℕ) → bytes ≡ 43 ∷ left
    → Leads arg.Extends (ArgStands depth) (TypeStands AnyType depth) bytes left
extends_leads depth bytes left front =
    record { leads = λ a more s. by a more (arg_start depth a bytes more s) } where
      is : begins_with 43 bytes ≡ true
      is = ap (begins_with 43) front

      by : (a : JArg) (more : List ℕ) → ArgStart depth a bytes more
          → (t : JType) × (arg.Extends t ≡ a) × TypeStands AnyType depth t left more
      by a more (exact_stands t e v) =
          absurd (false≢true (sym (begins_else 43 bytes refl
          (reference_front depth t bytes more v))
          ∙ is))
      by a more (extends_stands t tail e f v) = (
        t,
        sym e,
        subst (λ b. TypeStands AnyType depth t b more) (rest_of_cons (sym f ∙ front))
            (any_type Reference depth t tail more refl v),
      )
      by a more (super_stands t tail e f v) =
          absurd (false≢true (sym (ap (begins_with 43) f) ∙ is))
      by a more (any_stands e f) = absurd (false≢true (sym (ap (begins_with 43) f) ∙ is))

pub super_leads : (depth : ℕ) (bytes left : List ℕ) → bytes ≡ 45 ∷ left
    → Leads arg.Super (ArgStands depth) (TypeStands AnyType depth) bytes left
super_leads depth bytes left front =
    record { leads = λ a more s. by a more (arg_start depth a bytes more s) } where
      is : begins_with 45 bytes ≡ true
      is = ap (begins_with 45) front

      by : (a : JArg) (more : List ℕ) → ArgStart depth a bytes more
          → (t : JType) × (arg.Super t ≡ a) × TypeStands AnyType depth t left more
      by a more (exact_stands t e v) =
          absurd (false≢true (sym (begins_else 45 bytes refl
          (reference_front depth t bytes more v))
          ∙ is))
      by a more (extends_stands t tail e f v) =
          absurd (false≢true (sym (ap (begins_with 45) f) ∙ is))
      by a more (super_stands t tail e f v) = (
        t,
        sym e,
        subst (λ b. TypeStands AnyType depth t b more) (rest_of_cons (sym f ∙ front))
            (any_type Reference depth t tail more refl v),
      )
      by a more (any_stands e f) = absurd (false≢true (sym (ap (begins_with 45) f) ∙ is))

pub exact_leads : (depth : ℕ) (bytes rest : List ℕ) → rest ≡ bytes → begins_with 42 bytes ≡ false
    → begins_with 43 bytes ≡ false → begins_with 45 bytes ≡ false
    → Leads arg.Exact (ArgStands depth) (TypeStands AnyType depth) bytes rest
exact_leads depth bytes rest same star plus minus =
    record { leads = λ a more s. by a more (arg_start depth a bytes more s) } where
      by : (a : JArg) (more : List ℕ) → ArgStart depth a bytes more
          → (t : JType) × (arg.Exact t ≡ a) × TypeStands AnyType depth t rest more
      by a more (exact_stands t e v) = (
        t,
        sym e,
        subst (λ b. TypeStands AnyType depth t b more) (sym same)
            (any_type Reference depth t bytes more refl v),
      )
      by a more (extends_stands t tail e f v) =
          absurd (false≢true (sym plus ∙ ap (begins_with 43) f))
      by a more (super_stands t tail e f v) =
          absurd (false≢true (sym minus ∙ ap (begins_with 45) f))
      by a more (any_stands e f) = absurd (false≢true (sym star ∙ ap (begins_with 42) f))

-- ---- one behind the other

abbrev pub ArgsRow : ℕ → List JArg → List ℕ → List ℕ → Type 0
ArgsRow depth = RowTo 62 (ArgStands depth)

args_row : (depth : ℕ) (args : List JArg) (more : List ℕ)
    → list_all (λ a. a) (map is_arg args) ≡ true
    → Shallow (flat_map (λ levels. levels depth) (map arg_levels args))
    → Row (ArgStands depth) args (concat (map arg_text args) ++ more) more
args_row depth [] more form shallow = refl
args_row depth (a ∷ args) more form shallow =
    let f = and_parts (is_arg a) (list_all (λ t. t) (map is_arg args)) form in (
      concat (map arg_text args) ++ more,
      record {
        form = f.0;
        shallow = shallow_left (arg_levels a depth)
            (flat_map (λ l. l depth) (map arg_levels args)) shallow;
        whole = append_assoc (arg_text a) (concat (map arg_text args)) more;
      },
      args_row depth args more f.1
          (shallow_right (arg_levels a depth) (flat_map (λ l. l depth) (map arg_levels args))
          shallow),
    )

pub args_lead : (depth : ℕ) (bytes left : List ℕ) → bytes ≡ 60 ∷ left → (none : List JArg)
    → none ≡ [] → Leads (behind none) (ArgsStand depth) (ArgsRow (depth + 1)) bytes left
args_lead depth bytes left front none is = record { leads = by } where
  no_end : (more : List ℕ) → begins_among (codes ".;") more ≡ true → bytes ≡ more
      → begins_among (codes ".;") (60 ∷ left) ≡ true
  no_end more e same = ap (begins_among (codes ".;")) (sym front ∙ same) ∙ e

  by : (args : List JArg) (more : List ℕ) → ArgsStand depth args bytes more
      → (later : List JArg) × (behind none later ≡ args) × ArgsRow (depth + 1) later left more
  by [] more s = absurd (false≢true (no_end more s.stops s.whole))
  by (a ∷ args) more s =
      let levels : Shallow (flat_map (λ l. l (depth + 1)) (map arg_levels (a ∷ args))) =
      shallow_left (flat_map (λ l. l (depth + 1)) (map arg_levels (a ∷ args))) (0 ∷ [])
      (shallow_tail (depth + 1) _ s.shallow) in
      let row = args_row (depth + 1) (a ∷ args) (62 ∷ more) s.form levels in
      let same : left ≡ concat (map arg_text (a ∷ args))
      ++ (62 ∷ more) =
      rest_of_cons (sym front ∙ s.whole)
      ∙ append_assoc (concat (map arg_text (a ∷ args))) (62 ∷ []) more in (
        a ∷ args,
        ap (λ items. items ++ (a ∷ args)) is,
        subst
            (λ b. Row (ArgStands (depth + 1)) (a ∷ args) b (62 ∷ more)) (sym same) row,
      )

pub no_args : (depth : ℕ) (bytes left : List ℕ) → (begins_with 60 bytes ≡ false) × (left ≡ bytes)
    → (none : List JArg) → none ≡ [] → Builds (ArgsStand depth) bytes (Ok none) left
no_args depth bytes left differs none is = record { gives = by } where
  by : (args : List JArg) (more : List ℕ) → ArgsStand depth args bytes more
      → (none ≡ args) × (left ≡ more)
  by [] more s = (is, differs.1 ∙ s.whole)
  by (a ∷ args) more s = absurd (false≢true (sym differs.0 ∙ ap (begins_with 60) s.whole))

pub too_deep : (depth : ℕ) (bytes rest left : List ℕ) (e : SigErr) → bytes ≡ 60 ∷ rest → 64 ≤ depth
    → Builds (ArgsStand depth) bytes (Err e) left
too_deep depth bytes rest left e front deep = record { gives = by } where
  by : (args : List JArg) (more : List ℕ) → ArgsStand depth args bytes more → e ≡ Memory
  by [] more s =
      absurd (false≢true (ap (begins_among (codes ".;")) (sym front ∙ s.whole) ∙ s.stops))
  by (a ∷ args) more s = let h = shallow_head (depth + 1) _ s.shallow in absurd (omega arith)

pub arg_next : (depth : ℕ) (bytes rest : List ℕ) → (begins_with 62 bytes ≡ false) × (rest ≡ bytes)
    → Splits cons (ArgsRow depth) (ArgStands depth) (ArgsRow depth) bytes rest
arg_next depth bytes rest differs = record { splits = by } where
  by : (args : List JArg) (more : List ℕ) → ArgsRow depth args bytes more
      → (a : JArg) × (later : List JArg) × (middle : List ℕ) × (cons a later ≡ args)
      × ArgStands depth a rest middle × ArgsRow depth later middle more
  by [] more s = absurd (false≢true (sym differs.0 ∙ ap (begins_with 62) s))
  by (a ∷ later) more s =
      (a, later, s.0, refl, subst (λ b. ArgStands depth a b s.0) (sym differs.1) s.1, s.2)

pub args_end : (depth : ℕ) (bytes left : List ℕ) → bytes ≡ 62 ∷ left
    → Builds (ArgsRow depth) bytes (Ok []) left
args_end depth bytes left front = record { gives = by } where
  by : (args : List JArg) (more : List ℕ) → ArgsRow depth args bytes more
      → ([] ≡ args) × (left ≡ more)
  by [] more s = (refl, rest_of_cons (sym front ∙ s))
  by (a ∷ args) more s =
      absurd (false≢true (sym (arg_front 62 depth a bytes s.0 refl refl refl refl s.1)
      ∙ ap (begins_with 62) front))
