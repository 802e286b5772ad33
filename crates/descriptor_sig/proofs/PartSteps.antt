-- What stands where the parts of a class are read.
use Rattle.std.proofs.Common.{◌≡◌, refl, sym, ap, ◌∙◌, subst, ℕ, ◌&&◌, ◌||◌, ◌==◌, Bool, true}
use Rattle.std.proofs.Common.{false, List, [], ◌∷◌, ◌++◌, map, Option, Some, None, Ok}
use Rattle.std.proofs.Common.{append_assoc}
use Rattle.std.specs.Prelude.{codes}
use Rattle.std.specs.List.{list_all, flat_map}
use Rattle.std.proofs.lemmas.Bool.{false≢true, and_parts}
use Rattle.java_types.specs.declared.types.JPart.{JPart, out-JPart, roll-JPart, roll-out-JPart}
use Rattle.java_types.specs.declared.types.JArg.{JArg}
use Rattle.java_types.specs.Types.{part_text, arg_text, args_text}
use Rattle.java_types.specs.Signature.{is_part, is_arg}
use Rattle.java_names.specs.Names.{is_identifier, is_binary_name}
use Rattle.java_types.specs.Nesting.{part_levels, arg_levels, args_levels, flat}
use Rattle.java_types.proofs.Layers.{text_part, form_part, levels_part}
use Rattle.java_types.specs.Fronts.{begins_with, begins_among, is_plain_name}
use Rattle.java_types.proofs.Fronts.{identifier_is_plain, binary_is_plain}
use Rattle.descriptor_sig.specs.Standing.{Builds, Shallow, Row, RowTo, Marked, Takes, NameStands}
use Rattle.descriptor_sig.specs.Standing.{PartStands, PartsStand, ArgsStand}
use Rattle.descriptor_sig.proofs.Bytes.{rest_of_cons}
use Rattle.descriptor_sig.proofs.Leading.{Leads, Splits, cons, behind}
use Rattle.descriptor_sig.proofs.Shallows.{shallow_left, shallow_right, shallow_tail}

-- ---- one behind the other

abbrev pub PartsRow : ℕ → List JPart → List ℕ → List ℕ → Type 0
PartsRow depth = RowTo 59 (Marked 46 (PartStands depth))

renamed : (part : JPart) (is_name : List ℕ → Bool)
    → ((name : List ℕ) → is_name name ≡ true → is_plain_name name ≡ true)
    → is_part part is_name ≡ true → is_part part is_plain_name ≡ true
renamed part is_name h e =
    let f = and_parts (is_name (out-JPart part).name)
    (list_all (λ a. a) (map is_arg (out-JPart part).args)) (sym (form_part part is_name) ∙ e) in
    form_part part is_plain_name
    ∙ (ap (λ t. t && list_all (λ a. a) (map is_arg (out-JPart part).args))
    (h (out-JPart part).name f.0) ∙ f.1)

-- the texts of the later parts of a class
abbrev later_text : List JPart → List ℕ
later_text later = flat_map (λ part. codes "." ++ part) (map part_text later)

later_front : (later : List JPart) (more : List ℕ)
    → begins_among (codes ".;") (later_text later ++ (59 ∷ more)) ≡ true
later_front [] more = refl
later_front (part ∷ later) more = refl

later_row : (depth : ℕ) (later : List JPart) (more : List ℕ)
    → list_all (λ part. part is_identifier) (map is_part later) ≡ true
    → Shallow (flat_map (λ levels. 0 ∷ levels depth) (map part_levels later))
    → Row (Marked 46 (PartStands depth)) later (later_text later ++ (59 ∷ more)) (59 ∷ more)
later_row depth [] more form shallow = refl
later_row depth (part ∷ later) more form shallow =
    let f = and_parts (is_part part is_identifier)
    (list_all (λ p. p is_identifier) (map is_part later)) form in
    let here : Shallow (0 ∷ part_levels part depth) = shallow_left (0 ∷ part_levels part depth)
    (flat_map (λ levels. 0 ∷ levels depth) (map part_levels later)) shallow in (
      later_text later ++ (59 ∷ more),
      record {
        behind = part_text part ++ (later_text later ++ (59 ∷ more));
        front = append_assoc (46 ∷ part_text part) (later_text later) (59 ∷ more);
        stands =
            record {
              form = renamed part is_identifier identifier_is_plain f.0;
              shallow = shallow_tail 0 (part_levels part depth) here;
              stops = later_front later more;
              whole = refl;
            };
      },
      later_row depth later more f.1
          (shallow_right (0 ∷ part_levels part depth)
          (flat_map (λ levels. 0 ∷ levels depth) (map part_levels later)) shallow),
    )

-- ---- where they are read

pub parts_split : (depth : ℕ) (bytes : List ℕ)
    → Splits cons (PartsStand depth) (PartStands depth) (PartsRow depth) bytes bytes
parts_split depth bytes = record { splits = by } where
  by : (parts : List JPart) (more : List ℕ) → PartsStand depth parts bytes more
      → (part : JPart) × (later : List JPart) × (middle : List ℕ) × (cons part later ≡ parts)
      × PartStands depth part bytes middle × PartsRow depth later middle more
  by [] more s = absurd (false≢true s.form)
  by (part ∷ later) more s =
      let f = and_parts (is_part part is_binary_name)
      (list_all (λ p. p is_identifier) (map is_part later)) s.form in
      let levels : Shallow (part_levels part depth
      ++ flat_map (λ l. 0 ∷ l depth) (map part_levels later)) = s.shallow in (
        part,
        later,
        later_text later ++ (59 ∷ more),
        refl,
        record {
          form = renamed part is_binary_name binary_is_plain f.0;
          shallow = shallow_left (part_levels part depth) _ levels;
          stops = later_front later more;
          whole = s.whole ∙ append_assoc (part_text part) (later_text later) (59 ∷ more);
        },
        later_row depth later more f.1 (shallow_right (part_levels part depth) _ levels),
      )

part_next : (depth : ℕ) (bytes rest : List ℕ) → bytes ≡ 46 ∷ rest
    → Splits cons (PartsRow depth) (PartStands depth) (PartsRow depth) bytes rest
part_next depth bytes rest dot = record { splits = by } where
  by : (parts : List JPart) (more : List ℕ) → PartsRow depth parts bytes more
      → (part : JPart) × (later : List JPart) × (middle : List ℕ) × (cons part later ≡ parts)
      × PartStands depth part rest middle × PartsRow depth later middle more
  by [] more s = absurd (false≢true (sym (ap (begins_with 46) s) ∙ ap (begins_with 46) dot))
  by (part ∷ later) more s =
      let m = s.1 in (
        part,
        later,
        s.0,
        refl,
        subst (λ b. PartStands depth part b s.0)
            (sym (rest_of_cons (sym dot ∙ m.front))) m.stands,
        s.2,
      )

-- a part, and the others behind it
abbrev pub PartsHead : ℕ → List JPart → List ℕ → List ℕ → Type 0
PartsHead depth parts bytes more =
    (part : JPart) × (later : List JPart) × (middle : List ℕ) × (cons part later ≡ parts)
    × PartStands depth part bytes middle × PartsRow depth later middle more

pub head_splits : (depth : ℕ) (bytes : List ℕ)
    → Splits cons (PartsHead depth) (PartStands depth) (PartsRow depth) bytes bytes
head_splits depth bytes = record { splits = λ parts more s. s }

pub parts_lead : (depth : ℕ) (bytes : List ℕ) (none : List JPart) → none ≡ []
    → Leads (behind none) (PartsStand depth) (PartsHead depth) bytes bytes
parts_lead depth bytes none is =
    record {
      leads = λ parts more s.
          (parts, ap (λ items. items ++ parts) is, (parts_split depth bytes).splits parts more s);
    }

pub dot_leads : (depth : ℕ) (bytes rest : List ℕ) → bytes ≡ 46 ∷ rest
    → Leads (λ parts. parts) (PartsRow depth) (PartsHead depth) bytes rest
dot_leads depth bytes rest dot =
    record {
      leads = λ parts more s.
          (parts, refl, (part_next depth bytes rest dot).splits parts more s);
    }

pub parts_end : (depth : ℕ) (bytes same left : List ℕ) (r : Option ℕ)
    → (begins_with 46 bytes ≡ false) × (same ≡ bytes) → Takes same r left
    → Builds (PartsRow depth) bytes (Ok []) left
parts_end depth bytes same left r no_dot takes =
    record { gives = λ parts more s. by r takes parts more s } where
      by : (r : Option ℕ) → Takes same r left → (parts : List JPart) (more : List ℕ)
          → PartsRow depth parts bytes more → ([] ≡ parts) × (left ≡ more)
      by None empty [] more s = absurd cc
      by None empty (part ∷ later) more s =
          absurd (false≢true (sym no_dot.0 ∙ ap (begins_with 46) s.1.front))
      by (Some b) front [] more s = (refl, rest_of_cons (sym front ∙ (no_dot.1 ∙ s)))
      by (Some b) front (part ∷ later) more s =
          absurd (false≢true (sym no_dot.0 ∙ ap (begins_with 46) s.1.front))

-- ---- a part

abbrev pub part_of : List ℕ → List JArg → JPart
part_of name args = roll-JPart (record { name = name; args = args })

two_of_more : (x y z : Bool) → (x || (y || false)) ≡ true → (x || (y || z)) ≡ true
two_of_more true y z e = refl
two_of_more false true z e = refl
two_of_more false false z e = absurd (false≢true e)

args_front : (args : List JArg) (more : List ℕ) → begins_among (codes ".;") more ≡ true
    → begins_among (codes ".;[<>:") (args_text (map arg_text args) ++ more) ≡ true
args_front [] [] e = absurd (false≢true e)
args_front [] (b ∷ more) e =
    two_of_more (46 == b) (59 == b) (91 == b || (60 == b || (62 == b || (58 == b || false)))) e
args_front (arg ∷ args) more e = refl

pub part_splits : (depth : ℕ) (bytes : List ℕ)
    → Splits part_of (PartStands depth) NameStands (ArgsStand depth) bytes bytes
part_splits depth bytes = record {
  splits = λ part more s.
      let layer = out-JPart part in
      let f = and_parts (is_plain_name layer.name) (list_all (λ a. a) (map is_arg layer.args))
      (sym (form_part part is_plain_name) ∙ s.form) in
      let levels : Shallow (flat layer.name ++ args_levels (map arg_levels layer.args) depth) =
      subst Shallow (levels_part part depth) s.shallow in (
        layer.name,
        layer.args,
        args_text (map arg_text layer.args) ++ more,
        roll-out-JPart part,
        record {
          plain = f.0;
          stops = args_front layer.args more s.stops;
          whole =
              s.whole ∙ (ap (λ text. text ++ more) (text_part part)
              ∙ append_assoc layer.name (args_text (map arg_text layer.args)) more);
        },
        record {
          form = f.1;
          shallow = shallow_right (flat layer.name)
              (args_levels (map arg_levels layer.args) depth) levels;
          stops = s.stops;
          whole = refl;
        },
      );
}
