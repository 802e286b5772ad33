-- What one token does to a cutter.
use Rattle.std.specs.Prelude.{ℕ, ◌-◌, Bool, true, false, not, ◌==◌, ◌||◌, if◌then◌else◌, List, []}
use Rattle.std.specs.Prelude.{◌∷◌, ◌++◌, Option, Some, None}
use Rattle.java_token.specs.declared.token.Token.{Token}
use Rattle.segments.specs.declared.bracket.Mark.{Mark}
use Rattle.segments.specs.declared.bracket.Mark.TheVariants.{Opening, Closing, Plain}
use Rattle.segments.specs.declared.bracket.Pair.{Pair}
use Rattle.segments.specs.declared.bracket.Pair.TheVariants.{Braces}
use Rattle.segments.specs.declared.segment.SegEnd.TheVariants.{Semi, Body, Skipped}
use Rattle.segments.specs.declared.level.Level.{Level}
use Rattle.segments.specs.declared.cutter.Cutter.{Cutter}
use Rattle.segments.specs.declared.cutter.Open.{Open}
use Rattle.segments.specs.declared.cutter.Place.{Place}
use Rattle.segments.specs.declared.cutter.Place.TheVariants as place
use Rattle.segments.specs.declared.cutter.Group.{Group}
use Rattle.segments.specs.declared.cutter.Group.TheVariants as group
use Rattle.segments.specs.Brackets.{mark_of, same_pair}
use Rattle.segments.specs.Words.{is_semicolon, is_assign, is_default}
use Rattle.segments.specs.Cut.{is_class_head}
use Rattle.hdr_core.specs.Stack.{top, below}
use Rattle.segments.specs.Levels.{fresh, stored, ended, segments_of}

-- ---- tokens that are no bracket

abbrev pub plain_outside : Level → Token → Level
plain_outside level token =
    if is_semicolon token then ended level Semi
    else record (stored level token) {
      is_assigned = level.is_assigned || is_assign token;
      is_behind_default = is_default token;
    }

abbrev pub plain_at : Place → Level → Token → Level
plain_at place.Outside level token = plain_outside level token
plain_at place.Inside level token = stored level token
plain_at place.Hidden level token = level

abbrev pub plain : Cutter → Token → Cutter
plain cutter token = record cutter { level = plain_at cutter.place cutter.level token }

-- ---- opening brackets

abbrev pub entry : Pair → Token → Group → Open
entry pair token group = record { pair = pair; line = token.line; group = group }

-- a bracket in the head, and the place behind it
abbrev pub place_in : Pair → Bool → Place
place_in Braces true = place.Hidden
place_in _ _ = place.Inside

abbrev pub is_ending : Pair → Level → Bool
is_ending Braces level = not (level.is_assigned || level.is_behind_default)
is_ending _ level = false

abbrev pub or_else : Option ℕ → ℕ → Option ℕ
or_else (Some line) other = Some line
or_else None other = Some other

abbrev pub first_line_or : List Token → Token → ℕ
first_line_or [] token = token.line
first_line_or (t ∷ ts) token = t.line

abbrev pub noted : Cutter → Pair → Token → Group → Cutter
noted cutter pair token group =
    record cutter { brackets = cutter.brackets ++ entry pair token group ∷ [] }

abbrev pub skipping : Cutter → Token → Cutter
skipping cutter token = record (noted cutter Braces token group.Skipped) { place = place.Hidden }

abbrev pub noted_deep : Cutter → Token → Cutter
noted_deep cutter token =
    record cutter { deep = or_else cutter.deep (first_line_or cutter.level.head token) }

abbrev pub body : Cutter → Token → Cutter
body cutter token = record (noted cutter Braces token group.Body) {
  level = fresh (cutter.level.left - 1);
  outer = cutter.outer ++ cutter.level ∷ [];
}

abbrev pub ending : Cutter → Token → Cutter
ending cutter token =
    if is_class_head cutter.level.head
    then (if cutter.level.left == 0 then skipping (noted_deep cutter token) token
    else body cutter token)
    else skipping cutter token

abbrev pub behind_default : Cutter → Cutter
behind_default cutter = record cutter { level = record cutter.level { is_behind_default = false } }

abbrev pub opened_in_head : Cutter → Pair → Token → Group → Cutter
opened_in_head cutter pair token group =
    record (noted cutter pair token group) {
      level = stored cutter.level token;
      place = place_in pair cutter.level.is_assigned;
    }

abbrev pub opened_at : Place → Cutter → Pair → Token → Cutter
opened_at place.Outside cutter pair token =
    if is_ending pair cutter.level then ending cutter token
    else opened_in_head (behind_default cutter) pair token group.Outer
opened_at place.Inside cutter pair token = opened_in_head cutter pair token group.Inner
opened_at place.Hidden cutter pair token = noted cutter pair token group.Hidden

abbrev pub opened : Cutter → Pair → Token → Cutter
opened cutter pair token = opened_at cutter.place cutter pair token

-- ---- closing brackets

-- the level that a class body stands in goes on
abbrev pub left_body : Option Level → Cutter → Cutter
left_body None cutter = cutter
left_body (Some outer) cutter =
    record cutter { level = ended outer (Body (segments_of cutter.level)) }

abbrev pub closed_group : Group → ℕ → Cutter → Token → Cutter
closed_group group.Outer line cutter token =
    record cutter { level = stored cutter.level token; place = place.Outside }
closed_group group.Inner line cutter token =
    record cutter { level = stored cutter.level token; place = place.Inside }
closed_group group.Hidden line cutter token = cutter
closed_group group.Skipped line cutter token =
    record cutter { level = ended cutter.level (Skipped line); place = place.Outside }
closed_group group.Body line cutter token =
    left_body (top cutter.outer) (record cutter { outer = below cutter.outer })

abbrev pub closed_by : Option Open → Cutter → Pair → Token → Cutter
closed_by None cutter pair token = record cutter { wrong = Some token.line }
closed_by (Some bracket) cutter pair token =
    if same_pair bracket.pair pair then closed_group bracket.group bracket.line cutter token
    else record cutter { wrong = Some token.line }

abbrev pub closed : Cutter → Pair → Token → Cutter
closed cutter pair token =
    closed_by (top cutter.brackets) (record cutter { brackets = below cutter.brackets }) pair token

-- ---- a step

abbrev pub step_by : Mark → Cutter → Token → Cutter
step_by (Opening pair) cutter token = opened cutter pair token
step_by (Closing pair) cutter token = closed cutter pair token
step_by Plain cutter token = plain cutter token

abbrev pub unless : Option ℕ → Cutter → Cutter → Cutter
unless (Some line) was next = was
unless None was next = next

unfoldable pub step : Cutter → Token → Cutter
step cutter token = unless cutter.wrong cutter (step_by (mark_of token) cutter token)

unfoldable pub start : ℕ → Cutter
start most =
    record {
      level = fresh most;
      outer = [];
      brackets = [];
      place = place.Outside;
      deep = None;
      wrong = None;
    }

abbrev pub run : Cutter → List Token → Cutter
run cutter [] = cutter
run cutter (t ∷ ts) = run (step cutter t) ts
