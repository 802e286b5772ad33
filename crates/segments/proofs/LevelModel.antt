-- The cutter, with each level at the bracket of the class body that it is outside of.
use Rattle.std.proofs.Common.{ℕ, false, ◌-◌, ◌==◌, if◌then◌else◌, List, [], ◌∷◌, ◌++◌, Option}
use Rattle.std.proofs.Common.{Some, None, Result, Ok, Err}
use Rattle.java_token.specs.declared.token.Token.{Token}
use Rattle.segments.specs.declared.bracket.Mark.{Mark}
use Rattle.segments.specs.declared.bracket.Mark.TheVariants.{Opening, Closing, Plain}
use Rattle.segments.specs.declared.bracket.Pair.{Pair}
use Rattle.segments.specs.declared.bracket.Pair.TheVariants.{Braces}
use Rattle.segments.specs.declared.segment.Segment.{Segment}
use Rattle.segments.specs.declared.segment.SegEnd.TheVariants.{Body, Skipped}
use Rattle.segments.specs.declared.error.SegErr.{SegErr}
use Rattle.segments.specs.declared.error.SegErr.TheVariants.{Unbalanced, TooDeep}
use Rattle.segments.specs.declared.level.Level.{Level}
use Rattle.segments.specs.declared.cutter.Place.{Place}
use Rattle.segments.specs.declared.cutter.Place.TheVariants as place
use Rattle.segments.specs.Brackets.{mark_of, same_pair}
use Rattle.segments.specs.Cut.{is_class_head}
use Rattle.hdr_core.specs.Stack.{top, below}
use Rattle.segments.specs.Levels.{fresh, stored, ended, segments_of}
use Rattle.segments.specs.Steps.{plain_at, place_in, is_ending, or_else, first_line_or}
use Rattle.segments.proofs.GroupKinds as group
use Rattle.segments.proofs.GroupKinds.{Kind}

pub record Open : Type 0 where
  pub pair : Pair
  pub line : ℕ
  pub group : Kind

pub record Cutter : Type 0 where
  pub level : Level
  pub brackets : List Open
  pub place : Place
  pub deep : Option ℕ
  pub wrong : Option ℕ

-- ---- tokens that are no bracket

abbrev pub plain : Cutter → Token → Cutter
plain cutter token = record cutter { level = plain_at cutter.place cutter.level token }

-- ---- opening brackets

abbrev pub entry : Pair → Token → Kind → Open
entry pair token group = record { pair = pair; line = token.line; group = group }

abbrev pub noted : Cutter → Pair → Token → Kind → Cutter
noted cutter pair token group =
    record cutter { brackets = cutter.brackets ++ entry pair token group ∷ [] }

abbrev pub skipping : Cutter → Token → Cutter
skipping cutter token = record (noted cutter Braces token group.Skipped) { place = place.Hidden }

abbrev pub noted_deep : Cutter → Token → Cutter
noted_deep cutter token =
    record cutter { deep = or_else cutter.deep (first_line_or cutter.level.head token) }

abbrev pub body : Cutter → Token → Cutter
body cutter token =
    record
    (noted cutter Braces token (group.Body cutter.level)) { level = fresh (cutter.level.left - 1) }

abbrev pub ending : Cutter → Token → Cutter
ending cutter token =
    if is_class_head cutter.level.head
    then (if cutter.level.left == 0 then skipping (noted_deep cutter token) token
    else body cutter token)
    else skipping cutter token

abbrev pub behind_default : Cutter → Cutter
behind_default cutter = record cutter { level = record cutter.level { is_behind_default = false } }

abbrev pub opened_in_head : Cutter → Pair → Token → Kind → Cutter
opened_in_head cutter pair token group =
    record (noted cutter pair token group) {
      level = stored cutter.level token;
      place = place_in pair cutter.level.is_assigned;
    }

abbrev pub opened_at : Place → Cutter → Pair → Token → Cutter
opened_at place.Outside cutter pair token =
    if is_ending pair cutter.level then ending cutter token
    else opened_in_head (behind_default cutter) pair token group.Outer
opened_at place.Inside cutter pair token = opened_in_head cutter pair token group.Inner
opened_at place.Hidden cutter pair token = noted cutter pair token group.Hidden

abbrev pub opened : Cutter → Pair → Token → Cutter
opened cutter pair token = opened_at cutter.place cutter pair token

-- ---- closing brackets

abbrev pub closed_group : Kind → ℕ → Cutter → Token → Cutter
closed_group group.Outer line cutter token =
    record cutter { level = stored cutter.level token; place = place.Outside }
closed_group group.Inner line cutter token =
    record cutter { level = stored cutter.level token; place = place.Inside }
closed_group group.Hidden line cutter token = cutter
closed_group group.Skipped line cutter token =
    record cutter { level = ended cutter.level (Skipped line); place = place.Outside }
closed_group (group.Body outer) line cutter token =
    record cutter { level = ended outer (Body (segments_of cutter.level)) }

abbrev pub closed_by : Option Open → Cutter → Pair → Token → Cutter
closed_by None cutter pair token = record cutter { wrong = Some token.line }
closed_by (Some bracket) cutter pair token =
    if same_pair bracket.pair pair then closed_group bracket.group bracket.line cutter token
    else record cutter { wrong = Some token.line }

abbrev pub closed : Cutter → Pair → Token → Cutter
closed cutter pair token =
    closed_by (top cutter.brackets) (record cutter { brackets = below cutter.brackets }) pair token

-- ---- a step

abbrev pub step_by : Mark → Cutter → Token → Cutter
step_by (Opening pair) cutter token = opened cutter pair token
step_by (Closing pair) cutter token = closed cutter pair token
step_by Plain cutter token = plain cutter token

abbrev pub unless : Option ℕ → Cutter → Cutter → Cutter
unless (Some line) was next = was
unless None was next = next

unfoldable pub step : Cutter → Token → Cutter
step cutter token = unless cutter.wrong cutter (step_by (mark_of token) cutter token)

unfoldable pub start : ℕ → Cutter
start most =
    record { level = fresh most; brackets = []; place = place.Outside; deep = None; wrong = None }

abbrev pub run : Cutter → List Token → Cutter
run cutter [] = cutter
run cutter (t ∷ ts) = run (step cutter t) ts

-- ---- the end

abbrev pub finished_by : Option ℕ → List Open → Option ℕ → Level → Result (List Segment) SegErr
finished_by (Some line) brackets deep level = Err (Unbalanced line)
finished_by None (b ∷ bs) deep level = Err (Unbalanced b.line)
finished_by None [] (Some line) level = Err (TooDeep line)
finished_by None [] None level = Ok (segments_of level)

abbrev pub finished : Cutter → Result (List Segment) SegErr
finished cutter = finished_by cutter.wrong cutter.brackets cutter.deep cutter.level
