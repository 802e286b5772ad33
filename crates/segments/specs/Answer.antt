-- What `segments` answers, as a function of the tokens and case by case.
use Rattle.std.specs.Prelude.{◌≡◌, ℕ, List, length, Option, Some, None, Result, Ok, Err}
use Rattle.java_token.specs.declared.token.Token.{Token}
use Rattle.segments.specs.declared.segment.Segment.{Segment}
use Rattle.segments.specs.declared.error.SegErr.{SegErr}
use Rattle.segments.specs.declared.error.SegErr.TheVariants.{Unbalanced, TooDeep, Memory}
use Rattle.segments.specs.Brackets.{IsBalanced, wrong_line}
use Rattle.segments.specs.Cut.{cut_within, deep_beyond}

-- the segments of a list whose brackets pair: no class body in it stands in more class bodies than
-- it has tokens
unfoldable pub cut : List Token → List Segment
cut tokens = cut_within (length tokens) tokens

-- the segments, or why there are none: first what doesn't pair, then what is too deep
abbrev pub answer_by : Option ℕ → Option ℕ → List Segment → Result (List Segment) SegErr
answer_by (Some line) deep segments = Err (Unbalanced line)
answer_by None (Some line) segments = Err (TooDeep line)
answer_by None None segments = Ok segments

-- the segments of a list, or why it has none, if class bodies may stand `most` deep
unfoldable pub segmented : ℕ → List Token → Result (List Segment) SegErr
segmented most tokens = answer_by (wrong_line tokens) (deep_beyond most tokens) (cut tokens)

-- this answer, but for want of memory, which may come at any time
abbrev pub Gives : Result (List Segment) SegErr → Result (List Segment) SegErr → Type 0
Gives (Ok segments) expected = expected ≡ Ok segments
Gives (Err (Unbalanced line)) expected = expected ≡ Err (Unbalanced line)
Gives (Err (TooDeep line)) expected = expected ≡ Err (TooDeep line)
Gives (Err Memory) expected = Unit {0}

-- each answer but want of memory, exactly where it comes, if class bodies may stand `most` deep
abbrev pub Answers : ℕ → List Token → Result (List Segment) SegErr → Type 0
Answers most tokens (Ok segments) =
    IsBalanced tokens × (deep_beyond most tokens ≡ None) × (segments ≡ cut tokens)
Answers most tokens (Err (Unbalanced line)) =
    (IsBalanced tokens → ⊥) × (wrong_line tokens ≡ Some line)
Answers most tokens (Err (TooDeep line)) = IsBalanced tokens
    × (deep_beyond most tokens ≡ Some line)
Answers most tokens (Err Memory) = Unit {0}
