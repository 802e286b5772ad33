-- The texts of the grammar: tokens, where `>>` and `>>>` are two and three closing angles.
use Rattle.std.specs.Prelude.{ℕ, zero, suc, Bool, true, false, List, [], ◌∷◌, ◌++◌}
use Rattle.std.specs.List.{flat_map}
use Rattle.java_token.specs.declared.token.Token.{Token}
use Rattle.segments.specs.declared.segment.Segment.{Segment, out-Segment}
use Rattle.segments.specs.declared.segment.SegEnd.{SegEnd, out-SegEnd}
use Rattle.segments.specs.declared.segment.SegEnd.TheOpen.{SegEnd-F}
use Rattle.java_grammar.specs.declared.edge.Edge.{Edge}
use Rattle.java_grammar.specs.declared.edge.Edge.TheVariants as edge
use Rattle.java_grammar.specs.Parts.{part_of}
use Rattle.java_grammar.specs.Tests.{angles}

-- a token without closing angles; one closing angle, of whose token more follow or none; a group
-- in braces that is skipped; the `;` that ends a segment
pub data Mark : Type 0 where
  Single : Token → Mark
  Angle : (more : Bool) → Mark
  Group : Mark
  Semi : Mark

-- closing angles of one token, so many more than one
abbrev pub angle_marks : ℕ → List Mark
angle_marks zero = Angle false ∷ []
angle_marks (suc more) = Angle true ∷ angle_marks more

abbrev pub marks_by : ℕ → Token → List Mark
marks_by zero token = Single token ∷ []
marks_by (suc more) token = angle_marks more

unfoldable pub token_marks : Token → List Mark
token_marks token = marks_by (angles (part_of token)) token

abbrev pub marks : List Token → List Mark
marks tokens = flat_map token_marks tokens

-- what stands behind tokens
abbrev pub edge_marks : Edge → List Mark
edge_marks edge.Nothing = []
edge_marks edge.Group = Group ∷ []
edge_marks edge.Semicolon = Semi ∷ []

-- what a production gives
abbrev pub Line : Type 1
Line = List Mark → Type 0

-- ---- segments

abbrev pub EndLayer : Type 0
EndLayer = SegEnd-F SegEnd Segment

-- what a segment ends with; of a class body nothing is told here
abbrev pub end_marks : EndLayer → List Mark
end_marks SegEnd-F.Semi = Semi ∷ []
end_marks (SegEnd-F.Body body) = []
end_marks (SegEnd-F.Skipped line) = Group ∷ []
end_marks SegEnd-F.Tail = []

abbrev pub head_marks : Segment → List Mark
head_marks s = marks (out-Segment s).head

-- its head, and what it ends with
abbrev pub segment_marks : Segment → List Mark
segment_marks s = head_marks s ++ end_marks (out-SegEnd (out-Segment s).end)
