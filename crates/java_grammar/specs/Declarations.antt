-- Which segments spell which declarations of types (JLS 8.1, 8.9, 8.10, 9.1, 9.6), and which
-- lists of segments their bodies.
use Rattle.std.specs.Prelude.{◌≡◌, ℕ, zero, suc, Bool, true, false, List, [], ◌∷◌, ◌++◌, map}
use Rattle.std.specs.Prelude.{codes, length, Some}
use Rattle.std.specs.List.{flat_map, AllByRecursion}
use Rattle.segments.specs.declared.segment.Segment.{Segment, out-Segment}
use Rattle.segments.specs.declared.segment.SegEnd.{out-SegEnd}
use Rattle.segments.specs.declared.segment.SegEnd.TheOpen.{SegEnd-F}
use Rattle.java_token.specs.declared.token.Token.{Token}
use Rattle.java_ast.specs.declared.types.TypeTree.{TypeTree}
use Rattle.java_ast.specs.declared.declaration.DeclKind.{DeclKind}
use Rattle.java_ast.specs.declared.declaration.DeclKind.TheVariants as declares
use Rattle.java_ast.specs.declared.declaration.TypeDecl.{TypeDecl, out-TypeDecl}
use Rattle.java_ast.specs.declared.declaration.Member.{Member}
use Rattle.java_ast.specs.declared.declaration.Member.TheVariants as member
use Rattle.java_ast.specs.declared.declaration.Member.TheOpen.{TypeDecl-F}
use Rattle.java_ast.specs.declared.declaration.EnumConst.{EnumConst}
use Rattle.java_ast.specs.declared.member.FieldDecl.{FieldDecl}
use Rattle.java_ast.specs.declared.member.MethodDecl.{MethodDecl}
use Rattle.java_ast.specs.SoundUnits.{has_only}
use Rattle.java_grammar.specs.declared.part.Part.TheVariants as part
use Rattle.java_grammar.specs.declared.part.ModifierWord.TheVariants as modifier
use Rattle.java_grammar.specs.declared.part.Pair.TheVariants as pair
use Rattle.java_grammar.specs.Parts.{part_of, parts}
use Rattle.java_grammar.specs.Extents.{partner_of}
use Rattle.java_grammar.specs.Counts.{head_fits}
use Rattle.java_grammar.specs.Marks.{Mark, Single, Semi, Line, marks, head_marks, segment_marks}
use Rattle.java_grammar.specs.Marks.{EndLayer}
use Rattle.java_grammar.specs.Words.{Nothing, ◌⨾◌, Perhaps, Row, Is, Word, WordOn, Comma}
use Rattle.java_grammar.specs.Words.{PerhapsCommas}
use Rattle.java_grammar.specs.Annotations.{AnnSpells}
use Rattle.java_grammar.specs.Types.{NamedSpells, NamedTypes, TypeParams}
use Rattle.java_grammar.specs.Modifiers.{ModifiersSpell}
use Rattle.java_grammar.specs.Members.{SkippedGroup, Semicolon, FieldsSpell, MethodSpells}
use Rattle.java_grammar.specs.Members.{ConstructorSpells, CompactSpells, Components}

-- ---- heads

abbrev pub DeclLayer : Type 0
DeclLayer = TypeDecl-F Member TypeDecl

-- JLS 8.1.4
abbrev pub Superclass : List TypeTree → Line
Superclass [] = Nothing
Superclass (t ∷ []) = Is part.Extends ⨾ NamedSpells t
Superclass (t ∷ u ∷ types) = λ text. ⊥

-- JLS 9.1.3
abbrev pub Superinterfaces : List TypeTree → Line
Superinterfaces [] = Nothing
Superinterfaces (t ∷ types) = Is part.Extends ⨾ NamedTypes (t ∷ types)

-- JLS 8.1.5
abbrev pub Implements : List TypeTree → Line
Implements [] = Nothing
Implements (t ∷ types) = Is part.Implements ⨾ NamedTypes (t ∷ types)

-- JLS 8.1.6, 9.1.4
abbrev pub Permits : List TypeTree → Line
Permits [] = Nothing
Permits (t ∷ types) = Word (codes "permits") ⨾ NamedTypes (t ∷ types)

abbrev pub Named : DeclLayer → Line
Named d = WordOn d.line d.name

-- behind the modifiers
abbrev pub KindLine : DeclKind → DeclLayer → Line
KindLine declares.Class d =
    Is part.Class ⨾ (Named d ⨾ (TypeParams d.params
    ⨾ (Superclass d.extends ⨾ (Implements d.implements ⨾ Permits d.permits))))
KindLine declares.Interface d =
    Is part.Interface ⨾ (Named d ⨾
    (TypeParams d.params ⨾ (Superinterfaces d.extends ⨾ Permits d.permits)))
KindLine declares.Enumeration d = Is part.Enum ⨾ (Named d ⨾ Implements d.implements)
KindLine declares.Recorded d =
    Word (codes "record") ⨾ (Named d
    ⨾ (TypeParams d.params ⨾ (Components d.components ⨾ Implements d.implements)))
KindLine declares.Annotation d = Is part.At ⨾ (Is part.Interface ⨾ Named d)

pub record HeadSpells (d : DeclLayer) (text : List Mark) : Type 0 where
  pub spelled : (ModifiersSpell d.mods ⨾ KindLine d.kind d) text
  pub only : has_only d.kind d ≡ true

-- ---- segments

abbrev pub Fits : Segment → Type 0
Fits s = head_fits (parts (out-Segment s).head) ≡ true

-- the text of a segment that passes no count is one of the line
abbrev pub Gives : Line → Segment → Type 0
Gives line s = Fits s × line (segment_marks s)

-- a `;` alone
abbrev pub IsEmpty : Segment → Type 0
IsEmpty s = segment_marks s ≡ Semi ∷ []

abbrev pub has_body : EndLayer → List Segment → Type 0
has_body (SegEnd-F.Body inside) body = inside ≡ body
has_body _ body = ⊥

abbrev pub HasBody : Segment → List Segment → Type 0
HasBody s body = has_body (out-SegEnd (out-Segment s).end) body

-- ---- members

-- an initialiser (JLS 8.6, 8.7), which leaves nothing in the tree
abbrev pub InitialiserBlock : Line
InitialiserBlock = Perhaps (Is (part.Modifier modifier.Static)) ⨾ SkippedGroup

-- a segment in the body of a class of this kind and name, and the members that it gives, where
-- `Nested` says which segments spell which declarations of types
pub data MemberSpells (Nested : TypeDecl → Segment → Type 0) (kind : DeclKind)
    (name : List ℕ) : List Member → Segment → Type 0 where
  empty : (s : Segment) → IsEmpty s → MemberSpells Nested kind name [] s
  initialiser : (s : Segment) → Gives InitialiserBlock s → MemberSpells Nested kind name [] s
  nested : (s : Segment) (d : TypeDecl) → Nested d s
      → MemberSpells Nested kind name (member.Nested d ∷ []) s
  fields : (s : Segment) (fs : List FieldDecl) → Gives (FieldsSpell fs) s
      → MemberSpells Nested kind name (map member.Field fs) s
  method : (s : Segment) (m : MethodDecl) → Gives (MethodSpells m) s
      → MemberSpells Nested kind name (member.Method m ∷ []) s
  constructor : (s : Segment) (m : MethodDecl) → Gives (ConstructorSpells name m) s
      → MemberSpells Nested kind name (member.Method m ∷ []) s
  compact : (s : Segment) (m : MethodDecl) → kind ≡ declares.Recorded
      → Gives (CompactSpells name m) s → MemberSpells Nested kind name (member.Method m ∷ []) s

pub data MembersSpell (Nested : TypeDecl → Segment → Type 0) (kind : DeclKind)
    (name : List ℕ) : List Member → List Segment → Type 0 where
  none : MembersSpell Nested kind name [] []
  one_more : (these others : List Member) (s : Segment) (segments : List Segment)
      → MemberSpells Nested kind name these s
      → MembersSpell Nested kind name others segments
      → MembersSpell Nested kind name (these ++ others) (s ∷ segments)

-- ---- bodies of enums (JLS 8.9.1)

-- the arguments of a constant, unread: a group up to its partner
pub record Arguments (text : List Mark) : Type 0 where
  pub opening : Token
  pub inside : List Token
  pub whole : text ≡ Single opening ∷ marks inside
  pub opens : part_of opening ≡ part.Opening pair.Parentheses
  pub closes : partner_of (parts inside) ≡ Some (length inside)

abbrev pub ClassBody : Bool → Line
ClassBody true = SkippedGroup
ClassBody false = Nothing

abbrev pub ConstantSpells : EnumConst → Line
ConstantSpells c = Row AnnSpells c.anns
    ⨾ (WordOn c.line c.name ⨾ (Perhaps Arguments ⨾ ClassBody c.has_body))

abbrev pub Constants : List EnumConst → Line
Constants constants = PerhapsCommas ConstantSpells constants ⨾ Perhaps Comma

abbrev pub is_skipped : EndLayer → Bool
is_skipped (SegEnd-F.Skipped line) = true
is_skipped _ = false

abbrev pub is_tail : EndLayer → Bool
is_tail SegEnd-F.Tail = true
is_tail _ = false

abbrev pub end_of : Segment → EndLayer
end_of s = out-SegEnd (out-Segment s).end

abbrev pub EndsSkipped : Segment → Type 0
EndsSkipped s = Fits s × (is_skipped (end_of s) ≡ true)

abbrev pub EndsTail : Segment → Type 0
EndsTail s = Fits s × (is_tail (end_of s) ≡ true)

-- the constants stand in some segments, each but the last with the body of a constant at its end,
-- up to a `;` with the members behind it, or up to the end
pub data EnumBodySpells (Nested : TypeDecl → Segment → Type 0) (d : DeclLayer) : List Segment
    → Type 0 where
  with_members : (front : List Segment) (s : Segment) (others : List Segment)
      → AllByRecursion EndsSkipped front → Fits s
      → (Constants d.constants ⨾ Semicolon) (flat_map segment_marks front ++ segment_marks s)
      → MembersSpell Nested declares.Enumeration d.name d.members others
      → EnumBodySpells Nested d (front ++ s ∷ others)
  ends_in_body : (front : List Segment) → AllByRecursion EndsSkipped front
      → Constants d.constants (flat_map segment_marks front) → d.members ≡ []
      → EnumBodySpells Nested d front
  ends_in_tail : (front : List Segment) (s : Segment) → AllByRecursion EndsSkipped front
      → EndsTail s
      → Constants d.constants (flat_map segment_marks front ++ segment_marks s) → d.members ≡ []
      → EnumBodySpells Nested d (front ++ s ∷ [])

-- ---- declarations

abbrev pub BodySpells : (TypeDecl → Segment → Type 0) → DeclKind → DeclLayer → List Segment
    → Type 0
BodySpells Nested declares.Enumeration d body = EnumBodySpells Nested d body
BodySpells Nested kind d body = MembersSpell Nested kind d.name d.members body

pub record DeclLine (Nested : TypeDecl → Segment → Type 0) (d : DeclLayer)
    (s : Segment) : Type 0 where
  pub body : List Segment
  pub fits : Fits s
  pub head : HeadSpells d (head_marks s)
  pub ends : HasBody s body
  pub spelled : BodySpells Nested d.kind d body

-- a declaration, with fewer than so many declarations inside each other
unfoldable pub DeclWithin : ℕ → TypeDecl → Segment → Type 0
DeclWithin zero d s = ⊥
DeclWithin (suc n) d s = DeclLine (DeclWithin n) (out-TypeDecl d) s

-- the segment spells the declaration
abbrev pub DeclSpells : TypeDecl → Segment → Type 0
DeclSpells d s = (n : ℕ) × DeclWithin n d s

-- the segments spell the body of the declaration
abbrev pub BodySegments : TypeDecl → List Segment → Type 0
BodySegments d body = (n : ℕ) × BodySpells (DeclWithin n) (out-TypeDecl d).kind
    (out-TypeDecl d) body
