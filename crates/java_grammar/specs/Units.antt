-- Which lists of segments spell which compilation units (JLS 7.3 to 7.6), and where a list of
-- segments stops to begin one.
use Rattle.std.specs.Prelude.{◌≡◌, ℕ, Bool, true, false, List, [], ◌∷◌, ◌++◌}
use Rattle.segments.specs.declared.segment.Segment.{Segment, out-Segment}
use Rattle.segments.specs.declared.segment.SegEnd.TheVariants as ends
use Rattle.java_ast.specs.declared.declaration.DeclKind.{DeclKind}
use Rattle.java_ast.specs.declared.declaration.TypeDecl.{TypeDecl, out-TypeDecl}
use Rattle.java_ast.specs.declared.unit.Import.{Import}
use Rattle.java_ast.specs.declared.unit.Unit as unit
use Rattle.java_ast.specs.declared.expression.BinOp.TheVariants as binary
use Rattle.java_grammar.specs.declared.part.Part.TheVariants as part
use Rattle.java_grammar.specs.declared.part.ModifierWord.TheVariants as modifier
use Rattle.java_grammar.specs.Marks.{Line, head_marks}
use Rattle.java_grammar.specs.Words.{Nothing, ◌⨾◌, Is, IsOn}
use Rattle.java_grammar.specs.Expressions.{Dot, QName}
use Rattle.java_grammar.specs.Members.{Semicolon}
use Rattle.java_grammar.specs.Declarations.{Gives, IsEmpty, HeadSpells, HasBody, DeclSpells}
use Rattle.java_grammar.specs.Declarations.{BodySegments}

-- ---- packages and imports

-- JLS 7.4: none, or one segment
abbrev pub PackageSpells : List (List ℕ) → List Segment → Type 0
PackageSpells [] segments = segments ≡ []
PackageSpells (word ∷ words) (s ∷ []) = Gives
    (Is part.Package ⨾ (QName (word ∷ words) ⨾ Semicolon)) s
PackageSpells words segments = ⊥

abbrev pub Static : Bool → Line
Static true = Is (part.Modifier modifier.Static)
Static false = Nothing

abbrev pub OnDemand : Bool → Line
OnDemand true = Dot ⨾ Is (part.Binary binary.Star)
OnDemand false = Nothing

-- JLS 7.5
abbrev pub ImportSpells : Import → Segment → Type 0
ImportSpells i s = Gives (IsOn i.line part.Import
    ⨾ (Static i.is_static ⨾ (QName i.names ⨾ (OnDemand i.on_demand ⨾ Semicolon)))) s

-- a segment for each item, and any number of segments that are a `;` alone
pub data Items {X : Type 0} (Spells : X → Segment → Type 0) : List X → List Segment → Type 0 where
  none : Items Spells [] []
  empty : (xs : List X) (s : Segment) (segments : List Segment) → IsEmpty s
      → Items Spells xs segments → Items Spells xs (s ∷ segments)
  item : (x : X) (xs : List X) (s : Segment) (segments : List Segment) → Spells x s
      → Items Spells xs segments
      → Items Spells (x ∷ xs) (s ∷ segments)

-- ---- units

-- the segments spell the unit, of any file and path
pub record UnitSpells (u : unit.Unit) (segments : List Segment) : Type 0 where
  pub front : List Segment
  pub imports : List Segment
  pub declarations : List Segment
  pub whole : segments ≡ front ++ (imports ++ declarations)
  pub package_is : PackageSpells u.package front
  pub imported : Items ImportSpells u.imports imports
  pub declared : Items DeclSpells u.types declarations

-- ---- the first bad place

-- some unit is spelled
abbrev pub IsUnit : List Segment → Type 0
IsUnit segments = (u : unit.Unit) × UnitSpells u segments

-- the body of some declaration of this kind and name is spelled
pub record IsBody (kind : DeclKind) (name : List ℕ) (segments : List Segment) : Type 0 where
  pub declaration : TypeDecl
  pub same_kind : (out-TypeDecl declaration).kind ≡ kind
  pub same_name : (out-TypeDecl declaration).name ≡ name
  pub spelled : BodySegments declaration segments

-- where a list of segments stands: it is a unit's, or that of the body of a class of this kind
-- and name
pub data Context : Type 0 where
  OfUnit : Context
  OfBody : DeclKind → List ℕ → Context

abbrev pub IsSpelled : Context → List Segment → Type 0
IsSpelled OfUnit segments = IsUnit segments
IsSpelled (OfBody kind name) segments = IsBody kind name segments

-- the front of the list before a segment is spelled, and with that segment it isn't
pub record IsFirstBad (at : Context) (segments before : List Segment) (s : Segment) : Type 0 where
  pub behind : List Segment
  pub whole : segments ≡ before ++ s ∷ behind
  pub spelled : IsSpelled at before
  pub bad : IsSpelled at (before ++ s ∷ []) → ⊥

-- the same segment with an empty class body
abbrev pub emptied : Segment → Segment
emptied s = record { head = (out-Segment s).head; end = ends.Body [] }

-- its head is right behind these segments
abbrev pub IsHeadRight : Context → List Segment → Segment → Type 0
IsHeadRight at before s = IsSpelled at (before ++ emptied s ∷ [])

abbrev pub context_of : TypeDecl → Context
context_of d = OfBody (out-TypeDecl d).kind (out-TypeDecl d).name

-- the first bad segment, by the order of the text: where its head is right, and its class body
-- alone isn't spelled, the first bad one of that body
pub data IsBadSegment : Context → List Segment → Segment → Type 0 where
  here : (at : Context) (segments before : List Segment) (s : Segment)
      → IsFirstBad at segments before s
      → ((body : List Segment) → HasBody s body → IsHeadRight at before s → ⊥)
      → IsBadSegment at segments s
  inside : (at : Context) (segments before body : List Segment) (s bad : Segment) (d : TypeDecl)
      → IsFirstBad at segments before s → HasBody s body → IsHeadRight at before s
      → HeadSpells (out-TypeDecl d) (head_marks s)
      → IsBadSegment (context_of d) body bad → IsBadSegment at segments bad
