-- The words in which the grammar is said.
use Rattle.std.specs.Prelude.{◌≡◌, ℕ, Bool, List, [], ◌∷◌, ◌++◌, Option, Some, None, ◌⊎◌}
use Rattle.java_token.specs.declared.token.Token.{Token}
use Rattle.java_token.specs.declared.token.TokenKind.TheVariants as kind
use Rattle.java_grammar.specs.declared.part.Part.{Part}
use Rattle.java_grammar.specs.declared.part.Part.TheVariants as part
use Rattle.java_grammar.specs.Parts.{part_of}
use Rattle.java_grammar.specs.Marks.{Mark, Single, Angle, Line}

-- no token
abbrev pub Nothing : Line
Nothing text = text ≡ []

-- one behind the other
pub record Behind (first : Line) (second : Line) (text : List Mark) : Type 0 where
  pub front : List Mark
  pub rest : List Mark
  pub whole : text ≡ front ++ rest
  pub before : first front
  pub after : second rest

infixr 5 ◌⨾◌
abbrev pub ◌⨾◌ : Line → Line → Line
a ⨾ b = Behind a b

-- one of two
abbrev pub Either : Line → Line → Line
Either a b text = a text ⊎ b text

-- there, or not
abbrev pub Perhaps : Line → Line
Perhaps a = Either Nothing a

-- of what isn't there, nothing
abbrev pub Given : {X : Type 0} → (X → Line) → Option X → Line
Given line None = Nothing
Given line (Some x) = line x

-- one line for each, one behind the other
abbrev pub Row : {X : Type 0} → (X → Line) → List X → Line
Row line [] = Nothing
Row line (x ∷ xs) = line x ⨾ Row line xs

-- with a line between each two; at least one
abbrev pub Separated : {X : Type 0} → Line → (X → Line) → List X → Line
Separated between line [] text = ⊥
Separated between line (x ∷ []) text = line x text
Separated between line (x ∷ y ∷ xs) text =
    (line x ⨾ (between ⨾ Separated between line (y ∷ xs))) text

-- a token of this part
pub record Is (wanted : Part) (text : List Mark) : Type 0 where
  pub token : Token
  pub whole : text ≡ Single token ∷ []
  pub part : part_of token ≡ wanted

-- the same, on this line of the source
pub record IsOn (line : ℕ) (wanted : Part) (text : List Mark) : Type 0 where
  pub token : Token
  pub whole : text ≡ Single token ∷ []
  pub part : part_of token ≡ wanted
  pub on : token.line ≡ line

-- a word
pub record Word (name : List ℕ) (text : List Mark) : Type 0 where
  pub token : Token
  pub whole : text ≡ Single token ∷ []
  pub word : token.kind ≡ kind.Word name

-- a word on this line of the source
pub record WordOn (line : ℕ) (name : List ℕ) (text : List Mark) : Type 0 where
  pub token : Token
  pub whole : text ≡ Single token ∷ []
  pub word : token.kind ≡ kind.Word name
  pub on : token.line ≡ line

-- a closing angle, whether it is all that is left of its token or not
abbrev pub ClosingAngle : Line
ClosingAngle text = (more : Bool) × (text ≡ Angle more ∷ [])

abbrev pub Comma : Line
Comma = Is part.Comma

abbrev pub Commas : {X : Type 0} → (X → Line) → List X → Line
Commas line xs = Separated Comma line xs

abbrev pub PerhapsCommas : {X : Type 0} → (X → Line) → List X → Line
PerhapsCommas line [] = Nothing
PerhapsCommas line (x ∷ xs) = Commas line (x ∷ xs)
