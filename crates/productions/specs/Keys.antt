-- What is asked of the marks that come next, and with what texts begin.
use Rattle.std.specs.Prelude.{◌≡◌, Bool, true, false, not, if◌then◌else◌, is_none, nat_eq, codes, ℕ}
use Rattle.std.specs.Prelude.{List, [], ◌∷◌, Option, Some, None}
use lib.Pointwise.{pointwise}
use Rattle.java_token.specs.declared.token.TokenKind.{TokenKind}
use Rattle.java_token.specs.declared.token.TokenKind.TheVariants as kind
use Rattle.java_ast.specs.declared.types.Primitive.TheVariants as primitive
use Rattle.java_grammar.specs.declared.part.Part.{Part}
use Rattle.java_grammar.specs.declared.part.Part.TheVariants as part
use Rattle.java_grammar.specs.declared.sign.Sign.{Sign}
use Rattle.java_grammar.specs.declared.sign.Sign.TheVariants as sign
use Rattle.java_grammar.specs.Parts.{is_sealed_name, word_part}
use Rattle.java_grammar.specs.Signs.{sign_is}
use Rattle.java_grammar.specs.Tests.{is_word, is_sealed}
use Rattle.java_grammar.specs.Marks.{Mark, Single, Angle, Group, Semi}
use Rattle.java_grammar.specs.Reading.{front_part, behind_mark}
use Rattle.type_expr_parser.specs.Reading.{comes}

-- ---- what comes next

pub data Key : Type 0 where
  -- a token of this part
  Fixed : Sign → Key
  -- this word
  Spelled : List ℕ → Key
  -- a keyword that is a modifier
  Keyword : Key
  -- `@`, but not that of `@interface`
  Annotated : Key
  -- `sealed` as a modifier: neither `.` nor `(` nor an end is behind it
  Sealing : Key
  -- `non` and `-`
  NonSealing : Key
  -- a dot and a word
  Dotted : Key
  -- no token: an end, or a closing angle
  NoToken : Key
  -- a token or a closing angle: no end
  Inside : Key

abbrev pub kind_is_word : List ℕ → TokenKind → Bool
kind_is_word name (kind.Word word) = pointwise nat_eq word name
kind_is_word name _ = false

abbrev pub mark_is_word : List ℕ → Mark → Bool
mark_is_word name (Single token) = kind_is_word name token.kind
mark_is_word name _ = false

-- this word comes next
abbrev pub word_comes : List ℕ → List Mark → Bool
word_comes name [] = false
word_comes name (m ∷ text) = mark_is_word name m

abbrev pub is_keyword : Part → Bool
is_keyword (part.Modifier word) = true
is_keyword _ = false

abbrev pub keyword_by : Option Part → Bool
keyword_by None = false
keyword_by (Some p) = is_keyword p

abbrev pub word_by : Option Part → Bool
word_by None = false
word_by (Some p) = is_word p

abbrev pub sealed_by : Option Part → Bool
sealed_by None = false
sealed_by (Some p) = is_sealed p

-- what may stand behind the modifier `sealed`
abbrev pub follows_by : Option Part → Bool
follows_by None = false
follows_by (Some p) =
    if sign_is sign.Dot p then false
    else (if sign_is sign.LeftParenthesis p then false else true)

abbrev pub mark_is_inside : Mark → Bool
mark_is_inside (Single token) = true
mark_is_inside (Angle more) = true
mark_is_inside Group = false
mark_is_inside Semi = false

abbrev pub is_inside : List Mark → Bool
is_inside [] = false
is_inside (m ∷ text) = mark_is_inside m

-- the key comes next
abbrev pub here : Key → List Mark → Bool
here (Fixed s) text = comes s text
here (Spelled name) text = word_comes name text
here Keyword text = keyword_by (front_part text)
here Annotated text =
    if comes sign.At text then not (comes sign.Interface (behind_mark text)) else false
here Sealing text =
    if sealed_by (front_part text) then follows_by (front_part (behind_mark text)) else false
here NonSealing text =
    if word_comes (codes "non") text then comes sign.Minus (behind_mark text) else false
here Dotted text = if comes sign.Dot text then word_by (front_part (behind_mark text)) else false
here NoToken text = is_none (front_part text)
here Inside text = is_inside text

-- none of these comes next
abbrev pub Stops : List Key → List Mark → Type 0
Stops [] left = Unit {0}
Stops (k ∷ keys) left = (here k left ≡ false) × Stops keys left

-- ---- with what texts begin

pub data Begin : Type 0 where
  -- a token of this part
  With : Part → Begin
  -- this word
  TheWord : List ℕ → Begin
  -- a word that is no modifier
  Plain : Begin
  -- `@interface`
  AtInterface : Begin
  -- `.*`
  DotStar : Begin
  -- a closing angle
  AnAngle : Begin
  -- an end
  AnEnd : Begin
  -- any mark
  Anything : Begin

-- the key may come where a token of this part does
abbrev pub front_may : Part → Key → Bool
front_may p (Fixed s) = sign_is s p
front_may p (Spelled name) = is_word p
front_may p Keyword = is_keyword p
front_may p Annotated = sign_is sign.At p
front_may p Sealing = is_sealed p
front_may p NonSealing = is_word p
front_may p Dotted = sign_is sign.Dot p
front_may p NoToken = false
front_may p Inside = true

abbrev pub word_may : List ℕ → Key → Bool
word_may word (Fixed s) = sign_is s (word_part word)
word_may word (Spelled name) = pointwise nat_eq word name
word_may word Keyword = false
word_may word Annotated = false
word_may word Sealing = is_sealed_name word
word_may word NonSealing = pointwise nat_eq word (codes "non")
word_may word Dotted = false
word_may word NoToken = false
word_may word Inside = true

abbrev pub plain_may : Key → Bool
plain_may (Fixed s) = if sign_is s part.Word then true else sign_is s part.Sealed
plain_may (Spelled name) = true
plain_may Inside = true
plain_may _ = false

abbrev pub tied_may : Key → Bool
tied_may (Fixed s) = sign_is s part.At
tied_may Inside = true
tied_may _ = false

abbrev pub dot_may : Key → Bool
dot_may (Fixed s) = sign_is s part.Dot
dot_may Inside = true
dot_may _ = false

abbrev pub angle_may : Key → Bool
angle_may NoToken = true
angle_may Inside = true
angle_may _ = false

abbrev pub end_may : Key → Bool
end_may NoToken = true
end_may _ = false

-- the key may come where a text begins so
abbrev pub may : Begin → Key → Bool
may (With p) k = front_may p k
may (TheWord word) k = word_may word k
may Plain k = plain_may k
may AtInterface k = tied_may k
may DotStar k = dot_may k
may AnAngle k = angle_may k
may AnEnd k = end_may k
may Anything k = true

abbrev pub has : List Begin → Key → Bool
has [] k = false
has (b ∷ begins) k = if may b k then true else has begins k

-- none of these keys comes where a text begins so
abbrev pub apart : List Key → List Begin → Bool
apart [] begins = true
apart (k ∷ keys) begins = if has begins k then false else apart keys begins

-- any word, and any primitive type
abbrev pub any_word : List Begin
any_word = With part.Word ∷ With part.Sealed ∷ []

abbrev pub primitives : List Begin
primitives =
    With (part.Primitive primitive.Boolean) ∷ With (part.Primitive primitive.Byte)
    ∷ With (part.Primitive primitive.Short) ∷ With (part.Primitive primitive.Int)
    ∷ With (part.Primitive primitive.Long) ∷ With (part.Primitive primitive.Char)
    ∷ With (part.Primitive primitive.Float) ∷ With (part.Primitive primitive.Double) ∷ []
