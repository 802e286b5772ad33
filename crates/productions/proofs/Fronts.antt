-- Which keys come where a text begins with a known token.
use Rattle.std.proofs.Common.{◌≡◌, refl, ◌∙◌, ap, Bool, true, false, List, ◌∷◌, ◌++◌, ℕ}
use Rattle.std.specs.Prelude.{if◌then◌else◌, not, codes}
use Rattle.java_token.specs.declared.token.Token.{Token}
use Rattle.java_token.specs.declared.token.TokenKind.{TokenKind}
use Rattle.java_token.specs.declared.token.TokenKind.TheVariants as kind
use Rattle.java_grammar.specs.declared.part.Part.{Part}
use Rattle.java_grammar.specs.declared.part.Part.TheVariants as part
use Rattle.java_grammar.specs.declared.sign.Sign.{Sign}
use Rattle.java_grammar.specs.declared.sign.Sign.TheVariants as sign
use Rattle.java_grammar.specs.Parts.{part_of, kind_part}
use Rattle.java_grammar.specs.Parts.{is_sealed_name}
use Rattle.java_grammar.specs.Signs.{sign_is, sign_part}
use Rattle.java_grammar.specs.Tests.{is_word, is_sealed}
use Rattle.java_grammar.specs.Marks.{Mark, Single}
use Rattle.java_grammar.specs.Words.{Is, Word}
use Rattle.java_grammar.specs.Reading.{front_part}
use Rattle.java_grammar.proofs.Signs.{sign_true}
use Rattle.type_expr_parser.specs.Reading.{comes}
use Rattle.productions.specs.Keys.{Key, Fixed, Spelled, Keyword, Annotated, Sealing, NonSealing}
use Rattle.productions.specs.Keys.{Dotted, NoToken, Inside, kind_is_word, is_keyword}
use Rattle.productions.specs.Keys.{follows_by, word_by, here, front_may, word_may}

no_word_kind : (name : List ℕ) (k : TokenKind) → is_word (kind_part k) ≡ false
    → kind_is_word name k ≡ false
no_word_kind name (kind.Word word) e = absurd (by (is_sealed_name word) e)
  where
    by : (b : Bool) → is_word (if b then part.Sealed else part.Word) ≡ false → ⊥
    by true e = cc
    by false e = cc
no_word_kind name (kind.Keyword k) e = refl
no_word_kind name (kind.Lit l) e = refl
no_word_kind name (kind.Op o) e = refl

no_word : (name : List ℕ) (t : Token) → is_word (part_of t) ≡ false
    → kind_is_word name t.kind ≡ false
unfolding part_of
no_word name t e = no_word_kind name t.kind e

pub if_never : (b c : Bool) → b ≡ false → (if b then c else false) ≡ false
if_never b c e = ap (λ d. if d then c else false) e

-- what comes, by the part of the first token
pub front_key : (k : Key) (t : Token) (left : List Mark) → front_may (part_of t) k ≡ false
    → here k (Single t ∷ left) ≡ false
front_key (Fixed s) t left e = e
front_key (Spelled name) t left e = no_word name t e
front_key Keyword t left e = e
front_key Annotated t left e = if_never (sign_is sign.At (part_of t))
    (not (comes sign.Interface left)) e
front_key Sealing t left e = if_never (is_sealed (part_of t)) (follows_by (front_part left)) e
front_key NonSealing t left e = if_never (kind_is_word (codes "non") t.kind)
    (comes sign.Minus left) (no_word (codes "non") t e)
front_key Dotted t left e = if_never (sign_is sign.Dot (part_of t)) (word_by (front_part left)) e
front_key NoToken t left e = refl
front_key Inside t left e = absurd cc

pub part_key : (k : Key) (p : Part) (text left : List Mark) → Is p text → front_may p k ≡ false
    → here k (text ++ left) ≡ false
part_key k p text left x e =
    ap (λ l. here k (l ++ left)) x.whole
    ∙ front_key k x.token left (ap (λ q. front_may q k) x.part ∙ e)

pub sign_key : (s : Sign) (text left : List Mark) → Is (sign_part s) text
    → here (Fixed s) (text ++ left) ≡ true
sign_key s text left x =
    ap (λ l. comes s (l ++ left)) x.whole ∙ ap (sign_is s) x.part ∙ sign_true s

-- ---- words

word_front : (k : Key) (t : Token) (left : List Mark) (word : List ℕ)
    → t.kind ≡ kind.Word word → word_may word k ≡ false → here k (Single t ∷ left) ≡ false
unfolding part_of
word_front (Fixed s) t left word w e = ap (λ q. sign_is s (kind_part q)) w ∙ e
word_front (Spelled name) t left word w e = ap (kind_is_word name) w ∙ e
word_front Keyword t left word w e = ap (λ q. is_keyword (kind_part q)) w
    ∙ by (is_sealed_name word)
  where
    by : (b : Bool) → is_keyword (if b then part.Sealed else part.Word) ≡ false
    by true = refl
    by false = refl
word_front Annotated t left word w e = if_never (sign_is sign.At (kind_part t.kind))
    (not (comes sign.Interface left)) (ap (λ q. sign_is sign.At (kind_part q)) w
    ∙ by (is_sealed_name word))
  where
    by : (b : Bool) → sign_is sign.At (if b then part.Sealed else part.Word) ≡ false
    by true = refl
    by false = refl
word_front Sealing t left word w e = if_never (is_sealed (kind_part t.kind))
    (follows_by (front_part left)) (ap (λ q. is_sealed (kind_part q)) w
    ∙ by (is_sealed_name word) e)
  where
    by : (b : Bool) → b ≡ false → is_sealed (if b then part.Sealed else part.Word) ≡ false
    by true e = absurd cc
    by false e = refl
word_front NonSealing t left word w e = if_never (kind_is_word (codes "non") t.kind)
    (comes sign.Minus left) (ap (kind_is_word (codes "non")) w ∙ e)
word_front Dotted t left word w e = if_never (sign_is sign.Dot (kind_part t.kind))
    (word_by (front_part left)) (ap (λ q. sign_is sign.Dot (kind_part q)) w
    ∙ by (is_sealed_name word))
  where
    by : (b : Bool) → sign_is sign.Dot (if b then part.Sealed else part.Word) ≡ false
    by true = refl
    by false = refl
word_front NoToken t left word w e = refl
word_front Inside t left word w e = absurd cc

pub the_word_key : (k : Key) (word : List ℕ) (text left : List Mark) → Word word text
    → word_may word k ≡ false → here k (text ++ left) ≡ false
the_word_key k word text left x e =
    ap (λ l. here k (l ++ left)) x.whole ∙ word_front k x.token left word x.word e

-- a word of either part
either_word : (k : Key) (b : Bool) → front_may part.Word k ≡ false → front_may part.Sealed k ≡ false
    → front_may (if b then part.Sealed else part.Word) k ≡ false
either_word k true e f = f
either_word k false e f = e

pub any_word_key : (k : Key) (word : List ℕ) (text left : List Mark) → Word word text
    → front_may part.Word k ≡ false → front_may part.Sealed k ≡ false
    → here k (text ++ left) ≡ false
unfolding part_of
any_word_key k word text left x e f =
    ap (λ l. here k (l ++ left)) x.whole
    ∙ front_key k x.token left (ap (λ q. front_may (kind_part q) k) x.word
    ∙ either_word k (is_sealed_name word) e f)
