-- Tokens that are literals, words, primitive types and prefix operators.
use Rattle.std.proofs.Common.{◌≡◌, refl, sym, ◌∙◌, ap, subst, ℕ, Bool, true, false, List, [], ◌∷◌}
use Rattle.std.proofs.Common.{◌++◌, Some}
use Rattle.std.specs.Prelude.{if◌then◌else◌}
use Rattle.java_token.specs.declared.token.Token.{Token}
use Rattle.java_token.specs.declared.token.TokenKind.{TokenKind}
use Rattle.java_token.specs.declared.token.TokenKind.TheVariants as kind
use Rattle.java_token.specs.declared.keyword.Kw.{Kw}
use Rattle.java_token.specs.declared.keyword.Kw.TheVariants as keyword
use Rattle.java_ast.specs.declared.expression.Lit.{Lit}
use Rattle.java_ast.specs.declared.expression.Lit.TheVariants as literal
use Rattle.java_ast.specs.declared.expression.BinOp.{BinOp}
use Rattle.java_ast.specs.declared.expression.BinOp.TheVariants as binary
use Rattle.java_ast.specs.declared.expression.UnOp.{UnOp}
use Rattle.java_ast.specs.declared.expression.UnOp.TheVariants as unary
use Rattle.java_grammar.specs.declared.part.Part.{Part}
use Rattle.java_grammar.specs.declared.part.Part.TheVariants as part
use Rattle.java_grammar.specs.Parts.{part_of, kind_part, is_sealed_name}
use Rattle.java_grammar.specs.Marks.{Mark, Single, Angle, Group, Semi}
use Rattle.java_grammar.specs.Words.{Is}
use Rattle.java_grammar.specs.Reading.{front_part, IsFront}
use Rattle.java_grammar.specs.Expressions.{literal_of, IsLiteral, read, truth, falsehood, nothing}
use Rattle.java_grammar.specs.Expressions.{Prefix}
use Rattle.type_expr_parser.specs.Reading.{token_at}
use Rattle.type_expr_parser.specs.Literals.{keyword_literal, literal_in}
use Rattle.type_expr_parser.specs.Levels.{prefix_of}
use Rattle.type_expr_parser.proofs.Lines.{value_is, left_is}

-- ---- the token that comes next

pub record Next (text : List Mark) (t : Token) (left : List Mark) : Type 0 where
  pub is : text ≡ Single t ∷ left

pub next_is : (text : List Mark) (t : Token) (left : List Mark) → token_at text ≡ Some (t, left)
    → Next text t left
next_is [] t left e = absurd cc
next_is (Single u ∷ text) t left e =
    let one : u ≡ t = value_is e in
    let rest : text ≡ left = left_is e in
    record { is = ap (λ v. Single v ∷ text) one ∙ ap (λ l. Single t ∷ l) rest }
next_is (Angle more ∷ text) t left e = absurd cc
next_is (Group ∷ text) t left e = absurd cc
next_is (Semi ∷ text) t left e = absurd cc

-- its part
pub next_part : (text : List Mark) (t : Token) (left : List Mark) (p : Part)
    → token_at text ≡ Some (t, left) → front_part text ≡ Some p → part_of t ≡ p
next_part text t left p e f =
    let x = next_is text t left e in
    let g : Some (part_of t) ≡ Some p = sym (ap front_part x.is) ∙ f in
    cc

-- a token of a part that was looked at
pub part_takes : (p : Part) (text : List Mark) (t : Token) (left : List Mark)
    → token_at text ≡ Some (t, left) → front_part text ≡ Some p → IsFront (Is p) text left
part_takes p text t left e f = record {
  front = Single t ∷ [];
  whole = (next_is text t left e).is;
  spelled = record { token = t; whole = refl; part = next_part text t left p e f };
}

pub part_read : (p : Part) (text left : List Mark) → Is p text → (t : Token)
    × (text ≡ Single t ∷ []) × (token_at (text ++ left) ≡ Some (t, left))
    × (front_part (text ++ left) ≡ Some p)
part_read p text left x = (
  x.token,
  x.whole,
  ap (λ l. token_at (l ++ left)) x.whole,
  ap (λ l. front_part (l ++ left)) x.whole ∙ ap Some x.part,
)

-- ---- prefix operators

prefix_binary : (op : UnOp) (o : BinOp) (text : List Mark)
    → prefix_of (Some (part.Binary o)) ≡ Some op → Is (part.Binary o) text → Prefix op text
prefix_binary op binary.Plus text e x =
    let is : unary.Plus ≡ op = cc in subst (λ (v : UnOp). Prefix v text) is x
prefix_binary op binary.Minus text e x =
    let is : unary.Minus ≡ op = cc in subst (λ (v : UnOp). Prefix v text) is x
prefix_binary op o text e x = absurd (cc)

prefix_unary : (op o : UnOp) (text : List Mark)
    → prefix_of (Some (part.Unary o)) ≡ Some op → Is (part.Unary o) text → Prefix op text
prefix_unary op unary.Complement text e x =
    let is : unary.Complement ≡ op = cc in subst (λ (v : UnOp). Prefix v text) is x
prefix_unary op unary.Not text e x =
    let is : unary.Not ≡ op = cc in subst (λ (v : UnOp). Prefix v text) is x
prefix_unary op o text e x = absurd (cc)

prefix_line : (op : UnOp) (p : Part) (text : List Mark) → prefix_of (Some p) ≡ Some op
    → Is p text → Prefix op text
prefix_line op (part.Binary o) text e x = prefix_binary op o text e x
prefix_line op (part.Unary o) text e x = prefix_unary op o text e x
prefix_line op p text e x = absurd (cc)

pub prefix_takes : (op : UnOp) (text : List Mark) (t : Token) (left : List Mark)
    → prefix_of (front_part text) ≡ Some op → token_at text ≡ Some (t, left)
    → IsFront (Prefix op) text left
prefix_takes op text t left e h =
    let x = next_is text t left h in
    let of : prefix_of (Some (part_of t)) ≡ Some op =
    sym (ap (λ l. prefix_of (front_part l)) x.is) ∙ e in
    record {
      front = Single t ∷ [];
      whole = x.is;
      spelled = prefix_line op (part_of t) (Single t ∷ []) of
          (record { token = t; whole = refl; part = refl });
    }

abbrev prefix_part : UnOp → Part
prefix_part unary.Plus = part.Binary binary.Plus
prefix_part unary.Minus = part.Binary binary.Minus
prefix_part unary.Complement = part.Unary unary.Complement
prefix_part unary.Not = part.Unary unary.Not

prefix_is : (op : UnOp) (text : List Mark) → Prefix op text → Is (prefix_part op) text
prefix_is unary.Plus text x = x
prefix_is unary.Minus text x = x
prefix_is unary.Complement text x = x
prefix_is unary.Not text x = x

prefix_true : (op : UnOp) → prefix_of (Some (prefix_part op)) ≡ Some op
prefix_true unary.Plus = refl
prefix_true unary.Minus = refl
prefix_true unary.Complement = refl
prefix_true unary.Not = refl

pub prefix_read : (op : UnOp) (text left : List Mark) → Prefix op text → (t : Token)
    × (text ≡ Single t ∷ []) × (token_at (text ++ left) ≡ Some (t, left))
    × (prefix_of (front_part (text ++ left)) ≡ Some op)
prefix_read op text left x =
    let r = part_read (prefix_part op) text left (prefix_is op text x) in
    (r.0, r.1, r.2, ap prefix_of r.3 ∙ prefix_true op)

-- ---- literals

keyword_is : (k : Kw) (l : Lit) (t : Token) → t.kind ≡ kind.Keyword k
    → keyword_literal k ≡ Some l → IsLiteral l t
keyword_is keyword.True l t e h =
    let is : literal.Bool true ≡ l = cc in
    subst (λ (m : Lit). IsLiteral m t) is (truth t e)
keyword_is keyword.False l t e h =
    let is : literal.Bool false ≡ l = cc in
    subst (λ (m : Lit). IsLiteral m t) is (falsehood t e)
keyword_is keyword.Null l t e h =
    let is : literal.Null ≡ l = cc in
    subst (λ (m : Lit). IsLiteral m t) is (nothing t e)
keyword_is k l t e h = absurd cc

pub literal_is : (k : TokenKind) (l : Lit) (t : Token) → t.kind ≡ k
    → literal_in k ≡ Some l → IsLiteral l t
literal_is (kind.Lit m) l t e h =
    let is : literal_of m ≡ l = cc in
    subst (λ (n : Lit). IsLiteral n t) is (read m t e)
literal_is (kind.Keyword k) l t e h = keyword_is k l t e h
literal_is (kind.Word w) l t e h = absurd cc
literal_is (kind.Op o) l t e h = absurd cc

pub literal_read : (l : Lit) (t : Token) → IsLiteral l t
    → (literal_in t.kind ≡ Some l) × (part_of t ≡ part.Literal)
unfolding part_of
literal_read l t (read m u e) = (ap literal_in e, ap kind_part e)
literal_read l t (truth u e) = (ap literal_in e, ap kind_part e)
literal_read l t (falsehood u e) = (ap literal_in e, ap kind_part e)
literal_read l t (nothing u e) = (ap literal_in e, ap kind_part e)

-- ---- words

pub data IsWordPart : Part → Type 0 where
  plain : IsWordPart part.Word
  «sealed» : IsWordPart part.Sealed

word_by : (b : Bool) → IsWordPart (if b then part.Sealed else part.Word)
word_by true = «sealed»
word_by false = plain

pub word_is : (t : Token) (name : List ℕ) → t.kind ≡ kind.Word name → IsWordPart (part_of t)
unfolding part_of
word_is t name e =
    subst (λ (k : TokenKind). IsWordPart (kind_part k)) (sym e) (word_by (is_sealed_name name))
