-- Signs, words and operators: what is read is spelled, and what is spelled is read.
use Rattle.std.proofs.Common.{◌≡◌, refl, ◌∙◌, ap, ℕ, Bool, true, false, List, [], ◌∷◌, ◌++◌}
use Rattle.std.proofs.Common.{Option, Some, None, ◌==◌, subst}
use Rattle.std.proofs.lemmas.Bool.{eqb-true}
use Rattle.std.specs.Prelude.{if◌then◌else◌}
use Rattle.java_token.specs.declared.token.Token.{Token}
use Rattle.java_token.specs.declared.token.TokenKind.{TokenKind}
use Rattle.java_token.specs.declared.token.TokenKind.TheVariants as kind
use Rattle.java_ast.specs.declared.expression.BinOp.{BinOp}
use Rattle.java_ast.specs.declared.expression.BinOp.TheVariants as binary
use Rattle.java_grammar.specs.declared.part.Part.{Part}
use Rattle.java_grammar.specs.declared.part.Part.TheVariants as part
use Rattle.java_grammar.specs.declared.part.Pair.TheVariants as pair
use Rattle.java_grammar.specs.Parts.{part_of}
use Rattle.java_grammar.specs.Tests.{angles, operator_angles}
use Rattle.java_grammar.specs.Marks.{Mark, Single, Angle, Group, Semi}
use Rattle.java_grammar.specs.Words.{Is, IsOn, Word, WordOn}
use Rattle.java_grammar.specs.Reading.{behind_mark, binary_of, IsFront, NothingRead}
use Rattle.java_grammar.specs.Reading.{NoOperator}
use Rattle.java_grammar.specs.Expressions.{Operator}
use Rattle.java_grammar.proofs.Operators.{operator_alone}
use Rattle.java_grammar.specs.declared.sign.Sign.{Sign}
use Rattle.java_grammar.specs.declared.sign.Sign.TheVariants as sign
use Rattle.java_grammar.specs.Signs.{sign_is, sign_part}
use Rattle.java_grammar.proofs.Signs.{sign_exact, sign_true}
use Rattle.type_expr_parser.specs.Reading.{Read, found, ◌>>=◌, token_at, front_line, comes}
use Rattle.type_expr_parser.specs.Reading.{sign_at}
use Rattle.type_expr_parser.specs.Reading.{word_in, word_at, alone, operator_at}
use Rattle.type_expr_parser.proofs.Lines.{value_is, left_is}

-- ---- tokens

pub token_missing : (before after : List Mark) → NothingRead before after → token_at before ≡ None
token_missing [] after x = refl
token_missing (Single t ∷ text) after x = let e = x.none in cc
token_missing (Angle more ∷ text) after x = refl
token_missing (Group ∷ text) after x = refl
token_missing (Semi ∷ text) after x = refl

-- ---- signs

pub comes_at : (s : Sign) (t : Token) (left : List Mark) → part_of t ≡ sign_part s
    → comes s (Single t ∷ left) ≡ true
comes_at s t left e = ap (sign_is s) e ∙ sign_true s

pub sign_again : (s : Sign) (text left : List Mark) → Is (sign_part s) text
    → sign_at s (text ++ left) ≡ Some (tt, left)
unfolding sign_at
sign_again s text left x =
    let read : Read (Unit {0}) = Some (tt, left) in
    ap (λ l. sign_at s (l ++ left)) x.whole
    ∙ ap (λ b. if b then read else None) (comes_at s x.token left x.part)

sign_by : (s : Sign) (t : Token) (rest left : List Mark) (none : Unit {0}) (b : Bool)
    → sign_is s (part_of t) ≡ b
    → (if b then found tt rest else None) ≡ found none left
    → IsFront (IsOn t.line (sign_part s)) (Single t ∷ rest) left
sign_by s t rest left none true e h =
    let same : rest ≡ left = left_is h in
    record {
      front = Single t ∷ [];
      whole = ap (λ l. Single t ∷ l) same;
      spelled = record {
        token = t;
        whole = refl;
        part = sign_exact s (part_of t) e;
        on = refl;
      };
    }
sign_by s t rest left none false e h = absurd cc

pub sign_takes_on : (s : Sign) (text : List Mark) (none : Unit {0}) (left : List Mark)
    → sign_at s text ≡ Some (none, left) → IsFront (IsOn (front_line text) (sign_part s)) text left
unfolding sign_at
sign_takes_on s [] none left e = absurd cc
sign_takes_on s (Single t ∷ rest) none left e =
    sign_by s t rest left none (sign_is s (part_of t)) refl e
sign_takes_on s (Angle more ∷ rest) none left e = absurd cc
sign_takes_on s (Group ∷ rest) none left e = absurd cc
sign_takes_on s (Semi ∷ rest) none left e = absurd cc

pub on_any_line : (line : ℕ) (p : Part) (text : List Mark) → IsOn line p text → Is p text
on_any_line line p text x = record { token = x.token; whole = x.whole; part = x.part }

pub sign_takes : (s : Sign) (text : List Mark) (none : Unit {0}) (left : List Mark)
    → sign_at s text ≡ Some (none, left) → IsFront (Is (sign_part s)) text left
sign_takes s text none left e =
    let x = sign_takes_on s text none left e in
    record {
      front = x.front;
      whole = x.whole;
      spelled = on_any_line (front_line text) (sign_part s) x.front x.spelled;
    }

-- a sign that comes next
come_by : (s : Sign) (t : Token) (rest : List Mark) → sign_is s (part_of t) ≡ true
    → IsFront (Is (sign_part s)) (Single t ∷ rest) rest
come_by s t rest e = record {
  front = Single t ∷ [];
  whole = refl;
  spelled = record { token = t; whole = refl; part = sign_exact s (part_of t) e };
}

pub sign_comes : (s : Sign) (text : List Mark) → comes s text ≡ true
    → IsFront (Is (sign_part s)) text (behind_mark text)
sign_comes s [] e = absurd cc
sign_comes s (Single t ∷ rest) e = come_by s t rest e
sign_comes s (Angle more ∷ rest) e = absurd cc
sign_comes s (Group ∷ rest) e = absurd cc
sign_comes s (Semi ∷ rest) e = absurd cc

pub sign_missing : (s : Sign) (text : List Mark) → comes s text ≡ false → sign_at s text ≡ None
unfolding sign_at
sign_missing s text e =
    ap (λ b. if b then (token_at text >>= λ t. found tt t.1) else None) e

-- ---- words

pub word_again : (name : List ℕ) (text left : List Mark) → Word name text
    → word_at (text ++ left) ≡ Some (name, left)
unfolding word_at
word_again name text left x =
    ap (λ l. word_at (l ++ left)) x.whole
    ∙ ap (λ k. word_in k >>= λ n. found n left) x.word

word_by : (t : Token) (rest : List Mark) (name : List ℕ) (left : List Mark) (k : TokenKind)
    → t.kind ≡ k
    → (word_in k >>= λ n. found n rest) ≡ found name left
    → IsFront (WordOn t.line name) (Single t ∷ rest) left
word_by t rest name left (kind.Word n) e h =
    let same : rest ≡ left = left_is h in
    let named : n ≡ name = value_is h in
    record {
      front = Single t ∷ [];
      whole = ap (λ l. Single t ∷ l) same;
      spelled = record { token = t; whole = refl; word = e ∙ ap kind.Word named; on = refl };
    }
word_by t rest name left (kind.Keyword k) e h = absurd cc
word_by t rest name left (kind.Lit l) e h = absurd cc
word_by t rest name left (kind.Op o) e h = absurd cc

pub word_takes_on : (text : List Mark) (name : List ℕ) (left : List Mark)
    → word_at text ≡ Some (name, left) → IsFront (WordOn (front_line text) name) text left
unfolding word_at
word_takes_on [] name left e = absurd cc
word_takes_on (Single t ∷ rest) name left e = word_by t rest name left t.kind refl e
word_takes_on (Angle more ∷ rest) name left e = absurd cc
word_takes_on (Group ∷ rest) name left e = absurd cc
word_takes_on (Semi ∷ rest) name left e = absurd cc

pub any_line : (line : ℕ) (name : List ℕ) (text : List Mark) → WordOn line name text
    → Word name text
any_line line name text x = record { token = x.token; whole = x.whole; word = x.word }

pub word_takes : (text : List Mark) (name : List ℕ) (left : List Mark)
    → word_at text ≡ Some (name, left) → IsFront (Word name) text left
word_takes text name left e =
    let x = word_takes_on text name left e in
    record {
      front = x.front;
      whole = x.whole;
      spelled = any_line (front_line text) name x.front x.spelled;
    }

pub word_line : (line : ℕ) (name : List ℕ) (text left : List Mark) → WordOn line name text
    → front_line (text ++ left) ≡ line
word_line line name text left x = ap (λ l. front_line (l ++ left)) x.whole ∙ x.on

-- ---- operators

single_again : (op : BinOp) (text left : List Mark) → operator_angles op ≡ 0
    → Is (part.Binary op) text → operator_at (text ++ left) ≡ Some (op, left)
unfolding operator_at
single_again op text left e x =
    ap (λ l. operator_at (l ++ left)) x.whole
    ∙ ap (λ p. alone (binary_of p) (angles p) >>= λ o. found o left) x.part
    ∙ ap (λ n. alone (Some op) n >>= λ o. found o left) e

pub operator_again : (op : BinOp) (text left : List Mark) → Operator op text
    → operator_at (text ++ left) ≡ Some (op, left)
unfolding operator_at
operator_again binary.Greater text left x = ap (λ l. operator_at (l ++ left)) x
operator_again binary.ShiftRight text left x = ap (λ l. operator_at (l ++ left)) x
operator_again binary.ShiftRightUnsigned text left x = ap (λ l. operator_at (l ++ left)) x
operator_again binary.OrOr text left x = single_again binary.OrOr text left refl x
operator_again binary.AndAnd text left x = single_again binary.AndAnd text left refl x
operator_again binary.Or text left x = single_again binary.Or text left refl x
operator_again binary.Xor text left x = single_again binary.Xor text left refl x
operator_again binary.And text left x = single_again binary.And text left refl x
operator_again binary.Equal text left x = single_again binary.Equal text left refl x
operator_again binary.NotEqual text left x = single_again binary.NotEqual text left refl x
operator_again binary.Less text left x = single_again binary.Less text left refl x
operator_again binary.LessEqual text left x = single_again binary.LessEqual text left refl x
operator_again binary.GreaterEqual text left x = single_again binary.GreaterEqual text left refl x
operator_again binary.ShiftLeft text left x = single_again binary.ShiftLeft text left refl x
operator_again binary.Plus text left x = single_again binary.Plus text left refl x
operator_again binary.Minus text left x = single_again binary.Minus text left refl x
operator_again binary.Star text left x = single_again binary.Star text left refl x
operator_again binary.Slash text left x = single_again binary.Slash text left refl x
operator_again binary.Percent text left x = single_again binary.Percent text left refl x

alone_by : (t : Token) (rest : List Mark) (op : BinOp) (left : List Mark) (o : Option BinOp)
    (n : ℕ) (b : Bool)
    → binary_of (part_of t) ≡ o → angles (part_of t) ≡ n → (n == 0) ≡ b
    → ((if b then o else None) >>= λ x. found x rest) ≡ found op left
    → IsFront (Operator op) (Single t ∷ rest) left
alone_by t rest op left (Some o) n true e a z h =
    let same : rest ≡ left = left_is h in
    let is : o ≡ op = value_is h in
    operator_alone (Single t ∷ rest) left t op (ap (λ l. Single t ∷ l) same)
    (e ∙ ap Some is) (a ∙ eqb-true n 0 z)
alone_by t rest op left (Some o) n false e a z h = absurd cc
alone_by t rest op left None n true e a z h = absurd cc
alone_by t rest op left None n false e a z h = absurd cc

angle_is : (some : List Mark) (op : BinOp) (rest : List Mark) → Operator op some
    → IsFront (Operator op) (some ++ rest) rest
angle_is some op rest x = record { front = some; whole = refl; spelled = x }

same_front : {op other : BinOp} {text rest left : List Mark}
    → IsFront (Operator other) text rest → other ≡ op → rest ≡ left
    → IsFront (Operator op) text left
same_front {op} {text} {rest} x e h =
    subst (λ (l : List Mark). IsFront (Operator op) text l) h
    (subst (λ (o : BinOp). IsFront (Operator o) text rest) e x)

pub operator_takes : (text : List Mark) (op : BinOp) (left : List Mark)
    → operator_at text ≡ Some (op, left) → IsFront (Operator op) text left
unfolding operator_at
operator_takes [] op left e = absurd cc
operator_takes (Single t ∷ rest) op left e =
    alone_by t rest op left (binary_of (part_of t)) (angles (part_of t)) (angles (part_of t) == 0)
    refl refl refl e
operator_takes (Group ∷ rest) op left e = absurd cc
operator_takes (Semi ∷ rest) op left e = absurd cc
operator_takes (Angle false ∷ rest) op left e =
    let is : binary.Greater ≡ op = value_is e in
    let same : rest ≡ left = left_is e in
    same_front (angle_is (Angle false ∷ []) binary.Greater rest refl) is same
operator_takes (Angle true ∷ []) op left e = absurd cc
operator_takes (Angle true ∷ Single t ∷ rest) op left e = absurd cc
operator_takes (Angle true ∷ Group ∷ rest) op left e = absurd cc
operator_takes (Angle true ∷ Semi ∷ rest) op left e = absurd cc
operator_takes (Angle true ∷ Angle false ∷ rest) op left e =
    let is : binary.ShiftRight ≡ op = value_is e in
    let same : rest ≡ left = left_is e in
    same_front (angle_is (Angle true ∷ Angle false ∷ []) binary.ShiftRight rest refl) is same
operator_takes (Angle true ∷ Angle true ∷ []) op left e = absurd cc
operator_takes (Angle true ∷ Angle true ∷ Single t ∷ rest) op left e = absurd cc
operator_takes (Angle true ∷ Angle true ∷ Group ∷ rest) op left e = absurd cc
operator_takes (Angle true ∷ Angle true ∷ Semi ∷ rest) op left e = absurd cc
operator_takes (Angle true ∷ Angle true ∷ Angle true ∷ rest) op left e = absurd cc
operator_takes (Angle true ∷ Angle true ∷ Angle false ∷ rest) op left e =
    let is : binary.ShiftRightUnsigned ≡ op = value_is e in
    let same : rest ≡ left = left_is e in
    same_front (angle_is (Angle true ∷ Angle true ∷ Angle false ∷ []) binary.ShiftRightUnsigned
    rest refl) is same

-- ---- what the reader says of operators

pub operator_found : (op : BinOp) (before after : List Mark) → IsFront (Operator op) before after
    → operator_at before ≡ Some (op, after)
operator_found op before after x =
    ap operator_at x.whole ∙ operator_again op x.front after x.spelled

operator_by : (before after : List Mark) (r : Read BinOp) → NoOperator before after
    → operator_at before ≡ r → operator_at before ≡ None
operator_by before after None x e = e
operator_by before after (Some r) x e = absurd (x.none r.0 r.1 (operator_takes before r.0 r.1 e))

pub operator_missing : (before after : List Mark) → NoOperator before after
    → operator_at before ≡ None
operator_missing before after x = operator_by before after (operator_at before) x refl
