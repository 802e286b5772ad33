-- Qualified names and pairs of brackets: what is read is spelled, and what is spelled is read.
use Rattle.std.proofs.Common.{◌≡◌, refl, sym, ◌∙◌, ap, subst, ℕ, suc, ◌≤◌, arith}
use Rattle.std.proofs.Common.{false, List, [], ◌∷◌, ◌++◌, length, map, Some, None}
use Rattle.java_ast.specs.declared.types.NamePart.{NamePart, out-NamePart}
use Rattle.java_ast.specs.declared.types.ArgTree.TheViews.{roll-NamePart, roll-out-NamePart}
use Rattle.java_grammar.specs.Marks.{Mark, Line}
use Rattle.java_grammar.specs.Words.{◌⨾◌, Row, Word}
use Rattle.java_grammar.specs.Expressions.{Dot, QName, PlainName, FurtherWord}
use Rattle.java_grammar.specs.Reading.{IsFront}
use Rattle.java_grammar.specs.declared.sign.Sign.TheVariants as sign
use Rattle.type_expr_parser.specs.Reading.{◌>>=◌, prepended, many}
use Rattle.type_expr_parser.specs.Reading.{front_line, comes, sign_at, word_at}
use Rattle.type_expr_parser.specs.Names.{further_word_at, qname_at, plain_part}
use Rattle.type_expr_parser.proofs.Lines.{value_is, left_is, bound, bind_is, then_front, front_as}
use Rattle.type_expr_parser.proofs.Lines.{regroup}
use Rattle.type_expr_parser.proofs.Lines.{both_lengths, to_row, from_row, many_takes}
use Rattle.type_expr_parser.proofs.Lines.{Rows, many_again}
use Rattle.type_expr_parser.proofs.TokenLaws.{sign_again, sign_takes, sign_missing, word_again}
use Rattle.type_expr_parser.proofs.TokenLaws.{word_takes, any_line}

-- ---- further words

abbrev pub Further : List ℕ → Line
Further name = Dot ⨾ Word name

pub further_takes : (text : List Mark) (name : List ℕ) (left : List Mark)
    → further_word_at text ≡ Some (name, left) → IsFront (Further name) text left
unfolding further_word_at
further_takes text name left e =
    let b = bound (sign_at sign.Dot text) (λ dot. word_at dot.1) name left e in
    then_front (sign_takes sign.Dot text b.item b.rest b.first)
    (word_takes b.rest name left b.second)

pub further_again : (name : List ℕ) (text left : List Mark) → Further name text
    → further_word_at (text ++ left) ≡ Some (name, left)
unfolding further_word_at
further_again name text left x =
    ap (λ l. further_word_at l) (regroup x left)
    ∙ bind_is (λ dot. word_at dot.1) (sign_again sign.Dot x.front (x.rest ++ left) x.before)
    (word_again name x.rest left x.after)

pub further_missing : (text : List Mark) → comes sign.Dot text ≡ false
    → further_word_at text ≡ None
unfolding further_word_at
further_missing text e = ap (λ r. r >>= λ dot. word_at dot.1) (sign_missing sign.Dot text e)

further_some : (name : List ℕ) (text : List Mark) → Further name text → 1 ≤ length text
further_some name text x =
    let a = ap length x.before.whole in
    let b = both_lengths x in
    omega arith

pub further_rows : (n : ℕ) → Rows further_word_at Further (λ left. Unit {0}) n
further_rows n = record {
  again = λ name front left x few f. further_again name front left x;
  next = λ name front left x. tt;
  some = further_some;
}

-- ---- qualified names

pub qname_takes : (n : ℕ) (text : List Mark) (words : List (List ℕ)) (left : List Mark)
    → qname_at n text ≡ Some (words, left) → IsFront (QName words) text left
unfolding qname_at
qname_takes n text words left e =
    let b = bound (word_at text)
    (λ first. Some (prepended (first.0 ∷ []) (many further_word_at n first.1))) words left e in
    let more = many further_word_at n b.rest in
    let is : b.item ∷ more.0 ≡ words = value_is b.second in
    let same : more.1 ≡ left = left_is b.second in
    let whole = then_front (word_takes text b.item b.rest b.first)
    (many_takes further_word_at Further further_takes n b.rest) in
    let named : IsFront (QName (b.item ∷ more.0)) text more.1 =
    front_as (from_row Dot Word b.item more.0) whole in
    subst (λ (l : List Mark). IsFront (QName words) text l) same
    (subst (λ (w : List (List ℕ)). IsFront (QName w) text more.1) is named)

pub qname_again : (n : ℕ) (words : List (List ℕ)) (text left : List Mark) → QName words text
    → length text ≤ suc n → further_word_at left ≡ None
    → qname_at n (text ++ left) ≡ Some (words, left)
unfolding qname_at
qname_again n [] text left x few e = absurd x
qname_again n (word ∷ words) text left x few e =
    let y = to_row Dot Word word words text x in
    let a = ap length y.before.whole in
    let b = both_lengths y in
    let fewer : length y.rest ≤ n = omega arith in
    let same : n ≤ n = omega arith in
    ap (λ l. qname_at n l) (regroup y left)
    ∙ bind_is (λ first. Some (prepended (first.0 ∷ []) (many further_word_at n first.1)))
    (word_again word y.front (y.rest ++ left) y.before)
    (ap (λ r. Some (prepended (word ∷ []) r))
    (many_again (further_rows n) n words y.rest left y.after fewer same tt e))

-- ---- names as types

plain_row : (words : List (List ℕ)) (text : List Mark) → Row Further words text
    → Row FurtherWord (map plain_part words) text
plain_row [] text x = x
plain_row (w ∷ words) text x = record {
  front = x.front;
  rest = x.rest;
  whole = x.whole;
  before = record {
    front = x.before.front;
    rest = x.before.rest;
    whole = x.before.whole;
    before = x.before.before;
    after = (refl, x.before.after);
  };
  after = plain_row words x.rest x.after;
}

-- the words of a name as a type's, whose first one stands on the line that comes next
pub plain_name : (words : List (List ℕ)) (text left : List Mark) → QName words text
    → PlainName (front_line (text ++ left)) (map plain_part words) text
plain_name [] text left x = absurd x
plain_name (word ∷ words) text left x =
    let y = to_row Dot Word word words text x in
    let first = y.before in
    let line : front_line (text ++ left) ≡ first.token.line =
    ap (λ l. front_line (l ++ left)) (y.whole ∙ ap (λ l. l ++ y.rest) first.whole) in
    record {
      front = y.front;
      rest = y.rest;
      whole = y.whole;
      before = (
        refl,
        record {
          token = first.token;
          whole = first.whole;
          word = first.word;
          on = sym line;
        },
      );
      after = plain_row words y.rest y.after;
    }

pub plain_takes : (n : ℕ) (text : List Mark) (words : List (List ℕ)) (left : List Mark)
    → qname_at n text ≡ Some (words, left)
    → IsFront (PlainName (front_line text) (map plain_part words)) text left
plain_takes n text words left e =
    let x = qname_takes n text words left e in
    record {
      front = x.front;
      whole = x.whole;
      spelled = subst (λ (line : ℕ). PlainName line (map plain_part words) x.front)
          (sym (ap front_line x.whole)) (plain_name words x.front left x.spelled);
    }

plain_is : (p : NamePart) → (out-NamePart p).args ≡ None → p ≡ plain_part (out-NamePart p).name
plain_is p e =
    sym (roll-out-NamePart p)
    ∙ ap (λ a. roll-NamePart (record { name = (out-NamePart p).name; args = a })) e

-- the words of a type's name
pub record Words (line : ℕ) (parts : List NamePart) (text : List Mark) : Type 0 where
  pub words : List (List ℕ)
  pub are : parts ≡ map plain_part words
  pub named : QName words text
  pub on : (left : List Mark) → front_line (text ++ left) ≡ line

further_words : (parts : List NamePart) (text : List Mark) → Row FurtherWord parts text
    → (words : List (List ℕ)) × (parts ≡ map plain_part words) × Row Further words text
further_words [] text x = ([], refl, x)
further_words (p ∷ parts) text x =
    let r = further_words parts x.rest x.after in
    let q = x.before in (
      (out-NamePart p).name ∷ r.0,
      ap (λ l. p ∷ l) r.1 ∙ ap (λ v. v ∷ map plain_part r.0) (plain_is p q.after.0),
      record {
        front = x.front;
        rest = x.rest;
        whole = x.whole;
        before = record {
          front = q.front;
          rest = q.rest;
          whole = q.whole;
          before = q.before;
          after = q.after.1;
        };
        after = r.2;
      },
    )

pub type_words : (line : ℕ) (parts : List NamePart) (text : List Mark)
    → PlainName line parts text → Words line parts text
type_words line [] text x = absurd x
type_words line (p ∷ parts) text x =
    let word = x.before.1 in
    let r = further_words parts x.rest x.after in
    let name = (out-NamePart p).name in
    record {
      words = name ∷ r.0;
      are = ap (λ l. p ∷ l) r.1 ∙ ap (λ v. v ∷ map plain_part r.0) (plain_is p x.before.0);
      named = from_row Dot Word name r.0 text (record {
        front = x.front;
        rest = x.rest;
        whole = x.whole;
        before = any_line line name x.front word;
        after = r.2;
      });
      on = λ left. ap (λ l. front_line (l ++ left)) (x.whole ∙ ap (λ l. l ++ x.rest) word.whole)
          ∙ word.on;
    }
