-- The longest front, from a reading of the marks before a bracket without a partner.
use Rattle.std.proofs.Common.{◌≡◌, refl, sym, ◌∙◌, ap, ℕ, zero, suc, ◌+◌, ◌-◌, ◌*◌, ◌≤◌, arith}
use Rattle.std.proofs.Common.{true, List, [], ◌++◌, length, take, drop, None}
use Rattle.std.proofs.Common.{append-nil, length-append, append_assoc}
use Rattle.java_token.specs.declared.token.Token.{Token}
use Rattle.java_ast.specs.declared.types.TypeTree.{TypeTree}
use Rattle.java_grammar.specs.Parts.{parts}
use Rattle.java_grammar.specs.Counts.{tokens_fit}
use Rattle.java_grammar.specs.Marks.{Mark, Line, marks}
use Rattle.java_grammar.specs.Reading.{first_angles, IsFront}
use Rattle.java_grammar.specs.Annotations.{AnnSpells}
use Rattle.java_grammar.specs.Types.{TypeWithin, TypeSpells}
use Rattle.type_expr_parser.specs.Reading.{Read, found, sign_at}
use Rattle.type_expr_parser.specs.Names.{further_word_at}
use Rattle.type_expr_parser.specs.Annotations.{annotation_at}
use Rattle.type_expr_parser.specs.Types.{type_at}
use Rattle.type_expr_parser.specs.Follows.{TypeEnds}
use Rattle.type_expr_parser.specs.Pairing.{HasBalanced}
use Rattle.type_expr_parser.specs.Calls.{behind_front, IsLongest, HasNone}
use Rattle.type_expr_parser.proofs.Lines.{value_is, left_is}
use Rattle.type_expr_parser.proofs.CallLaws.{marks_within}
use Rattle.type_expr_parser.proofs.Balance.{Balances, of_annotation, of_type}
use Rattle.type_expr_parser.proofs.AnnTakes.{annotation_spelled}
use Rattle.type_expr_parser.proofs.AnnAgain.{annotation_again}
use Rattle.type_expr_parser.proofs.TypeTakes.{type_spelled}
use Rattle.type_expr_parser.proofs.ArgAgain.{no_dimension}
use Rattle.type_expr_parser.proofs.TypeAgain.{type_some, types_read}
use Rattle.type_expr_parser.proofs.Longest.{Longer, annotation_longer}
use Rattle.type_expr_parser.proofs.TypeLongest.{type_longer}

-- how items of a kind are read
pub record Kind {A : Type 0} (read : ℕ → List Mark → Read A) (Spells : A → Line) : Type 0 where
  pub takes : (n : ℕ) (text : List Mark) (x : A) (left : List Mark)
      → read n text ≡ found x left → IsFront (Spells x) text left
  pub alone : (n : ℕ) (x : A) (text : List Mark) → Spells x text → length text ≤ n
      → read n text ≡ found x []
  pub longer : (n : ℕ) (x : A) (text left : List Mark) → Spells x text → length text ≤ n
      → Longer (read n (text ++ left)) left
  pub pairs : (x : A) → Balances (Spells x)

pub annotation_kind : Kind annotation_at AnnSpells
unfolding further_word_at sign_at
annotation_kind = record {
  takes = annotation_spelled;
  alone = λ n a text x few.
      let fits : length text ≤ suc n = omega arith in
      sym (ap (annotation_at n) (append-nil text))
      ∙ annotation_again n a text [] x fits (record { word = refl; group = refl });
  longer = λ n a text left x few.
      let fits : length text ≤ suc n = omega arith in annotation_longer n a text left x fits;
  pairs = of_annotation;
}

type_ends : TypeEnds []
type_ends = record {
  args = refl;
  part = refl;
  dims = λ n. no_dimension n [] refl refl;
}

type_more : (n m : ℕ) (t : TypeTree) (text left : List Mark) → TypeWithin m t text
    → length text ≤ n → Longer (type_at n (text ++ left)) left
unfolding type_at
type_more zero m t text left x few =
    let some = type_some m t text x in absurd (omega arith)
type_more (suc n) m t text left x few = type_longer n m t text left x few

pub type_kind : Kind type_at TypeSpells
type_kind = record {
  takes = type_spelled;
  alone = λ n t text x few.
      sym (ap (type_at n) (append-nil text))
      ∙ (types_read n).reads x.0 t text [] x.1 few type_ends;
  longer = λ n t text left x few. type_more n x.0 t text left x.1 few;
  pairs = of_type;
}

-- a front of all marks is one of those that are read
front_read : {A : Type 0} {read : ℕ → List Mark → Read A} {Spells : A → Line}
    (kind : Kind read Spells) (n cut : ℕ) (tokens : List Token)
    → n ≡ 3 * length tokens + 1 → HasBalanced (marks tokens) (marks (take cut tokens))
    → (x : A) (text left : List Mark) → Spells x text → marks tokens ≡ text ++ left
    → (rest : List Mark) × (more : List Mark) × (y : A)
    × (read n (marks (take cut tokens)) ≡ found y rest)
    × (marks (take cut tokens) ≡ (text ++ more) ++ rest)
front_read {read = read} kind n cut tokens is held x text left s e =
    let h = held text left (kind.pairs x text s) e in
    let a = marks_within tokens in
    let b = ap length e ∙ length-append text left in
    let few : length text ≤ n = omega arith in
    let l = kind.longer n x text h.0 s few in (
      l.rest,
      l.more,
      l.item,
      ap (read n) h.1 ∙ l.is,
      h.1 ∙ ap (λ t. text ++ t) l.within ∙ sym (append_assoc text l.more l.rest),
    )

pub longest_front : {A : Type 0} {read : ℕ → List Mark → Read A} {Spells : A → Line}
    (kind : Kind read Spells) (n cut used part : ℕ) (tokens : List Token) (x : A)
    (left : List Mark)
    → n ≡ 3 * length tokens + 1 → HasBalanced (marks tokens) (marks (take cut tokens))
    → tokens_fit (parts tokens) ≡ true
    → read n (marks (take cut tokens)) ≡ found x left
    → ((front : List Mark) → marks (take cut tokens) ≡ front ++ left
    → marks tokens ≡ front ++ behind_front tokens used part)
    → used ≤ length tokens
    → part ≤ first_angles (parts (drop used tokens)) - 1
    → IsLongest Spells tokens x used part
longest_front {A} {Spells = Spells} kind n cut used part tokens x left is held fits read place
    counted within =
    let t = kind.takes n (marks (take cut tokens)) x left read in
    let whole = place t.front t.whole in
    let a = marks_within tokens in
    let b = ap length whole ∙ length-append t.front (behind_front tokens used part) in
    let few : length t.front ≤ n = omega arith in
    record {
      fits = fits;
      front = t.front;
      whole = whole;
      counted = counted;
      within = within;
      spells = t.spelled;
      alone = λ other y.
          value_is (sym (kind.alone n other t.front y few) ∙ kind.alone n x t.front t.spelled few);
      longest = λ other text rest y e.
          let f = front_read kind n cut tokens is held other text rest y e in
          let same : f.0 ≡ left = left_is (sym f.3 ∙ read) in
          let c = ap length (sym t.whole ∙ f.4) in
          let d = length-append t.front left in
          let g = length-append (text ++ f.1) f.0 in
          let h = length-append text f.1 in
          let k = ap length same in
          omega (arith, c, d, g, h, k);
    }

pub no_front_read : {A : Type 0} {read : ℕ → List Mark → Read A} {Spells : A → Line}
    (kind : Kind read Spells) (n cut : ℕ) (tokens : List Token)
    → n ≡ 3 * length tokens + 1 → HasBalanced (marks tokens) (marks (take cut tokens))
    → tokens_fit (parts tokens) ≡ true
    → read n (marks (take cut tokens)) ≡ None
    → HasNone Spells tokens
no_front_read kind n cut tokens is held fits read = record {
  fits = fits;
  none = λ x text left y e.
      let f = front_read kind n cut tokens is held x text left y e in
      let g = sym f.3 ∙ read in
      absurd (cc);
}
