-- What is spelled as an expression that begins with no binary operator is read.
use Rattle.std.proofs.Common.{◌≡◌, refl, sym, ◌∙◌, ap, subst, ℕ, zero, suc, ◌+◌, ◌≤◌}
use Rattle.std.proofs.Common.{arith, Bool, true, false, List, [], ◌∷◌, ◌++◌, length, map}
use Rattle.std.proofs.Common.{Some, None, append_assoc}
use Rattle.std.specs.Prelude.{if◌then◌else◌, ◌||◌}
use Rattle.std.proofs.Math.Bool.{or-true}
use Rattle.java_token.specs.declared.token.Token.{Token}
use Rattle.java_token.specs.declared.token.TokenKind.{TokenKind}
use Rattle.java_token.specs.declared.token.TokenKind.TheVariants as kind
use Rattle.java_ast.specs.declared.types.TypeTree.{TypeTree, out-TypeTree}
use Rattle.java_ast.specs.declared.types.TypeTree.TheVariants as tree
use Rattle.java_ast.specs.declared.types.Primitive.{Primitive}
use Rattle.java_ast.specs.declared.types.ArgTree.TheOpen.{TypeTree-F}
use Rattle.java_ast.specs.declared.types.ArgTree.TheViews.{roll-TypeTree, roll-out-TypeTree}
use Rattle.java_ast.specs.declared.expression.Expr.{Expr}
use Rattle.java_ast.specs.declared.expression.Expr.TheVariants as expr
use Rattle.java_ast.specs.declared.expression.Lit.{Lit}
use Rattle.java_grammar.specs.declared.part.Part.{Part}
use Rattle.java_grammar.specs.declared.part.Part.TheVariants as part
use Rattle.java_grammar.specs.declared.part.Pair.TheVariants as pair
use Rattle.java_grammar.specs.Parts.{part_of}
use Rattle.java_grammar.specs.Marks.{Mark, Line}
use Rattle.java_grammar.specs.Words.{◌⨾◌, Row, Is, Word}
use Rattle.java_grammar.specs.Reading.{front_part}
use Rattle.java_grammar.specs.Expressions.{TypeLayer}
use Rattle.java_grammar.specs.Expressions.{Dot}
use Rattle.java_grammar.specs.Expressions.{QName, BracketPairs, PlainBase, LiteralType}
use Rattle.java_grammar.specs.Expressions.{Literal}
use Rattle.java_grammar.specs.Expressions.{ExprWithin}
use Rattle.java_grammar.specs.declared.sign.Sign.{Sign}
use Rattle.java_grammar.specs.declared.sign.Sign.TheVariants as sign
use Rattle.java_grammar.specs.Signs.{sign_is, sign_part}
use Rattle.type_expr_parser.specs.Reading.{Read, found, ◌>>=◌, many_count}
use Rattle.type_expr_parser.specs.Reading.{front_line}
use Rattle.type_expr_parser.specs.Reading.{comes, sign_at, word_in, word_at}
use Rattle.type_expr_parser.specs.Names.{further_word_at, bracket_pair_at, plain_part}
use Rattle.type_expr_parser.specs.Names.{plain_type, with_dims}
use Rattle.type_expr_parser.specs.Literals.{literal_at, class_literal_at, goes_on}
use Rattle.type_expr_parser.specs.Literals.{primitive_class_at, void_class_at, behind_name}
use Rattle.type_expr_parser.specs.Literals.{named_at}
use Rattle.type_expr_parser.specs.Levels.{prefix_of}
use Rattle.type_expr_parser.specs.Expressions.{Place, Whole, Operand, Nested}
use Rattle.type_expr_parser.specs.Expressions.{closed_primitive}
use Rattle.type_expr_parser.specs.Expressions.{unprefixed_by}
use Rattle.type_expr_parser.specs.Expressions.{unprefixed_over, unary_by, unary_over}
use Rattle.type_expr_parser.proofs.Lines.{bind_is, regroup, both_lengths, Rows, many_again}
use Rattle.type_expr_parser.proofs.Lines.{to_row}
use Rattle.type_expr_parser.proofs.TokenLaws.{sign_again, sign_missing, comes_at}
use Rattle.type_expr_parser.proofs.NameLaws.{qname_again, further_missing, type_words}
use Rattle.type_expr_parser.proofs.TokenKinds.{part_read, literal_read, IsWordPart}
use Rattle.type_expr_parser.proofs.TokenKinds.{plain, «sealed», word_is}
use Rattle.type_expr_parser.proofs.ExprTakes.{BracketPair, count_is}
use Rattle.type_expr_parser.proofs.ExprSound.{place_level}
use Rattle.type_expr_parser.specs.Follows.{Ends}

abbrev pub place_looseness : Place → ℕ
place_looseness Whole = 11
place_looseness Operand = 0

-- what is spelled with at most so many marks is read, where nothing goes on with it; a primitive
-- type with `)` behind it begins no expression
pub record Complete (most : ℕ) (nested : Nested) : Type 0 where
  pub reads : (place : Place) (m : ℕ) (e : Expr) (text left : List Mark)
      → ExprWithin m (place_level place) e text → length text ≤ most
      → Ends (place_looseness place) left → nested place (text ++ left) ≡ Some (e, left)
  pub refuses : (p : Primitive) (text : List Mark) → closed_primitive text ≡ Some p
      → nested Whole text ≡ None

-- ---- by the part that comes next

pub unary_is : (nested : Nested) (n : ℕ) (p : Part) (text : List Mark) (r : Read Expr)
    → front_part text ≡ Some p → prefix_of (Some p) ≡ None
    → unprefixed_by nested n (Some p) text ≡ r → unary_over nested n text ≡ r
unfolding unary_over unprefixed_over
unary_is nested n p text r f none h =
    ap (unary_by nested n text) (ap prefix_of f ∙ none)
    ∙ ap (λ o. unprefixed_by nested n o text) f ∙ h

named_is : (nested : Nested) (n : ℕ) (p : Part) (text : List Mark) (r : Read Expr)
    → IsWordPart p → front_part text ≡ Some p → named_at n text ≡ r
    → unary_over nested n text ≡ r
named_is nested n p text r plain f h = unary_is nested n part.Word text r f refl h
named_is nested n p text r «sealed» f h = unary_is nested n part.Sealed text r f refl h

-- ---- what comes next

pub comes_other : (s : Sign) (p : Part) (text left : List Mark) → Is p text
    → sign_is s p ≡ false → comes s (text ++ left) ≡ false
comes_other s p text left x e =
    ap (λ l. comes s (l ++ left)) x.whole ∙ ap (sign_is s) x.part ∙ e

pub comes_this : (s : Sign) (text left : List Mark) → Is (sign_part s) text
    → comes s (text ++ left) ≡ true
comes_this s text left x =
    ap (λ l. comes s (l ++ left)) x.whole ∙ comes_at s x.token left x.part

no_word : (t : Token) (p : Part) (left : List Mark) (k : TokenKind) → part_of t ≡ p
    → (IsWordPart p → ⊥) → t.kind ≡ k → (word_in k >>= λ n. found n left) ≡ None
no_word t p left (kind.Word name) e absent k =
    absurd (absent (subst IsWordPart e (word_is t name k)))
no_word t p left (kind.Keyword w) e absent k = refl
no_word t p left (kind.Lit l) e absent k = refl
no_word t p left (kind.Op o) e absent k = refl

class_no_word : (p : Part) → IsWordPart p → p ≡ part.Class → ⊥
class_no_word p plain e = cc
class_no_word p «sealed» e = cc

word_missing : (text left : List Mark) → Is part.Class text → word_at (text ++ left) ≡ None
unfolding word_at
word_missing text left x =
    ap (λ l. word_at (l ++ left)) x.whole
    ∙ no_word x.token part.Class left x.token.kind x.part
    (λ w. class_no_word part.Class w refl) refl

-- ---- pairs of brackets

abbrev units : ℕ → List (Unit {0})
units zero = []
units (suc n) = tt ∷ units n

units_length : (n : ℕ) → length (units n) ≡ n
units_length zero = refl
units_length (suc n) = ap suc (units_length n)

pairs_row : (n : ℕ) (text : List Mark) → BracketPairs n text → Row BracketPair (units n) text
pairs_row zero text x = x
pairs_row (suc n) text x = record {
  front = x.front ++ x.after.front;
  rest = x.after.rest;
  whole = x.whole ∙ ap (λ l. x.front ++ l) x.after.whole
      ∙ sym (append_assoc x.front x.after.front x.after.rest);
  before = record {
    front = x.front;
    rest = x.after.front;
    whole = refl;
    before = x.before;
    after = x.after.before;
  };
  after = pairs_row n x.after.rest x.after.after;
}

pair_again : (none : Unit {0}) (text left : List Mark) → BracketPair none text
    → bracket_pair_at (text ++ left) ≡ Some (none, left)
unfolding bracket_pair_at
pair_again none text left x =
    ap bracket_pair_at (regroup x left)
    ∙ bind_is (λ opening. sign_at sign.RightBracket opening.1)
    (sign_again sign.LeftBracket x.front (x.rest ++ left) x.before)
    (sign_again sign.RightBracket x.rest left x.after)

pub pair_missing : (text : List Mark) → comes sign.LeftBracket text ≡ false
    → bracket_pair_at text ≡ None
unfolding bracket_pair_at
pair_missing text e =
    ap (λ r. r >>= λ opening. sign_at sign.RightBracket opening.1)
    (sign_missing sign.LeftBracket text e)

pair_some : (none : Unit {0}) (text : List Mark) → BracketPair none text → 1 ≤ length text
pair_some none text x =
    let a = ap length x.before.whole in
    let b = both_lengths x in
    omega arith

pair_rows : (n : ℕ) → Rows bracket_pair_at BracketPair (λ left. Unit {0}) n
pair_rows n = record {
  again = λ none text left x few f. pair_again none text left x;
  next = λ none text left x. tt;
  some = pair_some;
}

pub pairs_again : (n k : ℕ) (text left : List Mark) → BracketPairs k text → length text ≤ n
    → bracket_pair_at left ≡ None
    → many_count bracket_pair_at n (text ++ left) ≡ (k, left)
pairs_again n k text left x few none =
    let same : n ≤ n = omega arith in
    count_is bracket_pair_at n (text ++ left)
    ∙ ap (λ r. (length r.0, r.1))
    (many_again (pair_rows n) n (units k) text left (pairs_row k text x) few same tt none)
    ∙ ap (λ c. (c, left)) (units_length k)

-- ---- class literals

abbrev DotClass : Line
DotClass = Dot ⨾ Is part.Class

class_again : (n k : ℕ) (element : TypeTree) (pairs rest left : List Mark)
    → BracketPairs k pairs → DotClass rest → length pairs ≤ n
    → class_literal_at element n (pairs ++ (rest ++ left))
    ≡ found (expr.ClassLit (with_dims element k)) left
unfolding class_literal_at
class_again n k element pairs rest left x y few =
    let stays : comes sign.LeftBracket (rest ++ left) ≡ false =
    ap (comes sign.LeftBracket) (regroup y left)
    ∙ comes_other sign.LeftBracket part.Dot y.front (y.rest ++ left) y.before refl in
    let more : List Mark → Read Expr = λ l. sign_at sign.Dot l >>= λ dot.
    sign_at sign.Class dot.1 >>= λ word. found (expr.ClassLit (with_dims element k)) word.1 in
    ap (λ (d : ℕ × List Mark). sign_at sign.Dot d.1 >>= λ dot.
    sign_at sign.Class dot.1 >>= λ word. found (expr.ClassLit (with_dims element d.0)) word.1)
    (pairs_again n k pairs (rest ++ left) x few (pair_missing (rest ++ left) stays))
    ∙ ap more (regroup y left)
    ∙ bind_is (λ dot. sign_at sign.Class dot.1 >>= λ word.
    found (expr.ClassLit (with_dims element k)) word.1)
    (sign_again sign.Dot y.front (y.rest ++ left) y.before)
    (bind_is (λ word. found (expr.ClassLit (with_dims element k)) word.1)
    (sign_again sign.Class y.rest left y.after) refl)

-- behind a name: brackets, or a dot and `class`
pub record GoesOn (text : List Mark) : Type 0 where
  pub further : further_word_at text ≡ None
  pub goes : goes_on text ≡ true

dims_go_on : (k : ℕ) (pairs rest left : List Mark) → BracketPairs k pairs → DotClass rest
    → GoesOn (pairs ++ (rest ++ left))
unfolding further_word_at
dims_go_on zero pairs rest left x y =
    let whole : pairs ++ (rest ++ left) ≡ y.front ++ (y.rest ++ left) =
    ap (λ l. l ++ (rest ++ left)) x ∙ regroup y left in
    subst GoesOn (sym whole) (record {
      further = bind_is (λ dot. word_at dot.1)
          (sign_again sign.Dot y.front (y.rest ++ left) y.before)
          (word_missing y.rest left y.after);
      goes = ap (λ b. comes sign.LeftBracket (y.front ++ (y.rest ++ left)) || b)
          (comes_this sign.Dot y.front (y.rest ++ left) y.before)
          ∙ or-true (comes sign.LeftBracket (y.front ++ (y.rest ++ left)));
    })
dims_go_on (suc k) pairs rest left x y =
    let whole : pairs ++ (rest ++ left) ≡ x.front ++ (x.rest ++ (rest ++ left)) =
    regroup x (rest ++ left) in
    subst GoesOn (sym whole) (record {
      further = further_missing (x.front ++ (x.rest ++ (rest ++ left)))
          (comes_other sign.Dot (part.Opening pair.Brackets) x.front
          (x.rest ++ (rest ++ left)) x.before refl);
      goes = ap (λ b. b || comes sign.Dot (x.front ++ (x.rest ++ (rest ++ left))))
          (comes_this sign.LeftBracket x.front (x.rest ++ (rest ++ left)) x.before);
    })

pub first_word : (words : List (List ℕ)) (text left : List Mark) → QName words text → (p : Part)
    × IsWordPart p × (front_part (text ++ left) ≡ Some p)
first_word [] text left x = absurd x
first_word (w ∷ words) text left x =
    let y = to_row Dot Word w words text x in
    let word = y.before in (
      part_of word.token,
      word_is word.token w word.word,
      ap (λ l. front_part (l ++ left)) (y.whole ∙ ap (λ l. l ++ y.rest) word.whole),
    )

base_again : (nested : Nested) (n k : ℕ) (element : TypeTree) (layer : TypeLayer)
    (base pairs rest left : List Mark)
    → roll-TypeTree layer ≡ element
    → PlainBase layer base → BracketPairs k pairs → DotClass rest
    → length base + length pairs ≤ suc n
    → unary_over nested n (base ++ (pairs ++ (rest ++ left)))
    ≡ found (expr.ClassLit (with_dims element k)) left
unfolding primitive_class_at named_at behind_name
base_again nested n k element (TypeTree-F.Primitive p) base pairs rest left is b x y few =
    let behind = pairs ++ (rest ++ left) in
    let r = part_read (part.Primitive p) base behind b in
    let one : length base ≡ 1 = ap length r.1 in
    let fewer : length pairs ≤ n = omega arith in
    let of : tree.Primitive p ≡ element = sym (tree.rolls-Primitive p) ∙ is in
    unary_is nested n (part.Primitive p) (base ++ behind) _ r.3 refl
    (bind_is (λ token. class_literal_at (tree.Primitive p) n token.1) r.2
    (class_again n k (tree.Primitive p) pairs rest left x y fewer
    ∙ ap (λ t. found (expr.ClassLit (with_dims t k)) left) of))
base_again nested n k element (TypeTree-F.Named line parts) base pairs rest left is b x y few =
    let behind = pairs ++ (rest ++ left) in
    let w = type_words line parts base b in
    let g = dims_go_on k pairs rest left x y in
    let f = first_word w.words base behind w.named in
    let some : 1 ≤ length base = word_length w.words base w.named in
    let short : length base ≤ suc n = omega arith in
    let fewer : length pairs ≤ n = omega arith in
    let type = plain_type (front_line (base ++ behind)) w.words in
    let of : type ≡ element =
    ap (λ l. tree.Named l (map plain_part w.words)) (w.on behind)
    ∙ ap (λ ps. tree.Named line ps) (sym w.are) ∙ sym (tree.rolls-Named line parts) ∙ is in
    named_is nested n f.0 (base ++ behind) _ f.1 f.2
    (bind_is (λ words. behind_name (front_line (base ++ behind)) words.0 n words.1)
    (qname_again n w.words base behind w.named short g.further)
    (ap (λ c. if c then class_literal_at type n behind else found
    (expr.Name w.words) behind) g.goes
    ∙ class_again n k type pairs rest left x y fewer
    ∙ ap (λ t. found (expr.ClassLit (with_dims t k)) left) of))
  where
    word_length : (words : List (List ℕ)) (text : List Mark) → QName words text
        → 1 ≤ length text
    word_length [] text x = absurd x
    word_length (w ∷ words) text x =
        let y = to_row Dot Word w words text x in
        let e = ap length y.before.whole in
        let l = both_lengths y in
        omega arith
base_again nested n k element TypeTree-F.Void base pairs rest left is b x y few = absurd b
base_again nested n k element (TypeTree-F.Array e d) base pairs rest left is b x y few = absurd b

void_again : (nested : Nested) (n : ℕ) (text rest left : List Mark) → Is part.Void text
    → DotClass rest
    → unary_over nested n (text ++ (rest ++ left)) ≡ found (expr.ClassLit tree.Void) left
unfolding void_class_at
void_again nested n text rest left x y =
    let r = part_read part.Void text (rest ++ left) x in
    let more : List Mark → Read Expr = λ l. sign_at sign.Dot l >>= λ dot.
    sign_at sign.Class dot.1 >>= λ word. found (expr.ClassLit tree.Void) word.1 in
    unary_is nested n part.Void (text ++ (rest ++ left)) _ r.3 refl
    (bind_is (λ token. more token.1) r.2
    (ap more (regroup y left)
    ∙ bind_is (λ dot. sign_at sign.Class dot.1 >>= λ word. found (expr.ClassLit tree.Void) word.1)
    (sign_again sign.Dot y.front (y.rest ++ left) y.before)
    (bind_is (λ word. found (expr.ClassLit tree.Void) word.1)
    (sign_again sign.Class y.rest left y.after) refl)))

pub type_again : (nested : Nested) (n : ℕ) (type : TypeTree) (layer : TypeLayer)
    (text rest left : List Mark)
    → roll-TypeTree layer ≡ type → LiteralType layer text → DotClass rest
    → length text ≤ suc n
    → unary_over nested n (text ++ (rest ++ left)) ≡ found (expr.ClassLit type) left
type_again nested n type TypeTree-F.Void text rest left is x y few =
    void_again nested n text rest left x y
    ∙ ap (λ t. found (expr.ClassLit t) left) (sym tree.rolls-Void ∙ is)
type_again nested n type (TypeTree-F.Primitive p) text rest left is x y few =
    let fits : length text + 0 ≤ suc n = omega arith in
    base_again nested n 0 type (TypeTree-F.Primitive p) text [] rest left is x refl y fits
type_again nested n type (TypeTree-F.Named line parts) text rest left is x y few =
    let fits : length text + 0 ≤ suc n = omega arith in
    base_again nested n 0 type (TypeTree-F.Named line parts) text [] rest left is x refl y fits
type_again nested n type (TypeTree-F.Array element zero) text rest left is x y few = absurd x
type_again nested n type (TypeTree-F.Array element (suc k)) text rest left is x y few =
    let l = both_lengths x in
    let fits : length x.front + length x.rest ≤ suc n = omega arith in
    let of : tree.Array element (suc k) ≡ type = sym (tree.rolls-Array element (suc k)) ∙ is in
    ap (unary_over nested n) (regroup x (rest ++ left))
    ∙ base_again nested n (suc k) element (out-TypeTree element) x.front x.rest rest left
    (roll-out-TypeTree element) x.before x.after y fits
    ∙ ap (λ t. found (expr.ClassLit t) left) of

-- ---- literals and names

pub literal_again : (nested : Nested) (n : ℕ) (l : Lit) (text left : List Mark) → Literal l text
    → unary_over nested n (text ++ left) ≡ found (expr.Lit l) left
unfolding literal_at
literal_again nested n l text left x =
    let r = literal_read l x.token x.is in
    unary_is nested n part.Literal (text ++ left) _
    (ap (λ l. front_part (l ++ left)) x.whole ∙ ap Some r.1) refl
    (ap (λ l. literal_at (l ++ left)) x.whole
    ∙ ap (λ o. o >>= λ l. found (expr.Lit l) left) r.0)

pub no_dot : (left : List Mark) → goes_on left ≡ false → comes sign.Dot left ≡ false
no_dot left e = by (comes sign.LeftBracket left) (comes sign.Dot left) e
  where
    by : (a b : Bool) → (a || b) ≡ false → b ≡ false
    by true b e = absurd (cc)
    by false b e = e

pub name_again : (nested : Nested) (n : ℕ) (words : List (List ℕ)) (text left : List Mark)
    → QName words text → length text ≤ suc n → goes_on left ≡ false
    → unary_over nested n (text ++ left) ≡ found (expr.Name words) left
unfolding named_at behind_name
name_again nested n words text left x few e =
    let f = first_word words text left x in
    let line = front_line (text ++ left) in
    named_is nested n f.0 (text ++ left) _ f.1 f.2
    (bind_is (λ w. behind_name line w.0 n w.1)
    (qname_again n words text left x few (further_missing left (no_dot left e)))
    (ap (λ c. if c then class_literal_at (plain_type line words) n left
    else found (expr.Name words) left) e))
