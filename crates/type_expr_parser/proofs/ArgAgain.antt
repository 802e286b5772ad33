-- What is spelled as type arguments is read, and annotations and dimensions before other things.
use Rattle.std.proofs.Common.{◌≡◌, refl, sym, ◌∙◌, ap, subst, ℕ, zero, suc, ◌≤◌, arith}
use Rattle.std.proofs.Common.{true, false, List, [], ◌∷◌, ◌++◌, length, append_assoc}
use Rattle.std.proofs.Common.{Some, None, length-append}
use Rattle.std.specs.Prelude.{if◌then◌else◌}
use Rattle.java_token.specs.declared.token.Token.{Token}
use Rattle.java_ast.specs.declared.types.TypeTree.{TypeTree, out-TypeTree}
use Rattle.java_ast.specs.declared.types.NamePart.{NamePart}
use Rattle.java_ast.specs.declared.types.ArgTree.{ArgTree, out-ArgTree}
use Rattle.java_ast.specs.declared.types.ArgTree.TheVariants as arg
use Rattle.java_ast.specs.declared.types.Primitive.{Primitive}
use Rattle.java_ast.specs.declared.types.ArgTree.TheOpen.{TypeTree-F, ArgTree-F}
use Rattle.java_ast.specs.declared.types.ArgTree.TheViews.{roll-ArgTree, roll-out-ArgTree}
use Rattle.java_ast.specs.declared.annotation.AnnTree.{AnnTree, out-AnnTree}
use Rattle.java_grammar.specs.declared.part.Part.{Part}
use Rattle.java_grammar.specs.declared.part.Part.TheVariants as part
use Rattle.java_grammar.specs.declared.part.Pair.TheVariants as pair
use Rattle.java_grammar.specs.Parts.{part_of}
use Rattle.java_grammar.specs.Marks.{Mark, Single, Line}
use Rattle.java_grammar.specs.Words.{◌⨾◌, Row, Is}
use Rattle.java_grammar.specs.Words.{ClosingAngle, Comma, PerhapsCommas}
use Rattle.java_grammar.specs.Reading.{is_angle, behind_mark}
use Rattle.java_grammar.specs.Expressions.{TypeLayer}
use Rattle.java_grammar.specs.Annotations.{AnnSpells, AnyAnns}
use Rattle.java_grammar.specs.Types.{ArgLayer, Dims, is_primitive, Reference, ArgLine}
use Rattle.java_grammar.specs.Types.{Args, NamedLine}
use Rattle.java_grammar.specs.Types.{BaseLine, BareLine, TypeWithin}
use Rattle.java_grammar.specs.declared.sign.Sign.{Sign}
use Rattle.java_grammar.specs.declared.sign.Sign.TheVariants as sign
use Rattle.java_grammar.specs.Signs.{sign_is, sign_part}
use Rattle.type_expr_parser.specs.Reading.{Read, found, ◌>>=◌, step, prepended, many, many_count}
use Rattle.type_expr_parser.specs.Reading.{comes, sign_at}
use Rattle.type_expr_parser.specs.Annotations.{annotation_over, annotation_at, behind_annotations}
use Rattle.type_expr_parser.specs.Types.{Inner, reference_over, extending, super_of, bound_over}
use Rattle.type_expr_parser.specs.Types.{wildcard_over, exact_over, arg_over, further_arg_over}
use Rattle.type_expr_parser.specs.Types.{arg_list_over, args_over}
use Rattle.type_expr_parser.specs.Types.{dimension_at}
use Rattle.type_expr_parser.proofs.Lines.{bind_is, regroup, both_lengths, to_row, behind_is}
use Rattle.type_expr_parser.proofs.Lines.{none_bound, none_come, Rows, many_again}
use Rattle.type_expr_parser.proofs.TokenLaws.{sign_again, sign_missing}
use Rattle.type_expr_parser.proofs.TokenLaws.{on_any_line}
use Rattle.type_expr_parser.proofs.NameLaws.{further_missing}
use Rattle.type_expr_parser.proofs.TokenKinds.{IsWordPart, plain, «sealed», word_is}
use Rattle.type_expr_parser.proofs.ExprTakes.{count_is}
use Rattle.type_expr_parser.proofs.ExprAgain.{comes_other, comes_this}
use Rattle.type_expr_parser.proofs.AnnAgain.{annotation_again}
use Rattle.type_expr_parser.specs.Follows.{AnnEnds, TypeEnds}
use Rattle.type_expr_parser.proofs.TypeTakes.{Dimension}

-- ---- annotations before something

no_annotation : (n : ℕ) (text : List Mark) → comes sign.At text ≡ false
    → annotation_at n text ≡ None
unfolding annotation_at annotation_over
no_annotation n text e = none_bound _ (sign_missing sign.At text e)

pub no_annotations : (n : ℕ) (text : List Mark) → comes sign.At text ≡ false
    → behind_annotations n text ≡ text
no_annotations n text e =
    behind_is (annotation_at n) n text
    ∙ ap (λ (r : List AnnTree × List Mark). r.1)
    (none_come (annotation_at n) n text (no_annotation n text e))

annotation_some : (a : AnnTree) (text : List Mark) → AnnSpells a text → 1 ≤ length text
annotation_some a text x =
    let e = ap length x.1.before.whole in
    let l = both_lengths x.1 in
    omega arith

annotation_ends : (a : AnnTree) (text left : List Mark) → AnnSpells a text → AnnEnds (text ++ left)
annotation_ends a text left x =
    let at = on_any_line (out-AnnTree a).line part.At x.1.front x.1.before in
    subst AnnEnds (sym (regroup x.1 left)) (record {
      word = further_missing (x.1.front ++ (x.1.rest ++ left))
          (comes_other sign.Dot part.At x.1.front (x.1.rest ++ left) at refl);
      group = comes_other sign.LeftParenthesis part.At x.1.front (x.1.rest ++ left) at refl;
    })

annotation_rows : (n : ℕ) → Rows (annotation_at n) AnnSpells AnnEnds (suc n)
annotation_rows n = record {
  again = λ a text left x few ends. annotation_again n a text left x few ends;
  next = λ a text left x. annotation_ends a text left x;
  some = λ a text x. annotation_some a text x;
}

pub annotations_again : (n : ℕ) (text left : List Mark) → AnyAnns text → length text ≤ n
    → AnnEnds left → comes sign.At left ≡ false
    → behind_annotations n (text ++ left) ≡ left
annotations_again n text left x few ends absent =
    let within : n ≤ suc n = omega arith in
    behind_is (annotation_at n) n (text ++ left)
    ∙ ap (λ (r : List AnnTree × List Mark). r.1)
    (many_again (annotation_rows n) n x.0 text left x.1 few within ends
    (no_annotation n left absent))

-- ---- what comes next, by its part

-- what stands behind annotations here: a word, a primitive type, `[` or `?`
pub record Comes (p : Part) (text : List Mark) : Type 0 where
  pub token : Token
  pub rest : List Mark
  pub whole : text ≡ Single token ∷ rest
  pub part : part_of token ≡ p

pub is_comes : (p : Part) (text left : List Mark) → Is p text → Comes p (text ++ left)
is_comes p text left x = record {
  token = x.token;
  rest = left;
  whole = ap (λ l. l ++ left) x.whole;
  part = x.part;
}

pub comes_no : (s : Sign) (p : Part) (text : List Mark) → Comes p text → sign_is s p ≡ false
    → comes s text ≡ false
comes_no s p text x e = ap (comes s) x.whole ∙ ap (sign_is s) x.part ∙ e

-- no annotation goes on with it
ann_ends_at : (p : Part) (text : List Mark) → Comes p text → sign_is sign.Dot p ≡ false
    → sign_is sign.LeftParenthesis p ≡ false → AnnEnds text
ann_ends_at p text x dot group = record {
  word = further_missing text (comes_no sign.Dot p text x dot);
  group = comes_no sign.LeftParenthesis p text x group;
}

pub annotations_before : (n : ℕ) (p : Part) (text left : List Mark) → AnyAnns text
    → length text ≤ n
    → Comes p left → sign_is sign.Dot p ≡ false → sign_is sign.LeftParenthesis p ≡ false
    → sign_is sign.At p ≡ false
    → behind_annotations n (text ++ left) ≡ left
annotations_before n p text left x few c dot group at =
    annotations_again n text left x few (ann_ends_at p left c dot group)
    (comes_no sign.At p left c at)

-- ---- behind a type

pub no_dimension : (n : ℕ) (text : List Mark) → comes sign.At text ≡ false
    → comes sign.LeftBracket text ≡ false → dimension_at n text ≡ None
unfolding dimension_at
no_dimension n text at bracket =
    ap (λ l. sign_at sign.LeftBracket l >>= λ opening. sign_at sign.RightBracket opening.1)
    (no_annotations n text at)
    ∙ ap (λ r. r >>= λ opening. sign_at sign.RightBracket opening.1)
    (sign_missing sign.LeftBracket text bracket)

ends_at_comma : (text left : List Mark) → Is part.Comma text → TypeEnds (text ++ left)
ends_at_comma text left x =
    let c = is_comes part.Comma text left x in
    record {
      args = comes_no sign.Less part.Comma (text ++ left) c refl;
      part = comes_no sign.Dot part.Comma (text ++ left) c refl;
      dims = λ n. no_dimension n (text ++ left)
          (comes_no sign.At part.Comma (text ++ left) c refl)
          (comes_no sign.LeftBracket part.Comma (text ++ left) c refl);
    }

pub angle_no : (s : Sign) (text left : List Mark) → ClosingAngle text
    → comes s (text ++ left) ≡ false
angle_no s text left x = ap (λ l. comes s (l ++ left)) x.1

ends_at_angle : (text left : List Mark) → ClosingAngle text → TypeEnds (text ++ left)
ends_at_angle text left x = record {
  args = angle_no sign.Less text left x;
  part = angle_no sign.Dot text left x;
  dims = λ n. no_dimension n (text ++ left) (angle_no sign.At text left x)
      (angle_no sign.LeftBracket text left x);
}

-- ---- with what a type begins behind its annotations

pub data BeginsType : Part → Type 0 where
  begins_primitive : (p : Primitive) → BeginsType (part.Primitive p)
  begins_word : (p : Part) → IsWordPart p → BeginsType p

pub record Bare (text : List Mark) : Type 0 where
  pub first : Part
  pub is : BeginsType first
  pub next : (left : List Mark) → Comes first (text ++ left)

named_bare : (Spells : TypeTree → Line) (line : ℕ) (parts : List NamePart) (text : List Mark)
    → NamedLine Spells line parts text → Bare text
named_bare Spells line [] text x = absurd x
named_bare Spells line (p ∷ parts) text x =
    let w = x.1.before in
    record {
      first = part_of w.token;
      is = begins_word (part_of w.token) (word_is w.token _ w.word);
      next = λ left. record {
        token = w.token;
        rest = x.1.rest ++ left;
        whole = regroup x.1 left ∙ ap (λ l. l ++ (x.1.rest ++ left)) w.whole;
        part = refl;
      };
    }

pub base_bare : (Spells : TypeTree → Line) (layer : TypeLayer) (text : List Mark)
    → BaseLine Spells layer text → Bare text
base_bare Spells TypeTree-F.Void text x = absurd x
base_bare Spells (TypeTree-F.Primitive p) text x = record {
  first = part.Primitive p;
  is = begins_primitive p;
  next = λ left. is_comes (part.Primitive p) text left x;
}
base_bare Spells (TypeTree-F.Named line parts) text x = named_bare Spells line parts text x
base_bare Spells (TypeTree-F.Array element dims) text x = absurd x

front_bare : {a b : Line} {text : List Mark} (x : (a ⨾ b) text) → Bare x.front → Bare text
front_bare x y = record {
  first = y.first;
  is = y.is;
  next = λ left. subst (Comes y.first) (sym (regroup x left)) (y.next (x.rest ++ left));
}

pub bare_begins : (Spells : TypeTree → Line) (layer : TypeLayer) (text : List Mark)
    → BareLine Spells layer text → Bare text
bare_begins Spells TypeTree-F.Void text x = absurd x
bare_begins Spells (TypeTree-F.Primitive p) text x = base_bare Spells
    (TypeTree-F.Primitive p) text x
bare_begins Spells (TypeTree-F.Named line parts) text x = named_bare Spells line parts text x
bare_begins Spells (TypeTree-F.Array element zero) text x = absurd x
bare_begins Spells (TypeTree-F.Array element (suc n)) text x =
    front_bare x (base_bare Spells (out-TypeTree element) x.front x.before)

-- none of these signs
pub type_sign : (p : Part) → BeginsType p → (sign_is sign.Dot p ≡ false)
    × (sign_is sign.LeftParenthesis p ≡ false) × (sign_is sign.At p ≡ false)
    × (sign_is sign.Question p ≡ false)
type_sign p (begins_primitive q) = (refl, refl, refl, refl)
type_sign p (begins_word q plain) = (refl, refl, refl, refl)
type_sign p (begins_word q «sealed») = (refl, refl, refl, refl)

-- annotations before a type without them
pub before_bare : (n : ℕ) (text bare left : List Mark) → AnyAnns text → length text ≤ n → Bare bare
    → behind_annotations n (text ++ (bare ++ left)) ≡ bare ++ left
before_bare n text bare left x few b =
    let s = type_sign b.first b.is in
    annotations_before n b.first text (bare ++ left) x few (b.next left) s.0 s.1 s.2

-- ---- dimensions

abbrev pub units : ℕ → List (Unit {0})
units zero = []
units (suc n) = tt ∷ units n

pub units_length : (n : ℕ) → length (units n) ≡ n
units_length zero = refl
units_length (suc n) = ap suc (units_length n)

pub dims_row : (n : ℕ) (text : List Mark) → Dims n text → Row Dimension (units n) text
dims_row zero text x = x
dims_row (suc n) text x = record {
  front = x.front ++ (x.after.front ++ x.after.after.front);
  rest = x.after.after.rest;
  whole = x.whole ∙ ap (λ l. x.front ++ l) (x.after.whole
      ∙ ap (λ l. x.after.front ++ l) x.after.after.whole
      ∙ sym (append_assoc x.after.front x.after.after.front x.after.after.rest))
      ∙ sym (append_assoc x.front (x.after.front ++ x.after.after.front) x.after.after.rest);
  before = record {
    front = x.front;
    rest = x.after.front ++ x.after.after.front;
    whole = refl;
    before = x.before;
    after = record {
      front = x.after.front;
      rest = x.after.after.front;
      whole = refl;
      before = x.after.before;
      after = x.after.after.before;
    };
  };
  after = dims_row n x.after.after.rest x.after.after.after;
}

dimension_again : (n : ℕ) (none : Unit {0}) (text left : List Mark) → Dimension none text
    → length text ≤ n → dimension_at n (text ++ left) ≡ found none left
unfolding dimension_at
dimension_again n none text left x few =
    let y = x.after in
    let l = both_lengths x in
    let fits : length x.front ≤ n = omega arith in
    let behind = y.front ++ (y.rest ++ left) in
    let whole : text ++ left ≡ x.front ++ behind =
    regroup x left ∙ ap (λ l. x.front ++ l) (regroup y left) in
    let c = is_comes (part.Opening pair.Brackets) y.front (y.rest ++ left) y.before in
    let read = λ (l : List Mark). (sign_at sign.LeftBracket l >>= λ opening.
    sign_at sign.RightBracket opening.1) in
    ap (λ l. read (behind_annotations n l)) whole
    ∙ ap read (annotations_before n (part.Opening pair.Brackets) x.front behind x.before fits c
    refl refl refl)
    ∙ bind_is (λ opening. sign_at sign.RightBracket opening.1)
    (sign_again sign.LeftBracket y.front (y.rest ++ left) y.before)
    (sign_again sign.RightBracket y.rest left y.after)

dimension_some : (none : Unit {0}) (text : List Mark) → Dimension none text → 1 ≤ length text
dimension_some none text x =
    let a = ap length x.after.before.whole in
    let b = both_lengths x.after in
    let c = both_lengths x in
    omega arith

pub dimension_rows : (n : ℕ) → Rows (dimension_at n) Dimension (λ left. Unit {0}) n
dimension_rows n = record {
  again = λ none text left x few f. dimension_again n none text left x few;
  next = λ none text left x. tt;
  some = dimension_some;
}

pub dims_again : (n k : ℕ) (text left : List Mark) → Dims k text → length text ≤ n
    → dimension_at n left ≡ None
    → many_count (dimension_at n) n (text ++ left) ≡ (k, left)
dims_again n k text left x few none =
    let same : n ≤ n = omega arith in
    count_is (dimension_at n) n (text ++ left)
    ∙ ap (λ (r : List (Unit {0}) × List Mark). (length r.0, r.1))
    (many_again (dimension_rows n) n (units k) text left (dims_row k text x) few same tt none)
    ∙ ap (λ c. (c, left)) (units_length k)

-- ---- types inside

-- how they are read
pub record Complete (most : ℕ) (inner : Inner) : Type 0 where
  pub reads : (m : ℕ) (t : TypeTree) (text left : List Mark) → TypeWithin m t text
      → length text ≤ most → TypeEnds left → inner (text ++ left) ≡ found t left
  pub refuses : (text left : List Mark) → ClosingAngle text → inner (text ++ left) ≡ None

-- the annotations before a type, and the type without them
pub type_parts : (m : ℕ) (t : TypeTree) (text : List Mark) → TypeWithin m t text
    → (before : List Mark) × (bare : List Mark) × (text ≡ before ++ bare) × AnyAnns before
    × Bare bare
unfolding TypeWithin
type_parts zero t text x = absurd x
type_parts (suc m) t text x = (
  x.front,
  x.rest,
  x.whole,
  x.before,
  bare_begins (TypeWithin m) (out-TypeTree t) x.rest x.after,
)

-- ---- type arguments

reference_again : (most : ℕ) (inner : Inner) → Complete most inner → (m : ℕ) (t : TypeTree)
    (text left : List Mark) → Reference (TypeWithin m) t text → length text ≤ most → TypeEnds left
    → reference_over inner (text ++ left) ≡ found t left
unfolding reference_over
reference_again most inner law m t text left x few ends =
    bind_is (λ type. if is_primitive (out-TypeTree type.0) then None else Some type)
    (law.reads m t text left x.1 few ends)
    (ap (λ b. if b then None else found t left) x.0)

exact_again : (n : ℕ) (inner : Inner) → Complete n inner → (m : ℕ) (t : TypeTree)
    (text left : List Mark) → Reference (TypeWithin m) t text → length text ≤ n → TypeEnds left
    → arg_over inner n (text ++ left) ≡ found (arg.Exact t) left
unfolding arg_over
exact_again n inner law m t text left x few ends =
    let whole = text ++ left in
    let p = type_parts m t text x.1 in
    let s = type_sign p.4.first p.4.is in
    let regrouped : whole ≡ p.0 ++ (p.1 ++ left) =
    ap (λ l. l ++ left) p.2 ∙ append_assoc p.0 p.1 left in
    let size = ap length p.2 ∙ length-append p.0 p.1 in
    let fits : length p.0 ≤ n = omega arith in
    let behind : behind_annotations n whole ≡ p.1 ++ left =
    ap (behind_annotations n) regrouped ∙ before_bare n p.0 p.1 left p.3 fits p.4 in
    let absent : comes sign.Question (behind_annotations n whole) ≡ false =
    ap (comes sign.Question) behind
    ∙ comes_no sign.Question p.4.first (p.1 ++ left) (p.4.next left) s.3 in
    ap (λ b. if b then wildcard_over inner (behind_annotations n whole) else exact_over inner
    whole) absent
    ∙ bind_is (λ type. found (arg.Exact type.0) type.1)
    (reference_again n inner law m t text left x few ends) refl

-- `?` behind annotations, and what is behind it
wildcard_again : (n : ℕ) (inner : Inner) (anns question left : List Mark) (r : Read ArgTree)
    → AnyAnns anns → length anns ≤ n → Is part.Question question
    → bound_over inner left ≡ r
    → arg_over inner n (anns ++ (question ++ left)) ≡ r
unfolding arg_over wildcard_over
wildcard_again n inner anns question left r x few q h =
    let behind = question ++ left in
    let whole = anns ++ behind in
    let c = is_comes part.Question question left q in
    let is : behind_annotations n whole ≡ behind =
    annotations_before n part.Question anns behind x few c refl refl refl in
    let yes : comes sign.Question (behind_annotations n whole) ≡ true =
    ap (comes sign.Question) is ∙ comes_this sign.Question question left q in
    ap (λ b. if b then wildcard_over inner (behind_annotations n whole) else exact_over inner
    whole) yes
    ∙ ap (wildcard_over inner) is
    ∙ bind_is (λ question. bound_over inner question.1)
    (sign_again sign.Question question left q) h

bound_again : (most : ℕ) (inner : Inner) → Complete most inner → (m : ℕ) (t : TypeTree)
    (s : Sign) (make : TypeTree → ArgTree) (sign type left : List Mark)
    → Is (sign_part s) sign → Reference (TypeWithin m) t type → length type ≤ most → TypeEnds left
    → (reference_over inner (behind_mark (sign ++ (type ++ left))) >>= λ u. found (make u.0) u.1)
    ≡ found (make t) left
bound_again most inner law m t s make sign type left x y few ends =
    let behind : behind_mark (sign ++ (type ++ left)) ≡ type ++ left =
    ap (λ l. behind_mark (l ++ (type ++ left))) x.whole in
    ap (λ l. reference_over inner l >>= λ u. found (make u.0) u.1) behind
    ∙ bind_is (λ u. found (make u.0) u.1)
    (reference_again most inner law m t type left y few ends) refl

arg_layer_again : (n : ℕ) (inner : Inner) → Complete n inner → (m : ℕ) (a : ArgTree)
    (layer : ArgLayer) (text left : List Mark)
    → roll-ArgTree layer ≡ a → ArgLine (TypeWithin m) layer text → length text ≤ n → TypeEnds left
    → comes sign.Extends left ≡ false → comes sign.Super left ≡ false
    → arg_over inner n (text ++ left) ≡ found a left
arg_layer_again n inner law m a (ArgTree-F.Exact t) text left is x few ends no_e no_s =
    exact_again n inner law m t text left x few ends
    ∙ ap (λ b. found b left) (sym (arg.rolls-Exact t) ∙ is)
arg_layer_again n inner law m a (ArgTree-F.Extends t) text left is x few ends no_e no_s =
    let y = x.after in
    let z = y.after in
    let l = both_lengths x in
    let k = both_lengths y in
    let j = both_lengths z in
    let fits : length x.front ≤ n = omega arith in
    let short : length z.rest ≤ n = omega arith in
    let behind = z.front ++ (z.rest ++ left) in
    let whole : text ++ left ≡ x.front ++ (y.front ++ behind) =
    regroup x left ∙ ap (λ l. x.front ++ l)
    (regroup y left ∙ ap (λ l. y.front ++ l) (regroup z left)) in
    ap (arg_over inner n) whole
    ∙ wildcard_again n inner x.front y.front behind _ x.before fits y.before
    (ap (λ b. if b then extending inner (behind_mark behind)
    else (if comes sign.Super behind then super_of inner (behind_mark behind)
    else found arg.Any behind))
    (comes_this sign.Extends z.front (z.rest ++ left) z.before)
    ∙ bound_again n inner law m t sign.Extends arg.Extends z.front z.rest left z.before z.after
    short
    ends
    ∙ ap (λ b. found b left) (sym (arg.rolls-Extends t) ∙ is))
arg_layer_again n inner law m a (ArgTree-F.Super t) text left is x few ends no_e no_s =
    let y = x.after in
    let z = y.after in
    let l = both_lengths x in
    let k = both_lengths y in
    let j = both_lengths z in
    let fits : length x.front ≤ n = omega arith in
    let short : length z.rest ≤ n = omega arith in
    let behind = z.front ++ (z.rest ++ left) in
    let whole : text ++ left ≡ x.front ++ (y.front ++ behind) =
    regroup x left ∙ ap (λ l. x.front ++ l)
    (regroup y left ∙ ap (λ l. y.front ++ l) (regroup z left)) in
    ap (arg_over inner n) whole
    ∙ wildcard_again n inner x.front y.front behind _ x.before fits y.before
    (ap (λ b. if b then extending inner (behind_mark behind)
    else (if comes sign.Super behind then super_of inner (behind_mark behind)
    else found arg.Any behind))
    (comes_other sign.Extends part.Super z.front (z.rest ++ left) z.before refl)
    ∙ ap (λ b. if b then super_of inner (behind_mark behind) else found arg.Any behind)
    (comes_this sign.Super z.front (z.rest ++ left) z.before)
    ∙ bound_again n inner law m t sign.Super arg.Super z.front z.rest left z.before z.after
    short ends
    ∙ ap (λ b. found b left) (sym (arg.rolls-Super t) ∙ is))
arg_layer_again n inner law m a ArgTree-F.Any text left is x few ends no_e no_s =
    let l = both_lengths x in
    let fits : length x.front ≤ n = omega arith in
    ap (arg_over inner n) (regroup x left)
    ∙ wildcard_again n inner x.front x.rest left _ x.before fits x.after
    (ap (λ b. if b then extending inner (behind_mark left)
    else (if comes sign.Super left then super_of inner (behind_mark left)
    else found arg.Any left)) no_e
    ∙ ap (λ b. if b then super_of inner (behind_mark left) else found arg.Any left) no_s
    ∙ ap (λ b. found b left) (sym arg.rolls-Any ∙ is))

-- what may follow a type argument
pub record ArgEnds (left : List Mark) : Type 0 where
  pub type : TypeEnds left
  pub extends : comes sign.Extends left ≡ false
  pub super_ : comes sign.Super left ≡ false

arg_ends_comma : {b : Line} {text : List Mark} (x : (Comma ⨾ b) text) (left : List Mark)
    → ArgEnds (text ++ left)
arg_ends_comma x left = subst ArgEnds (sym (regroup x left)) (record {
  type = ends_at_comma x.front (x.rest ++ left) x.before;
  extends = comes_other sign.Extends part.Comma x.front (x.rest ++ left) x.before refl;
  super_ = comes_other sign.Super part.Comma x.front (x.rest ++ left) x.before refl;
})

arg_ends_angle : (text left : List Mark) → ClosingAngle text → ArgEnds (text ++ left)
arg_ends_angle text left x = record {
  type = ends_at_angle text left x;
  extends = angle_no sign.Extends text left x;
  super_ = angle_no sign.Super text left x;
}

abbrev ArgSpells : ℕ → ArgTree → Line
ArgSpells m a = ArgLine (TypeWithin m) (out-ArgTree a)

arg_again : (n : ℕ) (inner : Inner) → Complete n inner → (m : ℕ) (a : ArgTree)
    (text left : List Mark) → ArgSpells m a text → length text ≤ n → ArgEnds left
    → arg_over inner n (text ++ left) ≡ found a left
arg_again n inner law m a text left x few ends =
    arg_layer_again n inner law m a (out-ArgTree a) text left (roll-out-ArgTree a) x few ends.type
    ends.extends ends.super_

comma_some : {b : Line} {text : List Mark} (x : (Comma ⨾ b) text) → 1 ≤ length text
comma_some x =
    let a = ap length x.before.whole in
    let b = both_lengths x in
    omega arith

further_arg_again : (n : ℕ) (inner : Inner) → Complete n inner → (m : ℕ) (a : ArgTree)
    (text left : List Mark) → (Comma ⨾ ArgSpells m a) text → length text ≤ n → ArgEnds left
    → further_arg_over inner n (text ++ left) ≡ found a left
unfolding further_arg_over
further_arg_again n inner law m a text left x few ends =
    let l = both_lengths x in
    let fits : length x.rest ≤ n = omega arith in
    ap (further_arg_over inner n) (regroup x left)
    ∙ bind_is (λ comma. arg_over inner n comma.1)
    (sign_again sign.Comma x.front (x.rest ++ left) x.before)
    (arg_again n inner law m a x.rest left x.after fits ends)

arg_rows : (n : ℕ) (inner : Inner) → Complete n inner → (m : ℕ)
    → Rows (further_arg_over inner n) (λ a. Comma ⨾ ArgSpells m a) ArgEnds n
arg_rows n inner law m = record {
  again = λ a text left x few ends. further_arg_again n inner law m a text left x few ends;
  next = λ a text left x. arg_ends_comma x left;
  some = λ a text x. comma_some x;
}

row_ends : (m : ℕ) (args : List ArgTree) (text left : List Mark)
    → Row (λ a. Comma ⨾ ArgSpells m a) args text → ArgEnds left → ArgEnds (text ++ left)
row_ends m [] text left x ends = subst (λ l. ArgEnds (l ++ left)) (sym x) ends
row_ends m (a ∷ args) text left x ends =
    subst ArgEnds (sym (regroup x left)) (arg_ends_comma x.before (x.rest ++ left))

-- at a closing angle no argument comes
no_arg : (n : ℕ) (inner : Inner) → Complete n inner → (text left : List Mark) → ClosingAngle text
    → (arg_over inner n (text ++ left) ≡ None) × (further_arg_over inner n (text ++ left) ≡ None)
unfolding arg_over further_arg_over reference_over
no_arg n inner law text left x =
    let whole = text ++ left in
    let is : behind_annotations n whole ≡ whole =
    no_annotations n whole (angle_no sign.At text left x) in
    let absent : comes sign.Question (behind_annotations n whole) ≡ false =
    ap (comes sign.Question) is ∙ angle_no sign.Question text left x in (
      ap (λ b. if b then wildcard_over inner (behind_annotations n whole)
          else exact_over inner whole) absent
          ∙ ap (λ r. (r >>= λ type. if is_primitive (out-TypeTree type.0) then None else Some type)
          >>= λ type. found (arg.Exact type.0) type.1) (law.refuses text left x),
      ap (λ r. r >>= λ comma. arg_over inner n comma.1)
          (sign_missing sign.Comma whole (angle_no sign.Comma text left x)),
    )

arg_list_again : (n : ℕ) (inner : Inner) → Complete n inner → (m : ℕ) (args : List ArgTree)
    (text angle left : List Mark)
    → PerhapsCommas (ArgSpells m) args text → ClosingAngle angle → length text ≤ n
    → arg_list_over inner n (text ++ (angle ++ left)) ≡ found args (angle ++ left)
unfolding arg_list_over
arg_list_again n inner law m [] text angle left x a few =
    let behind = angle ++ left in
    ap (λ l. arg_list_over inner n (l ++ behind)) x
    ∙ ap (λ r. step r (found [] behind)
    (λ first rest. Some (prepended (first ∷ []) (many (further_arg_over inner n) n rest))))
    (no_arg n inner law angle left a).0
arg_list_again n inner law m (b ∷ args) text angle left x a few =
    let behind = angle ++ left in
    let ends = arg_ends_angle angle left a in
    let y : (ArgSpells m b ⨾ Row (λ c. Comma ⨾ ArgSpells m c) args) text =
    to_row Comma (ArgSpells m) b args text x in
    let l = both_lengths y in
    let fits : length y.front ≤ n = omega arith in
    let fewer : length y.rest ≤ n = omega arith in
    let within : n ≤ n = omega arith in
    let first = arg_again n inner law m b y.front (y.rest ++ behind) y.before fits
    (row_ends m args y.rest behind y.after ends) in
    ap (arg_list_over inner n) (regroup y behind)
    ∙ ap (λ r. step r (found [] (y.front ++ (y.rest ++ behind)))
    (λ first rest. Some (prepended (first ∷ []) (many (further_arg_over inner n) n rest)))) first
    ∙ ap (λ (r : List ArgTree × List Mark). Some (prepended (b ∷ []) r))
    (many_again (arg_rows n inner law m) n args y.rest behind y.after fewer within ends
    (no_arg n inner law angle left a).1)

pub args_again : (n : ℕ) (inner : Inner) → Complete n inner → (m : ℕ) (args : List ArgTree)
    (text left : List Mark) → Args (TypeWithin m) args text → length text ≤ suc n
    → args_over inner n (text ++ left) ≡ found args left
unfolding args_over
args_again n inner law m args text left x few =
    let y = x.after in
    let a = ap length x.before.whole in
    let l = both_lengths x in
    let k = both_lengths y in
    let fits : length y.front ≤ n = omega arith in
    let behind = y.rest ++ left in
    let whole : text ++ left ≡ x.front ++ (y.front ++ behind) =
    regroup x left ∙ ap (λ l. x.front ++ l) (regroup y left) in
    ap (args_over inner n) whole
    ∙ bind_is (λ opening. arg_list_over inner n opening.1 >>= λ ts.
    if is_angle ts.1 then found ts.0 (behind_mark ts.1) else None)
    (sign_again sign.Less x.front (y.front ++ behind) x.before)
    (bind_is (λ ts. if is_angle ts.1 then found ts.0 (behind_mark ts.1) else None)
    (arg_list_again n inner law m args y.front y.rest left y.before y.after fits)
    (ap (λ l. if is_angle (l ++ left) then found args (behind_mark (l ++ left)) else None)
    y.after.1))
