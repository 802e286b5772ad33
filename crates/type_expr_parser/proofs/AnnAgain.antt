-- What is spelled as an annotation is read, where nothing goes on with it.
use Rattle.std.proofs.Common.{◌≡◌, refl, sym, ◌∙◌, ap, ℕ, zero, suc, ◌≤◌, arith}
use Rattle.std.proofs.Common.{Bool, true, false, List, [], ◌∷◌, ◌++◌, length}
use Rattle.std.proofs.Common.{Option, Some, None, inl, inr}
use Rattle.std.specs.Prelude.{if◌then◌else◌}
use Rattle.std.proofs.lemmas.Bool.{false≢true}
use Rattle.java_token.specs.declared.token.Token.{Token}
use Rattle.java_token.specs.declared.token.TokenKind.{TokenKind}
use Rattle.java_token.specs.declared.token.TokenKind.TheVariants as kind
use Rattle.java_token.specs.declared.keyword.Kw.{Kw}
use Rattle.java_token.specs.declared.keyword.Kw.TheVariants as keyword
use Rattle.java_token.specs.declared.operator.OpTok.{OpTok}
use Rattle.java_token.specs.declared.operator.OpTok.TheVariants as operator
use Rattle.java_ast.specs.declared.annotation.AnnTree.{AnnTree, out-AnnTree}
use Rattle.java_ast.specs.declared.annotation.ElemArg.{ElemArg}
use Rattle.java_ast.specs.declared.annotation.ElemTree.{ElemTree, out-ElemTree}
use Rattle.java_ast.specs.declared.annotation.ElemTree.TheVariants as element
use Rattle.java_ast.specs.declared.annotation.ElemTree.TheOpen.{ElemTree-F}
use Rattle.java_ast.specs.declared.annotation.ElemTree.TheViews.{roll-AnnTree, roll-out-AnnTree}
use Rattle.java_ast.specs.declared.annotation.ElemTree.TheViews.{roll-ElemTree, roll-out-ElemTree}
use Rattle.java_ast.specs.declared.expression.Expr.{Expr}
use Rattle.java_ast.specs.declared.expression.Expr.TheVariants as expr
use Rattle.java_ast.specs.declared.expression.Expr.TheOpen.{Expr-F}
use Rattle.java_grammar.specs.declared.part.Part.{Part}
use Rattle.java_grammar.specs.declared.part.Part.TheVariants as part
use Rattle.java_grammar.specs.declared.part.Pair.TheVariants as pair
use Rattle.java_grammar.specs.Parts.{part_of, kind_part, keyword_part, operator_part}
use Rattle.java_grammar.specs.Tests.{is_word}
use Rattle.java_grammar.specs.Marks.{Mark, Single, Angle, Group, Semi}
use Rattle.java_grammar.specs.Words.{Is}
use Rattle.java_grammar.specs.Reading.{front_part, behind_mark}
use Rattle.java_grammar.specs.Expressions.{conditional, QName, ExprWithin}
use Rattle.java_grammar.specs.Annotations.{ElemLayer}
use Rattle.java_grammar.specs.Annotations.{Elements, AnnLine, ElemLine}
use Rattle.java_grammar.specs.Annotations.{ElemWithin, AnnSpells}
use Rattle.java_grammar.specs.declared.sign.Sign.TheVariants as sign
use Rattle.java_grammar.specs.Signs.{sign_is}
use Rattle.type_expr_parser.specs.Reading.{Read, found, ◌>>=◌, step, front_line}
use Rattle.type_expr_parser.specs.Reading.{comes_by, comes, sign_at}
use Rattle.type_expr_parser.specs.Names.{further_word_at, qname_at}
use Rattle.type_expr_parser.specs.Levels.{prefix_of}
use Rattle.type_expr_parser.specs.Expressions.{nested_at, unprefixed_by}
use Rattle.type_expr_parser.specs.Expressions.{conditional_over, chosen_over, begins_unsigned}
use Rattle.type_expr_parser.specs.Expressions.{is_word_part}
use Rattle.type_expr_parser.specs.Annotations.{Values}
use Rattle.type_expr_parser.specs.Annotations.{list_over}
use Rattle.type_expr_parser.specs.Annotations.{begins_pair}
use Rattle.type_expr_parser.specs.Annotations.{inside_over, elements_over, any_elements_over}
use Rattle.type_expr_parser.specs.Annotations.{annotation_over, value_over, value_at}
use Rattle.type_expr_parser.specs.Annotations.{annotation_at}
use Rattle.type_expr_parser.proofs.Lines.{left_is, bind_is, regroup, both_lengths}
use Rattle.type_expr_parser.proofs.TokenLaws.{sign_again, sign_missing, on_any_line}
use Rattle.type_expr_parser.proofs.NameLaws.{qname_again, further_missing}
use Rattle.type_expr_parser.proofs.Grammar.{of_node}
use Rattle.type_expr_parser.proofs.ExprTakes.{out_name}
use Rattle.type_expr_parser.proofs.Ends.{Begins, begins, ends_at}
use Rattle.type_expr_parser.specs.Follows.{Ends, AnnEnds}
use Rattle.type_expr_parser.proofs.ExprAgain.{comes_other, comes_this, unary_is, no_dot}
use Rattle.type_expr_parser.proofs.ExprComplete.{conditional_again, nested_again, chain_refuses}
use Rattle.type_expr_parser.proofs.ElementAgain.{EndsValue, Complete, value_begins, value_some}
use Rattle.type_expr_parser.proofs.ElementAgain.{operand_signs, list_again, elements_again}
use Rattle.type_expr_parser.proofs.ElementAgain.{ends_comma, ends_parenthesis, ends_brace}

-- ---- annotations

no_elements : (value : Values) (n : ℕ) (left : List Mark) → comes sign.LeftParenthesis left ≡ false
    → any_elements_over value n left ≡ found [] left
unfolding any_elements_over elements_over
no_elements value n left e =
    ap (λ r. step (r >>= λ opening. inside_over value n opening.1 >>= λ inside.
    sign_at sign.RightParenthesis inside.1 >>= λ c. found inside.0 c.1) (found [] left)
    (λ args rest. found args rest)) (sign_missing sign.LeftParenthesis left e)

any_again : (n : ℕ) (value : Values) → Complete n value → (m : ℕ) (args : List ElemArg)
    (text left : List Mark)
    → Elements (ElemWithin m) args text → length text ≤ suc n → AnnEnds left
    → (any_elements_over value n (text ++ left) ≡ found args left)
    × (further_word_at (text ++ left) ≡ None)
unfolding any_elements_over
any_again n value law m args text left (inl x) few ends = (
  ap (λ l. any_elements_over value n (l ++ left)) x.1 ∙ no_elements value n left ends.group
      ∙ ap (λ a. found a left) (sym x.0),
  ap (λ l. further_word_at (l ++ left)) x.1 ∙ ends.word,
)
any_again n value law m args text left (inr x) few ends = (
  ap (λ r. step r (found [] (text ++ left)) (λ args rest. found args rest))
      (elements_again n value law m args text left x few),
  further_missing (text ++ left)
      (ap (comes sign.Dot) (regroup x left)
      ∙ comes_other sign.Dot (part.Opening pair.Parentheses) x.front
      (x.rest ++ left) x.before refl),
)

annotation_node : (n : ℕ) (value : Values) → Complete n value → (m : ℕ) (a : AnnTree)
    (text left : List Mark)
    → AnnLine (ElemWithin m) (out-AnnTree a) text → length text ≤ suc n → AnnEnds left
    → annotation_over value n (text ++ left) ≡ found a left
unfolding annotation_over
annotation_node n value law m a text left x few ends =
    let layer = out-AnnTree a in
    let at = on_any_line layer.line part.At x.front x.before in
    let y = x.after in
    let e = ap length at.whole in
    let l = both_lengths x in
    let k = both_lengths y in
    let fits : length y.front ≤ suc n = omega arith in
    let fewer : length y.rest ≤ suc n = omega arith in
    let r = any_again n value law m layer.args y.rest left y.after fewer ends in
    let behind = y.front ++ (y.rest ++ left) in
    let whole : text ++ left ≡ x.front ++ behind =
    regroup x left ∙ ap (λ l. x.front ++ l) (regroup y left) in
    let line : front_line (x.front ++ behind) ≡ layer.line =
    ap (λ l. front_line (l ++ behind)) x.before.whole ∙ x.before.on in
    let made = λ (line : ℕ) (names : List (List ℕ)) (args : List ElemArg).
    roll-AnnTree (record { line = line; names = names; args = args }) in
    ap (annotation_over value n) whole
    ∙ bind_is (λ at. qname_at n at.1 >>= λ names. any_elements_over value n names.1 >>= λ args.
    found (made (front_line (x.front ++ behind)) names.0 args.0) args.1)
    (sign_again sign.At x.front behind at)
    (bind_is (λ names. any_elements_over value n names.1 >>= λ args.
    found (made (front_line (x.front ++ behind)) names.0 args.0) args.1)
    (qname_again n layer.names y.front (y.rest ++ left) y.before fits r.1)
    (bind_is (λ args. found (made (front_line (x.front ++ behind)) layer.names args.0) args.1) r.0
    (ap (λ v. found (made v layer.names layer.args) left) line
    ∙ ap (λ t. found t left) (roll-out-AnnTree a))))

expression_no_group : (left : List Mark) → Ends 11 left → AnnEnds left
expression_no_group left ends = record {
  word = further_missing left (no_dot left ends.goes);
  group = no_group (front_part left) ends.operand;
}
  where
    part_group : (p : Part) → begins_unsigned (Some p) ≡ false
        → sign_is sign.LeftParenthesis p ≡ false
    part_group (part.Opening pair.Parentheses) e = absurd (false≢true (sym e))
    part_group p e = refl

    no_group : (p : Option Part) → begins_unsigned p ≡ false
        → comes_by sign.LeftParenthesis p ≡ false
    no_group None e = refl
    no_group (Some p) e = part_group p e

-- ---- values

-- what comes tells which kind of value it is
value_is_expression : (value : Values) (n : ℕ) (e : Expr) (text left : List Mark) → Begins text
    → conditional_over (nested_at n) n (text ++ left) ≡ found e left
    → value_over value n (text ++ left) ≡ found (element.Value e) left
unfolding value_over
value_is_expression value n e text left x h =
    let whole = text ++ left in
    let s = operand_signs (part_of x.token) x.begins in
    let no_at : comes sign.At whole ≡ false = ap (λ l. comes sign.At (l ++ left)) x.whole ∙ s.0 in
    let no_brace : comes sign.LeftBrace whole ≡ false =
    ap (λ l. comes sign.LeftBrace (l ++ left)) x.whole ∙ s.1 in
    let read : Read ElemTree = (conditional_over (nested_at n) n whole >>= λ x.
    found (element.Value x.0) x.1) in
    ap (λ b. if b then (annotation_over value n whole >>= λ a. found (element.Ann a.0) a.1)
    else (if comes sign.LeftBrace whole then list_over value n whole else read)) no_at
    ∙ ap (λ b. if b then list_over value n whole else read) no_brace
    ∙ bind_is (λ x. found (element.Value x.0) x.1) h refl

value_is_annotation : (value : Values) (n : ℕ) (a : AnnTree) (text left : List Mark)
    → comes sign.At text ≡ true → annotation_over value n text ≡ found a left
    → value_over value n text ≡ found (element.Ann a) left
unfolding value_over
value_is_annotation value n a text left e h =
    let other : Read ElemTree = (if comes sign.LeftBrace text then list_over value n text
    else (conditional_over (nested_at n) n text >>= λ x. found (element.Value x.0) x.1)) in
    ap (λ b. if b then (annotation_over value n text >>= λ a. found (element.Ann a.0) a.1)
    else other) e
    ∙ bind_is (λ a. found (element.Ann a.0) a.1) h refl

value_is_list : (value : Values) (n : ℕ) (text : List Mark) (r : Read ElemTree)
    → comes sign.At text ≡ false → comes sign.LeftBrace text ≡ true → list_over value n text ≡ r
    → value_over value n text ≡ r
unfolding value_over
value_is_list value n text r e f h =
    let last : Read ElemTree = (conditional_over (nested_at n) n text >>= λ x.
    found (element.Value x.0) x.1) in
    ap (λ b. if b then (annotation_over value n text >>= λ a. found (element.Ann a.0) a.1)
    else (if comes sign.LeftBrace text then list_over value n text else last)) e
    ∙ ap (λ b. if b then list_over value n text else last) f ∙ h

layer_again : (n : ℕ) (value : Values) → Complete n value → (m : ℕ) (e : ElemTree)
    (layer : ElemLayer) (text left : List Mark)
    → roll-ElemTree layer ≡ e → ElemLine (ElemWithin m) layer text → length text ≤ suc n
    → Ends 11 left
    → value_over value n (text ++ left) ≡ found e left
layer_again n value law m e (ElemTree-F.Value x) text left is s few ends =
    value_is_expression value n x text left (begins s.0 conditional x text s.1)
    (conditional_again (nested_at n) n (nested_again n) s.0 x text left s.1 few ends)
    ∙ ap (λ v. found v left) (sym (element.rolls-Value x) ∙ is)
layer_again n value law m e (ElemTree-F.Ann a) text left is s few ends =
    let at = on_any_line (out-AnnTree a).line part.At s.front s.before in
    value_is_annotation value n a (text ++ left) left
    (ap (comes sign.At) (regroup s left) ∙ comes_this sign.At s.front (s.rest ++ left) at)
    (annotation_node n value law m a text left s few (expression_no_group left ends))
    ∙ ap (λ v. found v left) (sym (element.rolls-Ann a) ∙ is)
layer_again n value law m e (ElemTree-F.List values) text left is s few ends =
    value_is_list value n (text ++ left) _
    (ap (comes sign.At) (regroup s left)
    ∙ comes_other sign.At (part.Opening pair.Braces) s.front (s.rest ++ left) s.before refl)
    (ap (comes sign.LeftBrace) (regroup s left)
    ∙ comes_this sign.LeftBrace s.front (s.rest ++ left) s.before)
    (list_again n value law m values text left s few)
    ∙ ap (λ v. found v left) (sym (element.rolls-List values) ∙ is)

-- ---- where no value begins

no_prefix : (p : Part) → EndsValue p
    → (prefix_of (Some p) ≡ None) × (sign_is sign.At p ≡ false) ×
    (sign_is sign.LeftBrace p ≡ false)
no_prefix p ends_comma = (refl, refl, refl)
no_prefix p ends_parenthesis = (refl, refl, refl)
no_prefix p ends_brace = (refl, refl, refl)

no_expression : (n : ℕ) (p : Part) (text left : List Mark) → EndsValue p → Is p text
    → conditional_over (nested_at n) n (text ++ left) ≡ None
unfolding conditional_over
no_expression n p text left ends x =
    let f : front_part (text ++ left) ≡ Some p =
    ap (λ l. front_part (l ++ left)) x.whole ∙ ap Some x.part in
    ap (λ r. r >>= λ t. if comes sign.Question t.1
    then chosen_over (nested_at n) t.0 t.1 else Some t)
    (chain_refuses (nested_at n) n 10 (text ++ left)
    (unary_is (nested_at n) n p (text ++ left) None f (no_prefix p ends).0 (by p ends)))
  where
    by : (p : Part) → EndsValue p → unprefixed_by (nested_at n) n (Some p) (text ++ left) ≡ None
    by p ends_comma = refl
    by p ends_parenthesis = refl
    by p ends_brace = refl

no_value : (value : Values) (n : ℕ) (p : Part) (text left : List Mark) → EndsValue p → Is p text
    → value_over value n (text ++ left) ≡ None
unfolding value_over
no_value value n p text left ends x =
    let whole = text ++ left in
    let s = no_prefix p ends in
    let last : Read ElemTree = (conditional_over (nested_at n) n whole >>= λ x.
    found (element.Value x.0) x.1) in
    ap (λ b. if b then (annotation_over value n whole >>= λ a. found (element.Ann a.0) a.1)
    else (if comes sign.LeftBrace whole then list_over value n whole else last))
    (comes_other sign.At p text left x s.1)
    ∙ ap (λ b. if b then list_over value n whole else last)
    (comes_other sign.LeftBrace p text left x s.2)
    ∙ ap (λ r. r >>= λ x. found (element.Value x.0) x.1) (no_expression n p text left ends x)

-- ---- a value is no name before `=`

-- a word alone, before `=`, is read as a name
word_read : (n : ℕ) (t : Token) (name : List ℕ) (behind : List Mark) → t.kind ≡ kind.Word name
    → comes sign.Assign behind ≡ true
    → conditional_over (nested_at n) n (Single t ∷ behind) ≡ found (expr.Name (name ∷ [])) behind
word_read n t name behind e f =
    let e_name = expr.Name (name ∷ []) in
    let named : QName (name ∷ []) (Single t ∷ []) = record { token = t; whole = refl; word = e } in
    let few : 1 ≤ suc n = omega arith in
    conditional_again (nested_at n) n (nested_again n) 1 e_name (Single t ∷ []) behind
    (of_node 0 conditional e_name (Expr-F.Name (name ∷ [])) (Single t ∷ []) (out_name (name ∷ []))
    refl named) few (assign_ends behind f)
  where
    assign_part : (p : Part) → sign_is sign.Assign p ≡ true → p ≡ part.Assign
    assign_part part.Assign e = refl
    assign_part p e = absurd (cc)

    assign_ends : (behind : List Mark) → comes sign.Assign behind ≡ true → Ends 11 behind
    assign_ends [] e = absurd (false≢true e)
    assign_ends (Single u ∷ rest) e =
        ends_at 11 part.Assign (Single u ∷ []) rest
        (record { token = u; whole = refl; part = assign_part (part_of u) e }) refl refl refl
        (λ g. refl)
    assign_ends (Angle more ∷ rest) e = absurd (false≢true e)
    assign_ends (Group ∷ rest) e = absurd (false≢true e)
    assign_ends (Semi ∷ rest) e = absurd (false≢true e)

keyword_no_word : (k : Kw) → is_word (keyword_part k) ≡ false
keyword_no_word keyword.True = refl
keyword_no_word _ = refl

operator_no_word : (o : OpTok) → is_word (operator_part o) ≡ false
operator_no_word operator.Dot = refl
operator_no_word _ = refl

word_kind : (k : TokenKind) → is_word (kind_part k) ≡ true → (name : List ℕ) × (k ≡ kind.Word name)
word_kind (kind.Word name) e = (name, refl)
word_kind (kind.Keyword k) e = absurd (false≢true (sym (keyword_no_word k) ∙ e))
word_kind (kind.Lit l) e = absurd (false≢true e)
word_kind (kind.Op o) e = absurd (false≢true (sym (operator_no_word o) ∙ e))

pub record WordAssign (text : List Mark) : Type 0 where
  pub token : Token
  pub name : List ℕ
  pub behind : List Mark
  pub whole : text ≡ Single token ∷ behind
  pub word : token.kind ≡ kind.Word name
  pub assign : comes sign.Assign behind ≡ true

pair_word : (text : List Mark) → begins_pair text ≡ true → WordAssign text
unfolding part_of
pair_word [] e = absurd (false≢true e)
pair_word (Angle more ∷ rest) e = absurd (false≢true e)
pair_word (Group ∷ rest) e = absurd (false≢true e)
pair_word (Semi ∷ rest) e = absurd (false≢true e)
pair_word (Single t ∷ rest) e = by (is_word (kind_part t.kind)) refl e
  where
    by : (b : Bool) → is_word (kind_part t.kind) ≡ b
        → (if b then comes sign.Assign rest else false) ≡ true → WordAssign (Single t ∷ rest)
    by true f e =
        let k = word_kind t.kind f in
        record {
          token = t;
          name = k.0;
          behind = rest;
          whole = refl;
          word = k.1;
          assign = e;
        }
    by false f e = absurd (false≢true e)

no_pair : (p : Part) (text left : List Mark) → Is p text → is_word p ≡ false
    → begins_pair (text ++ left) ≡ false
no_pair p text left x e =
    ap (λ f. if is_word_part f then comes sign.Assign (behind_mark (text ++ left)) else false)
    (ap (λ l. front_part (l ++ left)) x.whole ∙ ap Some x.part)
    ∙ ap (λ b. if b then comes sign.Assign (behind_mark (text ++ left)) else false) e

value_no_pair : (n : ℕ) (m : ℕ) (x : Expr) (text left : List Mark)
    → ExprWithin m conditional x text
    → length text ≤ suc n → Ends 11 left → comes sign.Assign left ≡ false
    → begins_pair (text ++ left) ≡ false
value_no_pair n m x text left s few ends absent = by (begins_pair (text ++ left)) refl
  where
    by : (b : Bool) → begins_pair (text ++ left) ≡ b → b ≡ false
    by false e = refl
    by true e =
        let w = pair_word (text ++ left) e in
        let read = conditional_again (nested_at n) n (nested_again n) m x text left s few ends in
        let name = word_read n w.token w.name w.behind w.word w.assign in
        let same : w.behind ≡ left =
        left_is (sym name ∙ ap (conditional_over (nested_at n) n) (sym w.whole) ∙ read) in
        absurd (false≢true (sym absent ∙ (sym (ap (comes sign.Assign) same) ∙ w.assign)))

layer_no_pair : (n m : ℕ) (layer : ElemLayer) (text left : List Mark)
    → ElemLine (ElemWithin m) layer text → length text ≤ suc n → Ends 11 left
    → comes sign.Assign left ≡ false
    → begins_pair (text ++ left) ≡ false
layer_no_pair n m (ElemTree-F.Value x) text left s few ends absent =
    value_no_pair n s.0 x text left s.1 few ends absent
layer_no_pair n m (ElemTree-F.Ann a) text left s few ends absent =
    let at = on_any_line (out-AnnTree a).line part.At s.front s.before in
    ap begins_pair (regroup s left) ∙ no_pair part.At s.front (s.rest ++ left) at refl
layer_no_pair n m (ElemTree-F.List values) text left s few ends absent =
    ap begins_pair (regroup s left)
    ∙ no_pair (part.Opening pair.Braces) s.front (s.rest ++ left) s.before refl

-- ---- values and annotations

none_within : (m : ℕ) (e : ElemTree) (text : List Mark) → ElemWithin m e text → length text ≤ 0 → ⊥
none_within m e text x few = let some = value_some (value_begins m e text x) in absurd
    (omega arith)

reads_by : (n : ℕ) → Complete n (value_at n) → (m : ℕ) (e : ElemTree) (text left : List Mark)
    → ElemWithin m e text → length text ≤ suc n → Ends 11 left
    → value_over (value_at n) n (text ++ left) ≡ found e left
unfolding ElemWithin
reads_by n law zero e text left x few ends = absurd x
reads_by n law (suc m) e text left x few ends =
    layer_again n (value_at n) law m e (out-ElemTree e) text left (roll-out-ElemTree e) x few ends

begun_by : (n m : ℕ) (e : ElemTree) (text left : List Mark) → ElemWithin m e text
    → length text ≤ suc n → Ends 11 left → comes sign.Assign left ≡ false
    → begins_pair (text ++ left) ≡ false
unfolding ElemWithin
begun_by n zero e text left x few ends absent = absurd x
begun_by n (suc m) e text left x few ends absent =
    layer_no_pair n m (out-ElemTree e) text left x few ends absent

pub values_read : (n : ℕ) → Complete n (value_at n)
unfolding value_at
values_read zero = record {
  reads = λ m e text left x few ends. absurd (none_within m e text x few);
  refuses = λ p text left ends x. refl;
  begun = λ m e text left x few ends absent. absurd (none_within m e text x few);
}
values_read (suc n) = record {
  reads = reads_by n (values_read n);
  refuses = λ p text left ends x. no_value (value_at n) n p text left ends x;
  begun = begun_by n;
}

pub annotation_again : (n : ℕ) (a : AnnTree) (text left : List Mark) → AnnSpells a text
    → length text ≤ suc n → AnnEnds left → annotation_at n (text ++ left) ≡ found a left
unfolding annotation_at
annotation_again n a text left x few ends =
    annotation_node n (value_at n) (values_read n) x.0 a text left x.1 few ends
