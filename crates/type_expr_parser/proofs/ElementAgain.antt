-- What is spelled as the elements of an annotation is read.
use Rattle.std.proofs.Common.{◌≡◌, refl, sym, ◌∙◌, ap, subst, ℕ, zero, suc, ◌≤◌, arith}
use Rattle.std.proofs.Common.{Bool, true, false, List, [], ◌∷◌, ◌++◌, length, append_assoc}
use Rattle.std.proofs.Common.{Some, None, inl, inr}
use Rattle.std.specs.Prelude.{codes, if◌then◌else◌, ◌||◌}
use Rattle.std.proofs.lemmas.Bool.{false≢true}
use Rattle.java_token.specs.declared.token.Token.{Token}
use Rattle.java_ast.specs.declared.annotation.AnnTree.{out-AnnTree}
use Rattle.java_ast.specs.declared.annotation.ElemArg.{ElemArg, out-ElemArg}
use Rattle.java_ast.specs.declared.annotation.ElemTree.{ElemTree, out-ElemTree}
use Rattle.java_ast.specs.declared.annotation.ElemTree.TheVariants as element
use Rattle.java_ast.specs.declared.annotation.ElemTree.TheOpen.{ElemTree-F}
use Rattle.java_ast.specs.declared.annotation.ElemTree.TheViews.{roll-ElemArg, roll-out-ElemArg}
use Rattle.java_grammar.specs.declared.part.Part.{Part}
use Rattle.java_grammar.specs.declared.part.Part.TheVariants as part
use Rattle.java_grammar.specs.declared.part.Pair.TheVariants as pair
use Rattle.java_grammar.specs.Parts.{part_of}
use Rattle.java_grammar.specs.Tests.{is_word}
use Rattle.java_grammar.specs.Marks.{Mark, Single, Line}
use Rattle.java_grammar.specs.Words.{◌⨾◌, Either, Perhaps, Row, Is}
use Rattle.java_grammar.specs.Words.{Comma, Commas, PerhapsCommas}
use Rattle.java_grammar.specs.Reading.{behind_mark}
use Rattle.java_grammar.specs.Expressions.{conditional, InParentheses}
use Rattle.java_grammar.specs.Annotations.{ElemLayer, Pair, SoleValue}
use Rattle.java_grammar.specs.Annotations.{NoElements, InBraces, ElemLine}
use Rattle.java_grammar.specs.Annotations.{ElemWithin}
use Rattle.java_grammar.specs.declared.sign.Sign.TheVariants as sign
use Rattle.java_grammar.specs.Signs.{sign_is}
use Rattle.type_expr_parser.specs.Reading.{Read, found, ◌>>=◌, step, prepended, many}
use Rattle.type_expr_parser.specs.Reading.{comes, sign_at}
use Rattle.type_expr_parser.specs.Annotations.{Values, further_value_over, values_over}
use Rattle.type_expr_parser.specs.Annotations.{behind_comma, list_over, sole_over, pair_over}
use Rattle.type_expr_parser.specs.Annotations.{further_pair_over, pairs_over, begins_pair}
use Rattle.type_expr_parser.specs.Annotations.{inside_over, elements_over}
use Rattle.type_expr_parser.proofs.Lines.{bind_is, regroup, both_lengths}
use Rattle.type_expr_parser.proofs.Lines.{to_row}
use Rattle.type_expr_parser.proofs.Lines.{Rows, many_again}
use Rattle.type_expr_parser.proofs.TokenLaws.{sign_again, sign_missing, word_again, on_any_line}
use Rattle.type_expr_parser.proofs.TokenKinds.{IsWordPart, plain, «sealed», word_is}
use Rattle.type_expr_parser.proofs.Ends.{begins_operand, Begins, begins}
use Rattle.type_expr_parser.specs.Follows.{Ends}
use Rattle.type_expr_parser.proofs.Ends.{ends_at_parenthesis, ends_at_brace, ends_at_comma}
use Rattle.type_expr_parser.proofs.ExprAgain.{comes_other, comes_this}

-- ---- what begins no value

-- `,`, `)` and `}`
pub data EndsValue : Part → Type 0 where
  ends_comma : EndsValue part.Comma
  ends_parenthesis : EndsValue (part.Closing pair.Parentheses)
  ends_brace : EndsValue (part.Closing pair.Braces)

-- what is spelled with at most so many marks is read, where no expression goes on behind it;
-- nothing is read where an end of a value comes
pub record Complete (most : ℕ) (value : Values) : Type 0 where
  pub reads : (m : ℕ) (e : ElemTree) (text left : List Mark) → ElemWithin m e text
      → length text ≤ most → Ends 11 left → value (text ++ left) ≡ found e left
  pub refuses : (p : Part) (text left : List Mark) → EndsValue p → Is p text
      → value (text ++ left) ≡ None
  pub begun : (m : ℕ) (e : ElemTree) (text left : List Mark) → ElemWithin m e text
      → length text ≤ most → Ends 11 left → comes sign.Assign left ≡ false
      → begins_pair (text ++ left) ≡ false

-- ---- with what a value begins

abbrev begins_value : Part → Bool
begins_value p = begins_operand p || (sign_is sign.At p || sign_is sign.LeftBrace p)

pub record BeginsValue (text : List Mark) : Type 0 where
  pub token : Token
  pub rest : List Mark
  pub whole : text ≡ Single token ∷ rest
  pub begins : begins_value (part_of token) ≡ true

value_at_sign : (p : Part) (text : List Mark) → Is p text → begins_value p ≡ true
    → BeginsValue text
value_at_sign p text x e = record {
  token = x.token;
  rest = [];
  whole = x.whole;
  begins = ap begins_value x.part ∙ e;
}

value_front : {a b : Line} {text : List Mark} (x : (a ⨾ b) text) → BeginsValue x.front
    → BeginsValue text
value_front x y = record {
  token = y.token;
  rest = y.rest ++ x.rest;
  whole = x.whole ∙ ap (λ l. l ++ x.rest) y.whole;
  begins = y.begins;
}

of_operand : {text : List Mark} → Begins text → BeginsValue text
of_operand x = record {
  token = x.token;
  rest = x.rest;
  whole = x.whole;
  begins = ap (λ b. b || (sign_is sign.At (part_of x.token)
      || sign_is sign.LeftBrace (part_of x.token))) x.begins;
}

layer_begins : (m : ℕ) (layer : ElemLayer) (text : List Mark) → ElemLine (ElemWithin m) layer text
    → BeginsValue text
layer_begins m (ElemTree-F.Value e) text x = of_operand (begins x.0 conditional e text x.1)
layer_begins m (ElemTree-F.Ann a) text x =
    value_front x (value_at_sign part.At x.front
    (on_any_line (out-AnnTree a).line part.At x.front x.before) refl)
layer_begins m (ElemTree-F.List values) text x =
    value_front x (value_at_sign (part.Opening pair.Braces) x.front x.before refl)

pub value_begins : (m : ℕ) (e : ElemTree) (text : List Mark) → ElemWithin m e text
    → BeginsValue text
unfolding ElemWithin
value_begins zero e text x = absurd x
value_begins (suc m) e text x = layer_begins m (out-ElemTree e) text x

pub value_some : {text : List Mark} → BeginsValue text → 1 ≤ length text
value_some x = let e = ap length x.whole in omega arith

-- an operand begins with none of these
pub operand_signs : (p : Part) → begins_operand p ≡ true
    → (sign_is sign.At p ≡ false) × (sign_is sign.LeftBrace p ≡ false)
operand_signs part.At e = absurd (false≢true e)
operand_signs (part.Opening pair.Braces) e = absurd (false≢true e)
operand_signs p e = (refl, refl)

value_no_end : (p : Part) → begins_value p ≡ true → sign_is sign.RightParenthesis p ≡ false
value_no_end (part.Closing pair.Parentheses) e = absurd (false≢true e)
value_no_end p e = refl

-- ---- further values

further_value_again : (most : ℕ) (value : Values) → Complete most value → (m : ℕ) (e : ElemTree)
    (text left : List Mark)
    → (Comma ⨾ ElemWithin m e) text → length text ≤ most → Ends 11 left
    → further_value_over value (text ++ left) ≡ found e left
unfolding further_value_over
further_value_again most value law m e text left x few ends =
    let l = both_lengths x in
    let fits : length x.rest ≤ most = omega arith in
    ap (further_value_over value) (regroup x left)
    ∙ bind_is (λ comma. value comma.1) (sign_again sign.Comma x.front (x.rest ++ left) x.before)
    (law.reads m e x.rest left x.after fits ends)

comma_some : {b : Line} {text : List Mark} (x : (Comma ⨾ b) text) → 1 ≤ length text
comma_some x =
    let a = ap length x.before.whole in
    let b = both_lengths x in
    omega arith

comma_ends : {b : Line} {text : List Mark} (x : (Comma ⨾ b) text) (left : List Mark)
    → Ends 11 (text ++ left)
comma_ends x left =
    subst (Ends 11) (sym (regroup x left)) (ends_at_comma 11 x.front (x.rest ++ left) x.before)

value_rows : (most : ℕ) (value : Values) → Complete most value → (m : ℕ)
    → Rows (further_value_over value) (λ e. Comma ⨾ ElemWithin m e) (Ends 11) most
value_rows most value law m = record {
  again = λ e text left x few ends.
      further_value_again most value law m e text left x few ends;
  next = λ e text left x. comma_ends x left;
  some = λ e text x. comma_some x;
}

row_ends : {A : Type 0} (line : A → Line) (xs : List A) (text left : List Mark)
    → Row (λ x. Comma ⨾ line x) xs text → Ends 11 left → Ends 11 (text ++ left)
row_ends line [] text left x ends = subst (λ l. Ends 11 (l ++ left)) (sym x) ends
row_ends line (y ∷ ys) text left x ends =
    subst (Ends 11) (sym (regroup x left)) (comma_ends x.before (x.rest ++ left))

-- ---- values in braces

-- `}`, perhaps with a comma before it
abbrev Closing : Line
Closing = Perhaps Comma ⨾ Is (part.Closing pair.Braces)

closing_ends : (text left : List Mark) → Closing text → Ends 11 (text ++ left)
closing_ends text left x = by x.front x.before refl
  where
    by : (front : List Mark) → Perhaps Comma front → x.front ≡ front → Ends 11 (text ++ left)
    by front (inl e) f =
        let whole : text ++ left ≡ x.rest ++ left =
        regroup x left ∙ ap (λ l. l ++ (x.rest ++ left)) (f ∙ e) in
        subst (Ends 11) (sym whole) (ends_at_brace 11 x.rest left x.after)
    by front (inr y) f =
        let whole : text ++ left ≡ front ++ (x.rest ++ left) =
        regroup x left ∙ ap (λ l. l ++ (x.rest ++ left)) f in
        subst (Ends 11) (sym whole) (ends_at_comma 11 front (x.rest ++ left) y)

-- no value and no further value comes there
closing_refuses : (most : ℕ) (value : Values) → Complete most value → (text left : List Mark)
    → Closing text
    → (value (text ++ left) ≡ None) × (further_value_over value (text ++ left) ≡ None)
    × (sign_at sign.RightBrace (behind_comma (text ++ left)) ≡ found tt left)
unfolding further_value_over
closing_refuses most value law text left x = by x.front x.before refl
  where
    by : (front : List Mark) → Perhaps Comma front → x.front ≡ front
        → (value (text ++ left) ≡ None) × (further_value_over value (text ++ left) ≡ None)
        × (sign_at sign.RightBrace (behind_comma (text ++ left)) ≡ found tt left)
    by front (inl e) f =
        let whole : text ++ left ≡ x.rest ++ left =
        regroup x left ∙ ap (λ l. l ++ (x.rest ++ left)) (f ∙ e) in
        let absent : comes sign.Comma (x.rest ++ left) ≡ false =
        comes_other sign.Comma (part.Closing pair.Braces) x.rest left x.after refl in (
          ap value whole ∙ law.refuses (part.Closing pair.Braces) x.rest left ends_brace x.after,
          ap (further_value_over value) whole
              ∙ ap (λ r. r >>= λ comma. value comma.1) (sign_missing sign.Comma
              (x.rest ++ left) absent),
          ap (λ l. sign_at sign.RightBrace (behind_comma l)) whole
              ∙ ap (λ b. sign_at sign.RightBrace (if b then behind_mark (x.rest ++ left)
              else (x.rest ++ left))) absent
              ∙ sign_again sign.RightBrace x.rest left x.after,
        )
    by front (inr y) f =
        let behind = x.rest ++ left in
        let whole : text ++ left ≡ front ++ behind =
        regroup x left ∙ ap (λ l. l ++ behind) f in
        let yes : comes sign.Comma (front ++ behind) ≡ true = comes_this sign.Comma front behind
        y in
        let after : behind_mark (front ++ behind) ≡ behind =
        ap (λ l. behind_mark (l ++ behind)) y.whole in (
          ap value whole ∙ law.refuses part.Comma front behind ends_comma y,
          ap (further_value_over value) whole
              ∙ bind_is (λ c. value c.1) (sign_again sign.Comma front behind y)
              (law.refuses (part.Closing pair.Braces) x.rest left ends_brace x.after),
          ap (λ l. sign_at sign.RightBrace (behind_comma l)) whole
              ∙ ap (λ b. sign_at sign.RightBrace (if b then behind_mark (front ++ behind)
              else (front ++ behind))) yes
              ∙ ap (sign_at sign.RightBrace) after ∙ sign_again sign.RightBrace x.rest left
              x.after,
        )

values_again : (n : ℕ) (value : Values) → Complete n value → (m : ℕ) (values : List ElemTree)
    (text left : List Mark)
    → PerhapsCommas (ElemWithin m) values text → length text ≤ n → Ends 11 left
    → value left ≡ None → further_value_over value left ≡ None
    → values_over value n (text ++ left) ≡ found values left
unfolding values_over
values_again n value law m [] text left x few ends none no_further =
    ap (λ l. values_over value n (l ++ left)) x
    ∙ ap (λ r. step r (found [] left)
    (λ first rest. Some (prepended (first ∷ []) (many (further_value_over value) n rest)))) none
values_again n value law m (v ∷ values) text left x few ends none no_further =
    let y : (ElemWithin m v ⨾ Row (λ e. Comma ⨾ ElemWithin m e) values) text =
    to_row Comma (ElemWithin m) v values text x in
    let l = both_lengths y in
    let fits : length y.front ≤ n = omega arith in
    let fewer : length y.rest ≤ n = omega arith in
    let within : n ≤ n = omega arith in
    let first = law.reads m v y.front (y.rest ++ left) y.before fits
    (row_ends (ElemWithin m) values y.rest left y.after ends) in
    ap (values_over value n) (regroup y left)
    ∙ ap (λ r. step r (found [] (y.front ++ (y.rest ++ left)))
    (λ first rest. Some (prepended (first ∷ []) (many (further_value_over value) n rest)))) first
    ∙ ap (λ (r : List ElemTree × List Mark). Some (prepended (v ∷ []) r))
    (many_again (value_rows n value law m) n values y.rest left y.after fewer within ends
    no_further)

pub list_again : (n : ℕ) (value : Values) → Complete n value → (m : ℕ) (values : List ElemTree)
    (text left : List Mark)
    → InBraces (PerhapsCommas (ElemWithin m) values ⨾ Perhaps Comma) text → length text ≤ suc n
    → list_over value n (text ++ left) ≡ found (element.List values) left
unfolding list_over
list_again n value law m values text left x few =
    let inner = x.after in
    let both = inner.before in
    let closing : Closing (both.rest ++ inner.rest) = record {
      front = both.rest;
      rest = inner.rest;
      whole = refl;
      before = both.after;
      after = inner.after;
    } in
    let behind = (both.rest ++ inner.rest) ++ left in
    let a = ap length x.before.whole in
    let l = both_lengths x in
    let k = both_lengths inner in
    let j = both_lengths both in
    let fits : length both.front ≤ n = omega arith in
    let r = closing_refuses n value law (both.rest ++ inner.rest) left closing in
    let whole : text ++ left ≡ x.front ++ (both.front ++ behind) =
    regroup x left ∙ ap (λ l. x.front ++ l)
    (regroup inner left ∙ ap (λ l. l ++ (inner.rest ++ left)) both.whole
    ∙ append_assoc both.front both.rest (inner.rest ++ left)
    ∙ ap (λ l. both.front ++ l) (sym (append_assoc both.rest inner.rest left))) in
    ap (list_over value n) whole
    ∙ bind_is (λ opening. values_over value n opening.1 >>= λ vs.
    sign_at sign.RightBrace (behind_comma vs.1) >>= λ c. found (element.List vs.0) c.1)
    (sign_again sign.LeftBrace x.front (both.front ++ behind) x.before)
    (bind_is (λ vs. sign_at sign.RightBrace (behind_comma vs.1) >>= λ c.
    found (element.List vs.0) c.1)
    (values_again n value law m values both.front behind both.before fits
    (closing_ends (both.rest ++ inner.rest) left closing) r.0 r.1)
    (bind_is (λ c. found (element.List values) c.1) r.2 refl))

-- ---- elements

pair_again : (most : ℕ) (value : Values) → Complete most value → (m : ℕ) (a : ElemArg)
    (text left : List Mark)
    → Pair (ElemWithin m) a text → length text ≤ most → Ends 11 left
    → pair_over value (text ++ left) ≡ found a left
unfolding pair_over
pair_again most value law m a text left x few ends =
    let name = (out-ElemArg a).name in
    let v = (out-ElemArg a).value in
    let y = x.after in
    let l = both_lengths x in
    let k = both_lengths y in
    let fits : length y.rest ≤ most = omega arith in
    let whole : text ++ left ≡ x.front ++ (y.front ++ (y.rest ++ left)) =
    regroup x left ∙ ap (λ l. x.front ++ l) (regroup y left) in
    ap (pair_over value) whole
    ∙ bind_is (λ n. sign_at sign.Assign n.1 >>= λ assign. value assign.1 >>= λ w.
    found (roll-ElemArg (record { name = n.0; value = w.0 })) w.1)
    (word_again name x.front (y.front ++ (y.rest ++ left)) x.before)
    (bind_is (λ assign. value assign.1 >>= λ w.
    found (roll-ElemArg (record { name = name; value = w.0 })) w.1)
    (sign_again sign.Assign y.front (y.rest ++ left) y.before)
    (bind_is (λ w. found (roll-ElemArg (record { name = name; value = w.0 })) w.1)
    (law.reads m v y.rest left y.after fits ends)
    (ap (λ b. found b left) (roll-out-ElemArg a))))

further_pair_again : (most : ℕ) (value : Values) → Complete most value → (m : ℕ) (a : ElemArg)
    (text left : List Mark)
    → (Comma ⨾ Pair (ElemWithin m) a) text → length text ≤ most → Ends 11 left
    → further_pair_over value (text ++ left) ≡ found a left
unfolding further_pair_over
further_pair_again most value law m a text left x few ends =
    let l = both_lengths x in
    let fits : length x.rest ≤ most = omega arith in
    ap (further_pair_over value) (regroup x left)
    ∙ bind_is (λ comma. pair_over value comma.1)
    (sign_again sign.Comma x.front (x.rest ++ left) x.before)
    (pair_again most value law m a x.rest left x.after fits ends)

pair_rows : (most : ℕ) (value : Values) → Complete most value → (m : ℕ)
    → Rows (further_pair_over value) (λ a. Comma ⨾ Pair (ElemWithin m) a) (Ends 11) most
pair_rows most value law m = record {
  again = λ a text left x few ends.
      further_pair_again most value law m a text left x few ends;
  next = λ a text left x. comma_ends x left;
  some = λ a text x. comma_some x;
}

pairs_again : (n : ℕ) (value : Values) → Complete n value → (m : ℕ) (args : List ElemArg)
    (text left : List Mark)
    → Commas (Pair (ElemWithin m)) args text → length text ≤ n → Ends 11 left
    → comes sign.Comma left ≡ false
    → pairs_over value n (text ++ left) ≡ found args left
unfolding pairs_over further_pair_over
pairs_again n value law m [] text left x few ends absent = absurd x
pairs_again n value law m (a ∷ args) text left x few ends absent =
    let y : (Pair (ElemWithin m) a ⨾ Row (λ b. Comma ⨾ Pair (ElemWithin m) b) args) text =
    to_row Comma (Pair (ElemWithin m)) a args text x in
    let l = both_lengths y in
    let fits : length y.front ≤ n = omega arith in
    let fewer : length y.rest ≤ n = omega arith in
    let within : n ≤ n = omega arith in
    ap (pairs_over value n) (regroup y left)
    ∙ bind_is (λ first. Some (prepended (first.0 ∷ []) (many (further_pair_over value) n first.1)))
    (pair_again n value law m a y.front (y.rest ++ left) y.before fits
    (row_ends (Pair (ElemWithin m)) args y.rest left y.after ends))
    (ap (λ (r : List ElemArg × List Mark). Some (prepended (a ∷ []) r))
    (many_again (pair_rows n value law m) n args y.rest left y.after fewer within ends
    (ap (λ r. r >>= λ comma. pair_over value comma.1) (sign_missing sign.Comma left absent))))

sole_again : (most : ℕ) (value : Values) → Complete most value → (m : ℕ) (args : List ElemArg)
    (text left : List Mark)
    → SoleValue (ElemWithin m) args text → length text ≤ most → Ends 11 left
    → sole_over value (text ++ left) ≡ found args left
unfolding sole_over
sole_again most value law m [] text left x few ends = absurd x
sole_again most value law m (a ∷ b ∷ rest) text left x few ends = absurd x
sole_again most value law m (a ∷ []) text left x few ends =
    let v = (out-ElemArg a).value in
    bind_is (λ w. found (roll-ElemArg (record { name = codes "value"; value = w.0 }) ∷ []) w.1)
    (law.reads m v text left x.1 few ends)
    (ap (λ n. found (roll-ElemArg (record { name = n; value = v }) ∷ []) left) (sym x.0)
    ∙ ap (λ b. found (b ∷ []) left) (roll-out-ElemArg a))

word_part_is : (p : Part) → IsWordPart p → is_word p ≡ true
word_part_is p plain = refl
word_part_is p «sealed» = refl

word_no_end : (p : Part) → IsWordPart p → sign_is sign.RightParenthesis p ≡ false
word_no_end p plain = refl
word_no_end p «sealed» = refl

-- a word and `=`
pair_begins : (Elem : ElemTree → Line) (a : ElemArg) (text left : List Mark) → Pair Elem a text
    → (comes sign.RightParenthesis (text ++ left) ≡ false) × (begins_pair (text ++ left) ≡ true)
pair_begins Elem a text left x =
    let word = x.before in
    let y = x.after in
    let behind = y.front ++ (y.rest ++ left) in
    let p = part_of word.token in
    let is = word_is word.token (out-ElemArg a).name word.word in
    let whole : text ++ left ≡ Single word.token ∷ behind =
    regroup x left ∙ ap (λ l. l ++ (x.rest ++ left)) word.whole
    ∙ ap (λ l. Single word.token ∷ l) (regroup y left) in (
      ap (comes sign.RightParenthesis) whole ∙ word_no_end p is,
      ap begins_pair whole
          ∙ ap (λ b. if b then comes sign.Assign behind else false) (word_part_is p is)
          ∙ comes_this sign.Assign y.front (y.rest ++ left) y.before,
    )

value_no_parenthesis : (text left : List Mark) → BeginsValue text
    → comes sign.RightParenthesis (text ++ left) ≡ false
value_no_parenthesis text left x =
    ap (λ l. comes sign.RightParenthesis (l ++ left)) x.whole
    ∙ value_no_end (part_of x.token) x.begins

abbrev Inside : ℕ → List ElemArg → Line
Inside m args = Either (NoElements args)
    (Either (SoleValue (ElemWithin m) args) (Commas (Pair (ElemWithin m)) args))

commas_begin : (m : ℕ) (args : List ElemArg) (text left : List Mark)
    → Commas (Pair (ElemWithin m)) args text
    → (comes sign.RightParenthesis (text ++ left) ≡ false) × (begins_pair (text ++ left) ≡ true)
commas_begin m [] text left x = absurd x
commas_begin m (a ∷ args) text left x =
    let y : (Pair (ElemWithin m) a ⨾ Row (λ b. Comma ⨾ Pair (ElemWithin m) b) args) text =
    to_row Comma (Pair (ElemWithin m)) a args text x in
    let r = pair_begins (ElemWithin m) a y.front (y.rest ++ left) y.before in (
      ap (comes sign.RightParenthesis) (regroup y left) ∙ r.0,
      ap begins_pair (regroup y left) ∙ r.1,
    )

sole_begins : (most : ℕ) (value : Values) → Complete most value → (m : ℕ) (args : List ElemArg)
    (text left : List Mark)
    → SoleValue (ElemWithin m) args text → length text ≤ most → Ends 11 left
    → comes sign.Assign left ≡ false
    → (comes sign.RightParenthesis (text ++ left) ≡ false) × (begins_pair (text ++ left) ≡ false)
sole_begins most value law m [] text left x few ends absent = absurd x
sole_begins most value law m (a ∷ b ∷ rest) text left x few ends absent = absurd x
sole_begins most value law m (a ∷ []) text left x few ends absent = (
  value_no_parenthesis text left (value_begins m (out-ElemArg a).value text x.1),
  law.begun m (out-ElemArg a).value text left x.1 few ends absent,
)

-- the two tests of what stands in the parentheses
inside_is : (value : Values) (n : ℕ) (text : List Mark) (r : Read (List ElemArg)) (pairs : Bool)
    → comes sign.RightParenthesis text ≡ false → begins_pair text ≡ pairs
    → (if pairs then pairs_over value n text else sole_over value text) ≡ r
    → inside_over value n text ≡ r
unfolding inside_over
inside_is value n text r pairs e f h =
    ap (λ b. if b then found [] text
    else (if begins_pair text then pairs_over value n text else sole_over value text)) e
    ∙ ap (λ b. if b then pairs_over value n text else sole_over value text) f ∙ h

inside_again : (n : ℕ) (value : Values) → Complete n value → (m : ℕ) (args : List ElemArg)
    (text closing left : List Mark)
    → Inside m args text → Is (part.Closing pair.Parentheses) closing → length text ≤ n
    → inside_over value n (text ++ (closing ++ left)) ≡ found args (closing ++ left)
unfolding inside_over
inside_again n value law m args text closing left (inl x) c few =
    let behind = closing ++ left in
    ap (λ l. inside_over value n (l ++ behind)) x.1
    ∙ ap (λ b. if b then found [] behind
    else (if begins_pair behind then pairs_over value n behind else sole_over value behind))
    (comes_this sign.RightParenthesis closing left c)
    ∙ ap (λ a. found a behind) (sym x.0)
inside_again n value law m args text closing left (inr (inl x)) c few =
    let ends = ends_at_parenthesis 11 closing left c in
    let b = sole_begins n value law m args text (closing ++ left) x few ends
    (comes_other sign.Assign (part.Closing pair.Parentheses) closing left c refl) in
    inside_is value n (text ++ (closing ++ left)) _ false b.0 b.1
    (sole_again n value law m args text (closing ++ left) x few ends)
inside_again n value law m args text closing left (inr (inr x)) c few =
    let ends = ends_at_parenthesis 11 closing left c in
    let b = commas_begin m args text (closing ++ left) x in
    inside_is value n (text ++ (closing ++ left)) _ true b.0 b.1
    (pairs_again n value law m args text (closing ++ left) x few ends
    (comes_other sign.Comma (part.Closing pair.Parentheses) closing left c refl))

pub elements_again : (n : ℕ) (value : Values) → Complete n value → (m : ℕ) (args : List ElemArg)
    (text left : List Mark)
    → InParentheses (Inside m args) text → length text ≤ suc n
    → elements_over value n (text ++ left) ≡ found args left
unfolding elements_over
elements_again n value law m args text left x few =
    let y = x.after in
    let a = ap length x.before.whole in
    let l = both_lengths x in
    let k = both_lengths y in
    let fits : length y.front ≤ n = omega arith in
    let whole : text ++ left ≡ x.front ++ (y.front ++ (y.rest ++ left)) =
    regroup x left ∙ ap (λ l. x.front ++ l) (regroup y left) in
    ap (elements_over value n) whole
    ∙ bind_is (λ opening. inside_over value n opening.1 >>= λ inside.
    sign_at sign.RightParenthesis inside.1 >>= λ c. found inside.0 c.1)
    (sign_again sign.LeftParenthesis x.front (y.front ++ (y.rest ++ left)) x.before)
    (bind_is (λ inside. sign_at sign.RightParenthesis inside.1 >>= λ c. found inside.0 c.1)
    (inside_again n value law m args y.front y.rest left y.before y.after fits)
    (bind_is (λ c. found args c.1) (sign_again sign.RightParenthesis y.rest left y.after) refl))
