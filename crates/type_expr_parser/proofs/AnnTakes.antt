-- What is read as an annotation is spelled as one.
use Rattle.std.proofs.Common.{◌≡◌, refl, sym, ◌∙◌, ap, subst, ℕ, zero, suc, Bool, true, false}
use Rattle.std.proofs.Common.{List, [], ◌∷◌, Some, None, inl, inr}
use Rattle.std.specs.Prelude.{codes, if◌then◌else◌}
use Rattle.java_ast.specs.declared.annotation.AnnTree.{AnnTree, out-AnnTree}
use Rattle.java_ast.specs.declared.annotation.ElemArg.{ElemArg}
use Rattle.java_ast.specs.declared.annotation.ElemTree.{ElemTree, out-ElemTree}
use Rattle.java_ast.specs.declared.annotation.ElemTree.TheVariants as element
use Rattle.java_ast.specs.declared.annotation.ElemTree.TheOpen.{ElemTree-F}
use Rattle.java_ast.specs.declared.annotation.ElemTree.TheViews.{roll-AnnTree, out-roll-AnnTree}
use Rattle.java_ast.specs.declared.annotation.ElemTree.TheViews.{roll-ElemArg, out-roll-ElemArg}
use Rattle.java_ast.specs.declared.annotation.ElemTree.TheViews.{out-roll-ElemTree}
use Rattle.java_ast.specs.declared.expression.Expr.{Expr}
use Rattle.java_grammar.specs.declared.part.Part.TheVariants as part
use Rattle.java_grammar.specs.Marks.{Mark, Line}
use Rattle.java_grammar.specs.Words.{◌⨾◌, Either, Perhaps, Is, Word}
use Rattle.java_grammar.specs.Words.{Comma, Commas, PerhapsCommas}
use Rattle.java_grammar.specs.Reading.{behind_mark, IsFront}
use Rattle.java_grammar.specs.Expressions.{InParentheses}
use Rattle.java_grammar.specs.Annotations.{AnnLayer, ArgLayer, ElemLayer, Pair, SoleValue}
use Rattle.java_grammar.specs.Annotations.{NoElements, Elements, AnnLine, ElemLine}
use Rattle.java_grammar.specs.Annotations.{ElemWithin, AnnSpells, AnyAnns}
use Rattle.java_grammar.specs.declared.sign.Sign.TheVariants as sign
use Rattle.type_expr_parser.specs.Reading.{Read, found, ◌>>=◌, step, prepended, many}
use Rattle.type_expr_parser.specs.Reading.{front_line, comes, sign_at, word_at}
use Rattle.type_expr_parser.specs.Names.{qname_at}
use Rattle.type_expr_parser.specs.Expressions.{nested_at, conditional_over}
use Rattle.type_expr_parser.specs.Annotations.{Values, further_value_over, values_over}
use Rattle.type_expr_parser.specs.Annotations.{behind_comma, list_over, sole_over, pair_over}
use Rattle.type_expr_parser.specs.Annotations.{further_pair_over, pairs_over, begins_pair}
use Rattle.type_expr_parser.specs.Annotations.{inside_over, elements_over, any_elements_over}
use Rattle.type_expr_parser.specs.Annotations.{annotation_over, value_over, value_at}
use Rattle.type_expr_parser.specs.Annotations.{annotation_at}
use Rattle.type_expr_parser.specs.Annotations.{behind_annotations}
use Rattle.type_expr_parser.proofs.Lines.{value_is, left_is, bound, then_front, front_as, no_front}
use Rattle.type_expr_parser.proofs.Lines.{from_row, many_takes, behind_is}
use Rattle.type_expr_parser.proofs.TokenLaws.{sign_takes, sign_takes_on, sign_comes, word_takes}
use Rattle.type_expr_parser.proofs.NameLaws.{qname_takes}
use Rattle.type_expr_parser.proofs.ExprSound.{bound_of, nested_takes, conditional_takes, deep}

-- what a reading of values gives is spelled, with fewer than so many values inside each other
abbrev pub Sound : ℕ → Values → Type 0
Sound m value = (text : List Mark) (e : ElemTree) (left : List Mark)
    → value text ≡ found e left → IsFront (ElemWithin m e) text left

-- ---- fronts of what is given

pub given : {A : Type 0} (line : A → Line) {text rest left : List Mark} {made item : A}
    → found made rest ≡ found item left → IsFront (line made) text rest
    → IsFront (line item) text left
given {A} line {text} {rest} {item = item} e x =
    subst (λ (l : List Mark). IsFront (line item) text l) (left_is e)
    (subst (λ (a : A). IsFront (line a) text rest) (value_is e) x)

-- ---- layers of trees

pub out_value : (e : Expr) → out-ElemTree (element.Value e) ≡ ElemTree-F.Value e
out_value e = ap out-ElemTree (sym (element.rolls-Value e)) ∙ out-roll-ElemTree _

pub out_annotation : (a : AnnTree) → out-ElemTree (element.Ann a) ≡ ElemTree-F.Ann a
out_annotation a = ap out-ElemTree (sym (element.rolls-Ann a)) ∙ out-roll-ElemTree _

pub out_list : (values : List ElemTree) → out-ElemTree
    (element.List values) ≡ ElemTree-F.List values
out_list values = ap out-ElemTree (sym (element.rolls-List values)) ∙ out-roll-ElemTree _

pub of_layer : (m : ℕ) (e : ElemTree) (layer : ElemLayer) (text : List Mark)
    → out-ElemTree e ≡ layer → ElemLine (ElemWithin m) layer text → ElemWithin (suc m) e text
unfolding ElemWithin
of_layer m e layer text is x =
    subst (λ (o : ElemLayer). ElemLine (ElemWithin m) o text) (sym is) x

-- ---- values in braces

further_value_takes : (m : ℕ) (value : Values) → Sound m value → (text : List Mark) (e : ElemTree)
    (left : List Mark) → further_value_over value text ≡ found e left
    → IsFront (Comma ⨾ ElemWithin m e) text left
unfolding further_value_over
further_value_takes m value sound text e left h =
    let b = bound (sign_at sign.Comma text) (λ comma. value comma.1) e left h in
    then_front (sign_takes sign.Comma text b.item b.rest b.first)
    (sound b.rest e left b.second)

values_by : (m n : ℕ) (value : Values) → Sound m value → (text : List Mark) (r : Read ElemTree)
    (values : List ElemTree) (left : List Mark)
    → value text ≡ r
    → step r (found [] text)
    (λ first rest. Some (prepended (first ∷ []) (many (further_value_over value) n rest)))
    ≡ found values left
    → IsFront (PerhapsCommas (ElemWithin m) values) text left
values_by m n value sound text None values left v h =
    given (PerhapsCommas (ElemWithin m)) h (no_front text)
values_by m n value sound text (Some x) values left v h =
    given (PerhapsCommas (ElemWithin m)) h
    (front_as (from_row Comma (ElemWithin m) x.0 (many (further_value_over value) n x.1).0)
    (then_front (sound text x.0 x.1 v)
    (many_takes (further_value_over value) (λ e. Comma ⨾ ElemWithin m e)
    (further_value_takes m value sound) n x.1)))

values_takes : (m n : ℕ) (value : Values) → Sound m value → (text : List Mark)
    (values : List ElemTree) (left : List Mark)
    → values_over value n text ≡ found values left
    → IsFront (PerhapsCommas (ElemWithin m) values) text left
unfolding values_over
values_takes m n value sound text values left h =
    values_by m n value sound text (value text) values left refl h

comma_takes : (text : List Mark) → IsFront (Perhaps Comma) text (behind_comma text)
comma_takes text = by (comes sign.Comma text) refl
  where
    by : (b : Bool) → comes sign.Comma text ≡ b
        → IsFront (Perhaps Comma) text (if b then behind_mark text else text)
    by true e = front_as (λ t x. inr x) (sign_comes sign.Comma text e)
    by false e = front_as (λ t x. inl x) (no_front text)

list_takes : (m n : ℕ) (value : Values) → Sound m value → (text : List Mark) (e : ElemTree)
    (left : List Mark) → list_over value n text ≡ found e left
    → IsFront (ElemWithin (suc m) e) text left
unfolding list_over
list_takes m n value sound text e left h =
    let b = bound (sign_at sign.LeftBrace text) (λ opening. values_over value n opening.1 >>= λ vs.
    sign_at sign.RightBrace (behind_comma vs.1) >>= λ closing.
    found (element.List vs.0) closing.1) e left h in
    let c = bound (values_over value n b.rest) (λ vs.
    sign_at sign.RightBrace (behind_comma vs.1) >>= λ closing.
    found (element.List vs.0) closing.1) e left b.second in
    let d = bound (sign_at sign.RightBrace (behind_comma c.rest)) (λ closing.
    found (element.List c.item) closing.1) e left c.second in
    given (ElemWithin (suc m)) d.second
    (front_as (λ t x. of_layer m (element.List c.item) (ElemTree-F.List c.item) t
    (out_list c.item) x)
    (then_front (sign_takes sign.LeftBrace text b.item b.rest b.first)
    (then_front
    (then_front (values_takes m n value sound b.rest c.item c.rest c.first) (comma_takes c.rest))
    (sign_takes sign.RightBrace (behind_comma c.rest) d.item d.rest d.first))))

-- ---- elements

sole_takes : (m : ℕ) (value : Values) → Sound m value → (text : List Mark) (args : List ElemArg)
    (left : List Mark) → sole_over value text ≡ found args left
    → IsFront (SoleValue (ElemWithin m) args) text left
unfolding sole_over
sole_takes m value sound text args left h =
    let b = bound (value text) (λ v.
    found (roll-ElemArg (record { name = codes "value"; value = v.0 }) ∷ []) v.1) args left h in
    let layer : ArgLayer = record { name = codes "value"; value = b.item } in
    let out = out-roll-ElemArg layer in
    given (SoleValue (ElemWithin m)) b.second
    (front_as (λ t x. (
      ap (λ (a : ArgLayer). a.name) out,
      subst (λ (a : ArgLayer). ElemWithin m a.value t) (sym out) x,
    )) (sound text b.item b.rest b.first))

pair_takes : (m : ℕ) (value : Values) → Sound m value → (text : List Mark) (a : ElemArg)
    (left : List Mark) → pair_over value text ≡ found a left
    → IsFront (Pair (ElemWithin m) a) text left
unfolding pair_over
pair_takes m value sound text a left h =
    let b = bound (word_at text) (λ name. sign_at sign.Assign name.1 >>= λ assign.
    value assign.1 >>= λ v.
    found (roll-ElemArg (record { name = name.0; value = v.0 })) v.1) a left h in
    let c = bound (sign_at sign.Assign b.rest) (λ assign. value assign.1 >>= λ v.
    found (roll-ElemArg (record { name = b.item; value = v.0 })) v.1) a left b.second in
    let d = bound (value c.rest) (λ v.
    found (roll-ElemArg (record { name = b.item; value = v.0 })) v.1) a left c.second in
    let layer : ArgLayer = record { name = b.item; value = d.item } in
    let out = out-roll-ElemArg layer in
    let whole = then_front (word_takes text b.item b.rest b.first)
    (then_front (sign_takes sign.Assign b.rest c.item c.rest c.first)
    (sound c.rest d.item d.rest d.first)) in
    given (Pair (ElemWithin m)) d.second
    (subst (λ (o : ArgLayer). IsFront (Word o.name ⨾ (Is part.Assign ⨾ ElemWithin m o.value))
    text d.rest) (sym out) whole)

further_pair_takes : (m : ℕ) (value : Values) → Sound m value → (text : List Mark) (a : ElemArg)
    (left : List Mark) → further_pair_over value text ≡ found a left
    → IsFront (Comma ⨾ Pair (ElemWithin m) a) text left
unfolding further_pair_over
further_pair_takes m value sound text a left h =
    let b = bound (sign_at sign.Comma text) (λ comma. pair_over value comma.1) a left h in
    then_front (sign_takes sign.Comma text b.item b.rest b.first)
    (pair_takes m value sound b.rest a left b.second)

pairs_takes : (m n : ℕ) (value : Values) → Sound m value → (text : List Mark)
    (args : List ElemArg) (left : List Mark) → pairs_over value n text ≡ found args left
    → IsFront (Commas (Pair (ElemWithin m)) args) text left
unfolding pairs_over
pairs_takes m n value sound text args left h =
    let b = bound (pair_over value text) (λ first.
    Some (prepended (first.0 ∷ []) (many (further_pair_over value) n first.1))) args left h in
    given (Commas (Pair (ElemWithin m))) b.second
    (front_as (from_row Comma (Pair (ElemWithin m)) b.item (many
    (further_pair_over value) n b.rest).0)
    (then_front (pair_takes m value sound text b.item b.rest b.first)
    (many_takes (further_pair_over value) (λ a. Comma ⨾ Pair (ElemWithin m) a)
    (further_pair_takes m value sound) n b.rest)))

abbrev pub Inside : ℕ → List ElemArg → Line
Inside m args = Either (NoElements args)
    (Either (SoleValue (ElemWithin m) args) (Commas (Pair (ElemWithin m)) args))

inside_by : (m n : ℕ) (value : Values) → Sound m value → (text : List Mark)
    (args : List ElemArg) (left : List Mark) (ends pairs : Bool)
    → (if ends then found [] text
    else (if pairs then pairs_over value n text else sole_over value text)) ≡ found args left
    → IsFront (Inside m args) text left
inside_by m n value sound text args left true pairs h =
    given (Inside m) h (front_as (λ t x. inl (refl, x)) (no_front text))
inside_by m n value sound text args left false true h =
    front_as (λ t x. inr (inr x)) (pairs_takes m n value sound text args left h)
inside_by m n value sound text args left false false h =
    front_as (λ t x. inr (inl x)) (sole_takes m value sound text args left h)

pub elements_takes : (m n : ℕ) (value : Values) → Sound m value → (text : List Mark)
    (args : List ElemArg) (left : List Mark) → elements_over value n text ≡ found args left
    → IsFront (InParentheses (Inside m args)) text left
unfolding elements_over inside_over
elements_takes m n value sound text args left h =
    let b = bound (sign_at sign.LeftParenthesis text) (λ opening.
    inside_over value n opening.1 >>= λ inside. sign_at sign.RightParenthesis inside.1 >>= λ c.
    found inside.0 c.1) args left h in
    let c = bound (inside_over value n b.rest) (λ inside.
    sign_at sign.RightParenthesis inside.1 >>= λ c. found inside.0 c.1) args left b.second in
    let d = bound (sign_at sign.RightParenthesis c.rest) (λ closing. found c.item closing.1)
    args left c.second in
    given (λ a. InParentheses (Inside m a)) d.second
    (then_front (sign_takes sign.LeftParenthesis text b.item b.rest b.first)
    (then_front (inside_by m n value sound b.rest c.item c.rest
    (comes sign.RightParenthesis b.rest) (begins_pair b.rest) c.first)
    (sign_takes sign.RightParenthesis c.rest d.item d.rest d.first)))

any_by : (m n : ℕ) (value : Values) → Sound m value → (text : List Mark)
    (r : Read (List ElemArg)) (args : List ElemArg) (left : List Mark)
    → elements_over value n text ≡ r
    → step r (found [] text) (λ args rest. found args rest) ≡ found args left
    → IsFront (Elements (ElemWithin m) args) text left
any_by m n value sound text None args left v h =
    given (Elements (ElemWithin m)) h (front_as (λ t x. inl (refl, x)) (no_front text))
any_by m n value sound text (Some x) args left v h =
    given (Elements (ElemWithin m)) h
    (front_as (λ t y. inr y) (elements_takes m n value sound text x.0 x.1 v))

any_elements_takes : (m n : ℕ) (value : Values) → Sound m value → (text : List Mark)
    (args : List ElemArg) (left : List Mark) → any_elements_over value n text ≡ found args left
    → IsFront (Elements (ElemWithin m) args) text left
unfolding any_elements_over
any_elements_takes m n value sound text args left h =
    any_by m n value sound text (elements_over value n text) args left refl h

-- ---- annotations

pub annotation_takes : (m n : ℕ) (value : Values) → Sound m value → (text : List Mark)
    (a : AnnTree) (left : List Mark) → annotation_over value n text ≡ found a left
    → IsFront (AnnLine (ElemWithin m) (out-AnnTree a)) text left
unfolding annotation_over
annotation_takes m n value sound text a left h =
    let b = bound (sign_at sign.At text) (λ at. qname_at n at.1 >>= λ names.
    any_elements_over value n names.1 >>= λ args. found
    (roll-AnnTree (record { line = front_line text; names = names.0; args = args.0 })) args.1)
    a left h in
    let c = bound (qname_at n b.rest) (λ names.
    any_elements_over value n names.1 >>= λ args. found
    (roll-AnnTree (record { line = front_line text; names = names.0; args = args.0 })) args.1)
    a left b.second in
    let d = bound (any_elements_over value n c.rest) (λ args. found
    (roll-AnnTree (record { line = front_line text; names = c.item; args = args.0 })) args.1)
    a left c.second in
    let layer : AnnLayer = record { line = front_line text; names = c.item; args = d.item } in
    let whole = then_front (sign_takes_on sign.At text b.item b.rest b.first)
    (then_front (qname_takes n b.rest c.item c.rest c.first)
    (any_elements_takes m n value sound c.rest d.item d.rest d.first)) in
    given (λ t. AnnLine (ElemWithin m) (out-AnnTree t)) d.second
    (subst (λ (o : AnnLayer). IsFront (AnnLine (ElemWithin m) o) text d.rest)
    (sym (out-roll-AnnTree layer)) whole)

value_by : (m n : ℕ) (value : Values) → Sound m value → (text : List Mark) (e : ElemTree)
    (left : List Mark) (at brace : Bool)
    → (if at then (annotation_over value n text >>= λ a. found (element.Ann a.0) a.1)
    else (if brace then list_over value n text
    else (conditional_over (nested_at n) n text >>= λ x. found (element.Value x.0) x.1)))
    ≡ found e left
    → IsFront (ElemWithin (suc m) e) text left
value_by m n value sound text e left true brace h =
    let b = bound (annotation_over value n text) (λ a. found (element.Ann a.0) a.1) e left h in
    given (ElemWithin (suc m)) b.second
    (front_as (λ t x. of_layer m (element.Ann b.item) (ElemTree-F.Ann b.item) t
    (out_annotation b.item) x)
    (annotation_takes m n value sound text b.item b.rest b.first))
value_by m n value sound text e left false true h = list_takes m n value sound text e left h
value_by m n value sound text e left false false h =
    let b = bound (conditional_over (nested_at n) n text) (λ x. found (element.Value x.0) x.1)
    e left h in
    given (ElemWithin (suc m)) b.second
    (front_as (λ t x. of_layer m (element.Value b.item) (ElemTree-F.Value b.item) t
    (out_value b.item) (suc (deep (bound_of n) 10), x))
    (conditional_takes (bound_of n) (nested_at n) (nested_takes n) n text b.item b.rest b.first))

pub value_takes : (n : ℕ) → Sound n (value_at n)
unfolding value_at value_over
value_takes zero text e left h = absurd (cc)
value_takes (suc n) text e left h =
    value_by n n (value_at n) (value_takes n) text e left (comes sign.At text)
    (comes sign.LeftBrace text) h

pub annotation_spelled : (n : ℕ) (text : List Mark) (a : AnnTree) (left : List Mark)
    → annotation_at n text ≡ found a left → IsFront (AnnSpells a) text left
unfolding annotation_at
annotation_spelled n text a left h =
    front_as (λ t x. (n, x)) (annotation_takes n n (value_at n) (value_takes n) text a left h)

-- annotations that are passed
pub annotations_takes : (n : ℕ) (text : List Mark)
    → IsFront AnyAnns text (behind_annotations n text)
annotations_takes n text =
    let r = many (annotation_at n) n text in
    subst (IsFront AnyAnns text) (sym (behind_is (annotation_at n) n text))
    (front_as (λ t x. (r.0, x)) (many_takes (annotation_at n) AnnSpells
    (annotation_spelled n) n text))
