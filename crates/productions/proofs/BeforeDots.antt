-- Types before `...`: what is read is spelled, and what is spelled is read.
use Rattle.std.proofs.Common.{◌≡◌, refl, sym, ◌∙◌, ap, ℕ, zero, suc, ◌≤◌, arith}
use Rattle.std.proofs.Common.{Bool, true, false, List, [], ◌++◌, length, None}
use Rattle.std.specs.Prelude.{if◌then◌else◌}
use Rattle.java_ast.specs.declared.types.TypeTree.{TypeTree, out-TypeTree}
use Rattle.java_ast.specs.declared.types.TypeTree.TheVariants as tree
use Rattle.java_ast.specs.declared.types.ArgTree.TheOpen.{TypeTree-F}
use Rattle.java_ast.specs.declared.types.ArgTree.TheViews.{roll-TypeTree, roll-out-TypeTree}
use Rattle.java_grammar.specs.declared.part.Part.TheVariants as part
use Rattle.java_grammar.specs.declared.sign.Sign.TheVariants as sign
use Rattle.java_grammar.specs.Marks.{Mark}
use Rattle.java_grammar.specs.Words.{◌⨾◌, Is}
use Rattle.java_grammar.specs.Reading.{behind_mark, IsFront}
use Rattle.java_grammar.specs.Expressions.{TypeLayer}
use Rattle.java_grammar.specs.Types.{BareLine, BareSpells, TypeWithin}
use Rattle.java_grammar.specs.Members.{Ellipsis}
use Rattle.java_grammar.specs.Annotations.{AnyAnns}
use Rattle.type_expr_parser.specs.Reading.{found, ◌>>=◌, many_count, comes, sign_at}
use Rattle.type_expr_parser.specs.Names.{with_dims}
use Rattle.type_expr_parser.specs.Annotations.{behind_annotations}
use Rattle.type_expr_parser.specs.Types.{type_at, bare_over, base_over, dimension_at}
use Rattle.type_expr_parser.proofs.Lines.{bound, bind_is, then_front, no_front, regroup}
use Rattle.type_expr_parser.proofs.Lines.{both_lengths, none_bound}
use Rattle.type_expr_parser.proofs.TokenLaws.{sign_comes, sign_missing}
use Rattle.type_expr_parser.proofs.AnnTakes.{given, annotations_takes}
use Rattle.type_expr_parser.proofs.ArgAgain.{Comes, is_comes, comes_no, annotations_before}
use Rattle.type_expr_parser.proofs.ArgAgain.{no_annotations, dims_again}
use Rattle.type_expr_parser.proofs.TypeAgain.{types_read, base_again}
use Rattle.productions.specs.Keys.{Key, Fixed, here, Stops, front_may}
use Rattle.productions.specs.Leaves.{bare_type}
use Rattle.productions.specs.Lists.{dots_by, ellipsis_at, typed}
use Rattle.productions.specs.Laws.{Law}
use Rattle.productions.proofs.Fronts.{part_key, sign_key}
use Rattle.productions.proofs.Leaves.{annotations_first}
use Rattle.productions.proofs.Types.{dims_first, bare_first, bare_type_law}

-- ---- a type before what isn't its dimension

module _ (n : ℕ) (left : List Mark) (less : comes sign.Less left ≡ false)
    (dot : comes sign.Dot left ≡ false) (none : dimension_at n left ≡ None) where
  base_before : (m : ℕ) (t : TypeTree) (layer : TypeLayer) (text : List Mark)
      → base_over (type_at n) n (text ++ left) ≡ found t left
      → bare_over (type_at n) n (text ++ left) ≡ found t left
  unfolding bare_over
  base_before m t layer text read =
      let few : length {A = Mark} [] ≤ n = omega arith in
      bind_is (λ e. let ds = many_count (dimension_at n) n e.1 in
      found (with_dims e.0 ds.0) ds.1) read
      (ap (λ (c : ℕ × List Mark). found (with_dims t c.0) c.1)
      (dims_again n 0 [] left refl few none))

  layer_before : (m : ℕ) (t : TypeTree) (layer : TypeLayer) (text : List Mark)
      → roll-TypeTree layer ≡ t → BareLine (TypeWithin m) layer text → length text ≤ n
      → bare_over (type_at n) n (text ++ left) ≡ found t left
  unfolding bare_over
  layer_before m t TypeTree-F.Void text is x few = absurd x
  layer_before m t (TypeTree-F.Primitive p) text is x few =
      let fits : length text ≤ suc n = omega arith in
      base_before m t (TypeTree-F.Primitive p) text
      (base_again n (type_at n) (types_read n) m t (TypeTree-F.Primitive p) text left is x fits
      less dot)
  layer_before m t (TypeTree-F.Named line parts) text is x few =
      let fits : length text ≤ suc n = omega arith in
      base_before m t (TypeTree-F.Named line parts) text
      (base_again n (type_at n) (types_read n) m t (TypeTree-F.Named line parts) text left is x fits
      less dot)
  layer_before m t (TypeTree-F.Array element zero) text is x few = absurd x
  layer_before m t (TypeTree-F.Array element (suc k)) text is x few =
      let l = both_lengths x in
      let fits : length x.front ≤ suc n = omega arith in
      let fewer : length x.rest ≤ n = omega arith in
      ap (bare_over (type_at n) n) (regroup x left)
      ∙ bind_is (λ e. let ds = many_count (dimension_at n) n e.1 in
      found (with_dims e.0 ds.0) ds.1)
      (base_again n (type_at n) (types_read n) m element (out-TypeTree element) x.front
      (x.rest ++ left) (roll-out-TypeTree element) x.before fits
      (dims_first (suc k) x.rest left (Fixed sign.Less) x.after refl refl less)
      (dims_first (suc k) x.rest left (Fixed sign.Dot) x.after refl refl dot))
      (ap (λ (c : ℕ × List Mark). found (with_dims element c.0) c.1)
      (dims_again n (suc k) x.rest left x.after fewer none))
      ∙ ap (λ u. found u left) (sym (tree.rolls-Array element (suc k)) ∙ is)

-- ---- `...`

dots_takes : (n : ℕ) (text : List Mark) (b c : Bool) (left : List Mark)
    → comes sign.Ellipsis (behind_annotations n text) ≡ b
    → dots_by b text (behind_annotations n text) ≡ found c left
    → IsFront (Ellipsis c) text left
dots_takes n text true c left e h =
    given Ellipsis h
    (then_front (annotations_takes n text) (sign_comes sign.Ellipsis (behind_annotations n text) e))
dots_takes n text false c left e h = given Ellipsis h (no_front text)

no_dots : (n : ℕ) (left : List Mark) → comes sign.At left ≡ false
    → comes sign.Ellipsis left ≡ false → ellipsis_at n left ≡ found false left
unfolding ellipsis_at
no_dots n left at dots =
    ap (λ l. dots_by (comes sign.Ellipsis l) left l) (no_annotations n left at)
    ∙ ap (λ b. dots_by b left left) dots

-- what `...` begins with
module _ (n : ℕ) (text left : List Mark) (x : (AnyAnns ⨾ Is part.Ellipsis) text)
    (few : length text ≤ n) where
  whole : text ++ left ≡ x.front ++ (x.rest ++ left)
  whole = regroup x left

  next : Comes part.Ellipsis (x.rest ++ left)
  next = is_comes part.Ellipsis x.rest left x.after

  behind : behind_annotations n (x.front ++ (x.rest ++ left)) ≡ x.rest ++ left
  behind =
      let l = both_lengths x in
      let fits : length x.front ≤ n = omega arith in
      annotations_before n part.Ellipsis x.front (x.rest ++ left) x.before fits next refl refl refl

  dots_read : ellipsis_at n (text ++ left) ≡ found true left
  unfolding ellipsis_at
  dots_read =
      ap (ellipsis_at n) whole
      ∙ ap (λ l. dots_by (comes sign.Ellipsis l) (x.front ++ (x.rest ++ left)) l) behind
      ∙ ap (λ b. dots_by b (x.front ++ (x.rest ++ left)) (x.rest ++ left))
      (sign_key sign.Ellipsis x.rest left x.after)
      ∙ ap (λ l. found true (behind_mark (l ++ left))) x.after.whole

  no_brackets : dimension_at n (text ++ left) ≡ None
  unfolding dimension_at
  no_brackets =
      ap (dimension_at n) whole
      ∙ ap (λ l. sign_at sign.LeftBracket l >>= λ o. sign_at sign.RightBracket o.1) behind
      ∙ none_bound (λ o. sign_at sign.RightBracket o.1)
      (sign_missing sign.LeftBracket (x.rest ++ left)
      (comes_no sign.LeftBracket part.Ellipsis (x.rest ++ left) next refl))

dots_first : (text left : List Mark) (k : Key) → (AnyAnns ⨾ Is part.Ellipsis) text
    → front_may part.At k ≡ false → front_may part.Ellipsis k ≡ false
    → here k (text ++ left) ≡ false
dots_first text left k x at dots =
    ap (here k) (regroup x left)
    ∙ annotations_first x.before.0 x.front (x.rest ++ left) k x.before.1
    (ap (λ c. if c then true else false) at)
    (part_key k part.Ellipsis x.rest left x.after dots)

-- ---- both

typed_again : (n : ℕ) (t : TypeTree) (dots : Bool) (text left : List Mark)
    → (BareSpells t ⨾ Ellipsis dots) text → length text ≤ n → Stops typed.goes left
    → typed.read n (text ++ left) ≡ found (t, dots) left
unfolding typed
typed_again n t false text left x few stops =
    let l = both_lengths x in
    let fits : length x.front ≤ n = omega arith in
    let whole : text ++ left ≡ x.front ++ left =
    regroup x left ∙ ap (λ l. x.front ++ (l ++ left)) x.after in
    ap (typed.read n) whole
    ∙ bind_is (λ t. ellipsis_at n t.1 >>= λ e. found (t.0, e.0) e.1)
    (bare_type_law.again n t x.front left x.before fits stops.1)
    (bind_is (λ e. found (t, e.0) e.1) (no_dots n left stops.1.1.1.0 stops.0) refl)
typed_again n t true text left x few stops =
    let l = both_lengths x in
    let fits : length x.front ≤ n = omega arith in
    let fewer : length x.rest ≤ n = omega arith in
    ap (typed.read n) (regroup x left)
    ∙ bind_is (λ t. ellipsis_at n t.1 >>= λ e. found (t.0, e.0) e.1)
    (layer_before n (x.rest ++ left)
    (dots_first x.rest left (Fixed sign.Less) x.after refl refl)
    (dots_first x.rest left (Fixed sign.Dot) x.after refl refl)
    (no_brackets n x.rest left x.after fewer)
    x.before.0 t (out-TypeTree t) x.front (roll-out-TypeTree t) x.before.1 fits)
    (bind_is (λ e. found (t, e.0) e.1) (dots_read n x.rest left x.after fewer) refl)

-- `-` doesn't follow the type
no_minus : (dots : Bool) (text left : List Mark) → Ellipsis dots text
    → comes sign.Minus left ≡ false → comes sign.Minus (text ++ left) ≡ false
no_minus true text left x e = dots_first text left (Fixed sign.Minus) x refl refl
no_minus false text left x e = ap (λ l. comes sign.Minus (l ++ left)) x ∙ e

pub typed_law : Law typed
unfolding typed ellipsis_at
typed_law = record {
  takes = λ n text x left e.
      let p = bound (bare_type.read n text)
      (λ t. ellipsis_at n t.1 >>= λ e. found (t.0, e.0) e.1) x left e in
      let q = bound (ellipsis_at n p.rest) (λ e. found (p.item, e.0) e.1) x left p.second in
      given typed.Spells q.second
      (then_front (bare_type_law.takes n text p.item p.rest p.first)
      (dots_takes n p.rest (comes sign.Ellipsis (behind_annotations n p.rest)) q.item q.rest refl
      q.first));
  again = λ n x text left s few stops. typed_again n x.0 x.1 text left s few stops;
  first = λ x text left k s stops h f.
      ap (here k) (regroup s left)
      ∙ bare_first (TypeWithin s.before.0) (out-TypeTree x.0) s.front (s.rest ++ left) k s.before.1
      (no_minus x.1 s.rest left s.after stops.1.1.1.1.1.0) h;
  some = λ e x text s.
      let l = both_lengths s in
      let m = bare_type_law.some refl x.0 s.front s.before in
      omega arith;
}
