-- Laws of types, dimensions and values.
use Rattle.std.proofs.Common.{◌≡◌, refl, sym, ◌∙◌, ap, ℕ, zero, suc, ◌≤◌, arith}
use Rattle.std.proofs.Common.{Bool, true, false, List, [], ◌∷◌, ◌++◌, length, Option, Some, None}
use Rattle.std.proofs.Common.{append-nil, ◌⊎◌, inl, inr}
use Rattle.std.specs.Prelude.{if◌then◌else◌, ◌&&◌, ◌||◌, not, is_none, codes}
use Rattle.java_ast.specs.declared.types.TypeTree.{TypeTree, out-TypeTree}
use Rattle.java_ast.specs.declared.types.NamePart.{NamePart, out-NamePart}
use Rattle.java_ast.specs.declared.types.ArgTree.{ArgTree}
use Rattle.java_ast.specs.declared.types.ArgTree.TheOpen.{TypeTree-F}
use Rattle.java_ast.specs.declared.types.Primitive.{Primitive}
use Rattle.java_ast.specs.declared.types.Primitive.TheVariants as primitive
use Rattle.java_grammar.specs.declared.part.Part.TheVariants as part
use Rattle.java_grammar.specs.declared.part.Pair.TheVariants as pair
use Rattle.java_grammar.specs.declared.sign.Sign.TheVariants as sign
use Rattle.java_ast.specs.declared.expression.BinOp.TheVariants as binary
use Rattle.java_grammar.specs.Parts.{part_of, kind_part, is_sealed_name}
use Rattle.java_grammar.specs.Signs.{sign_is}
use Rattle.java_grammar.specs.Tests.{is_sealed}
use Rattle.java_grammar.specs.Marks.{Mark, Single, Angle, Group, Semi, Line}
use Rattle.java_grammar.specs.Words.{◌⨾◌, Given, Row, WordOn}
use Rattle.java_grammar.specs.Reading.{front_part}
use Rattle.java_grammar.specs.Expressions.{TypeLayer, PartLayer}
use Rattle.java_grammar.specs.Types.{Args, FurtherPart, Dims, may_begin, is_empty, NamedLine}
use Rattle.java_grammar.specs.Types.{BaseLine, BareLine, TypeWithin}
use Rattle.type_expr_parser.specs.Reading.{comes, operator_at}
use Rattle.type_expr_parser.specs.Follows.{Ends, TypeEnds}
use Rattle.type_expr_parser.specs.Types.{type_at}
use Rattle.type_expr_parser.proofs.Lines.{front_as, regroup}
use Rattle.type_expr_parser.proofs.TokenLaws.{any_line}
use Rattle.type_expr_parser.proofs.AnnTakes.{given, value_takes}
use Rattle.type_expr_parser.proofs.AnnAgain.{values_read}
use Rattle.type_expr_parser.proofs.ElementAgain.{value_begins, value_some}
use Rattle.type_expr_parser.proofs.ArgAgain.{no_dimension, bare_begins, dims_again}
use Rattle.type_expr_parser.proofs.TypeTakes.{type_spelled, bare_takes, type_takes, dims_takes}
use Rattle.type_expr_parser.proofs.TypeAgain.{types_read, type_some, bare_again}
use Rattle.java_ast.specs.declared.types.ArgTree.TheViews.{roll-out-TypeTree}
use Rattle.productions.specs.Keys.{Key, Fixed, Spelled, Keyword, Annotated, Sealing, NonSealing}
use Rattle.productions.specs.Keys.{Dotted, NoToken, Inside, here, Stops, has, front_may, Plain}
use Rattle.productions.specs.Keys.{primitives, follows_by, kind_is_word, plain_may}
use Rattle.productions.specs.Leaves.{any_type, bare_type, dimensions, value}
use Rattle.productions.specs.Laws.{Law}
use Rattle.productions.proofs.Lists.{if_false}
use Rattle.productions.proofs.Fronts.{part_key, any_word_key}
use Rattle.productions.proofs.Leaves.{annotations_first}

-- ---- what stands behind the first word of a type

-- neither type arguments, nor a further part, nor a dimension begins with `-`
args_no_minus : (Inner : TypeTree → Line) (args : Option (List ArgTree)) (text left : List Mark)
    → Given (Args Inner) args text → comes sign.Minus left ≡ false
    → comes sign.Minus (text ++ left) ≡ false
args_no_minus Inner None text left s e = ap (λ l. comes sign.Minus (l ++ left)) s ∙ e
args_no_minus Inner (Some args) text left s e =
    ap (comes sign.Minus) (regroup s left)
    ∙ part_key (Fixed sign.Minus) (part.Binary binary.Less) s.front (s.rest ++ left) s.before refl

parts_no_minus : (Inner : TypeTree → Line) (parts : List NamePart) (text left : List Mark)
    → Row (FurtherPart Inner) parts text → comes sign.Minus left ≡ false
    → comes sign.Minus (text ++ left) ≡ false
parts_no_minus Inner [] text left s e = ap (λ l. comes sign.Minus (l ++ left)) s ∙ e
parts_no_minus Inner (p ∷ parts) text left s e =
    let d = s.before in
    ap (comes sign.Minus) (regroup s left ∙ regroup d (s.rest ++ left))
    ∙ part_key (Fixed sign.Minus) part.Dot d.front (d.rest ++ (s.rest ++ left)) d.before refl

pub dims_first : (n : ℕ) (text left : List Mark) (k : Key) → Dims n text
    → front_may part.At k ≡ false → front_may (part.Opening pair.Brackets) k ≡ false
    → here k left ≡ false → here k (text ++ left) ≡ false
dims_first zero text left k s at bracket e = ap (λ l. here k (l ++ left)) s ∙ e
dims_first (suc n) text left k s at bracket e =
    let b = s.after in
    ap (here k) (regroup s left)
    ∙ annotations_first s.before.0 s.front (s.rest ++ left) k s.before.1
    (ap (λ c. if c then true else false) at)
    (ap (here k) (regroup b left)
    ∙ part_key k (part.Opening pair.Brackets) b.front (b.rest ++ left) b.before bracket)

-- ---- with what a type begins

-- `sealed` begins a type only before `.`
sealed_type : (Inner : TypeTree → Line) (p : PartLayer) (parts : List NamePart) (b : Bool)
    (args row left : List Mark) → is_sealed_name p.name ≡ b → may_begin p parts ≡ true
    → Given (Args Inner) p.args args → Row (FurtherPart Inner) parts row
    → (if is_sealed (if b then part.Sealed else part.Word)
    then follows_by (front_part (args ++ (row ++ left))) else false) ≡ false
sealed_type Inner p parts false args row left e m g r = refl
sealed_type Inner p parts true args row left e m g r =
    let h : (is_none p.args && not (is_empty parts)) ≡ true =
    sym (ap (λ c. not c || (is_none p.args && not (is_empty parts))) e) ∙ m in
    by p.args parts h g r
  where
    by : (o : Option (List ArgTree)) (ps : List NamePart)
        → (is_none o && not (is_empty ps)) ≡ true → Given (Args Inner) o args
        → Row (FurtherPart Inner) ps row
        → follows_by (front_part (args ++ (row ++ left))) ≡ false
    by (Some a) ps h g r = absurd cc
    by None [] h g r = absurd cc
    by None (q ∷ ps) h g r =
        let d = r.before in
        let dot = d.before in
        ap (λ l. follows_by (front_part (l ++ (row ++ left)))) g
        ∙ ap (λ l. follows_by (front_part l)) (regroup r left ∙ regroup d (r.rest ++ left)
        ∙ ap (λ l. l ++ (d.rest ++ (r.rest ++ left))) dot.whole)
        ∙ ap (λ q. follows_by (Some q)) dot.part

pub plain_word : (k : Key) → plain_may k ≡ false
    → (k ≡ Sealing) ⊎ ((k ≡ NonSealing) ⊎ ((front_may part.Word k ≡ false)
    × (front_may part.Sealed k ≡ false)))
plain_word (Fixed s) e =
    let f = if_false (sign_is s part.Word) (sign_is s part.Sealed) e in inr (inr f)
plain_word (Spelled name) e = absurd cc
plain_word Keyword e = inr (inr (refl, refl))
plain_word Annotated e = inr (inr (refl, refl))
plain_word Sealing e = inl refl
plain_word NonSealing e = inr (inl refl)
plain_word Dotted e = inr (inr (refl, refl))
plain_word NoToken e = inr (inr (refl, refl))
plain_word Inside e = absurd cc

named_first : (Inner : TypeTree → Line) (line : ℕ) (parts : List NamePart)
    (text left : List Mark) (k : Key) → NamedLine Inner line parts text
    → comes sign.Minus left ≡ false → plain_may k ≡ false → here k (text ++ left) ≡ false
unfolding part_of
named_first Inner line [] text left k s minus h = absurd s
named_first Inner line (p ∷ parts) text left k s minus h =
    by (plain_word k h)
  where
    x : (WordOn line (out-NamePart p).name
        ⨾ (Given (Args Inner) (out-NamePart p).args ⨾ Row (FurtherPart Inner) parts)) text
    x = s.1

    behind : List Mark
    behind = x.after.front ++ (x.after.rest ++ left)

    whole : text ++ left ≡ Single x.before.token ∷ behind
    whole = regroup x left ∙ ap (λ l. l ++ (x.rest ++ left)) x.before.whole
        ∙ ap (λ l. Single x.before.token ∷ l) (regroup x.after left)

    by : (k ≡ Sealing) ⊎ ((k ≡ NonSealing) ⊎ ((front_may part.Word k ≡ false)
        × (front_may part.Sealed k ≡ false))) → here k (text ++ left) ≡ false
    by (inl e) =
        ap (λ j. here j (text ++ left)) e ∙ ap (here Sealing) whole
        ∙ ap (λ q. if is_sealed (kind_part q) then follows_by (front_part behind) else false)
        x.before.word
        ∙ sealed_type Inner (out-NamePart p) parts (is_sealed_name (out-NamePart p).name)
        x.after.front x.after.rest left refl s.0 x.after.before x.after.after
    by (inr (inl e)) =
        ap (λ j. here j (text ++ left)) e ∙ ap (here NonSealing) whole
        ∙ no_minus (kind_is_word (codes "non") x.before.token.kind) (comes sign.Minus behind)
        (args_no_minus Inner (out-NamePart p).args x.after.front (x.after.rest ++ left)
        x.after.before (parts_no_minus Inner parts x.after.rest left x.after.after minus))
      where
        no_minus : (b c : Bool) → c ≡ false → (if b then c else false) ≡ false
        no_minus true c e = e
        no_minus false c e = refl
    by (inr (inr f)) =
        ap (here k) (regroup x left)
        ∙ any_word_key k (out-NamePart p).name x.front (x.rest ++ left)
        (any_line line (out-NamePart p).name x.front x.before) f.0 f.1

primitive_may : (p : Primitive) (k : Key) → has primitives k ≡ false
    → front_may (part.Primitive p) k ≡ false
primitive_may p k h =
    let a = if_false (front_may (part.Primitive primitive.Boolean) k) _ h in
    let b = if_false (front_may (part.Primitive primitive.Byte) k) _ a.1 in
    let c = if_false (front_may (part.Primitive primitive.Short) k) _ b.1 in
    let d = if_false (front_may (part.Primitive primitive.Int) k) _ c.1 in
    let e = if_false (front_may (part.Primitive primitive.Long) k) _ d.1 in
    let f = if_false (front_may (part.Primitive primitive.Char) k) _ e.1 in
    let g = if_false (front_may (part.Primitive primitive.Float) k) _ f.1 in
    let i = if_false (front_may (part.Primitive primitive.Double) k) _ g.1 in
    by p a.0 b.0 c.0 d.0 e.0 f.0 g.0 i.0
  where
    by : (q : Primitive) → front_may (part.Primitive primitive.Boolean) k ≡ false
        → front_may (part.Primitive primitive.Byte) k ≡ false
        → front_may (part.Primitive primitive.Short) k ≡ false
        → front_may (part.Primitive primitive.Int) k ≡ false
        → front_may (part.Primitive primitive.Long) k ≡ false
        → front_may (part.Primitive primitive.Char) k ≡ false
        → front_may (part.Primitive primitive.Float) k ≡ false
        → front_may (part.Primitive primitive.Double) k ≡ false
        → front_may (part.Primitive q) k ≡ false
    by primitive.Boolean a b c d e f g i = a
    by primitive.Byte a b c d e f g i = b
    by primitive.Short a b c d e f g i = c
    by primitive.Int a b c d e f g i = d
    by primitive.Long a b c d e f g i = e
    by primitive.Char a b c d e f g i = f
    by primitive.Float a b c d e f g i = g
    by primitive.Double a b c d e f g i = i

base_first : (Inner : TypeTree → Line) (layer : TypeLayer) (text left : List Mark) (k : Key)
    → BaseLine Inner layer text → comes sign.Minus left ≡ false
    → has (Plain ∷ primitives) k ≡ false → here k (text ++ left) ≡ false
base_first Inner TypeTree-F.Void text left k s minus h = absurd s
base_first Inner (TypeTree-F.Primitive p) text left k s minus h =
    let f = if_false (plain_may k) (has primitives k) h in
    part_key k (part.Primitive p) text left s (primitive_may p k f.1)
base_first Inner (TypeTree-F.Named line parts) text left k s minus h =
    let f = if_false (plain_may k) (has primitives k) h in
    named_first Inner line parts text left k s minus f.0
base_first Inner (TypeTree-F.Array element dims) text left k s minus h = absurd s

pub bare_first : (Inner : TypeTree → Line) (layer : TypeLayer) (text left : List Mark) (k : Key)
    → BareLine Inner layer text → comes sign.Minus left ≡ false
    → has (Plain ∷ primitives) k ≡ false → here k (text ++ left) ≡ false
bare_first Inner TypeTree-F.Void text left k s minus h = absurd s
bare_first Inner (TypeTree-F.Primitive p) text left k s minus h =
    base_first Inner (TypeTree-F.Primitive p) text left k s minus h
bare_first Inner (TypeTree-F.Named line parts) text left k s minus h =
    base_first Inner (TypeTree-F.Named line parts) text left k s minus h
bare_first Inner (TypeTree-F.Array element zero) text left k s minus h = absurd s
bare_first Inner (TypeTree-F.Array element (suc n)) text left k s minus h =
    ap (here k) (regroup s left)
    ∙ base_first Inner (out-TypeTree element) s.front (s.rest ++ left) k s.before
    (dims_first (suc n) s.rest left (Fixed sign.Minus) s.after refl refl minus) h

-- ---- laws

type_ends : (left : List Mark) → Stops any_type.goes left → TypeEnds left
type_ends left s = record {
  args = s.0;
  part = s.1.0;
  dims = λ n. no_dimension n left s.1.1.0 s.1.1.1.0;
}

type_first : (m : ℕ) (t : TypeTree) (text left : List Mark) (k : Key) → TypeWithin m t text
    → comes sign.Minus left ≡ false → has any_type.begins k ≡ false
    → here k (text ++ left) ≡ false
unfolding TypeWithin
type_first zero t text left k s minus h = absurd s
type_first (suc m) t text left k s minus h =
    let f = if_false (front_may part.At k) (has (Plain ∷ primitives) k) h in
    ap (here k) (regroup s left)
    ∙ annotations_first s.before.0 s.front (s.rest ++ left) k s.before.1
    (ap (λ c. if c then true else false) f.0)
    (bare_first (TypeWithin m) (out-TypeTree t) s.rest left k s.after minus f.1)

pub any_type_law : Law any_type
any_type_law = record {
  takes = type_spelled;
  again = λ n t text left s few stops.
      (types_read n).reads s.0 t text left s.1 few (type_ends left stops);
  first = λ t text left k s stops h f. type_first s.0 t text left k s.1 stops.1.1.1.1.0 h;
  some = λ e t text s. type_some s.0 t text s.1;
}

pub bare_type_law : Law bare_type
bare_type_law = record {
  takes = λ n text t left h.
      front_as (λ l x. (n, x)) (bare_takes n n (type_at n) (type_takes n) text t left h);
  again = λ n t text left s few stops.
      let fits : length text ≤ suc n = omega arith in
      bare_again n (type_at n) (types_read n) s.0 t (out-TypeTree t) text left
      (roll-out-TypeTree t) s.1 fits (type_ends left stops);
  first = λ t text left k s stops h f.
      bare_first (TypeWithin s.0) (out-TypeTree t) text left k s.1 stops.1.1.1.1.0 h;
  some = λ e t text s.
      let b = bare_begins (TypeWithin s.0) (out-TypeTree t) text s.1 in
      let c = b.next [] in
      let l = ap length c.whole in
      let m = ap length (append-nil text) in
      omega arith;
}

pub dimensions_law : Law dimensions
dimensions_law = record {
  takes = λ n text k left h. given dimensions.Spells h (dims_takes n text);
  again = λ n k text left s few stops.
      ap Some (dims_again n k text left s few (no_dimension n left stops.0 stops.1.0));
  first = λ n text left k s stops h f.
      let g = if_false (front_may part.At k) _ h in
      let b = if_false (front_may (part.Opening pair.Brackets) k) false g.1 in
      dims_first n text left k s g.0 b.0 (f refl);
  some = λ e k text s. absurd cc;
}

value_ends : (left : List Mark) → here Inside left ≡ false → Ends 11 left
unfolding operator_at
value_ends [] e = record {
  operator = λ op rest h. absurd cc;
  operand = refl;
  goes = refl;
  question = λ h. refl;
}
value_ends (Single t ∷ left) e = absurd cc
value_ends (Angle more ∷ left) e = absurd cc
value_ends (Group ∷ left) e = record {
  operator = λ op rest h. absurd cc;
  operand = refl;
  goes = refl;
  question = λ h. refl;
}
value_ends (Semi ∷ left) e = record {
  operator = λ op rest h. absurd cc;
  operand = refl;
  goes = refl;
  question = λ h. refl;
}

pub value_law : Law value
value_law = record {
  takes = λ n text e left h. front_as (λ l x. (n, x)) (value_takes n text e left h);
  again = λ n e text left s few stops.
      (values_read n).reads s.0 e text left s.1 few (value_ends left stops.0);
  first = λ e text left k s stops h f. absurd cc;
  some = λ c e text s. value_some (value_begins s.0 e text s.1);
}
