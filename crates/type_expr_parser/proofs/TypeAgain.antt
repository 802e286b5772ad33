-- What is spelled as a type is read, where nothing goes on with it.
use Rattle.std.proofs.Common.{◌≡◌, refl, sym, ◌∙◌, ap, ℕ, zero, suc, ◌≤◌, arith}
use Rattle.std.proofs.Common.{false, List, [], ◌∷◌, ◌++◌, length, append_assoc}
use Rattle.std.proofs.Common.{Option, Some, None, append-nil, length-append}
use Rattle.std.specs.Prelude.{if◌then◌else◌}
use Rattle.java_ast.specs.declared.types.TypeTree.{TypeTree, out-TypeTree}
use Rattle.java_ast.specs.declared.types.TypeTree.TheVariants as tree
use Rattle.java_ast.specs.declared.types.NamePart.{NamePart, out-NamePart}
use Rattle.java_ast.specs.declared.types.ArgTree.{ArgTree}
use Rattle.java_ast.specs.declared.types.ArgTree.TheOpen.{TypeTree-F}
use Rattle.java_ast.specs.declared.types.ArgTree.TheViews.{roll-NamePart, roll-out-NamePart}
use Rattle.java_ast.specs.declared.types.ArgTree.TheViews.{roll-TypeTree, roll-out-TypeTree}
use Rattle.java_ast.specs.declared.annotation.AnnTree.{AnnTree, out-AnnTree}
use Rattle.java_grammar.specs.declared.part.Part.{Part}
use Rattle.java_grammar.specs.declared.part.Part.TheVariants as part
use Rattle.java_grammar.specs.declared.part.Pair.TheVariants as pair
use Rattle.java_grammar.specs.Parts.{part_of}
use Rattle.java_grammar.specs.Marks.{Mark, Single, Line}
use Rattle.java_grammar.specs.Words.{◌⨾◌, Given, Row, Word}
use Rattle.java_grammar.specs.Words.{ClosingAngle}
use Rattle.java_grammar.specs.Reading.{front_part, is_angle, behind_mark}
use Rattle.java_grammar.specs.Expressions.{Dot, TypeLayer}
use Rattle.java_grammar.specs.Annotations.{AnnSpells}
use Rattle.java_grammar.specs.Types.{Dims}
use Rattle.java_grammar.specs.Types.{Args, FurtherPart, NamedLine}
use Rattle.java_grammar.specs.Types.{BaseLine, BareLine, TypeWithin}
use Rattle.java_grammar.specs.declared.sign.Sign.TheVariants as sign
use Rattle.type_expr_parser.specs.Reading.{Read, found, ◌>>=◌, step, prepended, many, many_count}
use Rattle.type_expr_parser.specs.Reading.{front_line, comes, word_at}
use Rattle.type_expr_parser.specs.Names.{with_dims}
use Rattle.type_expr_parser.specs.Annotations.{behind_annotations}
use Rattle.type_expr_parser.specs.Types.{Inner}
use Rattle.type_expr_parser.specs.Types.{arg_list_over, args_over, any_args_over, part_over}
use Rattle.type_expr_parser.specs.Types.{further_part_over, name_of, named_over}
use Rattle.type_expr_parser.specs.Types.{primitive_at, base_by, base_over, dimension_at, bare_over}
use Rattle.type_expr_parser.specs.Types.{type_over, type_at}
use Rattle.type_expr_parser.proofs.Lines.{bind_is, regroup, both_lengths}
use Rattle.type_expr_parser.proofs.Lines.{Rows, many_again}
use Rattle.type_expr_parser.proofs.TokenLaws.{sign_again, sign_missing, word_again, any_line}
use Rattle.type_expr_parser.proofs.TokenLaws.{word_line, on_any_line}
use Rattle.type_expr_parser.proofs.TokenKinds.{part_read, IsWordPart, plain, «sealed», word_is}
use Rattle.type_expr_parser.proofs.ExprAgain.{comes_other}
use Rattle.type_expr_parser.specs.Follows.{TypeEnds}
use Rattle.type_expr_parser.proofs.ArgAgain.{no_annotations, Comes, annotations_before, angle_no}
use Rattle.type_expr_parser.proofs.ArgAgain.{base_bare, bare_begins, type_sign, before_bare}
use Rattle.type_expr_parser.proofs.ArgAgain.{dims_again, Complete, type_parts, args_again}
use Rattle.type_expr_parser.proofs.ArgAgain.{begins_word}

-- ---- parts of a name

no_args : (n : ℕ) (inner : Inner) (left : List Mark) → comes sign.Less left ≡ false
    → any_args_over inner n left ≡ found None left
unfolding any_args_over args_over
no_args n inner left e =
    ap (λ r. step (r >>= λ opening. arg_list_over inner n opening.1 >>= λ ts.
    if is_angle ts.1 then found ts.0 (behind_mark ts.1) else None) (found None left)
    (λ args rest. found (Some args) rest)) (sign_missing sign.Less left e)

given_args : (n : ℕ) (inner : Inner) → Complete n inner → (m : ℕ) (args : Option (List ArgTree))
    (text left : List Mark) → Given (Args (TypeWithin m)) args text → length text ≤ suc n
    → comes sign.Less left ≡ false
    → any_args_over inner n (text ++ left) ≡ found args left
unfolding any_args_over
given_args n inner law m None text left x few e =
    ap (λ l. any_args_over inner n (l ++ left)) x ∙ no_args n inner left e
given_args n inner law m (Some args) text left x few e =
    ap (λ r. step r (found None (text ++ left)) (λ args rest. found (Some args) rest))
    (args_again n inner law m args text left x few)

pub part_again : (n : ℕ) (inner : Inner) → Complete n inner → (m : ℕ) (p : NamePart)
    (text left : List Mark)
    → (Word (out-NamePart p).name ⨾ Given (Args (TypeWithin m)) (out-NamePart p).args) text
    → length text ≤ suc n → comes sign.Less left ≡ false
    → part_over inner n (text ++ left) ≡ found p left
unfolding part_over
part_again n inner law m p text left x few e =
    let layer = out-NamePart p in
    let l = both_lengths x in
    let fits : length x.rest ≤ suc n = omega arith in
    ap (part_over inner n) (regroup x left)
    ∙ bind_is (λ name. any_args_over inner n name.1 >>= λ args.
    found (roll-NamePart (record { name = name.0; args = args.0 })) args.1)
    (word_again layer.name x.front (x.rest ++ left) x.before)
    (bind_is (λ args. found (roll-NamePart (record { name = layer.name; args = args.0 })) args.1)
    (given_args n inner law m layer.args x.rest left x.after fits e)
    (ap (λ q. found q left) (roll-out-NamePart p)))

further_part_again : (n : ℕ) (inner : Inner) → Complete n inner → (m : ℕ) (p : NamePart)
    (text left : List Mark)
    → FurtherPart (TypeWithin m) p text → length text ≤ n → comes sign.Less left ≡ false
    → further_part_over inner n (text ++ left) ≡ found p left
unfolding further_part_over
further_part_again n inner law m p text left x few e =
    let y = x.after in
    let z = y.after in
    let w = z.before in
    let l = both_lengths x in
    let k = both_lengths y in
    let fits : length y.front ≤ n = omega arith in
    let short : length y.rest ≤ suc n = omega arith in
    let behind = y.rest ++ left in
    let s = type_sign (part_of w.token) (begins_word (part_of w.token)
    (word_is w.token _ w.word)) in
    let c : Comes (part_of w.token) behind = record {
      token = w.token;
      rest = z.rest ++ left;
      whole = regroup z left ∙ ap (λ l. l ++ (z.rest ++ left)) w.whole;
      part = refl;
    } in
    let whole : text ++ left ≡ x.front ++ (y.front ++ behind) =
    regroup x left ∙ ap (λ l. x.front ++ l) (regroup y left) in
    ap (further_part_over inner n) whole
    ∙ bind_is (λ dot. part_over inner n (behind_annotations n dot.1))
    (sign_again sign.Dot x.front (y.front ++ behind) x.before)
    (ap (part_over inner n)
    (annotations_before n (part_of w.token) y.front behind y.before fits c s.0 s.1 s.2)
    ∙ part_again n inner law m p y.rest left z short e)

pub part_ends : {b : Line} {text : List Mark} (x : (Dot ⨾ b) text) (left : List Mark)
    → comes sign.Less (text ++ left) ≡ false
part_ends x left =
    ap (comes sign.Less) (regroup x left)
    ∙ comes_other sign.Less part.Dot x.front (x.rest ++ left) x.before refl

part_some : {b : Line} {text : List Mark} (x : (Dot ⨾ b) text) → 1 ≤ length text
part_some x =
    let a = ap length x.before.whole in
    let b = both_lengths x in
    omega arith

pub part_rows : (n : ℕ) (inner : Inner) → Complete n inner → (m : ℕ)
    → Rows (further_part_over inner n) (FurtherPart (TypeWithin m))
    (λ left. comes sign.Less left ≡ false) n
part_rows n inner law m = record {
  again = λ p text left x few e. further_part_again n inner law m p text left x few e;
  next = λ p text left x. part_ends x left;
  some = λ p text x. part_some x;
}

parts_end : (m : ℕ) (parts : List NamePart) (text left : List Mark)
    → Row (FurtherPart (TypeWithin m)) parts text → comes sign.Less left ≡ false
    → comes sign.Less (text ++ left) ≡ false
parts_end m [] text left x e = ap (λ l. comes sign.Less (l ++ left)) x ∙ e
parts_end m (p ∷ parts) text left x e =
    ap (comes sign.Less) (regroup x left) ∙ part_ends x.before (x.rest ++ left)

no_further_part : (n : ℕ) (inner : Inner) (left : List Mark) → comes sign.Dot left ≡ false
    → further_part_over inner n left ≡ None
unfolding further_part_over
no_further_part n inner left e =
    ap (λ r. r >>= λ dot. part_over inner n (behind_annotations n dot.1))
    (sign_missing sign.Dot left e)

named_again : (n : ℕ) (inner : Inner) → Complete n inner → (m line : ℕ) (parts : List NamePart)
    (text left : List Mark) → NamedLine (TypeWithin m) line parts text → length text ≤ suc n
    → comes sign.Less left ≡ false → comes sign.Dot left ≡ false
    → named_over inner n (text ++ left) ≡ found (tree.Named line parts) left
unfolding named_over
named_again n inner law m line [] text left x few less dot = absurd x
named_again n inner law m line (p ∷ parts) text left x few less dot =
    let y = x.1 in
    let z = y.after in
    let layer = out-NamePart p in
    let e = ap length y.before.whole in
    let l = both_lengths y in
    let k = both_lengths z in
    let size = length-append y.front z.front in
    let fits : length (y.front ++ z.front) ≤ suc n = omega arith in
    let fewer : length z.rest ≤ n = omega arith in
    let within : n ≤ n = omega arith in
    let behind = z.rest ++ left in
    let whole : text ++ left ≡ (y.front ++ z.front) ++ behind =
    regroup y left ∙ ap (λ l. y.front ++ l) (regroup z left)
    ∙ sym (append_assoc y.front z.front behind) in
    let first = part_again n inner law m p (y.front ++ z.front) behind (record {
      front = y.front;
      rest = z.front;
      whole = refl;
      before = any_line line layer.name y.front y.before;
      after = z.before;
    }) fits (parts_end m parts z.rest left z.after less) in
    let on : front_line ((y.front ++ z.front) ++ behind) ≡ line =
    ap front_line (append_assoc y.front z.front behind)
    ∙ word_line line layer.name y.front (z.front ++ behind) y.before in
    ap (named_over inner n) whole
    ∙ bind_is (λ f. name_of (front_line ((y.front ++ z.front) ++ behind))
    (prepended (f.0 ∷ []) (many (further_part_over inner n) n f.1))) first
    (ap (λ (r : List NamePart × List Mark).
    name_of (front_line ((y.front ++ z.front) ++ behind)) (prepended (p ∷ []) r))
    (many_again (part_rows n inner law m) n parts z.rest left z.after fewer within less
    (no_further_part n inner left dot))
    ∙ ap (λ v. name_of v (p ∷ parts, left)) on
    ∙ ap (λ b. if b then found (tree.Named line (p ∷ parts)) left else None) x.0)

-- ---- primitive types and names

pub base_word : (inner : Inner) (n : ℕ) (p : Part) (text : List Mark) (r : Read TypeTree)
    → IsWordPart p → front_part text ≡ Some p → named_over inner n text ≡ r
    → base_over inner n text ≡ r
unfolding base_over
base_word inner n p text r plain f h = ap (λ o. base_by inner n o text) f ∙ h
base_word inner n p text r «sealed» f h = ap (λ o. base_by inner n o text) f ∙ h

comes_front : (p : Part) (text : List Mark) → Comes p text → front_part text ≡ Some p
comes_front p text x = ap front_part x.whole ∙ ap Some x.part

pub named_front : (Spells : TypeTree → Line) (line : ℕ) (parts : List NamePart)
    (text left : List Mark)
    → NamedLine Spells line parts text
    → (p : Part) × IsWordPart p × (front_part (text ++ left) ≡ Some p)
named_front Spells line [] text left x = absurd x
named_front Spells line (p ∷ parts) text left x =
    let w = x.1.before in (
      part_of w.token,
      word_is w.token _ w.word,
      ap front_part (regroup x.1 left ∙ ap (λ l. l ++ (x.1.rest ++ left)) w.whole),
    )

pub base_again : (n : ℕ) (inner : Inner) → Complete n inner → (m : ℕ) (t : TypeTree)
    (layer : TypeLayer) (text left : List Mark)
    → roll-TypeTree layer ≡ t → BaseLine (TypeWithin m) layer text → length text ≤ suc n
    → comes sign.Less left ≡ false → comes sign.Dot left ≡ false
    → base_over inner n (text ++ left) ≡ found t left
unfolding base_over primitive_at
base_again n inner law m t TypeTree-F.Void text left is x few less dot = absurd x
base_again n inner law m t (TypeTree-F.Primitive p) text left is x few less dot =
    let r = part_read (part.Primitive p) text left x in
    ap (λ o. base_by inner n o (text ++ left)) r.3
    ∙ bind_is (λ token. found (tree.Primitive p) token.1) r.2
    (ap (λ u. found u left) (sym (tree.rolls-Primitive p) ∙ is))
base_again n inner law m t (TypeTree-F.Named line parts) text left is x few less dot =
    let f = named_front (TypeWithin m) line parts text left x in
    base_word inner n f.0 (text ++ left) _ f.1 f.2
    (named_again n inner law m line parts text left x few less dot
    ∙ ap (λ u. found u left) (sym (tree.rolls-Named line parts) ∙ is))
base_again n inner law m t (TypeTree-F.Array element dims) text left is x few less dot = absurd x

-- ---- types

-- dimensions go on with no name
dims_end : (n k : ℕ) (text left : List Mark) → Dims k text → TypeEnds left
    → (comes sign.Less (text ++ left) ≡ false) × (comes sign.Dot (text ++ left) ≡ false)
dims_end n zero text left x ends = (
  ap (λ l. comes sign.Less (l ++ left)) x ∙ ends.args,
  ap (λ l. comes sign.Dot (l ++ left)) x ∙ ends.part,
)
dims_end n (suc k) text left x ends = by x.front x.before.0 x.before.1 refl
  where
    behind : List Mark
    behind = x.rest ++ left

    by : (front : List Mark) (anns : List AnnTree) → Row AnnSpells anns front → x.front ≡ front
        → (comes sign.Less (text ++ left) ≡ false) × (comes sign.Dot (text ++ left) ≡ false)
    by front [] r e =
        let y = x.after in
        let whole : text ++ left ≡ y.front ++ (y.rest ++ left) =
        regroup x left ∙ ap (λ l. l ++ (x.rest ++ left)) (e ∙ r) ∙ regroup y left in (
          ap (comes sign.Less) whole
              ∙ comes_other sign.Less (part.Opening pair.Brackets) y.front
              (y.rest ++ left) y.before refl,
          ap (comes sign.Dot) whole
              ∙ comes_other sign.Dot (part.Opening pair.Brackets) y.front
              (y.rest ++ left) y.before refl,
        )
    by front (a ∷ anns) r e =
        let z = r.before.1 in
        let at = on_any_line (out-AnnTree a).line part.At z.front z.before in
        let rest = z.rest ++ (r.rest ++ (x.rest ++ left)) in
        let whole : text ++ left ≡ z.front ++ rest =
        regroup x left ∙ ap (λ l. l ++ (x.rest ++ left)) e
        ∙ regroup r (x.rest ++ left) ∙ regroup z (r.rest ++ (x.rest ++ left)) in (
          ap (comes sign.Less) whole ∙ comes_other sign.Less part.At z.front rest at refl,
          ap (comes sign.Dot) whole ∙ comes_other sign.Dot part.At z.front rest at refl,
        )

dims_bare : (n : ℕ) (inner : Inner) → Complete n inner → (m k : ℕ) (element : TypeTree)
    (layer : TypeLayer) (base dims left : List Mark)
    → roll-TypeTree layer ≡ element
    → BaseLine (TypeWithin m) layer base → Dims k dims → length base ≤ suc n → length dims ≤ n
    → TypeEnds left
    → bare_over inner n (base ++ (dims ++ left)) ≡ found (with_dims element k) left
unfolding bare_over
dims_bare n inner law m k element layer base dims left is x y few fewer ends =
    let e = dims_end n k dims left y ends in
    bind_is (λ t. let ds = many_count (dimension_at n) n t.1 in found (with_dims t.0 ds.0) ds.1)
    (base_again n inner law m element layer base (dims ++ left) is x few e.0 e.1)
    (ap (λ (c : ℕ × List Mark). found (with_dims element c.0) c.1)
    (dims_again n k dims left y fewer (ends.dims n)))

pub base_some : (Spells : TypeTree → Line) (layer : TypeLayer) (text : List Mark)
    → BaseLine Spells layer text → 1 ≤ length text
base_some Spells layer text x =
    let b = base_bare Spells layer text x in
    let e = ap length (sym (append-nil text) ∙ (b.next []).whole) in
    omega arith

pub bare_again : (n : ℕ) (inner : Inner) → Complete n inner → (m : ℕ) (t : TypeTree)
    (layer : TypeLayer) (text left : List Mark)
    → roll-TypeTree layer ≡ t → BareLine (TypeWithin m) layer text → length text ≤ suc n
    → TypeEnds left
    → bare_over inner n (text ++ left) ≡ found t left
bare_again n inner law m t TypeTree-F.Void text left is x few ends = absurd x
bare_again n inner law m t (TypeTree-F.Primitive p) text left is x few ends =
    let fewer : 0 ≤ n = omega arith in
    dims_bare n inner law m 0 t (TypeTree-F.Primitive p) text [] left is x refl few fewer ends
bare_again n inner law m t (TypeTree-F.Named line parts) text left is x few ends =
    let fewer : 0 ≤ n = omega arith in
    dims_bare n inner law m 0 t (TypeTree-F.Named line parts) text [] left is x refl few fewer ends
bare_again n inner law m t (TypeTree-F.Array element zero) text left is x few ends = absurd x
bare_again n inner law m t (TypeTree-F.Array element (suc k)) text left is x few ends =
    let some = base_some (TypeWithin m) (out-TypeTree element) x.front x.before in
    let l = both_lengths x in
    let fits : length x.front ≤ suc n = omega arith in
    let fewer : length x.rest ≤ n = omega arith in
    ap (bare_over inner n) (regroup x left)
    ∙ dims_bare n inner law m (suc k) element (out-TypeTree element) x.front x.rest left
    (roll-out-TypeTree element) x.before x.after fits fewer ends
    ∙ ap (λ u. found u left) (sym (tree.rolls-Array element (suc k)) ∙ is)

angle_refuses : (n : ℕ) (inner : Inner) (text left : List Mark) → ClosingAngle text
    → type_over inner n (text ++ left) ≡ None
unfolding type_over bare_over base_over named_over part_over word_at
angle_refuses n inner text left x =
    ap (bare_over inner n) (no_annotations n (text ++ left) (angle_no sign.At text left x))
    ∙ ap (λ l. bare_over inner n (l ++ left)) x.1

pub type_some : (m : ℕ) (t : TypeTree) (text : List Mark) → TypeWithin m t text → 1 ≤ length text
type_some m t text x =
    let p = type_parts m t text x in
    let e = ap length (sym (append-nil p.1) ∙ (p.4.next []).whole) in
    let size = ap length p.2 ∙ length-append p.0 p.1 in
    omega arith

reads_by : (n : ℕ) → Complete n (type_at n) → (m : ℕ) (t : TypeTree) (text left : List Mark)
    → TypeWithin m t text → length text ≤ suc n → TypeEnds left
    → type_over (type_at n) n (text ++ left) ≡ found t left
unfolding TypeWithin type_over
reads_by n law zero t text left x few ends = absurd x
reads_by n law (suc m) t text left x few ends =
    let b = bare_begins (TypeWithin m) (out-TypeTree t) x.rest x.after in
    let c : Comes b.first (x.rest ++ []) = b.next [] in
    let e : length x.rest ≡ length (Single c.token ∷ c.rest) =
    ap length (sym (append-nil x.rest) ∙ c.whole) in
    let l = both_lengths x in
    let fits : length x.front ≤ n = omega arith in
    let fewer : length x.rest ≤ suc n = omega arith in
    ap (λ l. bare_over (type_at n) n (behind_annotations n l)) (regroup x left)
    ∙ ap (bare_over (type_at n) n) (before_bare n x.front x.rest left x.before fits b)
    ∙ bare_again n (type_at n) law m t (out-TypeTree t) x.rest left
    (roll-out-TypeTree t) x.after fewer ends

pub types_read : (n : ℕ) → Complete n (type_at n)
unfolding type_at
types_read zero = record {
  reads = λ m t text left x few ends. let s = type_some m t text x in absurd (omega arith);
  refuses = λ text left x. refl;
}
types_read (suc n) = record {
  reads = reads_by n (types_read n);
  refuses = λ text left x. angle_refuses n (type_at n) text left x;
}
