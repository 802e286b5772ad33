-- Types are read as far as they go: of a type at the front no less is read, whatever stands behind
-- it.
use Rattle.std.proofs.Common.{◌≡◌, refl, sym, ◌∙◌, ap, subst, ℕ, zero, suc, ◌≤◌, arith}
use Rattle.std.proofs.Common.{Bool, true, false, List, [], ◌∷◌, ◌++◌, length, append_assoc}
use Rattle.std.proofs.Common.{Option, Some, None, append-nil, length-append}
use Rattle.std.specs.Prelude.{if◌then◌else◌, not, ◌||◌, ◌&&◌, is_none}
use Rattle.java_ast.specs.declared.types.TypeTree.{TypeTree, out-TypeTree}
use Rattle.java_ast.specs.declared.types.TypeTree.TheVariants as tree
use Rattle.java_ast.specs.declared.types.NamePart.{NamePart, out-NamePart}
use Rattle.java_ast.specs.declared.types.ArgTree.{ArgTree}
use Rattle.java_ast.specs.declared.types.ArgTree.TheOpen.{TypeTree-F}
use Rattle.java_ast.specs.declared.types.ArgTree.TheViews.{roll-NamePart, out-roll-NamePart}
use Rattle.java_ast.specs.declared.types.ArgTree.TheViews.{roll-out-TypeTree}
use Rattle.java_ast.specs.declared.annotation.AnnTree.{AnnTree, out-AnnTree}
use Rattle.java_grammar.specs.declared.part.Part.TheVariants as part
use Rattle.java_grammar.specs.declared.part.Pair.TheVariants as pair
use Rattle.java_grammar.specs.Parts.{part_of, is_sealed_name}
use Rattle.java_grammar.specs.Marks.{Mark, Single}
use Rattle.java_grammar.specs.Words.{◌⨾◌, Given, Row, Word}
use Rattle.java_grammar.specs.Reading.{IsFront}
use Rattle.java_grammar.specs.Expressions.{TypeLayer, PartLayer}
use Rattle.java_grammar.specs.Annotations.{AnnSpells}
use Rattle.java_grammar.specs.Types.{Args, FurtherPart, may_begin as may_begin_with, NamedLine}
use Rattle.java_grammar.specs.Types.{is_empty}
use Rattle.java_grammar.specs.Types.{BaseLine, BareLine, Dims, TypeWithin}
use Rattle.java_grammar.specs.declared.sign.Sign.TheVariants as sign
use Rattle.type_expr_parser.specs.Reading.{Read, found, ◌>>=◌, step, prepended, many, many_count}
use Rattle.type_expr_parser.specs.Reading.{front_line, comes}
use Rattle.type_expr_parser.specs.Names.{with_dims}
use Rattle.type_expr_parser.specs.Annotations.{behind_annotations}
use Rattle.type_expr_parser.specs.Types.{args_over, any_args_over, part_over, further_part_over}
use Rattle.type_expr_parser.specs.Types.{primitive_at, name_of, named_over, base_by, base_over}
use Rattle.type_expr_parser.specs.Types.{dimension_at, bare_over}
use Rattle.type_expr_parser.specs.Types.{type_over, type_at}
use Rattle.type_expr_parser.proofs.Lines.{regroup, both_lengths, bind_is, many_takes}
use Rattle.type_expr_parser.proofs.TokenLaws.{sign_again, word_again, any_line}
use Rattle.type_expr_parser.proofs.TokenLaws.{on_any_line}
use Rattle.type_expr_parser.proofs.TokenKinds.{part_read, word_is}
use Rattle.type_expr_parser.proofs.ExprTakes.{count_is}
use Rattle.type_expr_parser.proofs.ExprAgain.{comes_other}
use Rattle.type_expr_parser.proofs.TypeTakes.{Dimension, args_takes, further_part_takes}
use Rattle.type_expr_parser.proofs.TypeTakes.{dimension_takes, dims_takes, type_takes}
use Rattle.type_expr_parser.proofs.ArgAgain.{Comes, annotations_before, bare_begins, before_bare}
use Rattle.type_expr_parser.proofs.ArgAgain.{type_sign, begins_word, args_again, dimension_rows}
use Rattle.type_expr_parser.proofs.ArgAgain.{dims_row, units}
use Rattle.type_expr_parser.proofs.TypeAgain.{part_again, part_ends, part_rows, base_again}
use Rattle.type_expr_parser.proofs.TypeAgain.{base_word, base_some, named_front, types_read}
use Rattle.type_expr_parser.proofs.Longest.{Longer, further, many_longer}

-- ---- parts

args_longer : (n : ℕ) (left : List Mark) → Longer (any_args_over (type_at n) n left) left
unfolding any_args_over
args_longer n left = by (args_over (type_at n) n left) refl
  where
    by : (r : Read (List ArgTree)) → args_over (type_at n) n left ≡ r
        → Longer (step r (found None left) (λ args rest. found (Some args) rest)) left
    by None e = record { item = None; rest = left; more = []; is = refl; within = refl }
    by (Some x) e =
        let s = args_takes n n (type_at n) (type_takes n) left x.0 x.1 e in
        record { item = Some x.0; rest = x.1; more = s.front; is = refl; within = s.whole }

-- a part that may go on through type arguments, of the same name
pub record PartLonger (name : List ℕ) (read : Read NamePart) (left : List Mark) : Type 0 where
  pub item : NamePart
  pub rest : List Mark
  pub more : List Mark
  pub is : read ≡ found item rest
  pub within : left ≡ more ++ rest
  pub named : (out-NamePart item).name ≡ name

given_longer : (n m : ℕ) (args : Option (List ArgTree)) (text left : List Mark)
    → Given (Args (TypeWithin m)) args text → length text ≤ suc n
    → Longer (any_args_over (type_at n) n (text ++ left)) left
unfolding any_args_over
given_longer n m None text left x few =
    subst (λ l. Longer (any_args_over (type_at n) n (l ++ left)) left) (sym x) (args_longer n left)
given_longer n m (Some args) text left x few = record {
  item = Some args;
  rest = left;
  more = [];
  is = ap (λ r. step r (found None (text ++ left)) (λ args rest. found (Some args) rest))
      (args_again n (type_at n) (types_read n) m args text left x few);
  within = refl;
}

part_longer : (n m : ℕ) (p : NamePart) (text left : List Mark)
    → (Word (out-NamePart p).name ⨾ Given (Args (TypeWithin m)) (out-NamePart p).args) text
    → length text ≤ suc n
    → PartLonger (out-NamePart p).name (part_over (type_at n) n (text ++ left)) left
unfolding part_over
part_longer n m p text left x few =
    let name = (out-NamePart p).name in
    let l = both_lengths x in
    let fits : length x.rest ≤ suc n = omega arith in
    let g = given_longer n m (out-NamePart p).args x.rest left x.after fits in
    let layer : PartLayer = record { name = name; args = g.item } in
    record {
      item = roll-NamePart layer;
      rest = g.rest;
      more = g.more;
      is = ap (part_over (type_at n) n) (regroup x left)
          ∙ bind_is (λ w. any_args_over (type_at n) n w.1 >>= λ args.
          found (roll-NamePart (record { name = w.0; args = args.0 })) args.1)
          (word_again name x.front (x.rest ++ left) x.before)
          (bind_is (λ args. found (roll-NamePart (record { name = name; args = args.0 })) args.1)
          g.is refl);
      within = g.within;
      named = ap (λ (o : PartLayer). o.name) (out-roll-NamePart layer);
    }

further_part_longer : (n m : ℕ) (p : NamePart) (text left : List Mark)
    → FurtherPart (TypeWithin m) p text → length text ≤ n
    → Longer (further_part_over (type_at n) n (text ++ left)) left
unfolding further_part_over
further_part_longer n m p text left x few =
    let y = x.after in
    let z = y.after in
    let w = z.before in
    let l = both_lengths x in
    let k = both_lengths y in
    let fits : length y.front ≤ n = omega arith in
    let short : length y.rest ≤ suc n = omega arith in
    let behind = y.rest ++ left in
    let s = type_sign (part_of w.token) (begins_word (part_of w.token)
    (word_is w.token _ w.word)) in
    let c : Comes (part_of w.token) behind = record {
      token = w.token;
      rest = z.rest ++ left;
      whole = regroup z left ∙ ap (λ l. l ++ (z.rest ++ left)) w.whole;
      part = refl;
    } in
    let g = part_longer n m p y.rest left z short in
    record {
      item = g.item;
      rest = g.rest;
      more = g.more;
      is = ap (further_part_over (type_at n) n)
          (regroup x left ∙ ap (λ l. x.front ++ l) (regroup y left))
          ∙ bind_is (λ dot. part_over (type_at n) n (behind_annotations n dot.1))
          (sign_again sign.Dot x.front (y.front ++ behind) x.before)
          (ap (part_over (type_at n) n)
          (annotations_before n (part_of w.token) y.front behind y.before fits c s.0 s.1 s.2)
          ∙ g.is);
      within = g.within;
    }

parts_sound : (n k : ℕ) (text : List Mark)
    → IsFront (Row (FurtherPart (TypeWithin n)) (many (further_part_over
    (type_at n) n) k text).0) text
    (many (further_part_over (type_at n) n) k text).1
parts_sound n k text =
    many_takes (further_part_over (type_at n) n) (FurtherPart (TypeWithin n))
    (further_part_takes n n (type_at n) (type_takes n)) k text

-- ---- names

not_sealed : (s a : Bool) → (not s || (a && not true)) ≡ true → s ≡ false
not_sealed true true e = absurd (cc)
not_sealed true false e = absurd (cc)
not_sealed false a e = refl

name_begins : (first : NamePart) (others : List NamePart)
    → is_sealed_name (out-NamePart first).name ≡ false
    → may_begin_with (out-NamePart first) others ≡ true
name_begins first others e =
    ap (λ s. not s || (is_none (out-NamePart first).args && not (is_empty others))) e

name_longer : (line : ℕ) (first : NamePart) (others : List NamePart) (rest left more : List Mark)
    (read : Read TypeTree)
    → read ≡ name_of line (first ∷ others, rest)
    → may_begin_with (out-NamePart first) others ≡ true → left ≡ more ++ rest
    → Longer read left
name_longer line first others rest left more read e begins within = record {
  item = tree.Named line (first ∷ others);
  rest = rest;
  more = more;
  is = e ∙ ap (λ b. if b then found (tree.Named line (first ∷ others)) rest else None) begins;
  within = within;
}

named_longer : (n m line : ℕ) (parts : List NamePart) (text left : List Mark)
    → NamedLine (TypeWithin m) line parts text → length text ≤ suc n
    → Longer (named_over (type_at n) n (text ++ left)) left
unfolding named_over
named_longer n m line [] text left x few = absurd x
named_longer n m line (p ∷ []) text left x few =
    let y = x.1 in
    let z = y.after in
    let k = both_lengths y in
    let l = both_lengths z in
    let size = length-append y.front z.front in
    let short : length (y.front ++ z.front) ≤ suc n = omega arith in
    let word = y.front ++ z.front in
    let name = (out-NamePart p).name in
    let g = part_longer n m p word left (record {
      front = y.front;
      rest = z.front;
      whole = refl;
      before = any_line line name y.front y.before;
      after = z.before;
    }) short in
    let others = many (further_part_over (type_at n) n) n g.rest in
    let s = parts_sound n n g.rest in
    let whole : text ++ left ≡ word ++ left =
    regroup y left ∙ ap (λ t. y.front ++ t) (regroup z left)
    ∙ ap (λ t. y.front ++ (z.front ++ (t ++ left))) z.after
    ∙ sym (append_assoc y.front z.front left) in
    let plain : is_sealed_name name ≡ false =
    not_sealed (is_sealed_name name) (is_none (out-NamePart p).args) x.0 in
    name_longer (front_line (word ++ left)) g.item others.0 others.1 left (g.more ++ s.front)
    (named_over (type_at n) n (text ++ left))
    (ap (named_over (type_at n) n) whole
    ∙ bind_is (λ f. name_of (front_line (word ++ left))
    (prepended (f.0 ∷ []) (many (further_part_over (type_at n) n) n f.1))) g.is refl)
    (name_begins g.item others.0 (ap is_sealed_name g.named ∙ plain))
    (further _ g.more s.front g.within s.whole)
named_longer n m line (p ∷ q ∷ parts) text left x few =
    let y = x.1 in
    let z = y.after in
    let e = ap length y.before.whole in
    let k = both_lengths y in
    let l = both_lengths z in
    let size = length-append y.front z.front in
    let short : length (y.front ++ z.front) ≤ suc n = omega arith in
    let fewer : length z.rest ≤ n = omega arith in
    let within : n ≤ n = omega arith in
    let word = y.front ++ z.front in
    let behind = z.rest ++ left in
    let name = (out-NamePart p).name in
    let less : comes sign.Less behind ≡ false =
    ap (comes sign.Less) (regroup z.after left)
    ∙ part_ends z.after.before (z.after.rest ++ left) in
    let first = part_again n (type_at n) (types_read n) m p word behind (record {
      front = y.front;
      rest = z.front;
      whole = refl;
      before = any_line line name y.front y.before;
      after = z.before;
    }) short less in
    let row = many (further_part_over (type_at n) n) n behind in
    let r = many_longer (part_rows n (type_at n) (types_read n) m)
    (λ c t. let s = parts_sound n c t in (s.front, s.whole))
    (λ w t rest v fits. further_part_longer n m w t rest v fits) n q parts z.rest left z.after
    fewer
    within in
    let whole : text ++ left ≡ word ++ behind =
    regroup y left ∙ ap (λ t. y.front ++ t) (regroup z left)
    ∙ sym (append_assoc y.front z.front behind) in
    name_longer (front_line (word ++ behind)) p (r.first ∷ r.others) row.1 left r.more
    (named_over (type_at n) n (text ++ left))
    (ap (named_over (type_at n) n) whole
    ∙ bind_is (λ f. name_of (front_line (word ++ behind))
    (prepended (f.0 ∷ []) (many (further_part_over (type_at n) n) n f.1))) first
    (ap (λ (ps : List NamePart). name_of (front_line (word ++ behind)) (p ∷ ps, row.1)) r.some))
    x.0 r.within

base_longer : (n m : ℕ) (layer : TypeLayer) (text left : List Mark)
    → BaseLine (TypeWithin m) layer text → length text ≤ suc n
    → Longer (base_over (type_at n) n (text ++ left)) left
unfolding base_over primitive_at
base_longer n m TypeTree-F.Void text left x few = absurd x
base_longer n m (TypeTree-F.Primitive p) text left x few =
    let r = part_read (part.Primitive p) text left x in
    record {
      item = tree.Primitive p;
      rest = left;
      more = [];
      is = ap (λ o. base_by (type_at n) n o (text ++ left)) r.3
          ∙ bind_is (λ token. found (tree.Primitive p) token.1) r.2 refl;
      within = refl;
    }
base_longer n m (TypeTree-F.Named line parts) text left x few =
    let f = named_front (TypeWithin m) line parts text left x in
    let l = named_longer n m line parts text left x few in
    record {
      item = l.item;
      rest = l.rest;
      more = l.more;
      is = base_word (type_at n) n f.0 (text ++ left) (found l.item l.rest) f.1 f.2 l.is;
      within = l.within;
    }
base_longer n m (TypeTree-F.Array element dims) text left x few = absurd x

-- ---- dimensions

-- what begins dimensions goes on with no name
dims_front : (k : ℕ) (text left : List Mark) → Dims (suc k) text
    → (comes sign.Less (text ++ left) ≡ false) × (comes sign.Dot (text ++ left) ≡ false)
dims_front k text left x = by x.front x.before.0 x.before.1 refl
  where
    by : (front : List Mark) (anns : List AnnTree) → Row AnnSpells anns front → x.front ≡ front
        → (comes sign.Less (text ++ left) ≡ false) × (comes sign.Dot (text ++ left) ≡ false)
    by front [] r e =
        let y = x.after in
        let whole : text ++ left ≡ y.front ++ (y.rest ++ left) =
        regroup x left ∙ ap (λ l. l ++ (x.rest ++ left)) (e ∙ r) ∙ regroup y left in (
          ap (comes sign.Less) whole
              ∙ comes_other sign.Less (part.Opening pair.Brackets) y.front
              (y.rest ++ left) y.before
              refl,
          ap (comes sign.Dot) whole
              ∙ comes_other sign.Dot (part.Opening pair.Brackets) y.front (y.rest ++ left) y.before
              refl,
        )
    by front (a ∷ anns) r e =
        let z = r.before.1 in
        let at = on_any_line (out-AnnTree a).line part.At z.front z.before in
        let rest = z.rest ++ (r.rest ++ (x.rest ++ left)) in
        let whole : text ++ left ≡ z.front ++ rest =
        regroup x left ∙ ap (λ l. l ++ (x.rest ++ left)) e
        ∙ regroup r (x.rest ++ left) ∙ regroup z (r.rest ++ (x.rest ++ left)) in (
          ap (comes sign.Less) whole ∙ comes_other sign.Less part.At z.front rest at refl,
          ap (comes sign.Dot) whole ∙ comes_other sign.Dot part.At z.front rest at refl,
        )

dims_behind : (n k : ℕ) (text : List Mark)
    → (front : List Mark) × (text ≡ front ++ (many (dimension_at n) k text).1)
dims_behind n k text =
    let s = many_takes (dimension_at n) Dimension (dimension_takes n) k text in (s.front, s.whole)

plain_longer : (n m : ℕ) (layer : TypeLayer) (text left : List Mark)
    → BaseLine (TypeWithin m) layer text → length text ≤ suc n
    → Longer (bare_over (type_at n) n (text ++ left)) left
unfolding bare_over
plain_longer n m layer text left x few =
    let b = base_longer n m layer text left x few in
    let dims = many_count (dimension_at n) n b.rest in
    let s = dims_takes n b.rest in
    record {
      item = with_dims b.item dims.0;
      rest = dims.1;
      more = b.more ++ s.front;
      is = bind_is (λ t. let ds = many_count (dimension_at n) n t.1 in
          found (with_dims t.0 ds.0) ds.1) b.is refl;
      within = further _ b.more s.front b.within s.whole;
    }

array_longer : (n m k : ℕ) (element : TypeTree) (base dims left : List Mark)
    → BaseLine (TypeWithin m) (out-TypeTree element) base → Dims (suc k) dims
    → length base ≤ suc n → length dims ≤ n
    → Longer (bare_over (type_at n) n (base ++ (dims ++ left))) left
unfolding bare_over
array_longer n m k element base dims left x y few fewer =
    let e = dims_front k dims left y in
    let within : n ≤ n = omega arith in
    let row = many (dimension_at n) n (dims ++ left) in
    let r = many_longer (dimension_rows n) (dims_behind n)
    (λ u t rest v fits. record {
      item = u;
      rest = rest;
      more = [];
      is = (dimension_rows n).again u t rest v fits tt;
      within = refl;
    }) n tt (units k) dims left (dims_row (suc k) dims y) fewer within in
    record {
      item = with_dims element (length row.0);
      rest = row.1;
      more = r.more;
      is = bind_is (λ t. let ds = many_count (dimension_at n) n t.1 in
          found (with_dims t.0 ds.0) ds.1)
          (base_again n (type_at n) (types_read n) m element (out-TypeTree element) base
          (dims ++ left) (roll-out-TypeTree element) x few e.0 e.1)
          (ap (λ (c : ℕ × List Mark). found (with_dims element c.0) c.1)
          (count_is (dimension_at n) n (dims ++ left)));
      within = r.within;
    }

bare_longer : (n m : ℕ) (layer : TypeLayer) (text left : List Mark)
    → BareLine (TypeWithin m) layer text → length text ≤ suc n
    → Longer (bare_over (type_at n) n (text ++ left)) left
bare_longer n m TypeTree-F.Void text left x few = absurd x
bare_longer n m (TypeTree-F.Primitive p) text left x few =
    plain_longer n m (TypeTree-F.Primitive p) text left x few
bare_longer n m (TypeTree-F.Named line parts) text left x few =
    plain_longer n m (TypeTree-F.Named line parts) text left x few
bare_longer n m (TypeTree-F.Array element zero) text left x few = absurd x
bare_longer n m (TypeTree-F.Array element (suc k)) text left x few =
    let some = base_some (TypeWithin m) (out-TypeTree element) x.front x.before in
    let l = both_lengths x in
    let fits : length x.front ≤ suc n = omega arith in
    let fewer : length x.rest ≤ n = omega arith in
    subst (λ t. Longer (bare_over (type_at n) n t) left) (sym (regroup x left))
    (array_longer n m k element x.front x.rest left x.before x.after fits fewer)

-- of a type at the front no less is read
pub type_longer : (n m : ℕ) (t : TypeTree) (text left : List Mark) → TypeWithin m t text
    → length text ≤ suc n → Longer (type_over (type_at n) n (text ++ left)) left
unfolding TypeWithin type_over
type_longer n zero t text left x few = absurd x
type_longer n (suc m) t text left x few =
    let b = bare_begins (TypeWithin m) (out-TypeTree t) x.rest x.after in
    let c : Comes b.first (x.rest ++ []) = b.next [] in
    let e : length x.rest ≡ length (Single c.token ∷ c.rest) =
    ap length (sym (append-nil x.rest) ∙ c.whole) in
    let l = both_lengths x in
    let fits : length x.front ≤ n = omega arith in
    let fewer : length x.rest ≤ suc n = omega arith in
    let r = bare_longer n m (out-TypeTree t) x.rest left x.after fewer in
    record {
      item = r.item;
      rest = r.rest;
      more = r.more;
      is = ap (λ l. bare_over (type_at n) n (behind_annotations n l)) (regroup x left)
          ∙ ap (bare_over (type_at n) n) (before_bare n x.front x.rest left x.before fits b)
          ∙ r.is;
      within = r.within;
    }
