-- What is read as a type is spelled as one.
use Rattle.std.proofs.Common.{◌≡◌, refl, sym, ◌∙◌, ap, subst, ℕ, zero, suc, Bool, true, false}
use Rattle.std.proofs.Common.{List, [], ◌∷◌, length, Option, Some, None}
use Rattle.std.specs.Prelude.{if◌then◌else◌}
use Rattle.java_ast.specs.declared.types.TypeTree.{TypeTree, out-TypeTree}
use Rattle.java_ast.specs.declared.types.TypeTree.TheVariants as tree
use Rattle.java_ast.specs.declared.types.NamePart.{NamePart, out-NamePart}
use Rattle.java_ast.specs.declared.types.ArgTree.{ArgTree, out-ArgTree}
use Rattle.java_ast.specs.declared.types.ArgTree.TheVariants as arg
use Rattle.java_ast.specs.declared.types.Primitive.{Primitive}
use Rattle.java_ast.specs.declared.types.ArgTree.TheOpen.{TypeTree-F, ArgTree-F}
use Rattle.java_ast.specs.declared.types.ArgTree.TheViews.{out-roll-ArgTree, roll-NamePart}
use Rattle.java_ast.specs.declared.types.ArgTree.TheViews.{out-roll-NamePart}
use Rattle.java_grammar.specs.declared.part.Part.{Part}
use Rattle.java_grammar.specs.declared.part.Part.TheVariants as part
use Rattle.java_grammar.specs.declared.part.Pair.TheVariants as pair
use Rattle.java_grammar.specs.Marks.{Mark, Single, Angle, Group, Semi, Line}
use Rattle.java_grammar.specs.Words.{◌⨾◌, Given, Row, Is, WordOn}
use Rattle.java_grammar.specs.Words.{ClosingAngle, Comma, PerhapsCommas}
use Rattle.java_grammar.specs.Reading.{front_part, is_angle, behind_mark, IsFront}
use Rattle.java_grammar.specs.Expressions.{TypeLayer, PartLayer}
use Rattle.java_grammar.specs.Annotations.{AnyAnns}
use Rattle.java_grammar.specs.Types.{ArgLayer, Dims, is_primitive, Reference, ArgLine}
use Rattle.java_grammar.specs.Types.{Args, FurtherPart, may_begin as may_begin_with}
use Rattle.java_grammar.specs.Types.{BaseLine, BareLine, TypeWithin, TypeSpells}
use Rattle.java_grammar.specs.declared.sign.Sign.TheVariants as sign
use Rattle.java_grammar.specs.Signs.{sign_part}
use Rattle.type_expr_parser.specs.Reading.{Read, found, ◌>>=◌, step, prepended, many, many_count}
use Rattle.type_expr_parser.specs.Reading.{token_at, front_line, comes, sign_at, word_at}
use Rattle.type_expr_parser.specs.Names.{with_dims}
use Rattle.type_expr_parser.specs.Annotations.{behind_annotations}
use Rattle.type_expr_parser.specs.Types.{Inner, reference_over, extending, super_of, bound_over}
use Rattle.type_expr_parser.specs.Types.{wildcard_over, exact_over, arg_over, further_arg_over}
use Rattle.type_expr_parser.specs.Types.{arg_list_over, args_over, any_args_over, part_over}
use Rattle.type_expr_parser.specs.Types.{further_part_over, name_of, named_over}
use Rattle.type_expr_parser.specs.Types.{primitive_at, base_by, base_over, dimension_at, bare_over}
use Rattle.type_expr_parser.specs.Types.{type_over, type_at}
use Rattle.type_expr_parser.proofs.Lines.{bound, then_front, front_as, no_front}
use Rattle.type_expr_parser.proofs.Lines.{both_as, to_right, from_row, many_takes}
use Rattle.type_expr_parser.proofs.Grammar.{same}
use Rattle.type_expr_parser.proofs.TokenLaws.{sign_takes, sign_comes, word_takes_on, any_line}
use Rattle.type_expr_parser.proofs.TokenKinds.{part_takes}
use Rattle.type_expr_parser.proofs.ExprTakes.{out_type_primitive, out_type_named, out_type_array}
use Rattle.type_expr_parser.proofs.ExprTakes.{count_is, nothing_left}
use Rattle.type_expr_parser.proofs.AnnTakes.{given, annotations_takes}

-- what a reading of types gives is spelled, with fewer than so many types inside each other
abbrev pub Sound : ℕ → Inner → Type 0
Sound m inner = (text : List Mark) (t : TypeTree) (left : List Mark)
    → inner text ≡ found t left → IsFront (TypeWithin m t) text left

-- ---- layers of trees

out_exact : (t : TypeTree) → out-ArgTree (arg.Exact t) ≡ ArgTree-F.Exact t
out_exact t = ap out-ArgTree (sym (arg.rolls-Exact t)) ∙ out-roll-ArgTree _

out_extends : (t : TypeTree) → out-ArgTree (arg.Extends t) ≡ ArgTree-F.Extends t
out_extends t = ap out-ArgTree (sym (arg.rolls-Extends t)) ∙ out-roll-ArgTree _

out_super : (t : TypeTree) → out-ArgTree (arg.Super t) ≡ ArgTree-F.Super t
out_super t = ap out-ArgTree (sym (arg.rolls-Super t)) ∙ out-roll-ArgTree _

out_any : out-ArgTree arg.Any ≡ ArgTree-F.Any
out_any = ap out-ArgTree (sym arg.rolls-Any) ∙ out-roll-ArgTree _

-- ---- type arguments

abbrev ArgSpells : ℕ → ArgTree → Line
ArgSpells m a = ArgLine (TypeWithin m) (out-ArgTree a)

arg_front : (m : ℕ) (a : ArgTree) (layer : ArgLayer) {text left : List Mark}
    → out-ArgTree a ≡ layer → IsFront (ArgLine (TypeWithin m) layer) text left
    → IsFront (ArgSpells m a) text left
arg_front m a layer {text} {left} is x =
    subst (λ (o : ArgLayer). IsFront (ArgLine (TypeWithin m) o) text left) (sym is) x

reference_takes : (m : ℕ) (inner : Inner) → Sound m inner → (text : List Mark) (t : TypeTree)
    (left : List Mark) → reference_over inner text ≡ found t left
    → IsFront (Reference (TypeWithin m) t) text left
unfolding reference_over
reference_takes m inner sound text t left h =
    let b = bound (inner text) (λ type. if is_primitive (out-TypeTree type.0) then None
    else Some type) t left h in
    by b.item b.rest (is_primitive (out-TypeTree b.item)) refl
    (sound text b.item b.rest b.first) b.second
  where
    by : (u : TypeTree) (rest : List Mark) (p : Bool) → is_primitive (out-TypeTree u) ≡ p
        → IsFront (TypeWithin m u) text rest
        → (if p then None else found u rest) ≡ found t left
        → IsFront (Reference (TypeWithin m) t) text left
    by u rest true e x h = absurd (cc)
    by u rest false e x h =
        given (Reference (TypeWithin m)) h (front_as (λ l y. (e, y)) x)

exact_takes : (m : ℕ) (inner : Inner) → Sound m inner → (text : List Mark) (a : ArgTree)
    (left : List Mark) → exact_over inner text ≡ found a left → IsFront (ArgSpells m a) text left
exact_takes m inner sound text a left h =
    let b = bound (reference_over inner text) (λ type. found (arg.Exact type.0) type.1) a left h in
    given (ArgSpells m) b.second
    (arg_front m (arg.Exact b.item) (ArgTree-F.Exact b.item) (out_exact b.item)
    (reference_takes m inner sound text b.item b.rest b.first))

bound_by : (m : ℕ) (inner : Inner) → Sound m inner → (text behind rest : List Mark)
    (a : ArgTree) (left : List Mark) (e s : Bool)
    → IsFront AnyAnns text behind → IsFront (Is part.Question) behind rest
    → comes sign.Extends rest ≡ e → comes sign.Super rest ≡ s
    → (if e then extending inner (behind_mark rest)
    else (if s then super_of inner (behind_mark rest) else found arg.Any rest)) ≡ found a left
    → IsFront (ArgSpells m a) text left
bound_by m inner sound text behind rest a left true s anns question e f h =
    let b = bound (reference_over inner (behind_mark rest)) (λ type.
    found (arg.Extends type.0) type.1) a left h in
    given (ArgSpells m) b.second
    (arg_front m (arg.Extends b.item) (ArgTree-F.Extends b.item) (out_extends b.item)
    (then_front anns (then_front question (then_front (sign_comes sign.Extends rest e)
    (reference_takes m inner sound (behind_mark rest) b.item b.rest b.first)))))
bound_by m inner sound text behind rest a left false true anns question e f h =
    let b = bound (reference_over inner (behind_mark rest)) (λ type.
    found (arg.Super type.0) type.1) a left h in
    given (ArgSpells m) b.second
    (arg_front m (arg.Super b.item) (ArgTree-F.Super b.item) (out_super b.item)
    (then_front anns (then_front question (then_front (sign_comes sign.Super rest f)
    (reference_takes m inner sound (behind_mark rest) b.item b.rest b.first)))))
bound_by m inner sound text behind rest a left false false anns question e f h =
    given (ArgSpells m) h
    (arg_front m arg.Any ArgTree-F.Any out_any (then_front anns question))

arg_by : (m n : ℕ) (inner : Inner) → Sound m inner → (text : List Mark) (a : ArgTree)
    (left : List Mark) (q : Bool)
    → (if q then wildcard_over inner (behind_annotations n text) else exact_over inner text)
    ≡ found a left
    → IsFront (ArgSpells m a) text left
unfolding wildcard_over
arg_by m n inner sound text a left true h =
    let behind = behind_annotations n text in
    let b = bound (sign_at sign.Question behind) (λ question. bound_over inner question.1) a
    left h in
    bound_by m inner sound text behind b.rest a left (comes sign.Extends b.rest)
    (comes sign.Super b.rest) (annotations_takes n text)
    (sign_takes sign.Question behind b.item b.rest b.first) refl refl b.second
arg_by m n inner sound text a left false h = exact_takes m inner sound text a left h

arg_takes : (m n : ℕ) (inner : Inner) → Sound m inner → (text : List Mark) (a : ArgTree)
    (left : List Mark) → arg_over inner n text ≡ found a left → IsFront (ArgSpells m a) text left
unfolding arg_over
arg_takes m n inner sound text a left h =
    arg_by m n inner sound text a left (comes sign.Question (behind_annotations n text)) h

further_arg_takes : (m n : ℕ) (inner : Inner) → Sound m inner → (text : List Mark) (a : ArgTree)
    (left : List Mark) → further_arg_over inner n text ≡ found a left
    → IsFront (Comma ⨾ ArgSpells m a) text left
unfolding further_arg_over
further_arg_takes m n inner sound text a left h =
    let b = bound (sign_at sign.Comma text) (λ comma. arg_over inner n comma.1) a left h in
    then_front (sign_takes sign.Comma text b.item b.rest b.first)
    (arg_takes m n inner sound b.rest a left b.second)

list_by : (m n : ℕ) (inner : Inner) → Sound m inner → (text : List Mark) (r : Read ArgTree)
    (args : List ArgTree) (left : List Mark)
    → arg_over inner n text ≡ r
    → step r (found [] text)
    (λ first rest. Some (prepended (first ∷ []) (many (further_arg_over inner n) n rest)))
    ≡ found args left
    → IsFront (PerhapsCommas (ArgSpells m) args) text left
list_by m n inner sound text None args left v h =
    given (PerhapsCommas (ArgSpells m)) h (no_front text)
list_by m n inner sound text (Some x) args left v h =
    given (PerhapsCommas (ArgSpells m)) h
    (front_as (from_row Comma (ArgSpells m) x.0 (many (further_arg_over inner n) n x.1).0)
    (then_front (arg_takes m n inner sound text x.0 x.1 v)
    (many_takes (further_arg_over inner n) (λ a. Comma ⨾ ArgSpells m a)
    (further_arg_takes m n inner sound) n x.1)))

angle_takes : (text : List Mark) → is_angle text ≡ true
    → IsFront ClosingAngle text (behind_mark text)
angle_takes [] e = absurd (cc)
angle_takes (Single t ∷ text) e = absurd (cc)
angle_takes (Angle more ∷ text) e = record {
  front = Angle more ∷ [];
  whole = refl;
  spelled = (more, refl);
}
angle_takes (Group ∷ text) e = absurd (cc)
angle_takes (Semi ∷ text) e = absurd (cc)

pub args_takes : (m n : ℕ) (inner : Inner) → Sound m inner
    → (text : List Mark) (args : List ArgTree)
    (left : List Mark) → args_over inner n text ≡ found args left
    → IsFront (Args (TypeWithin m) args) text left
unfolding args_over arg_list_over
args_takes m n inner sound text args left h =
    let b = bound (sign_at sign.Less text) (λ opening. arg_list_over inner n opening.1 >>= λ ts.
    if is_angle ts.1 then found ts.0 (behind_mark ts.1) else None) args left h in
    let c = bound (arg_list_over inner n b.rest) (λ ts.
    if is_angle ts.1 then found ts.0 (behind_mark ts.1) else None) args left b.second in
    by b.rest c.item c.rest (is_angle c.rest) refl
    (sign_takes sign.Less text b.item b.rest b.first)
    (list_by m n inner sound b.rest (arg_over inner n b.rest) c.item c.rest refl c.first) c.second
  where
    by : (mid : List Mark) (ts : List ArgTree) (rest : List Mark) (a : Bool) → is_angle rest ≡ a
        → IsFront (Is (sign_part sign.Less)) text mid
        → IsFront (PerhapsCommas (ArgSpells m) ts) mid rest
        → (if a then found ts (behind_mark rest) else None) ≡ found args left
        → IsFront (Args (TypeWithin m) args) text left
    by mid ts rest true e x y h =
        given (Args (TypeWithin m)) h (then_front x (then_front y (angle_takes rest e)))
    by mid ts rest false e x y h = absurd (cc)

any_args_by : (m n : ℕ) (inner : Inner) → Sound m inner → (text : List Mark)
    (r : Read (List ArgTree)) (args : Option (List ArgTree)) (left : List Mark)
    → args_over inner n text ≡ r
    → step r (found None text) (λ args rest. found (Some args) rest) ≡ found args left
    → IsFront (Given (Args (TypeWithin m)) args) text left
any_args_by m n inner sound text None args left v h =
    given (Given (Args (TypeWithin m))) h (no_front text)
any_args_by m n inner sound text (Some x) args left v h =
    given (Given (Args (TypeWithin m))) h (args_takes m n inner sound text x.0 x.1 v)

-- ---- names

abbrev PartLine : ℕ → Line → PartLayer → Line
PartLine m word p = word ⨾ Given (Args (TypeWithin m)) p.args

part_takes_on : (m n : ℕ) (inner : Inner) → Sound m inner → (text : List Mark) (p : NamePart)
    (left : List Mark) → part_over inner n text ≡ found p left
    → IsFront (PartLine m (WordOn (front_line text) (out-NamePart p).name)
    (out-NamePart p)) text left
unfolding part_over any_args_over
part_takes_on m n inner sound text p left h =
    let b = bound (word_at text) (λ name. any_args_over inner n name.1 >>= λ args.
    found (roll-NamePart (record { name = name.0; args = args.0 })) args.1) p left h in
    let c = bound (any_args_over inner n b.rest) (λ args.
    found (roll-NamePart (record { name = b.item; args = args.0 })) args.1) p left b.second in
    let layer : PartLayer = record { name = b.item; args = c.item } in
    let whole = then_front (word_takes_on text b.item b.rest b.first)
    (any_args_by m n inner sound b.rest (args_over inner n b.rest) c.item c.rest refl c.first) in
    given (λ q. PartLine m (WordOn (front_line text) (out-NamePart q).name)
    (out-NamePart q)) c.second
    (subst (λ (o : PartLayer). IsFront (PartLine m (WordOn
    (front_line text) o.name) o) text c.rest)
    (sym (out-roll-NamePart layer)) whole)

pub further_part_takes : (m n : ℕ) (inner : Inner) → Sound m inner
    → (text : List Mark) (p : NamePart)
    (left : List Mark) → further_part_over inner n text ≡ found p left
    → IsFront (FurtherPart (TypeWithin m) p) text left
unfolding further_part_over
further_part_takes m n inner sound text p left h =
    let b = bound (sign_at sign.Dot text) (λ dot. part_over inner n (behind_annotations n dot.1))
    p left h in
    let behind = behind_annotations n b.rest in
    let name = (out-NamePart p).name in
    then_front (sign_takes sign.Dot text b.item b.rest b.first)
    (then_front (annotations_takes n b.rest)
    (front_as (both_as (any_line (front_line behind) name)
    (same (Given (Args (TypeWithin m)) (out-NamePart p).args)))
    (part_takes_on m n inner sound behind p left b.second)))

name_by : (m : ℕ) (line : ℕ) (first : NamePart) (further : List NamePart)
    (text rest : List Mark) (t : TypeTree) (left : List Mark) (b : Bool)
    → may_begin_with (out-NamePart first) further ≡ b
    → IsFront (WordOn line (out-NamePart first).name
    ⨾ (Given (Args (TypeWithin m)) (out-NamePart first).args
    ⨾ Row (FurtherPart (TypeWithin m)) further)) text rest
    → (if b then found (tree.Named line (first ∷ further)) rest else None) ≡ found t left
    → IsFront (BaseLine (TypeWithin m) (out-TypeTree t)) text left
name_by m line first further text rest t left false e x h = absurd (cc)
name_by m line first further text rest t left true e x h =
    given (λ u. BaseLine (TypeWithin m) (out-TypeTree u)) h
    (subst (λ (o : TypeLayer). IsFront (BaseLine (TypeWithin m) o) text rest)
    (sym (out_type_named line (first ∷ further))) (front_as (λ l y. (e, y)) x))

named_takes : (m n : ℕ) (inner : Inner) → Sound m inner → (text : List Mark) (t : TypeTree)
    (left : List Mark) → named_over inner n text ≡ found t left
    → IsFront (BaseLine (TypeWithin m) (out-TypeTree t)) text left
unfolding named_over
named_takes m n inner sound text t left h =
    let b = bound (part_over inner n text) (λ first. name_of (front_line text)
    (prepended (first.0 ∷ []) (many (further_part_over inner n) n first.1))) t left h in
    let more = many (further_part_over inner n) n b.rest in
    name_by m (front_line text) b.item more.0 text more.1 t left
    (may_begin_with (out-NamePart b.item) more.0) refl
    (front_as to_right (then_front (part_takes_on m n inner sound text b.item b.rest b.first)
    (many_takes (further_part_over inner n) (FurtherPart (TypeWithin m))
    (further_part_takes m n inner sound) n b.rest))) b.second

primitive_takes : (m : ℕ) (p : Primitive) (text : List Mark) (t : TypeTree) (left : List Mark)
    → front_part text ≡ Some (part.Primitive p) → primitive_at p text ≡ found t left
    → IsFront (BaseLine (TypeWithin m) (out-TypeTree t)) text left
unfolding primitive_at
primitive_takes m p text t left f h =
    let b = bound (token_at text) (λ token. found (tree.Primitive p) token.1) t left h in
    given (λ u. BaseLine (TypeWithin m) (out-TypeTree u)) b.second
    (subst (λ (o : TypeLayer). IsFront (BaseLine (TypeWithin m) o) text b.rest)
    (sym (out_type_primitive p)) (part_takes (part.Primitive p) text b.item b.rest b.first f))

base_by_takes : (m n : ℕ) (inner : Inner) → Sound m inner → (o : Option Part) (text : List Mark)
    (t : TypeTree) (left : List Mark) → front_part text ≡ o
    → base_by inner n o text ≡ found t left
    → IsFront (BaseLine (TypeWithin m) (out-TypeTree t)) text left
base_by_takes m n inner sound (Some (part.Primitive p)) text t left f h =
    primitive_takes m p text t left f h
base_by_takes m n inner sound None text t left f h = named_takes m n inner sound text t left h
base_by_takes m n inner sound (Some p) text t left f h = named_takes m n inner sound text t left h

-- ---- dimensions

abbrev pub Dimension : Unit {0} → Line
Dimension none = AnyAnns ⨾ (Is (part.Opening pair.Brackets) ⨾ Is (part.Closing pair.Brackets))

pub dimension_takes : (n : ℕ) (text : List Mark) (none : Unit {0}) (left : List Mark)
    → dimension_at n text ≡ found none left → IsFront (Dimension none) text left
unfolding dimension_at
dimension_takes n text none left h =
    let behind = behind_annotations n text in
    let b = bound (sign_at sign.LeftBracket behind) (λ opening.
    sign_at sign.RightBracket opening.1) none left h in
    then_front (annotations_takes n text)
    (then_front (sign_takes sign.LeftBracket behind b.item b.rest b.first)
    (sign_takes sign.RightBracket b.rest none left b.second))

dims_line : (units : List (Unit {0})) (text : List Mark) → Row Dimension units text
    → Dims (length units) text
dims_line [] text x = x
dims_line (u ∷ units) text x =
    let y = to_right text x in
    both_as (same AnyAnns) (λ t z.
    both_as (same (Is (part.Opening pair.Brackets)))
    (both_as (same (Is (part.Closing pair.Brackets))) (dims_line units)) t (to_right t z)) text y

pub dims_takes : (n : ℕ) (text : List Mark)
    → IsFront (Dims (many_count (dimension_at n) n text).0) text (many_count
    (dimension_at n) n text).1
dims_takes n text =
    subst (λ (c : ℕ × List Mark). IsFront (Dims c.0) text c.1)
    (sym (count_is (dimension_at n) n text))
    (front_as (dims_line (many (dimension_at n) n text).0)
    (many_takes (dimension_at n) Dimension (dimension_takes n) n text))

-- ---- types

plain_bare : (m : ℕ) (layer : TypeLayer) (text : List Mark) → BaseLine (TypeWithin m) layer text
    → BareLine (TypeWithin m) layer text
plain_bare m TypeTree-F.Void text x = absurd x
plain_bare m (TypeTree-F.Primitive p) text x = x
plain_bare m (TypeTree-F.Named line parts) text x = x
plain_bare m (TypeTree-F.Array element zero) text x = absurd x
plain_bare m (TypeTree-F.Array element (suc n)) text x = absurd x

bare_type : (m : ℕ) (element : TypeTree) (dims : ℕ) {text mid left : List Mark}
    → IsFront (BaseLine (TypeWithin m) (out-TypeTree element)) text mid
    → IsFront (Dims dims) mid left
    → IsFront (BareLine (TypeWithin m) (out-TypeTree (with_dims element dims))) text left
bare_type m element zero {text} x y =
    subst (λ (l : List Mark). IsFront (BareLine (TypeWithin m) (out-TypeTree element)) text l)
    (nothing_left y) (front_as (plain_bare m (out-TypeTree element)) x)
bare_type m element (suc n) {text} {mid} {left} x y =
    subst (λ (o : TypeLayer). IsFront (BareLine (TypeWithin m) o) text left)
    (sym (out_type_array element (suc n))) (then_front x y)

pub bare_takes : (m n : ℕ) (inner : Inner) → Sound m inner → (text : List Mark) (t : TypeTree)
    (left : List Mark) → bare_over inner n text ≡ found t left
    → IsFront (BareLine (TypeWithin m) (out-TypeTree t)) text left
unfolding bare_over base_over
bare_takes m n inner sound text t left h =
    let b = bound (base_over inner n text) (λ element.
    let dims = many_count (dimension_at n) n element.1 in
    found (with_dims element.0 dims.0) dims.1) t left h in
    let dims = many_count (dimension_at n) n b.rest in
    given (λ u. BareLine (TypeWithin m) (out-TypeTree u)) b.second
    (bare_type m b.item dims.0
    (base_by_takes m n inner sound (front_part text) text b.item b.rest refl b.first)
    (dims_takes n b.rest))

pub type_takes : (n : ℕ) → Sound n (type_at n)
unfolding type_at type_over TypeWithin
type_takes zero text t left h = absurd (cc)
type_takes (suc n) text t left h =
    front_as (λ l x. x) (then_front (annotations_takes n text)
    (bare_takes n n (type_at n) (type_takes n) (behind_annotations n text) t left h))

pub type_spelled : (n : ℕ) (text : List Mark) (t : TypeTree) (left : List Mark)
    → type_at n text ≡ found t left → IsFront (TypeSpells t) text left
type_spelled n text t left h = front_as (λ l x. (n, x)) (type_takes n text t left h)
