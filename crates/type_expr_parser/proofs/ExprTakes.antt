-- What is read as an expression is spelled as one.
use Rattle.std.proofs.Common.{◌≡◌, refl, sym, ◌∙◌, ap, subst, ℕ, zero, suc}
use Rattle.std.proofs.Common.{Bool, true, false, List, [], ◌∷◌, ◌++◌, length, map}
use Rattle.std.proofs.Common.{Option, Some, None}
use Rattle.std.specs.Prelude.{nat_le, if◌then◌else◌}
use Rattle.java_token.specs.declared.token.Token.{Token}
use Rattle.java_ast.specs.declared.types.TypeTree.{TypeTree, out-TypeTree}
use Rattle.java_ast.specs.declared.types.TypeTree.TheVariants as tree
use Rattle.java_ast.specs.declared.types.NamePart.{NamePart}
use Rattle.java_ast.specs.declared.types.Primitive.{Primitive}
use Rattle.java_ast.specs.declared.types.ArgTree.TheOpen.{TypeTree-F}
use Rattle.java_ast.specs.declared.types.ArgTree.TheViews.{out-roll-TypeTree}
use Rattle.java_ast.specs.declared.expression.Expr.{Expr, out-Expr}
use Rattle.java_ast.specs.declared.expression.Expr.TheVariants as expr
use Rattle.java_ast.specs.declared.expression.Expr.TheOpen.{Expr-F}
use Rattle.java_ast.specs.declared.expression.Expr.TheViews.{out-roll-Expr}
use Rattle.java_ast.specs.declared.expression.Link.{Link}
use Rattle.java_ast.specs.declared.expression.Lit.{Lit}
use Rattle.java_ast.specs.declared.expression.UnOp.{UnOp}
use Rattle.java_grammar.specs.declared.part.Part.TheVariants as part
use Rattle.java_grammar.specs.declared.part.Pair.TheVariants as pair
use Rattle.java_grammar.specs.Marks.{Mark, Single, Line}
use Rattle.java_grammar.specs.Words.{Nothing, ◌⨾◌, Row, Is}
use Rattle.java_grammar.specs.Reading.{front_part, IsFront}
use Rattle.java_grammar.specs.Expressions.{primary}
use Rattle.java_grammar.specs.Expressions.{TypeLayer, BracketPairs}
use Rattle.java_grammar.specs.Expressions.{PlainBase, LiteralType}
use Rattle.java_grammar.specs.Expressions.{NodeLine, level_of, ExprWithin}
use Rattle.java_grammar.specs.declared.sign.Sign.TheVariants as sign
use Rattle.type_expr_parser.specs.Reading.{Read, found, ◌>>=◌, step, prepended, many, many_count}
use Rattle.type_expr_parser.specs.Reading.{token_at}
use Rattle.type_expr_parser.specs.Reading.{front_line, sign_at}
use Rattle.type_expr_parser.specs.Names.{qname_at, bracket_pair_at, plain_part, plain_type}
use Rattle.type_expr_parser.specs.Names.{with_dims}
use Rattle.type_expr_parser.specs.Literals.{literal_in, literal_at, class_literal_at, goes_on}
use Rattle.type_expr_parser.specs.Literals.{primitive_class_at, void_class_at, behind_name}
use Rattle.type_expr_parser.specs.Literals.{named_at}
use Rattle.type_expr_parser.proofs.Lines.{value_is, left_is, bound, then_front, front_as, both_as}
use Rattle.type_expr_parser.proofs.Lines.{to_right, many_takes}
use Rattle.type_expr_parser.proofs.TokenLaws.{sign_takes}
use Rattle.type_expr_parser.proofs.NameLaws.{qname_takes, plain_takes}
use Rattle.type_expr_parser.proofs.Grammar.{same, of_node}
use Rattle.type_expr_parser.proofs.TokenKinds.{part_takes, literal_is, next_is}

-- ---- layers of trees

pub out_type_primitive : (p : Primitive) → out-TypeTree (tree.Primitive p) ≡ TypeTree-F.Primitive p
out_type_primitive p = ap out-TypeTree (sym (tree.rolls-Primitive p)) ∙ out-roll-TypeTree _

pub out_type_named : (line : ℕ) (parts : List NamePart)
    → out-TypeTree (tree.Named line parts) ≡ TypeTree-F.Named line parts
out_type_named line parts = ap out-TypeTree (sym (tree.rolls-Named line parts))
    ∙ out-roll-TypeTree _

pub out_type_void : out-TypeTree tree.Void ≡ TypeTree-F.Void
out_type_void = ap out-TypeTree (sym tree.rolls-Void) ∙ out-roll-TypeTree _

pub out_type_array : (element : TypeTree) (dims : ℕ)
    → out-TypeTree (tree.Array element dims) ≡ TypeTree-F.Array element dims
out_type_array element dims =
    ap out-TypeTree (sym (tree.rolls-Array element dims)) ∙ out-roll-TypeTree _

pub out_literal : (l : Lit) → out-Expr (expr.Lit l) ≡ Expr-F.Lit l
out_literal l = ap out-Expr (sym (expr.rolls-Lit l)) ∙ out-roll-Expr _

pub out_name : (words : List (List ℕ)) → out-Expr (expr.Name words) ≡ Expr-F.Name words
out_name words = ap out-Expr (sym (expr.rolls-Name words)) ∙ out-roll-Expr _

pub out_class : (type : TypeTree) → out-Expr (expr.ClassLit type) ≡ Expr-F.ClassLit type
out_class type = ap out-Expr (sym (expr.rolls-ClassLit type)) ∙ out-roll-Expr _

pub out_unary : (op : UnOp) (e : Expr) → out-Expr (expr.Unary op e) ≡ Expr-F.Unary op e
out_unary op e = ap out-Expr (sym (expr.rolls-Unary op e)) ∙ out-roll-Expr _

pub out_cast : (type : TypeTree) (e : Expr) → out-Expr (expr.Cast type e) ≡ Expr-F.Cast type e
out_cast type e = ap out-Expr (sym (expr.rolls-Cast type e)) ∙ out-roll-Expr _

pub out_chain : (e : Expr) (links : List Link) → out-Expr
    (expr.Chain e links) ≡ Expr-F.Chain e links
out_chain e links = ap out-Expr (sym (expr.rolls-Chain e links)) ∙ out-roll-Expr _

pub out_conditional : (a b c : Expr) → out-Expr (expr.Cond a b c) ≡ Expr-F.Cond a b c
out_conditional a b c = ap out-Expr (sym (expr.rolls-Cond a b c)) ∙ out-roll-Expr _

-- a front of a node
pub node_front : (n level : ℕ) (e : Expr) (node : Expr-F Expr Link) {text left : List Mark}
    → out-Expr e ≡ node → nat_le level (level_of node) ≡ true
    → IsFront (NodeLine (ExprWithin n) node) text left
    → IsFront (ExprWithin (suc n) level e) text left
node_front n level e node is le x = front_as (λ t y. of_node n level e node t is le y) x

-- ---- pairs of brackets

abbrev pub BracketPair : Unit {0} → Line
BracketPair none = Is (part.Opening pair.Brackets) ⨾ Is (part.Closing pair.Brackets)

pair_takes : (text : List Mark) (none : Unit {0}) (left : List Mark)
    → bracket_pair_at text ≡ Some (none, left) → IsFront (BracketPair none) text left
unfolding bracket_pair_at
pair_takes text none left e =
    let b = bound (sign_at sign.LeftBracket text) (λ opening. sign_at sign.RightBracket opening.1)
    none left e in
    then_front (sign_takes sign.LeftBracket text b.item b.rest b.first)
    (sign_takes sign.RightBracket b.rest none left b.second)

pub pairs_line : (pairs : List (Unit {0})) (text : List Mark) → Row BracketPair pairs text
    → BracketPairs (length pairs) text
pairs_line [] text x = x
pairs_line (p ∷ pairs) text x =
    let y = to_right text x in
    both_as (same (Is (part.Opening pair.Brackets)))
    (both_as (same (Is (part.Closing pair.Brackets))) (pairs_line pairs)) text y

abbrev counts : {A : Type 0} → List A × List Mark → ℕ × List Mark
counts r = (length r.0, r.1)

count_step : {A : Type 0} (item : List Mark → Read A) (n : ℕ) (text : List Mark) (r : Read A)
    → ((rest : List Mark) → many_count item n rest ≡ counts (many item n rest))
    → ◌≡◌ {A = ℕ × List Mark}
    (step r (0, text) (λ x rest. (suc (many_count item n rest).0, (many_count item n rest).1)))
    (counts (step r ([], text) (λ x rest. prepended (x ∷ []) (many item n rest))))
count_step item n text None more = refl
count_step item n text (Some x) more =
    ap (λ (p : ℕ × List Mark). (suc p.0, p.1)) (more x.1)

pub count_is : {A : Type 0} (item : List Mark → Read A) (n : ℕ) (text : List Mark)
    → many_count item n text ≡ (length (many item n text).0, (many item n text).1)
unfolding many many_count
count_is item zero text = refl
count_is item (suc n) text = count_step item n text (item text) (count_is item n)

pairs_takes : (n : ℕ) (text : List Mark)
    → IsFront (BracketPairs (many_count bracket_pair_at n text).0) text
    (many_count bracket_pair_at n text).1
pairs_takes n text =
    subst (λ (c : ℕ × List Mark). IsFront (BracketPairs c.0) text c.1)
    (sym (count_is bracket_pair_at n text))
    (front_as (pairs_line (many bracket_pair_at n text).0)
    (many_takes bracket_pair_at BracketPair pair_takes n text))

-- ---- class literals

plain_literal : (layer : TypeLayer) (text : List Mark) → PlainBase layer text
    → LiteralType layer text
plain_literal TypeTree-F.Void text x = absurd x
plain_literal (TypeTree-F.Primitive p) text x = x
plain_literal (TypeTree-F.Named line parts) text x = x
plain_literal (TypeTree-F.Array element zero) text x = absurd x
plain_literal (TypeTree-F.Array element (suc n)) text x = absurd x

pub nothing_left : {text left : List Mark} → IsFront Nothing text left → text ≡ left
nothing_left {left} x = x.whole ∙ ap (λ l. l ++ left) x.spelled

literal_type : (element : TypeTree) (dims : ℕ) {text mid left : List Mark}
    → IsFront (PlainBase (out-TypeTree element)) text mid → IsFront (BracketPairs dims) mid left
    → IsFront (LiteralType (out-TypeTree (with_dims element dims))) text left
literal_type element zero {text} x y =
    subst (λ (l : List Mark). IsFront (LiteralType (out-TypeTree element)) text l) (nothing_left y)
    (front_as (plain_literal (out-TypeTree element)) x)
literal_type element (suc n) {text} {mid} {left} x y =
    subst (λ (o : TypeLayer). IsFront (LiteralType o) text left)
    (sym (out_type_array element (suc n))) (then_front x y)

pub class_takes : (m n : ℕ) (element : TypeTree) (text mid : List Mark) (e : Expr)
    (left : List Mark)
    → IsFront (PlainBase (out-TypeTree element)) text mid
    → class_literal_at element n mid ≡ Some (e, left)
    → IsFront (ExprWithin (suc m) primary e) text left
unfolding class_literal_at
class_takes m n element text mid e left x h =
    let dims = many_count bracket_pair_at n mid in
    let type = with_dims element dims.0 in
    let b = bound (sign_at sign.Dot dims.1)
    (λ dot. sign_at sign.Class dot.1 >>= λ word. Some (expr.ClassLit type, word.1)) e left h in
    let c = bound (sign_at sign.Class b.rest) (λ word. Some (expr.ClassLit type, word.1)) e left
    b.second in
    let is : expr.ClassLit type ≡ e = value_is c.second in
    let same_left : c.rest ≡ left = left_is c.second in
    let whole = then_front (literal_type element dims.0 x (pairs_takes n mid))
    (then_front (sign_takes sign.Dot dims.1 b.item b.rest b.first)
    (sign_takes sign.Class b.rest c.item c.rest c.first)) in
    subst (λ (l : List Mark). IsFront (ExprWithin (suc m) primary e) text l) same_left
    (subst (λ (o : Expr). IsFront (ExprWithin (suc m) primary o) text c.rest) is
    (node_front m primary (expr.ClassLit type) (Expr-F.ClassLit type) (out_class type) refl whole))

named_by : (m n : ℕ) (text rest : List Mark) (words : List (List ℕ)) (e : Expr) (left : List Mark)
    (goes : Bool)
    → qname_at n text ≡ Some (words, rest)
    → (if goes then class_literal_at (plain_type (front_line text) words) n rest
    else Some (expr.Name words, rest)) ≡ Some (e, left)
    → IsFront (ExprWithin (suc m) primary e) text left
named_by m n text rest words e left true q h =
    let type = plain_type (front_line text) words in
    let base : IsFront (PlainBase (out-TypeTree type)) text rest =
    subst (λ (o : TypeLayer). IsFront (PlainBase o) text rest)
    (sym (out_type_named (front_line text) (map plain_part words)))
    (plain_takes n text words rest q) in
    class_takes m n type text rest e left base h
named_by m n text rest words e left false q h =
    let is : expr.Name words ≡ e = value_is h in
    let same_left : rest ≡ left = left_is h in
    subst (λ (l : List Mark). IsFront (ExprWithin (suc m) primary e) text l) same_left
    (subst (λ (o : Expr). IsFront (ExprWithin (suc m) primary o) text rest) is
    (node_front m primary (expr.Name words) (Expr-F.Name words) (out_name words) refl
    (qname_takes n text words rest q)))

pub named_takes : (m n : ℕ) (text : List Mark) (e : Expr) (left : List Mark)
    → named_at n text ≡ Some (e, left) → IsFront (ExprWithin (suc m) primary e) text left
unfolding named_at behind_name
named_takes m n text e left h =
    let b = bound (qname_at n text) (λ words. behind_name (front_line text) words.0 n words.1)
    e left h in
    named_by m n text b.rest b.item e left (goes_on b.rest) b.first b.second

pub primitive_takes : (m n : ℕ) (p : Primitive) (text : List Mark) (e : Expr) (left : List Mark)
    → front_part text ≡ Some (part.Primitive p)
    → primitive_class_at p n text ≡ Some (e, left)
    → IsFront (ExprWithin (suc m) primary e) text left
unfolding primitive_class_at
primitive_takes m n p text e left f h =
    let b = bound (token_at text) (λ token. class_literal_at (tree.Primitive p) n token.1)
    e left h in
    let base : IsFront (PlainBase (out-TypeTree (tree.Primitive p))) text b.rest =
    subst (λ (o : TypeLayer). IsFront (PlainBase o) text b.rest) (sym (out_type_primitive p))
    (part_takes (part.Primitive p) text b.item b.rest b.first f) in
    class_takes m n (tree.Primitive p) text b.rest e left base b.second

pub void_takes : (m : ℕ) (text : List Mark) (e : Expr) (left : List Mark)
    → front_part text ≡ Some part.Void
    → void_class_at text ≡ Some (e, left)
    → IsFront (ExprWithin (suc m) primary e) text left
unfolding void_class_at
void_takes m text e left f h =
    let b = bound (token_at text) (λ token. sign_at sign.Dot token.1 >>= λ dot.
    sign_at sign.Class dot.1 >>= λ word. Some (expr.ClassLit tree.Void, word.1)) e left h in
    let c = bound (sign_at sign.Dot b.rest) (λ dot.
    sign_at sign.Class dot.1 >>= λ word. Some (expr.ClassLit tree.Void, word.1)) e left
    b.second in
    let d = bound (sign_at sign.Class c.rest) (λ word. Some (expr.ClassLit tree.Void, word.1))
    e left c.second in
    let is : expr.ClassLit tree.Void ≡ e = value_is d.second in
    let same_left : d.rest ≡ left = left_is d.second in
    let type : IsFront (LiteralType (out-TypeTree tree.Void)) text b.rest =
    subst (λ (o : TypeLayer). IsFront (LiteralType o) text b.rest) (sym out_type_void)
    (part_takes part.Void text b.item b.rest b.first f) in
    let whole = then_front type (then_front (sign_takes sign.Dot b.rest c.item c.rest c.first)
    (sign_takes sign.Class c.rest d.item d.rest d.first)) in
    subst (λ (l : List Mark). IsFront (ExprWithin (suc m) primary e) text l) same_left
    (subst (λ (o : Expr). IsFront (ExprWithin (suc m) primary o) text d.rest) is
    (node_front m primary (expr.ClassLit tree.Void) (Expr-F.ClassLit tree.Void)
    (out_class tree.Void) refl whole))

literal_by : (m : ℕ) (text rest : List Mark) (t : Token) (o : Option Lit) (e : Expr)
    (left : List Mark)
    → token_at text ≡ Some (t, rest) → literal_in t.kind ≡ o
    → (o >>= λ l. found (expr.Lit l) rest) ≡ found e left
    → IsFront (ExprWithin (suc m) primary e) text left
literal_by m text rest t None e left h o g = absurd cc
literal_by m text rest t (Some l) e left h o g =
    let is : expr.Lit l ≡ e = value_is g in
    let same_left : rest ≡ left = left_is g in
    subst (λ (r : List Mark). IsFront (ExprWithin (suc m) primary e) text r) same_left
    (subst (λ (v : Expr). IsFront (ExprWithin (suc m) primary v) text rest) is
    (node_front m primary (expr.Lit l) (Expr-F.Lit l) (out_literal l) refl (record {
      front = Single t ∷ [];
      whole = (next_is text t rest h).is;
      spelled = record { token = t; whole = refl; is = literal_is t.kind l t refl o };
    })))

pub literal_takes : (m : ℕ) (text : List Mark) (e : Expr) (left : List Mark)
    → literal_at text ≡ Some (e, left) → IsFront (ExprWithin (suc m) primary e) text left
unfolding literal_at
literal_takes m text e left h =
    let b = bound (token_at text) (λ token. literal_in token.0.kind >>= λ l.
    Some (expr.Lit l, token.1)) e left h in
    literal_by m text b.rest b.item (literal_in b.item.kind) e left b.first refl b.second
