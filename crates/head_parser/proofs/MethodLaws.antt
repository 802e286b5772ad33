-- Methods and constructors: what is read is what the grammar spells.
use Rattle.std.proofs.Common.{◌≡◌, refl, sym, ◌∙◌, ap, subst, ℕ, zero, suc, Bool, true, false, List}
use Rattle.std.proofs.Common.{[], ◌∷◌, ◌++◌, Option, Some, None, inl, inr, ◌⊎◌}
use Rattle.std.specs.Prelude.{if◌then◌else◌, not, nat_eq, codes}
use Rattle.std.proofs.lemmas.Cmp.{nat_list_eq_equiv}
use Rattle.std.specs.Cmp.Lexicographic.{same_text}
use lib.Pointwise.{pointwise}
use Rattle.java_ast.specs.declared.types.TypeTree.{TypeTree, out-TypeTree}
use Rattle.java_ast.specs.declared.types.TypeTree.TheVariants as tree
use Rattle.java_ast.specs.declared.types.ArgTree.TheOpen.{TypeTree-F}
use Rattle.java_ast.specs.declared.types.ArgTree.TheViews.{roll-TypeTree, roll-out-TypeTree}
use Rattle.java_ast.specs.declared.types.ArgTree.TheViews.{out-roll-TypeTree}
use Rattle.java_ast.specs.declared.annotation.AnnTree.{AnnTree}
use Rattle.java_ast.specs.declared.annotation.ElemTree.{ElemTree}
use Rattle.java_ast.specs.declared.declaration.TypeParam.{TypeParam}
use Rattle.java_ast.specs.declared.modifiers.Modifiers.{Modifiers}
use Rattle.java_ast.specs.declared.member.MethodDecl.{MethodDecl}
use Rattle.java_ast.specs.declared.member.MethodKind.TheVariants as method
use Rattle.java_ast.specs.declared.member.Param.{Param}
use Rattle.java_grammar.specs.declared.part.Part.TheVariants as part
use Rattle.java_grammar.specs.declared.part.ModifierWord.TheVariants as modifier
use Rattle.java_grammar.specs.declared.sign.Sign.TheVariants as sign
use Rattle.java_grammar.specs.Parts.{part_of}
use Rattle.java_grammar.specs.Signs.{sign_is, sign_part}
use Rattle.java_grammar.specs.Tests.{is_sealed}
use Rattle.java_grammar.specs.Marks.{Mark, Line}
use Rattle.java_grammar.specs.Reading.{front_part, is_group}
use Rattle.java_grammar.specs.Words.{Nothing, ◌⨾◌, Either, Given, Row, Separated, Is, WordOn}
use Rattle.java_grammar.specs.Words.{ClosingAngle, Comma}
use Rattle.java_grammar.specs.Expressions.{TypeLayer}
use Rattle.java_grammar.specs.Annotations.{AnnSpells}
use Rattle.java_grammar.specs.Types.{BareSpells, BareLine, TypeWithin, ParamSpells, TypeParams, Dims}
use Rattle.java_grammar.specs.Modifiers.{ModifiersSpell}
use Rattle.java_grammar.specs.Members.{with_dims, DefaultValue, Generic, Result, Formals}
use Rattle.java_grammar.specs.Members.{Throws, SkippedGroup, Semicolon, MethodSpells}
use Rattle.java_grammar.specs.Members.{ConstructorSpells, CompactSpells}
use Rattle.type_expr_parser.specs.Reading.{comes}
use Rattle.type_expr_parser.proofs.Lines.{to_left, to_right, regroup}
use Rattle.type_expr_parser.proofs.TokenLaws.{any_line}
use Rattle.productions.specs.Keys.{Key, Fixed, Sealing, NonSealing, here, front_may, follows_by}
use Rattle.productions.specs.Keys.{kind_is_word, plain_may, has, Plain}
use Rattle.productions.specs.Laws.{Law}
use Rattle.productions.proofs.Lists.{if_false}
use Rattle.productions.proofs.Fronts.{any_word_key}
use Rattle.productions.proofs.Combining.{a_sign_law, nothing_law, then_law, after_law, before_law}
use Rattle.productions.proofs.Combining.{made_law, checked_law, spelled_law, narrowed_law}
use Rattle.productions.proofs.Combining.{chosen_law, picked_law, sign_sure, after_sure, then_sure}
use Rattle.productions.proofs.Combining.{made_sure}
use Rattle.productions.proofs.Rows.{separated_law}
use Rattle.productions.proofs.Leaves.{name_on_law, angle_law, skipped_group_law, semicolon_law}
use Rattle.productions.proofs.Types.{plain_word, bare_type_law, dimensions_law, value_law}
use Rattle.productions.proofs.Parentheses.{annotation_row_law}
use Rattle.head_parser.specs.Types.{named, named_types, bounds, param, params, throws}
use Rattle.head_parser.specs.Modifiers.{keyword, sealed_line, non_sealed_line, modifier_line}
use Rattle.head_parser.specs.Modifiers.{modifiers}
use Rattle.head_parser.specs.Formals.{outer_this, formal_end, formal, formals}
use Rattle.productions.specs.Lists.{typed}
use Rattle.head_parser.specs.Methods.{some_params, generic, ResultLine, result, default_value, ending}
use Rattle.head_parser.specs.Methods.{is_void_layer, is_void, has_result, MethodParts, method_with}
use Rattle.head_parser.specs.Methods.{method_of, method_tail, method_line, constructor_end, ConstructorParts}
use Rattle.head_parser.specs.Methods.{constructor_with, constructor_of, constructor_line}
use Rattle.head_parser.specs.Methods.{compact_end, compact_with, compact_of, compact_line, block_line}
use Rattle.head_parser.proofs.TypeLaws.{param_law, params_law, throws_law}
use Rattle.head_parser.proofs.ModifierLaws.{modifiers_law}
use Rattle.head_parser.proofs.FormalLaws.{formals_law}

-- ---- type parameters, and the annotations behind them

pub some_params_law : Law some_params
unfolding some_params param bounds named
some_params_law =
    after_law (a_sign_law sign.Less)
    (before_law (separated_law sign.Comma param_law refl refl) angle_law refl) refl

-- what the production says
abbrev Params : List TypeParam → Line
Params ps = Is (sign_part sign.Less) ⨾ (Separated Comma ParamSpells ps ⨾ ClosingAngle)

abbrev GenericParts : List TypeParam × List AnnTree → Line
GenericParts x = Either (Params x.0 ⨾ Row AnnSpells x.1)
    (λ text. (x ≡ ([], [])) × Nothing text)

to_generic : (ps : List TypeParam) (anns : List AnnTree) (text : List Mark)
    → GenericParts (ps, anns) text → Generic ps anns text
to_generic [] anns text (inl s) = absurd s.before.after.before
to_generic [] anns text (inr s) =
    (ap (λ (x : List TypeParam × List AnnTree). x.1) s.0, s.1)
to_generic (p ∷ ps) anns text (inl s) = s
to_generic (p ∷ ps) anns text (inr s) =
    let e : p ∷ ps ≡ [] = ap (λ (x : List TypeParam × List AnnTree). x.0) s.0 in absurd cc

of_generic : (ps : List TypeParam) (anns : List AnnTree) (text : List Mark)
    → Generic ps anns text → GenericParts (ps, anns) text
of_generic [] anns text s =
    inr (ap (λ (l : List AnnTree). ([], l)) s.0, s.1)
of_generic (p ∷ ps) anns text s = inl s

pub generic_law : Law generic
unfolding generic some_params param bounds named
generic_law =
    spelled_law
    (picked_law (Fixed sign.Less) (then_law some_params_law annotation_row_law refl)
    (nothing_law ([], []))
    (then_sure annotation_row_law
    (after_sure (before_law (separated_law sign.Comma param_law refl refl) angle_law refl)
    (sign_sure sign.Less) refl) refl) refl refl)
    (record {
      to = λ x text s. to_generic x.0 x.1 text s;
      of = λ x text s. of_generic x.0 x.1 text s;
    })

-- ---- results

abbrev ResultParts : TypeTree → Line
ResultParts t = Either (λ text. (Unit {0}) × (tree.Void ≡ t) × Is part.Void text) (BareSpells t)

to_result_line : (t : TypeTree) (text : List Mark) → ResultParts t text → ResultLine t text
to_result_line t text (inl s) = inl (s.1, s.2)
to_result_line t text (inr s) = inr s

of_result_line : (t : TypeTree) (text : List Mark) → ResultLine t text → ResultParts t text
of_result_line t text (inl s) = inl (tt, s.0, s.1)
of_result_line t text (inr s) = inr s

pub result_law : Law result
unfolding result
result_law =
    spelled_law
    (picked_law (Fixed sign.Void) (made_law (λ none. tree.Void) (a_sign_law sign.Void))
    bare_type_law (made_sure (λ none. tree.Void) (sign_sure sign.Void)) refl refl)
    (record { to = to_result_line; of = of_result_line })

out_void : out-TypeTree tree.Void ≡ TypeTree-F.Void
out_void = ap out-TypeTree (sym tree.rolls-Void) ∙ out-roll-TypeTree TypeTree-F.Void

no_dims : (t : TypeTree) (dims : ℕ) → is_void t ≡ true → has_result t dims ≡ true → dims ≡ 0
no_dims t zero e h = refl
no_dims t (suc n) e h = let f : not true ≡ true = ap not (sym e) ∙ h in absurd cc

any_dims : (t : TypeTree) (dims : ℕ) → is_void t ≡ false → has_result t dims ≡ true
any_dims t zero e = refl
any_dims t (suc n) e = ap not e

to_result : (t : TypeTree) (dims : ℕ) (layer : TypeLayer) (text : List Mark)
    → out-TypeTree t ≡ layer → has_result t dims ≡ true → ResultLine t text
    → Result layer t dims text
to_result t dims TypeTree-F.Void text e h (inl s) = (no_dims t dims (ap is_void_layer e) h, s.1)
to_result t dims TypeTree-F.Void text e h (inr s) =
    absurd (subst (λ l. BareLine (TypeWithin s.0) l text) e s.1)
to_result t dims (TypeTree-F.Primitive p) text e h (inl s) =
    let f : TypeTree-F.Void ≡ TypeTree-F.Primitive p = sym out_void ∙ ap out-TypeTree s.0 ∙ e in
    absurd cc
to_result t dims (TypeTree-F.Primitive p) text e h (inr s) = s
to_result t dims (TypeTree-F.Named line parts) text e h (inl s) =
    let f : TypeTree-F.Void ≡ TypeTree-F.Named line parts =
    sym out_void ∙ ap out-TypeTree s.0 ∙ e in
    absurd cc
to_result t dims (TypeTree-F.Named line parts) text e h (inr s) = s
to_result t dims (TypeTree-F.Array element n) text e h (inl s) =
    let f : TypeTree-F.Void ≡ TypeTree-F.Array element n =
    sym out_void ∙ ap out-TypeTree s.0 ∙ e in
    absurd cc
to_result t dims (TypeTree-F.Array element n) text e h (inr s) = s

of_result : (t : TypeTree) (dims : ℕ) (layer : TypeLayer) (text : List Mark)
    → out-TypeTree t ≡ layer → Result layer t dims text
    → (has_result t dims ≡ true) × ResultLine t text
of_result t dims TypeTree-F.Void text e s =
    let is : tree.Void ≡ t =
    sym tree.rolls-Void ∙ ap roll-TypeTree (sym e) ∙ roll-out-TypeTree t in
    (ap (has_result t) s.0, inl (is, s.1))
of_result t dims (TypeTree-F.Primitive p) text e s =
    (any_dims t dims (ap is_void_layer e), inr s)
of_result t dims (TypeTree-F.Named line parts) text e s =
    (any_dims t dims (ap is_void_layer e), inr s)
of_result t dims (TypeTree-F.Array element n) text e s =
    (any_dims t dims (ap is_void_layer e), inr s)

-- ---- values and ends

to_default : (o : Option ElemTree) (text : List Mark)
    → Either (λ l. (e : ElemTree) × (Some e ≡ o) × DefaultValue e l)
    (λ l. (o ≡ None) × Nothing l) text
    → Given DefaultValue o text
to_default o text (inl s) = subst (λ p. Given DefaultValue p text) s.1 s.2
to_default o text (inr s) = subst (λ p. Given DefaultValue p text) (sym s.0) s.1

of_default : (o : Option ElemTree) (text : List Mark) → Given DefaultValue o text
    → Either (λ l. (e : ElemTree) × (Some e ≡ o) × DefaultValue e l)
    (λ l. (o ≡ None) × Nothing l) text
of_default None text s = inr (refl, s)
of_default (Some e) text s = inl (e, refl, s)

pub default_value_law : Law default_value
unfolding default_value
default_value_law =
    spelled_law
    (picked_law (Fixed sign.Default) (made_law Some (after_law (a_sign_law sign.Default) value_law
    refl)) (nothing_law None)
    (made_sure Some (after_sure value_law (sign_sure sign.Default) refl)) refl refl)
    (record { to = to_default; of = of_default })

pub ending_law : Law ending
ending_law =
    chosen_law is_group [] skipped_group_law semicolon_law
    (λ none text left s stops. ap (λ l. is_group (l ++ left)) s)
    (λ none text left s keys stops. ap (λ l. is_group (l ++ left)) s)
    refl

-- ---- methods

-- what is read
abbrev Parts : MethodParts → Line
Parts x = ModifiersSpell x.0 ⨾ (Generic x.1.0.0 x.1.0.1 ⨾ (ResultLine x.1.1.0
    ⨾ (WordOn x.1.1.1.0.0 x.1.1.1.0.1 ⨾ (Formals x.1.1.1.1.0 ⨾ (Dims x.1.1.1.1.1.0
    ⨾ (Throws x.1.1.1.1.1.1.0 ⨾ (Given DefaultValue x.1.1.1.1.1.1.1
    ⨾ Either SkippedGroup Semicolon)))))))

same : (a : Line) (text : List Mark) → a text → a text
same a text x = x

-- behind the result
abbrev Behind : MethodParts → Line
Behind x = WordOn x.1.1.1.0.0 x.1.1.1.0.1 ⨾ (Formals x.1.1.1.1.0 ⨾ (Dims x.1.1.1.1.1.0
    ⨾ (Throws x.1.1.1.1.1.1.0 ⨾ (Given DefaultValue x.1.1.1.1.1.1.1
    ⨾ Either SkippedGroup Semicolon))))

method_by : (x : MethodParts) (m : MethodDecl) (text : List Mark) (b : Bool)
    → has_result x.1.1.0 x.1.1.1.1.1.0 ≡ b
    → (if b then Some (method_with x) else None) ≡ Some m → Parts x text → MethodSpells m text
method_by x m text false e h s = absurd cc
method_by x m text true e h s =
    let is : method_with x ≡ m = cc in
    let g = s.after in
    let r = g.after in
    subst (λ n. MethodSpells n text) is (record {
      mods = x.0;
      anns = x.1.0.1;
      base = x.1.1.0;
      dims = x.1.1.1.1.1.0;
      spelled = record {
        front = s.front;
        rest = s.rest;
        whole = s.whole;
        before = s.before;
        after = record {
          front = g.front;
          rest = g.rest;
          whole = g.whole;
          before = g.before;
          after = record {
            front = r.front;
            rest = r.rest;
            whole = r.whole;
            before = to_result x.1.1.0 x.1.1.1.1.1.0 (out-TypeTree x.1.1.0) r.front refl e
                r.before;
            after = r.after;
          };
        };
      };
      kind = refl;
      all_mods = refl;
      result = refl;
    })

abbrev parts_of : (m : MethodDecl) (text : List Mark) → MethodSpells m text → MethodParts
parts_of m text s = (
  s.mods,
  (
    (m.params, s.anns),
    (
      s.base,
      (
        (m.line, m.name),
        (m.formals, (s.dims, (m.throws, m.default_value))),
      ),
    ),
  ),
)

method_is : (m : MethodDecl) (text : List Mark) (s : MethodSpells m text)
    → method_with (parts_of m text s) ≡ m
method_is m text s =
    ap (λ a. record {
      line = m.line;
      mods = a;
      kind = method.Plain;
      params = m.params;
      ret = with_dims s.base s.dims;
      name = m.name;
      formals = m.formals;
      throws = m.throws;
      default_value = m.default_value;
    }) (sym s.all_mods)
    ∙ ap (λ k. record {
      line = m.line;
      mods = m.mods;
      kind = k;
      params = m.params;
      ret = with_dims s.base s.dims;
      name = m.name;
      formals = m.formals;
      throws = m.throws;
      default_value = m.default_value;
    }) (sym s.kind)
    ∙ ap (λ r. record {
      line = m.line;
      mods = m.mods;
      kind = m.kind;
      params = m.params;
      ret = r;
      name = m.name;
      formals = m.formals;
      throws = m.throws;
      default_value = m.default_value;
    }) (sym s.result)

record MethodGiven (m : MethodDecl) (text : List Mark) : Type 0 where
  parts : MethodParts
  checked : method_of parts ≡ Some m
  spelled : Parts parts text

method_given : (m : MethodDecl) (text : List Mark) → MethodSpells m text → MethodGiven m text
method_given m text s =
    let g = s.spelled.after in
    let r = g.after in
    let o = of_result s.base s.dims (out-TypeTree s.base) r.front refl r.before in
    record {
      parts = parts_of m text s;
      checked = ap (λ b. if b then Some (method_with (parts_of m text s)) else None) o.0
          ∙ ap Some (method_is m text s);
      spelled = record {
        front = s.spelled.front;
        rest = s.spelled.rest;
        whole = s.spelled.whole;
        before = s.spelled.before;
        after = record {
          front = g.front;
          rest = g.rest;
          whole = g.whole;
          before = g.before;
          after = record {
            front = r.front;
            rest = r.rest;
            whole = r.whole;
            before = o.1;
            after = r.after;
          };
        };
      };
    }

pub method_tail_law : Law method_tail
unfolding method_tail formals formal formal_end outer_this typed modifier_line sealed_line
    non_sealed_line keyword throws named_types named default_value
method_tail_law =
    then_law formals_law
    (then_law dimensions_law
    (then_law throws_law (before_law default_value_law ending_law refl) refl) refl) refl

pub method_law : Law method_line
unfolding method_line method_tail modifiers modifier_line sealed_line non_sealed_line keyword generic
    some_params param bounds named named_types result formals formal formal_end outer_this typed
    throws default_value
method_law =
    spelled_law
    (checked_law method_of
    (then_law modifiers_law
    (then_law generic_law
    (then_law result_law
    (then_law name_on_law method_tail_law refl) refl) refl) refl))
    (record {
      to = λ m text s.
          method_by s.0 m text (has_result s.0.1.1.0 s.0.1.1.1.1.1.0) refl s.1 s.2;
      of = λ m text s.
          let g = method_given m text s in (g.parts, g.checked, g.spelled);
    })

-- ---- a name before `(`, or before a body

if_any : (b c : Bool) → c ≡ false → (if b then c else false) ≡ false
if_any true c e = e
if_any false c e = refl

plain_name : (k : Key) (line : ℕ) (name : List ℕ) (text behind : List Mark)
    → WordOn line name text → follows_by (front_part behind) ≡ false
    → comes sign.Minus behind ≡ false → plain_may k ≡ false → here k (text ++ behind) ≡ false
plain_name k line name text behind x follows minus h = by (plain_word k h)
  where
    by : (k ≡ Sealing) ⊎ ((k ≡ NonSealing) ⊎ ((front_may part.Word k ≡ false)
        × (front_may part.Sealed k ≡ false))) → here k (text ++ behind) ≡ false
    by (inl e) =
        ap (λ j. here j (text ++ behind)) e
        ∙ ap (λ l. here Sealing (l ++ behind)) x.whole
        ∙ if_any (is_sealed (part_of x.token)) (follows_by (front_part behind)) follows
    by (inr (inl e)) =
        ap (λ j. here j (text ++ behind)) e
        ∙ ap (λ l. here NonSealing (l ++ behind)) x.whole
        ∙ if_any (kind_is_word (codes "non") x.token.kind) (comes sign.Minus behind) minus
    by (inr (inr f)) = any_word_key k name text behind (any_line line name text x) f.0 f.1

constructor_first : (x : (ℕ × List ℕ) × List Param) (text left : List Mark) (k : Key)
    → (WordOn x.0.0 x.0.1 ⨾ Formals x.1) text → has (Plain ∷ []) k ≡ false
    → here k (text ++ left) ≡ false
constructor_first x text left k s h =
    let p = s.after in
    let behind = s.rest ++ left in
    let front : behind ≡ p.front ++ (p.rest ++ left) = regroup p left in
    ap (here k) (regroup s left)
    ∙ plain_name k x.0.0 x.0.1 s.front behind s.before
    (ap (λ l. follows_by (front_part l)) (front
    ∙ ap (λ l. l ++ (p.rest ++ left)) p.before.whole)
    ∙ ap (λ q. follows_by (Some q)) p.before.part)
    (ap (comes sign.Minus) (front ∙ ap (λ l. l ++ (p.rest ++ left)) p.before.whole)
    ∙ ap (λ q. sign_is sign.Minus q) p.before.part)
    (if_false (plain_may k) false h).0

pub constructor_end_law : Law constructor_end
unfolding constructor_end formals formal formal_end outer_this typed modifier_line sealed_line
    non_sealed_line keyword
constructor_end_law =
    narrowed_law (Plain ∷ []) (then_law name_on_law formals_law refl)
    (λ x text left k s stops h f. constructor_first x text left k s h)

compact_first : (x : ℕ × List ℕ) (text left : List Mark) (k : Key)
    → (WordOn x.0 x.1 ⨾ SkippedGroup) text → has (Plain ∷ []) k ≡ false
    → here k (text ++ left) ≡ false
compact_first x text left k s h =
    ap (here k) (regroup s left)
    ∙ plain_name k x.0 x.1 s.front (s.rest ++ left) s.before
    (ap (λ l. follows_by (front_part (l ++ left))) s.after)
    (ap (λ l. comes sign.Minus (l ++ left)) s.after)
    (if_false (plain_may k) false h).0

pub compact_end_law : Law compact_end
unfolding compact_end
compact_end_law =
    narrowed_law (Plain ∷ []) (before_law name_on_law skipped_group_law refl)
    (λ x text left k s stops h f. compact_first x text left k s h)

-- ---- constructors

constructor_by : (name : List ℕ) (x : ConstructorParts) (m : MethodDecl) (text : List Mark)
    (b : Bool) → pointwise nat_eq x.1.1.0.0.1 name ≡ b
    → (if b then Some (constructor_with x) else None) ≡ Some m
    → (ModifiersSpell x.0 ⨾ (TypeParams x.1.0 ⨾ ((WordOn x.1.1.0.0.0 x.1.1.0.0.1
    ⨾ Formals x.1.1.0.1) ⨾ (Throws x.1.1.1 ⨾ SkippedGroup)))) text
    → ConstructorSpells name m text
constructor_by name x m text false e h s = absurd cc
constructor_by name x m text true e h s =
    let is : constructor_with x ≡ m = cc in
    let p = s.after in
    subst (λ n. ConstructorSpells name n text) is (record {
      spelled = record {
        front = s.front;
        rest = s.rest;
        whole = s.whole;
        before = s.before;
        after = record {
          front = p.front;
          rest = p.rest;
          whole = p.whole;
          before = p.before;
          after = subst (λ w. (WordOn x.1.1.0.0.0 w ⨾ (Formals x.1.1.0.1
              ⨾ (Throws x.1.1.1 ⨾ SkippedGroup))) p.rest)
              (same_text x.1.1.0.0.1 name (sym e)) (to_right p.rest p.after);
        };
      };
      kind = refl;
      initialises = (refl, refl, refl);
    })

constructor_is : (name : List ℕ) (m : MethodDecl) (text : List Mark)
    → ConstructorSpells name m text
    → constructor_with (m.mods, (m.params, (((m.line, name), m.formals), m.throws))) ≡ m
constructor_is name m text s =
    ap (λ k. record {
      line = m.line;
      mods = m.mods;
      kind = k;
      params = m.params;
      ret = tree.Void;
      name = codes "<init>";
      formals = m.formals;
      throws = m.throws;
      default_value = None;
    }) (sym s.kind)
    ∙ ap (λ w. record {
      line = m.line;
      mods = m.mods;
      kind = m.kind;
      params = m.params;
      ret = tree.Void;
      name = w;
      formals = m.formals;
      throws = m.throws;
      default_value = None;
    }) (sym s.initialises.0)
    ∙ ap (λ r. record {
      line = m.line;
      mods = m.mods;
      kind = m.kind;
      params = m.params;
      ret = r;
      name = m.name;
      formals = m.formals;
      throws = m.throws;
      default_value = None;
    }) (sym s.initialises.1)
    ∙ ap (λ d. record {
      line = m.line;
      mods = m.mods;
      kind = m.kind;
      params = m.params;
      ret = m.ret;
      name = m.name;
      formals = m.formals;
      throws = m.throws;
      default_value = d;
    }) (sym s.initialises.2)

pub constructor_law : (name : List ℕ) → Law (constructor_line name)
unfolding constructor_line constructor_end modifiers modifier_line sealed_line non_sealed_line
    keyword params param bounds named named_types formals formal formal_end outer_this typed throws
constructor_law name =
    spelled_law
    (checked_law (constructor_of name)
    (then_law modifiers_law
    (then_law params_law
    (then_law constructor_end_law (before_law throws_law skipped_group_law refl) refl) refl) refl))
    (record {
      to = λ m text s.
          constructor_by name s.0 m text (pointwise nat_eq s.0.1.1.0.0.1 name) refl s.1 s.2;
      of = λ m text s.
          let p = s.spelled.after in (
            (m.mods, (m.params, (((m.line, name), m.formals), m.throws))),
            ap (λ b. if b then Some (constructor_with
                (m.mods, (m.params, (((m.line, name), m.formals), m.throws)))) else None)
                (nat_list_eq_equiv.refl name)
                ∙ ap Some (constructor_is name m text s),
            record {
              front = s.spelled.front;
              rest = s.spelled.rest;
              whole = s.spelled.whole;
              before = s.spelled.before;
              after = record {
                front = p.front;
                rest = p.rest;
                whole = p.whole;
                before = p.before;
                after = to_left p.rest p.after;
              };
            },
          );
    })

compact_by : (name : List ℕ) (x : Modifiers × (ℕ × List ℕ)) (m : MethodDecl) (text : List Mark)
    (b : Bool) → pointwise nat_eq x.1.1 name ≡ b
    → (if b then Some (compact_with x) else None) ≡ Some m
    → (ModifiersSpell x.0 ⨾ (WordOn x.1.0 x.1.1 ⨾ SkippedGroup)) text
    → CompactSpells name m text
compact_by name x m text false e h s = absurd cc
compact_by name x m text true e h s =
    let is : compact_with x ≡ m = cc in
    subst (λ n. CompactSpells name n text) is (record {
      spelled = subst (λ w. (ModifiersSpell x.0 ⨾ (WordOn x.1.0 w ⨾ SkippedGroup)) text)
          (same_text x.1.1 name (sym e)) s;
      kind = refl;
      initialises = (refl, refl, refl);
      no_params = refl;
      no_formals = refl;
      no_throws = refl;
    })

compact_is : (name : List ℕ) (m : MethodDecl) (text : List Mark) → CompactSpells name m text
    → compact_with (m.mods, (m.line, name)) ≡ m
compact_is name m text s =
    let a = s.kind in
    let b = s.initialises.0 in
    let c = s.initialises.1 in
    let d = s.initialises.2 in
    let e = s.no_params in
    let f = s.no_formals in
    let g = s.no_throws in
    let is : compact_with (m.mods, (m.line, name)) ≡ record {
      line = m.line;
      mods = m.mods;
      kind = m.kind;
      params = m.params;
      ret = m.ret;
      name = m.name;
      formals = m.formals;
      throws = m.throws;
      default_value = m.default_value;
    } = cc in is

pub compact_law : (name : List ℕ) → Law (compact_line name)
unfolding compact_line compact_end modifiers modifier_line sealed_line non_sealed_line keyword
compact_law name =
    spelled_law
    (checked_law (compact_of name) (then_law modifiers_law compact_end_law refl))
    (record {
      to = λ m text s. compact_by name s.0 m text (pointwise nat_eq s.0.1.1 name) refl s.1 s.2;
      of = λ m text s. (
        (m.mods, (m.line, name)),
        ap (λ b. if b then Some (compact_with (m.mods, (m.line, name))) else None)
            (nat_list_eq_equiv.refl name) ∙ ap Some (compact_is name m text s),
        s.spelled,
      );
    })

-- ---- initialisers

abbrev Static : Line
Static = Is (part.Modifier modifier.Static)

abbrev noted : Unit {0}
noted = tt

abbrev BlockParts : Line
BlockParts = Either Static (λ text. (noted ≡ noted) × Nothing text) ⨾ SkippedGroup

to_static : (text : List Mark) → Either Static (λ l. (noted ≡ noted) × Nothing l) text
    → Either Nothing Static text
to_static text (inl s) = inr s
to_static text (inr s) = inl s.1

of_static : (text : List Mark) → Either Nothing Static text
    → Either Static (λ l. (noted ≡ noted) × Nothing l) text
of_static text (inl s) = inr (refl, s)
of_static text (inr s) = inl s

pub block_law : Law block_line
unfolding block_line
block_law =
    spelled_law
    (after_law (picked_law (Fixed sign.Static) (a_sign_law sign.Static) (nothing_law noted)
    (sign_sure sign.Static) refl refl) skipped_group_law refl)
    (record {
      to = λ none text s. record {
        front = s.front;
        rest = s.rest;
        whole = s.whole;
        before = to_static s.front s.before;
        after = s.after;
      };
      of = λ none text s. record {
        front = s.front;
        rest = s.rest;
        whole = s.whole;
        before = of_static s.front s.before;
        after = s.after;
      };
    })
