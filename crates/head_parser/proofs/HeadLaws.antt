-- Heads of declarations: what is read is what the grammar spells.
use Rattle.std.proofs.Common.{◌≡◌, refl, sym, ◌∙◌, ap, subst, ℕ, Bool, true, false, List, [], ◌∷◌}
use Rattle.std.proofs.Common.{◌++◌, inl, inr}
use Rattle.std.specs.Prelude.{if◌then◌else◌, not, ◌&&◌}
use Rattle.java_ast.specs.declared.types.TypeTree.{TypeTree}
use Rattle.java_ast.specs.declared.modifiers.Modifiers.{Modifiers}
use Rattle.java_ast.specs.declared.member.Param.{Param}
use Rattle.java_ast.specs.declared.declaration.DeclKind.{DeclKind}
use Rattle.java_ast.specs.declared.declaration.DeclKind.TheVariants as declares
use Rattle.java_ast.specs.declared.declaration.TypeParam.{TypeParam}
use Rattle.java_ast.specs.SoundUnits.{has_only, is_empty, is_at_most_one}
use Rattle.java_grammar.specs.declared.part.Part.TheVariants as part
use Rattle.java_grammar.specs.declared.sign.Sign.TheVariants as sign
use Rattle.java_grammar.specs.Marks.{Mark, Line}
use Rattle.java_grammar.specs.Signs.{sign_is}
use Rattle.java_grammar.specs.Words.{◌⨾◌, Either, Is, Word, WordOn}
use Rattle.java_grammar.specs.Reading.{behind_mark}
use Rattle.java_grammar.specs.Types.{TypeParams}
use Rattle.java_grammar.specs.Members.{Components}
use Rattle.java_grammar.specs.Modifiers.{ModifiersSpell}
use Rattle.java_grammar.specs.Declarations.{Superclass, Superinterfaces, Implements, Permits}
use Rattle.java_grammar.specs.Declarations.{KindLine, HeadSpells}
use Rattle.type_expr_parser.specs.Reading.{comes}
use Rattle.type_expr_parser.proofs.Lines.{regroup}
use Rattle.productions.specs.Keys.{Key, Fixed, Spelled, Keyword, Annotated, Sealing, NonSealing}
use Rattle.productions.specs.Keys.{Dotted, NoToken, Inside, here, has, AtInterface}
use Rattle.productions.specs.Lists.{typed}
use Rattle.productions.specs.Laws.{Law, Sure}
use Rattle.productions.proofs.Lists.{if_false}
use Rattle.productions.proofs.Fronts.{part_key, sign_key}
use Rattle.productions.proofs.Combining.{a_sign_law, then_law, after_law, made_law, spelled_law}
use Rattle.productions.proofs.Combining.{narrowed_law, picked_law, sign_sure, after_sure, made_sure}
use Rattle.productions.proofs.Leaves.{name_on_law, the_word_law}
use Rattle.productions.proofs.Parentheses.{in_parentheses_law}
use Rattle.head_parser.specs.declared.head.Declared.{Declared}
use Rattle.head_parser.specs.Types.{named, named_types, bounds, param, params, superclass}
use Rattle.head_parser.specs.Types.{superinterfaces, implements, permits}
use Rattle.head_parser.specs.Modifiers.{keyword, sealed_line, non_sealed_line, modifier_line}
use Rattle.head_parser.specs.Modifiers.{modifiers}
use Rattle.head_parser.specs.Formals.{annotated, component}
use Rattle.head_parser.specs.Heads.{layer_of, DeclaredLine, HeadLine, Naming, class_of, class_head}
use Rattle.head_parser.specs.Heads.{interface_of, interface_head, enum_of, enum_head}
use Rattle.head_parser.specs.Heads.{annotation_of, annotation_head, record_word, record_of}
use Rattle.head_parser.specs.Heads.{record_head, declared_line, head_line}
use Rattle.head_parser.proofs.EachOnce.{and_both}
use Rattle.head_parser.proofs.TypeLaws.{params_law, superclass_law, superinterfaces_law}
use Rattle.head_parser.proofs.TypeLaws.{implements_law, permits_law}
use Rattle.head_parser.proofs.ModifierLaws.{modifiers_law}
use Rattle.head_parser.proofs.FormalLaws.{component_law}

-- ---- each kind

pub class_law : Law class_head
unfolding class_head params param bounds named named_types superclass implements permits
class_law =
    made_law class_of
    (after_law (a_sign_law sign.Class)
    (then_law name_on_law
    (then_law params_law
    (then_law superclass_law (then_law implements_law permits_law refl) refl) refl) refl) refl)

pub interface_law : Law interface_head
unfolding interface_head params param bounds named named_types superinterfaces permits
interface_law =
    made_law interface_of
    (after_law (a_sign_law sign.Interface)
    (then_law name_on_law
    (then_law params_law (then_law superinterfaces_law permits_law refl) refl) refl) refl)

pub enum_law : Law enum_head
unfolding enum_head named named_types implements
enum_law =
    made_law enum_of
    (after_law (a_sign_law sign.Enum) (then_law name_on_law implements_law refl) refl)

abbrev AtLine : Naming → Line
AtLine x = Is part.At ⨾ (Is part.Interface ⨾ WordOn x.0 x.1)

at_interface : (x : Naming) (text left : List Mark) → AtLine x text
    → comes sign.Interface (behind_mark (text ++ left)) ≡ true
at_interface x text left s =
    let i = s.after in
    ap (λ l. comes sign.Interface (behind_mark l)) (regroup s left
    ∙ ap (λ l. l ++ (s.rest ++ left)) s.before.whole)
    ∙ ap (comes sign.Interface) (regroup i left)
    ∙ sign_key sign.Interface i.front (i.rest ++ left) i.before

at_first : (x : Naming) (text left : List Mark) (k : Key) → AtLine x text
    → has (AtInterface ∷ []) k ≡ false → here k (text ++ left) ≡ false
at_first x text left k s h = by k h
  where
    behind : List Mark
    behind = s.rest ++ left

    at : (j : Key) → here j (s.front ++ behind) ≡ false → here j (text ++ left) ≡ false
    at j e = ap (here j) (regroup s left) ∙ e

    by : (j : Key) → has (AtInterface ∷ []) j ≡ false → here j (text ++ left) ≡ false
    by (Fixed g) e =
        at (Fixed g) (part_key (Fixed g) part.At s.front behind s.before
        (if_false (sign_is g part.At) false e).0)
    by (Spelled name) e =
        at (Spelled name) (part_key (Spelled name) part.At s.front behind s.before refl)
    by Keyword e = at Keyword (part_key Keyword part.At s.front behind s.before refl)
    by Annotated e =
        ap (λ c. if comes sign.At (text ++ left) then not c else false)
        (at_interface x text left s) ∙ never (comes sign.At (text ++ left))
      where
        never : (c : Bool) → (if c then false else false) ≡ false
        never true = refl
        never false = refl
    by Sealing e = at Sealing (part_key Sealing part.At s.front behind s.before refl)
    by NonSealing e = at NonSealing (part_key NonSealing part.At s.front behind s.before refl)
    by Dotted e = at Dotted (part_key Dotted part.At s.front behind s.before refl)
    by NoToken e = at NoToken (part_key NoToken part.At s.front behind s.before refl)
    by Inside e = absurd cc

pub annotation_law : Law annotation_head
unfolding annotation_head
annotation_law =
    narrowed_law (AtInterface ∷ [])
    (made_law annotation_of
    (after_law (a_sign_law sign.At) (after_law (a_sign_law sign.Interface) name_on_law refl) refl))
    (λ y text left k s stops h f. at_first s.0 text left k s.2 h)

annotation_sure : Sure (Fixed sign.At) annotation_head
unfolding annotation_head
annotation_sure = record {
  comes = λ y text left s stops.
      ap (comes sign.At) (regroup s.2 left)
      ∙ sign_key sign.At s.2.front (s.2.rest ++ left) s.2.before;
}

pub record_law : Law record_head
unfolding record_head params param bounds named named_types component typed implements
record_law =
    made_law record_of
    (after_law (the_word_law record_word)
    (then_law name_on_law
    (then_law params_law
    (then_law (in_parentheses_law component_law refl refl refl refl) implements_law refl) refl)
    refl) refl)

-- ---- as the grammar says it

one_at_most : (types : List TypeTree) (text : List Mark) → Superclass types text
    → is_at_most_one types ≡ true
one_at_most [] text s = refl
one_at_most (t ∷ []) text s = refl
one_at_most (t ∷ u ∷ types) text s = absurd s

empty_is : {X : Type 0} (xs : List X) → is_empty xs ≡ true → xs ≡ []
empty_is [] e = refl
empty_is (x ∷ xs) e = absurd cc

-- what the production says
abbrev Parts : Declared → Line
Parts y = Either (λ l. (x : Naming × (List TypeParam × (List TypeTree × (List TypeTree
    × List TypeTree)))) × (class_of x ≡ y)
    × (Is part.Class ⨾ (WordOn x.0.0 x.0.1 ⨾ (TypeParams x.1.0 ⨾ (Superclass x.1.1.0
    ⨾ (Implements x.1.1.1.0 ⨾ Permits x.1.1.1.1))))) l)
    (Either (λ l. (x : Naming × (List TypeParam × (List TypeTree × List TypeTree)))
    × (interface_of x ≡ y)
    × (Is part.Interface ⨾ (WordOn x.0.0 x.0.1 ⨾ (TypeParams x.1.0 ⨾ (Superinterfaces x.1.1.0
    ⨾ Permits x.1.1.1)))) l)
    (Either (λ l. (x : Naming × List TypeTree) × (enum_of x ≡ y)
    × (Is part.Enum ⨾ (WordOn x.0.0 x.0.1 ⨾ Implements x.1)) l)
    (Either (λ l. (x : Naming) × (annotation_of x ≡ y) × AtLine x l)
    (λ l. (x : Naming × (List TypeParam × (List Param × List TypeTree))) × (record_of x ≡ y)
    × (Word record_word ⨾ (WordOn x.0.0 x.0.1 ⨾ (TypeParams x.1.0 ⨾ (Components x.1.1.0
    ⨾ Implements x.1.1.1)))) l))))

to_declared : (y : Declared) (text : List Mark) → Parts y text → DeclaredLine y text
to_declared y text (inl s) =
    let x = s.2.after.after.after in
    subst (λ z. DeclaredLine z text) s.1
    (s.2, ap (λ b. b && true) (one_at_most s.0.1.1.0 x.front x.before))
to_declared y text (inr (inl s)) = subst (λ z. DeclaredLine z text) s.1 (s.2, refl)
to_declared y text (inr (inr (inl s))) = subst (λ z. DeclaredLine z text) s.1 (s.2, refl)
to_declared y text (inr (inr (inr (inl s)))) = subst (λ z. DeclaredLine z text) s.1 (s.2, refl)
to_declared y text (inr (inr (inr (inr s)))) = subst (λ z. DeclaredLine z text) s.1 (s.2, refl)

-- a head of these parts
abbrev Made : DeclKind → ℕ → List ℕ → List TypeParam → List TypeTree → List TypeTree
    → List TypeTree → List Param → Declared
Made kind line name params extends implements permits components = record {
  kind = kind;
  line = line;
  name = name;
  params = params;
  extends = extends;
  implements = implements;
  permits = permits;
  components = components;
}

of_declared : (kind : DeclKind) (l : ℕ) (n : List ℕ) (ps : List TypeParam)
    (es is ms : List TypeTree) (cs : List Param) (text : List Mark)
    → DeclaredLine (Made kind l n ps es is ms cs) text
    → Parts (Made kind l n ps es is ms cs) text
of_declared declares.Class l n ps es is ms cs text (s, e) =
    let a = and_both (is_at_most_one es) (true && is_empty cs) e in
    let c = empty_is cs a.1 in
    inl (
      ((l, n), (ps, (es, (is, ms)))),
      ap (Made declares.Class l n ps es is ms) (sym c),
      s,
    )
of_declared declares.Interface l n ps es is ms cs text (s, e) =
    let a = and_both (is_empty is) (true && is_empty cs) e in
    let i = empty_is is a.0 in
    let c = empty_is cs a.1 in
    inr (inl (
      ((l, n), (ps, (es, ms))),
      ap (λ j. Made declares.Interface l n ps es j ms []) (sym i)
          ∙ ap (Made declares.Interface l n ps es is ms) (sym c),
      s,
    ))
of_declared declares.Enumeration l n ps es is ms cs text (s, e) =
    let a = and_both (is_empty ps) (is_empty es && (is_empty ms && is_empty cs)) e in
    let b = and_both (is_empty es) (is_empty ms && is_empty cs) a.1 in
    let d = and_both (is_empty ms) (is_empty cs) b.1 in
    let p = empty_is ps a.0 in
    let x = empty_is es b.0 in
    let m = empty_is ms d.0 in
    let c = empty_is cs d.1 in
    inr (inr (inl (
      ((l, n), is),
      ap (λ q. Made declares.Enumeration l n q [] is [] []) (sym p)
          ∙ ap (λ q. Made declares.Enumeration l n ps q is [] []) (sym x)
          ∙ ap (λ q. Made declares.Enumeration l n ps es is q []) (sym m)
          ∙ ap (Made declares.Enumeration l n ps es is ms) (sym c),
      s,
    )))
of_declared declares.Annotation l n ps es is ms cs text (s, e) =
    let a = and_both (is_empty ps)
    (is_empty es && (is_empty is && (is_empty ms && (true && is_empty cs)))) e in
    let b = and_both (is_empty es) (is_empty is && (is_empty ms && (true && is_empty cs))) a.1 in
    let d = and_both (is_empty is) (is_empty ms && (true && is_empty cs)) b.1 in
    let f = and_both (is_empty ms) (true && is_empty cs) d.1 in
    let p = empty_is ps a.0 in
    let x = empty_is es b.0 in
    let i = empty_is is d.0 in
    let m = empty_is ms f.0 in
    let c = empty_is cs f.1 in
    inr (inr (inr (inl (
      (l, n),
      ap (λ q. Made declares.Annotation l n q [] [] [] []) (sym p)
          ∙ ap (λ q. Made declares.Annotation l n ps q [] [] []) (sym x)
          ∙ ap (λ q. Made declares.Annotation l n ps es q [] []) (sym i)
          ∙ ap (λ q. Made declares.Annotation l n ps es is q []) (sym m)
          ∙ ap (Made declares.Annotation l n ps es is ms) (sym c),
      s,
    ))))
of_declared declares.Recorded l n ps es is ms cs text (s, e) =
    let a = and_both (is_empty es) (is_empty ms && true) e in
    let b = and_both (is_empty ms) true a.1 in
    let x = empty_is es a.0 in
    let m = empty_is ms b.0 in
    inr (inr (inr (inr (
      ((l, n), (ps, (cs, is))),
      ap (λ q. Made declares.Recorded l n ps q is [] cs) (sym x)
          ∙ ap (λ q. Made declares.Recorded l n ps es is q cs) (sym m),
      s,
    ))))

pub declared_law : Law declared_line
unfolding declared_line class_head interface_head enum_head annotation_head record_head params param
    bounds named named_types superclass superinterfaces implements permits component typed
declared_law =
    spelled_law
    (picked_law (Fixed sign.Class) class_law
    (picked_law (Fixed sign.Interface) interface_law
    (picked_law (Fixed sign.Enum) enum_law
    (picked_law (Fixed sign.At) annotation_law record_law annotation_sure refl refl)
    (made_sure enum_of (after_sure (then_law name_on_law implements_law refl)
    (sign_sure sign.Enum) refl)) refl refl)
    (made_sure interface_of (after_sure
    (then_law name_on_law
    (then_law params_law (then_law superinterfaces_law permits_law refl) refl) refl)
    (sign_sure sign.Interface) refl)) refl refl)
    (made_sure class_of (after_sure
    (then_law name_on_law
    (then_law params_law
    (then_law superclass_law (then_law implements_law permits_law refl) refl) refl) refl)
    (sign_sure sign.Class) refl)) refl refl)
    (record {
      to = to_declared;
      of = λ y text s.
          of_declared y.kind y.line y.name y.params y.extends y.implements y.permits y.components
          text s;
    })

-- ---- with modifiers

-- the line behind the modifiers, whatever these are
same_line : (mods other : Modifiers) (kind : DeclKind) (y : Declared) (text : List Mark)
    → KindLine kind (layer_of mods y) text → KindLine kind (layer_of other y) text
same_line mods other declares.Class y text s = s
same_line mods other declares.Interface y text s = s
same_line mods other declares.Enumeration y text s = s
same_line mods other declares.Recorded y text s = s
same_line mods other declares.Annotation y text s = s

same_only : (mods other : Modifiers) (kind : DeclKind) (y : Declared)
    → has_only kind (layer_of mods y) ≡ true → has_only kind (layer_of other y) ≡ true
same_only mods other declares.Class y e = e
same_only mods other declares.Interface y e = e
same_only mods other declares.Enumeration y e = e
same_only mods other declares.Recorded y e = e
same_only mods other declares.Annotation y e = e

to_head : (mods : Modifiers) (y : Declared) (text : List Mark)
    → (ModifiersSpell mods ⨾ DeclaredLine y) text → HeadSpells (layer_of mods y) text
to_head mods y text s = record {
  spelled = record {
    front = s.front;
    rest = s.rest;
    whole = s.whole;
    before = s.before;
    after = same_line (annotated []) mods y.kind y s.rest s.after.0;
  };
  only = same_only (annotated []) mods y.kind y s.after.1;
}

of_head : (mods : Modifiers) (y : Declared) (text : List Mark)
    → HeadSpells (layer_of mods y) text → (ModifiersSpell mods ⨾ DeclaredLine y) text
of_head mods y text s =
    let x = s.spelled in
    record {
      front = x.front;
      rest = x.rest;
      whole = x.whole;
      before = x.before;
      after = (
        same_line mods (annotated []) y.kind y x.rest x.after,
        same_only mods (annotated []) y.kind y s.only,
      );
    }

pub head_law : Law head_line
unfolding head_line declared_line class_head interface_head enum_head annotation_head record_head
    params param bounds named named_types superclass superinterfaces implements permits component
    typed modifiers modifier_line sealed_line non_sealed_line keyword
head_law =
    spelled_law (made_law _ (then_law modifiers_law declared_law refl))
    (record {
      to = λ h text s. subst (λ g. HeadLine g text) s.1 (to_head s.0.0 s.0.1 text s.2);
      of = λ h text s. ((h.mods, h.declared), refl, of_head h.mods h.declared text s);
    })
