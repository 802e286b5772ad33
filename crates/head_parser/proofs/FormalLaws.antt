-- Formal parameters and components: what is read is what the grammar spells.
use Rattle.std.proofs.Common.{◌≡◌, refl, sym, ◌∙◌, ap, subst, ℕ, zero, suc}
use Rattle.std.proofs.Common.{Bool, true, false, List, [], ◌∷◌, ◌++◌, Option, Some, None}
use Rattle.std.proofs.Common.{append-nil, append_assoc, inl, inr, ◌⊎◌}
use Rattle.std.specs.Prelude.{not, ◌&&◌, if◌then◌else◌}
use Rattle.std.specs.List.{list_all}
use Rattle.java_ast.specs.declared.types.TypeTree.{TypeTree}
use Rattle.java_ast.specs.declared.annotation.AnnTree.{AnnTree}
use Rattle.java_ast.specs.declared.modifiers.Modifiers.{Modifiers}
use Rattle.java_ast.specs.declared.member.Param.{Param}
use Rattle.java_grammar.specs.declared.modifier.Modifier.{Modifier}
use Rattle.java_grammar.specs.declared.modifier.Modifier.TheVariants as item
use Rattle.java_grammar.specs.declared.part.Part.TheVariants as part
use Rattle.java_grammar.specs.declared.sign.Sign.TheVariants as sign
use Rattle.java_grammar.specs.Marks.{Mark, Line}
use Rattle.java_grammar.specs.Signs.{sign_is}
use Rattle.java_grammar.specs.Parts.{part_of, kind_part, is_sealed_name}
use Rattle.java_grammar.specs.Tests.{is_word}
use Rattle.java_grammar.specs.Reading.{front_part, behind_mark}
use Rattle.java_grammar.specs.Words.{Nothing, ◌⨾◌, Either, Perhaps, Row, Is, Word, WordOn}
use Rattle.java_grammar.specs.Expressions.{Dot}
use Rattle.java_grammar.specs.Annotations.{AnnSpells, AnyAnns}
use Rattle.java_grammar.specs.Types.{BareSpells, TypeWithin, Dims}
use Rattle.java_grammar.specs.Modifiers.{ModifierLine, is_annotation}
use Rattle.java_grammar.specs.Members.{Ellipsis, AnyType, AnyWord}
use Rattle.java_grammar.specs.Members.{Receiver, ComponentSpells}
use Rattle.type_expr_parser.specs.Reading.{◌>>=◌, comes}
use Rattle.type_expr_parser.proofs.Lines.{both_as, to_left, to_right, regroup}
use Rattle.type_expr_parser.proofs.TokenLaws.{any_line}
use Rattle.productions.specs.Keys.{Fixed, word_by}
use Rattle.productions.specs.Leaves.{name}
use Rattle.productions.specs.Lists.{typed}
use Rattle.productions.specs.Laws.{Law}
use Rattle.productions.proofs.Fronts.{sign_key}
use Rattle.productions.proofs.Combining.{a_sign_law, then_law, after_law, before_law, made_law}
use Rattle.productions.proofs.Combining.{checked_law, spelled_law, chosen_law, picked_law}
use Rattle.productions.proofs.Combining.{sign_sure}
use Rattle.productions.proofs.Rows.{row_law}
use Rattle.productions.proofs.Leaves.{name_law, name_on_law}
use Rattle.productions.proofs.Types.{dims_first, dimensions_law}
use Rattle.productions.proofs.BeforeDots.{typed_law}
use Rattle.productions.proofs.Parentheses.{annotation_row_law, in_parentheses_law}
use Rattle.head_parser.specs.declared.formal.FormalEnd.{FormalEnd}
use Rattle.head_parser.specs.declared.formal.FormalEnd.TheVariants as ends
use Rattle.head_parser.specs.Modifiers.{keyword, sealed_line, non_sealed_line, modifier_line}
use Rattle.head_parser.specs.Modifiers.{modifier_keys, checked_modifiers}
use Rattle.head_parser.specs.Formals.{component_of, component, OuterThis, outer_this}
use Rattle.head_parser.specs.Formals.{receiving, EndLine, named_end, formal_end, receiver_if}
use Rattle.head_parser.specs.Formals.{formal_with, formal_by, formal_of, ItemLine, formal}
use Rattle.head_parser.specs.Formals.{formals_of, formals}
use Rattle.head_parser.proofs.EachOnce.{and_both, checked_is, is_checked}
use Rattle.head_parser.proofs.ModifierLaws.{modifier_law, modifier_refuses}
use Rattle.head_parser.proofs.FormalLists.{to_held, of_held}

-- ---- components

to_component : (x : List AnnTree × ((TypeTree × Bool) × (ℕ × List ℕ))) (text : List Mark)
    → (Row AnnSpells x.0 ⨾ ((BareSpells x.1.0.0 ⨾ Ellipsis x.1.0.1)
    ⨾ WordOn x.1.1.0 x.1.1.1)) text
    → ComponentSpells (component_of x) text
to_component x text s = record {
  front = s.front;
  rest = s.rest;
  whole = s.whole;
  before = record { anns = x.0; spelled = s.before; whole = refl };
  after = to_right s.rest s.after;
}

pub component_law : Law component
unfolding component typed
component_law =
    spelled_law
    (made_law component_of
    (then_law annotation_row_law (then_law typed_law name_on_law refl) refl))
    (record {
      to = λ p text s. subst (λ q. ComponentSpells q text) s.1 (to_component s.0 text s.2);
      of = λ p text s. (
        (s.before.anns, ((p.ty, p.varargs), (p.line, p.name))),
        ap (λ m. record {
          line = p.line;
          mods = m;
          ty = p.ty;
          name = p.name;
          varargs = p.varargs;
        }) (sym s.before.whole),
        record {
          front = s.front;
          rest = s.rest;
          whole = s.whole;
          before = s.before.spelled;
          after = to_left s.rest s.after;
        },
      );
    })

-- ---- behind the type

abbrev none : Unit {0}
none = tt

abbrev Outer : Line
Outer text = (word : List ℕ) × (none ≡ none) × (Word word ⨾ Dot) text

to_outer : (text : List Mark) → Either (Is part.This) (Outer ⨾ Is part.This) text
    → OuterThis text
to_outer text (inl s) = record {
  front = [];
  rest = text;
  whole = refl;
  before = inl refl;
  after = s;
}
to_outer text (inr s) =
    let b = s.before.2 in
    record {
      front = s.front;
      rest = s.rest;
      whole = s.whole;
      before = inr (record {
        front = b.front;
        rest = b.rest;
        whole = b.whole;
        before = (s.before.0, b.before);
        after = b.after;
      });
      after = s.after;
    }

of_outer : (text : List Mark) → OuterThis text → Either (Is part.This) (Outer ⨾ Is part.This) text
of_outer text s = by s.before
  where
    by : Perhaps (AnyWord ⨾ Dot) s.front → Either (Is part.This) (Outer ⨾ Is part.This) text
    by (inl e) =
        let whole : s.rest ≡ text = sym (s.whole ∙ ap (λ l. l ++ s.rest) e) in
        inl (subst (Is part.This) whole s.after)
    by (inr b) = inr (record {
      front = s.front;
      rest = s.rest;
      whole = s.whole;
      before = (
        b.before.0,
        refl,
        record {
          front = b.front;
          rest = b.rest;
          whole = b.whole;
          before = b.before.1;
          after = b.after;
        },
      );
      after = s.after;
    })

pub outer_this_law : Law outer_this
unfolding outer_this
outer_this_law =
    spelled_law
    (picked_law (Fixed sign.This) (a_sign_law sign.This)
    (after_law (made_law (λ word. tt) (before_law name_law (a_sign_law sign.Dot) refl))
    (a_sign_law sign.This) refl)
    (sign_sure sign.This) refl refl)
    (record { to = λ none text s. to_outer text s; of = λ none text s. of_outer text s })

-- behind a word the dot tells
word_then : (word : List ℕ) (text left : List Mark) → Word word text
    → receiving (text ++ left) ≡ comes sign.Dot left
unfolding part_of
word_then word text left x =
    ap (λ l. receiving (l ++ left)) x.whole
    ∙ ap (λ k. if sign_is sign.This (kind_part k) then true
    else (if is_word (kind_part k) then comes sign.Dot left else false)) x.word
    ∙ by (is_sealed_name word)
  where
    by : (b : Bool) → (if sign_is sign.This (if b then part.Sealed else part.Word) then true
        else (if is_word (if b then part.Sealed else part.Word) then comes sign.Dot left
        else false)) ≡ comes sign.Dot left
    by true = refl
    by false = refl

outer_receiving : (text left : List Mark) → OuterThis text → receiving (text ++ left) ≡ true
outer_receiving text left s = by (of_outer text s)
  where
    by : Either (Is part.This) (Outer ⨾ Is part.This) text → receiving (text ++ left) ≡ true
    by (inl x) = ap (λ b. if b then true else (if word_by (front_part (text ++ left))
        then comes sign.Dot (behind_mark (text ++ left)) else false))
        (sign_key sign.This text left x)
    by (inr x) =
        let b = x.before.2 in
        ap receiving (regroup x left ∙ regroup b (x.rest ++ left))
        ∙ word_then x.before.0 b.front (b.rest ++ (x.rest ++ left)) b.before
        ∙ sign_key sign.Dot b.rest (x.rest ++ left) b.after

named_not : (line : ℕ) (word : List ℕ) (n : ℕ) (text left : List Mark)
    → (WordOn line word ⨾ Dims n) text → comes sign.Dot left ≡ false
    → receiving (text ++ left) ≡ false
named_not line word n text left s dot =
    ap receiving (regroup s left)
    ∙ word_then word s.front (s.rest ++ left) (any_line line word s.front s.before)
    ∙ dims_first n s.rest left (Fixed sign.Dot) s.after refl refl dot

abbrev Ended : FormalEnd → Line
Ended e text = ((u : Unit {0}) × (ends.Receiver ≡ e) × OuterThis text)
    ⊎ ((x : (ℕ × List ℕ) × ℕ) × (named_end x ≡ e) × (WordOn x.0.0 x.0.1 ⨾ Dims x.1) text)

to_end : (e : FormalEnd) (text : List Mark) → Ended e text → EndLine e text
to_end e text (inl s) = subst (λ f. EndLine f text) s.1 s.2
to_end e text (inr s) = subst (λ f. EndLine f text) s.1 s.2

of_end : (e : FormalEnd) (text : List Mark) → EndLine e text → Ended e text
of_end ends.Receiver text s = inl (tt, refl, s)
of_end (ends.Named line name dims) text s = inr (((line, name), dims), refl, s)

pub formal_end_law : Law formal_end
unfolding formal_end outer_this
formal_end_law =
    spelled_law
    (chosen_law receiving (Fixed sign.Dot ∷ []) (made_law (λ none. ends.Receiver) outer_this_law)
    (made_law named_end (then_law name_on_law dimensions_law refl))
    (λ e text left s stops. outer_receiving text left s.2)
    (λ e text left s dot stops. named_not s.0.0.0 s.0.0.1 s.0.1 text left s.2 dot.0)
    refl)
    (record { to = to_end; of = of_end })

-- ---- a receiver

-- modifiers that are annotations
to_anns : (items : List Modifier) (text : List Mark) → list_all is_annotation items ≡ true
    → Row ModifierLine items text → AnyAnns text
to_anns [] text e s = ([], s)
to_anns (item.Annotation a ∷ items) text e s =
    let more = to_anns items s.rest e s.after in (
      a ∷ more.0,
      record { front = s.front; rest = s.rest; whole = s.whole; before = s.before; after = more.1 },
    )
to_anns (item.Keyword w ∷ items) text e s = absurd cc
to_anns (item.Sealed ∷ items) text e s = absurd cc
to_anns (item.NonSealed ∷ items) text e s = absurd cc

abbrev items_of : List AnnTree → List Modifier
items_of [] = []
items_of (a ∷ anns) = item.Annotation a ∷ items_of anns

all_anns : (anns : List AnnTree) → list_all is_annotation (items_of anns) ≡ true
all_anns [] = refl
all_anns (a ∷ anns) = all_anns anns

of_anns : (anns : List AnnTree) (text : List Mark) → Row AnnSpells anns text
    → Row ModifierLine (items_of anns) text
of_anns [] text s = s
of_anns (a ∷ anns) text s = record {
  front = s.front;
  rest = s.rest;
  whole = s.whole;
  before = s.before;
  after = of_anns anns s.rest s.after;
}

same : (a : Line) (text : List Mark) → a text → a text
same a text x = x

no_dots : (t : TypeTree) (text : List Mark) → (BareSpells t ⨾ Nothing) text → BareSpells t text
no_dots t text s =
    subst (BareSpells t) (sym (s.whole ∙ ap (λ l. s.front ++ l) s.after ∙ append-nil s.front))
    s.before

with_no_dots : (t : TypeTree) (text : List Mark) → BareSpells t text
    → (BareSpells t ⨾ Nothing) text
with_no_dots t text s = record {
  front = text;
  rest = [];
  whole = sym (append-nil text);
  before = s;
  after = refl;
}

any_type_is : (t : TypeTree) (text : List Mark) → (AnyAnns ⨾ BareSpells t) text → AnyType text
unfolding TypeWithin
any_type_is t text s = (
  t,
  (
    suc s.after.0,
    record {
      front = s.front;
      rest = s.rest;
      whole = s.whole;
      before = s.before;
      after = s.after.1;
    },
  ),
)

to_receiver : (items : List Modifier) (t : TypeTree) (text : List Mark)
    → list_all is_annotation items ≡ true
    → (Row ModifierLine items ⨾ ((BareSpells t ⨾ Nothing) ⨾ OuterThis)) text → Receiver text
to_receiver items t text e s =
    both_as (any_type_is t) (same OuterThis) text
    (to_left text (both_as (λ l x. to_anns items l e x)
    (both_as (no_dots t) (same OuterThis)) text s))

record Received (text : List Mark) : Type 0 where
  anns : List AnnTree
  type : TypeTree
  spelled : (Row ModifierLine (items_of anns) ⨾ ((BareSpells type ⨾ Nothing) ⨾ OuterThis)) text

received_by : (m : ℕ) (t : TypeTree) (text : List Mark)
    → (TypeWithin m t ⨾ OuterThis) text → Received text
unfolding TypeWithin
received_by zero t text s = absurd s.before
received_by (suc m) t text s =
    let x = s.before in
    let whole : (x.front ++ (x.rest ++ s.rest)) ≡ text =
    sym (s.whole ∙ ap (λ l. l ++ s.rest) x.whole ∙ append_assoc x.front x.rest s.rest) in
    record {
      anns = x.before.0;
      type = t;
      spelled = record {
        front = x.front;
        rest = x.rest ++ s.rest;
        whole = sym whole;
        before = of_anns x.before.0 x.front x.before.1;
        after = record {
          front = x.rest;
          rest = s.rest;
          whole = refl;
          before = with_no_dots t x.rest (m, x.after);
          after = s.after;
        };
      };
    }

of_receiver : (text : List Mark) → Receiver text → Received text
of_receiver text s =
    received_by s.before.1.0 s.before.0 text (record {
      front = s.front;
      rest = s.rest;
      whole = s.whole;
      before = s.before.1.1;
      after = s.after;
    })

-- ---- one formal parameter

abbrev Read : List Modifier → TypeTree × Bool → FormalEnd → Line
Read items t end = Row ModifierLine items ⨾ ((BareSpells t.0 ⨾ Ellipsis t.1) ⨾ EndLine end)

receiver_by : (items : List Modifier) (t : TypeTree) (dots : Bool) (y : Option Param)
    (text : List Mark) (b : Bool) → (list_all is_annotation items && not dots) ≡ b
    → receiver_if b ≡ Some y → Read items (t, dots) ends.Receiver text → ItemLine y text
receiver_by items t dots y text false e h s = absurd cc
receiver_by items t true y text true e h s =
    let a = and_both (list_all is_annotation items) false e in let f = a.1 in absurd cc
receiver_by items t false y text true e h s =
    let a = and_both (list_all is_annotation items) true e in
    let same : None ≡ y = cc in
    subst (λ z. ItemLine z text) same (to_receiver items t text a.0 s)

named_by : (items : List Modifier) (t : TypeTree × Bool) (line : ℕ) (name : List ℕ) (dims : ℕ)
    (y : Option Param) (text : List Mark) (o : Option Modifiers) → checked_modifiers items ≡ o
    → (o >>= λ mods. Some (Some (formal_with t line name dims mods))) ≡ Some y
    → Read items t (ends.Named line name dims) text → ItemLine y text
named_by items t line name dims y text None e h s = absurd cc
named_by items t line name dims y text (Some mods) e h s =
    let c = checked_is items mods e in
    let same : Some (formal_with t line name dims mods) ≡ y = cc in
    subst (λ z. ItemLine z text) same (record {
      base = t.0;
      dims = dims;
      spelled = record {
        front = s.front;
        rest = s.rest;
        whole = s.whole;
        before = record {
          items = items;
          spelled = s.before;
          each_once = c.0;
          one_access = c.1;
          whole = c.2;
        };
        after = to_right s.rest s.after;
      };
      type = refl;
    })

to_item : (items : List Modifier) (t : TypeTree × Bool) (end : FormalEnd) (y : Option Param)
    (text : List Mark) → formal_by items t end ≡ Some y → Read items t end text → ItemLine y text
to_item items t ends.Receiver y text e s =
    receiver_by items t.0 t.1 y text (list_all is_annotation items && not t.1) refl e s
to_item items t (ends.Named line name dims) y text e s =
    named_by items t line name dims y text (checked_modifiers items) refl e s

record Given (y : Option Param) (text : List Mark) : Type 0 where
  items : List Modifier
  type : TypeTree × Bool
  end : FormalEnd
  checked : formal_by items type end ≡ Some y
  spelled : Read items type end text

of_item : (y : Option Param) (text : List Mark) → ItemLine y text → Given y text
of_item None text s =
    let r = of_receiver text s in
    record {
      items = items_of r.anns;
      type = (r.type, false);
      end = ends.Receiver;
      checked = ap (λ b. receiver_if (b && true)) (all_anns r.anns);
      spelled = r.spelled;
    }
of_item (Some p) text s =
    let x = s.spelled in
    let m = x.before in
    record {
      items = m.items;
      type = (s.base, p.varargs);
      end = ends.Named p.line p.name s.dims;
      checked =
          ap (λ o. o >>= λ mods. Some (Some (formal_with (s.base, p.varargs) p.line p.name s.dims
          mods))) (is_checked m.items p.mods m.each_once m.one_access m.whole)
          ∙ ap (λ t. Some (Some (record {
            line = p.line;
            mods = p.mods;
            ty = t;
            name = p.name;
            varargs = p.varargs;
          }))) (sym s.type);
      spelled = record {
        front = x.front;
        rest = x.rest;
        whole = x.whole;
        before = m.spelled;
        after = to_left x.rest x.after;
      };
    }

pub formal_law : Law formal
unfolding formal typed formal_end outer_this modifier_line sealed_line non_sealed_line keyword
formal_law =
    spelled_law
    (checked_law formal_of
    (then_law (row_law modifier_keys modifier_law refl refl modifier_refuses)
    (then_law typed_law formal_end_law refl) refl))
    (record {
      to = λ y text s. to_item s.0.0 s.0.1.0 s.0.1.1 y text s.1 s.2;
      of = λ y text s.
          let g = of_item y text s in
          ((g.items, (g.type, g.end)), g.checked, g.spelled);
    })

pub formals_law : Law formals
unfolding formals formal typed formal_end outer_this modifier_line sealed_line non_sealed_line
    keyword
formals_law =
    spelled_law
    (checked_law formals_of (in_parentheses_law formal_law refl refl refl refl))
    (record {
      to = λ ps text s.
          let x = s.2 in
          record {
            front = x.front;
            rest = x.rest;
            whole = x.whole;
            before = x.before;
            after = record {
              front = x.after.front;
              rest = x.after.rest;
              whole = x.after.whole;
              before = to_held s.0 ps x.after.front s.1 x.after.before;
              after = x.after.after;
            };
          };
      of = λ ps text x.
          let h = of_held ps x.after.front x.after.before in (
            h.items,
            h.checked,
            record {
              front = x.front;
              rest = x.rest;
              whole = x.whole;
              before = x.before;
              after = record {
                front = x.after.front;
                rest = x.after.rest;
                whole = x.after.whole;
                before = h.spelled;
                after = x.after.after;
              };
            },
          );
    })
