-- Type parameters, and types behind a word: what is read is what the grammar spells.
use Rattle.std.proofs.Common.{◌≡◌, refl, subst, List, [], ◌∷◌}
use Rattle.java_ast.specs.declared.types.TypeTree.{TypeTree}
use Rattle.java_ast.specs.declared.expression.BinOp.TheVariants as binary
use Rattle.java_grammar.specs.declared.part.Part.TheVariants as part
use Rattle.java_grammar.specs.declared.sign.Sign.TheVariants as sign
use Rattle.java_grammar.specs.Marks.{Mark, Line}
use Rattle.java_grammar.specs.Words.{◌⨾◌, Separated, Is, Word, ClosingAngle}
use Rattle.java_grammar.specs.Types.{ParamSpells, NamedSpells, NamedTypes, Bounds, TypeParams}
use Rattle.java_grammar.specs.Members.{Throws}
use Rattle.java_grammar.specs.Declarations.{Superclass, Superinterfaces, Implements, Permits}
use Rattle.type_expr_parser.proofs.Lines.{both_as}
use Rattle.productions.specs.Keys.{Spelled}
use Rattle.productions.specs.Laws.{Law}
use Rattle.productions.proofs.Combining.{nothing_law, then_law, after_law, before_law, made_law}
use Rattle.productions.proofs.Combining.{tested_law, spelled_law, picked_law, behind_law, after_sure}
use Rattle.productions.proofs.Rows.{separated_law}
use Rattle.productions.proofs.Leaves.{name_law, angle_law, annotations_law, the_word_law}
use Rattle.productions.proofs.Leaves.{the_word_sure}
use Rattle.productions.proofs.Types.{any_type_law}
use Rattle.head_parser.specs.Types.{named, named_types, bounds, param, params, throws, superclass}
use Rattle.head_parser.specs.Types.{superinterfaces, implements, permits_word, permits}
use Rattle.head_parser.proofs.Lists.{list_some, Listed, listed, to_listed, of_listed}

pub named_law : Law named
unfolding named
named_law = tested_law _ any_type_law

pub named_types_law : Law named_types
unfolding named_types named
named_types_law = separated_law sign.Comma named_law refl refl

bounds_listed : Listed (Is part.Extends) (Separated (Is (part.Binary binary.And)) NamedSpells)
    Bounds
bounds_listed =
    listed (λ t s. s) (λ t s. s) (λ t s. s) (λ x xs t s. s) (λ x xs t s. s)

pub bounds_law : Law bounds
unfolding bounds named
bounds_law =
    spelled_law (behind_law [] sign.Extends (separated_law sign.And named_law refl refl))
    (record { to = to_listed bounds_listed; of = of_listed bounds_listed })

pub param_law : Law param
unfolding param bounds named
param_law =
    spelled_law
    (made_law _ (after_law annotations_law (then_law name_law bounds_law refl) refl)) (record {
      to = λ p t s. subst (λ q. ParamSpells q t) s.1 s.2;
      of = λ p t s. ((p.name, p.bounds), refl, s);
    })

params_listed : Listed (Is (part.Binary binary.Less))
    (λ ps. Separated (Is part.Comma) ParamSpells ps ⨾ ClosingAngle) TypeParams
params_listed =
    listed (λ t s. s.before) (λ t s. s) (λ t s. s) (λ x xs t s. s) (λ x xs t s. s)

pub params_law : Law params
unfolding params param bounds named
params_law =
    spelled_law
    (behind_law [] sign.Less
    (before_law (separated_law sign.Comma param_law refl refl) angle_law refl))
    (record { to = to_listed params_listed; of = of_listed params_listed })

throws_listed : Listed (Is part.Throws) NamedTypes Throws
throws_listed =
    listed (λ t s. s) (λ t s. s) (λ t s. s) (λ x xs t s. s) (λ x xs t s. s)

pub throws_law : Law throws
unfolding throws named_types named
throws_law =
    spelled_law (behind_law [] sign.Throws named_types_law)
    (record { to = to_listed throws_listed; of = of_listed throws_listed })

superinterfaces_listed : Listed (Is part.Extends) NamedTypes Superinterfaces
superinterfaces_listed =
    listed (λ t s. s) (λ t s. s) (λ t s. s) (λ x xs t s. s) (λ x xs t s. s)

pub superinterfaces_law : Law superinterfaces
unfolding superinterfaces named_types named
superinterfaces_law =
    spelled_law (behind_law [] sign.Extends named_types_law)
    (record { to = to_listed superinterfaces_listed; of = of_listed superinterfaces_listed })

implements_listed : Listed (Is part.Implements) NamedTypes Implements
implements_listed =
    listed (λ t s. s) (λ t s. s) (λ t s. s) (λ x xs t s. s) (λ x xs t s. s)

pub implements_law : Law implements
unfolding implements named_types named
implements_law =
    spelled_law (behind_law [] sign.Implements named_types_law)
    (record { to = to_listed implements_listed; of = of_listed implements_listed })

same : (a : Line) (text : List Mark) → a text → a text
same a text x = x

-- one type, as a list
abbrev One : List TypeTree → Line
One types text = (t : TypeTree) × (t ∷ [] ≡ types) × NamedSpells t text

superclass_some : (t : TypeTree) (types : List TypeTree) (text : List Mark)
    → (Is part.Extends ⨾ One (t ∷ types)) text → Superclass (t ∷ types) text
superclass_some t types text s =
    subst (λ l. Superclass l text) s.after.1 (record {
      front = s.front;
      rest = s.rest;
      whole = s.whole;
      before = s.before;
      after = s.after.2;
    })

superclass_of : (t : TypeTree) (types : List TypeTree) (text : List Mark)
    → Superclass (t ∷ types) text → (Is part.Extends ⨾ One (t ∷ types)) text
superclass_of t [] text s = both_as (same (Is part.Extends)) (λ l x. (t, refl, x)) text s
superclass_of t (u ∷ types) text s = absurd s

superclass_listed : Listed (Is part.Extends) One Superclass
superclass_listed =
    listed (λ t s. list_some s.0 [] s.1) (λ t s. s) (λ t s. s) superclass_some superclass_of

pub superclass_law : Law superclass
unfolding superclass named
superclass_law =
    spelled_law (behind_law [] sign.Extends (made_law _ named_law))
    (record { to = to_listed superclass_listed; of = of_listed superclass_listed })

permits_listed : Listed (Word permits_word) NamedTypes Permits
permits_listed =
    listed (λ t s. s) (λ t s. s) (λ t s. s) (λ x xs t s. s) (λ x xs t s. s)

pub permits_law : Law permits
unfolding permits named_types named
permits_law =
    spelled_law
    (picked_law (Spelled permits_word)
    (after_law (the_word_law permits_word) named_types_law refl) (nothing_law [])
    (after_sure named_types_law (the_word_sure permits_word) refl) refl refl)
    (record { to = to_listed permits_listed; of = of_listed permits_listed })
