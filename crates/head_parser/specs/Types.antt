-- Type parameters (JLS 8.1.2, 8.4.4), what is thrown (JLS 8.4.6), and the types that a declaration
-- extends, implements and permits (JLS 8.1.4 to 8.1.6, 9.1.3, 9.1.4), as productions.
use Rattle.std.specs.Prelude.{List, [], ◌∷◌, codes, ℕ}
use Rattle.java_ast.specs.declared.types.TypeTree.{TypeTree, out-TypeTree}
use Rattle.java_ast.specs.declared.declaration.TypeParam.{TypeParam}
use Rattle.java_grammar.specs.declared.sign.Sign.TheVariants as sign
use Rattle.java_grammar.specs.Types.{is_named, Bounds, ParamSpells, TypeParams}
use Rattle.java_grammar.specs.Members.{Throws}
use Rattle.java_grammar.specs.Declarations.{Superclass, Superinterfaces, Implements, Permits}
use Rattle.productions.specs.Keys.{Spelled}
use Rattle.productions.specs.Productions.{Production, nothing, ◌▸◌, ◌▹◌, ◌◃◌, made, tested, spelled}
use Rattle.productions.specs.Productions.{picked, behind, separated}
use Rattle.productions.specs.Leaves.{name, the_word, angle, annotations, any_type}

-- a name with type arguments, and no dimension
unfoldable pub named : Production TypeTree
named = tested (λ t. is_named (out-TypeTree t)) any_type

unfoldable pub named_types : Production (List TypeTree)
named_types = separated sign.Comma named

unfoldable pub bounds : Production (List TypeTree)
bounds = spelled (behind [] sign.Extends (separated sign.And named)) Bounds

unfoldable pub param : Production TypeParam
param = spelled
    (made (λ p. record { name = p.0; bounds = p.1 }) (annotations ▹ (name ▸ bounds)))
    ParamSpells

-- in angles, or none
unfoldable pub params : Production (List TypeParam)
params = spelled (behind [] sign.Less (separated sign.Comma param ◃ angle)) TypeParams

unfoldable pub throws : Production (List TypeTree)
throws = spelled (behind [] sign.Throws named_types) Throws

unfoldable pub superclass : Production (List TypeTree)
superclass = spelled (behind [] sign.Extends (made (λ t. t ∷ []) named)) Superclass

unfoldable pub superinterfaces : Production (List TypeTree)
superinterfaces = spelled (behind [] sign.Extends named_types) Superinterfaces

unfoldable pub implements : Production (List TypeTree)
implements = spelled (behind [] sign.Implements named_types) Implements

abbrev pub permits_word : List ℕ
permits_word = codes "permits"

unfoldable pub permits : Production (List TypeTree)
permits = spelled
    (picked (Spelled permits_word) (the_word permits_word ▹ named_types) (nothing []))
    Permits
