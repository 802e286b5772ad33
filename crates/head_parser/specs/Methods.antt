-- Methods, constructors and compact constructors (JLS 8.4, 8.8, 8.10.4, 9.4, 9.6.1), as
-- productions of the whole text of a segment.
use Rattle.std.specs.Prelude.{ℕ, zero, suc, Bool, true, false, not, if◌then◌else◌, nat_eq, List, []}
use Rattle.std.specs.Prelude.{◌∷◌, Option, Some, None, codes, ◌≡◌, ◌⊎◌}
use lib.Pointwise.{pointwise}
use Rattle.java_ast.specs.declared.types.TypeTree.{TypeTree, out-TypeTree}
use Rattle.java_ast.specs.declared.types.TypeTree.TheVariants as tree
use Rattle.java_ast.specs.declared.types.ArgTree.TheOpen.{TypeTree-F}
use Rattle.java_ast.specs.declared.annotation.AnnTree.{AnnTree}
use Rattle.java_ast.specs.declared.annotation.ElemTree.{ElemTree}
use Rattle.java_ast.specs.declared.declaration.TypeParam.{TypeParam}
use Rattle.java_ast.specs.declared.modifiers.Modifiers.{Modifiers}
use Rattle.java_ast.specs.declared.member.MethodDecl.{MethodDecl}
use Rattle.java_ast.specs.declared.member.MethodKind.{MethodKind}
use Rattle.java_ast.specs.declared.member.MethodKind.TheVariants as method
use Rattle.java_ast.specs.declared.member.Param.{Param}
use Rattle.java_grammar.specs.declared.sign.Sign.TheVariants as sign
use Rattle.java_grammar.specs.declared.part.Part.TheVariants as part
use Rattle.java_grammar.specs.Marks.{Line}
use Rattle.java_grammar.specs.Reading.{is_group}
use Rattle.java_grammar.specs.Words.{Given, Is}
use Rattle.java_grammar.specs.Expressions.{TypeLayer}
use Rattle.java_grammar.specs.Types.{BareSpells}
use Rattle.java_grammar.specs.Members.{with_dims, with_anns, DefaultValue, Generic, MethodSpells}
use Rattle.java_grammar.specs.Members.{ConstructorSpells, CompactSpells}
use Rattle.java_grammar.specs.Declarations.{InitialiserBlock}
use Rattle.productions.specs.Keys.{Fixed, Plain}
use Rattle.productions.specs.Productions.{Production, a_sign, nothing, ◌▸◌, ◌▹◌, ◌◃◌, made, checked}
use Rattle.productions.specs.Productions.{spelled, narrowed, chosen, picked, separated}
use Rattle.productions.specs.Leaves.{name_on, angle, skipped_group, semicolon, bare_type, dimensions}
use Rattle.productions.specs.Leaves.{value}
use Rattle.productions.specs.Lists.{annotation_row}
use Rattle.head_parser.specs.Types.{param, params, throws}
use Rattle.head_parser.specs.Modifiers.{modifiers}
use Rattle.head_parser.specs.Formals.{formals}

-- ---- parts of a method

-- type parameters in angles
unfoldable pub some_params : Production (List TypeParam)
some_params = a_sign sign.Less ▹ (separated sign.Comma param ◃ angle)

-- with the annotations behind them
unfoldable pub generic : Production (List TypeParam × List AnnTree)
generic = spelled
    (picked (Fixed sign.Less) (some_params ▸ annotation_row) (nothing ([], [])))
    (λ x. Generic x.0 x.1)

-- without the dimensions behind the formals
abbrev pub ResultLine : TypeTree → Line
ResultLine t text = ((tree.Void ≡ t) × Is part.Void text) ⊎ BareSpells t text

unfoldable pub result : Production TypeTree
result = spelled
    (picked (Fixed sign.Void) (made (λ none. tree.Void) (a_sign sign.Void)) bare_type)
    ResultLine

unfoldable pub default_value : Production (Option ElemTree)
default_value = spelled
    (picked (Fixed sign.Default) (made Some (a_sign sign.Default ▹ value)) (nothing None))
    (Given DefaultValue)

-- a body that is skipped, or `;`
abbrev pub ending : Production (Unit {0})
ending = chosen is_group [] skipped_group semicolon

abbrev pub is_void_layer : TypeLayer → Bool
is_void_layer TypeTree-F.Void = true
is_void_layer _ = false

-- `void` has no dimensions
abbrev pub is_void : TypeTree → Bool
is_void t = is_void_layer (out-TypeTree t)

abbrev pub has_result : TypeTree → ℕ → Bool
has_result t zero = true
has_result t (suc n) = not (is_void t)

-- ---- methods

-- from the formals on
unfoldable pub method_tail : Production (List Param × (ℕ × (List TypeTree × Option ElemTree)))
method_tail = formals ▸ (dimensions ▸ (throws ▸ (default_value ◃ ending)))

-- what is read of a method
abbrev pub MethodParts : Type 0
MethodParts = Modifiers × ((List TypeParam × List AnnTree) × (TypeTree × ((ℕ × List ℕ)
    × (List Param × (ℕ × (List TypeTree × Option ElemTree))))))

abbrev pub method_with : MethodParts → MethodDecl
method_with x = record {
  line = x.1.1.1.0.0;
  mods = with_anns x.0 x.1.0.1;
  kind = method.Plain;
  params = x.1.0.0;
  ret = with_dims x.1.1.0 x.1.1.1.1.1.0;
  name = x.1.1.1.0.1;
  formals = x.1.1.1.1.0;
  throws = x.1.1.1.1.1.1.0;
  default_value = x.1.1.1.1.1.1.1;
}

abbrev pub method_of : MethodParts → Option MethodDecl
method_of x = if has_result x.1.1.0 x.1.1.1.1.1.0 then Some (method_with x) else None

unfoldable pub method_line : Production MethodDecl
method_line = spelled
    (checked method_of (modifiers ▸ (generic ▸ (result ▸ (name_on ▸ method_tail)))))
    MethodSpells

-- ---- constructors

-- the name of the class, before its formals
unfoldable pub constructor_end : Production ((ℕ × List ℕ) × List Param)
constructor_end = narrowed (name_on ▸ formals) (Plain ∷ [])

abbrev pub ConstructorParts : Type 0
ConstructorParts = Modifiers × (List TypeParam × (((ℕ × List ℕ) × List Param) × List TypeTree))

abbrev pub initialiser_name : List ℕ
initialiser_name = codes "<init>"

abbrev pub initialiser_of : ℕ → Modifiers → MethodKind → List TypeParam → List Param
    → List TypeTree → MethodDecl
initialiser_of line mods kind params formals throws = record {
  line = line;
  mods = mods;
  kind = kind;
  params = params;
  ret = tree.Void;
  name = initialiser_name;
  formals = formals;
  throws = throws;
  default_value = None;
}

abbrev pub constructor_with : ConstructorParts → MethodDecl
constructor_with x =
    initialiser_of x.1.1.0.0.0 x.0 method.Constructor x.1.0 x.1.1.0.1 x.1.1.1

abbrev pub constructor_of : List ℕ → ConstructorParts → Option MethodDecl
constructor_of name x =
    if pointwise nat_eq x.1.1.0.0.1 name then Some (constructor_with x) else None

-- of a class of this name
unfoldable pub constructor_line : List ℕ → Production MethodDecl
constructor_line name = spelled
    (checked (constructor_of name) (modifiers ▸ (params ▸ (constructor_end
    ▸ (throws ◃ skipped_group)))))
    (ConstructorSpells name)

unfoldable pub compact_end : Production (ℕ × List ℕ)
compact_end = narrowed (name_on ◃ skipped_group) (Plain ∷ [])

abbrev pub compact_with : Modifiers × (ℕ × List ℕ) → MethodDecl
compact_with x = initialiser_of x.1.0 x.0 method.Compact [] [] []

abbrev pub compact_of : List ℕ → Modifiers × (ℕ × List ℕ) → Option MethodDecl
compact_of name x = if pointwise nat_eq x.1.1 name then Some (compact_with x) else None

-- of a record of this name
unfoldable pub compact_line : List ℕ → Production MethodDecl
compact_line name = spelled
    (checked (compact_of name) (modifiers ▸ compact_end))
    (CompactSpells name)

-- ---- initialisers (JLS 8.6, 8.7), which leave nothing in the tree

unfoldable pub block_line : Production (Unit {0})
block_line = spelled
    (picked (Fixed sign.Static) (a_sign sign.Static) (nothing tt) ▹ skipped_group)
    (λ none. InitialiserBlock)
