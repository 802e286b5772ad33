-- Heads of the five kinds of declarations of types (JLS 8.1, 8.9, 8.10, 9.1, 9.6), as productions.
use Rattle.std.specs.Prelude.{◌≡◌, ℕ, true, List, [], ◌∷◌, codes}
use Rattle.java_ast.specs.declared.types.TypeTree.{TypeTree}
use Rattle.java_ast.specs.declared.modifiers.Modifiers.{Modifiers}
use Rattle.java_ast.specs.declared.member.Param.{Param}
use Rattle.java_ast.specs.declared.declaration.DeclKind.TheVariants as declares
use Rattle.java_ast.specs.declared.declaration.TypeParam.{TypeParam}
use Rattle.java_ast.specs.SoundUnits.{has_only}
use Rattle.java_grammar.specs.declared.sign.Sign.TheVariants as sign
use Rattle.java_grammar.specs.Marks.{Line}
use Rattle.java_grammar.specs.Declarations.{DeclLayer, KindLine, HeadSpells}
use Rattle.productions.specs.Keys.{Fixed, AtInterface}
use Rattle.productions.specs.Productions.{Production, a_sign, ◌▸◌, ◌▹◌, made, spelled, narrowed}
use Rattle.productions.specs.Productions.{picked}
use Rattle.productions.specs.Leaves.{name_on, the_word}
use Rattle.productions.specs.Lists.{in_parentheses}
use Rattle.head_parser.specs.declared.head.Declared.{Declared}
use Rattle.head_parser.specs.declared.head.Head.{Head}
use Rattle.head_parser.specs.Types.{params, superclass, superinterfaces, implements, permits}
use Rattle.head_parser.specs.Modifiers.{modifiers}
use Rattle.head_parser.specs.Formals.{annotated, component}

-- a declaration of such a head, with nothing in its body
abbrev pub layer_of : Modifiers → Declared → DeclLayer
layer_of mods x = record {
  kind = x.kind;
  line = x.line;
  mods = mods;
  name = x.name;
  params = x.params;
  extends = x.extends;
  implements = x.implements;
  permits = x.permits;
  constants = [];
  components = x.components;
  members = [];
}

-- behind the modifiers
abbrev pub DeclaredLine : Declared → Line
DeclaredLine x text =
    KindLine x.kind (layer_of (annotated []) x) text
    × (has_only x.kind (layer_of (annotated []) x) ≡ true)

abbrev pub HeadLine : Head → Line
HeadLine h = HeadSpells (layer_of h.mods h.declared)

abbrev pub Naming : Type 0
Naming = ℕ × List ℕ

-- ---- classes (JLS 8.1)

abbrev pub class_of
    : Naming × (List TypeParam × (List TypeTree × (List TypeTree × List TypeTree))) → Declared
class_of x = record {
  kind = declares.Class;
  line = x.0.0;
  name = x.0.1;
  params = x.1.0;
  extends = x.1.1.0;
  implements = x.1.1.1.0;
  permits = x.1.1.1.1;
  components = [];
}

unfoldable pub class_head : Production Declared
class_head = made class_of
    (a_sign sign.Class ▹ (name_on ▸ (params ▸ (superclass ▸ (implements ▸ permits)))))

-- ---- interfaces (JLS 9.1)

abbrev pub interface_of : Naming × (List TypeParam × (List TypeTree × List TypeTree)) → Declared
interface_of x = record {
  kind = declares.Interface;
  line = x.0.0;
  name = x.0.1;
  params = x.1.0;
  extends = x.1.1.0;
  implements = [];
  permits = x.1.1.1;
  components = [];
}

unfoldable pub interface_head : Production Declared
interface_head = made interface_of
    (a_sign sign.Interface ▹ (name_on ▸ (params ▸ (superinterfaces ▸ permits))))

-- ---- enums (JLS 8.9)

abbrev pub enum_of : Naming × List TypeTree → Declared
enum_of x = record {
  kind = declares.Enumeration;
  line = x.0.0;
  name = x.0.1;
  params = [];
  extends = [];
  implements = x.1;
  permits = [];
  components = [];
}

unfoldable pub enum_head : Production Declared
enum_head = made enum_of (a_sign sign.Enum ▹ (name_on ▸ implements))

-- ---- annotation interfaces (JLS 9.6)

abbrev pub annotation_of : Naming → Declared
annotation_of x = record {
  kind = declares.Annotation;
  line = x.0;
  name = x.1;
  params = [];
  extends = [];
  implements = [];
  permits = [];
  components = [];
}

unfoldable pub annotation_head : Production Declared
annotation_head =
    narrowed (made annotation_of (a_sign sign.At ▹ (a_sign sign.Interface ▹ name_on)))
    (AtInterface ∷ [])

-- ---- records (JLS 8.10)

abbrev pub record_word : List ℕ
record_word = codes "record"

abbrev pub record_of : Naming × (List TypeParam × (List Param × List TypeTree)) → Declared
record_of x = record {
  kind = declares.Recorded;
  line = x.0.0;
  name = x.0.1;
  params = x.1.0;
  extends = [];
  implements = x.1.1.1;
  permits = [];
  components = x.1.1.0;
}

unfoldable pub record_head : Production Declared
record_head = made record_of
    (the_word record_word ▹ (name_on ▸ (params ▸ (in_parentheses component ▸ implements))))

-- ---- all of them

unfoldable pub declared_line : Production Declared
declared_line = spelled
    (picked (Fixed sign.Class) class_head
    (picked (Fixed sign.Interface) interface_head
    (picked (Fixed sign.Enum) enum_head
    (picked (Fixed sign.At) annotation_head record_head))))
    DeclaredLine

unfoldable pub head_line : Production Head
head_line = spelled
    (made (λ x. record { mods = x.0; declared = x.1 }) (modifiers ▸ declared_line))
    HeadLine
