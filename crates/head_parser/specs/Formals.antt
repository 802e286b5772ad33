-- Formal parameters with a receiver (JLS 8.4.1), and components of records (JLS 8.10.1), as
-- productions.
use Rattle.std.specs.Prelude.{ℕ, Bool, true, false, not, ◌&&◌, if◌then◌else◌, List, [], ◌∷◌}
use Rattle.std.specs.Prelude.{Option, Some, None}
use Rattle.std.specs.List.{list_all}
use Rattle.java_ast.specs.declared.types.TypeTree.{TypeTree}
use Rattle.java_ast.specs.declared.annotation.AnnTree.{AnnTree}
use Rattle.java_ast.specs.declared.modifiers.Modifiers.{Modifiers}
use Rattle.java_ast.specs.declared.member.Param.{Param}
use Rattle.java_grammar.specs.declared.modifier.Modifier.{Modifier}
use Rattle.java_grammar.specs.declared.sign.Sign.TheVariants as sign
use Rattle.java_grammar.specs.declared.part.Part.TheVariants as part
use Rattle.java_grammar.specs.Marks.{Mark, Line}
use Rattle.java_grammar.specs.Words.{◌⨾◌, Perhaps, Is, WordOn}
use Rattle.java_grammar.specs.Reading.{front_part, behind_mark}
use Rattle.java_grammar.specs.Expressions.{Dot}
use Rattle.java_grammar.specs.Types.{Dims}
use Rattle.java_grammar.specs.Modifiers.{is_annotation}
use Rattle.java_grammar.specs.Members.{with_dims, FormalSpells, AnyWord, Receiver, Formals}
use Rattle.java_grammar.specs.Members.{ComponentSpells}
use Rattle.type_expr_parser.specs.Reading.{◌>>=◌, comes}
use Rattle.productions.specs.Keys.{Fixed, word_by}
use Rattle.productions.specs.Productions.{Production, a_sign, ◌▸◌, ◌▹◌, ◌◃◌, made, checked, spelled}
use Rattle.productions.specs.Productions.{chosen, picked, row}
use Rattle.productions.specs.Leaves.{name, name_on, dimensions}
use Rattle.productions.specs.Lists.{annotation_row, typed, in_parentheses}
use Rattle.head_parser.specs.declared.formal.FormalEnd.{FormalEnd}
use Rattle.head_parser.specs.declared.formal.FormalEnd.TheVariants as ends
use Rattle.head_parser.specs.Modifiers.{modifier_line, modifier_keys, checked_modifiers}

-- ---- components

-- annotations alone, as modifiers
abbrev pub annotated : List AnnTree → Modifiers
annotated anns = record {
  flags = 0;
  is_default = false;
  is_sealed = false;
  non_sealed = false;
  anns = anns;
}

abbrev pub component_of : List AnnTree × ((TypeTree × Bool) × (ℕ × List ℕ)) → Param
component_of x = record {
  line = x.1.1.0;
  mods = annotated x.0;
  ty = x.1.0.0;
  name = x.1.1.1;
  varargs = x.1.0.1;
}

unfoldable pub component : Production Param
component = spelled (made component_of (annotation_row ▸ (typed ▸ name_on))) ComponentSpells

-- ---- what stands behind the type of a formal parameter

abbrev pub OuterThis : Line
OuterThis = Perhaps (AnyWord ⨾ Dot) ⨾ Is part.This

-- `this`, perhaps with the name of the outer class before it
unfoldable pub outer_this : Production (Unit {0})
outer_this = spelled
    (picked (Fixed sign.This) (a_sign sign.This)
    (made (λ word. tt) (name ◃ a_sign sign.Dot) ▹ a_sign sign.This))
    (λ none. OuterThis)

-- `this`, or a word and a dot, come next
abbrev pub receiving : List Mark → Bool
receiving text =
    if comes sign.This text then true
    else (if word_by (front_part text) then comes sign.Dot (behind_mark text) else false)

abbrev pub EndLine : FormalEnd → Line
EndLine ends.Receiver = OuterThis
EndLine (ends.Named line name dims) = WordOn line name ⨾ Dims dims

abbrev pub named_end : (ℕ × List ℕ) × ℕ → FormalEnd
named_end x = ends.Named x.0.0 x.0.1 x.1

unfoldable pub formal_end : Production FormalEnd
formal_end = spelled
    (chosen receiving (Fixed sign.Dot ∷ []) (made (λ none. ends.Receiver) outer_this)
    (made named_end (name_on ▸ dimensions)))
    EndLine

-- ---- formal parameters

-- a receiver is none, and has no modifier words
abbrev pub receiver_if : Bool → Option (Option Param)
receiver_if b = if b then Some None else None

abbrev pub formal_with : (TypeTree × Bool) → ℕ → List ℕ → ℕ → Modifiers → Param
formal_with t line name dims mods = record {
  line = line;
  mods = mods;
  ty = with_dims t.0 dims;
  name = name;
  varargs = t.1;
}

abbrev pub formal_by : List Modifier → (TypeTree × Bool) → FormalEnd → Option (Option Param)
formal_by items t ends.Receiver = receiver_if (list_all is_annotation items && not t.1)
formal_by items t (ends.Named line name dims) =
    checked_modifiers items >>= λ mods. Some (Some (formal_with t line name dims mods))

abbrev pub formal_of : List Modifier × ((TypeTree × Bool) × FormalEnd) → Option (Option Param)
formal_of x = formal_by x.0 x.1.0 x.1.1

abbrev pub ItemLine : Option Param → Line
ItemLine None = Receiver
ItemLine (Some p) = FormalSpells p

unfoldable pub formal : Production (Option Param)
formal = spelled
    (checked formal_of (row modifier_keys modifier_line ▸ (typed ▸ formal_end)))
    ItemLine

-- no receiver among these
abbrev pub all_named : List (Option Param) → Option (List Param)
all_named [] = Some []
all_named (None ∷ items) = None
all_named (Some p ∷ items) = all_named items >>= λ formals. Some (p ∷ formals)

-- a receiver is the first one
abbrev pub formals_of : List (Option Param) → Option (List Param)
formals_of (None ∷ items) = all_named items
formals_of items = all_named items

unfoldable pub formals : Production (List Param)
formals = spelled (checked formals_of (in_parentheses formal)) Formals
