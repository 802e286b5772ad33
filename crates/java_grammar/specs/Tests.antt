-- Which parts tokens are, as tests.
use Rattle.std.specs.Prelude.{ℕ, Bool, true, false}
use Rattle.java_ast.specs.declared.expression.BinOp.{BinOp}
use Rattle.java_ast.specs.declared.expression.BinOp.TheVariants as binary
use Rattle.java_grammar.specs.declared.part.Part.{Part}
use Rattle.java_grammar.specs.declared.part.Part.TheVariants as part
use Rattle.java_grammar.specs.declared.part.ModifierWord.TheVariants as modifier
use Rattle.java_grammar.specs.declared.part.Pair.TheVariants as pair

abbrev pub is_opening : Part → Bool
is_opening (part.Opening _) = true
is_opening _ = false

abbrev pub is_closing : Part → Bool
is_closing (part.Closing _) = true
is_closing _ = false

-- `(`
abbrev pub is_group_start : Part → Bool
is_group_start (part.Opening pair.Parentheses) = true
is_group_start _ = false

-- `[`
abbrev pub is_bracket_start : Part → Bool
is_bracket_start (part.Opening pair.Brackets) = true
is_bracket_start _ = false

-- `]`
abbrev pub is_bracket_end : Part → Bool
is_bracket_end (part.Closing pair.Brackets) = true
is_bracket_end _ = false

-- the word `sealed`
abbrev pub is_sealed : Part → Bool
is_sealed part.Sealed = true
is_sealed _ = false

abbrev pub is_word : Part → Bool
is_word part.Word = true
is_word part.Sealed = true
is_word _ = false

abbrev pub is_primitive : Part → Bool
is_primitive (part.Primitive _) = true
is_primitive _ = false

abbrev pub is_dot : Part → Bool
is_dot part.Dot = true
is_dot _ = false

abbrev pub is_comma : Part → Bool
is_comma part.Comma = true
is_comma _ = false

abbrev pub is_at : Part → Bool
is_at part.At = true
is_at _ = false

abbrev pub is_double_colon : Part → Bool
is_double_colon part.DoubleColon = true
is_double_colon _ = false

abbrev pub is_final : Part → Bool
is_final (part.Modifier modifier.Final) = true
is_final _ = false

-- `<`
abbrev pub is_less : Part → Bool
is_less (part.Binary binary.Less) = true
is_less _ = false

-- how many closing angles a token is: `>`, `>>` and `>>>`
abbrev pub operator_angles : BinOp → ℕ
operator_angles binary.Greater = 1
operator_angles binary.ShiftRight = 2
operator_angles binary.ShiftRightUnsigned = 3
operator_angles _ = 0

abbrev pub angles : Part → ℕ
angles (part.Binary operator) = operator_angles operator
angles _ = 0

abbrev pub is_instanceof : Part → Bool
is_instanceof part.Instanceof = true
is_instanceof _ = false

-- behind these, too, a type may stand in an expression (JLS 15.9, 15.10.1, 15.11, 15.12, 15.13)
abbrev pub begins_type_behind : Part → Bool
begins_type_behind part.New = true
begins_type_behind part.Dot = true
begins_type_behind part.DoubleColon = true
begins_type_behind _ = false

-- what stands in type arguments beside angles, annotations and dimensions (JLS 4.5.1)
abbrev pub is_in_type_arguments : Part → Bool
is_in_type_arguments part.Word = true
is_in_type_arguments part.Sealed = true
is_in_type_arguments (part.Primitive _) = true
is_in_type_arguments part.Dot = true
is_in_type_arguments part.Comma = true
is_in_type_arguments part.Question = true
is_in_type_arguments part.Extends = true
is_in_type_arguments part.Super = true
is_in_type_arguments _ = false
