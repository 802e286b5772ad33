-- Which part each sign is.
use Rattle.std.specs.Prelude.{Bool, true, false}
use Rattle.java_ast.specs.declared.expression.BinOp.TheVariants as binary
use Rattle.java_grammar.specs.declared.part.Part.{Part}
use Rattle.java_grammar.specs.declared.part.Part.TheVariants as part
use Rattle.java_grammar.specs.declared.part.ModifierWord.TheVariants as modifier
use Rattle.java_grammar.specs.declared.part.Pair.TheVariants as pair
use Rattle.java_grammar.specs.declared.sign.Sign.{Sign}
use Rattle.java_grammar.specs.declared.sign.Sign.TheVariants as sign

abbrev pub sign_part : Sign → Part
sign_part sign.Dot = part.Dot
sign_part sign.Comma = part.Comma
sign_part sign.At = part.At
sign_part sign.Assign = part.Assign
sign_part sign.Question = part.Question
sign_part sign.Colon = part.Colon
sign_part sign.LeftParenthesis = part.Opening pair.Parentheses
sign_part sign.RightParenthesis = part.Closing pair.Parentheses
sign_part sign.LeftBracket = part.Opening pair.Brackets
sign_part sign.RightBracket = part.Closing pair.Brackets
sign_part sign.LeftBrace = part.Opening pair.Braces
sign_part sign.RightBrace = part.Closing pair.Braces
sign_part sign.Less = part.Binary binary.Less
sign_part sign.Class = part.Class
sign_part sign.Extends = part.Extends
sign_part sign.Super = part.Super
sign_part sign.And = part.Binary binary.And
sign_part sign.Star = part.Binary binary.Star
sign_part sign.Minus = part.Binary binary.Minus
sign_part sign.Ellipsis = part.Ellipsis
sign_part sign.Static = part.Modifier modifier.Static
sign_part sign.Default = part.Modifier modifier.Default
sign_part sign.Void = part.Void
sign_part sign.This = part.This
sign_part sign.Interface = part.Interface
sign_part sign.Enum = part.Enum
sign_part sign.Package = part.Package
sign_part sign.Import = part.Import
sign_part sign.Implements = part.Implements
sign_part sign.Throws = part.Throws

abbrev is_dot : Part → Bool
is_dot part.Dot = true
is_dot _ = false

abbrev is_comma : Part → Bool
is_comma part.Comma = true
is_comma _ = false

abbrev is_at : Part → Bool
is_at part.At = true
is_at _ = false

abbrev is_assign : Part → Bool
is_assign part.Assign = true
is_assign _ = false

abbrev is_question : Part → Bool
is_question part.Question = true
is_question _ = false

abbrev is_colon : Part → Bool
is_colon part.Colon = true
is_colon _ = false

abbrev is_left_parenthesis : Part → Bool
is_left_parenthesis (part.Opening pair.Parentheses) = true
is_left_parenthesis _ = false

abbrev is_right_parenthesis : Part → Bool
is_right_parenthesis (part.Closing pair.Parentheses) = true
is_right_parenthesis _ = false

abbrev is_left_bracket : Part → Bool
is_left_bracket (part.Opening pair.Brackets) = true
is_left_bracket _ = false

abbrev is_right_bracket : Part → Bool
is_right_bracket (part.Closing pair.Brackets) = true
is_right_bracket _ = false

abbrev is_left_brace : Part → Bool
is_left_brace (part.Opening pair.Braces) = true
is_left_brace _ = false

abbrev is_right_brace : Part → Bool
is_right_brace (part.Closing pair.Braces) = true
is_right_brace _ = false

abbrev is_less : Part → Bool
is_less (part.Binary binary.Less) = true
is_less _ = false

abbrev is_class : Part → Bool
is_class part.Class = true
is_class _ = false

abbrev is_extends : Part → Bool
is_extends part.Extends = true
is_extends _ = false

abbrev is_super : Part → Bool
is_super part.Super = true
is_super _ = false

abbrev is_and : Part → Bool
is_and (part.Binary binary.And) = true
is_and _ = false

abbrev is_star : Part → Bool
is_star (part.Binary binary.Star) = true
is_star _ = false

abbrev is_minus : Part → Bool
is_minus (part.Binary binary.Minus) = true
is_minus _ = false

abbrev is_ellipsis : Part → Bool
is_ellipsis part.Ellipsis = true
is_ellipsis _ = false

abbrev is_static : Part → Bool
is_static (part.Modifier modifier.Static) = true
is_static _ = false

abbrev is_default : Part → Bool
is_default (part.Modifier modifier.Default) = true
is_default _ = false

abbrev is_void : Part → Bool
is_void part.Void = true
is_void _ = false

abbrev is_this : Part → Bool
is_this part.This = true
is_this _ = false

abbrev is_interface : Part → Bool
is_interface part.Interface = true
is_interface _ = false

abbrev is_enum : Part → Bool
is_enum part.Enum = true
is_enum _ = false

abbrev is_package : Part → Bool
is_package part.Package = true
is_package _ = false

abbrev is_import : Part → Bool
is_import part.Import = true
is_import _ = false

abbrev is_implements : Part → Bool
is_implements part.Implements = true
is_implements _ = false

abbrev is_throws : Part → Bool
is_throws part.Throws = true
is_throws _ = false

abbrev pub sign_is : Sign → Part → Bool
sign_is sign.Dot p = is_dot p
sign_is sign.Comma p = is_comma p
sign_is sign.At p = is_at p
sign_is sign.Assign p = is_assign p
sign_is sign.Question p = is_question p
sign_is sign.Colon p = is_colon p
sign_is sign.LeftParenthesis p = is_left_parenthesis p
sign_is sign.RightParenthesis p = is_right_parenthesis p
sign_is sign.LeftBracket p = is_left_bracket p
sign_is sign.RightBracket p = is_right_bracket p
sign_is sign.LeftBrace p = is_left_brace p
sign_is sign.RightBrace p = is_right_brace p
sign_is sign.Less p = is_less p
sign_is sign.Class p = is_class p
sign_is sign.Extends p = is_extends p
sign_is sign.Super p = is_super p
sign_is sign.And p = is_and p
sign_is sign.Star p = is_star p
sign_is sign.Minus p = is_minus p
sign_is sign.Ellipsis p = is_ellipsis p
sign_is sign.Static p = is_static p
sign_is sign.Default p = is_default p
sign_is sign.Void p = is_void p
sign_is sign.This p = is_this p
sign_is sign.Interface p = is_interface p
sign_is sign.Enum p = is_enum p
sign_is sign.Package p = is_package p
sign_is sign.Import p = is_import p
sign_is sign.Implements p = is_implements p
sign_is sign.Throws p = is_throws p
