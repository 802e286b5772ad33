-- Each sign is one part, and no other.
use Rattle.std.proofs.Common.{◌≡◌, refl, true}
use Rattle.java_ast.specs.declared.expression.BinOp.TheVariants as binary
use Rattle.java_grammar.specs.declared.part.Part.{Part}
use Rattle.java_grammar.specs.declared.part.Part.TheVariants as part
use Rattle.java_grammar.specs.declared.part.ModifierWord.TheVariants as modifier
use Rattle.java_grammar.specs.declared.part.Pair.TheVariants as pair
use Rattle.java_grammar.specs.declared.sign.Sign.{Sign}
use Rattle.java_grammar.specs.declared.sign.Sign.TheVariants as sign
use Rattle.java_grammar.specs.Signs.{sign_is, sign_part}

pub sign_exact : (s : Sign) (p : Part) → sign_is s p ≡ true → p ≡ sign_part s
sign_exact sign.Dot part.Dot e = refl
sign_exact sign.Dot _ e = cc
sign_exact sign.Comma part.Comma e = refl
sign_exact sign.Comma _ e = cc
sign_exact sign.At part.At e = refl
sign_exact sign.At _ e = cc
sign_exact sign.Assign part.Assign e = refl
sign_exact sign.Assign _ e = cc
sign_exact sign.Question part.Question e = refl
sign_exact sign.Question _ e = cc
sign_exact sign.Colon part.Colon e = refl
sign_exact sign.Colon _ e = cc
sign_exact sign.LeftParenthesis (part.Opening pair.Parentheses) e = refl
sign_exact sign.LeftParenthesis _ e = cc
sign_exact sign.RightParenthesis (part.Closing pair.Parentheses) e = refl
sign_exact sign.RightParenthesis _ e = cc
sign_exact sign.LeftBracket (part.Opening pair.Brackets) e = refl
sign_exact sign.LeftBracket _ e = cc
sign_exact sign.RightBracket (part.Closing pair.Brackets) e = refl
sign_exact sign.RightBracket _ e = cc
sign_exact sign.LeftBrace (part.Opening pair.Braces) e = refl
sign_exact sign.LeftBrace _ e = cc
sign_exact sign.RightBrace (part.Closing pair.Braces) e = refl
sign_exact sign.RightBrace _ e = cc
sign_exact sign.Less (part.Binary binary.Less) e = refl
sign_exact sign.Less _ e = cc
sign_exact sign.Class part.Class e = refl
sign_exact sign.Class _ e = cc
sign_exact sign.Extends part.Extends e = refl
sign_exact sign.Extends _ e = cc
sign_exact sign.Super part.Super e = refl
sign_exact sign.Super _ e = cc
sign_exact sign.And (part.Binary binary.And) e = refl
sign_exact sign.And _ e = cc
sign_exact sign.Star (part.Binary binary.Star) e = refl
sign_exact sign.Star _ e = cc
sign_exact sign.Minus (part.Binary binary.Minus) e = refl
sign_exact sign.Minus _ e = cc
sign_exact sign.Ellipsis part.Ellipsis e = refl
sign_exact sign.Ellipsis _ e = cc
sign_exact sign.Static (part.Modifier modifier.Static) e = refl
sign_exact sign.Static _ e = cc
sign_exact sign.Default (part.Modifier modifier.Default) e = refl
sign_exact sign.Default _ e = cc
sign_exact sign.Void part.Void e = refl
sign_exact sign.Void _ e = cc
sign_exact sign.This part.This e = refl
sign_exact sign.This _ e = cc
sign_exact sign.Interface part.Interface e = refl
sign_exact sign.Interface _ e = cc
sign_exact sign.Enum part.Enum e = refl
sign_exact sign.Enum _ e = cc
sign_exact sign.Package part.Package e = refl
sign_exact sign.Package _ e = cc
sign_exact sign.Import part.Import e = refl
sign_exact sign.Import _ e = cc
sign_exact sign.Implements part.Implements e = refl
sign_exact sign.Implements _ e = cc
sign_exact sign.Throws part.Throws e = refl
sign_exact sign.Throws _ e = cc

pub sign_true : (s : Sign) → sign_is s (sign_part s) ≡ true
sign_true sign.Dot = refl
sign_true sign.Comma = refl
sign_true sign.At = refl
sign_true sign.Assign = refl
sign_true sign.Question = refl
sign_true sign.Colon = refl
sign_true sign.LeftParenthesis = refl
sign_true sign.RightParenthesis = refl
sign_true sign.LeftBracket = refl
sign_true sign.RightBracket = refl
sign_true sign.LeftBrace = refl
sign_true sign.RightBrace = refl
sign_true sign.Less = refl
sign_true sign.Class = refl
sign_true sign.Extends = refl
sign_true sign.Super = refl
sign_true sign.And = refl
sign_true sign.Star = refl
sign_true sign.Minus = refl
sign_true sign.Ellipsis = refl
sign_true sign.Static = refl
sign_true sign.Default = refl
sign_true sign.Void = refl
sign_true sign.This = refl
sign_true sign.Interface = refl
sign_true sign.Enum = refl
sign_true sign.Package = refl
sign_true sign.Import = refl
sign_true sign.Implements = refl
sign_true sign.Throws = refl
