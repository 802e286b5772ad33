-- The tokens on which the ends of segments and the kinds of bodies depend.
use Rattle.std.specs.Prelude.{Bool, true, false, ◌&&◌, ◌||◌, nat_eq, List, [], ◌∷◌, codes}
use lib.Pointwise.{pointwise}
use Rattle.java_token.specs.declared.token.Token.{Token}
use Rattle.java_token.specs.declared.token.TokenKind.{TokenKind}
use Rattle.java_token.specs.declared.token.TokenKind.TheVariants as kind
use Rattle.java_token.specs.declared.operator.OpTok.TheVariants.{Semicolon, Assign, Dot}
use Rattle.java_token.specs.declared.operator.OpTok.TheVariants.{LeftParenthesis, Less}
use Rattle.java_token.specs.declared.keyword.Kw.TheVariants as word

abbrev pub kind_is_semicolon : TokenKind → Bool
kind_is_semicolon (kind.Op Semicolon) = true
kind_is_semicolon _ = false

unfoldable pub is_semicolon : Token → Bool
is_semicolon token = kind_is_semicolon token.kind

abbrev pub kind_is_assign : TokenKind → Bool
kind_is_assign (kind.Op Assign) = true
kind_is_assign _ = false

unfoldable pub is_assign : Token → Bool
is_assign token = kind_is_assign token.kind

abbrev pub kind_is_dot : TokenKind → Bool
kind_is_dot (kind.Op Dot) = true
kind_is_dot _ = false

unfoldable pub is_dot : Token → Bool
is_dot token = kind_is_dot token.kind

abbrev pub kind_is_default : TokenKind → Bool
kind_is_default (kind.Keyword word.Default) = true
kind_is_default _ = false

unfoldable pub is_default : Token → Bool
is_default token = kind_is_default token.kind

-- `class`, `enum`, and `interface`, also of `@interface` (JLS 8.1, 8.9, 9.1, 9.6)
abbrev pub kind_names_class : TokenKind → Bool
kind_names_class (kind.Keyword word.Class) = true
kind_names_class (kind.Keyword word.Interface) = true
kind_names_class (kind.Keyword word.Enum) = true
kind_names_class _ = false

abbrev pub kind_is_word : TokenKind → Bool
kind_is_word (kind.Word name) = true
kind_is_word _ = false

abbrev pub kind_is_record : TokenKind → Bool
kind_is_record (kind.Word name) = pointwise nat_eq name (codes "record")
kind_is_record _ = false

-- `(` or `<`, which follow the name of a record (JLS 8.10)
abbrev pub kind_follows_name : TokenKind → Bool
kind_follows_name (kind.Op LeftParenthesis) = true
kind_follows_name (kind.Op Less) = true
kind_follows_name _ = false

abbrev pub begins_record : List Token → Bool
begins_record (word ∷ name ∷ next ∷ _) =
    kind_is_record word.kind && (kind_is_word name.kind && kind_follows_name next.kind)
begins_record _ = false

-- the tokens behind a place begin with what makes a declaration one of a class
unfoldable pub begins_class : List Token → Bool
begins_class [] = false
begins_class (t ∷ behind) = kind_names_class t.kind || begins_record (t ∷ behind)
