-- What holds of the names and texts among tokens.
use Rattle.std.specs.Prelude.{◌≡◌, ℕ, true, List, None}
use Rattle.std.specs.List.{AllByRecursion}
use Rattle.java_names.specs.ModifiedUtf8.{IsModifiedUtf8}
use Rattle.java_names.specs.Names.{is_identifier}
use Rattle.java_token.specs.declared.token.Token.{Token}
use Rattle.java_token.specs.declared.token.TokenKind.{TokenKind}
use Rattle.java_token.specs.declared.token.TokenKind.TheVariants.{Word, Lit}
use Rattle.java_token.specs.declared.token.LexLit.TheVariants.{Str}
use Rattle.java_lexer.specs.Keywords.{keyword_of}

-- a word is an identifier, in modified UTF-8, and no keyword (JLS 3.8)
pub record IsSoundWord (name : List ℕ) : Type 0 where
  pub encoded : IsModifiedUtf8 name
  pub identifier : is_identifier name ≡ true
  pub no_keyword : keyword_of name ≡ None

-- a word is sound, and a text is modified UTF-8
abbrev pub IsSoundKind : TokenKind → Type 0
IsSoundKind (Word name) = IsSoundWord name
IsSoundKind (Lit (Str text)) = IsModifiedUtf8 text
IsSoundKind _ = Unit {0}

abbrev pub AreSound : List Token → Type 0
AreSound tokens = AllByRecursion (λ (token : Token). IsSoundKind token.kind) tokens
