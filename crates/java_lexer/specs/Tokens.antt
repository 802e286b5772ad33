-- The token that a piece is.
use Rattle.std.specs.Prelude.{ℕ, List, Option, Some, None}
use Rattle.java_names.specs.ModifiedUtf8.{modified_utf8}
use Rattle.java_token.specs.declared.keyword.Kw.{Kw}
use Rattle.java_token.specs.declared.token.LexLit.TheVariants.{Char, Str}
use Rattle.java_token.specs.declared.token.TokenKind.{TokenKind}
use Rattle.java_token.specs.declared.token.TokenKind.TheVariants.{Word, Keyword, Lit, Op}
use Rattle.java_lexer.specs.declared.kind.Kind.{Kind}
use Rattle.java_lexer.specs.declared.kind.Kind.TheVariants as kind
use Rattle.java_lexer.specs.Keywords.{keyword_of}
use Rattle.java_lexer.specs.Numbers.{integer_of, real_of}
use Rattle.java_lexer.specs.Escapes.{character_unit, string_units}
use Rattle.java_lexer.specs.Blocks.{block_units}

-- a keyword, or else a word with this text
abbrev pub word_or : Option Kw → List ℕ → TokenKind
word_or None word = Word word
word_or (Some keyword) word = Keyword keyword

abbrev pub word_of : List ℕ → TokenKind
word_of word = word_or (keyword_of word) word

-- the token of a piece of this kind and these units; white space and comments are none
abbrev pub token_of : Kind → List ℕ → Option TokenKind
token_of kind.Blank units = None
token_of kind.Word units = Some (word_of (modified_utf8 units))
token_of kind.Integer units = Some (Lit (integer_of units))
token_of kind.FloatingPoint units = Some (Lit (real_of units))
token_of kind.Character units = Some (Lit (Char (character_unit units)))
token_of kind.String units = Some (Lit (Str (modified_utf8 (string_units units))))
token_of kind.TextBlock units = Some (Lit (Str (modified_utf8 (block_units units))))
token_of (kind.Operator operator) units = Some (Op operator)
