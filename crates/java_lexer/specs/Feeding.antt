-- How contracts see a lexer, and what its calls answer.
use Rattle.std.specs.Prelude.{◌≡◌, ℕ, List, [], ◌++◌, Result, Ok, Err}
use Rattle.java_token.specs.declared.token.Token.{Token}
use Rattle.java_lexer.specs.declared.fault.LexFault.{LexFault}
use Rattle.java_lexer.specs.declared.fault.LexErr.{LexErr}
use Rattle.java_lexer.specs.declared.fault.LexErr.TheVariants.{Fault, Memory}
use Rattle.java_lexer.specs.declared.standing.Standing.{Standing}
use Rattle.java_lexer.specs.declared.standing.Standing.TheVariants as standing
use Rattle.java_lexer.specs.Lexing.{lexed}

-- the bytes fed so far, the tokens that its calls have told, and how it stands
pub record Fed : Type 0 where
  pub fed : List ℕ
  pub told : List Token
  pub standing : Standing

abbrev pub tokens_in : Result (List Token) LexFault → List Token
tokens_in (Ok tokens) = tokens
tokens_in (Err fault) = []

-- what a lexer has told: nothing before it is finished
abbrev pub told_of : Standing → List ℕ → List Token
told_of standing.Open bytes = []
told_of standing.Finished bytes = tokens_in (lexed bytes)
told_of (standing.Refused e) bytes = []

-- a fact of the fault, unless it is want of memory
abbrev pub IfFault : LexErr → (LexFault → Type 0) → Type 0
IfFault (Fault f) P = P f
IfFault Memory P = Unit {0}

-- however the bytes go on, they have no tokens, and this is why
abbrev pub IsHopeless : List ℕ → LexFault → Type 0
IsHopeless bytes f = (more : List ℕ) → lexed (bytes ++ more) ≡ Err f

-- more bytes are fed, and these tokens told
abbrev pub fed_more : Fed → List ℕ → List Token → Fed
fed_more old piece tokens =
    record { fed = old.fed ++ piece; told = old.told ++ tokens; standing = standing.Open }

-- the text has ended, and these tokens are told
abbrev pub finished : Fed → List Token → Fed
finished old tokens =
    record { fed = old.fed; told = old.told ++ tokens; standing = standing.Finished }

-- the lexer answers this for good
abbrev pub refused : Fed → LexErr → Fed
refused old e = record { fed = old.fed; told = old.told; standing = standing.Refused e }
