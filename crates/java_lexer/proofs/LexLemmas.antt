-- What the cut of a text says of its bytes.
use Rattle.std.proofs.Common.{◌≡◌, ℕ, ◌+◌, ◌<◌, ◌≤◌, Bool, true, false, List, [], ◌∷◌, length}
use Rattle.std.proofs.Common.{drop, Ok, Err, refl, sym, ◌∙◌, ap, arith, length-drop}
use Rattle.std.proofs.lemmas.List.{drop_all}
use Rattle.java_token.specs.declared.token.Token.{Token}
use Rattle.java_text.specs.Source.{text_of, is_all_utf8}
use Rattle.java_lexer.specs.declared.fault.LexKind.TheVariants.{Utf8, NoToken}
use Rattle.java_lexer.specs.declared.cut.Cut.{Cut}
use Rattle.java_lexer.specs.LineTerminators.{line_ends}
use Rattle.java_lexer.specs.Lexing.{cut_of, verdict_at, line_behind, lexed}
use Rattle.java_lexer.specs.Cutting.{IsCut}

left : (rest : List ℕ) (tokens : List Token) (line : ℕ) (whole : Bool) → 0 < length rest
    → verdict_at rest tokens line whole ≡ Err (record { line = line; kind = NoToken })
left [] tokens line whole h = absurd (omega arith)
left (c ∷ rest) tokens line whole h = refl

none_left : (rest : List ℕ) (tokens : List Token) (line : ℕ) (whole : Bool) → rest ≡ []
    → verdict_at rest tokens line whole ≡ verdict_at [] tokens line whole
none_left rest tokens line whole e = ap (λ r. verdict_at r tokens line whole) e

-- the line of the bad place
line_is : (units : List ℕ) (cut : Cut) → IsCut units cut
    → line_behind (cut_of units).before ≡ 1 + cut.line_ends
line_is units cut h = ap (λ w. 1 + line_ends w) (sym h.before)
    ∙ ap (λ n. 1 + n) (sym h.counted)

lexed_as : (bytes units : List ℕ) (whole : Bool) (cut : Cut) → units ≡ text_of bytes
    → whole ≡ is_all_utf8 bytes → IsCut units cut
    → lexed bytes ≡ verdict_at (drop cut.at units) cut.tokens.items (1 + cut.line_ends) whole
unfolding lexed
lexed_as bytes units whole cut u w h =
    rw (← u, ← w)
    (ap (λ r. verdict_at r (cut_of units).tokens (line_behind (cut_of units).before) whole)
    (sym h.rest)
    ∙ ap (λ ts. verdict_at (drop cut.at units) ts (line_behind (cut_of units).before) whole)
    (sym h.tokens)
    ∙ ap (λ n. verdict_at (drop cut.at units) cut.tokens.items n whole) (line_is units cut h))

-- the text can't be cut to its end
pub no_token : (bytes units : List ℕ) (whole : Bool) (cut : Cut) → units ≡ text_of bytes
    → whole ≡ is_all_utf8 bytes → IsCut units cut → cut.at < length units
    → lexed bytes ≡ Err (record { line = 1 + cut.line_ends; kind = NoToken })
no_token bytes units whole cut u w h l = lexed_as bytes units whole cut u w h
    ∙ left (drop cut.at units) cut.tokens.items (1 + cut.line_ends) whole
    (omega (arith, length-drop cut.at units))

-- the text can, and bytes that are no UTF-8 follow it
pub no_utf8 : (bytes units : List ℕ) (whole : Bool) (cut : Cut) → units ≡ text_of bytes
    → whole ≡ is_all_utf8 bytes → IsCut units cut → length units ≤ cut.at → whole ≡ false
    → lexed bytes ≡ Err (record { line = 1 + cut.line_ends; kind = Utf8 })
no_utf8 bytes units whole cut u w h l e = lexed_as bytes units whole cut u w h
    ∙ none_left _ cut.tokens.items (1 + cut.line_ends) whole (drop_all cut.at units l)
    ∙ ap (λ b. verdict_at [] cut.tokens.items (1 + cut.line_ends) b) e

-- the text can, and is all
pub all_tokens : (bytes units : List ℕ) (whole : Bool) (cut : Cut) → units ≡ text_of bytes
    → whole ≡ is_all_utf8 bytes → IsCut units cut → length units ≤ cut.at → whole ≡ true
    → lexed bytes ≡ Ok cut.tokens.items
all_tokens bytes units whole cut u w h l e = lexed_as bytes units whole cut u w h
    ∙ none_left _ cut.tokens.items (1 + cut.line_ends) whole (drop_all cut.at units l)
    ∙ ap (λ b. verdict_at [] cut.tokens.items (1 + cut.line_ends) b) e
