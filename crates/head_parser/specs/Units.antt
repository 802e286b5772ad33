-- Packages and imports (JLS 7.4, 7.5), as productions.
use Rattle.std.specs.Prelude.{ℕ, Bool, true, false, List, [], ◌∷◌}
use Rattle.java_ast.specs.declared.unit.Import.{Import}
use Rattle.java_grammar.specs.declared.part.Part.TheVariants as part
use Rattle.java_grammar.specs.declared.sign.Sign.TheVariants as sign
use Rattle.java_grammar.specs.Marks.{Line}
use Rattle.java_grammar.specs.Words.{◌⨾◌, Is, IsOn}
use Rattle.java_grammar.specs.Expressions.{QName}
use Rattle.java_grammar.specs.Members.{Semicolon}
use Rattle.java_grammar.specs.Units.{Static, OnDemand}
use Rattle.productions.specs.Keys.{Fixed, DotStar}
use Rattle.productions.specs.Productions.{Production, a_sign, nothing, ◌▸◌, ◌▹◌, ◌◃◌, made, spelled}
use Rattle.productions.specs.Productions.{narrowed, picked}
use Rattle.productions.specs.Leaves.{a_sign_on, semicolon, qualified_name}

-- the text of a package declaration
abbrev pub PackageLine : List (List ℕ) → Line
PackageLine words = Is part.Package ⨾ (QName words ⨾ Semicolon)

unfoldable pub package_line : Production (List (List ℕ))
package_line = spelled (a_sign sign.Package ▹ (qualified_name ◃ semicolon)) PackageLine

unfoldable pub static_word : Production Bool
static_word = spelled
    (picked (Fixed sign.Static) (made (λ none. true) (a_sign sign.Static)) (nothing false))
    Static

-- `.*` follows the words of a name, and no further word
unfoldable pub dot_star : Production (Unit {0})
dot_star = narrowed (a_sign sign.Dot ▹ a_sign sign.Star) (DotStar ∷ [])

unfoldable pub on_demand : Production Bool
on_demand = spelled
    (picked (Fixed sign.Dot) (made (λ none. true) dot_star) (nothing false))
    OnDemand

-- the text of an import
abbrev pub ImportLine : Import → Line
ImportLine i = IsOn i.line part.Import
    ⨾ (Static i.is_static ⨾ (QName i.names ⨾ (OnDemand i.on_demand ⨾ Semicolon)))

unfoldable pub import_line : Production Import
import_line = spelled
    (made (λ x. record {
      line = x.0;
      is_static = x.1.0;
      names = x.1.1.0;
      on_demand = x.1.1.1;
    }) (a_sign_on sign.Import ▸ static_word ▸ qualified_name ▸ (on_demand ◃ semicolon)))
    ImportLine
