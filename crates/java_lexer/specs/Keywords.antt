-- The keywords, and the literals `true`, `false` and `null` (JLS 3.9, 3.10.3, 3.10.8).
use Rattle.std.specs.Prelude.{ℕ, List, [], ◌∷◌, codes, nat_eq, Option, Some, None, if◌then◌else◌}
use lib.Pointwise.{pointwise}
use Rattle.java_token.specs.declared.keyword.Kw.{Kw}
use Rattle.java_token.specs.declared.keyword.Kw.TheVariants as kw

abbrev pub Entries : Type 0
Entries = List (List ℕ × Kw)

-- the keyword of the entry that has this text
abbrev pub look_up : Entries → List ℕ → Option Kw
look_up [] word = None
look_up (entry ∷ entries) word =
    if pointwise nat_eq word entry.0 then Some entry.1 else look_up entries word

abbrev pub entries : Entries
entries =
    (codes "abstract", kw.Abstract) ∷ (codes "assert", kw.Assert) ∷ (codes "boolean", kw.Boolean)
    ∷ (codes "break", kw.Break) ∷ (codes "byte", kw.Byte)
    ∷ (codes "case", kw.Case) ∷ (codes "catch", kw.Catch) ∷ (codes "char", kw.Char)
    ∷ (codes "class", kw.Class) ∷ (codes "const", kw.Const)
    ∷ (codes "continue", kw.Continue) ∷ (codes "default", kw.Default) ∷ (codes "do", kw.Do)
    ∷ (codes "double", kw.Double) ∷ (codes "else", kw.Else)
    ∷ (codes "enum", kw.Enum) ∷ (codes "extends", kw.Extends) ∷ (codes "false", kw.False)
    ∷ (codes "final", kw.Final) ∷ (codes "finally", kw.Finally)
    ∷ (codes "float", kw.Float) ∷ (codes "for", kw.For) ∷ (codes "goto", kw.Goto)
    ∷ (codes "if", kw.If) ∷ (codes "implements", kw.Implements)
    ∷ (codes "import", kw.Import) ∷ (codes "instanceof", kw.Instanceof) ∷ (codes "int", kw.Int)
    ∷ (codes "interface", kw.Interface) ∷ (codes "long", kw.Long)
    ∷ (codes "native", kw.Native) ∷ (codes "new", kw.New) ∷ (codes "null", kw.Null)
    ∷ (codes "package", kw.Package) ∷ (codes "private", kw.Private)
    ∷ (codes "protected", kw.Protected) ∷ (codes "public", kw.Public) ∷ (codes "return", kw.Return)
    ∷ (codes "short", kw.Short) ∷ (codes "static", kw.Static)
    ∷ (codes "strictfp", kw.Strictfp) ∷ (codes "super", kw.Super) ∷ (codes "switch", kw.Switch)
    ∷ (codes "synchronized", kw.Synchronized) ∷ (codes "this", kw.This)
    ∷ (codes "throw", kw.Throw) ∷ (codes "throws", kw.Throws) ∷ (codes "transient", kw.Transient)
    ∷ (codes "true", kw.True) ∷ (codes "try", kw.Try)
    ∷ (codes "_", kw.Underscore) ∷ (codes "void", kw.Void) ∷ (codes "volatile", kw.Volatile)
    ∷ (codes "while", kw.While) ∷ []

-- the keyword with this text, if there is one
unfoldable pub keyword_of : List ℕ → Option Kw
keyword_of word = look_up entries word
