-- Modifiers (JLS 8.1.1, 8.3.1, 8.4.3, 8.8.3, 9.1.1, 9.4), as a production.
use Rattle.std.specs.Prelude.{ℕ, ◌==◌, Bool, true, false, not, ◌&&◌, nat_le, if◌then◌else◌, codes}
use Rattle.std.specs.Prelude.{List, [], ◌∷◌, Option, Some, None, count_by}
use Rattle.std.specs.List.{list_any}
use Rattle.java_ast.specs.declared.modifiers.Modifiers.{Modifiers}
use Rattle.java_grammar.specs.declared.modifier.Modifier.{Modifier}
use Rattle.java_grammar.specs.declared.modifier.Modifier.TheVariants as item
use Rattle.java_grammar.specs.declared.part.Part.{Part}
use Rattle.java_grammar.specs.declared.part.Part.TheVariants as part
use Rattle.java_grammar.specs.declared.part.ModifierWord.{ModifierWord}
use Rattle.java_grammar.specs.declared.part.ModifierWord.TheVariants as modifier
use Rattle.java_grammar.specs.declared.sign.Sign.TheVariants as sign
use Rattle.java_grammar.specs.Marks.{Mark}
use Rattle.java_grammar.specs.Words.{Is}
use Rattle.java_grammar.specs.Reading.{front_part}
use Rattle.java_grammar.specs.Modifiers.{ModifierLine, is_annotation, is_access, modifiers_of}
use Rattle.java_grammar.specs.Modifiers.{ModifiersSpell}
use Rattle.type_expr_parser.specs.Reading.{Read, found, ◌>>=◌, token_at}
use Rattle.productions.specs.Keys.{Key, Fixed, Keyword, Annotated, Sealing, NonSealing, NoToken}
use Rattle.productions.specs.Keys.{Begin, With}
use Rattle.productions.specs.Productions.{Production, a_sign, ◌▹◌, made, checked, spelled, wider}
use Rattle.productions.specs.Productions.{picked, row}
use Rattle.productions.specs.Leaves.{the_word, annotation}

-- ---- one modifier

abbrev pub keyword_by : Option Part → List Mark → Read ModifierWord
keyword_by (Some (part.Modifier word)) text = token_at text >>= λ t. found word t.1
keyword_by _ text = None

unfoldable pub keyword_at : List Mark → Read ModifierWord
keyword_at text = keyword_by (front_part text) text

abbrev pub keywords : List Begin
keywords =
    With (part.Modifier modifier.Public) ∷ With (part.Modifier modifier.Protected)
    ∷ With (part.Modifier modifier.Private) ∷ With (part.Modifier modifier.Abstract)
    ∷ With (part.Modifier modifier.Static) ∷ With (part.Modifier modifier.Final)
    ∷ With (part.Modifier modifier.Transient) ∷ With (part.Modifier modifier.Volatile)
    ∷ With (part.Modifier modifier.Synchronized) ∷ With (part.Modifier modifier.Native)
    ∷ With (part.Modifier modifier.Strictfp) ∷ With (part.Modifier modifier.Default) ∷ []

unfoldable pub keyword : Production ModifierWord
keyword = record {
  read = λ n text. keyword_at text;
  Spells = λ word. Is (part.Modifier word);
  begins = keywords;
  goes = [];
  empty = false;
}

abbrev pub word_sealed : List ℕ
word_sealed = codes "sealed"

abbrev pub word_non : List ℕ
word_non = codes "non"

-- neither `.` nor `(` nor an end follows it: else it begins a type, or is a name
unfoldable pub sealed_line : Production (Unit {0})
sealed_line = wider (Fixed sign.Dot ∷ Fixed sign.LeftParenthesis ∷ NoToken ∷ [])
    (the_word word_sealed)

unfoldable pub non_sealed_line : Production (Unit {0})
non_sealed_line = the_word word_non ▹ (a_sign sign.Minus ▹ the_word word_sealed)

unfoldable pub modifier_line : Production Modifier
modifier_line = spelled
    (picked Annotated (made item.Annotation annotation)
    (picked Keyword (made item.Keyword keyword)
    (picked Sealing (made (λ none. item.Sealed) sealed_line)
    (made (λ none. item.NonSealed) non_sealed_line))))
    ModifierLine

-- ---- all of them

abbrev pub modifier_keys : List Key
modifier_keys = Annotated ∷ Keyword ∷ Sealing ∷ NonSealing ∷ []

-- each word has a number of its own
abbrev pub word_number : ModifierWord → ℕ
word_number modifier.Public = 0
word_number modifier.Protected = 1
word_number modifier.Private = 2
word_number modifier.Abstract = 3
word_number modifier.Static = 4
word_number modifier.Final = 5
word_number modifier.Transient = 6
word_number modifier.Volatile = 7
word_number modifier.Synchronized = 8
word_number modifier.Native = 9
word_number modifier.Strictfp = 10
word_number modifier.Default = 11

abbrev pub number : Modifier → ℕ
number (item.Keyword word) = word_number word
number item.Sealed = 12
number item.NonSealed = 13
number (item.Annotation a) = 14

-- a modifier of this number is among them
abbrev pub has_number : ℕ → List Modifier → Bool
has_number n items = list_any (λ m. n == number m) items

-- the flag, where a modifier of this number is among them
abbrev pub flag_in : List Modifier → ℕ → ℕ → ℕ
flag_in items n flag = if has_number n items then flag else 0

abbrev pub is_repeated : Modifier → List Modifier → Bool
is_repeated m behind = not (is_annotation m) && has_number (number m) behind

-- no word stands twice
abbrev pub each_once : List Modifier → Bool
each_once [] = true
each_once (m ∷ items) = not (is_repeated m items) && each_once items

abbrev pub may_be : List Modifier → Bool
may_be items = each_once items && nat_le (count_by is_access items) 1

abbrev pub checked_modifiers : List Modifier → Option Modifiers
checked_modifiers items = if may_be items then Some (modifiers_of items) else None

unfoldable pub modifiers : Production Modifiers
modifiers = spelled (checked checked_modifiers (row modifier_keys modifier_line)) ModifiersSpell
