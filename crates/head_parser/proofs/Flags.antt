-- What the words among modifiers come to: their flags, and what they tell.
use Rattle.std.proofs.Common.{◌≡◌, refl, sym, ◌∙◌, ap, ℕ, ◌+◌, ◌==◌, arith, Bool, true}
use Rattle.std.proofs.Common.{List, [], ◌∷◌}
use Rattle.std.specs.Prelude.{not, ◌||◌, if◌then◌else◌, sum_by}
use Rattle.std.proofs.lemmas.List.Sums.{sum_by-cons}
use Rattle.std.specs.List.{list_any}
use Rattle.java_ast.specs.declared.modifiers.TheConstants.{PUBLIC, PRIVATE, PROTECTED, STATIC}
use Rattle.java_ast.specs.declared.modifiers.TheConstants.{FINAL, SYNCHRONIZED, VOLATILE}
use Rattle.java_ast.specs.declared.modifiers.TheConstants.{TRANSIENT, NATIVE, ABSTRACT}
use Rattle.java_grammar.specs.declared.modifier.Modifier.{Modifier}
use Rattle.java_grammar.specs.declared.modifier.Modifier.TheVariants as item
use Rattle.java_grammar.specs.declared.part.ModifierWord.{ModifierWord}
use Rattle.java_grammar.specs.declared.part.ModifierWord.TheVariants as modifier
use Rattle.java_grammar.specs.Modifiers.{item_flag, is_default_word}
use Rattle.java_grammar.specs.Modifiers.{is_sealed_item, is_non_sealed}
use Rattle.head_parser.specs.Modifiers.{number, has_number, flag_in, is_repeated, each_once}
use Rattle.head_parser.proofs.EachOnce.{and_both, not_is}

-- ---- flags

abbrev pub flags_in : List Modifier → ℕ
flags_in items =
    ((flag_in items 0 PUBLIC + flag_in items 1 PROTECTED) + flag_in items 2 PRIVATE)
    + ((flag_in items 3 ABSTRACT + flag_in items 4 STATIC) + flag_in items 5 FINAL)
    + (((flag_in items 6 TRANSIENT + flag_in items 7 VOLATILE) + flag_in items 8 SYNCHRONIZED)
    + flag_in items 9 NATIVE)

none_in : (items : List Modifier) (n flag : ℕ) → not (has_number n items) ≡ true
    → flag_in items n flag ≡ 0
none_in items n flag e = ap (λ b. if b then flag else 0) (not_is (has_number n items) e)

with_word : (w : ModifierWord) (items : List Modifier)
    → not (has_number (number (item.Keyword w)) items) ≡ true
    → flags_in (item.Keyword w ∷ items) ≡ item_flag (item.Keyword w) + flags_in items
with_word modifier.Public items e = let n = none_in items 0 PUBLIC e in omega arith
with_word modifier.Protected items e = let n = none_in items 1 PROTECTED e in omega arith
with_word modifier.Private items e = let n = none_in items 2 PRIVATE e in omega arith
with_word modifier.Abstract items e = let n = none_in items 3 ABSTRACT e in omega arith
with_word modifier.Static items e = let n = none_in items 4 STATIC e in omega arith
with_word modifier.Final items e = let n = none_in items 5 FINAL e in omega arith
with_word modifier.Transient items e = let n = none_in items 6 TRANSIENT e in omega arith
with_word modifier.Volatile items e = let n = none_in items 7 VOLATILE e in omega arith
with_word modifier.Synchronized items e = let n = none_in items 8 SYNCHRONIZED e in omega arith
with_word modifier.Native items e = let n = none_in items 9 NATIVE e in omega arith
with_word modifier.Strictfp items e = omega arith
with_word modifier.Default items e = omega arith

with_one : (m : Modifier) (items : List Modifier) → not (is_repeated m items) ≡ true
    → flags_in (m ∷ items) ≡ item_flag m + flags_in items
with_one (item.Keyword w) items e = with_word w items e
with_one item.Sealed items e = omega arith
with_one item.NonSealed items e = omega arith
with_one (item.Annotation a) items e = omega arith

pub flags_are : (items : List Modifier) → each_once items ≡ true
    → flags_in items ≡ sum_by item_flag items
flags_are [] e = refl
flags_are (m ∷ items) e =
    let a = and_both (not (is_repeated m items)) (each_once items) e in
    with_one m items a.0
    ∙ ap (λ n. item_flag m + n) (flags_are items a.1)
    ∙ sym (sum_by-cons item_flag m items)

-- ---- what they tell

any_as : (p : Modifier → Bool) (n : ℕ) → ((m : Modifier) → p m ≡ (n == number m))
    → (items : List Modifier) → list_any p items ≡ has_number n items
any_as p n same [] = refl
any_as p n same (m ∷ items) =
    ap (λ b. b || list_any p items) (same m)
    ∙ ap (λ b. (n == number m) || b) (any_as p n same items)

is_eleven : (m : Modifier) → is_default_word m ≡ (11 == number m)
is_eleven (item.Keyword modifier.Public) = refl
is_eleven (item.Keyword modifier.Protected) = refl
is_eleven (item.Keyword modifier.Private) = refl
is_eleven (item.Keyword modifier.Abstract) = refl
is_eleven (item.Keyword modifier.Static) = refl
is_eleven (item.Keyword modifier.Final) = refl
is_eleven (item.Keyword modifier.Transient) = refl
is_eleven (item.Keyword modifier.Volatile) = refl
is_eleven (item.Keyword modifier.Synchronized) = refl
is_eleven (item.Keyword modifier.Native) = refl
is_eleven (item.Keyword modifier.Strictfp) = refl
is_eleven (item.Keyword modifier.Default) = refl
is_eleven item.Sealed = refl
is_eleven item.NonSealed = refl
is_eleven (item.Annotation a) = refl

is_twelve : (m : Modifier) → is_sealed_item m ≡ (12 == number m)
is_twelve (item.Keyword modifier.Public) = refl
is_twelve (item.Keyword modifier.Protected) = refl
is_twelve (item.Keyword modifier.Private) = refl
is_twelve (item.Keyword modifier.Abstract) = refl
is_twelve (item.Keyword modifier.Static) = refl
is_twelve (item.Keyword modifier.Final) = refl
is_twelve (item.Keyword modifier.Transient) = refl
is_twelve (item.Keyword modifier.Volatile) = refl
is_twelve (item.Keyword modifier.Synchronized) = refl
is_twelve (item.Keyword modifier.Native) = refl
is_twelve (item.Keyword modifier.Strictfp) = refl
is_twelve (item.Keyword modifier.Default) = refl
is_twelve item.Sealed = refl
is_twelve item.NonSealed = refl
is_twelve (item.Annotation a) = refl

is_thirteen : (m : Modifier) → is_non_sealed m ≡ (13 == number m)
is_thirteen (item.Keyword modifier.Public) = refl
is_thirteen (item.Keyword modifier.Protected) = refl
is_thirteen (item.Keyword modifier.Private) = refl
is_thirteen (item.Keyword modifier.Abstract) = refl
is_thirteen (item.Keyword modifier.Static) = refl
is_thirteen (item.Keyword modifier.Final) = refl
is_thirteen (item.Keyword modifier.Transient) = refl
is_thirteen (item.Keyword modifier.Volatile) = refl
is_thirteen (item.Keyword modifier.Synchronized) = refl
is_thirteen (item.Keyword modifier.Native) = refl
is_thirteen (item.Keyword modifier.Strictfp) = refl
is_thirteen (item.Keyword modifier.Default) = refl
is_thirteen item.Sealed = refl
is_thirteen item.NonSealed = refl
is_thirteen (item.Annotation a) = refl

pub default_is : (items : List Modifier) → list_any is_default_word items ≡ has_number 11 items
default_is items = any_as is_default_word 11 is_eleven items

pub sealed_is : (items : List Modifier) → list_any is_sealed_item items ≡ has_number 12 items
sealed_is items = any_as is_sealed_item 12 is_twelve items

pub non_sealed_is : (items : List Modifier) → list_any is_non_sealed items ≡ has_number 13 items
non_sealed_is items = any_as is_non_sealed 13 is_thirteen items
