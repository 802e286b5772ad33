-- Which texts spell which modifiers, annotations among them (JLS 8.1.1, 8.3.1, 8.4.3, 8.8.3,
-- 9.1.1, 9.4).
use Rattle.std.specs.Prelude.{◌≡◌, ℕ, ◌≤◌, Bool, true, false, List, [], ◌∷◌, ◌++◌, codes, sum_by}
use Rattle.std.specs.Prelude.{count_by}
use Rattle.std.specs.List.{list_any, flat_map}
use Rattle.java_ast.specs.declared.annotation.AnnTree.{AnnTree}
use Rattle.java_ast.specs.declared.modifiers.Modifiers.{Modifiers}
use Rattle.java_ast.specs.declared.modifiers.TheConstants.{PUBLIC, PRIVATE, PROTECTED, STATIC}
use Rattle.java_ast.specs.declared.modifiers.TheConstants.{FINAL, SYNCHRONIZED, VOLATILE}
use Rattle.java_ast.specs.declared.modifiers.TheConstants.{TRANSIENT, NATIVE, ABSTRACT}
use Rattle.java_ast.specs.declared.expression.BinOp.TheVariants as binary
use Rattle.java_grammar.specs.declared.modifier.Modifier.{Modifier}
use Rattle.java_grammar.specs.declared.modifier.Modifier.TheVariants as item
use Rattle.java_grammar.specs.declared.part.Part.TheVariants as part
use Rattle.java_grammar.specs.declared.part.ModifierWord.{ModifierWord}
use Rattle.java_grammar.specs.declared.part.ModifierWord.TheVariants as modifier
use Rattle.java_grammar.specs.Marks.{Mark, Line}
use Rattle.java_grammar.specs.Words.{◌⨾◌, Row, Is, Word}
use Rattle.java_grammar.specs.Annotations.{AnnSpells}

abbrev pub ModifierLine : Modifier → Line
ModifierLine (item.Annotation a) = AnnSpells a
ModifierLine (item.Keyword word) = Is (part.Modifier word)
ModifierLine item.Sealed = Word (codes "sealed")
ModifierLine item.NonSealed = Word (codes "non")
    ⨾ (Is (part.Binary binary.Minus) ⨾ Word (codes "sealed"))

abbrev pub is_annotation : Modifier → Bool
is_annotation (item.Annotation a) = true
is_annotation _ = false

-- each word stands at most once
abbrev pub IsEachOnce : List Modifier → Type 0
IsEachOnce items = (before between behind : List Modifier) (m : Modifier)
    → items ≡ before ++ m ∷ (between ++ m ∷ behind) → is_annotation m ≡ true

abbrev pub is_access : Modifier → Bool
is_access (item.Keyword modifier.Public) = true
is_access (item.Keyword modifier.Protected) = true
is_access (item.Keyword modifier.Private) = true
is_access _ = false

-- the access flags of the words (JVMS 4.1, 4.5, 4.6); `strictfp` has none, nor has `default`
abbrev pub flag_of : ModifierWord → ℕ
flag_of modifier.Public = PUBLIC
flag_of modifier.Private = PRIVATE
flag_of modifier.Protected = PROTECTED
flag_of modifier.Static = STATIC
flag_of modifier.Final = FINAL
flag_of modifier.Synchronized = SYNCHRONIZED
flag_of modifier.Volatile = VOLATILE
flag_of modifier.Transient = TRANSIENT
flag_of modifier.Native = NATIVE
flag_of modifier.Abstract = ABSTRACT
flag_of modifier.Strictfp = 0
flag_of modifier.Default = 0

abbrev pub item_flag : Modifier → ℕ
item_flag (item.Keyword word) = flag_of word
item_flag _ = 0

abbrev pub is_default_word : Modifier → Bool
is_default_word (item.Keyword modifier.Default) = true
is_default_word _ = false

abbrev pub is_sealed_item : Modifier → Bool
is_sealed_item item.Sealed = true
is_sealed_item _ = false

abbrev pub is_non_sealed : Modifier → Bool
is_non_sealed item.NonSealed = true
is_non_sealed _ = false

abbrev pub annotation_of : Modifier → List AnnTree
annotation_of (item.Annotation a) = a ∷ []
annotation_of _ = []

-- what modifiers come to
abbrev pub modifiers_of : List Modifier → Modifiers
modifiers_of items = record {
  flags = sum_by item_flag items;
  is_default = list_any is_default_word items;
  is_sealed = list_any is_sealed_item items;
  non_sealed = list_any is_non_sealed items;
  anns = flat_map annotation_of items;
}

-- the text spells the modifiers: in any order, each word once, at most one of `public`,
-- `protected` and `private`
pub record ModifiersSpell (mods : Modifiers) (text : List Mark) : Type 0 where
  pub items : List Modifier
  pub spelled : Row ModifierLine items text
  pub each_once : IsEachOnce items
  pub one_access : count_by is_access items ≤ 1
  pub whole : mods ≡ modifiers_of items

-- annotations alone, as modifiers
pub record AnnotationsSpell (mods : Modifiers) (text : List Mark) : Type 0 where
  pub anns : List AnnTree
  pub spelled : Row AnnSpells anns text
  pub whole : mods ≡ record {
    flags = 0;
    is_default = false;
    is_sealed = false;
    non_sealed = false;
    anns = anns;
  }
