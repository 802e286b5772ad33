-- That no word stands twice, as a test and as the grammar says it.
use Rattle.std.proofs.Common.{◌≡◌, refl, sym, ◌∙◌, ap, ℕ, ◌==◌, ◌≤◌, arith}
use Rattle.std.proofs.Common.{Bool, true, false, List, [], ◌∷◌, ◌++◌, Some, None}
use Rattle.std.proofs.Common.{◌≢◌, ◌⊎◌, inl, inr}
use Rattle.std.specs.Prelude.{not, ◌&&◌, ◌||◌, nat_le, if◌then◌else◌, count_by}
use Rattle.std.proofs.lemmas.Bool.{eqb-true, leb-true, le-leb}
use Rattle.std.proofs.lemmas.Bool.Decides.{eqb_tells}
use Rattle.java_ast.specs.declared.modifiers.Modifiers.{Modifiers}
use Rattle.java_grammar.specs.declared.modifier.Modifier.{Modifier}
use Rattle.java_grammar.specs.declared.modifier.Modifier.TheVariants as item
use Rattle.java_grammar.specs.declared.part.ModifierWord.{ModifierWord}
use Rattle.java_grammar.specs.declared.part.ModifierWord.TheVariants as modifier
use Rattle.java_grammar.specs.Modifiers.{is_annotation, IsEachOnce, is_access, modifiers_of}
use Rattle.head_parser.specs.Modifiers.{word_number, number, has_number, is_repeated, each_once}
use Rattle.head_parser.specs.Modifiers.{may_be, checked_modifiers}

-- ---- truth values

pub and_both : (a b : Bool) → (a && b) ≡ true → (a ≡ true) × (b ≡ true)
and_both true b e = (refl, e)
and_both false b e = absurd cc

pub both_and : (a b : Bool) → a ≡ true → b ≡ true → (a && b) ≡ true
both_and true b e f = f
both_and false b e f = absurd cc

or_first : (a b : Bool) → a ≡ true → (a || b) ≡ true
or_first true b e = refl
or_first false b e = absurd cc

or_second : (a b : Bool) → b ≡ true → (a || b) ≡ true
or_second true b e = refl
or_second false b e = e

pub not_is : (b : Bool) → not b ≡ true → b ≡ false
not_is true e = absurd cc
not_is false e = refl

same_number : (n : ℕ) → (n == n) ≡ true
same_number n = by (eqb_tells n n)
  where
    by : ((n == n) ≡ true) × (n ≡ n) ⊎ ((n == n) ≡ false) × (n ≢ n) → (n == n) ≡ true
    by (inl x) = x.0
    by (inr x) = absurd (x.1 refl)

-- ---- numbers

by_number : (a b : ModifierWord) → word_number a ≡ word_number b → a ≡ b
by_number a b e = sym (back a) ∙ ap from e ∙ back b
  where
    from : ℕ → ModifierWord
    from n =
        if n == 0 then modifier.Public
        else (if n == 1 then modifier.Protected
        else (if n == 2 then modifier.Private
        else (if n == 3 then modifier.Abstract
        else (if n == 4 then modifier.Static
        else (if n == 5 then modifier.Final
        else (if n == 6 then modifier.Transient
        else (if n == 7 then modifier.Volatile
        else (if n == 8 then modifier.Synchronized
        else (if n == 9 then modifier.Native
        else (if n == 10 then modifier.Strictfp
        else modifier.Default))))))))))

    back : (w : ModifierWord) → from (word_number w) ≡ w
    back modifier.Public = refl
    back modifier.Protected = refl
    back modifier.Private = refl
    back modifier.Abstract = refl
    back modifier.Static = refl
    back modifier.Final = refl
    back modifier.Transient = refl
    back modifier.Volatile = refl
    back modifier.Synchronized = refl
    back modifier.Native = refl
    back modifier.Strictfp = refl
    back modifier.Default = refl

small : (w : ModifierWord) → word_number w ≤ 11
small modifier.Public = omega arith
small modifier.Protected = omega arith
small modifier.Private = omega arith
small modifier.Abstract = omega arith
small modifier.Static = omega arith
small modifier.Final = omega arith
small modifier.Transient = omega arith
small modifier.Volatile = omega arith
small modifier.Synchronized = omega arith
small modifier.Native = omega arith
small modifier.Strictfp = omega arith
small modifier.Default = omega arith

-- but for annotations one modifier has a number
same_item : (m k : Modifier) → is_annotation m ≡ false → number m ≡ number k → m ≡ k
same_item (item.Annotation a) k e h = absurd cc
same_item (item.Keyword v) (item.Keyword w) e h = ap item.Keyword (by_number v w h)
same_item (item.Keyword v) item.Sealed e h = let s = small v in absurd (omega arith)
same_item (item.Keyword v) item.NonSealed e h = let s = small v in absurd (omega arith)
same_item (item.Keyword v) (item.Annotation a) e h = let s = small v in absurd (omega arith)
same_item item.Sealed (item.Keyword w) e h = let s = small w in absurd (omega arith)
same_item item.Sealed item.Sealed e h = refl
same_item item.Sealed item.NonSealed e h = absurd (omega arith)
same_item item.Sealed (item.Annotation a) e h = absurd (omega arith)
same_item item.NonSealed (item.Keyword w) e h = let s = small w in absurd (omega arith)
same_item item.NonSealed item.Sealed e h = absurd (omega arith)
same_item item.NonSealed item.NonSealed e h = refl
same_item item.NonSealed (item.Annotation a) e h = absurd (omega arith)

-- ---- what stands among the items

record Found (n : ℕ) (items : List Modifier) : Type 0 where
  before : List Modifier
  one : Modifier
  behind : List Modifier
  whole : items ≡ before ++ one ∷ behind
  is : n ≡ number one

found_by : (n : ℕ) (m : Modifier) (items : List Modifier) (b : Bool) → (n == number m) ≡ b
    → (b || has_number n items) ≡ true → (has_number n items ≡ true → Found n items)
    → Found n (m ∷ items)
found_by n m items true e h more = record {
  before = [];
  one = m;
  behind = items;
  whole = refl;
  is = eqb-true n (number m) e;
}
found_by n m items false e h more =
    let f = more h in
    record {
      before = m ∷ f.before;
      one = f.one;
      behind = f.behind;
      whole = ap (λ l. m ∷ l) f.whole;
      is = f.is;
    }

found_in : (n : ℕ) (items : List Modifier) → has_number n items ≡ true → Found n items
found_in n [] e = absurd cc
found_in n (m ∷ items) e = found_by n m items (n == number m) refl e (found_in n items)

among : (n : ℕ) (before behind : List Modifier) (m : Modifier) → n ≡ number m
    → has_number n (before ++ m ∷ behind) ≡ true
among n [] behind m e =
    or_first (n == number m) (has_number n behind)
    (ap (λ k. n == k) (sym e) ∙ same_number n)
among n (k ∷ before) behind m e =
    or_second (n == number k) (has_number n (before ++ m ∷ behind)) (among n before behind m e)

-- ---- the two ways of saying it

-- what is tested of the items behind some holds
behind_once : (before items : List Modifier) → each_once (before ++ items) ≡ true
    → each_once items ≡ true
behind_once [] items e = e
behind_once (m ∷ before) items e =
    behind_once before items
    (and_both (not (is_repeated m (before ++ items))) (each_once (before ++ items)) e).1

annotation_by : (m : Modifier) (items : List Modifier) (b : Bool) → is_annotation m ≡ b
    → not (not b && has_number (number m) items) ≡ true → has_number (number m) items ≡ true
    → b ≡ true
annotation_by m items true e h f = refl
annotation_by m items false e h f =
    let g : not true ≡ true = ap not (sym f) ∙ h in absurd cc

pub once_is : (items : List Modifier) → each_once items ≡ true → IsEachOnce items
once_is items e before between behind m whole =
    let tail = behind_once before (m ∷ (between ++ m ∷ behind))
    (sym (ap each_once whole) ∙ e) in
    let a = and_both (not (is_repeated m (between ++ m ∷ behind)))
    (each_once (between ++ m ∷ behind)) tail in
    annotation_by m (between ++ m ∷ behind) (is_annotation m) refl a.0
    (among (number m) between behind m refl)

not_repeated : (m : Modifier) (items : List Modifier) → IsEachOnce (m ∷ items)
    → (b c : Bool) → is_annotation m ≡ b → has_number (number m) items ≡ c
    → not (not b && c) ≡ true
not_repeated m items once true c e h = refl
not_repeated m items once false false e h = refl
not_repeated m items once false true e h =
    let f = found_in (number m) items h in
    let same : m ≡ f.one = same_item m f.one e f.is in
    let a : is_annotation m ≡ true =
    once [] f.before f.behind m (ap (λ l. m ∷ l) (f.whole
    ∙ ap (λ k. f.before ++ k ∷ f.behind) (sym same))) in
    let g : true ≡ false = sym a ∙ e in
    absurd cc

pub is_once : (items : List Modifier) → IsEachOnce items → each_once items ≡ true
is_once [] once = refl
is_once (m ∷ items) once =
    both_and (not (is_repeated m items)) (each_once items)
    (not_repeated m items once (is_annotation m) (has_number (number m) items) refl refl)
    (is_once items (λ before between behind k whole.
    once (m ∷ before) between behind k (ap (λ l. m ∷ l) whole)))

-- ---- what is checked of the items

checked_by : (items : List Modifier) (mods : Modifiers) (b : Bool)
    → (if b then Some (modifiers_of items) else None) ≡ Some mods
    → (b ≡ true) × (mods ≡ modifiers_of items)
checked_by items mods true e = (refl, let f : modifiers_of items ≡ mods = cc in sym f)
checked_by items mods false e = absurd cc

pub checked_is : (items : List Modifier) (mods : Modifiers)
    → checked_modifiers items ≡ Some mods
    → IsEachOnce items × (count_by is_access items ≤ 1) × (mods ≡ modifiers_of items)
checked_is items mods e =
    let c = checked_by items mods (may_be items) e in
    let a = and_both (each_once items) (nat_le (count_by is_access items) 1) c.0 in
    (once_is items a.0, leb-true (count_by is_access items) 1 a.1, c.1)

pub is_checked : (items : List Modifier) (mods : Modifiers) → IsEachOnce items
    → count_by is_access items ≤ 1 → mods ≡ modifiers_of items
    → checked_modifiers items ≡ Some mods
is_checked items mods once few whole =
    let le : nat_le (count_by is_access items) 1 ≡ true =
    le-leb (count_by is_access items) 1 few in
    let b = both_and (each_once items) (nat_le (count_by is_access items) 1)
    (is_once items once) le in
    ap (λ c. if c then Some (modifiers_of items) else None) b ∙ ap Some (sym whole)
