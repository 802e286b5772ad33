-- Lists of items behind their count, and flags.
use Rattle.std.proofs.Common.{◌≡◌, ℕ, zero, suc, ◌+◌, ◌%◌, ◌^◌, ◌<◌, List, [], ◌∷◌, ◌++◌, length}
use Rattle.std.proofs.Common.{refl, sym, ap, ◌∙◌, arith}
use Rattle.std.specs.Int.{w8, to_be_bytes, from_be_bytes}
use Rattle.class_desc.specs.Items.{CountedSpells, ForParametersSpell}
use Rattle.class_desc.specs.Texts.{total}
use Rattle.class_desc.proofs.Texts.{total_append}
use Rattle.pool_reader.specs.Reading.{Position, Read, number_at, times}
use Rattle.pool_reader.proofs.Laws.{IsBytes, Weighs, Reads, reads_as, Given, weighs_given, Then}
use Rattle.pool_reader.proofs.Laws.{joined, weighs_then, reads_then, Several, weighs_times}
use Rattle.pool_reader.proofs.Laws.{counted_before}
use Rattle.pool_reader.proofs.Numbers.{IsWide, NumberSpells, reads_number, weighs_counted}
use Rattle.attribute_reader.specs.Items.{counted_at, for_parameters_at, growing}

-- ---- a count of one byte

one_byte : (bytes : List ℕ) → length bytes ≡ 1 → IsBytes bytes
    → to_be_bytes w8 (from_be_bytes w8 bytes) ≡ bytes
one_byte [] len fits = absurd (let h = len in omega arith)
one_byte (b ∷ []) len fits =
    let one : from_be_bytes w8 (b ∷ []) ≡ b = omega arith in
    let below : b < 256 = fits 0 in
    let same : b % 256 ≡ b = omega arith in
    ap (to_be_bytes w8) one ∙ ap (λ k. k ∷ []) same
one_byte (b ∷ c ∷ bytes) len fits = absurd (let h = len in omega arith)

wide8 : IsWide w8 (2 ^ 8)
wide8 = record {
  len = λ n. refl;
  back = one_byte;
  again = λ n lt. omega arith;
  below = λ bytes fits. omega (arith, fits 0);
}

pub reads_u8 : Reads (number_at w8) (NumberSpells w8 (2 ^ 8))
reads_u8 = reads_number w8 (2 ^ 8) wide8

-- ---- lists

pub weighs_counted_at : {A : Type 0} {weight : A → ℕ} {read : Position → Read A}
    {Spells : A → List ℕ → Type 0}
    → Weighs 0 weight read Spells
    → Weighs 0 (total weight) (counted_at read) (CountedSpells Spells)
unfolding counted_at
weighs_counted_at law = weighs_counted law

to_for_parameters : {A : Type 0} (Spells : A → List ℕ → Type 0) (items : List A) (text : List ℕ)
    → Then (NumberSpells w8 (2 ^ 8)) (Several Spells) items text
    → ForParametersSpell Spells items text
to_for_parameters Spells items text s = record {
  rest = s.rest;
  count = omega (arith, s.first.0, s.second.length_is);
  whole = joined s (s.first.1 ∙ ap (to_be_bytes w8) (sym s.second.length_is)) refl;
  each = s.second.each;
}

from_for_parameters : {A : Type 0} (Spells : A → List ℕ → Type 0) (items : List A) (text : List ℕ)
    → ForParametersSpell Spells items text
    → Then (NumberSpells w8 (2 ^ 8)) (Several Spells) items text
from_for_parameters Spells items text s = record {
  item = length items;
  front = to_be_bytes w8 (length items);
  rest = s.rest;
  whole = s.whole;
  first = (s.count, refl);
  second = record { length_is = refl; each = s.each };
}

pub weighs_for_parameters : {A : Type 0} {weight : A → ℕ} {read : Position → Read A}
    {Spells : A → List ℕ → Type 0}
    → Weighs 0 weight read Spells
    → Weighs 0 (total weight) (for_parameters_at read) (ForParametersSpell Spells)
unfolding for_parameters_at
weighs_for_parameters {read} {Spells} law =
    reads_as (ForParametersSpell Spells)
    (reads_then (λ begun count. times read count) reads_u8 (λ begun count. weighs_times law count))
    (to_for_parameters Spells)
    (from_for_parameters Spells)

-- ---- items of which each is read with those before it

-- what as many items add to those before them
abbrev pub Grown : {A : Type 0} → (List A → List A → List ℕ → Type 0) → ℕ → List A → List A
    → List ℕ → Type 0
Grown Adds zero before all text = Given before all text
Grown Adds (suc n) before all text =
    Then (Adds before) (λ more. Grown Adds n (before ++ more)) all text

-- the texts of those before were counted before
pub weighs_growing : {A : Type 0} (weight : A → ℕ) {read : List A → Position → Read (List A)}
    {Adds : List A → List A → List ℕ → Type 0}
    → ((before : List A) → Weighs 0 (total weight) (read before) (Adds before))
    → (n : ℕ) (before : List A)
    → Weighs (total weight before) (total weight) (growing read before n) (Grown Adds n before)
unfolding growing
weighs_growing weight law zero before = weighs_given before refl
weighs_growing weight {read} law (suc n) before =
    weighs_then (λ begun more. growing read (before ++ more) n) (law before)
    (λ begun more.
    counted_before (total_append weight before more) (weighs_growing weight law n (before ++ more)))
