-- The units that are found in a text are those that spell it.
use Rattle.std.proofs.Common.{◌≡◌, refl, ap, sym, subst, ◌∙◌, ℕ, ◌<◌, ◌≤◌, ◌^◌, ◌==◌, Bool, true}
use Rattle.std.proofs.Common.{false, ◌&&◌, ◌||◌, List, [], ◌∷◌, ◌++◌, arith}
use Rattle.std.specs.Prelude.{nat_le, Option, Some, None, is_some, if◌then◌else◌}
use Rattle.std.specs.List.{flat_map}
use Rattle.std.proofs.lemmas.Bool.{lt-leb, ne_eqb}
use Rattle.java_names.specs.ModifiedUtf8.{unit_bytes, IsModifiedUtf8}
use Rattle.java_names.specs.Units.{is_next_byte, is_single_byte, is_byte_pair, is_byte_triple}
use Rattle.java_names.specs.Units.{pair_unit, triple_unit, with_unit, units_of, is_modified_utf8}
use Rattle.java_names.proofs.ModifiedUtf8.{AllFit, UnitView, single, pair, triple, unit_view}
use Rattle.java_names.proofs.ModifiedUtf8.{single_parts, pair_parts, triple_parts, single_made}
use Rattle.java_names.proofs.ModifiedUtf8.{pair_made, triple_made}

-- ---- a unit in front

no_low : (x : Bool) (a : ℕ) → nat_le a 0x7F ≡ false → (x && nat_le a 0x7F) ≡ false
no_low true a h = h
no_low false a h = refl

above_single : (a : ℕ) → 0x80 ≤ a → is_single_byte a ≡ false
above_single a h = no_low (nat_le 1 a) a (lt-leb a 0x7F (omega arith))

single_first : (a : ℕ) (rest : List ℕ) → is_single_byte a ≡ true
    → units_of (a ∷ rest) ≡ with_unit a (units_of rest)
unfolding units_of
single_first a [] h = rw h refl
single_first a (b ∷ []) h = rw h refl
single_first a (b ∷ c ∷ bytes) h = rw h refl

pair_first : (a b : ℕ) (rest : List ℕ) → is_byte_pair a b ≡ true
    → units_of (a ∷ b ∷ rest) ≡ with_unit (pair_unit a b) (units_of rest)
unfolding units_of
pair_first a b [] h = rw (above_single a (omega (arith, (pair_parts a b h).low)), h) refl
pair_first a b (c ∷ bytes) h = rw (above_single a (omega (arith, (pair_parts a b h).low)), h) refl

no_pair : (x y z : Bool) (e l : Bool) → e ≡ false → l ≡ false
    → ((e && x) || ((y && l) && z)) ≡ false
no_pair x true z false false e l = refl
no_pair x false z false false e l = refl
no_pair x y z true l e h = absurd cc
no_pair x y z false true e h = absurd cc

above_pair : (a b : ℕ) → 0xE0 ≤ a → is_byte_pair a b ≡ false
above_pair a b h =
    no_pair (b == 0x80) (nat_le 0xC2 a) (is_next_byte b) (a == 0xC0) (nat_le a 0xDF)
    (ne_eqb a 0xC0 (λ e. omega arith)) (lt-leb a 0xDF (omega arith))

triple_first : (a b c : ℕ) (rest : List ℕ) → is_byte_triple a b c ≡ true
    → units_of (a ∷ b ∷ c ∷ rest) ≡ with_unit (triple_unit a b c) (units_of rest)
unfolding units_of
triple_first a b c rest h =
    let low : 0xE0 ≤ a = (triple_parts a b c h).low in
    rw (above_single a (omega arith), above_pair a b low, h) refl

-- ---- from units to their text

pub decoded : (units : List ℕ) → AllFit units → units_of (flat_map unit_bytes units) ≡ Some units
unfolding units_of
decoded [] fit = refl
decoded (u ∷ units) fit = by (unit_view u fit.0) (decoded units fit.1)
  where
    more : List ℕ
    more = flat_map unit_bytes units

    by : UnitView u → units_of more ≡ Some units
        → units_of (unit_bytes u ++ more) ≡ Some (u ∷ units)
    by (single h f) rest = rw f (single_first u more h ∙ ap (with_unit u) rest)
    by (pair a b h f n) rest =
        let is : pair_unit a b ≡ u = omega arith in
        rw f (pair_first a b more h ∙ ap (with_unit (pair_unit a b)) rest
        ∙ ap (λ v. Some (v ∷ units)) is)
    by (triple a b c h f n) rest =
        let is : triple_unit a b c ≡ u = omega arith in
        rw f (triple_first a b c more h ∙ ap (with_unit (triple_unit a b c)) rest
        ∙ ap (λ v. Some (v ∷ units)) is)

-- ---- from a text to its units

abbrev pub Spelled : List ℕ → List ℕ → Type 0
Spelled bytes units = (bytes ≡ flat_map unit_bytes units) × AllFit units

with_more : (unit : ℕ) (front rest : List ℕ) → unit_bytes unit ≡ front → unit < 2 ^ 16
    → (o : Option (List ℕ)) → ((more : List ℕ) → o ≡ Some more → Spelled rest more)
    → (units : List ℕ) → with_unit unit o ≡ Some units → Spelled (front ++ rest) units
with_more unit front rest made fits None ih units e = absurd cc
with_more unit front rest made fits (Some more) ih units e =
    let s = ih more refl in
    let same : unit ∷ more ≡ units = cc in
    subst (Spelled (front ++ rest)) same (
      ap (λ (f : List ℕ). f ++ rest) (sym made)
          ∙ ap (λ (r : List ℕ). unit_bytes unit ++ r) s.0,
      (fits, s.1),
    )

alone : (more : List ℕ) → Some [] ≡ Some more → Spelled [] more
alone more e = let same : [] ≡ more = cc in subst (Spelled []) same (refl, tt)

one : (a : ℕ) (rest : List ℕ) → is_single_byte a ≡ true
    → ((more : List ℕ) → units_of rest ≡ Some more → Spelled rest more) → (units : List ℕ)
    → with_unit a (units_of rest) ≡ Some units → Spelled (a ∷ rest) units
one a rest h ih units e =
    with_more a (a ∷ []) rest (single_made a h) (omega (arith, (single_parts a h).1))
    (units_of rest) ih units e

two : (a b : ℕ) (rest : List ℕ) → is_byte_pair a b ≡ true
    → ((more : List ℕ) → units_of rest ≡ Some more → Spelled rest more) → (units : List ℕ)
    → with_unit (pair_unit a b) (units_of rest) ≡ Some units → Spelled (a ∷ b ∷ rest) units
two a b rest h ih units e = let m = pair_made a b h in
    with_more (pair_unit a b) (a ∷ b ∷ []) rest m.1 m.0 (units_of rest) ih units e

three : (a b c : ℕ) (rest : List ℕ) → is_byte_triple a b c ≡ true
    → ((more : List ℕ) → units_of rest ≡ Some more → Spelled rest more) → (units : List ℕ)
    → with_unit (triple_unit a b c) (units_of rest) ≡ Some units → Spelled (a ∷ b ∷ c ∷ rest) units
three a b c rest h ih units e = let m = triple_made a b c h in
    with_more (triple_unit a b c) (a ∷ b ∷ c ∷ []) rest m.1 m.0 (units_of rest) ih units e

pub spelled : (bytes units : List ℕ) → units_of bytes ≡ Some units → Spelled bytes units
unfolding units_of
spelled [] units e = alone units e
spelled (a ∷ []) units e = by (is_single_byte a) refl e
  where
    by : (s : Bool) → is_single_byte a ≡ s → (if s then Some (a ∷ []) else None) ≡ Some units
        → Spelled (a ∷ []) units
    by true h e = one a [] h alone units e
    by false h e = absurd cc
spelled (a ∷ b ∷ []) units e =
    by (spelled (b ∷ [])) (is_single_byte a) (is_byte_pair a b) refl refl e
  where
    by : ((more : List ℕ) → units_of (b ∷ []) ≡ Some more → Spelled (b ∷ []) more) → (s p : Bool)
        → is_single_byte a ≡ s → is_byte_pair a b ≡ p
        → (if s then with_unit a (units_of (b ∷ []))
        else (if p then Some (pair_unit a b ∷ []) else None)) ≡ Some units
        → Spelled (a ∷ b ∷ []) units
    by ih true p h k e = one a (b ∷ []) h ih units e
    by ih false true h k e = two a b [] k alone units e
    by ih false false h k e = absurd cc
spelled (a ∷ b ∷ c ∷ bytes) units e =
    by (spelled (b ∷ c ∷ bytes)) (spelled (c ∷ bytes)) (spelled bytes) (is_single_byte a)
    (is_byte_pair a b) (is_byte_triple a b c) refl refl refl e
  where
    by : ((more : List ℕ) → units_of (b ∷ c ∷ bytes) ≡ Some more → Spelled (b ∷ c ∷ bytes) more)
        → ((more : List ℕ) → units_of (c ∷ bytes) ≡ Some more → Spelled (c ∷ bytes) more)
        → ((more : List ℕ) → units_of bytes ≡ Some more → Spelled bytes more) → (s p t : Bool)
        → is_single_byte a ≡ s → is_byte_pair a b ≡ p → is_byte_triple a b c ≡ t
        → (if s then with_unit a (units_of (b ∷ c ∷ bytes))
        else (if p then with_unit (pair_unit a b) (units_of (c ∷ bytes))
        else (if t then with_unit (triple_unit a b c) (units_of bytes) else None))) ≡ Some units
        → Spelled (a ∷ b ∷ c ∷ bytes) units
    by x y z true p t h k l e = one a (b ∷ c ∷ bytes) h x units e
    by x y z false true t h k l e = two a b (c ∷ bytes) k y units e
    by x y z false false true h k l e = three a b c bytes l z units e
    by x y z false false false h k l e = absurd cc

-- ---- the test

pub refused : (bytes : List ℕ) → (IsModifiedUtf8 bytes → ⊥) → units_of bytes ≡ None
refused bytes never = by (units_of bytes) refl
  where
    by : (o : Option (List ℕ)) → units_of bytes ≡ o → o ≡ None
    by None e = refl
    by (Some units) e = let s = spelled bytes units e in
        absurd (never (record { units = units; fit = s.1; whole = s.0 }))

pub accepted : (bytes units : List ℕ) → bytes ≡ flat_map unit_bytes units → AllFit units
    → units_of bytes ≡ Some units
accepted bytes units e fit = ap units_of e ∙ decoded units fit

pub test_accepts : (bytes : List ℕ) → IsModifiedUtf8 bytes → is_modified_utf8 bytes ≡ true
test_accepts bytes m = ap is_some (accepted bytes m.units m.whole m.fit)

pub test_refuses : (bytes : List ℕ) → is_modified_utf8 bytes ≡ true → IsModifiedUtf8 bytes
test_refuses bytes h = by (units_of bytes) refl
  where
    by : (o : Option (List ℕ)) → units_of bytes ≡ o → IsModifiedUtf8 bytes
    by None e = absurd (let f : is_some (units_of bytes) ≡ false = ap is_some e in cc)
    by (Some units) e = let s = spelled bytes units e in
        record { units = units; fit = s.1; whole = s.0 }
