-- Modified UTF-8, unit by unit.
use Rattle.std.proofs.Common.{◌≡◌, refl, ap, sym, subst, ◌∙◌, ℕ, zero, suc, ◌+◌, ◌-◌, ◌*◌, ◌/◌}
use Rattle.std.proofs.Common.{◌%◌, ◌^◌, ◌<◌, ◌≤◌, Bool, true, false, cond, ◌&&◌, ◌||◌, eqb, List}
use Rattle.std.proofs.Common.{[], ◌∷◌, ◌++◌, length, take, drop, get_or, append_assoc, append-nil}
use Rattle.std.proofs.Common.{arith, inl, inr, ◌⊎◌}
use Rattle.std.specs.Prelude.{nat_lt, nat_le}
use Rattle.std.specs.List.{flat_map, AllByRecursion}
use Rattle.std.proofs.lemmas.Bool.{and_parts, and_from, and_cases, or_cases, or_left, or_right}
use Rattle.std.proofs.lemmas.Bool.{both_ways, eqb-true, eq-eqb, ltb-true, ltb-false, lt-ltb}
use Rattle.std.proofs.lemmas.Bool.{le-ltb, leb-true, le-leb}
use Rattle.std.proofs.lemmas.List.{take_all}
use Rattle.std.proofs.lemmas.Grind.{flat_map-append}
use Rattle.java_names.specs.ModifiedUtf8.{unit_bytes, IsModifiedUtf8}
use Rattle.java_names.specs.Units.{is_next_byte, is_single_byte, is_byte_pair, is_byte_triple}
use Rattle.java_names.specs.Units.{pair_unit, triple_unit, IsFirstUnit, HasNoUnit}

-- ---- what the tests of bytes say

next_parts : (b : ℕ) → is_next_byte b ≡ true → (0x80 ≤ b) × (b ≤ 0xBF)
next_parts b h = let p = and_parts (nat_le 0x80 b) (nat_le b 0xBF) h in
    (leb-true 0x80 b p.0, leb-true b 0xBF p.1)

next_from : (b : ℕ) → 0x80 ≤ b → b ≤ 0xBF → is_next_byte b ≡ true
next_from b l h = and_from (nat_le 0x80 b) (nat_le b 0xBF) (le-leb 0x80 b l) (le-leb b 0xBF h)

pub single_parts : (a : ℕ) → is_single_byte a ≡ true → (1 ≤ a) × (a ≤ 0x7F)
single_parts a h = let p = and_parts (nat_le 1 a) (nat_le a 0x7F) h in
    (leb-true 1 a p.0, leb-true a 0x7F p.1)

pub record Pair (a b : ℕ) : Type 0 where
  pub shortest : ((a ≡ 0xC0) × (b ≡ 0x80)) ⊎ (0xC2 ≤ a)
  pub low : 0xC0 ≤ a
  pub high : a ≤ 0xDF
  pub next_low : 0x80 ≤ b
  pub next_high : b ≤ 0xBF

pub pair_parts : (a b : ℕ) → is_byte_pair a b ≡ true → Pair a b
pair_parts a b h =
    by (or_cases ((eqb a 0xC0) && (eqb b 0x80))
    ((nat_le 0xC2 a && nat_le a 0xDF) && is_next_byte b)
    h)
  where
    by : ((eqb a 0xC0) && (eqb b 0x80) ≡ true)
        ⊎ ((nat_le 0xC2 a && nat_le a 0xDF) && is_next_byte b ≡ true) → Pair a b
    by (inl k) =
        let p = and_parts (eqb a 0xC0) (eqb b 0x80) k in
        let e : a ≡ 0xC0 = eqb-true a 0xC0 p.0 in
        let f : b ≡ 0x80 = eqb-true b 0x80 p.1 in
        record {
          shortest = inl (e, f);
          low = omega arith;
          high = omega arith;
          next_low = omega arith;
          next_high = omega arith;
        }
    by (inr k) =
        let p = and_parts (nat_le 0xC2 a && nat_le a 0xDF) (is_next_byte b) k in
        let q = and_parts (nat_le 0xC2 a) (nat_le a 0xDF) p.0 in
        let l : 0xC2 ≤ a = leb-true 0xC2 a q.0 in
        let m : a ≤ 0xDF = leb-true a 0xDF q.1 in
        let n = next_parts b p.1 in
        record { shortest = inr l; low = omega arith; high = m; next_low = n.0; next_high = n.1 }

pub record Triple (a b c : ℕ) : Type 0 where
  pub shortest : ((a ≡ 0xE0) × (0xA0 ≤ b)) ⊎ (0xE1 ≤ a)
  pub low : 0xE0 ≤ a
  pub high : a ≤ 0xEF
  pub second_low : 0x80 ≤ b
  pub second_high : b ≤ 0xBF
  pub third_low : 0x80 ≤ c
  pub third_high : c ≤ 0xBF

pub triple_parts : (a b c : ℕ) → is_byte_triple a b c ≡ true → Triple a b c
triple_parts a b c h =
    let lead = ((eqb a 0xE0) && nat_le 0xA0 b) || (nat_le 0xE1 a && nat_le a 0xEF) in
    let p = and_parts (lead && is_next_byte b) (is_next_byte c) h in
    let q = and_parts lead (is_next_byte b) p.0 in
    by (next_parts b q.1) (next_parts c p.1)
    (or_cases ((eqb a 0xE0) && nat_le 0xA0 b) (nat_le 0xE1 a && nat_le a 0xEF) q.0)
  where
    by : (0x80 ≤ b) × (b ≤ 0xBF) → (0x80 ≤ c) × (c ≤ 0xBF)
        → ((eqb a 0xE0) && nat_le 0xA0 b ≡ true) ⊎ (nat_le 0xE1 a && nat_le a 0xEF ≡ true)
        → Triple a b c
    by m n (inl k) =
        let p = and_parts (eqb a 0xE0) (nat_le 0xA0 b) k in
        let e : a ≡ 0xE0 = eqb-true a 0xE0 p.0 in
        record {
          shortest = inl (e, leb-true 0xA0 b p.1);
          low = omega arith;
          high = omega arith;
          second_low = m.0;
          second_high = m.1;
          third_low = n.0;
          third_high = n.1;
        }
    by m n (inr k) =
        let p = and_parts (nat_le 0xE1 a) (nat_le a 0xEF) k in
        let l : 0xE1 ≤ a = leb-true 0xE1 a p.0 in
        record {
          shortest = inr l;
          low = omega arith;
          high = leb-true a 0xEF p.1;
          second_low = m.0;
          second_high = m.1;
          third_low = n.0;
          third_high = n.1;
        }

-- ---- the bytes of a unit

abbrev shaped : Bool → Bool → ℕ → List ℕ
shaped v w u =
    cond v (u ∷ []) (cond w ((0xC0 + u / 64) ∷ (0x80 + u % 64) ∷ [])
    ((0xE0 + u / 4096) ∷ (0x80 + u / 64 % 64) ∷ (0x80 + u % 64) ∷ []))

shape_is : (u : ℕ) (v w : Bool) → (nat_lt 0 u && nat_lt u 0x80) ≡ v → nat_lt u 0x800 ≡ w
    → unit_bytes u ≡ shaped v w u
shape_is u v w e f = ap (λ x. shaped x (nat_lt u 0x800) u) e ∙ ap (λ x. shaped v x u) f

pub data UnitView (u : ℕ) : Type 0 where
  single : is_single_byte u ≡ true → unit_bytes u ≡ u ∷ [] → UnitView u
  pair : (a b : ℕ) → is_byte_pair a b ≡ true → unit_bytes u ≡ a ∷ b ∷ [] → u + 12416 ≡ 64 * a + b
      → UnitView u
  triple : (a b c : ℕ) → is_byte_triple a b c ≡ true → unit_bytes u ≡ a ∷ b ∷ c ∷ []
      → u + 925824 ≡ 4096 * a + 64 * b + c → UnitView u

pub unit_view : (u : ℕ) → u < 2 ^ 16 → UnitView u
unit_view u fits = by (nat_lt 0 u && nat_lt u 0x80) (nat_lt u 0x800) refl refl
  where
    is_pair : (nat_lt 0 u ≡ false) ⊎ (nat_lt u 0x80 ≡ false) → u < 0x800
        → is_byte_pair (0xC0 + u / 64) (0x80 + u % 64) ≡ true
    is_pair (inl h) l =
        let z : u ≤ 0 = ltb-false 0 u h in
        or_left ((eqb (0xC0 + u / 64) 0xC0) && (eqb (0x80 + u % 64) 0x80))
        ((nat_le 0xC2 (0xC0 + u / 64) && nat_le (0xC0 + u / 64) 0xDF)
        && is_next_byte (0x80 + u % 64))
        (and_from (eqb (0xC0 + u / 64) 0xC0) (eqb (0x80 + u % 64) 0x80)
        (eq-eqb (0xC0 + u / 64) 0xC0 (omega arith)) (eq-eqb (0x80 + u % 64) 0x80 (omega arith)))
    is_pair (inr h) l =
        let m : 0x80 ≤ u = ltb-false u 0x80 h in
        or_right ((eqb (0xC0 + u / 64) 0xC0) && (eqb (0x80 + u % 64) 0x80))
        ((nat_le 0xC2 (0xC0 + u / 64) && nat_le (0xC0 + u / 64) 0xDF)
        && is_next_byte (0x80 + u % 64))
        (and_from (nat_le 0xC2 (0xC0 + u / 64) && nat_le (0xC0 + u / 64) 0xDF)
        (is_next_byte (0x80 + u % 64))
        (and_from (nat_le 0xC2 (0xC0 + u / 64)) (nat_le (0xC0 + u / 64) 0xDF)
        (le-leb 0xC2 (0xC0 + u / 64) (omega arith)) (le-leb (0xC0 + u / 64) 0xDF (omega arith)))
        (next_from (0x80 + u % 64) (omega arith) (omega arith)))

    is_lead : 0x800 ≤ u → (u / 4096 ≡ 0) ⊎ (1 ≤ u / 4096)
        → ((eqb (0xE0 + u / 4096) 0xE0) && nat_le 0xA0 (0x80 + u / 64 % 64))
        || (nat_le 0xE1 (0xE0 + u / 4096) && nat_le (0xE0 + u / 4096) 0xEF) ≡ true
    is_lead l (inl z) =
        or_left ((eqb (0xE0 + u / 4096) 0xE0) && nat_le 0xA0 (0x80 + u / 64 % 64))
        (nat_le 0xE1 (0xE0 + u / 4096) && nat_le (0xE0 + u / 4096) 0xEF)
        (and_from (eqb (0xE0 + u / 4096) 0xE0) (nat_le 0xA0 (0x80 + u / 64 % 64))
        (eq-eqb (0xE0 + u / 4096) 0xE0 (omega arith))
        (le-leb 0xA0 (0x80 + u / 64 % 64) (omega arith)))
    is_lead l (inr s) =
        or_right ((eqb (0xE0 + u / 4096) 0xE0) && nat_le 0xA0 (0x80 + u / 64 % 64))
        (nat_le 0xE1 (0xE0 + u / 4096) && nat_le (0xE0 + u / 4096) 0xEF)
        (and_from (nat_le 0xE1 (0xE0 + u / 4096)) (nat_le (0xE0 + u / 4096) 0xEF)
        (le-leb 0xE1 (0xE0 + u / 4096) (omega arith))
        (le-leb (0xE0 + u / 4096) 0xEF (omega arith)))

    zero_or_more : (n : ℕ) → (n ≡ 0) ⊎ (1 ≤ n)
    zero_or_more zero = inl refl
    zero_or_more (suc n) = inr (omega arith)

    by : (v w : Bool) → (nat_lt 0 u && nat_lt u 0x80) ≡ v → nat_lt u 0x800 ≡ w → UnitView u
    by true w e f =
        let p = and_parts (nat_lt 0 u) (nat_lt u 0x80) e in
        let l : 0 < u = ltb-true 0 u p.0 in
        let m : u < 0x80 = ltb-true u 0x80 p.1 in
        single (and_from (nat_le 1 u) (nat_le u 0x7F) (le-leb 1 u (omega arith))
        (le-leb u 0x7F (omega arith))) (shape_is u true w e f)
    by false true e f =
        pair (0xC0 + u / 64) (0x80 + u % 64)
        (is_pair (and_cases (nat_lt 0 u) (nat_lt u 0x80) e) (ltb-true u 0x800 f))
        (shape_is u false true e f) (omega arith)
    by false false e f =
        let l : 0x800 ≤ u = ltb-false u 0x800 f in
        let lead = ((eqb (0xE0 + u / 4096) 0xE0) && nat_le 0xA0 (0x80 + u / 64 % 64))
        || (nat_le 0xE1 (0xE0 + u / 4096) && nat_le (0xE0 + u / 4096) 0xEF) in
        triple (0xE0 + u / 4096) (0x80 + u / 64 % 64) (0x80 + u % 64)
        (and_from (lead && is_next_byte (0x80 + u / 64 % 64)) (is_next_byte (0x80 + u % 64))
        (and_from lead (is_next_byte (0x80 + u / 64 % 64)) (is_lead l (zero_or_more (u / 4096)))
        (next_from (0x80 + u / 64 % 64) (omega arith) (omega arith)))
        (next_from (0x80 + u % 64) (omega arith) (omega arith)))
        (shape_is u false false e f)
        (omega arith)

-- ---- a unit from its bytes

pub single_made : (a : ℕ) → is_single_byte a ≡ true → unit_bytes a ≡ a ∷ []
single_made a h =
    let p = single_parts a h in
    shape_is a true (nat_lt a 0x800)
    (and_from (nat_lt 0 a) (nat_lt a 0x80) (lt-ltb 0 a (omega (arith, p.0)))
    (lt-ltb a 0x80 (omega (arith, p.1)))) refl

not_single : (u : ℕ) → (u ≡ 0) ⊎ (0x80 ≤ u) → (nat_lt 0 u && nat_lt u 0x80) ≡ false
not_single u (inl e) = ap (λ n. nat_lt 0 n && nat_lt n 0x80) e
not_single u (inr h) = ap (λ x. nat_lt 0 u && x) (le-ltb u 0x80 h) ∙ none (nat_lt 0 u)
  where
    none : (b : Bool) → b && false ≡ false
    none true = refl
    none false = refl

pub pair_made : (a b : ℕ) → is_byte_pair a b ≡ true
    → (pair_unit a b < 2 ^ 16) × (unit_bytes (pair_unit a b) ≡ a ∷ b ∷ [])
pair_made a b h =
    let p = pair_parts a b h in
    let u = 64 * a + b - 12416 in (
      omega (arith, p.high, p.next_high),
      shape_is u false true (not_single u (small p p.shortest))
          (lt-ltb u 0x800 (omega (arith, p.high, p.next_high))) ∙ same p,
    )
  where
    small : Pair a b → ((a ≡ 0xC0) × (b ≡ 0x80)) ⊎ (0xC2 ≤ a)
        → (64 * a + b - 12416 ≡ 0) ⊎ (0x80 ≤ 64 * a + b - 12416)
    small p (inl e) = inl (omega (arith, e.0, e.1))
    small p (inr l) = inr (omega (arith, p.next_low))

    same : Pair a b → (0xC0 + (64 * a + b - 12416) / 64) ∷ (0x80 + (64 * a + b - 12416) % 64) ∷ []
        ≡ a ∷ b ∷ []
    same p =
        let e : 0xC0 + (64 * a + b - 12416) / 64 ≡ a = omega arith in
        let f : 0x80 + (64 * a + b - 12416) % 64 ≡ b = omega arith in
        cc

pub triple_made : (a b c : ℕ) → is_byte_triple a b c ≡ true
    → (triple_unit a b c < 2 ^ 16) × (unit_bytes (triple_unit a b c) ≡ a ∷ b ∷ c ∷ [])
triple_made a b c h =
    let t = triple_parts a b c h in
    let u = 4096 * a + 64 * b + c - 925824 in (
      omega (arith, t.high, t.second_high, t.third_high),
      shape_is u false false
          (not_single u (inr (large t t.shortest))) (le-ltb u 0x800 (wide t t.shortest)) ∙ same t,
    )
  where
    wide : Triple a b c → ((a ≡ 0xE0) × (0xA0 ≤ b)) ⊎ (0xE1 ≤ a)
        → 0x800 ≤ 4096 * a + 64 * b + c - 925824
    wide t (inl e) = omega (arith, e.0, e.1, t.third_low)
    wide t (inr l) = omega (arith, t.second_low, t.third_low)

    large : Triple a b c → ((a ≡ 0xE0) × (0xA0 ≤ b)) ⊎ (0xE1 ≤ a)
        → 0x80 ≤ 4096 * a + 64 * b + c - 925824
    large t s = omega (arith, wide t s)

    same : Triple a b c → (0xE0 + (4096 * a + 64 * b + c - 925824) / 4096)
        ∷ (0x80 + (4096 * a + 64 * b + c - 925824) / 64 % 64)
        ∷ (0x80 + (4096 * a + 64 * b + c - 925824) % 64) ∷ [] ≡ a ∷ b ∷ c ∷ []
    same t =
        let e : 0xE0 + (4096 * a + 64 * b + c - 925824) / 4096 ≡ a = omega arith in
        let f : 0x80 + (4096 * a + 64 * b + c - 925824) / 64 % 64 ≡ b = omega arith in
        let g : 0x80 + (4096 * a + 64 * b + c - 925824) % 64 ≡ c = omega arith in
        cc

-- ---- no unit's bytes begin with those of another

units_apart : (u v : ℕ) (x y : List ℕ) → u < 2 ^ 16 → v < 2 ^ 16
    → unit_bytes u ++ x ≡ unit_bytes v ++ y → (u ≡ v) × (x ≡ y)
units_apart u v x y hu hv e = by (unit_view u hu) (unit_view v hv)
  where
    moved : (s t : List ℕ) → unit_bytes u ≡ s → unit_bytes v ≡ t → s ++ x ≡ t ++ y
    moved s t f g = ap (λ (z : List ℕ). z ++ x) (sym f) ∙ e ∙ ap (λ (z : List ℕ). z ++ y) g

    by : UnitView u → UnitView v → (u ≡ v) × (x ≡ y)
    by (single h f) (single k g) = let m = moved (u ∷ []) (v ∷ []) f g in (cc, cc)
    by (single h f) (pair a b k g n) = let m = moved (u ∷ []) (a ∷ b ∷ []) f g in
        let same : u ≡ a = cc in absurd
        (omega (arith, (single_parts u h).1, (pair_parts a b k).low))
    by (single h f) (triple a b c k g n) = let m = moved (u ∷ []) (a ∷ b ∷ c ∷ []) f g in
        let same : u ≡ a = cc in absurd
        (omega (arith, (single_parts u h).1, (triple_parts a b c k).low))
    by (pair a b h f n) (single k g) = let m = moved (a ∷ b ∷ []) (v ∷ []) f g in
        let same : a ≡ v = cc in absurd
        (omega (arith, (single_parts v k).1, (pair_parts a b h).low))
    by (pair a b h f n) (pair a' b' k g n') =
        let m = moved (a ∷ b ∷ []) (a' ∷ b' ∷ []) f g in
        let p : a ≡ a' = cc in
        let q : b ≡ b' = cc in
        let r : x ≡ y = cc in
        (omega (arith, n, n', p, q), r)
    by (pair a b h f n) (triple a' b' c' k g n') =
        let m = moved (a ∷ b ∷ []) (a' ∷ b' ∷ c' ∷ []) f g in let same : a ≡ a' = cc in
        absurd (omega (arith, (pair_parts a b h).high, (triple_parts a' b' c' k).low))
    by (triple a b c h f n) (single k g) = let m = moved (a ∷ b ∷ c ∷ []) (v ∷ []) f g in
        let same : a ≡ v = cc in absurd
        (omega (arith, (single_parts v k).1, (triple_parts a b c h).low))
    by (triple a b c h f n) (pair a' b' k g n') =
        let m = moved (a ∷ b ∷ c ∷ []) (a' ∷ b' ∷ []) f g in let same : a ≡ a' = cc in
        absurd (omega (arith, (pair_parts a' b' k).high, (triple_parts a b c h).low))
    by (triple a b c h f n) (triple a' b' c' k g n') =
        let m = moved (a ∷ b ∷ c ∷ []) (a' ∷ b' ∷ c' ∷ []) f g in
        let p : a ≡ a' = cc in
        let q : b ≡ b' = cc in
        let r : c ≡ c' = cc in
        let s : x ≡ y = cc in
        (omega (arith, n, n', p, q, r), s)

some_byte : (u : ℕ) (x : List ℕ) → u < 2 ^ 16 → unit_bytes u ++ x ≡ [] → ⊥
some_byte u x h e = by (unit_view u h)
  where
    moved : (s : List ℕ) → unit_bytes u ≡ s → s ++ x ≡ []
    moved s f = ap (λ (z : List ℕ). z ++ x) (sym f) ∙ e

    by : UnitView u → ⊥
    by (single k f) = let m = moved (u ∷ []) f in absurd cc
    by (pair a b k f n) = let m = moved (a ∷ b ∷ []) f in absurd cc
    by (triple a b c k f n) = let m = moved (a ∷ b ∷ c ∷ []) f in absurd cc

-- ---- the first unit of a slice

opened : (bytes : List ℕ) → 1 ≤ length bytes
    → bytes ≡ get_or bytes 0 0 ∷ take (length bytes - 1) (drop 1 bytes)
opened [] h = absurd (omega arith)
opened (a ∷ bytes) h =
    ap (λ (t : List ℕ). a ∷ t) (sym (take_all (suc (length bytes) - 1) bytes (omega arith)))

opened_pair : (bytes : List ℕ) → 2 ≤ length bytes
    → bytes ≡ get_or bytes 0 0 ∷ get_or bytes 1 0 ∷ take (length bytes - 2) (drop 2 bytes)
opened_pair [] h = absurd (omega arith)
opened_pair (a ∷ []) h = absurd (omega arith)
opened_pair (a ∷ b ∷ bytes) h =
    ap (λ (t : List ℕ). a ∷ b ∷ t)
    (sym (take_all (suc (suc (length bytes)) - 2) bytes (omega arith)))

opened_triple : (bytes : List ℕ) → 3 ≤ length bytes
    → bytes ≡ get_or bytes 0 0 ∷ get_or bytes 1 0 ∷ get_or bytes 2 0
    ∷ take (length bytes - 3) (drop 3 bytes)
opened_triple [] h = absurd (omega arith)
opened_triple (a ∷ []) h = absurd (omega arith)
opened_triple (a ∷ b ∷ []) h = absurd (omega arith)
opened_triple (a ∷ b ∷ c ∷ bytes) h =
    ap (λ (t : List ℕ). a ∷ b ∷ c ∷ t)
    (sym (take_all (suc (suc (suc (length bytes))) - 3) bytes (omega arith)))

pub found_single : (bytes : List ℕ) → 1 ≤ length bytes → is_single_byte (get_or bytes 0 0) ≡ true
    → IsFirstUnit bytes (get_or bytes 0 0) (take (length bytes - 1) (drop 1 bytes))
found_single bytes h k =
    let a = get_or bytes 0 0 in
    let p = single_parts a k in
    record {
      fits = omega (arith, p.1);
      whole =
          opened bytes h ∙ ap (λ (t : List ℕ). t ++ take (length bytes - 1) (drop 1 bytes))
          (sym (single_made a k));
    }

pub found_pair : (bytes : List ℕ) → 2 ≤ length bytes
    → is_byte_pair (get_or bytes 0 0) (get_or bytes 1 0) ≡ true
    → IsFirstUnit bytes (pair_unit (get_or bytes 0 0) (get_or bytes 1 0))
    (take (length bytes - 2) (drop 2 bytes))
found_pair bytes h k =
    let m = pair_made (get_or bytes 0 0) (get_or bytes 1 0) k in
    record {
      fits = m.0;
      whole = opened_pair bytes h
          ∙ ap (λ (t : List ℕ). t ++ take (length bytes - 2) (drop 2 bytes)) (sym m.1);
    }

pub found_triple : (bytes : List ℕ) → 3 ≤ length bytes
    → is_byte_triple (get_or bytes 0 0) (get_or bytes 1 0) (get_or bytes 2 0) ≡ true
    → IsFirstUnit bytes (triple_unit (get_or bytes 0 0) (get_or bytes 1 0) (get_or bytes 2 0))
    (take (length bytes - 3) (drop 3 bytes))
found_triple bytes h k =
    let m = triple_made (get_or bytes 0 0) (get_or bytes 1 0) (get_or bytes 2 0) k in
    record {
      fits = m.0;
      whole = opened_triple bytes h
          ∙ ap (λ (t : List ℕ). t ++ take (length bytes - 3) (drop 3 bytes)) (sym m.1);
    }

pub no_unit : (bytes : List ℕ) → (1 ≤ length bytes → is_single_byte (get_or bytes 0 0) ≡ false)
    → (2 ≤ length bytes → is_byte_pair (get_or bytes 0 0) (get_or bytes 1 0) ≡ false)
    → (3 ≤ length bytes → is_byte_triple (get_or bytes 0 0) (get_or bytes 1 0) (get_or bytes 2 0)
    ≡ false) → HasNoUnit bytes
no_unit bytes one two three u behind first = by (unit_view u first.fits)
  where
    moved : (s : List ℕ) → unit_bytes u ≡ s → bytes ≡ s ++ behind
    moved s f = first.whole ∙ ap (λ (z : List ℕ). z ++ behind) f

    by : UnitView u → ⊥
    by (single h f) =
        let m = moved (u ∷ []) f in
        both_ways (is_single_byte u)
        (subst (λ (t : List ℕ). is_single_byte (get_or t 0 0) ≡ false) m
        (one (omega (arith, ap length m)))) h
    by (pair a b h f n) =
        let m = moved (a ∷ b ∷ []) f in
        both_ways (is_byte_pair a b)
        (subst (λ (t : List ℕ). is_byte_pair (get_or t 0 0) (get_or t 1 0) ≡ false) m
        (two (omega (arith, ap length m)))) h
    by (triple a b c h f n) =
        let m = moved (a ∷ b ∷ c ∷ []) f in
        both_ways (is_byte_triple a b c)
        (subst (λ (t : List ℕ). is_byte_triple (get_or t 0 0) (get_or t 1 0) (get_or t 2 0)
        ≡ false) m (three (omega (arith, ap length m)))) h

-- ---- a list of units, and what is left

abbrev pub AllFit : List ℕ → Type 0
AllFit = AllByRecursion (λ unit. unit < 2 ^ 16)

-- these units were found, and the rest is left
pub record AreFront (bytes units rest : List ℕ) : Type 0 where
  pub fit : AllFit units
  pub whole : bytes ≡ flat_map unit_bytes units ++ rest

pub front_start : (bytes : List ℕ) → AreFront bytes [] bytes
front_start bytes = record { fit = tt; whole = refl }

fit_more : (units : List ℕ) (u : ℕ) → AllFit units → u < 2 ^ 16 → AllFit (units ++ u ∷ [])
fit_more [] u fit h = (h, tt)
fit_more (v ∷ units) u fit h = (fit.0, fit_more units u fit.1 h)

pub front_more : (bytes units rest : List ℕ) (unit : ℕ) (behind : List ℕ)
    → AreFront bytes units rest → IsFirstUnit rest unit behind
    → AreFront bytes (units ++ unit ∷ []) behind
front_more bytes units rest unit behind s n = record {
  fit = fit_more units unit s.fit n.fits;
  whole =
      s.whole ∙ ap (λ (t : List ℕ). flat_map unit_bytes units ++ t)
      (n.whole ∙ ap (λ (t : List ℕ). t ++ behind) (sym (append-nil (unit_bytes unit))))
      ∙ sym (append_assoc (flat_map unit_bytes units) (flat_map unit_bytes (unit ∷ [])) behind)
      ∙ ap (λ (t : List ℕ). t ++ behind) (sym (flat_map-append unit_bytes units (unit ∷ [])));
}

pub front_done : (bytes units rest : List ℕ) → AreFront bytes units rest → rest ≡ []
    → bytes ≡ flat_map unit_bytes units
front_done bytes units rest s e =
    s.whole ∙ ap (λ (t : List ℕ). flat_map unit_bytes units ++ t) e
    ∙ append-nil (flat_map unit_bytes units)

no_others : (units others rest : List ℕ) → AllFit units → AllFit others → (rest ≡ [] → ⊥)
    → HasNoUnit rest → flat_map unit_bytes units ++ rest ≡ flat_map unit_bytes others → ⊥
no_others [] [] rest f g some none e = some e
no_others [] (v ∷ others) rest f g some none e =
    none v (flat_map unit_bytes others) (record { fits = g.0; whole = e })
no_others (u ∷ units) [] rest f g some none e =
    some_byte u (flat_map unit_bytes units ++ rest) f.0
    (sym (append_assoc (unit_bytes u) (flat_map unit_bytes units) rest) ∙ e)
no_others (u ∷ units) (v ∷ others) rest f g some none e =
    no_others units others rest f.1 g.1 some none
    (units_apart u v (flat_map unit_bytes units ++ rest) (flat_map unit_bytes others) f.0 g.0
    (sym (append_assoc (unit_bytes u) (flat_map unit_bytes units) rest) ∙ e)).1

pub front_stuck : (bytes units rest : List ℕ) → AreFront bytes units rest → (rest ≡ [] → ⊥)
    → HasNoUnit rest → IsModifiedUtf8 bytes → ⊥
front_stuck bytes units rest s some none m =
    no_others units m.units rest s.fit m.fit some none (sym s.whole ∙ m.whole)

pub behind_shorter : (rest : List ℕ) (unit : ℕ) (behind : List ℕ) → IsFirstUnit rest unit behind
    → length behind < length rest
behind_shorter rest unit behind n = by (unit_view unit n.fits)
  where
    moved : (s : List ℕ) → unit_bytes unit ≡ s → rest ≡ s ++ behind
    moved s f = n.whole ∙ ap (λ (z : List ℕ). z ++ behind) f

    by : UnitView unit → length behind < length rest
    by (single k f) = omega (arith, ap length (moved (unit ∷ []) f))
    by (pair a b k f e) = omega (arith, ap length (moved (a ∷ b ∷ []) f))
    by (triple a b c k f e) = omega (arith, ap length (moved (a ∷ b ∷ c ∷ []) f))
