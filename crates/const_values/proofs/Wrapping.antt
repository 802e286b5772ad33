-- What the operations of a width leave of a number is the wrapped number.
use Rattle.std.proofs.Common.{◌≡◌, ◌∙◌, sym, ap, refl, Bool, true, false, ℕ, zero, suc, ◌+◌, ◌-◌}
use Rattle.std.proofs.Common.{◌*◌, ◌/◌, ◌%◌, ◌^◌, ◌<◌, ◌≤◌, arith}
use Rattle.std.proofs.Math.Nat.{mod-eq_of_lt, mod_self, zero-mod, div-le_self}
use Rattle.std.proofs.Math.Pow.{pow-lt}
use Rattle.std.specs.Prelude.{ℤ, pos, negsuc, neg_ℤ, ◌*ℤ◌, unsigned_abs, int_div, FitsSigned}
use Rattle.std.specs.Int.{Width, w64, int_wrap, int_wrapping_neg, int_wrapping_div, int_rem_euclid}
use Rattle.std.specs.Int.{cast_signed, cast_unsigned}
use mir.Val.{bits, hbits}
use Rattle.const_values.specs.Numbers.{is_zero}
use Rattle.std.proofs.lemmas.Bool.Decides.{Decides-int_eq}
use Rattle.std.proofs.lemmas.Int.{to_z-of_z, of_z-to_z, wrapping_mul-bits, wrapping_neg_is}
use Rattle.std.proofs.lemmas.Int.{int_wrap-mul_right}

-- a number of so many bits, read with its sign
pub wrap_bits : (w : Width) (n : ℕ) → n < 2 ^ bits w → int_wrap w (pos n) ≡ cast_signed w n
unfolding int_wrap
wrap_bits w n h = ap (cast_signed w) (mod-eq_of_lt h)

pub wrap_cast : (w : Width) (z : ℤ) → unsigned_abs z < 2 ^ bits w
    → cast_signed w (cast_unsigned w z) ≡ int_wrap w z
unfolding int_wrap
wrap_cast w (pos n) h = ap (cast_signed w) (sym (mod-eq_of_lt h))
wrap_cast w (negsuc n) h =
    let lt : n < 2 ^ bits w = omega arith in
    let e : n % 2 ^ bits w ≡ n = mod-eq_of_lt lt in
    ap (cast_signed w) (omega (arith, e))

-- a shift to the left is a product
pub wrap_shift : (w : Width) (x : ℤ) (k : ℕ) → FitsSigned w x → cast_unsigned w x < 2 ^ bits w
    → 2 ^ k < 2 ^ bits w
    → cast_signed w ((cast_unsigned w x * 2 ^ k) % 2 ^ bits w) ≡ int_wrap w (x *ℤ pos (2 ^ k))
wrap_shift w x k fits in_bits small =
    wrapping_mul-bits w (cast_unsigned w x) (2 ^ k) in_bits small
    ∙ ap (λ y. int_wrap w (y *ℤ cast_signed w (2 ^ k))) (to_z-of_z w x fits)
    ∙ ap (λ y. int_wrap w (x *ℤ y)) (sym (wrap_bits w (2 ^ k) small))
    ∙ int_wrap-mul_right w x (pos (2 ^ k))

-- the bits of a number of the width
pub bits_below : (w : Width) (z : ℤ) → FitsSigned w z → 2 ^ hbits w < 2 ^ bits w
    → cast_unsigned w z < 2 ^ bits w
bits_below w (pos n) fits half = let lt : n < 2 ^ hbits w = fits.sfits in omega arith
bits_below w (negsuc n) fits half = omega arith

-- a negation
pub wrap_negated : (w : Width) (n : ℕ) → n < 2 ^ bits w
    → int_wrapping_neg w (cast_signed w n) ≡ int_wrap w (neg_ℤ (pos n))
unfolding int_wrap
wrap_negated w zero h =
    let whole : 2 ^ bits w - 0 ≡ 2 ^ bits w = omega arith in
    rw (of_z-to_z w zero h, whole)
    (ap (cast_signed w) (mod_self (2 ^ bits w) ∙ sym (zero-mod (2 ^ bits w))))
wrap_negated w (suc n) h =
    let small : n % 2 ^ bits w ≡ n = mod-eq_of_lt (omega arith) in
    let less : 2 ^ bits w - suc n < 2 ^ bits w = omega arith in
    rw (of_z-to_z w (suc n) h) (ap (cast_signed w) (mod-eq_of_lt less ∙ omega (arith, small)))

abs_negated : (n : ℕ) → unsigned_abs (neg_ℤ (pos n)) ≡ n
abs_negated zero = refl
abs_negated (suc n) = refl

-- a quotient is no larger than its dividend
pub quotient_below : (w : Width) (a b : ℤ) → FitsSigned w a → 2 ^ hbits w < 2 ^ bits w
    → unsigned_abs (int_div a b) < 2 ^ bits w
quotient_below w (pos a) (pos b) fits half =
    let lt : a < 2 ^ hbits w = fits.sfits in omega (arith, div-le_self a b)
quotient_below w (pos a) (negsuc b) fits half =
    let lt : a < 2 ^ hbits w = fits.sfits in
    rw (abs_negated (a / suc b)) (omega (arith, div-le_self a (suc b)))
quotient_below w (negsuc a) (pos b) fits half =
    let lt : a < 2 ^ hbits w = fits.sfits in
    rw (abs_negated (suc a / b)) (omega (arith, div-le_self (suc a) b))
quotient_below w (negsuc a) (negsuc b) fits half =
    let lt : a < 2 ^ hbits w = fits.sfits in omega (arith, div-le_self (suc a) (suc b))

false_of : (r : Bool) → (r ≡ true → ⊥) → r ≡ false
false_of true h = absurd (h refl)
false_of false h = refl

-- a number that isn't 0
pub nonzero : (w : Width) (b : ℤ) → (cast_unsigned w b ≡ 0 → ⊥) → is_zero b ≡ false
nonzero w b h =
    false_of (is_zero b) (λ yes. h (ap (cast_unsigned w) ((Decides-int_eq b (pos 0)).0 yes)))

-- the code's forms: an operand and a result are written by their bits, and read again

abbrev again : Width → ℤ → ℤ
again w z = cast_signed w (cast_unsigned w z)

pub negation : (w : Width) (n r : ℤ) → FitsSigned w n → FitsSigned w r
    → r ≡ int_wrapping_neg w (again w n)
    → again w r ≡ int_wrap w (neg_ℤ n)
negation w n r fits r_fits is =
    to_z-of_z w r r_fits ∙ is ∙ ap (int_wrapping_neg w) (to_z-of_z w n fits)
    ∙ wrapping_neg_is w n fits

pub negated_bits : (w : Width) (n : ℕ) (s r : ℤ) → n < 2 ^ bits w → FitsSigned w s → FitsSigned w r
    → s ≡ cast_signed w n → r ≡ int_wrapping_neg w (again w s)
    → again w r ≡ int_wrap w (neg_ℤ (pos n))
negated_bits w n s r below s_fits r_fits s_is is =
    to_z-of_z w r r_fits ∙ is ∙ ap (int_wrapping_neg w) (to_z-of_z w s s_fits ∙ s_is)
    ∙ wrap_negated w n below

pub plain_bits : (w : Width) (n : ℕ) (r : ℤ) → n < 2 ^ bits w → FitsSigned w r →
    r ≡ cast_signed w n
    → again w r ≡ int_wrap w (pos n)
plain_bits w n r below r_fits is = to_z-of_z w r r_fits ∙ is ∙ sym (wrap_bits w n below)

pub division : (w : Width) (a b r : ℤ) → FitsSigned w a → FitsSigned w b → FitsSigned w r
    → 2 ^ hbits w < 2 ^ bits w
    → r ≡ int_wrapping_div w (again w a) (again w b) → again w r ≡ int_wrap w (int_div a b)
division w a b r a_fits b_fits r_fits half is =
    to_z-of_z w r r_fits ∙ is
    ∙ ap (λ z. int_wrapping_div w z (again w b)) (to_z-of_z w a a_fits)
    ∙ ap (int_wrapping_div w a) (to_z-of_z w b b_fits)
    ∙ wrap_cast w (int_div a b) (quotient_below w a b a_fits half)

pub shifted : (w : Width) (x q count : ℤ) → FitsSigned w x → FitsSigned w64 q →
    FitsSigned w64 count
    → 2 ^ hbits w < 2 ^ bits w
    → q ≡ int_rem_euclid (again w64 count) (pos (bits w)) → unsigned_abs q < bits w
    → cast_signed w ((cast_unsigned w x * 2 ^ unsigned_abs (again w64 q)) % 2 ^ bits w)
    ≡ int_wrap w (x *ℤ pos (2 ^ unsigned_abs (int_rem_euclid count (pos (bits w)))))
shifted w x q count fits q_fits count_fits half is below =
    let same : again w64 q ≡ q = to_z-of_z w64 q q_fits in
    let found : q ≡ int_rem_euclid count (pos (bits w)) =
    is ∙ ap (λ z. int_rem_euclid z (pos (bits w))) (to_z-of_z w64 count count_fits) in
    ap (λ z. cast_signed w ((cast_unsigned w x * 2 ^ unsigned_abs z) % 2 ^ bits w)) same
    ∙ wrap_shift w x (unsigned_abs q) fits (bits_below w x fits half) (pow-lt below)
    ∙ ap (λ z. int_wrap w (x *ℤ pos (2 ^ unsigned_abs z))) found

pub narrowing : (w : Width) (n r q : ℤ) → FitsSigned w64 n → FitsSigned w r → FitsSigned w64 q
    → q ≡ int_rem_euclid (again w64 n) (pos (2 ^ bits w))
    → r ≡ cast_signed w (unsigned_abs (again w64 q)) → again w r ≡ int_wrap w n
unfolding int_wrap
narrowing w n r q n_fits r_fits q_fits is cast =
    to_z-of_z w r r_fits ∙ cast
    ∙ ap (λ z. cast_signed w (unsigned_abs z)) (to_z-of_z w64 q q_fits ∙ is
    ∙ ap (λ z. int_rem_euclid z (pos (2 ^ bits w))) (to_z-of_z w64 n n_fits))
