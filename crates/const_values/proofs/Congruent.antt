-- What wraps is congruent, and in range.
use Rattle.std.proofs.Common.{◌≡◌, ◌∙◌, ap, refl, ℕ, suc, ◌-◌, ◌%◌, ◌^◌, ◌<◌, arith, lit<}
use Rattle.std.proofs.Math.Nat.{mod-eq_of_lt, mod-lt}
use Rattle.std.specs.Prelude.{ℤ, pos, negsuc, unsigned_abs, FitsSigned}
use Rattle.std.specs.Int.{Width, w8, w16, w32, w64, w128}
use Rattle.std.specs.Int.{int_wrap, int_rem_euclid, cast_signed, cast_unsigned}
use mir.Val.{bits, hbits}
use Rattle.std.proofs.lemmas.Int.{of_z-to_z, SFits-int_wrap}
use Rattle.const_values.specs.Numbers.{residue, wrapped}

half_below : (w : Width) → 2 ^ hbits w < 2 ^ bits w
half_below w8 = lit< tt
half_below w16 = lit< tt
half_below w32 = lit< tt
half_below w64 = lit< tt
half_below w128 = lit< tt

-- a number of the width has its bits for its residue
residue_bits : (w : Width) (z : ℤ) → FitsSigned w z → residue z (2 ^ bits w) ≡ cast_unsigned w z
residue_bits w (pos n) fits =
    let small : n < 2 ^ hbits w = fits.sfits in
    let half : 2 ^ hbits w < 2 ^ bits w = half_below w in
    mod-eq_of_lt (omega arith)
residue_bits w (negsuc n) fits =
    let small : n < 2 ^ hbits w = fits.sfits in
    let half : 2 ^ hbits w < 2 ^ bits w = half_below w in
    let same : n % 2 ^ bits w ≡ n = mod-eq_of_lt (omega arith) in
    omega (arith, same)

residue_below : (w : Width) (z : ℤ) → residue z (2 ^ bits w) < 2 ^ bits w
residue_below w (pos n) =
    let half : 2 ^ hbits w < 2 ^ bits w = half_below w in
    mod-lt n (omega arith)
residue_below w (negsuc n) =
    let half : 2 ^ hbits w < 2 ^ bits w = half_below w in
    omega arith

wrap_residue : (w : Width) (z : ℤ) → wrapped w z ≡ cast_signed w (residue z (2 ^ bits w))
unfolding int_wrap
wrap_residue w z = refl

pub congruent : (w : Width) (z : ℤ) → residue (wrapped w z) (2 ^ bits w) ≡ residue z (2 ^ bits w)
congruent w z =
    residue_bits w (wrapped w z) (SFits-int_wrap w z)
    ∙ ap (cast_unsigned w) (wrap_residue w z)
    ∙ of_z-to_z w (residue z (2 ^ bits w)) (residue_below w z)
