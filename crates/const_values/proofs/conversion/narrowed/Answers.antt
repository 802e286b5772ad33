use Rattle.std.proofs.Common.{rules, ap, Ok, FitsSigned}
use Rattle.std.specs.Int.{w8, w16, w32, w64}
use Rattle.const_values.specs.declared.constant.Constant.TheVariants.{Byte, Short, Int}
use Rattle.const_values.proofs.Wrapping.{narrowing}
use Rattle.const_values.proofs.conversion.narrowed.Goals as goal

pub returns-in-Byte : goal.returns-in-Byte
returns-in-Byte c =
    let r_fits : FitsSigned w8 c.cast_signed.result = search rules in
    let q_fits : FitsSigned w64 c.rem_euclid.result = search rules in
    rw c.in-Byte.is (ap (λ n. Ok (Byte n))
    (narrowing w8 c.args.number _ _ c.ranges.number r_fits q_fits
    c.rem_euclid.ensures.value c.cast_signed.ensures))

pub returns-in-Short : goal.returns-in-Short
returns-in-Short c =
    let r_fits : FitsSigned w16 c.cast_signed-in-Short.result = search rules in
    let q_fits : FitsSigned w64 c.rem_euclid-in-Short.result = search rules in
    rw c.in-Short.is (ap (λ n. Ok (Short n))
    (narrowing w16 c.args.number _ _ c.ranges.number r_fits q_fits
    c.rem_euclid-in-Short.ensures.value c.cast_signed-in-Short.ensures))

pub returns-in-Int : goal.returns-in-Int
returns-in-Int c =
    let r_fits : FitsSigned w32 c.cast_signed-in-Int.result = search rules in
    let q_fits : FitsSigned w64 c.rem_euclid-in-Int.result = search rules in
    rw c.in-Int.is (ap (λ n. Ok (Int n))
    (narrowing w32 c.args.number _ _ c.ranges.number r_fits q_fits
    c.rem_euclid-in-Int.ensures.value c.cast_signed-in-Int.ensures))
