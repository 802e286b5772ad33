-- What the answers of the three checks say.
use Rattle.std.proofs.Common.{◌≡◌, refl}
use Rattle.std.specs.Prelude.{Option, Some, None, Ok, Err}
use Rattle.class_writer.specs.declared.error.PoolErr.{PoolErr}
use Rattle.class_writer.specs.declared.error.PoolErr.TheVariants.{TextTooLong, TooMany, PoolFull}
use Rattle.class_writer.specs.declared.error.PoolErr.TheVariants.{Memory}
use Rattle.class_writer.specs.Refusal.{or_next, checked, IsCause}

pub no_refusal : (a b c : Option PoolErr) → Ok tt ≡ checked a → Ok tt ≡ checked b
    → Ok tt ≡ checked c → or_next a (or_next b c) ≡ None
no_refusal None None c x y z = by c z
  where
    by : (c : Option PoolErr) → Ok tt ≡ checked c → c ≡ None
    by None z = refl
    by (Some e) z = absurd (cc)
no_refusal None (Some e) c x y z = absurd (cc)
no_refusal (Some e) b c x y z = absurd (cc)

pub third_refusal : (a b c : Option PoolErr) (e : PoolErr) → Ok tt ≡ checked a → Ok tt ≡ checked b
    → Err e ≡ checked c → or_next a (or_next b c) ≡ Some e
third_refusal None None None e x y z = absurd (cc)
third_refusal None None (Some f) e x y z = cc
third_refusal None (Some f) c e x y z = absurd (cc)
third_refusal (Some f) b c e x y z = absurd (cc)

-- a refusal that was found is the cause
pub is_cause : (e : PoolErr) (refused : Option PoolErr) → refused ≡ Some e → IsCause e refused
is_cause Memory refused h = tt
is_cause (TextTooLong length) refused h = h
is_cause (TooMany count) refused h = h
is_cause (PoolFull needed) refused h = h
