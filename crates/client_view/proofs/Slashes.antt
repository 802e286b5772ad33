-- What stands before the last slash.
use Rattle.std.proofs.Common.{◌≡◌, ap, ℕ, ◌-◌, ◌<◌, ◌≤◌, arith}
use Rattle.std.proofs.Common.{not, List, length, take, get_or}
use Rattle.std.specs.Prelude.{◌==◌}
use Rattle.std.specs.List.{suffix_len}
use Rattle.std.proofs.lemmas.List.Sums.{suffix_len_is}
use Rattle.std.proofs.lemmas.Bool.{ne_eqb, eq-eqb}
use Rattle.class_views.specs.Access.{package_of}

module _ (name : List ℕ) (end : ℕ) (within : end ≤ length name)
    (behind : (k : ℕ) → end ≤ k → k < length name → get_or name k 0 ≡ 47 → ⊥)
    (before : 0 < end → get_or name (end - 1) 0 ≡ 47) where
  rest : suffix_len (λ b. not (b == 47)) name ≡ length name - end
  rest =
      suffix_len_is (λ b. not (b == 47)) name end 0 within
      (λ k from few. ap not (ne_eqb (get_or name k 0) 47 (behind k from few)))
      (λ some. ap not (eq-eqb (get_or name (end - 1) 0) 47 (before some)))

  pub before_slash : take (end - 1) name ≡ package_of name
  before_slash =
      ap (λ n. take n name)
      (let counted = rest in
      let e : end - 1 ≡ length name - suffix_len (λ b. not (b == 47)) name - 1 =
      omega (arith, counted, within) in e)
