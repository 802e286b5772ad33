-- The number of workers.
use Rattle.std.specs.Prelude.{ℕ, ◌+◌, ◌*◌, ◌-◌, ◌==◌, ◌&&◌, nat_le, Bool, true, false, not}
use Rattle.std.specs.Prelude.{List, [], ◌∷◌, Option, Some, None}
use Rattle.option_words.specs.declared.workers.TheConstants.{WORKERS}
use Rattle.option_words.specs.Lists.{at_most_one}
use Rattle.option_words.specs.Options.{Given, values}

-- the digits, from '0' to '9'
abbrev pub digit_zero : ℕ
digit_zero = 48

abbrev pub digit_nine : ℕ
digit_nine = 57

abbrev pub is_digit : ℕ → Bool
is_digit b = nat_le digit_zero b && nat_le b digit_nine

abbrev pub is_leading_digit : ℕ → Bool
is_leading_digit b = is_digit b && not (b == digit_zero)

-- a number from 1 to 64 in decimal digits, without a zero in front
abbrev pub is_worker_count : List ℕ → Bool
is_worker_count [] = false
is_worker_count (ones ∷ []) = is_leading_digit ones
is_worker_count (tens ∷ (ones ∷ [])) =
    is_leading_digit tens
    && (is_digit ones && nat_le (10 * (tens - digit_zero) + (ones - digit_zero)) 64)
is_worker_count (a ∷ (b ∷ (c ∷ word))) = false

abbrev pub is_count_given : Option (Option (List ℕ)) → Bool
is_count_given None = false
is_count_given (Some None) = true
is_count_given (Some (Some word)) = is_worker_count word

-- The number of workers is given at most once. It is no part of a job.
abbrev pub are_workers : List Given → Bool
are_workers given = is_count_given (at_most_one (values WORKERS.now given))
