-- What is put on a stack, and what is taken off.
use Rattle.std.proofs.Common.{◌≡◌, refl, sym, ap, ℕ, ◌+◌, ◌-◌, List, [], ◌∷◌, ◌++◌, take, Option}
use Rattle.std.proofs.Common.{Some, None}
use Rattle.std.specs.Option.{option_to_list, MatchOption}
use Rattle.hdr_core.specs.Stack.{top, below}

pub top_end : {X : Type 0} (xs : List X) (x : X) → top (xs ++ x ∷ []) ≡ Some x
top_end [] x = refl
top_end (y ∷ []) x = refl
top_end (y ∷ z ∷ xs) x = top_end (z ∷ xs) x

pub below_end : {X : Type 0} (xs : List X) (x : X) → below (xs ++ x ∷ []) ≡ xs
below_end [] x = refl
below_end (y ∷ []) x = refl
below_end (y ∷ z ∷ xs) x = ap (λ l. y ∷ l) (below_end (z ∷ xs) x)

-- what `Vec::pop` ensures, as the top and what is below it
pub popped_top : {X : Type 0} (old new : List X) (n m : ℕ) (r : Option X)
    → old ≡ new ++ option_to_list r → new ≡ take (n - 1) old
    → MatchOption r ((n ≡ 0) × (m ≡ 0)) (λ _. m + 1 ≡ n) → r ≡ top old
popped_top old new n m None parts rest cases =
    let e : new ≡ [] = rw cases.0 at rest in rw (parts, e) refl
popped_top old new n m (Some x) parts rest cases = rw parts (sym (top_end new x))

pub popped_below : {X : Type 0} (old new : List X) (n m : ℕ) (r : Option X)
    → old ≡ new ++ option_to_list r → new ≡ take (n - 1) old
    → MatchOption r ((n ≡ 0) × (m ≡ 0)) (λ _. m + 1 ≡ n) → new ≡ below old
popped_below old new n m None parts rest cases =
    let e : new ≡ [] = rw cases.0 at rest in rw (parts, e) refl
popped_below old new n m (Some x) parts rest cases = rw parts (sym (below_end new x))
