-- Nesting within the limit, of lists of levels put together.
use Rattle.std.proofs.Common.{ℕ, ◌≤◌, List, [], ◌∷◌, ◌++◌, arith}
use Rattle.descriptor_sig.specs.Standing.{Shallow}

pub shallow_left : (xs ys : List ℕ) → Shallow (xs ++ ys) → Shallow xs
shallow_left [] ys h = omega arith
shallow_left (x ∷ xs) ys h =
    let tail : Shallow (xs ++ ys) = omega arith in
    let k = shallow_left xs ys tail in omega arith

pub shallow_right : (xs ys : List ℕ) → Shallow (xs ++ ys) → Shallow ys
shallow_right [] ys h = h
shallow_right (x ∷ xs) ys h =
    let tail : Shallow (xs ++ ys) = omega arith in shallow_right xs ys tail

pub shallow_tail : (x : ℕ) (xs : List ℕ) → Shallow (x ∷ xs) → Shallow xs
shallow_tail x xs h = omega arith

pub shallow_head : (x : ℕ) (xs : List ℕ) → Shallow (x ∷ xs) → x ≤ 64
shallow_head x xs h = omega arith
