-- Reading the list of squares.
use Rattle.std.proofs.Common.{◌≡◌, ℕ, zero, suc, ◌+◌, ◌<◌, List, [], ◌∷◌, ◌++◌, length, get_or}
use Rattle.std.proofs.Common.{refl, sym, ap, ◌∙◌, arith, add-one, length-append}
use Rattle.std.specs.Prelude.{slice_index}
use Rattle.std.proofs.lemmas.Grind.{common_steps}
use Rattle.answer_table.specs.Rule.{AreAnswers}
use Rattle.answer_table_tests.specs.Squares.{square_of, squares_of}

pub length-squares_of : (n : ℕ) → length (squares_of n) ≡ n
length-squares_of zero = refl
length-squares_of (suc n) =
    omega (arith, length-append (squares_of n) (square_of n ∷ []), length-squares_of n)

pub square_at : (n i d : ℕ) → i < n → get_or (squares_of n) i d ≡ square_of i
square_at zero i d h = absurd (omega arith)
square_at (suc n) i d h =
    let count = length-squares_of n in
    let below : i < n → get_or (squares_of n) i d ≡ square_of i = square_at n i d in
    grind (arith, common_steps)

pub squares_are_answers : (n : ℕ) → AreAnswers (squares_of n)
squares_are_answers n i d h zeros =
    let read = square_at n i d (omega (arith, length-squares_of n)) in omega (arith, read, zeros)

pub listed_square : (listed : List ℕ) (n i answer : ℕ) → listed ≡ squares_of n → i < n
    → answer ≡ square_of i → answer ≡ slice_index listed i
listed_square listed n i answer are h is =
    is ∙ sym (square_at n i 0 h) ∙ sym (ap (λ l. slice_index l i) are)

pub square_found : (listed : List ℕ) (n i answer : ℕ) → listed ≡ squares_of n → i < n
    → answer ≡ slice_index listed i → answer ≡ square_of i
square_found listed n i answer are h is = is ∙ ap (λ l. slice_index l i) are ∙ square_at n i 0 h

pub squares_grow : (listed all more : List ℕ) (n i answer : ℕ) → listed ≡ squares_of n → i < n
    → answer ≡ slice_index listed i → all ≡ squares_of i → more ≡ all ++ answer ∷ []
    → more ≡ squares_of (i + 1)
squares_grow listed all more n i answer are h is front grown =
    let read = square_found listed n i answer are h is in
    let end = ap (λ a. squares_of i ++ a ∷ []) read in
    rw (add-one i) (grown ∙ ap (λ l. l ++ answer ∷ []) front ∙ end)
