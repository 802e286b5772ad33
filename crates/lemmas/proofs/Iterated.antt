-- What an iterator over a list gives next.
use Rattle.std.proofs.Common.{◌≡◌, ℕ, ◌+◌, ◌-◌, ◌<◌, List, ◌∷◌, length, drop, get_or, sym, ap}
use Rattle.std.proofs.Common.{◌∙◌, arith}
use Rattle.std.proofs.lemmas.List.{length-drop, drop_more}

-- the item at a place, with the others behind it
pub record IsNext {X : Type 0} (all : List X) (i : ℕ) (x : X) (rest : List X) : Type 0 where
  pub inside : i < length all
  pub is : x ≡ get_or all i x
  pub rest_is : rest ≡ drop (i + 1) all

pub next_at : {X : Type 0} (all left rest : List X) (i : ℕ) (x : X) → left ≡ drop i all
    → left ≡ x ∷ rest → IsNext all i x rest
next_at all left rest i x is taken =
    let few : length (drop i all) ≡ length all - i = length-drop i all in
    let some : length (drop i all) ≡ length (x ∷ rest) = ap length (sym is ∙ taken) in
    let inside : i < length all = omega arith in
    let opened : x ∷ rest ≡ get_or all i x ∷ drop (i + 1) all =
    sym taken ∙ (is ∙ drop_more all i x inside) in
    record { inside = inside; is = cc opened; rest_is = cc opened }
