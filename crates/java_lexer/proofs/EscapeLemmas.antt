-- The items of a text, one after the other: `out` is what came before.
use Rattle.std.proofs.Common.{◌≡◌, ℕ, zero, suc, ◌+◌, ◌<◌, ◌≤◌, Bool, true, false, ◌==◌, List, []}
use Rattle.std.proofs.Common.{◌∷◌, ◌++◌, length, drop, get_or, slice_index, refl, sym, ◌∙◌, ap}
use Rattle.std.proofs.Common.{append_assoc, append-nil, ◌≢◌, arith, length-drop, if◌then◌else◌}
use Rattle.std.specs.List.{concat}
use Rattle.std.proofs.lemmas.List.{drop_all, drop-drop, drop_more}
use Rattle.java_text.specs.declared.character.TheConstants.{BACKSLASH, LINE_FEED}
use Rattle.java_lexer.specs.Escapes.{escape_units, escape_length, escape_value, first_item}
use Rattle.java_lexer.specs.Escapes.{items_up_to, items_of, look_up}

chosen_within : (b : Bool) (c : ℕ) (units : List ℕ)
    → (let item : List ℕ × List ℕ =
    if b then (escape_units units, drop (escape_length units) units)
    else (c ∷ [], units) in length item.1 ≤ length units)
chosen_within true c units = omega (arith, length-drop (escape_length units) units)
chosen_within false c units = omega arith

-- an item takes a unit or more
rest_within : (c : ℕ) (units : List ℕ) → length (first_item c units).1 ≤ length units
rest_within c units = chosen_within (c == BACKSLASH) c units

-- more steps than units give the same
enough : (n m : ℕ) (units : List ℕ) → length units ≤ n → length units ≤ m
    → items_up_to n units ≡ items_up_to m units
unfolding items_up_to
enough zero zero units h k = refl
enough zero (suc m) [] h k = refl
enough (suc n) zero [] h k = refl
enough (suc n) (suc m) [] h k = refl
enough zero (suc m) (c ∷ units) h k = absurd (omega (arith, h))
enough (suc n) zero (c ∷ units) h k = absurd (omega (arith, k))
enough (suc n) (suc m) (c ∷ units) h k =
    let w = rest_within c units in
    ap (λ items. (first_item c units).0 ∷ items)
    (enough n m (first_item c units).1 (omega arith) (omega arith))

one_item : (c : ℕ) (units : List ℕ)
    → items_of (c ∷ units) ≡ (first_item c units).0 ∷ items_of (first_item c units).1
unfolding items_up_to
one_item c units =
    ap (λ items. (first_item c units).0 ∷ items)
    (enough (length units) (length (first_item c units).1) _ (rest_within c units) (omega arith))

-- an item, as the code takes it
pub pushed : (c : ℕ) (units rest out more : List ℕ) → more ≡ out ++ (first_item c units).0
    → rest ≡ (first_item c units).1
    → more ++ concat (items_of rest) ≡ out ++ concat (items_of (c ∷ units))
pushed c units rest out more m r =
    rw (m, r, one_item c units)
    (append_assoc out (first_item c units).0 (concat (items_of (first_item c units).1)))

pub further : (at taken : ℕ) (units : List ℕ)
    → drop (at + (1 + taken)) units ≡ drop taken (drop (at + 1) units)
further at taken units = let same : (at + 1) + taken ≡ at + (1 + taken) = omega arith in
    sym (drop-drop taken (at + 1) units ∙ ap (λ n. drop n units) same)

-- nothing is left
pub ended : (at : ℕ) (units out : List ℕ) → length units ≤ at
    → out ++ concat (items_of (drop at units)) ≡ concat (items_of units)
    → out ≡ concat (items_of units)
unfolding items_up_to
ended at units out h e = sym (append-nil out) ∙ (rw (drop_all at units h) at e)

-- what an escape adds
pub one_unit : (units : List ℕ) → (slice_index units 0 == LINE_FEED) ≡ false
    → escape_value units ∷ [] ≡ escape_units units
one_unit units e = sym (ap (λ b. if b then [] else escape_value units ∷ []) e)

pub no_unit : (units : List ℕ) → (slice_index units 0 == LINE_FEED) ≡ true →
    [] ≡ escape_units units
no_unit units e = sym (ap (λ b. if b then [] else escape_value units ∷ []) e)

pub differs : (a b : ℕ) → a ≢ b → (a == b) ≡ false
differs a b h = grind (arith, h)

-- ---- the table of escapes

-- the entry at a place has the unit
pub found_here : (i : ℕ) (d : ℕ × ℕ) (entries : List (ℕ × ℕ)) (c : ℕ) → i < length entries
    → (c == (get_or entries i d).0) ≡ true
    → (get_or entries i d).1 ≡ look_up (drop i entries) c
found_here i d entries c h e =
    rw (drop_more entries i d h)
    (sym (ap (λ b. if b then (get_or entries i d).1 else look_up (drop (i + 1) entries) c) e))

-- it has not
pub not_here : (i : ℕ) (d : ℕ × ℕ) (entries : List (ℕ × ℕ)) (c : ℕ) → i < length entries
    → (c == (get_or entries i d).0) ≡ false
    → look_up (drop (i + 1) entries) c ≡ look_up (drop i entries) c
not_here i d entries c h e =
    rw (drop_more entries i d h)
    (sym (ap (λ b. if b then (get_or entries i d).1 else look_up (drop (i + 1) entries) c) e))

-- all entries are looked at
pub none_left : (i : ℕ) (entries : List (ℕ × ℕ)) (c : ℕ) → length entries ≤ i
    → c ≡ look_up (drop i entries) c
none_left i entries c h = rw (drop_all i entries h) refl
