-- A list cut at a set of its places, from front to back: `all` is what stands before in the whole
-- list, and `before` what of it stands behind the last place.
use Rattle.std.proofs.Common.{◌≡◌, refl, sym, ◌∙◌, ap, Bool, true, false, ◌||◌, cond}
use Rattle.std.proofs.Common.{if◌then◌else◌, List, [], ◌∷◌, ◌++◌, append_assoc, append-nil}
use Rattle.segments.specs.Places.{behind_item, with_item, between, has_place, behind}

abbrev pub between_from : {X : Type 0} → (List X → X → Bool) → List X → List X → List X
    → List (List X × X)
between_from is all before [] = []
between_from is all before (x ∷ xs) =
    if is all x then (before, x) ∷ between_from is (all ++ x ∷ []) [] xs
    else between_from is (all ++ x ∷ []) (before ++ x ∷ []) xs

abbrev pub behind_from : {X : Type 0} → (List X → X → Bool) → List X → List X → List X → List X
behind_from is all before [] = before
behind_from is all before (x ∷ xs) =
    if is all x then behind_from is (all ++ x ∷ []) [] xs
    else behind_from is (all ++ x ∷ []) (before ++ x ∷ []) xs

-- the places behind some items
abbrev pub shifted : {X : Type 0} → (List X → X → Bool) → List X → List X → X → Bool
shifted is all before y = is (all ++ before) y

pub shifted_item : {X : Type 0} (is : List X → X → Bool) (all : List X) (x : X)
    → shifted is (all ++ x ∷ []) ≡ behind_item (shifted is all) x
shifted_item is all x = λ i before y. is (append_assoc all (x ∷ []) before i) y

-- items in front of the first part
abbrev with_items : {X : Type 0} → List X → List (List X × X) → List (List X × X)
with_items before [] = []
with_items before ((front, x) ∷ parts) = (before ++ front, x) ∷ parts

with_nothing : {X : Type 0} (parts : List (List X × X)) → with_items [] parts ≡ parts
with_nothing [] = refl
with_nothing ((front, x) ∷ parts) = refl

with_one_more : {X : Type 0} (before : List X) (x : X) (parts : List (List X × X))
    → with_items (before ++ x ∷ []) parts ≡ with_items before (with_item x parts)
with_one_more before x [] = refl
with_one_more before x ((front, y) ∷ parts) =
    ap (λ f. (f, y) ∷ parts) (append_assoc before (x ∷ []) front)

between_shifted : {X : Type 0} (is : List X → X → Bool) (xs all before : List X)
    → between_from is all before xs ≡ with_items before (between (shifted is all) xs)
between_shifted is [] all before = refl
between_shifted {X} is (x ∷ xs) all before =
    step (is all x) (between_shifted is xs (all ++ x ∷ []) [])
    (between_shifted is xs (all ++ x ∷ []) (before ++ x ∷ []))
    ∙ ap (λ whole. with_items before (cond (is whole x) (([], x) ∷ rest) (with_item x rest)))
    (sym (append-nil all))
  where
    rest : List (List X × X)
    rest = between (behind_item (shifted is all) x) xs

    same : between (shifted is (all ++ x ∷ [])) xs ≡ rest
    same = ap (λ places. between places xs) (shifted_item is all x)

    step : (b : Bool)
        → between_from is (all ++ x ∷ []) [] xs
        ≡ with_items [] (between (shifted is (all ++ x ∷ [])) xs)
        → between_from is (all ++ x ∷ []) (before ++ x ∷ []) xs
        ≡ with_items (before ++ x ∷ []) (between (shifted is (all ++ x ∷ [])) xs)
        → cond b ((before, x) ∷ between_from is (all ++ x ∷ []) [] xs)
        (between_from is (all ++ x ∷ []) (before ++ x ∷ []) xs)
        ≡ with_items before (cond b (([], x) ∷ rest) (with_item x rest))
    step true first more =
        ap (λ parts. (before, x) ∷ parts) (first
        ∙ with_nothing (between (shifted is (all ++ x ∷ [])) xs) ∙ same)
        ∙ ap (λ b. (b, x) ∷ rest) (sym (append-nil before))
    step false first more = more ∙ ap (with_items (before ++ x ∷ [])) same
        ∙ with_one_more before x rest

pub between_is : {X : Type 0} (is : List X → X → Bool) (xs : List X)
    → between is xs ≡ between_from is [] [] xs
between_is is xs = sym (between_shifted is xs [] [] ∙ with_nothing (between is xs))

-- where no place is in the list, all of it is behind
no_place : {X : Type 0} (is : List X → X → Bool) (xs : List X) → has_place is xs ≡ false
    → behind is xs ≡ xs
no_place is [] e = refl
no_place is (x ∷ xs) e = ap (λ b. cond b (behind (behind_item is x) xs) (x ∷ xs)) e

behind_shifted : {X : Type 0} (is : List X → X → Bool) (xs all before : List X)
    → behind_from is all before xs
    ≡ (if has_place (shifted is all) xs then behind (shifted is all) xs else before ++ xs)
behind_shifted is [] all before = sym (append-nil before)
behind_shifted {X} is (x ∷ xs) all before =
    step (is all x) (has_place (behind_item (shifted is all) x) xs) refl
    (behind_shifted is xs (all ++ x ∷ []) []
    ∙ ap (λ places. cond (has_place places xs) (behind places xs) xs) (shifted_item is all x))
    (behind_shifted is xs (all ++ x ∷ []) (before ++ x ∷ [])
    ∙ ap (λ places. cond (has_place places xs) (behind places xs) ((before ++ x ∷ []) ++ xs))
    (shifted_item is all x))
    ∙ ap (λ whole. cond (is whole x || more) (cond (is whole x || more) rest (x ∷ xs))
    (before ++ x ∷ xs)) (sym (append-nil all))
  where
    more : Bool
    more = has_place (behind_item (shifted is all) x) xs

    rest : List X
    rest = behind (behind_item (shifted is all) x) xs

    step : (b c : Bool) → more ≡ c
        → behind_from is (all ++ x ∷ []) [] xs ≡ cond more rest xs
        → behind_from is (all ++ x ∷ []) (before ++ x ∷ []) xs
        ≡ cond more rest ((before ++ x ∷ []) ++ xs)
        → cond b (behind_from is (all ++ x ∷ []) [] xs)
        (behind_from is (all ++ x ∷ []) (before ++ x ∷ []) xs)
        ≡ cond (b || more) (cond (b || more) rest (x ∷ xs)) (before ++ x ∷ xs)
    step true true e first further = first ∙ ap (λ m. cond m rest xs) e
    step true false e first further = first ∙ ap (λ m. cond m rest xs) e
        ∙ sym (no_place (behind_item (shifted is all) x) xs e)
    step false true e first further =
        further ∙ ap (λ m. cond m rest ((before ++ x ∷ []) ++ xs)) e
        ∙ sym (ap (λ m. cond m (cond m rest (x ∷ xs)) (before ++ x ∷ xs)) e)
    step false false e first further =
        further ∙ ap (λ m. cond m rest ((before ++ x ∷ []) ++ xs)) e
        ∙ append_assoc before (x ∷ []) xs
        ∙ sym (ap (λ m. cond m (cond m rest (x ∷ xs)) (before ++ x ∷ xs)) e)

pub behind_is : {X : Type 0} (is : List X → X → Bool) (xs : List X)
    → behind is xs ≡ behind_from is [] [] xs
behind_is is xs = by (has_place is xs) refl ∙ sym (behind_shifted is xs [] []) where
  by : (b : Bool) → has_place is xs ≡ b → behind is xs ≡ cond (has_place is xs) (behind is xs) xs
  by true e = sym (ap (λ b. cond b (behind is xs) xs) e)
  by false e = no_place is xs e ∙ sym (ap (λ b. cond b (behind is xs) xs) e)
