-- Steps of loops over lists: by places, by numbers, and by what is left.
use Rattle.std.proofs.Common.{◌≡◌, ℕ, ◌+◌, ◌<◌, ◌≤◌, Bool, true, false, cond, List, [], ◌∷◌}
use Rattle.std.proofs.Common.{◌++◌}
use Rattle.std.proofs.Common.{length, map, take, get_or, refl, sym, ap, ◌∙◌, append-nil}
use Rattle.std.proofs.Common.{append_assoc, arith}
use Rattle.std.specs.Prelude.{filter}
use Rattle.std.specs.List.{flat_map, enumerate_from}
use Rattle.std.proofs.lemmas.List.{take_more, take_all, nil_from_length, length-take}
use Rattle.std.proofs.lemmas.List.Concat.{flat_map-append}

-- ---- with their numbers

module _ {X : Type 0} where
  enumerate-push : (n : ℕ) (xs : List X) (x : X)
      → enumerate_from n (xs ++ x ∷ []) ≡ enumerate_from n xs ++ (n + length xs, x) ∷ []
  enumerate-push n [] x =
      let e : n ≡ n + length {A = X} [] = omega arith in ap (λ k. (k, x) ∷ []) e
  enumerate-push n (y ∷ ys) x =
      let e : (n + 1) + length ys ≡ n + length (y ∷ ys) = omega arith in
      ap (λ list. (n, y) ∷ list)
      (enumerate-push (n + 1) ys x ∙ ap (λ k. enumerate_from (n + 1) ys ++ (k, x) ∷ []) e)

  pub numbered_more : (xs : List X) (i : ℕ) (d : X) → i < length xs
      → enumerate_from 0 (take (i + 1) xs)
      ≡ enumerate_from 0 (take i xs) ++ (i, get_or xs i d) ∷ []
  numbered_more xs i d inside =
      let e : 0 + length (take i xs) ≡ i = omega (arith, length-take i xs) in
      ap (enumerate_from 0) (take_more xs i d inside)
      ∙ enumerate-push 0 (take i xs) (get_or xs i d)
      ∙ ap (λ k. enumerate_from 0 (take i xs) ++ (k, get_or xs i d) ∷ []) e

  module _ {A : Type 0} (f : ℕ × X → List A) where
    pub flat_numbered : (xs : List X) (i : ℕ) (d : X) → i < length xs
        → flat_map f (enumerate_from 0 (take (i + 1) xs))
        ≡ flat_map f (enumerate_from 0 (take i xs)) ++ f (i, get_or xs i d)
    flat_numbered xs i d inside =
        ap (flat_map f) (numbered_more xs i d inside)
        ∙ flat_map-append f (enumerate_from 0 (take i xs)) ((i, get_or xs i d) ∷ [])
        ∙ ap (λ list. flat_map f (enumerate_from 0 (take i xs)) ++ list)
        (append-nil (f (i, get_or xs i d)))

    pub flat_numbered_all : (xs : List X) (i : ℕ) → length xs ≤ i
        → flat_map f (enumerate_from 0 (take i xs)) ≡ flat_map f (enumerate_from 0 xs)
    flat_numbered_all xs i all =
        ap (λ list. flat_map f (enumerate_from 0 list)) (take_all i xs all)

  module _ {A : Type 0} (f : ℕ × X → List A) where
    -- what comes of one more
    pub told_more : (xs : List X) (i : ℕ) (x : X) (old new more : List A) → i < length xs
        → x ≡ get_or xs i x → old ≡ flat_map f (enumerate_from 0 (take i xs)) → new ≡ old ++ more
        → more ≡ f (i, x)
        → new ≡ flat_map f (enumerate_from 0 (take (i + 1) xs))
    told_more xs i x old new more inside is so_far pushed own =
        pushed
        ∙ ap (λ list. list ++ more) so_far
        ∙ ap (λ list. flat_map f (enumerate_from 0 (take i xs)) ++ list)
        (own ∙ ap (λ y. f (i, y)) is)
        ∙ sym (flat_numbered f xs i x inside)

-- ---- by what is left: what is done, and what comes of the rest, are the whole

module _ {X A : Type 0} where
  pub flat_on : (f : X → List A) (done more whole : List A) (x : X) (left rest : List X)
      → left ≡ x ∷ rest → more ≡ done ++ f x → done ++ flat_map f left ≡ whole
      → more ++ flat_map f rest ≡ whole
  flat_on f done more whole x left rest opened pushed h =
      ap (λ list. list ++ flat_map f rest) pushed
      ∙ append_assoc done (f x) (flat_map f rest)
      ∙ ap (λ list. done ++ flat_map f list) (sym opened)
      ∙ h

  pub map_on : (f : X → A) (done more whole : List A) (x : X) (left rest : List X)
      → left ≡ x ∷ rest → more ≡ done ++ f x ∷ [] → done ++ map f left ≡ whole
      → more ++ map f rest ≡ whole
  map_on f done more whole x left rest opened pushed h =
      ap (λ list. list ++ map f rest) pushed
      ∙ append_assoc done (f x ∷ []) (map f rest)
      ∙ ap (λ list. done ++ map f list) (sym opened)
      ∙ h

  pub filter_on : (f : X → A) (p : A → Bool) (done more whole : List A) (x : X)
      (left rest : List X) → left ≡ x ∷ rest → more ≡ done ++ cond (p (f x)) (f x ∷ []) []
      → done ++ filter p (map f left) ≡ whole → more ++ filter p (map f rest) ≡ whole
  filter_on f p done more whole x left rest opened pushed h =
      ap (λ list. list ++ filter p (map f rest)) pushed
      ∙ append_assoc done (cond (p (f x)) (f x ∷ []) []) (filter p (map f rest))
      ∙ ap (λ list. done ++ list) (by (p (f x)))
      ∙ ap (λ list. done ++ filter p (map f list)) (sym opened)
      ∙ h
    where
      by : (b : Bool)
          → cond b (f x ∷ []) [] ++ filter p (map f rest)
          ≡ cond b (f x ∷ filter p (map f rest)) (filter p (map f rest))
      by true = refl
      by false = refl

  -- nothing is left
  pub none_left : (f : List X → List A) (done whole : List A) (left : List X) → f [] ≡ []
      → length left ≡ 0 → done ++ f left ≡ whole → done ≡ whole
  none_left f done whole left empty none h =
      sym (append-nil done) ∙ ap (λ list. done ++ list) (sym empty)
      ∙ ap (λ list. done ++ f list) (sym (nil_from_length left none)) ∙ h
