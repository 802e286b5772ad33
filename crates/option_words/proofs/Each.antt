-- Lists gone over one by one, where something is made of each item.
use Rattle.std.proofs.Common.{◌≡◌, ℕ, ◌+◌, ◌<◌, ◌≤◌, List, [], ◌∷◌, ◌++◌, length, drop, map}
use Rattle.std.proofs.Common.{get_or, refl, sym, ap, ◌∙◌, append_assoc, append-nil}
use Rattle.std.specs.Prelude.{Option, Some, None, option_map}
use Rattle.std.proofs.lemmas.List.{drop_more, drop_all, map-append}
use Rattle.option_words.specs.Lists.{each, before}

-- what was made so far, with what the items that are left come to
abbrev pub with_front : {A : Type 0} → List A → Option (List A) → Option (List A)
with_front front left = option_map (λ more. front ++ more) left

pub no_front : {A : Type 0} (left : Option (List A)) → left ≡ with_front [] left
no_front None = refl
no_front (Some more) = refl

pub onto_front : {A : Type 0} (front : List A) (x : A) (left : Option (List A))
    → with_front front (before (Some x) left) ≡ with_front (front ++ x ∷ []) left
onto_front front x None = refl
onto_front front x (Some more) = ap Some (sym (append_assoc front (x ∷ []) more))

-- X and Y are the items and what is made, as they lie in memory
module _ {X Y A B : Type 0} (see : X → A) (show : Y → B) (made : A → Option B) (all : List X)
    (found : List Y) (i : ℕ) where
  abbrev pub IsMade : Type 0
  IsMade = each made (map see all)
      ≡ with_front (map show found) (each made (map see (drop i all)))

  module _ (d : X) (inside : i < length all) (so_far : IsMade) where
    here : (o : Option B) → o ≡ made (see (get_or all i d))
        → each made (map see all)
        ≡ with_front (map show found) (before o (each made (map see (drop (i + 1) all))))
    here o e =
        so_far
        ∙ ap (λ xs. with_front (map show found) (each made (map see xs)))
        (drop_more all i d inside)
        ∙ ap (λ p. with_front (map show found)
        (before p (each made (map see (drop (i + 1) all))))) (sym e)

    -- one more item gives something
    pub made_more : (pushed : List Y) (y : Y) → pushed ≡ found ++ y ∷ []
        → Some (show y) ≡ made (see (get_or all i d))
        → each made (map see all)
        ≡ with_front (map show pushed) (each made (map see (drop (i + 1) all)))
    made_more pushed y more e =
        here (Some (show y)) e
        ∙ onto_front (map show found) (show y) (each made (map see (drop (i + 1) all)))
        ∙ ap (λ ys. with_front ys (each made (map see (drop (i + 1) all))))
        (sym (ap (map show) more ∙ map-append show found (y ∷ [])))

    -- the next item gives nothing
    pub made_none : None ≡ made (see (get_or all i d)) → None ≡ each made (map see all)
    made_none e = sym (here None e)

  -- all items were gone over
  pub made_all : length all ≤ i → IsMade → Some (map show found) ≡ each made (map see all)
  made_all ended so_far =
      sym (so_far
      ∙ ap (λ xs. with_front (map show found) (each made (map see xs))) (drop_all i all ended)
      ∙ ap Some (append-nil (map show found)))

-- nothing was made yet
pub made_none_yet : {X Y A B : Type 0} (see : X → A) (show : Y → B) (made : A → Option B)
    (all : List X) (found : List Y) → found ≡ []
    → each made (map see all) ≡ with_front (map show found) (each made (map see (drop 0 all)))
made_none_yet see show made all found e =
    no_front (each made (map see all))
    ∙ ap (λ ys. with_front ys (each made (map see all))) (sym (ap (map show) e))
