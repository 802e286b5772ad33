-- An ordered set grows behind what it has, so numbers stay.
use Rattle.std.proofs.Common.{◌≡◌, ◌+◌, Bool, true, false, cond, not, ◌||◌, List, [], ◌∷◌, ◌++◌}
use Rattle.std.proofs.Common.{refl, sym, ap, ◌∙◌, append_assoc, append-nil}
use Rattle.std.specs.Cmp.{IsEquivalence}
use Rattle.std.specs.List.{list_any, position_or_len}
use Rattle.indexmap.specs.IndexSet.{insert_key, insert_all}

module _ {K : Type 0} (E : K → K → Bool) where
  -- what is put in goes behind
  pub one_behind : (pool : List K) (item : K)
      → (tail : List K) × (insert_key E pool item ≡ pool ++ tail)
  one_behind pool item = by (list_any (E item) pool)
    where
      by : (b : Bool) → (tail : List K) × (cond b pool (pool ++ item ∷ []) ≡ pool ++ tail)
      by true = ([], sym (append-nil pool))
      by false = (item ∷ [], refl)

  pub all_behind : (pool items : List K)
      → (tail : List K) × (insert_all E pool items ≡ pool ++ tail)
  all_behind pool [] = ([], sym (append-nil pool))
  all_behind pool (item ∷ items) =
      let one = one_behind pool item in
      let rest = all_behind (insert_key E pool item) items in (
        one.0 ++ rest.0,
        rest.1 ∙ ap (λ front. front ++ rest.0) one.1
            ∙ append_assoc pool one.0 rest.0,
      )

  past_one : (item front : K) (pool : List K) → E item front ≡ false
      → insert_key E (front ∷ pool) item ≡ front ∷ insert_key E pool item
  past_one item front pool differs = ap
      (λ b. cond (b || list_any (E item) pool) (front ∷ pool) (front ∷ (pool ++ item ∷ [])))
      differs ∙ by (list_any (E item) pool)
    where
      by : (b : Bool) → cond b (front ∷ pool) (front ∷ (pool ++ item ∷ [])) ≡ front
          ∷ cond b pool (pool ++ item ∷ [])
      by true = refl
      by false = refl

  -- the place of an item, whatever goes behind
  pub place_stays : IsEquivalence E → (item : K) (pool more : List K)
      → position_or_len (E item) (insert_key E pool item ++ more) ≡ position_or_len (E item) pool
  place_stays laws item [] more = ap (λ b. cond (not b) (1 + position_or_len (E item) more) 0)
      (laws.refl item)
  place_stays laws item (front ∷ pool) more = by (E item front) refl
      (place_stays laws item pool more)
    where
      by : (b : Bool) → E item front ≡ b
          → position_or_len (E item) (insert_key E pool item ++ more)
          ≡ position_or_len (E item) pool
          → position_or_len (E item) (insert_key E (front ∷ pool) item ++ more)
          ≡ position_or_len (E item) (front ∷ pool)
      by true same rest =
          ap (λ b. position_or_len (E item)
          (cond (b || list_any (E item) pool) (front ∷ pool) (front ∷ (pool ++ item ∷ []))
          ++ more)) same
          ∙ ap (λ b. cond (not b) (1 + position_or_len (E item) (pool ++ more)) 0) same
          ∙ sym (ap (λ b. cond (not b) (1 + position_or_len (E item) pool) 0) same)
      by false differs rest =
          ap (λ front_pool. position_or_len (E item) (front_pool ++ more))
          (past_one item front pool differs)
          ∙ ap (λ n. cond (not (E item front)) (1 + n) 0) rest
