-- Items of lists that are read by `get_elem?`.
use Rattle.std.proofs.Common.{◌≡◌, ◌≢◌, ℕ, zero, suc, ◌<◌, List, [], ◌∷◌, ◌++◌, length, map, set}
use Rattle.std.proofs.Common.{get_or, sym, subst, ⊎_elim, arith}
use mathlib.Core.Option.{some, some-injective, some-ne-none}
use lib.ListN.{get_elem?}
use Rattle.atomic_table.proofs.Lists.{at_set, at_snoc}

module _ {A : Type 0} (P : A → Type 0) where
  -- P holds of each item
  abbrev pub HoldsOfEach : List A → Type 0
  HoldsOfEach l = (i : ℕ) (a : A) → get_elem? l i ≡ some a → P a

  pub each_set : (l : List A) (i : ℕ) (a : A) → HoldsOfEach l → P a → HoldsOfEach (set l i a)
  each_set l i a all here j b e = ⊎_elim
      (λ (t : (j ≡ i) × (a ≡ b)). subst P t.1 here)
      (λ (t : (j ≢ i) × (get_elem? l j ≡ some b)). all j b t.1)
      (at_set l i j a b e)

  pub each_snoc : (l : List A) (a : A) → HoldsOfEach l → P a → HoldsOfEach (l ++ a ∷ [])
  each_snoc l a all here j b e = ⊎_elim
      (λ (t : get_elem? l j ≡ some b). all j b t)
      (λ (t : a ≡ b). subst P t here)
      (at_snoc l a b j e)

module _ {A : Type 0} where
  pub item_read : (l : List A) (i : ℕ) (a d : A) → get_elem? l i ≡ some a
      → (i < length l) × (get_or l i d ≡ a)
  item_read [] i a d e = absurd (some-ne-none a (sym e))
  item_read (x ∷ xs) zero a d e = (omega arith, some-injective x a e)
  item_read (x ∷ xs) (suc i) a d e =
      let read = item_read xs i a d e in (omega (arith, read.0), read.1)

  pub item_mapped : {B : Type 0} (f : A → B) (l : List A) (i : ℕ) (a : A) (d : B)
      → get_elem? l i ≡ some a → get_or (map f l) i d ≡ f a
  item_mapped f [] i a d e = absurd (some-ne-none a (sym e))
  item_mapped f (x ∷ xs) zero a d e = λ k. f (some-injective x a e k)
  item_mapped f (x ∷ xs) (suc i) a d e = item_mapped f xs i a d e
