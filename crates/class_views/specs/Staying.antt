-- What of a list stays: the items that begin, and with each item that stays those that it names.
use Rattle.std.specs.Prelude.{◌≡◌, ℕ, zero, suc, ◌||◌, Bool, true, List, [], length, filter}
use Rattle.std.specs.Prelude.{Contains}
use Rattle.std.specs.List.{list_any}

-- an item that begins, or that one of these names
abbrev pub stays_beside : {A : Type 0} → (A → Bool) → (A → A → Bool) → List A → A → Bool
stays_beside begins names staying item = begins item || list_any (λ one. names one item) staying

-- what stays after this many rounds, each over all items at once
unfoldable pub staying_after : {A : Type 0} → (A → Bool) → (A → A → Bool) → List A → ℕ → List A
staying_after begins names items zero = []
staying_after begins names items (suc rounds) =
    filter (stays_beside begins names (staying_after begins names items rounds)) items

-- after as many rounds as there are items no more come
abbrev pub stays_in : {A : Type 0} → (A → Bool) → (A → A → Bool) → List A → A → Bool
stays_in begins names items =
    stays_beside begins names (staying_after begins names items (length items))

-- a set that has the items which begin, and with each of its items those that it names
pub record IsClosed {A : Type 0} (begins : A → Bool) (names : A → A → Bool) (items : List A)
    (has : A → Bool) : Type 0 where
  pub begun : (item : A) → Contains items item → begins item ≡ true → has item ≡ true
  pub named : (one other : A) → Contains items one → Contains items other → has one ≡ true
      → names one other ≡ true → has other ≡ true

-- the least of these sets: its items are in each other one
pub record IsLeast {A : Type 0} (begins : A → Bool) (names : A → A → Bool) (items : List A)
    (has : A → Bool) : Type 0 where
  pub closed : IsClosed begins names items has
  pub least : (other : A → Bool) → IsClosed begins names items other → (item : A)
      → Contains items item → has item ≡ true → other item ≡ true
