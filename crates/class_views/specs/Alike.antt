-- When two hierarchies are alike, as two worlds in which the same is found, or names and numbers.
use Rattle.std.specs.Prelude.{◌≡◌, Bool, true, List, [], ◌∷◌, Option, Some, None, option_to_list}
use Rattle.class_views.specs.Supertypes.{Hierarchy, StepOf}

-- both are there and related, or neither is
abbrev pub Both : {X Y : Type 0} → (X → Y → Type 0) → Option X → Option Y → Type 0
Both Related None None = Unit {0}
Both Related (Some x) (Some y) = Related x y
Both Related None (Some y) = ⊥
Both Related (Some x) None = ⊥

-- the lists are related item by item
abbrev pub Each : {X Y : Type 0} → (X → Y → Type 0) → List X → List Y → Type 0
Each Related [] [] = Unit {0}
Each Related (x ∷ xs) (y ∷ ys) = Related x y × Each Related xs ys
Each Related [] (y ∷ ys) = ⊥
Each Related (x ∷ xs) [] = ⊥

-- the relation of a test
abbrev pub holds : {X Y : Type 0} → (X → Y → Bool) → X → Y → Type 0
holds test x y = test x y ≡ true

-- from what agrees, above related classes, the steps make what agrees
abbrev pub Keeps : {C D A B : Type 0} → (C → D → Type 0) → (A → B → Type 0) → StepOf C A →
    StepOf D B → Type 0
Keeps {C = C} {D = D} {A = A} {B = B} Related Agree step other =
    (c : C) (d : D) → Related c d → (super : Option A) (other_super : Option B) →
    Both Agree super other_super → (interfaces : List A) (other_interfaces : List B) →
    Each Agree interfaces other_interfaces →
    Agree (step c super interfaces) (other d other_super other_interfaces)

module _ {N M C D : Type 0} (h : Hierarchy N C) (g : Hierarchy M D) where
  -- the names stand for each other, in order; such as have no class may stand anywhere
  pub data Stand (Same : N → M → Type 0) : List N → List M → Type 0 where
    done : Stand Same [] []
    paired : {n : N} {m : M} {ns : List N} {ms : List M} → Same n m → Stand Same ns ms →
        Stand Same (n ∷ ns) (m ∷ ms)
    gone_first : {n : N} {ns : List N} {ms : List M} → h.look n ≡ None → Stand Same ns ms →
        Stand Same (n ∷ ns) ms
    gone_second : {m : M} {ns : List N} {ms : List M} → g.look m ≡ None → Stand Same ns ms →
        Stand Same ns (m ∷ ms)

  -- names of a set that is closed along supertypes have related classes
  pub record AreAlike (Same : N → M → Type 0) (Related : C → D → Type 0) : Type 0 where
    pub classes : (n : N) (m : M) → Same n m → Both Related (h.look n) (g.look m)
    pub superclass : (c : C) (d : D) → Related c d →
        Stand Same (option_to_list (h.superclass c)) (option_to_list (g.superclass d))
    pub superinterfaces : (c : C) (d : D) → Related c d →
        Stand Same (h.superinterfaces c) (g.superinterfaces d)
