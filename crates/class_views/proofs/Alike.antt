-- Two hierarchies that are alike, as two worlds in which the same is found, or names and numbers:
-- steps that keep a relation make related things at each depth.
use Rattle.std.proofs.Common.{◌≡◌, refl, sym, subst, ℕ, zero, suc, List, [], ◌∷◌, ◌++◌, Option}
use Rattle.std.proofs.Common.{Some, None}
use Rattle.std.specs.Prelude.{option_and_then, option_map, option_to_list, unwrap_or}
use Rattle.std.specs.List.{filter_map, cons_option}
use Rattle.class_views.specs.View.{View}
use Rattle.class_views.specs.Supertypes.{Hierarchy, StepOf, step_over, fold_at}
use Rattle.class_views.specs.World.{World, hierarchy, walk_step, walk_at, chain_step, chain_at}
use Rattle.class_views.specs.World.{joined}
use Rattle.class_views.specs.Alike.{Both, Each, Stand, done, paired, gone_first, gone_second}
use Rattle.class_views.specs.Alike.{AreAlike, Keeps}
use Rattle.class_views.proofs.Settled.{gone}

pub each_append : {X Y : Type 0} (Related : X → Y → Type 0) (xs : List X) (ys : List Y)
    (us : List X) (vs : List Y) → Each Related xs ys → Each Related us vs →
    Each Related (xs ++ us) (ys ++ vs)
each_append Related [] [] us vs a b = b
each_append Related (x ∷ xs) (y ∷ ys) us vs a b = (a.0, each_append Related xs ys us vs a.1 b)
each_append Related [] (y ∷ ys) us vs a b = absurd a
each_append Related (x ∷ xs) [] us vs a b = absurd a

module _ {N M C D : Type 0} (h : Hierarchy N C) (g : Hierarchy M D) where
  module _ {A B : Type 0} (Related : C → D → Type 0) (Agree : A → B → Type 0) (step : StepOf C A)
      (other : StepOf D B) where
    module _ (Same : N → M → Type 0) (alike : AreAlike h g Same Related)
        (keeps : Keeps Related Agree step other) where
      abbrev MadeAlike : ℕ → Type 0
      MadeAlike depth =
          (n : N) (m : M) → Same n m → Both Agree (fold_at h step depth n)
          (fold_at g other depth m)

      more_each : (a : Option A) (b : Option B) (xs : List A) (ys : List B) → Both Agree a b →
          Each Agree xs ys → Each Agree (cons_option a xs) (cons_option b ys)
      more_each None None xs ys one rest = rest
      more_each (Some a) (Some b) xs ys one rest = (one, rest)
      more_each None (Some b) xs ys one rest = absurd one
      more_each (Some a) None xs ys one rest = absurd one

      interfaces_made : (depth : ℕ) → MadeAlike depth → (ns : List N) (ms : List M) →
          Stand h g Same ns ms →
          Each Agree (filter_map (fold_at h step depth) ns) (filter_map (fold_at g other depth) ms)
      interfaces_made depth made [] [] done = tt
      interfaces_made depth made (n ∷ ns) (m ∷ ms) (paired same rest) =
          more_each (fold_at h step depth n) (fold_at g other depth m)
          (filter_map (fold_at h step depth) ns) (filter_map (fold_at g other depth) ms)
          (made n m same) (interfaces_made depth made ns ms rest)
      interfaces_made depth made (n ∷ ns) ms (gone_first e rest) =
          subst (λ o. Each Agree (cons_option o (filter_map (fold_at h step depth) ns))
          (filter_map (fold_at g other depth) ms)) (sym (gone h step n e depth))
          (interfaces_made depth made ns ms rest)
      interfaces_made depth made ns (m ∷ ms) (gone_second e rest) =
          subst (λ o. Each Agree (filter_map (fold_at h step depth) ns)
          (cons_option o (filter_map (fold_at g other depth) ms)))
          (sym (gone g other m e depth)) (interfaces_made depth made ns ms rest)

      -- the one superclass, as a list of at most one
      listed : {X Y : Type 0} (f : X → Option Y) (o : Option X) →
          filter_map f (option_to_list o) ≡ option_to_list (option_and_then f o)
      listed f None = refl
      listed {Y = Y} f (Some x) = by (f x)
        where
          by : (o : Option Y) → cons_option o [] ≡ option_to_list o
          by None = refl
          by (Some y) = refl

      both_listed : (a : Option A) (b : Option B) →
          Each Agree (option_to_list a) (option_to_list b) → Both Agree a b
      both_listed None None each = tt
      both_listed (Some a) (Some b) each = each.0
      both_listed None (Some b) each = absurd each
      both_listed (Some a) None each = absurd each

      superclass_made : (depth : ℕ) → MadeAlike depth → (o : Option N) (p : Option M) →
          Stand h g Same (option_to_list o) (option_to_list p) →
          Both Agree (option_and_then (fold_at h step depth) o)
          (option_and_then (fold_at g other depth) p)
      superclass_made depth made o p stand =
          both_listed (option_and_then (fold_at h step depth) o)
          (option_and_then (fold_at g other depth) p)
          (subst (λ xs. Each Agree xs (option_to_list (option_and_then (fold_at g other depth) p)))
          (listed (fold_at h step depth) o)
          (subst (λ ys. Each Agree (filter_map (fold_at h step depth) (option_to_list o)) ys)
          (listed (fold_at g other depth) p)
          (interfaces_made depth made (option_to_list o) (option_to_list p) stand)))

      pub folds_alike : (depth : ℕ) → MadeAlike depth
      unfolding fold_at
      folds_alike zero n m same = tt
      folds_alike (suc depth) n m same =
          by (h.look n) (g.look m) (alike.classes n m same) (folds_alike depth)
        where
          by : (o : Option C) (p : Option D) → Both Related o p → MadeAlike depth →
              Both Agree (option_map (step_over h step (fold_at h step depth)) o)
              (option_map (step_over g other (fold_at g other depth)) p)
          by None None related made = tt
          by (Some c) (Some d) related made =
              keeps c d related
              (option_and_then (fold_at h step depth) (h.superclass c))
              (option_and_then (fold_at g other depth) (g.superclass d))
              (superclass_made depth made (h.superclass c) (g.superclass d)
              (alike.superclass c d related))
              (filter_map (fold_at h step depth) (h.superinterfaces c))
              (filter_map (fold_at g other depth) (g.superinterfaces d))
              (interfaces_made depth made (h.superinterfaces c) (g.superinterfaces d)
              (alike.superinterfaces c d related))
          by None (Some d) related made = absurd related
          by (Some c) None related made = absurd related

-- ---- walks and chains of two worlds, class by class

module _ (world other : World) (Same : List ℕ → List ℕ → Type 0) (Related : View → View → Type 0)
    (alike : AreAlike (hierarchy world) (hierarchy other) Same Related) where
  or_nothing : (a b : Option (List View)) → Both (Each Related) a b →
      Each Related (unwrap_or a []) (unwrap_or b [])
  or_nothing None None both = tt
  or_nothing (Some xs) (Some ys) both = both
  or_nothing None (Some ys) both = absurd both
  or_nothing (Some xs) None both = absurd both

  all_joined : (xs ys : List (List View)) → Each (Each Related) xs ys →
      Each Related (joined xs) (joined ys)
  all_joined [] [] each = tt
  all_joined (x ∷ xs) (y ∷ ys) each =
      each_append Related x y (joined xs) (joined ys) each.0 (all_joined xs ys each.1)
  all_joined [] (y ∷ ys) each = absurd each
  all_joined (x ∷ xs) [] each = absurd each

  pub walks_alike : (depth : ℕ) (from to : List ℕ) → Same from to →
      Each Related (walk_at world depth from) (walk_at other depth to)
  walks_alike depth from to same =
      or_nothing (fold_at (hierarchy world) walk_step depth from)
      (fold_at (hierarchy other) walk_step depth to)
      (folds_alike (hierarchy world) (hierarchy other) Related (Each Related) walk_step walk_step
      Same alike
      (λ c d related super above both interfaces others each. (
        related,
        each_append Related (joined interfaces) (joined others) (unwrap_or super [])
            (unwrap_or above []) (all_joined interfaces others each)
            (or_nothing super above both),
      ))
      depth from to same)

  pub chains_alike : (depth : ℕ) (from to : List ℕ) → Same from to →
      Each Related (chain_at world depth from) (chain_at other depth to)
  chains_alike depth from to same =
      or_nothing (fold_at (hierarchy world) chain_step depth from)
      (fold_at (hierarchy other) chain_step depth to)
      (folds_alike (hierarchy world) (hierarchy other) Related (Each Related) chain_step chain_step
      Same alike
      (λ c d related super above both interfaces others each.
      (related, or_nothing super above both))
      depth from to same)
