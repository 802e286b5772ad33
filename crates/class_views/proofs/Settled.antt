-- Where no class above reaches itself, the fold along supertypes is the same at each depth from
-- the number of classes on.
use Rattle.std.proofs.Common.{◌≡◌, refl, sym, ap, subst, ◌∙◌, ℕ, zero, suc, ◌+◌, ◌-◌, ◌≤◌, Bool}
use Rattle.std.proofs.Common.{true, false, List, [], ◌∷◌, ◌++◌, length, arith, Option, Some, None}
use Rattle.std.specs.Prelude.{option_and_then, option_map, option_to_list}
use Rattle.std.specs.List.{list_any, filter_map, cons_option, IsDistinct}
use Rattle.std.specs.Set.{is_member}
use Rattle.std.specs.Cmp.{IsEquivalence}
use Rattle.std.proofs.Math.Nat.{add-suc}
use Rattle.std.proofs.lemmas.Bool.{false_from_ne_true}
use Rattle.std.proofs.lemmas.Map.Made.{length-le_from_is_member}
use Rattle.class_views.specs.Supertypes.{Hierarchy, StepOf, step_over, fold_at}
use Rattle.class_views.proofs.Ways.{In, first, later, any_in, all_fail, Way, here, along, joins}
use Rattle.class_views.proofs.Ways.{IsThere}

pub in_front : {A : Type 0} (x : A) (xs ys : List A) → In x xs → In x (xs ++ ys)
in_front x [] ys at = elim at [ ]
in_front x (y ∷ xs) ys first = first
in_front x (y ∷ xs) ys (later at) = later (in_front x xs ys at)

pub in_back : {A : Type 0} (x : A) (xs ys : List A) → In x ys → In x (xs ++ ys)
in_back x [] ys at = at
in_back x (y ∷ xs) ys at = later (in_back x xs ys at)

module _ {Name Class : Type 0} (h : Hierarchy Name Class) where
  -- the names of the supertypes, in the order of a walk
  abbrev pub above : Class → List Name
  above c = h.superinterfaces c ++ option_to_list (h.superclass c)

  abbrev pub Leads : Name → Name → Type 0
  Leads a b = (names : List Name) × Way h.look above a names b

  -- a class of the first name, whose supertype leads to the second one
  pub record Climbs (a b : Name) : Type 0 where
    pub class : Class
    pub next : Name
    pub found : h.look a ≡ Some class
    pub up : In next (above class)
    pub leads : Leads next b

  -- no class that is reached climbs to itself
  abbrev pub IsFree : Name → Type 0
  IsFree a = (b : Name) → Leads a b → Climbs b b → ⊥

  pub free_above : (a s : Name) (c : Class) → h.look a ≡ Some c → In s (above c) → IsFree a →
      IsFree s
  free_above a s c found up free =
      λ b leads climbs. free b (a ∷ leads.0, along found up leads.1) climbs

  climbs_on : (v a s : Name) (c : Class) → h.look a ≡ Some c → In s (above c) →
      IsThere h.look above s → Climbs v a → Climbs v s
  climbs_on v a s c found up there climbs =
      let all =
      joins h.look above climbs.next a s climbs.leads.0 (a ∷ s ∷ []) climbs.leads.1
      (along found up (here there.1)) in
      record {
        class = climbs.class;
        next = climbs.next;
        found = climbs.found;
        up = climbs.up;
        leads = all;
      }

  module _ {Made : Type 0} (step : StepOf Class Made) where
    pub gone : (s : Name) → h.look s ≡ None → (depth : ℕ) → fold_at h step depth s ≡ None
    unfolding fold_at
    gone s e zero = refl
    gone s e (suc depth) = ap (option_map (step_over h step (fold_at h step depth))) e

    interfaces_alike : (f g : Name → Option Made) (xs : List Name) →
        ((s : Name) → In s xs → f s ≡ g s) → filter_map f xs ≡ filter_map g xs
    interfaces_alike f g [] same = refl
    interfaces_alike f g (x ∷ xs) same =
        λ i. cons_option (same x first i) (interfaces_alike f g xs (λ s at. same s (later at)) i)

    superclass_alike : (f g : Name → Option Made) (o : Option Name) →
        ((s : Name) → In s (option_to_list o) → f s ≡ g s) →
        option_and_then f o ≡ option_and_then g o
    superclass_alike f g None same = refl
    superclass_alike f g (Some s) same = same s first

    -- a step sees of what is above the supertypes alone
    pub over_alike : (f g : Name → Option Made) (c : Class) →
        ((s : Name) → In s (above c) → f s ≡ g s) → step_over h step f c ≡ step_over h step g c
    over_alike f g c same =
        let super : option_and_then f (h.superclass c) ≡ option_and_then g (h.superclass c) =
        superclass_alike f g (h.superclass c)
        (λ s at. same s
        (in_back s (h.superinterfaces c) (option_to_list (h.superclass c)) at)) in
        let interfaces : filter_map f (h.superinterfaces c) ≡ filter_map g (h.superinterfaces c) =
        interfaces_alike f g (h.superinterfaces c)
        (λ s at. same s
        (in_front s (h.superinterfaces c) (option_to_list (h.superclass c)) at)) in
        λ i. step c (super i) (interfaces i)

    module _ (same : Name → Name → Bool) (laws : IsEquivalence same)
        (means : (a b : Name) → same a b ≡ true → a ≡ b) (names : List Name)
        (listed : (a : Name) → IsThere h.look above a → is_member same names a ≡ true) where
      -- names that climb to a free one that is there aren't it
      fresh : (a : Name) (vs : List Name) → IsThere h.look above a → IsFree a →
          ((v : Name) → In v vs → Climbs v a) → list_any (same a) vs ≡ false
      fresh a vs there free climb =
          false_from_ne_true (list_any (same a) vs) (λ t. met (any_in (same a) vs t))
        where
          met : (v : Name) × In v vs × (same a v ≡ true) → ⊥
          met found =
              free a (a ∷ [], here there.1)
              (subst (λ v. Climbs v a) (sym (means a found.0 found.2)) (climb found.0 found.1))

      few : (vs : List Name) → IsDistinct same vs →
          ((v : Name) → In v vs → IsThere h.look above v) → length vs ≤ length names
      few vs distinct there =
          length-le_from_is_member laws vs names distinct (λ q t. by q (any_in (same q) vs t))
        where
          by : (q : Name) → (v : Name) × In v vs × (same q v ≡ true) → is_member same names q
              ≡ true
          by q found =
              listed q
              (subst (IsThere h.look above) (sym (means q found.0 found.2))
              (there found.0 found.1))

      longer : (a : Name) (vs : List Name) → list_any (same a) vs ≡ false → IsDistinct same vs →
          IsDistinct same (a ∷ vs)
      unfolding IsDistinct
      longer a vs none distinct = (all_fail (same a) vs none, distinct)

      abbrev Settles : ℕ → Type 0
      Settles depth =
          (a : Name) (vs : List Name) → IsFree a → IsDistinct same vs →
          ((v : Name) → In v vs → Climbs v a) → length names ≤ length vs + depth →
          fold_at h step (suc depth) a ≡ fold_at h step depth a

      all_there : (a : Name) (vs : List Name) → IsThere h.look above a →
          ((v : Name) → In v vs → Climbs v a) → (v : Name) → In v (a ∷ vs) → IsThere h.look above v
      all_there a vs there climb v first = there
      all_there a vs there climb v (later at) = let c = climb v at in (c.class, c.found)

      -- one class more than there are
      too_many : (a : Name) (vs : List Name) → IsThere h.look above a → IsFree a →
          IsDistinct same vs → ((v : Name) → In v vs → Climbs v a) → length names ≤ length vs → ⊥
      too_many a vs there free distinct climb many =
          let most : length (a ∷ vs) ≤ length names =
          few (a ∷ vs) (longer a vs (fresh a vs there free climb) distinct)
          (all_there a vs there climb) in
          absurd (omega arith)

      settles : (depth : ℕ) → Settles depth
      unfolding fold_at
      settles zero a vs free distinct climb many = by (h.look a) refl
        where
          by : (o : Option Class) → h.look a ≡ o →
              option_map (step_over h step (fold_at h step zero)) (h.look a) ≡ None
          by None e = ap (option_map (step_over h step (fold_at h step zero))) e
          by (Some c) e = absurd (too_many a vs (c, e) free distinct climb (omega arith))
      settles (suc depth) a vs free distinct climb many = by (settles depth) (h.look a) refl
        where
          climb_more : (c : Class) → h.look a ≡ Some c → (s : Name) → In s (above c) →
              IsThere h.look above s → (v : Name) → In v (a ∷ vs) → Climbs v s
          climb_more c e s up there v first =
              record { class = c; next = s; found = e; up = up; leads = (s ∷ [], here there.1) }
          climb_more c e s up there v (later at) = climbs_on v a s c e up there (climb v at)

          next : Settles depth → (c : Class) → h.look a ≡ Some c → (s : Name) → In s (above c) →
              (o : Option Class) → h.look s ≡ o →
              fold_at h step (suc depth) s ≡ fold_at h step depth s
          next more c e s up None none = gone s none (suc depth) ∙ sym (gone s none depth)
          next more c e s up (Some d) there =
              more s (a ∷ vs) (free_above a s c e up free)
              (longer a vs (fresh a vs (c, e) free climb) distinct)
              (climb_more c e s up (d, there)) (omega arith)

          by : Settles depth → (o : Option Class) → h.look a ≡ o →
              option_map (step_over h step (fold_at h step (suc depth))) (h.look a) ≡ option_map
              (step_over h step (fold_at h step depth)) (h.look a)
          by more None e =
              ap (option_map (step_over h step (fold_at h step (suc depth)))) e
              ∙ sym (ap (option_map (step_over h step (fold_at h step depth))) e)
          by more (Some c) e =
              ap (option_map (step_over h step (fold_at h step (suc depth)))) e
              ∙ ap Some
              (over_alike (fold_at h step (suc depth)) (fold_at h step depth) c
              (λ s up. next more c e s up (h.look s) refl))
              ∙ sym (ap (option_map (step_over h step (fold_at h step depth))) e)

      nothing_climbs : (a v : Name) → In v [] → Climbs v a
      nothing_climbs a v at = elim at [ ]

      steady : (a : Name) → IsFree a → (more : ℕ) →
          fold_at h step (length names + more) a ≡ fold_at h step (length names) a
      unfolding IsDistinct
      steady a free zero = ap (λ d. fold_at h step d a) (omega arith)
      steady a free (suc more) =
          ap (λ d. fold_at h step d a) (add-suc (length names) more)
          ∙ settles (length names + more) a [] free tt (nothing_climbs a) (omega arith)
          ∙ steady a free more

      pub settled : (a : Name) → IsFree a → (depth : ℕ) → length names ≤ depth →
          fold_at h step depth a ≡ fold_at h step (length names) a
      settled a free depth enough =
          let split : depth ≡ length names + (depth - length names) = omega arith in
          ap (λ d. fold_at h step d a) split ∙ steady a free (depth - length names)
