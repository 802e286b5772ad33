-- The walks of a world, as walks over numbers.
use Rattle.std.proofs.Common.{◌≡◌, refl, ap, sym, ◌∙◌, ℕ, zero, suc, ◌<◌, arith}
use Rattle.std.proofs.Common.{cond, List, [], ◌∷◌, ◌++◌, length, append-nil, Option}
use Rattle.std.proofs.Common.{Some, None}
use Rattle.std.specs.Prelude.{slice_get, option_and_then, option_map, option_to_list, unwrap_or}
use Rattle.std.specs.Prelude.{is_some, find}
use Rattle.std.specs.Option.{option_map_or, option_or}
use Rattle.std.specs.List.{filter_map, flat_map, cons_option}
use Rattle.std.proofs.lemmas.List.Elements.{filter_map-append}
use Rattle.std.proofs.lemmas.Bool.{lt-ltb}
use Rattle.reachability.specs.Reached.{targets}
use Rattle.supertypes.specs.Walk.{walk_at as numbers_at, walk as numbers}
use Rattle.class_views.specs.View.{View, MemberView}
use Rattle.class_views.specs.Supertypes.{step_over, fold_at}
use Rattle.class_views.specs.World.{World, class_of, hierarchy, walk_step, chain_step, walk_at}
use Rattle.class_views.specs.World.{chain_at, walk, chain, joined, supertypes}
use Rattle.class_views.specs.Resolution.{Declared, declared_by, first_declared}
use Rattle.client_view.specs.Numbers.{number_of, AreApart, IsGraphOf}
use Rattle.client_view.specs.Members.{declares, declared_at}
use Rattle.client_view.specs.Indexed.{superclasses}
use Rattle.client_view.proofs.Numbered.{number_there, class_by_number, number_within}

-- ---- walks one step deeper

flat : (f : List ℕ → Option (List View)) (names : List (List ℕ)) →
    joined (filter_map f names) ≡ flat_map (λ s. unwrap_or (f s) []) names
flat f [] = refl
flat f (s ∷ names) = by (f s) (flat f names)
  where
    by : (o : Option (List View)) →
        joined (filter_map f names) ≡ flat_map (λ s. unwrap_or (f s) []) names →
        joined (cons_option o (filter_map f names))
        ≡ unwrap_or o [] ++ flat_map (λ s. unwrap_or (f s) []) names
    by None rest = rest
    by (Some w) rest = ap (λ others. w ++ others) rest

sole_flat : (f : List ℕ → Option (List View)) (o : Option (List ℕ)) →
    unwrap_or (option_and_then f o) [] ≡ flat_map (λ s. unwrap_or (f s) []) (option_to_list o)
sole_flat f None = refl
sole_flat f (Some s) = sym (append-nil (unwrap_or (f s) []))

flat_append : (f : List ℕ → List View) (xs ys : List (List ℕ)) →
    flat_map f xs ++ flat_map f ys ≡ flat_map f (xs ++ ys)
flat_append f [] ys = refl
flat_append f (x ∷ xs) ys =
    grouped (f x) (flat_map f xs) (flat_map f ys) ∙ ap (λ more. f x ++ more) (flat_append f xs ys)
  where
    grouped : (a b c : List View) → (a ++ b) ++ c ≡ a ++ (b ++ c)
    grouped [] b c = refl
    grouped (v ∷ a) b c = ap (λ more. v ∷ more) (grouped a b c)

-- one step of walks along some names, from the walks one step less deep
abbrev stepped : World → (View → List (List ℕ)) → (List ℕ → List View) → List ℕ → List View
stepped world named at name =
    option_map_or (λ c. c ∷ flat_map at (named c)) (class_of world name) []

walk_stepped : (world : World) (depth : ℕ) (name : List ℕ) →
    walk_at world (suc depth) name ≡ stepped world supertypes (walk_at world depth) name
unfolding fold_at
walk_stepped world depth name = by (class_of world name)
  where
    f : List ℕ → Option (List View)
    f s = fold_at (hierarchy world) walk_step depth s

    by : (o : Option View) →
        unwrap_or (option_map (step_over (hierarchy world) walk_step
        (fold_at (hierarchy world) walk_step depth)) o) []
        ≡ option_map_or (λ c. c ∷ flat_map (walk_at world depth) (supertypes c)) o []
    by None = refl
    by (Some c) =
        (λ i. c ∷ (flat (fold_at (hierarchy world) walk_step depth) c.interfaces i
        ++ sole_flat (fold_at (hierarchy world) walk_step depth) c.super_name i))
        ∙ ap (λ more. c ∷ more)
        (flat_append (walk_at world depth) c.interfaces (option_to_list c.super_name))

chain_stepped : (world : World) (depth : ℕ) (name : List ℕ) →
    chain_at world (suc depth) name ≡ stepped world superclasses (chain_at world depth) name
unfolding fold_at
chain_stepped world depth name = by (class_of world name)
  where
    by : (o : Option View) →
        unwrap_or (option_map (step_over (hierarchy world) chain_step
        (fold_at (hierarchy world) chain_step depth)) o) []
        ≡ option_map_or (λ c. c ∷ flat_map (chain_at world depth) (superclasses c)) o []
    by None = refl
    by (Some c) =
        ap (λ more. c ∷ more) (sole_flat (fold_at (hierarchy world) chain_step depth) c.super_name)

walk_nothing : (world : World) (name : List ℕ) → walk_at world zero name ≡ []
unfolding fold_at
walk_nothing world name = refl

chain_nothing : (world : World) (name : List ℕ) → chain_at world zero name ≡ []
unfolding fold_at
chain_nothing world name = refl

-- no class, no chain
pub chain_gone : (world : World) (depth : ℕ) (name : List ℕ) → class_of world name ≡ None →
    chain_at world depth name ≡ []
chain_gone world zero name e = chain_nothing world name
chain_gone world (suc depth) name e =
    chain_stepped world depth name
    ∙ ap (λ o. option_map_or (λ c. c ∷ flat_map (chain_at world depth) (superclasses c)) o []) e

-- ---- as numbers

-- the classes of some numbers
abbrev pub lifted : World → List ℕ → List View
lifted world numbers = filter_map (slice_get world) numbers

abbrev over : (ℕ → List ℕ) → Option ℕ → List ℕ
over f None = []
over f (Some n) = f n

module _ (world : World) (apart : AreApart world) (named : View → List (List ℕ))
    (graph : List (List ℕ)) (is : IsGraphOf world named graph)
    (at : ℕ → List ℕ → List View) (nothing : (name : List ℕ) → at zero name ≡ [])
    (deeper : (depth : ℕ) (name : List ℕ) →
    at (suc depth) name ≡ stepped world named (at depth) name) where
  none_lifted : (o : Option ℕ) → lifted world (over (numbers_at graph zero) o) ≡ []
  none_lifted None = refl
  none_lifted (Some n) = refl

  names_lifted : (depth : ℕ) →
      ((s : List ℕ) →
      at depth s ≡ lifted world (over (numbers_at graph depth) (number_of world s))) →
      (names : List (List ℕ)) → flat_map (at depth) names ≡ lifted world
      (flat_map (numbers_at graph depth) (filter_map (number_of world) names))
  names_lifted depth more [] = refl
  names_lifted depth more (s ∷ names) =
      by (number_of world s) (more s) (names_lifted depth more names)
    where
      by : (o : Option ℕ) → at depth s ≡ lifted world (over (numbers_at graph depth) o) →
          flat_map (at depth) names ≡ lifted world
          (flat_map (numbers_at graph depth) (filter_map (number_of world) names)) →
          at depth s ++ flat_map (at depth) names ≡ lifted world
          (flat_map (numbers_at graph depth)
          (cons_option o (filter_map (number_of world) names)))
      by None e rest = λ i. e i ++ rest i
      by (Some n) e rest =
          (λ i. e i ++ rest i)
          ∙ sym (filter_map-append (slice_get world) (numbers_at graph depth n)
          (flat_map (numbers_at graph depth) (filter_map (number_of world) names)))

  pub at_lifted : (depth : ℕ) (name : List ℕ) →
      at depth name ≡ lifted world (over (numbers_at graph depth) (number_of world name))
  at_lifted zero name = nothing name ∙ sym (none_lifted (number_of world name))
  at_lifted (suc depth) name =
      deeper depth name
      ∙ ap (λ o. option_map_or (λ c. c ∷ flat_map (at depth) (named c)) o [])
      (class_by_number world name)
      ∙ by (number_of world name) refl (at_lifted depth)
    where
      step : View → List View
      step c = c ∷ flat_map (at depth) (named c)

      by : (o : Option ℕ) → number_of world name ≡ o →
          ((s : List ℕ) →
          at depth s ≡ lifted world (over (numbers_at graph depth) (number_of world s))) →
          option_map_or (λ c. c ∷ flat_map (at depth) (named c))
          (option_and_then (slice_get world) o) []
          ≡ lifted world (over (numbers_at graph (suc depth)) o)
      by None e more = refl
      by (Some n) e more =
          let found = number_there world name n e in
          let few = number_within world name n e in
          let level = is.level in
          let small : n < length graph = omega (arith, few, level) in
          ap (λ o. option_map_or (λ c. c ∷ flat_map (at depth) (named c)) o []) found.there
          ∙ ap (λ rest. found.class ∷ rest)
          (names_lifted depth more (named found.class)
          ∙ ap (λ row. lifted world (flat_map (numbers_at graph depth) row))
          (sym (is.rows n found.class found.there)))
          ∙ ap (λ o. cons_option o
          (lifted world (flat_map (numbers_at graph depth) (targets graph n))))
          (sym found.there)
          ∙ ap (λ b. lifted world
          (cond b (n ∷ flat_map (numbers_at graph depth) (targets graph n)) []))
          (sym (lt-ltb n (length graph) small))

pub walk_lifted : (world : World) (apart : AreApart world) (graph : List (List ℕ)) →
    IsGraphOf world supertypes graph → (name : List ℕ) (n : ℕ) → number_of world name ≡ Some n →
    walk world name ≡ lifted world (numbers graph n)
walk_lifted world apart graph is name n e =
    at_lifted world apart supertypes graph is (walk_at world) (walk_nothing world)
    (walk_stepped world) (length world) name
    ∙ ap (λ o. lifted world (over (numbers_at graph (length world)) o)) e
    ∙ ap (λ depth. lifted world (numbers_at graph depth n)) (sym is.level)

pub chain_lifted : (world : World) (apart : AreApart world) (graph : List (List ℕ)) →
    IsGraphOf world superclasses graph → (name : List ℕ) (n : ℕ) →
    number_of world name ≡ Some n → chain world name ≡ lifted world (numbers graph n)
chain_lifted world apart graph is name n e =
    at_lifted world apart superclasses graph is (chain_at world) (chain_nothing world)
    (chain_stepped world) (length world) name
    ∙ ap (λ o. lifted world (over (numbers_at graph (length world)) o)) e
    ∙ ap (λ depth. lifted world (numbers_at graph depth n)) (sym is.level)

-- ---- the first class of a walk that declares what is sought

pub first_lifted : (world : World) (choice : View → Option MemberView) (numbers : List ℕ) →
    first_declared choice (lifted world numbers) ≡ option_and_then (declared_at world choice)
    (find (declares world choice) numbers)
first_lifted world choice [] = refl
first_lifted world choice (n ∷ numbers) =
    by (slice_get world n) refl (first_lifted world choice numbers)
  where
    rest : Option Declared
    rest =
        option_and_then (declared_at world choice) (find (declares world choice) numbers)

    in_class : (c : View) (o : Option MemberView) → choice c ≡ o → slice_get world n ≡ Some c →
        first_declared choice (lifted world numbers) ≡ rest →
        option_or (option_map (λ m. record { declarer = c; member = m }) (choice c))
        (first_declared choice (lifted world numbers))
        ≡ option_and_then (declared_at world choice)
        (cond (is_some (choice c)) (Some n) (find (declares world choice) numbers))
    in_class c None e at more =
        ap (λ o. option_or (option_map (λ m. record { declarer = c; member = m }) o)
        (first_declared choice (lifted world numbers))) e
        ∙ more
        ∙ ap (λ o. option_and_then (declared_at world choice)
        (cond (is_some o) (Some n) (find (declares world choice) numbers))) (sym e)
    in_class c (Some m) e at more =
        ap (λ o. option_or (option_map (λ m. record { declarer = c; member = m }) o)
        (first_declared choice (lifted world numbers))) e
        ∙ sym (ap (option_and_then (declared_by choice)) at
        ∙ ap (option_map (λ m. record { declarer = c; member = m })) e)
        ∙ ap (λ o. option_and_then (declared_at world choice)
        (cond (is_some o) (Some n) (find (declares world choice) numbers))) (sym e)

    by : (o : Option View) → slice_get world n ≡ o →
        first_declared choice (lifted world numbers) ≡ rest →
        first_declared choice (cons_option o (lifted world numbers))
        ≡ option_and_then (declared_at world choice)
        (cond (is_some (option_and_then choice o)) (Some n)
        (find (declares world choice) numbers))
    by None e more = more
    by (Some c) e more = in_class c (choice c) refl e more
