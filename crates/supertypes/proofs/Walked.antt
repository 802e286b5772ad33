-- A walk in which each class is entered once finds what the walk with repeats finds.
use Rattle.std.proofs.Common.{◌≡◌, ◌≢◌, refl, ap, sym, subst, ◌∙◌, ℕ, zero, suc, ◌+◌, ◌-◌, ◌≤◌}
use Rattle.std.proofs.Common.{◌<◌, ◌⊎◌, Bool, true, false, List, [], ◌∷◌, ◌++◌, length, drop}
use Rattle.std.proofs.Common.{get_or, set, arith, inl, inr, ⊎_elim, append_assoc, append-nil}
use Rattle.std.proofs.Common.{length-append, Some, None, cond}
use Rattle.std.specs.Prelude.{Contains}
use Rattle.std.specs.Option.{option_or}
use Rattle.std.specs.List.{find, flat_map}
use Rattle.std.proofs.lemmas.List.{get_or_default, get_or-set_same, get_or-set_other}
use Rattle.std.proofs.lemmas.List.{drop_more, drop_all, get_or_append_left, get_or_push}
use Rattle.std.proofs.lemmas.List.{length_push}
use Rattle.std.proofs.lemmas.List.Folds.{find-append}
use Rattle.std.proofs.lemmas.List.Elements.{Contains-append_left, Contains-append_right}
use Rattle.std.proofs.lemmas.List.Elements.{Contains-append_cases}
use Rattle.std.proofs.lemmas.Bool.{cases_eq, cases_lt}
use Rattle.reachability.specs.Reached.{targets}
use Rattle.supertypes.specs.Ways.{Reaches}
use Rattle.supertypes.specs.Walk.{IsWalk}
use Rattle.supertypes.specs.State.{IsMarked, IsClean}
use Rattle.supertypes.specs.Walking.{IsOld, AreOld, IsNextNew, no_step, ahead, IsPath, IsWalking}
use Rattle.supertypes.specs.Walking.{IsOnward}
use Rattle.supertypes.specs.declared.state.State.{State}
use Rattle.supertypes.specs.declared.state.Step.{Step}
use Rattle.supertypes.proofs.Marked.{only, itself, none, new_in_range}
use Rattle.supertypes.proofs.Ways.{reaches_on}

-- ---- lists

behind_none : (test : ℕ → Bool) (xs ys : List ℕ) → find test xs ≡ None →
    find test (xs ++ ys) ≡ find test ys
behind_none test xs ys e = find-append test xs ys ∙ ap (λ o. option_or o (find test ys)) e

pub is_first : (test : ℕ → Bool) (x : ℕ) (xs : List ℕ) → test x ≡ true →
    find test (x ∷ xs) ≡ Some x
is_first test x xs e = ap (λ b. cond b (Some x) (find test xs)) e

not_first : (test : ℕ → Bool) (x : ℕ) (xs : List ℕ) → test x ≡ false →
    find test (x ∷ xs) ≡ find test xs
not_first test x xs e = ap (λ b. cond b (Some x) (find test xs)) e

flat_none : (test : ℕ → Bool) (f : ℕ → List ℕ) (xs : List ℕ) →
    ((k : ℕ) → k < length xs → find test (f (get_or xs k 0)) ≡ None) →
    find test (flat_map f xs) ≡ None
flat_none test f [] all = refl
flat_none test f (x ∷ xs) all =
    behind_none test (f x) (flat_map f xs) (all 0 (omega arith))
    ∙ flat_none test f xs (λ k few. all (suc k) (omega (arith, few)))

longer : (f : ℕ → List ℕ) (xs : List ℕ) (k : ℕ) → k < length xs →
    length (f (get_or xs k 0)) ≤ length (flat_map f xs)
longer f [] k few = absurd (omega (arith, few))
longer f (x ∷ xs) zero few = let e = length-append (f x) (flat_map f xs) in omega (arith, e)
longer f (x ∷ xs) (suc k) few =
    let e = length-append (f x) (flat_map f xs) in
    let more = longer f xs k (omega (arith, few)) in
    omega (arith, e, more)

-- what was gone over has nothing that is sought
skipped : (test : ℕ → Bool) (f : ℕ → List ℕ) (xs rest : List ℕ) (count from at : ℕ) →
    from + count ≡ at → at < length xs →
    ((k : ℕ) → from ≤ k → k < at → find test (f (get_or xs k 0)) ≡ None) →
    find test (flat_map f (drop from xs) ++ rest) ≡ find test
    (f (get_or xs at 0) ++ (flat_map f (drop (at + 1) xs) ++ rest))
skipped test f xs rest zero from at e few all =
    let same : from ≡ at = omega (arith, e) in
    let here = drop_more xs at 0 few in
    ap (λ k. find test (flat_map f (drop k xs) ++ rest)) same
    ∙ ap (λ l. find test (flat_map f l ++ rest)) here
    ∙ ap (find test) (append_assoc (f (get_or xs at 0)) (flat_map f (drop (at + 1) xs)) rest)
skipped test f xs rest (suc count) from at e few all =
    let l : from < length xs = omega (arith, e, few) in
    let here = drop_more xs from 0 l in
    let gone = all from (omega arith) (omega (arith, e)) in
    let more = skipped test f xs rest count (from + 1) at (omega (arith, e)) few
    (λ k le lt. all k (omega (arith, le)) lt) in
    ap (λ l. find test (flat_map f l ++ rest)) here
    ∙ ap (find test) (append_assoc (f (get_or xs from 0)) (flat_map f (drop (from + 1) xs)) rest)
    ∙ behind_none test (f (get_or xs from 0)) (flat_map f (drop (from + 1) xs) ++ rest) gone
    ∙ more

ahead_more : (graph : List (List ℕ)) (walk : ℕ → List ℕ) (path : List Step) (step : Step) →
    ahead graph walk (path ++ step ∷ []) ≡ flat_map walk
    (drop step.next (targets graph step.class)) ++ ahead graph walk path
ahead_more graph walk [] step =
    sym (append-nil (flat_map walk (drop step.next (targets graph step.class))))
ahead_more graph walk (first ∷ path) step =
    ap (λ l. l ++ flat_map walk (drop first.next (targets graph first.class)))
    (ahead_more graph walk path step)
    ∙ append_assoc (flat_map walk (drop step.next (targets graph step.class)))
    (ahead graph walk path) (flat_map walk (drop first.next (targets graph first.class)))

in_front : (path : List Step) (last step : Step) → Contains path step →
    Contains (path ++ last ∷ []) step
in_front path last step here = Contains-append_left path (last ∷ []) step here

in_back : (path : List Step) (last : Step) → Contains (path ++ last ∷ []) last
in_back path last = Contains-append_right path (last ∷ []) last (itself last)

module _ (graph : List (List ℕ)) (start : ℕ) (walk : ℕ → List ℕ) (test : ℕ → Bool)
    (is_walk : IsWalk graph start walk) where
  -- ---- the last class on the path

  module _ (marks : List Bool) (front : List Step) (step : Step)
      (level : length marks ≡ length graph)
      (p : IsPath graph start walk test marks (front ++ step ∷ []) None) where
    abbrev row : List ℕ
    row = targets graph step.class

    walk_is : walk step.class ≡ step.class ∷ flat_map walk row
    walk_is = is_walk.steps step.class (p.reached step (in_back front step))
        (p.in_graph step (in_back front step))

    shorter_than : (k : ℕ) → k < length row →
        length (walk (get_or row k 0)) < length (walk step.class)
    shorter_than k few =
        let e = ap length walk_is in
        let le = longer walk row k few in
        omega (arith, e, le)

    in_path : (other : Step) → Contains (front ++ step ∷ []) other →
        length (walk step.class) ≤ length (walk other.class)
    in_path other here = ⊎_elim
        (λ (before : Contains front other).
        let few = before.1 in
        let size = length_push front step in
        let lt = p.falls before.0 (length front) few (omega (arith, size)) in
        let low : get_or (front ++ step ∷ []) before.0 no_step ≡ other =
        get_or_append_left front (step ∷ []) no_step before.0 few
        ∙ get_or_default front before.0 no_step other few ∙ before.2 in
        let high : get_or (front ++ step ∷ []) (length front) no_step ≡ step =
        get_or_push front step no_step (length front) refl in
        let a = ap (λ (s : Step). length (walk s.class)) low in
        let b = ap (λ (s : Step). length (walk s.class)) high in
        omega (arith, lt, a, b))
        (λ last. let e = ap (λ (s : Step). length (walk s.class)) (only step other last) in
        omega (arith, e))
        (Contains-append_cases front (step ∷ []) other here)

    -- a supertype that is old has nothing that is sought
    old_none : (k : ℕ) → k < length row → IsOld marks (get_or row k 0) →
        find test (walk (get_or row k 0)) ≡ None
    old_none k few old = ⊎_elim
        (λ (inside : get_or row k 0 < length graph). ⊎_elim
        (λ on.
        let lt = shorter_than k few in
        let le = in_path on.0 on.1 in
        let same = ap (λ c. length (walk c)) on.2 in
        absurd (omega (arith, lt, le, same)))
        (λ nothing. nothing)
        (p.done (get_or row k 0)
        (get_or_default marks (get_or row k 0) false true (omega (arith, inside, level))
        ∙ old)))
        (λ (past : length graph ≤ get_or row k 0). ap (find test)
        (is_walk.beyond (get_or row k 0) past))
        (cases_lt (get_or row k 0) (length graph))

    none_some : (x : ℕ) → None ≡ Some x → ⊥
    none_some x e = cc

    spent_old : (k : ℕ) → k < step.next → k < length row → IsOld marks (get_or row k 0)
    spent_old k before few =
        ⊎_elim (λ old. old) (λ coming. absurd (none_some (get_or row k 0) coming))
        (p.spent step k (in_back front step) before few)

    -- ---- all its supertypes are gone over

    module _ (old : AreOld marks row step.next (length row)) where
      nothing : find test (walk step.class) ≡ None
      nothing =
          ap (find test) walk_is ∙ not_first test step.class (flat_map walk row)
          (p.fails step (in_back front step))
          ∙ flat_none test walk row
          (λ k few. old_none k few
          (⊎_elim (λ (l : k < step.next). spent_old k l few)
          (λ (g : step.next ≤ k). old k g few) (cases_lt k step.next)))

      pub left_path : IsPath graph start walk test marks front None
      left_path = record {
        reached = λ s here. p.reached s (in_front front step s here);
        in_graph = λ s here. p.in_graph s (in_front front step s here);
        fails = λ s here. p.fails s (in_front front step s here);
        spent = λ s k here. p.spent s k (in_front front step s here);
        falls = λ lower upper lt few.
            let size = length_push front step in
            let low = get_or_append_left front (step ∷ []) no_step lower
            (omega (arith, lt, few)) in
            let high = get_or_append_left front (step ∷ []) no_step upper few in
            let a = ap (λ (s : Step). length (walk s.class)) low in
            let b = ap (λ (s : Step). length (walk s.class)) high in
            let all = p.falls lower upper lt (omega (arith, few, size)) in
            omega (arith, all, a, b);
        done = λ c marked. ⊎_elim
            (λ on. ⊎_elim
            (λ before. inl (on.0, before, on.2))
            (λ last. inr (ap (λ k. find test (walk k))
            (sym (ap (λ (s : Step). s.class) (only step on.0 last) ∙ on.2)) ∙ nothing))
            (Contains-append_cases front (step ∷ []) on.0 on.1))
            (λ none. inr none)
            (p.done c marked);
      }

      pub left_ahead : find test (ahead graph walk (front ++ step ∷ [])) ≡ find test
          (ahead graph walk front)
      left_ahead =
          ap (find test) (ahead_more graph walk front step)
          ∙ behind_none test (flat_map walk (drop step.next row)) (ahead graph walk front)
          (⊎_elim
          (λ (some : step.next < length row). dropped some)
          (λ (none : length row ≤ step.next). ap (λ l. find test (flat_map walk l))
          (drop_all step.next row none))
          (cases_lt step.next (length row)))
        where
          from_on : (count from : ℕ) → from + count ≡ length row → step.next ≤ from →
              find test (flat_map walk (drop from row)) ≡ None
          from_on zero from e le =
              let over : length row ≤ from =
              omega (arith, e) in ap (λ l. find test (flat_map walk l))
              (drop_all from row over)
          from_on (suc count) from e le =
              let few : from < length row = omega (arith, e) in
              ap (λ l. find test (flat_map walk l)) (drop_more row from 0 few)
              ∙ behind_none test (walk (get_or row from 0)) (flat_map walk (drop (from + 1) row))
              (old_none from few (old from le few))
              ∙ from_on count (from + 1) (omega (arith, e)) (omega (arith, le))

          dropped : step.next < length row → find test (flat_map walk (drop step.next row)) ≡ None
          dropped some = from_on (length row - step.next) step.next (omega (arith, some))
              (omega arith)

    -- ---- one of its supertypes is new

    module _ (at : ℕ) (is_next : IsNextNew marks row step.next at) (later : State)
        (same_marks : later.marks.items ≡ marks)
        (path : later.path.items ≡ front ++ (record { class = step.class; next = at + 1 }) ∷ [])
        (left : find test (walk start) ≡ find test (ahead graph walk (front ++ step ∷ []))) where
      abbrev class : ℕ
      class = get_or row at 0

      abbrev after : Step
      after = record { class = step.class; next = at + 1 }

      -- each step was there, but for the next place of the last one
      was : (s : Step) → Contains (front ++ after ∷ []) s →
          (o : Step) × Contains (front ++ step ∷ []) o × (o.class ≡ s.class)
      was s here = ⊎_elim
          (λ before. (s, in_front front step s before, refl))
          (λ last. (step, in_back front step, ap (λ (x : Step). x.class) (only after s last)))
          (Contains-append_cases front (after ∷ []) s here)

      classes : (k : ℕ) (xs : List Step) → (get_or (xs ++ after ∷ []) k no_step).class
          ≡ (get_or (xs ++ step ∷ []) k no_step).class
      classes zero [] = refl
      classes (suc k) [] = refl
      classes zero (x ∷ xs) = refl
      classes (suc k) (x ∷ xs) = classes k xs

      old_later : (c : ℕ) → IsOld marks c → IsOld later.marks.items c
      old_later c o = ap (λ ms. get_or ms c true) same_marks ∙ o

      later_path : IsPath graph start walk test later.marks.items (front ++ after ∷ [])
          (Some class)
      later_path = record {
        reached = λ s here. let w = was s here in
            subst (Reaches graph start) w.2 (p.reached w.0 w.1);
        in_graph = λ s here. let w = was s here in subst (λ (c : ℕ). c < length graph) w.2
            (p.in_graph w.0 w.1);
        fails = λ s here. let w = was s here in
            subst (λ (c : ℕ). test c ≡ false) w.2 (p.fails w.0 w.1);
        spent = λ s k here before few. ⊎_elim
            (λ in_it. ⊎_elim (λ o. inl (old_later (get_or (targets graph s.class) k 0) o))
            (λ coming. absurd (none_some (get_or (targets graph s.class) k 0) coming))
            (p.spent s k (in_front front step s in_it) before few))
            (λ last.
            let e : after ≡ s = only after s last in
            subst (λ (x : Step). k < x.next → k < length (targets graph x.class) →
            IsOld later.marks.items (get_or (targets graph x.class) k 0)
            ⊎ (Some class ≡ Some (get_or (targets graph x.class) k 0))) e
            (λ lt small. ⊎_elim
            (λ (l : k < step.next). inl (old_later (get_or row k 0) (spent_old k l small)))
            (λ (g : step.next ≤ k). ⊎_elim
            (λ (l : k < at). inl (old_later (get_or row k 0) (is_next.old k g l)))
            (λ (h : at ≤ k). let same : at ≡ k = omega (arith, h, lt) in
            inr (ap (λ n. Some (get_or row n 0)) same))
            (cases_lt k at))
            (cases_lt k step.next))
            before few)
            (Contains-append_cases front (after ∷ []) s here);
        falls = λ lower upper lt few.
            let size = length_push front step in
            let size2 = length_push front after in
            let a = ap (λ c. length (walk c)) (classes lower front) in
            let b = ap (λ c. length (walk c)) (classes upper front) in
            let all = p.falls lower upper lt (omega (arith, few, size, size2)) in
            omega (arith, all, a, b);
        done = λ c marked. ⊎_elim
            (λ on. ⊎_elim
            (λ before. inl (on.0, in_front front after on.0 before, on.2))
            (λ last. inl (
              after,
              in_back front after,
              ap (λ (s : Step). s.class)
                  (only step on.0 last) ∙ on.2,
            ))
            (Contains-append_cases front (step ∷ []) on.0 on.1))
            (λ none. inr none)
            (p.done c (sym (ap (λ ms. get_or ms c false) same_marks) ∙ marked));
      }

      pub goes_on : IsOnward graph start walk test later class
      goes_on =
          let here = p.reached step (in_back front step) in
          let few = is_next.few in
          record {
            path =
                subst (λ (l : List Step). IsPath graph start walk test later.marks.items l
                (Some class)) (sym path) later_path;
            reached = reaches_on graph here.0 start step.class class here.1
                (at, few, get_or_default row at class 0 few);
            shorter = λ s inside.
                let w = was s (subst (λ (l : List Step). Contains l s) path inside) in
                let lt = shorter_than at few in
                let le = in_path w.0 w.1 in
                let e = ap (λ c. length (walk c)) w.2 in
                omega (arith, lt, le, e);
            left =
                left ∙ ap (find test) (ahead_more graph walk front step)
                ∙ skipped test walk row (ahead graph walk front) (at - step.next) step.next at
                (let le = is_next.behind in omega (arith, le)) few
                (λ k g l. old_none k (omega (arith, l, few)) (is_next.old k g l))
                ∙ ap (λ l. find test (walk class ++ l)) (sym (ahead_more graph walk front after))
                ∙ ap (λ l. find test (walk class ++ ahead graph walk l)) (sym path);
          }

  -- ---- a class is entered

  module _ (old : State) (class : ℕ) (on : IsOnward graph start walk test old class)
      (fresh : get_or old.marks.items class true ≡ false)
      (level : length old.marks.items ≡ length graph) where
    few_marks : class < length old.marks.items
    few_marks = new_in_range old.marks.items class fresh

    few_class : class < length graph
    few_class = omega (arith, few_marks, level)

    -- the class is what is sought
    pub found : test class ≡ true → find test (walk start) ≡ Some class
    found holds =
        on.left ∙ ap (λ l. find test (l ++ ahead graph walk old.path.items))
        (is_walk.steps class on.reached few_class)
        ∙ is_first test class (flat_map walk (targets graph class)
        ++ ahead graph walk old.path.items) holds

    module _ (new : State) (fails : test class ≡ false)
        (marks : new.marks.items ≡ set old.marks.items class true)
        (path : new.path.items ≡ old.path.items ++ (record { class = class; next = 0 }) ∷ []) where
      abbrev entry : Step
      entry = record { class = class; next = 0 }

      old_new : (c : ℕ) → IsOld old.marks.items c → IsOld new.marks.items c
      old_new c o = ap (λ ms. get_or ms c true) marks ∙ ⊎_elim
          (λ (e : c ≡ class). ap (λ k. get_or (set old.marks.items class true) k true) e
          ∙ get_or-set_same old.marks.items class true true few_marks)
          (λ (differs : c ≢ class). get_or-set_other old.marks.items class c true true differs ∙ o)
          (cases_eq c class)

      entered_old : IsOld new.marks.items class
      entered_old = ap (λ ms. get_or ms class true) marks ∙ get_or-set_same old.marks.items class
          true true few_marks

      some_same : (x y : ℕ) → Some x ≡ Some y → x ≡ y
      some_same x y e = cc

      entered_path : IsPath graph start walk test new.marks.items (old.path.items ++ entry ∷ [])
          None
      entered_path = record {
        reached = λ s here. ⊎_elim (λ before. on.path.reached s before)
            (λ last. subst (λ (x : Step). Reaches graph start x.class) (only entry s last)
            on.reached) (Contains-append_cases old.path.items (entry ∷ []) s here);
        in_graph = λ s here. ⊎_elim (λ before. on.path.in_graph s before)
            (λ last. subst (λ (x : Step). x.class < length graph) (only entry s last) few_class)
            (Contains-append_cases old.path.items (entry ∷ []) s here);
        fails =
            λ s here. ⊎_elim (λ before. on.path.fails s before)
            (λ last. subst (λ (x : Step). test x.class ≡ false) (only entry s last) fails)
            (Contains-append_cases old.path.items (entry ∷ []) s here);
        spent = λ s k here before few. ⊎_elim
            (λ in_it. inl (⊎_elim
            (λ o. old_new (get_or (targets graph s.class) k 0) o)
            (λ coming. subst (IsOld new.marks.items)
            (some_same class (get_or (targets graph s.class) k 0) coming) entered_old)
            (on.path.spent s k in_it before few)))
            (λ last. let e = ap (λ (x : Step). x.next) (only entry s last) in
            absurd (omega (arith, e, before)))
            (Contains-append_cases old.path.items (entry ∷ []) s here);
        falls = λ lower upper lt few.
            let size = length_push old.path.items entry in
            let low_few : lower < length old.path.items = omega (arith, lt, few, size) in
            let low = get_or_append_left old.path.items (entry ∷ []) no_step lower low_few in
            let a = ap (λ (s : Step). length (walk s.class)) low in
            ⊎_elim
            (λ (l : upper < length old.path.items).
            let high = get_or_append_left old.path.items (entry ∷ []) no_step upper l in
            let b = ap (λ (s : Step). length (walk s.class)) high in
            let all = on.path.falls lower upper lt l in
            omega (arith, all, a, b))
            (λ (g : length old.path.items ≤ upper).
            let e : length old.path.items ≡ upper = omega (arith, g, few, size) in
            let high = get_or_push old.path.items entry no_step upper e in
            let b = ap (λ (s : Step). length (walk s.class)) high in
            let all = on.shorter (get_or old.path.items lower no_step) (
              lower,
              low_few,
              get_or_default old.path.items lower
                  (get_or old.path.items lower no_step) no_step low_few,
            ) in
            omega (arith, all, a, b))
            (cases_lt upper (length old.path.items));
        done = λ c marked. ⊎_elim
            (λ (e : c ≡ class). inl (entry, in_back old.path.items entry, sym e))
            (λ (differs : c ≢ class). ⊎_elim
            (λ was. inl (was.0, in_front old.path.items entry was.0 was.1, was.2))
            (λ none. inr none)
            (on.path.done c (sym (get_or-set_other old.marks.items class c true false differs)
            ∙ sym (ap (λ ms. get_or ms c false) marks) ∙ marked)))
            (cases_eq c class);
      }

      pub entered : IsWalking graph start walk test new
      entered = record {
        path = subst (λ (l : List Step). IsPath graph start walk test new.marks.items l None)
            (sym path) entered_path;
        left =
            on.left
            ∙ ap (λ l. find test (l ++ ahead graph walk old.path.items))
            (is_walk.steps class on.reached few_class)
            ∙ not_first test class (flat_map walk (targets graph class)
            ++ ahead graph walk old.path.items) fails
            ∙ ap (find test) (sym (ahead_more graph walk old.path.items entry))
            ∙ ap (λ l. find test (ahead graph walk l)) (sym path);
      }

  -- ---- the walk begins

  pub begins : (state : State) → ((c : ℕ) → IsMarked state c → ⊥) → state.path.items ≡ [] →
      IsOnward graph start walk test state start
  begins state unmarked path = record {
    path = subst (λ (l : List Step). IsPath graph start walk test state.marks.items l (Some start))
        (sym path) (record {
          reached = λ s here. absurd (none s here);
          in_graph = λ s here. absurd (none s here);
          fails = λ s here. absurd (none s here);
          spent = λ s k here. absurd (none s here);
          falls = λ lower upper lt few. absurd (omega (arith, few));
          done = λ c marked. absurd (unmarked c marked);
        });
    reached = (0, refl);
    shorter = λ s here. absurd (none s (subst (λ (l : List Step). Contains l s) path here));
    left = ap (find test) (sym (append-nil (walk start)))
        ∙ ap (λ l. find test (walk start ++ ahead graph walk l)) (sym path);
  }

  -- no class is there
  pub nowhere : length graph ≤ start → find test (walk start) ≡ None
  nowhere past = ap (find test) (is_walk.beyond start past)

-- in a clean state only numbers beyond the graph are old
pub old_past : (state : State) (n : ℕ) → ((c : ℕ) → IsMarked state c → ⊥) →
    get_or state.marks.items n true ≡ true → length state.marks.items ≤ n
old_past state n unmarked old = ⊎_elim
    (λ (few : n < length state.marks.items).
    absurd (unmarked n (get_or_default state.marks.items n false true few ∙ old)))
    (λ (past : length state.marks.items ≤ n). past)
    (cases_lt n (length state.marks.items))

pub clean_unmarked : (state : State) → IsClean state → (c : ℕ) → IsMarked state c → ⊥
clean_unmarked state clean c marked =
    none c (subst (λ (l : List ℕ). Contains l c) clean.found (clean.rested.steady.marked c marked))
