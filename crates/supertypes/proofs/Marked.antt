-- What is marked is what was found.
use Rattle.std.proofs.Common.{◌≡◌, ◌≢◌, refl, ap, sym, subst, ◌∙◌, ℕ, zero, suc, ◌+◌, ◌≤◌, ◌<◌}
use Rattle.std.proofs.Common.{Bool, true, false, List, [], ◌∷◌, ◌++◌, length, take, get_or, set}
use Rattle.std.proofs.Common.{replicate, arith, ⊎_elim, append_assoc, append-nil}
use Rattle.std.proofs.Common.{length-append}
use Rattle.std.specs.Prelude.{Contains}
use Rattle.std.specs.Vec.{vec_capacity}
use Rattle.std.proofs.lemmas.List.{get_or_default, get_or-set_same, get_or-set_other}
use Rattle.std.proofs.lemmas.List.{length-set, take_more, length-replicate}
use Rattle.std.proofs.lemmas.List.Elements.{Contains-append_left, Contains-append_right}
use Rattle.std.proofs.lemmas.List.Elements.{Contains-append_cases}
use Rattle.std.proofs.lemmas.Bool.{cases_eq}
use Rattle.reachability.specs.Search.{unmarked}
use Rattle.supertypes.specs.declared.state.State.{State}
use Rattle.supertypes.specs.State.{IsMarked, IsSteady, IsClean, Grew}

-- ---- lists

pub only : {X : Type 0} (x y : X) → Contains (x ∷ []) y → x ≡ y
only x y (zero, few, is) = is
only x y (suc k, few, is) = absurd (omega (arith, few))

pub itself : {X : Type 0} (x : X) → Contains (x ∷ []) x
itself x = (0, omega arith, refl)

pub none : {X : Type 0} (y : X) → Contains [] y → ⊥
none y (k, few, is) = absurd (omega (arith, few))

pub in_range : (marks : List Bool) (n : ℕ) → get_or marks n false ≡ true → n < length marks
in_range [] n h = absurd cc
in_range (mark ∷ marks) zero h = omega arith
in_range (mark ∷ marks) (suc n) h = let more = in_range marks n h in omega (arith, more)

pub new_in_range : (marks : List Bool) (n : ℕ) → get_or marks n true ≡ false → n < length marks
new_in_range [] n h = absurd cc
new_in_range (mark ∷ marks) zero h = omega arith
new_in_range (mark ∷ marks) (suc n) h = let more = new_in_range marks n h in omega (arith, more)

-- one mark more leaves one class less
pub one_less : (marks : List Bool) (n : ℕ) → get_or marks n true ≡ false →
    unmarked (set marks n true) + 1 ≡ unmarked marks
one_less [] n h = absurd cc
one_less (true ∷ marks) zero h = absurd cc
one_less (false ∷ marks) zero h = omega arith
one_less (true ∷ marks) (suc n) h = one_less marks n h
one_less (false ∷ marks) (suc n) h = let less = one_less marks n h in omega (arith, less)

-- a class that is new leaves room for it
pub some_left : (marks : List Bool) (n : ℕ) → get_or marks n true ≡ false → 1 ≤ unmarked marks
some_left marks n h = let less = one_less marks n h in omega (arith, less)

pub none_marked : (marks : List Bool) → ((n : ℕ) → get_or marks n false ≡ true → ⊥) →
    unmarked marks ≡ length marks
none_marked [] differs = refl
none_marked (true ∷ marks) differs = absurd (differs 0 refl)
none_marked (false ∷ marks) differs =
    let more = none_marked marks (λ n h. differs (suc n) h) in omega (arith, more)

pub no_mark : (size n : ℕ) → get_or (replicate size false) n false ≡ true → ⊥
no_mark zero n h = absurd cc
no_mark (suc size) zero h = absurd cc
no_mark (suc size) (suc n) h = no_mark size n h

-- ---- nothing is found

pub clean_state : (state : State) → ((n : ℕ) → IsMarked state n → ⊥) → state.found.items ≡ [] →
    state.path.items ≡ [] → length state.marks.items ≤ vec_capacity state.found →
    length state.marks.items ≤ vec_capacity state.path → IsClean state
clean_state state differs found path found_room path_room =
    let all = none_marked state.marks.items differs in
    let empty : length state.found.items ≡ 0 = ap length found in
    let steady : IsSteady state = record {
      marked = λ n m. absurd (differs n m);
      listed = λ n here. absurd (none n (subst (λ (f : List ℕ). Contains f n) found here));
      counted = omega (arith, all, empty);
      found_room = found_room;
      path_room = path_room;
    } in
    record { rested = record { steady = steady; path = path }; found = found }

pub clean_anew : (state : State) (size : ℕ) → state.marks.items ≡ replicate size false →
    state.found.items ≡ [] → state.path.items ≡ [] → vec_capacity state.found ≡ size →
    vec_capacity state.path ≡ size → IsClean state
clean_anew state size marks found path found_room path_room =
    let long : length state.marks.items ≡ size = ap length marks ∙ length-replicate size false in
    clean_state state (λ n m. no_mark size n (sym (ap (λ ms. get_or ms n false) marks) ∙ m)) found
    path (omega (arith, long, found_room)) (omega (arith, long, path_room))

-- ---- one class more

module _ (old new : State) (n : ℕ) (steady : IsSteady old)
    (fresh : get_or old.marks.items n true ≡ false)
    (marks : new.marks.items ≡ set old.marks.items n true)
    (found : new.found.items ≡ old.found.items ++ n ∷ []) where
  few : n < length old.marks.items
  few = new_in_range old.marks.items n fresh

  level : length new.marks.items ≡ length old.marks.items
  level = ap length marks ∙ length-set old.marks.items n true

  now : IsMarked new n
  now = ap (λ ms. get_or ms n false) marks ∙ get_or-set_same old.marks.items n true false few

  other : (i : ℕ) → i ≢ n → get_or new.marks.items i false ≡ get_or old.marks.items i false
  other i differs = ap (λ ms. get_or ms i false) marks ∙ get_or-set_other old.marks.items n i true
      false differs

  pub steady_more : vec_capacity new.found ≡ vec_capacity old.found →
      vec_capacity new.path ≡ vec_capacity old.path → IsSteady new
  steady_more found_room path_room =
      let longer = length-append old.found.items (n ∷ []) in
      let long : length new.found.items ≡ length (old.found.items ++ n ∷ []) = ap length found in
      let less : unmarked new.marks.items + 1 ≡ unmarked old.marks.items =
      ap (λ ms. unmarked ms + 1) marks ∙ one_less old.marks.items n fresh in
      let before = steady.counted in
      let room = steady.found_room in
      let path = steady.path_room in
      record {
        marked = λ i m. subst (λ (f : List ℕ). Contains f i) (sym found) (⊎_elim
            (λ (e : i ≡ n). Contains-append_right old.found.items (n ∷ []) i
            (subst (Contains (n ∷ [])) (sym e) (itself n)))
            (λ (differs : i ≢ n). Contains-append_left old.found.items (n ∷ []) i
            (steady.marked i (sym (other i differs) ∙ m)))
            (cases_eq i n));
        listed = λ i here. ⊎_elim
            (λ (e : i ≡ n). subst (IsMarked new) (sym e) now)
            (λ (differs : i ≢ n). other i differs ∙ steady.listed i (⊎_elim
            (λ l. l)
            (λ r. absurd (differs (sym (only n i r))))
            (Contains-append_cases old.found.items (n ∷ []) i
            (subst (λ (f : List ℕ). Contains f i) found here))))
            (cases_eq i n);
        counted = omega (arith, longer, long, less, before, level);
        found_room = omega (arith, found_room, level, room);
        path_room = omega (arith, path_room, level, path);
      }

  pub grew_one : new.path.items ≡ old.path.items → Grew old new (n ∷ [])
  grew_one path = record {
    more = n ∷ [];
    found = found;
    level = level;
    path = path;
    sound = λ i here. here;
    each = λ i here small. subst (λ (f : List ℕ). Contains f i) (sym found)
        (Contains-append_right old.found.items (n ∷ []) i here);
  }

pub grew_none : (state : State) (n : ℕ) → IsSteady state → get_or state.marks.items n true ≡ true →
    Grew state state (n ∷ [])
grew_none state n steady old = record {
  more = [];
  found = sym (append-nil state.found.items);
  level = refl;
  path = refl;
  sound = λ i here. absurd (none i here);
  each =
      λ i here few. steady.marked i (get_or_default state.marks.items i false true few
      ∙ ap (λ k. get_or state.marks.items k true) (sym (only n i here)) ∙ old);
}

-- ---- several classes

pub grew_nothing : (state : State) → Grew state state []
grew_nothing state = record {
  more = [];
  found = sym (append-nil state.found.items);
  level = refl;
  path = refl;
  sound = λ i here. absurd (none i here);
  each = λ i here few. absurd (none i here);
}

pub grew_more : (a b c : State) (xs ys : List ℕ) → Grew a b xs → Grew b c ys → Grew a c (xs ++ ys)
grew_more a b c xs ys p q = record {
  more = p.more ++ q.more;
  found = q.found ∙ ap (λ (f : List ℕ). f ++ q.more) p.found
      ∙ append_assoc a.found.items p.more q.more;
  level = q.level ∙ p.level;
  path = q.path ∙ p.path;
  sound = λ i here. ⊎_elim
      (λ l. Contains-append_left xs ys i (p.sound i l))
      (λ r. Contains-append_right xs ys i (q.sound i r))
      (Contains-append_cases p.more q.more i here);
  each = λ i here few. ⊎_elim
      (λ l. subst (λ (f : List ℕ). Contains f i) (sym q.found)
      (Contains-append_left b.found.items q.more i (p.each i l few)))
      (λ r. q.each i r (let e = p.level in omega (arith, few, e)))
      (Contains-append_cases xs ys i here);
}

pub grew_next : (a b c : State) (numbers : List ℕ) (i d : ℕ) → i < length numbers →
    Grew a b (take i numbers) → Grew b c (get_or numbers i d ∷ []) →
    Grew a c (take (i + 1) numbers)
grew_next a b c numbers i d few p q =
    subst (Grew a c) (sym (take_more numbers i d few))
    (grew_more a b c (take i numbers) (get_or numbers i d ∷ []) p q)

-- ---- one class less

pub unmark : (marks : List Bool) (before after : List ℕ) (class : ℕ) → class < length marks →
    before ≡ after ++ class ∷ [] →
    ((n : ℕ) → get_or marks n false ≡ true → Contains before n) → (n : ℕ) →
    get_or (set marks class false) n false ≡ true → Contains after n
unmark marks before after class few is marked n m = ⊎_elim
    (λ (e : n ≡ class). absurd (false_is (sym (get_or-set_same marks class false false few)
    ∙ ap (λ k. get_or (set marks class false) k false) (sym e) ∙ m)))
    (λ (differs : n ≢ class). ⊎_elim
    (λ l. l)
    (λ r. absurd (differs (sym (only class n r))))
    (Contains-append_cases after (class ∷ []) n
    (subst (λ (f : List ℕ). Contains f n) is
    (marked n (sym (get_or-set_other marks class n false false differs) ∙ m)))))
    (cases_eq n class)
  where
    false_is : false ≡ true → ⊥
    false_is e = cc

pub last_in : (before after : List ℕ) (class : ℕ) → before ≡ after ++ class ∷ [] →
    Contains before class
last_in before after class is =
    subst (λ (f : List ℕ). Contains f class) (sym is)
    (Contains-append_right after (class ∷ []) class (itself class))

pub front_in : (before after : List ℕ) (class n : ℕ) → before ≡ after ++ class ∷ [] →
    Contains after n → Contains before n
front_in before after class n is here =
    subst (λ (f : List ℕ). Contains f n) (sym is) (Contains-append_left after (class ∷ []) n here)

empty : (xs : List ℕ) → length xs ≡ 0 → xs ≡ []
empty [] e = refl
empty (x ∷ xs) e = absurd (omega (arith, e))

pub cleaned : (state : State) (before : List ℕ) →
    ((n : ℕ) → IsMarked state n → Contains before n) → before ≡ state.found.items ++ [] →
    length state.found.items ≡ 0 →
    state.path.items ≡ [] → length state.marks.items ≤ vec_capacity state.found →
    length state.marks.items ≤ vec_capacity state.path → IsClean state
cleaned state before marked is short path found_room path_room =
    let gone = empty state.found.items short in
    let nothing : before ≡ [] = is ∙ append-nil state.found.items ∙ gone in
    clean_state state (λ n m. none n (subst (λ (f : List ℕ). Contains f n) nothing (marked n m)))
    gone path found_room path_room
