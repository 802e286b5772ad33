-- Last places of names, and who is in a list that is made of others.
use Rattle.std.proofs.Common.{◌≡◌, ℕ, suc, ◌+◌, ◌-◌, ◌<◌, ◌≤◌, arith, Bool, true, false, ◌||◌}
use Rattle.std.proofs.Common.{List, [], ◌∷◌, ◌++◌, length, get_or, refl, ap, ◌∙◌, sym, ◌⊎◌, inl}
use Rattle.std.proofs.Common.{inr}
use Rattle.std.specs.Prelude.{Contains, Option, Some, None, option_to_list, is_some, if◌then◌else◌}
use Rattle.std.specs.Option.{option_or}
use Rattle.std.specs.List.{list_any, filter_map, flat_map, cons_option}
use Rattle.std.specs.Cmp.Lexicographic.{same_text}
use Rattle.std.proofs.lemmas.Cmp.{nat_list_eq_equiv}
use Rattle.std.proofs.lemmas.List.Elements.{Contains-append_left, Contains-append_right}
use Rattle.std.proofs.lemmas.List.Elements.{Contains-append_cases, Contains-push}
use Rattle.std.proofs.lemmas.List.Elements.{Contains-push_cases}
use Rattle.java_names.specs.Names.{is_text}
use Rattle.ijar_strip.specs.Places.{last_from, last_place}

-- ---- texts

pub same : (a b : List ℕ) → is_text a b ≡ true → a ≡ b
same a b is = same_text a b (sym is)

pub is_itself : (a : List ℕ) → is_text a a ≡ true
is_itself a = nat_list_eq_equiv.refl a

pub is_same : (a b : List ℕ) → a ≡ b → is_text a b ≡ true
is_same a b e = rw e (is_itself b)

-- ---- members of lists

pub no_member : {A : Type 0} (x : A) → Contains [] x → ⊥
no_member x has = omega (arith, has.1)

pub split : {A : Type 0} (y : A) (ys : List A) (x : A) → Contains (y ∷ ys) x →
    (y ≡ x) ⊎ Contains ys x
split y ys x has = elim (Contains-append_cases (y ∷ []) ys x has) [
  | inl first ↦ elim (Contains-push_cases [] y x first)
      [ inl none ↦ absurd (no_member x none) | inr is ↦ inl is ]
  | inr later ↦ inr later
]

pub first_member : {A : Type 0} (x : A) (xs : List A) → Contains (x ∷ xs) x
first_member x xs = Contains-append_left (x ∷ []) xs x (Contains-push [] x)

pub later_member : {A : Type 0} (y : A) (xs : List A) (x : A) → Contains xs x → Contains (y ∷ xs) x
later_member y xs x has = Contains-append_right (y ∷ []) xs x has

pub is_held : (o : Option ℕ) (m : ℕ) → Contains (option_to_list o) m → o ≡ Some m
is_held None m has = absurd (no_member m has)
is_held (Some n) m has = elim (split n [] m has)
    [ inl is ↦ ap Some is | inr none ↦ absurd (no_member m none) ]

pub held : (o : Option ℕ) (m : ℕ) → o ≡ Some m → Contains (option_to_list o) m
held o m is = rw is (first_member m [])

module _ {A : Type 0} (give : A → Option ℕ) where
  pub record Given (xs : List A) (m : ℕ) : Type 0 where
    pub item : A
    pub is_there : Contains xs item
    pub gives : give item ≡ Some m

  pub who_gives : (xs : List A) (m : ℕ) → Contains (filter_map give xs) m → Given xs m
  who_gives [] m has = absurd (no_member m has)
  who_gives (x ∷ xs) m has = by (who_gives xs m) (give x) refl has
    where
      rest : Given xs m → Given (x ∷ xs) m
      rest found = record {
        item = found.item;
        is_there =
            later_member x xs found.item found.is_there;
        gives = found.gives;
      }

      by : (Contains (filter_map give xs) m → Given xs m) → (o : Option ℕ) → give x ≡ o →
          Contains (cons_option o (filter_map give xs)) m → Given (x ∷ xs) m
      by others None is has = rest (others has)
      by others (Some n) is has = elim (split n (filter_map give xs) m has) [
        | inl same ↦ record { item = x; is_there = first_member x xs; gives = is ∙ ap Some same }
        | inr later ↦ rest (others later)
      ]

  pub is_given : (xs : List A) (x : A) (m : ℕ) → Contains xs x → give x ≡ Some m →
      Contains (filter_map give xs) m
  is_given [] x m has is = absurd (no_member x has)
  is_given (y ∷ xs) x m has is = elim (split y xs x has) [
    | inl e ↦ here (give y) (ap give e ∙ is)
    | inr later ↦ past (give y) (is_given xs x m later is)
  ]
    where
      here : (o : Option ℕ) → o ≡ Some m → Contains (cons_option o (filter_map give xs)) m
      here o e = rw e (first_member m (filter_map give xs))

      past : (o : Option ℕ) → Contains (filter_map give xs) m →
          Contains (cons_option o (filter_map give xs)) m
      past None has = has
      past (Some n) has = later_member n (filter_map give xs) m has

module _ {A : Type 0} (give : A → List ℕ) where
  pub record Listed (xs : List A) (m : ℕ) : Type 0 where
    pub item : A
    pub is_there : Contains xs item
    pub lists : Contains (give item) m

  pub who_lists : (xs : List A) (m : ℕ) → Contains (flat_map give xs) m → Listed xs m
  who_lists [] m has = absurd (no_member m has)
  who_lists (x ∷ xs) m has = by (who_lists xs m)
      (Contains-append_cases (give x) (flat_map give xs) m has)
    where
      by : (Contains (flat_map give xs) m → Listed xs m) → Contains (give x) m
          ⊎ Contains (flat_map give xs) m → Listed (x ∷ xs) m
      by others (inl here) = record { item = x; is_there = first_member x xs; lists = here }
      by others (inr later) =
          let found = others later in
          record {
            item = found.item;
            is_there = later_member x xs found.item found.is_there;
            lists = found.lists;
          }

  pub is_listed_by : (xs : List A) (x : A) (m : ℕ) → Contains xs x → Contains (give x) m →
      Contains (flat_map give xs) m
  is_listed_by [] x m has lists = absurd (no_member x has)
  is_listed_by (y ∷ xs) x m has lists = elim (split y xs x has) [
    | inl e ↦ Contains-append_left (give y) (flat_map give xs) m (rw e lists)
    | inr later ↦ Contains-append_right (give y) (flat_map give xs) m
        (is_listed_by xs x m later lists)
  ]

-- ---- last places

record Found (names : List (List ℕ)) (start : ℕ) (name : List ℕ) (m : ℕ) : Type 0 where
  from : start ≤ m
  to : m < start + length names
  named : get_or names (m - start) [] ≡ name

found_from : (names : List (List ℕ)) (start : ℕ) (name : List ℕ) (m : ℕ) →
    last_from start names name ≡ Some m → Found names start name m
found_from [] start name m is = cc
found_from (first ∷ names) start name m is =
    by (last_from (start + 1) names name) (is_text name first) refl refl is
    (found_from names (start + 1) name m)
  where
    by : (o : Option ℕ) (b : Bool) → last_from (start + 1) names name ≡ o → is_text name first ≡ b
        → option_or o (if b then Some start else None) ≡ Some m
        → (last_from (start + 1) names name ≡ Some m → Found names (start + 1) name m)
        → Found (first ∷ names) start name m
    by (Some n) b later test is rest =
        let found = rest (later ∙ is) in
        let from : start + 1 ≤ m = found.from in
        let to : m < start + 1 + length names = found.to in
        let e : m - start ≡ suc (m - (start + 1)) = omega arith in
        record {
          from = omega arith;
          to = omega arith;
          named =
              ap (λ k. get_or (first ∷ names) k []) e ∙ found.named;
        }
    by None true later test is rest =
        let e : start ≡ m = cc in
        let z : m - start ≡ 0 = omega arith in
        record {
          from = omega arith;
          to = omega arith;
          named =
              ap (λ k. get_or (first ∷ names) k []) z ∙ sym (same name first test);
        }
    by None false later test is rest = cc

pub last_found : (names : List (List ℕ)) (name : List ℕ) (m : ℕ) → last_place names name
    ≡ Some m → (m < length names) × (get_or names m [] ≡ name)
unfolding last_place
last_found names name m is =
    let found = found_from names 0 name m is in
    let to : m < 0 + length names = found.to in
    let e : m ≡ m - 0 = omega arith in
    (omega arith, ap (λ k. get_or names k []) e ∙ found.named)

last_behind : (names : List (List ℕ)) (last : List ℕ) (start : ℕ) (name : List ℕ)
    → last_from start (names ++ last ∷ []) name
    ≡ (if is_text name last then Some (start + length names) else last_from start names name)
last_behind [] last start name = by (is_text name last)
  where
    by : (b : Bool) → option_or None (if b then Some start else None)
        ≡ (if b then Some (start + 0) else None)
    by true = ap Some (omega arith)
    by false = refl
last_behind (first ∷ names) last start name =
    by (is_text name last) (last_behind names last (start + 1) name)
  where
    by : (b : Bool) → last_from (start + 1) (names ++ last ∷ []) name
        ≡ (if b then Some (start + 1 + length names) else last_from (start + 1) names name)
        → option_or (last_from (start + 1) (names ++ last ∷ []) name)
        (if is_text name first then Some start else None)
        ≡ (if b then Some (start + length (first ∷ names))
        else option_or (last_from (start + 1) names name)
        (if is_text name first then Some start else None))
    by true is = ap (λ o. option_or o (if is_text name first then Some start else None)) is
        ∙ ap Some (omega arith)
    by false is = ap (λ o. option_or o (if is_text name first then Some start else None)) is

pub last_push : (names : List (List ℕ)) (last name : List ℕ)
    → last_place (names ++ last ∷ []) name
    ≡ (if is_text name last then Some (length names) else last_place names name)
unfolding last_place
last_push names last name =
    let e : 0 + length names ≡ length names = omega arith in
    last_behind names last 0 name ∙ ap
    (λ n. if is_text name last then Some n else last_from 0 names name) e

pub record IsThere (o : Option ℕ) : Type 0 where
  pub at : ℕ
  pub is : o ≡ Some at

there_from : (names : List (List ℕ)) (start : ℕ) (name : List ℕ) → list_any (is_text name) names
    ≡ true → IsThere (last_from start names name)
there_from [] start name any = cc
there_from (first ∷ names) start name any =
    by (last_from (start + 1) names name) (is_text name first) (there_from names (start + 1) name)
    any
  where
    by : (o : Option ℕ) (b : Bool) → (list_any (is_text name) names ≡ true → IsThere o) →
        (b || list_any (is_text name) names) ≡ true
        → IsThere (option_or o (if b then Some start else None))
    by (Some n) b rest any = record { at = n; is = refl }
    by None true rest any = record { at = start; is = refl }
    by None false rest any = let w : IsThere None = rest any in let e : None ≡ Some w.at =
        w.is in cc

pub last_there : (names : List (List ℕ)) (name : List ℕ) → list_any (is_text name) names ≡ true →
    IsThere (last_place names name)
unfolding last_place
last_there names name any = there_from names 0 name any

-- a name is listed just where it has a last place
pub last_listed : (names : List (List ℕ)) (name : List ℕ) → list_any (is_text name) names
    ≡ is_some (last_place names name)
unfolding last_place
last_listed names name = listed names 0
  where
    listed : (names : List (List ℕ)) (start : ℕ) → list_any (is_text name) names
        ≡ is_some (last_from start names name)
    listed [] start = refl
    listed (first ∷ names) start = by (last_from (start + 1) names name) (is_text name first)
        (listed names (start + 1))
      where
        by : (o : Option ℕ) (b : Bool) → list_any (is_text name) names ≡ is_some o →
            (b || list_any (is_text name) names)
            ≡ is_some (option_or o (if b then Some start else None))
        by (Some n) true is = refl
        by (Some n) false is = is
        by None true is = refl
        by None false is = is
