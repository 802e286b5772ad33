-- Classes of one name, met one by one.
use Rattle.std.proofs.Common.{◌≡◌, refl, ap, sym, ◌∙◌, ℕ, zero, suc, ◌<◌, ◌≤◌, arith, List}
use Rattle.std.proofs.Common.{[], ◌∷◌, ◌++◌, length, take, map, get_or, ◌+◌, ⊎_elim, Option, Some}
use Rattle.std.proofs.Common.{None}
use Rattle.std.specs.Prelude.{slice_get, option_map}
use Rattle.std.proofs.lemmas.Option.{slice_get_within, slice_get-map, slice_get_read}
use Rattle.std.specs.List.{filter_map}
use Rattle.std.proofs.lemmas.List.{length_push, length-take, length-map, take_more, get_or-map}
use Rattle.std.proofs.lemmas.List.{append_assoc, map-append}
use Rattle.std.proofs.lemmas.List.Elements.{filter_map-append}
use Rattle.std.proofs.lemmas.Bool.{cases_lt}
use Rattle.class_desc.specs.declared.class.ClassDesc.{ClassDesc}
use Rattle.class_views.specs.View.{View, view_of_desc}
use Rattle.class_views.specs.World.{World}
use Rattle.client_view.specs.Numbers.{views, number_of, AreApart, IsFirstRepeat}
use Rattle.client_view.proofs.Numbered.{number_there, number_least, number_none}

-- ---- lists

pub get_front : {A : Type 0} (xs ys : List A) (n : ℕ) → n < length xs →
    slice_get (xs ++ ys) n ≡ slice_get xs n
get_front [] ys n few = absurd (omega (arith, few))
get_front (x ∷ xs) ys zero few = refl
get_front (x ∷ xs) ys (suc n) few = get_front xs ys n (omega (arith, few))

pub get_last : {A : Type 0} (xs : List A) (x : A) (n : ℕ) → n ≡ length xs →
    slice_get (xs ++ x ∷ []) n ≡ Some x
get_last [] x zero e = refl
get_last [] x (suc n) e = absurd (omega (arith, e))
get_last (y ∷ xs) x zero e = absurd (omega (arith, e))
get_last (y ∷ xs) x (suc n) e = get_last xs x n (omega (arith, e))

pub get_taken : {A : Type 0} (xs : List A) (i n : ℕ) → n < i →
    slice_get (take i xs) n ≡ slice_get xs n
get_taken xs zero n few = absurd (omega (arith, few))
get_taken [] (suc i) n few = refl
get_taken (x ∷ xs) (suc i) zero few = refl
get_taken (x ∷ xs) (suc i) (suc n) few = get_taken xs i n (omega (arith, few))

-- ---- no class

pub none_apart : AreApart []
none_apart first second before have =
    let few = slice_get_within [] first have.one have.first_is in absurd (omega (arith, few))

-- ---- one class more

module _ (world : World) (apart : AreApart world) (c : View)
    (new : number_of world c.name ≡ None) where
  within : (n : ℕ) (d : View) → slice_get (world ++ c ∷ []) n ≡ Some d →
      n < length world + 1
  within n d at =
      let few = slice_get_within (world ++ c ∷ []) n d at in
      let long : length (world ++ c ∷ []) ≡ length world + 1 = length_push world c in
      omega (arith, few, long)

  pub push_apart : AreApart (world ++ c ∷ [])
  push_apart first second before have =
      let small = within second have.other have.second_is in
      let first_few : first < length world = omega (arith, before, small) in
      let first_is = sym (get_front world (c ∷ []) first first_few) ∙ have.first_is in
      ⊎_elim
      (λ (inside : second < length world). apart first second before (record {
        one = have.one;
        other = have.other;
        first_is = first_is;
        second_is = sym (get_front world (c ∷ []) second inside) ∙ have.second_is;
        same = have.same;
      }))
      (λ (last : length world ≤ second).
      let at_end : second ≡ length world = omega (arith, last, small) in
      let is_c : Some c ≡ Some have.other =
      sym (get_last world c second at_end) ∙ have.second_is in
      let other_is : c ≡ have.other = cc in
      number_none world c.name first have.one new first_is
      (have.same ∙ ap (λ (v : View). v.name) (sym other_is)))
      (cases_lt second (length world))

-- ---- the first repeat

module _ (world : World) (i : ℕ) (apart : AreApart (take i world)) (c : View)
    (at : slice_get world i ≡ Some c) (first : ℕ)
    (met : number_of (take i world) c.name ≡ Some first) where
  met_before : first < i
  met_before = ⊎_elim
      (λ (few : first < i). few)
      (λ (past : i ≤ first).
      let there = number_there (take i world) c.name first met in
      let few = slice_get_within (take i world) first there.class there.there in
      let long = length-take i world in absurd (omega (arith, few, long, past)))
      (cases_lt first i)

  pub first_repeat : IsFirstRepeat world first i
  first_repeat =
      let there = number_there (take i world) c.name first met in
      record {
        before = met_before;
        have = record {
          one = there.class;
          other = c;
          first_is = sym (get_taken world i first met_before) ∙ there.there;
          second_is = at;
          same = there.named;
        };
        second_least = λ one other less have. ⊎_elim
            (λ (inside : other < i). absurd (apart one other less (record {
              one = have.one;
              other = have.other;
              first_is = get_taken world i one (omega (arith, less, inside)) ∙ have.first_is;
              second_is = get_taken world i other inside ∙ have.second_is;
              same = have.same;
            })))
            (λ (past : i ≤ other). past)
            (cases_lt other i);
        first_least = λ one less have.
            let c_is : Some have.other ≡ Some c = sym have.second_is ∙ at in
            let other_is : have.other ≡ c = cc in
            number_least (take i world) c.name first one have.one met
            (get_taken world i one less ∙ have.first_is)
            (have.same ∙ ap (λ (v : View). v.name) other_is);
      }

-- ---- descriptions as they are met

pub view_at : (classes : List ClassDesc) (i : ℕ) (d : ClassDesc) → i < length classes →
    d ≡ get_or classes i d → slice_get (views classes) i ≡ Some (view_of_desc d)
view_at classes i d few is =
    slice_get-map view_of_desc classes i
    ∙ ap (option_map view_of_desc) (slice_get_read classes (length classes) i d refl few is)

pub take_view : (classes : List ClassDesc) (i : ℕ) (d : ClassDesc) → i < length classes →
    d ≡ get_or classes i d →
    take (i + 1) (views classes) ≡ take i (views classes) ++ view_of_desc d ∷ []
take_view classes i d few is =
    let long = length-map classes view_of_desc in
    take_more (views classes) i (view_of_desc d) (omega (arith, few, long))
    ∙ ap (λ v. take i (views classes) ++ v ∷ [])
    (get_or-map view_of_desc classes i d (view_of_desc d) few ∙ ap view_of_desc (sym is))

-- ---- rows as they are gathered

pub row_more : (give : List ℕ → Option ℕ) (names : List (List ℕ)) (i : ℕ) (name : List ℕ)
    (before row new : List ℕ) → i < length names → name ≡ get_or names i name →
    row ≡ before ++ filter_map give (take i names) →
    new ≡ row ++ filter_map give (name ∷ []) →
    new ≡ before ++ filter_map give (take (i + 1) names)
row_more give names i name before row new few is old made =
    made ∙ ap (λ l. l ++ filter_map give (name ∷ [])) old
    ∙ append_assoc before (filter_map give (take i names)) (filter_map give (name ∷ []))
    ∙ ap (λ l. before ++ l) (sym (ap (filter_map give) (take_more names i name few
    ∙ ap (λ x. take i names ++ x ∷ []) (sym is))
    ∙ filter_map-append give (take i names) (name ∷ [])))

pub rows_more : (row_of : ClassDesc → List ℕ) (classes : List ClassDesc) (i : ℕ) (d : ClassDesc)
    (rows new : List (List ℕ)) (row : List ℕ) → i < length classes → d ≡ get_or classes i d →
    rows ≡ map row_of (take i classes) → row ≡ row_of d → new ≡ rows ++ row ∷ [] →
    new ≡ map row_of (take (i + 1) classes)
rows_more row_of classes i d rows new row few is old own made =
    made ∙ (λ j. old j ++ own j ∷ [])
    ∙ sym (ap (map row_of) (take_more classes i d few
    ∙ ap (λ x. take i classes ++ x ∷ []) (sym is))
    ∙ map-append row_of (take i classes) (d ∷ []))
