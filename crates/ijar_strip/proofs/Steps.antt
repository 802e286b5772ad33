-- Steps of the loops that make the graph.
use Rattle.std.proofs.Common.{◌≡◌, ℕ, ◌+◌, ◌<◌, arith, cond, List, [], ◌∷◌, ◌++◌, length, map}
use Rattle.std.proofs.Common.{take, get_or, refl, ap, ◌∙◌, sym, inl, inr}
use Rattle.std.specs.Prelude.{Option, Some, None, option_to_list}
use Rattle.std.specs.List.{flat_map, cons_option}
use Rattle.std.proofs.lemmas.Bool.{cases_lt}
use Rattle.std.proofs.lemmas.Cmp.{nat_list_eq_equiv}
use Rattle.std.proofs.lemmas.List.{append-nil, append_assoc, map-append, length_push}
use Rattle.std.proofs.lemmas.List.{get_or_append_left, get_or_push, take_more, take-map, map_more}
use Rattle.std.proofs.lemmas.List.{get_or-map, length-map}
use Rattle.std.proofs.lemmas.List.Elements.{filter_map-append}
use Rattle.std.proofs.lemmas.List.Concat.{flat_map-append}
use Rattle.java_names.specs.Names.{is_text}
use Rattle.ijar_strip.specs.declared.links.Link.{Link}
use Rattle.ijar_strip.specs.Places.{last_place}
use Rattle.ijar_strip.specs.Links.{Linked, link_seen, names_of, places_of, begun_places}
use Rattle.ijar_strip.specs.Links.{before_of, row_of, AreValues}
use Rattle.ijar_strip.proofs.Lookups.{last_push}

-- one more name in the map
pub index_push : (names : List (List ℕ)) (last name : List ℕ) (new old : Option ℕ)
    → new ≡ cond (is_text last name) (Some (length names)) old → old ≡ last_place names name
    → new ≡ last_place (names ++ last ∷ []) name
index_push names last name new old is before =
    let turned : is_text last name ≡ is_text name last = nat_list_eq_equiv.symm last name in
    is ∙ (ap (λ b. cond b (Some (length names)) old) turned
    ∙ (ap (λ o. cond (is_text name last) (Some (length names)) o) before
    ∙ sym (last_push names last name)))

pub places_more : (names leads : List (List ℕ)) (i : ℕ) (d : List ℕ) → i < length leads
    → places_of names (take (i + 1) leads) ≡ places_of names (take i leads)
    ++ option_to_list (last_place names (get_or leads i d))
places_more names leads i d inside =
    ap (places_of names) (take_more leads i d inside)
    ∙ (filter_map-append (last_place names) (take i leads) (get_or leads i d ∷ [])
    ∙ ap (λ list. places_of names (take i leads) ++ list)
    (one (last_place names (get_or leads i d))))
  where
    one : (o : Option ℕ) → cons_option o [] ≡ option_to_list o
    one None = refl
    one (Some n) = refl

pub places_step : (names leads : List (List ℕ)) (i : ℕ) (d : List ℕ) (before : List ℕ) →
    i < length leads
    → (before ++ places_of names (take i leads))
    ++ option_to_list (last_place names (get_or leads i d)) ≡ before
    ++ places_of names (take (i + 1) leads)
places_step names leads i d before inside =
    append_assoc before (places_of names (take i leads))
    (option_to_list (last_place names (get_or leads i d)))
    ∙ ap (λ list. before ++ list) (sym (places_more names leads i d inside))

module _ {A : Type 0} (value : ℕ → A) (d : A) where
  pub values_none : AreValues value d 0 []
  values_none = record { long = refl; each = λ n inside. absurd (omega arith) }

  pub values_push : (count : ℕ) (xs : List A) (x : A) → AreValues value d count xs →
      x ≡ value count → AreValues value d (count + 1) (xs ++ x ∷ [])
  values_push count xs x before is = record {
    long = let level : length xs ≡ count = before.long in length_push xs x ∙ ap (λ n. n + 1) level;
    each = λ n inside. elim (cases_lt n count) [
      | inl below ↦ (
          let level : length xs ≡ count = before.long in
          get_or_append_left xs (x ∷ []) d n (omega arith) ∙ before.each n below
          )
      | inr above ↦ (
          let e : n ≡ count = omega arith in
          ap (λ k. get_or (xs ++ x ∷ []) k d) e
          ∙ (get_or_push xs x d count before.long ∙ (is ∙ ap value (sym e)))
          )
    ];
  }

module _ (links : List Link) where
  pub names_more : (i : ℕ) (x : Link) → i < length links → x ≡ get_or links i x
      → names_of (map link_seen (take i links)) ++ x.name.now ∷ []
      ≡ names_of (map link_seen (take (i + 1) links))
  names_more i d inside is =
      let e = map_more link_seen links i d inside in
      ap (λ (x : Link). names_of (map link_seen (take i links)) ++ x.name.now ∷ []) is
      ∙ sym (ap names_of e ∙ map-append (λ (link : Linked). link.name)
      (map link_seen (take i links)) (link_seen (get_or links i d) ∷ []))

  pub before_is : (i : ℕ) (x : Link) → i < length links → x ≡ get_or links i x
      → last_place (names_of (map link_seen (take i links))) x.name.now
      ≡ before_of (map link_seen links) i
  unfolding before_of
  before_is i d inside is =
      let long : length (map link_seen links) ≡ length links = length-map links link_seen in
      let front : take i (names_of (map link_seen links))
      ≡ names_of (map link_seen (take i links)) =
      take-map (λ (link : Linked). link.name) i (map link_seen links)
      ∙ ap names_of (take-map link_seen i links) in
      let name : get_or (names_of (map link_seen links)) i [] ≡ (get_or links i d).name.now =
      get_or-map (λ (link : Linked). link.name) (map link_seen links) i (link_seen d) []
      (omega arith)
      ∙ ap (λ link. link.name) (get_or-map link_seen links i d (link_seen d) inside) in
      ap (λ (x : Link). last_place (names_of (map link_seen (take i links))) x.name.now) is
      ∙ ap (λ list. last_place list (get_or links i d).name.now) (sym front)
      ∙ ap (last_place (take i (names_of (map link_seen links)))) (sym name)

  pub row_is : (i : ℕ) (x : Link) (before : Option ℕ) → i < length links → x ≡ get_or links i x →
      before ≡ before_of (map link_seen links) i
      → option_to_list before ++ places_of (names_of (map link_seen links)) (link_seen x).leads
      ≡ row_of (map link_seen links) i
  unfolding row_of
  row_is i d before inside at is =
      let long : length (map link_seen links) ≡ length links = length-map links link_seen in
      let leads : get_or (map (λ (link : Linked). link.leads) (map link_seen links)) i []
      ≡ (link_seen (get_or links i d)).leads =
      get_or-map (λ (link : Linked). link.leads) (map link_seen links) i (link_seen d) []
      (omega arith)
      ∙ ap (λ link. link.leads) (get_or-map link_seen links i d (link_seen d) inside) in
      ap (λ (x : Link). option_to_list before
      ++ places_of (names_of (map link_seen links)) (link_seen x).leads) at
      ∙ ap (λ o. option_to_list o ++ places_of (names_of (map link_seen links))
      (link_seen (get_or links i d)).leads) is
      ∙ ap (λ list. option_to_list (before_of (map link_seen links) i)
      ++ places_of (names_of (map link_seen links)) list) (sym leads)

  pub begun_more : (names : List (List ℕ)) (i : ℕ) (x : Link) → i < length links →
      x ≡ get_or links i x
      → flat_map (begun_places names) (map link_seen (take i links))
      ++ begun_places names (link_seen x)
      ≡ flat_map (begun_places names) (map link_seen (take (i + 1) links))
  begun_more names i d inside is =
      let e = map_more link_seen links i d inside in
      ap (λ (x : Link). flat_map (begun_places names) (map link_seen (take i links))
      ++ begun_places names (link_seen x)) is
      ∙ sym (ap (flat_map (begun_places names)) e
      ∙ (flat_map-append (begun_places names) (map link_seen (take i links))
      (link_seen (get_or links i d) ∷ [])
      ∙ ap (λ list. flat_map (begun_places names) (map link_seen (take i links)) ++ list)
      (append-nil (begun_places names (link_seen (get_or links i d))))))
