-- Steps of loops over a list, and what a part of a list says of it.
use Rattle.std.proofs.Common.{◌≡◌, ℕ, ◌+◌, ◌<◌, Bool, true, false, cond, ◌||◌, List}
use Rattle.std.proofs.Common.{[], ◌∷◌, ◌++◌, length, map, take, drop, get_or, refl, ap, ◌∙◌, sym}
use Rattle.std.specs.Prelude.{filter, replicate, Option, Some, None, unwrap_or, if◌then◌else◌}
use Rattle.std.specs.Option.{option_or, option_map_or}
use Rattle.std.specs.List.{list_any, flat_map}
use Rattle.std.proofs.lemmas.List.{append-nil, append_assoc, take_more, take-append-drop}
use Rattle.std.proofs.lemmas.List.{map_push, get_or-map, length-map}
use Rattle.std.proofs.lemmas.List.Concat.{flat_map-append}
use Rattle.std.proofs.lemmas.List.Folds.{list_any-append, list_any_at}
use Rattle.class_desc.specs.declared.attribute.Attr.{Attr, out-Attr}
use Rattle.class_desc.specs.declared.attribute.InnerEntry.{InnerEntry}
use Rattle.class_desc.specs.declared.class.ClassDesc.{ClassDesc}
use Rattle.class_views.specs.View.{Layer, first_attribute, inner_in}
use Rattle.class_views.specs.Strip.{stays_entry}
use Rattle.class_views.specs.Kept.{is_local, is_kept}
use Rattle.ijar_strip.specs.Marks.{attribute_marks, entries_of}

module _ {X : Type 0} where
  front_more : (xs : List X) (i : ℕ) (x : X) → i < length xs → x ≡ get_or xs i x → take (i + 1) xs
      ≡ take i xs ++ x ∷ []
  front_more xs i x inside is = take_more xs i x inside ∙ ap (λ y. take i xs ++ y ∷ []) (sym is)

  pub take_step : (before xs : List X) (i : ℕ) (x : X) → i < length xs → x ≡ get_or xs i x →
      (before ++ take i xs) ++ x ∷ [] ≡ before ++ take (i + 1) xs
  take_step before xs i x inside is =
      append_assoc before (take i xs) (x ∷ [])
      ∙ ap (λ list. before ++ list) (sym (front_more xs i x inside is))

  pub map_step : {Y : Type 0} (f : X → Y) (xs : List X) (i : ℕ) (x : X) → i < length xs →
      x ≡ get_or xs i x → map f (take i xs) ++ f x ∷ [] ≡ map f (take (i + 1) xs)
  map_step f xs i x inside is = sym
      (ap (map f) (front_more xs i x inside is) ∙ map_push f (take i xs) x)

  module _ {A : Type 0} where
    pub flat_step : (f : X → List A) (before : List A) (xs : List X) (i : ℕ) (x : X) →
        i < length xs → x ≡ get_or xs i x
        → (before ++ flat_map f (take i xs)) ++ f x ≡ before ++ flat_map f (take (i + 1) xs)
    flat_step f before xs i x inside is =
        append_assoc before (flat_map f (take i xs)) (f x)
        ∙ ap (λ list. before ++ list) (sym
        (ap (flat_map f) (front_more xs i x inside is)
        ∙ (flat_map-append f (take i xs) (x ∷ [])
        ∙ ap (λ list. flat_map f (take i xs) ++ list) (append-nil (f x)))))

    flat_filter : (f : X → List A) (p : X → Bool) (xs : List X) →
        flat_map (λ x. if p x then f x else []) xs ≡ flat_map f (filter p xs)
    flat_filter f p [] = refl
    flat_filter f p (x ∷ xs) = by (p x) (flat_filter f p xs)
      where
        by : (b : Bool) → flat_map (λ x. if p x then f x else []) xs ≡ flat_map f (filter p xs)
            → (if b then f x else []) ++ flat_map (λ x. if p x then f x else []) xs
            ≡ flat_map f (cond b (x ∷ filter p xs) (filter p xs))
        by true e = ap (λ list. f x ++ list) e
        by false e = e

    pub filtered_step : (f : X → List A) (p : X → Bool) (before : List A) (xs : List X) (i : ℕ)
        (x : X) → i < length xs → x ≡ get_or xs i x
        → (before ++ flat_map f (filter p (take i xs))) ++ (if p x then f x else []) ≡ before
        ++ flat_map f (filter p (take (i + 1) xs))
    filtered_step f p before xs i x inside is =
        let g : X → List A = λ x. if p x then f x else [] in
        ap (λ list. (before ++ list) ++ g x) (sym (flat_filter f p (take i xs)))
        ∙ (flat_step g before xs i x inside is
        ∙ ap (λ list. before ++ list) (flat_filter f p (take (i + 1) xs)))

  pub any_step : (p : X → Bool) (xs : List X) (i : ℕ) (x : X) → i < length xs →
      x ≡ get_or xs i x → list_any p (take i xs) ≡ false → p x ≡ false
      → list_any p (take (i + 1) xs) ≡ false
  any_step p xs i x inside is none fails =
      ap (list_any p) (front_more xs i x inside is)
      ∙ (list_any-append p (take i xs) (x ∷ [])
      ∙ (ap (λ a. a || (p x || false)) none ∙ ap (λ a. a || false) fails))

  pub any_found : (p : X → Bool) (xs : List X) (i : ℕ) (x : X) → i < length xs →
      x ≡ get_or xs i x → p x ≡ true → list_any p xs ≡ true
  any_found p xs i x inside is passes = list_any_at p xs i x inside (ap p (sym is) ∙ passes)

  -- of two lists that are mapped alike
  pub mapped_at : {Y Z : Type 0} (f : X → Z) (g : Y → Z) (xs : List X) (ys : List Y) (i : ℕ)
      (x : X) (y : Y) → map f xs ≡ map g ys
      → i < length xs → i < length ys → x ≡ get_or xs i x → y ≡ get_or ys i y → f x ≡ g y
  mapped_at f g xs ys i x y alike inside within is at =
      ap f is ∙ (sym (get_or-map f xs i x (f x) inside)
      ∙ (ap (λ list. get_or list i (f x)) alike
      ∙ (get_or-map g ys i y (f x) within ∙ ap g (sym at))))

pub as_many : {X Y Z : Type 0} (f : X → Z) (g : Y → Z) (xs : List X) (ys : List Y) →
    map f xs ≡ map g ys → length xs ≡ length ys
as_many f g xs ys alike = sym (length-map xs f) ∙ (ap length alike ∙ length-map ys g)

-- an attribute has as many marks as entries
pub marks_long : (d : ClassDesc) (attributes : List Attr) →
    map length (map (attribute_marks d) attributes) ≡ map (λ a. length (entries_of a)) attributes
marks_long d [] = refl
marks_long d (a ∷ attributes) = ap (λ n. n ∷ map length (map (attribute_marks d) attributes))
    (by (inner_in (out-Attr a))) ∙ ap (λ list. length (entries_of a) ∷ list)
    (marks_long d attributes)
  where
    by : (inner : Option (List InnerEntry)) →
        length (option_map_or (λ entries. map (stays_entry d entries) entries) inner [])
        ≡ length (unwrap_or inner [])
    by None = refl
    by (Some entries) = length-map entries (stays_entry d entries)

-- ---- the first attribute of a kind

module _ {A : Type 0} (held : Layer → Option A) where
  first_append : (xs ys : List Attr) → first_attribute held (xs ++ ys)
      ≡ option_or (first_attribute held xs) (first_attribute held ys)
  first_append [] ys = refl
  first_append (x ∷ xs) ys = by (held (out-Attr x)) (first_append xs ys)
    where
      by : (o : Option A) → first_attribute held (xs ++ ys)
          ≡ option_or (first_attribute held xs) (first_attribute held ys)
          → option_or o (first_attribute held (xs ++ ys))
          ≡ option_or (option_or o (first_attribute held xs)) (first_attribute held ys)
      by None e = e
      by (Some a) e = refl

  first_behind : (xs : List Attr) (i : ℕ) (x : Attr) → i < length xs → x ≡ get_or xs i x →
      first_attribute held (take i xs) ≡ None
      → first_attribute held (take (i + 1) xs) ≡ option_or (held (out-Attr x)) None
  first_behind xs i x inside is none =
      ap (first_attribute held) (front_more xs i x inside is)
      ∙ (first_append (take i xs) (x ∷ [])
      ∙ ap (λ o. option_or o (option_or (held (out-Attr x)) None)) none)

  pub first_step : (xs : List Attr) (i : ℕ) (x : Attr) → i < length xs → x ≡ get_or xs i x →
      first_attribute held (take i xs) ≡ None → held (out-Attr x) ≡ None
      → first_attribute held (take (i + 1) xs) ≡ None
  first_step xs i x inside is none absent = first_behind xs i x inside is none
      ∙ ap (λ o. option_or o None) absent

  pub first_found : (xs : List Attr) (i : ℕ) (x : Attr) (a : A) → i < length xs →
      x ≡ get_or xs i x → first_attribute held (take i xs) ≡ None → held (out-Attr x) ≡ Some a
      → first_attribute held xs ≡ Some a
  first_found xs i x a inside is none found =
      ap (first_attribute held) (sym (take-append-drop (i + 1) xs))
      ∙ (first_append (take (i + 1) xs) (drop (i + 1) xs)
      ∙ ap (λ o. option_or o (first_attribute held (drop (i + 1) xs)))
      (first_behind xs i x inside is none ∙ ap (λ o. option_or o None) found))

-- ---- where no class is local

pub all_kept : (list classes : List ClassDesc) → list_any is_local classes ≡ false →
    map (is_kept list) classes ≡ replicate (length classes) true
unfolding is_kept
all_kept list [] none = refl
all_kept list (d ∷ classes) none = by (is_local d) refl (all_kept list classes) none
  where
    by : (b : Bool) → is_local d ≡ b →
        (list_any is_local classes ≡ false → map (is_kept list) classes
        ≡ replicate (length classes) true)
        → (b || list_any is_local classes) ≡ false → is_kept list d ∷ map (is_kept list) classes
        ≡ replicate (length (d ∷ classes)) true
    by true is rest none = cc
    by false is rest none = rw is (ap (λ marks. true ∷ marks) (rest none))
