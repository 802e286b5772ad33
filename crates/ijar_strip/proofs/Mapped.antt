-- What stays of items is what stays of what they are mapped to.
use Rattle.std.proofs.Common.{◌≡◌, ℕ, zero, suc, Bool, true, false, cond, ◌||◌, List, [], ◌∷◌}
use Rattle.std.proofs.Common.{◌++◌, length, map, refl, ap, ◌∙◌, sym}
use Rattle.std.specs.Prelude.{filter, Option, Some, None, option_to_list}
use Rattle.std.specs.Option.{option_map_or}
use Rattle.std.specs.List.{list_any}
use Rattle.std.proofs.lemmas.List.{length-map}
use Rattle.class_desc.specs.declared.attribute.InnerEntry.{InnerEntry}
use Rattle.class_desc.specs.declared.class.ClassDesc.{ClassDesc}
use Rattle.java_names.specs.Names.{is_text}
use Rattle.class_views.specs.Staying.{stays_beside, staying_after, stays_in}
use Rattle.class_views.specs.Strip.{entry_begins, names_entry, stays_entry, stripped_names}
use Rattle.class_views.specs.Kept.{is_no_local, names_class, is_kept}
use Rattle.ijar_strip.specs.Links.{Linked, begins, leads_to}
use Rattle.ijar_strip.specs.Marks.{entry_link, class_link}

module _ {A B : Type 0} (f : A → B) (t : A → Bool) (u : B → Bool) (e : (x : A) → t x ≡ u (f x))
  where
    any_mapped : (xs : List A) → list_any t xs ≡ list_any u (map f xs)
    any_mapped [] = refl
    any_mapped (x ∷ xs) = ap (λ a. a || list_any t xs) (e x)
        ∙ ap (λ b. u (f x) || b) (any_mapped xs)

    filter_mapped : (xs : List A) → map f (filter t xs) ≡ filter u (map f xs)
    filter_mapped [] = refl
    filter_mapped (x ∷ xs) = by (t x) (e x) (filter_mapped xs)
      where
        by : (a : Bool) → a ≡ u (f x) → map f (filter t xs) ≡ filter u (map f xs)
            → map f (cond a (x ∷ filter t xs) (filter t xs))
            ≡ cond (u (f x)) (f x ∷ filter u (map f xs)) (filter u (map f xs))
        by true is rest = rw (sym is) (ap (λ list. f x ∷ list) rest)
        by false is rest = rw (sym is) rest

    tests_mapped : (xs : List A) → map t xs ≡ map u (map f xs)
    tests_mapped [] = refl
    tests_mapped (x ∷ xs) = ap (λ a. a ∷ map t xs) (e x)
        ∙ ap (λ list. u (f x) ∷ list) (tests_mapped xs)

module _ {A : Type 0} (f : A → Linked) (starts : A → Bool) (names : A → A → Bool)
    (b : (x : A) → starts x ≡ begins (f x)) (n : (x y : A) → names x y ≡ leads_to (f x) (f y))
  where
    test_mapped : (left : List A) (there : List Linked) → map f left ≡ there → (x : A)
        → stays_beside starts names left x ≡ stays_beside begins leads_to there (f x)
    test_mapped left there e x =
        ap (λ a. a || list_any (λ one. names one x) left) (b x)
        ∙ ap (λ c. begins (f x) || c)
        (any_mapped f (λ one. names one x) (λ one. leads_to one (f x)) (λ one. n one x) left
        ∙ ap (list_any (λ one. leads_to one (f x))) e)

    after_mapped : (items : List A) (rounds : ℕ) → map f (staying_after starts names items rounds)
        ≡ staying_after begins leads_to (map f items) rounds
    unfolding staying_after
    after_mapped items zero = refl
    after_mapped items (suc rounds) =
        filter_mapped f (stays_beside starts names (staying_after starts names items rounds))
        (stays_beside begins leads_to (staying_after begins leads_to (map f items) rounds))
        (test_mapped (staying_after starts names items rounds)
        (staying_after begins leads_to (map f items) rounds) (after_mapped items rounds)) items

    stays_mapped : (items : List A) (x : A) → stays_in starts names items x
        ≡ stays_in begins leads_to (map f items) (f x)
    stays_mapped items x =
        test_mapped (staying_after starts names items (length items))
        (staying_after begins leads_to (map f items) (length items))
        (after_mapped items (length items)) x
        ∙ ap (λ rounds. stays_beside begins leads_to
        (staying_after begins leads_to (map f items) rounds) (f x)) (sym (length-map items f))

    pub marks_mapped : (items : List A) → map (stays_in starts names items) items
        ≡ map (stays_in begins leads_to (map f items)) (map f items)
    marks_mapped items = tests_mapped f (stays_in starts names items)
        (stays_in begins leads_to (map f items)) (stays_mapped items) items

leads_entry : (names : List (List ℕ)) (class : List ℕ) (one other : InnerEntry) →
    names_entry one other ≡ leads_to (entry_link names class one) (entry_link names class other)
leads_entry names class one other = by one.outer
  where
    or_false : (a : Bool) → a ≡ (a || false)
    or_false true = refl
    or_false false = refl

    by : (outer : Option (List ℕ)) → option_map_or (is_text other.inner) outer false
        ≡ list_any (is_text other.inner) (option_to_list outer ++ [])
    by None = refl
    by (Some outer) = or_false (is_text other.inner outer)

pub entry_marks_mapped : (d : ClassDesc) (entries : List InnerEntry) →
    map (stays_entry d entries) entries
    ≡ map (stays_in begins leads_to (map (entry_link (stripped_names d) d.name) entries))
    (map (entry_link (stripped_names d) d.name) entries)
unfolding stays_entry
entry_marks_mapped d entries =
    marks_mapped (entry_link (stripped_names d) d.name) (entry_begins d) names_entry (λ e. refl)
    (leads_entry (stripped_names d) d.name) entries

pub class_marks_mapped : (list : List ClassDesc) → map (is_kept list) list
    ≡ map (stays_in begins leads_to (map class_link list)) (map class_link list)
unfolding is_kept
class_marks_mapped list = marks_mapped class_link is_no_local names_class (λ d. refl)
    (λ one other. refl) list
