-- Distinct needs take no more numbers than those that they are among.
use Rattle.std.proofs.Common.{◌≡◌, ◌+◌, ◌≤◌, arith, Bool, true, false, cond, not, ◌||◌, List}
use Rattle.std.proofs.Common.{[], ◌∷◌, refl, sym, ap, subst, ◌∙◌}
use Rattle.std.specs.Prelude.{filter}
use Rattle.std.specs.List.{list_any, AllByRecursion, IsDistinct}
use Rattle.std.proofs.lemmas.List.Sums.{sum_by-cons}
use Rattle.class_desc.specs.Layout.{Need, is_need, width, numbers_needed}
use Rattle.class_writer.proofs.Needed.{IsIn, in_head, in_tail, in_filter, need_is}

-- what holds of each of these holds of one that is among them
pub all_of : (Holds : Need → Type 0) (these : List Need) → AllByRecursion Holds these
    → (need : Need) → IsIn need these → Holds need
all_of Holds [] all need h = absurd (let e : false ≡ true = h in cc)
all_of Holds (x ∷ these) all need h =
    by (is_need need x) refl h (all_of Holds these all.1 need)
  where
    by : (b : Bool) → is_need need x ≡ b → (is_need need x || list_any (is_need need) these) ≡ true
        → (IsIn need these → Holds need) → Holds need
    by true same h rest = subst Holds (need_is need x same) all.0
    by false differs h rest =
        rest (sym (ap (λ b. b || list_any (is_need need) these) differs) ∙ h)

-- those that differ from this one
abbrev others : Need → List Need → List Need
others x ys = filter (λ y. not (is_need x y)) ys

fewer : (x : Need) (ys : List Need) → numbers_needed (others x ys) ≤ numbers_needed ys
fewer x [] = omega arith
fewer x (y ∷ ys) = by (is_need x y) (fewer x ys) (sum_by-cons width y ys)
    (sum_by-cons width y (others x ys))
  where
    by : (b : Bool) → numbers_needed (others x ys) ≤ numbers_needed ys
        → numbers_needed (y ∷ ys) ≡ width y + numbers_needed ys
        → numbers_needed (y ∷ others x ys) ≡ width y + numbers_needed (others x ys)
        → numbers_needed (cond (not b) (y ∷ others x ys) (others x ys)) ≤ numbers_needed (y ∷ ys)
    by true rest whole kept = omega arith
    by false rest whole kept = omega arith

-- one that is among needs takes its numbers beside the others
without : (x : Need) (ys : List Need) → IsIn x ys
    → width x + numbers_needed (others x ys) ≤ numbers_needed ys
without x [] h = absurd (let e : false ≡ true = h in cc)
without x (y ∷ ys) h = by (is_need x y) refl h (without x ys) (sum_by-cons width y ys)
    (sum_by-cons width y (others x ys))
  where
    by : (b : Bool) → is_need x y ≡ b → (is_need x y || list_any (is_need x) ys) ≡ true
        → (IsIn x ys → width x + numbers_needed (others x ys) ≤ numbers_needed ys)
        → numbers_needed (y ∷ ys) ≡ width y + numbers_needed ys
        → numbers_needed (y ∷ others x ys) ≡ width y + numbers_needed (others x ys)
        → width x + numbers_needed (cond (not b) (y ∷ others x ys) (others x ys))
        ≤ numbers_needed (y ∷ ys)
    by true same h rest whole kept =
        let wide : width y ≡ width x = ap width (need_is x y same) in
        let few : numbers_needed (others x ys) ≤ numbers_needed ys = fewer x ys in
        omega arith
    by false differs h rest whole kept =
        let few : width x + numbers_needed (others x ys) ≤ numbers_needed ys =
        rest (sym (ap (λ b. b || list_any (is_need x) ys) differs) ∙ h) in
        omega arith

pub distinct_among : (xs ys : List Need) → IsDistinct is_need xs
    → ((need : Need) → IsIn need xs → IsIn need ys) → numbers_needed xs ≤ numbers_needed ys
unfolding IsDistinct
distinct_among [] ys distinct within = omega arith
distinct_among (x ∷ xs) ys distinct within =
    let apart : (need : Need) → IsIn need xs → (y : Need) → is_need need y ≡ true
    → not (is_need x y) ≡ true =
    λ need h y same. ap not (ap (is_need x) (need_is need y same)
    ∙ all_of (λ y. is_need x y ≡ false) xs distinct.0 need h) in
    let few : numbers_needed xs ≤ numbers_needed (others x ys) =
    distinct_among xs (others x ys) distinct.1
    (λ need h. in_filter need (λ y. not (is_need x y)) (apart need h) ys
    ∙ within need (in_tail need x xs h)) in
    let one : width x + numbers_needed (others x ys) ≤ numbers_needed ys =
    without x ys (within x (in_head x xs)) in
    let whole : numbers_needed (x ∷ xs) ≡ width x + numbers_needed xs = sum_by-cons width x xs in
    omega arith
