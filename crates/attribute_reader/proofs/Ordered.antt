-- A set that is kept in an order, seen as the list of its keys.
use Rattle.std.proofs.Common.{◌≡◌, ℕ, ◌||◌, ◌&&◌, Bool, true, false, List, [], ◌∷◌, ◌++◌, map}
use Rattle.std.proofs.Common.{refl, sym, ap, ◌∙◌}
use Rattle.std.specs.declared.cmp.Ordering.{Ordering}
use Rattle.std.specs.declared.cmp.Ordering.TheVariants.{Less, Equal, Greater}
use Rattle.std.specs.BTreeSet.{insert_key}
use Rattle.std.specs.Cmp.{unsigned_ties}
use Rattle.std.specs.Cmp.Lexicographic.{slice_cmp}
use Rattle.std.specs.List.{list_any}
use Rattle.std.specs.Ordering.{ordering_then, match_ordering, nat_cmp, is_eq}
use Rattle.java_names.specs.Names.{is_text}

or_again : (a b : Bool) → (a || (a || b)) ≡ (a || b)
or_again true b = refl
or_again false b = refl

or_swap : (a b c : Bool) → (a || (b || c)) ≡ (b || (a || c))
or_swap true true c = refl
or_swap true false c = refl
or_swap false b c = refl

pub any_behind : {A : Type 0} (test : A → Bool) (items : List A) (item : A)
    → list_any test (items ++ item ∷ []) ≡ (test item || list_any test items)
any_behind test [] item = refl
any_behind test (first ∷ items) item =
    ap (λ b. test first || b) (any_behind test items item)
    ∙ or_swap (test first) (test item) (list_any test items)

-- what a key adds, whatever its place
pub any_inserted : {K A : Type 0} (cmp : K → K → Ordering) (seen : K → A) (test : A → Bool)
    (keys : List K) (key : K)
    → ((other : K) → cmp key other ≡ Equal → seen other ≡ seen key)
    → list_any test (map seen (insert_key cmp keys key))
    ≡ (test (seen key) || list_any test (map seen keys))
any_inserted cmp seen test [] key same = refl
any_inserted {K} cmp seen test (first ∷ keys) key same =
    by (cmp key first) refl (any_inserted cmp seen test keys key same)
  where
    by : (o : Ordering)
        → cmp key first ≡ o
        → list_any test (map seen (insert_key cmp keys key))
        ≡ (test (seen key) || list_any test (map seen keys))
        → list_any test (map seen (match_ordering o (key ∷ first ∷ keys) (first ∷ keys)
        (first ∷ insert_key cmp keys key)))
        ≡ (test (seen key) || (test (seen first) || list_any test (map seen keys)))
    by Less is rest = refl
    by Equal is rest =
        let own : test (seen first) ≡ test (seen key) = ap test (same first is) in
        let others = list_any test (map seen keys) in
        ap (λ b. b || others) own
        ∙ sym (ap (λ b. test (seen key) || (b || others)) own
        ∙ or_again (test (seen key)) others)
    by Greater is rest =
        ap (λ b. test (seen first) || b) rest
        ∙ or_swap (test (seen first)) (test (seen key)) (list_any test (map seen keys))

-- ---- texts

pub then_eq : (a b : Ordering) → is_eq (ordering_then a b) ≡ (is_eq a && is_eq b)
then_eq Less b = refl
then_eq Equal b = refl
then_eq Greater b = refl

pub text_eq : (a b : List ℕ) → is_eq (slice_cmp nat_cmp a b) ≡ is_text a b
text_eq [] [] = refl
text_eq [] (y ∷ ys) = refl
text_eq (x ∷ xs) [] = refl
text_eq (x ∷ xs) (y ∷ ys) =
    then_eq (nat_cmp x y) (slice_cmp nat_cmp xs ys)
    ∙ (λ i. sym (unsigned_ties x y) i && text_eq xs ys i)
