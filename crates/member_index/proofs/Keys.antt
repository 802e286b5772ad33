-- Keys in their order.
use Rattle.std.proofs.Common.{◌≡◌, refl, ap, sym, ◌∙◌, ℕ, ◌<◌, ◌≤◌, arith, Bool, true, false}
use Rattle.std.proofs.Common.{◌&&◌, not, List, [], length, map, Option, Some, None, Bor}
use Rattle.std.specs.Prelude.{slice_get, slice_index_or, MatchOption}
use Rattle.std.specs.Cmp.{IsTotalOrder, IsEquivalence}
use Rattle.std.specs.Cmp.Lexicographic.{slice_cmp}
use Rattle.std.specs.Ordering.{nat_cmp, ordering_then, ordering_index, ordering_reverse, is_eq}
use Rattle.std.specs.Ordering.{is_lt, is_le}
use Rattle.std.specs.Slice.{IsItemAt}
use Rattle.std.specs.declared.cmp.Ordering.{Ordering}
use Rattle.std.specs.declared.cmp.Ordering.TheVariants.{Less, Equal, Greater}
use Rattle.std.proofs.lemmas.Cmp.{nat_list_cmp_total, nat_list_eq_equiv, then_total, on_total}
use Rattle.std.proofs.lemmas.Cmp.{and_equiv, on_equiv}
use Rattle.std.proofs.lemmas.List.{get_or-map, get_or_past, length-map}
use Rattle.std.proofs.lemmas.Map.Text.{is_eq-slice_cmp}
use Rattle.std.proofs.lemmas.Option.{slice_get_past, slice_get_read}
use Rattle.java_names.specs.Names.{is_text}
use Rattle.class_desc.specs.ClassFile.{Key, is_key}
use Rattle.member_index.specs.Order.{key_cmp, key_at}

pub key_total : IsTotalOrder key_cmp
key_total =
    then_total (on_total (λ (key : Key). key.0) nat_list_cmp_total)
    (on_total (λ (key : Key). key.1) nat_list_cmp_total)

pub key_equiv : IsEquivalence is_key
key_equiv =
    and_equiv (on_equiv (λ (key : Key). key.0) nat_list_eq_equiv)
    (on_equiv (λ (key : Key). key.1) nat_list_eq_equiv)

then_eq : (a b : Ordering) → is_eq (ordering_then a b) ≡ (is_eq a && is_eq b)
then_eq Less b = refl
then_eq Equal b = refl
then_eq Greater b = refl

-- keys are equal in the order exactly if they are the same bytes
pub key_eq : (a b : Key) → is_eq (key_cmp a b) ≡ is_key a b
key_eq a b =
    then_eq (slice_cmp nat_cmp a.0 b.0) (slice_cmp nat_cmp a.1 b.1)
    ∙ ap (λ t. t && is_eq (slice_cmp nat_cmp a.1 b.1)) (is_eq-slice_cmp a.0 b.0)
    ∙ ap (λ t. is_text a.0 b.0 && t) (is_eq-slice_cmp a.1 b.1)

-- ---- answers of a comparison

pub lt_falls : (a b : Ordering) → ordering_index a ≤ ordering_index b → is_lt b ≡ true →
    is_lt a ≡ true
lt_falls Less b below t = refl
lt_falls Equal Less below t = absurd (omega (arith, below))
lt_falls Equal Equal below t = absurd cc
lt_falls Equal Greater below t = absurd cc
lt_falls Greater Less below t = absurd (omega (arith, below))
lt_falls Greater Equal below t = absurd cc
lt_falls Greater Greater below t = absurd cc

pub le_falls : (a b : Ordering) → ordering_index a ≤ ordering_index b → is_le b ≡ true →
    is_le a ≡ true
le_falls Less b below t = refl
le_falls Equal b below t = refl
le_falls Greater Less below t = absurd (omega (arith, below))
le_falls Greater Equal below t = absurd (omega (arith, below))
le_falls Greater Greater below t = absurd cc

pub not_lt_le : (a : Ordering) → is_lt a ≡ false → is_le a ≡ true → is_eq a ≡ true
not_lt_le Less f t = absurd cc
not_lt_le Equal f t = refl
not_lt_le Greater f t = absurd cc

pub lt_not_eq : (a : Ordering) → is_lt a ≡ true → is_eq a ≡ false
lt_not_eq Less t = refl
lt_not_eq Equal t = absurd cc
lt_not_eq Greater t = refl

pub not_le_not_eq : (a : Ordering) → is_le a ≡ false → is_eq a ≡ false
not_le_not_eq Less f = refl
not_le_not_eq Equal f = absurd cc
not_le_not_eq Greater f = refl

tied : (a : Ordering) → (not (is_lt (ordering_reverse a)) && not (is_lt a)) ≡ is_eq a
tied Less = refl
tied Equal = refl
tied Greater = refl

-- neither key is the lesser exactly if they are the same bytes
pub ties_are : (a b : Key) →
    (not (is_lt (key_cmp a b)) && not (is_lt (key_cmp b a))) ≡ is_key b a
ties_are a b =
    ap (λ o. not (is_lt o) && not (is_lt (key_cmp b a))) (key_total.antisymm a b)
    ∙ tied (key_cmp b a) ∙ key_eq b a

-- ---- what `get` lends

pub got : {A : Type 0} (xs : List A) (i : ℕ) (r : Option (Bor A)) → IsItemAt xs i r →
    MatchOption r (slice_get xs i ≡ None) (λ x. slice_get xs i ≡ Some x.now)
got xs i None h = slice_get_past xs i h.3
got xs i (Some x) h = slice_get_read xs (length xs) i x.now refl h.3.0 h.1
