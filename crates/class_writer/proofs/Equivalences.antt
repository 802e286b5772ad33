-- Needs and slots are compared by an equivalence.
use Rattle.std.proofs.Common.{◌≡◌, ℕ, true, false, ◌&&◌, ◌==◌, refl, arith}
use Rattle.std.specs.Cmp.{IsEquivalence}
use Rattle.std.proofs.lemmas.Bool.Decides.{nat_tests}
use Rattle.std.proofs.lemmas.Cmp.{nat_list_eq_equiv}
use Rattle.class_desc.specs.Layout.{Need, TextNeed, ClassNeed, StringNeed, NumberNeed, is_need}
use Rattle.class_desc.specs.Layout.{number_tag}
use Rattle.class_writer.specs.Slots.{Slot, Held, BehindLong, BehindDouble, is_slot}

pair_same : (m a : ℕ) → ((m == m) && (a == a)) ≡ true
pair_same m a = grind (arith, nat_tests)

pair_either : (m n a b : ℕ) → ((m == n) && (a == b)) ≡ ((n == m) && (b == a))
pair_either m n a b = grind (arith, nat_tests)

pair_alike : (l m n a b c : ℕ) → ((l == m) && (a == b)) ≡ true
    → ((l == n) && (a == c)) ≡ ((m == n) && (b == c))
pair_alike l m n a b c h = grind (arith, nat_tests)

pub needs_equiv : IsEquivalence is_need
needs_equiv = record { refl = same; symm = either; congr = alike }
  where
    same : (a : Need) → is_need a a ≡ true
    same (TextNeed a) = nat_list_eq_equiv.refl a
    same (ClassNeed a) = nat_list_eq_equiv.refl a
    same (StringNeed a) = nat_list_eq_equiv.refl a
    same (NumberNeed k a) = pair_same (number_tag k) a

    either : (a b : Need) → is_need a b ≡ is_need b a
    either (TextNeed a) (TextNeed b) = nat_list_eq_equiv.symm a b
    either (ClassNeed a) (ClassNeed b) = nat_list_eq_equiv.symm a b
    either (StringNeed a) (StringNeed b) = nat_list_eq_equiv.symm a b
    either (NumberNeed k a) (NumberNeed l b) = pair_either (number_tag k) (number_tag l) a b
    either _ _ = refl

    alike : (a b c : Need) → is_need a b ≡ true → is_need a c ≡ is_need b c
    alike (TextNeed a) (TextNeed b) (TextNeed c) e = nat_list_eq_equiv.congr a b c e
    alike (TextNeed a) (TextNeed b) _ e = refl
    alike (ClassNeed a) (ClassNeed b) (ClassNeed c) e = nat_list_eq_equiv.congr a b c e
    alike (ClassNeed a) (ClassNeed b) _ e = refl
    alike (StringNeed a) (StringNeed b) (StringNeed c) e = nat_list_eq_equiv.congr a b c e
    alike (StringNeed a) (StringNeed b) _ e = refl
    alike (NumberNeed k a) (NumberNeed l b) (NumberNeed m c) e = pair_alike (number_tag k)
        (number_tag l) (number_tag m) a b c e
    alike (NumberNeed k a) (NumberNeed l b) _ e = refl
    alike _ _ c e = absurd (let h : false ≡ true = e in cc)

same_bits : (a : ℕ) → (a == a) ≡ true
same_bits a = grind (arith, nat_tests)

bits_either : (a b : ℕ) → (a == b) ≡ (b == a)
bits_either a b = grind (arith, nat_tests)

bits_alike : (a b c : ℕ) → (a == b) ≡ true → (a == c) ≡ (b == c)
bits_alike a b c h = grind (arith, nat_tests)

pub slots_equiv : IsEquivalence is_slot
slots_equiv = record { refl = same; symm = either; congr = alike }
  where
    same : (a : Slot) → is_slot a a ≡ true
    same (Held a) = needs_equiv.refl a
    same (BehindLong a) = same_bits a
    same (BehindDouble a) = same_bits a

    either : (a b : Slot) → is_slot a b ≡ is_slot b a
    either (Held a) (Held b) = needs_equiv.symm a b
    either (BehindLong a) (BehindLong b) = bits_either a b
    either (BehindDouble a) (BehindDouble b) = bits_either a b
    either _ _ = refl

    alike : (a b c : Slot) → is_slot a b ≡ true → is_slot a c ≡ is_slot b c
    alike (Held a) (Held b) (Held c) e = needs_equiv.congr a b c e
    alike (Held a) (Held b) _ e = refl
    alike (BehindLong a) (BehindLong b) (BehindLong c) e = bits_alike a b c e
    alike (BehindLong a) (BehindLong b) _ e = refl
    alike (BehindDouble a) (BehindDouble b) (BehindDouble c) e = bits_alike a b c e
    alike (BehindDouble a) (BehindDouble b) _ e = refl
    alike _ _ c e = absurd (let h : false ≡ true = e in cc)
