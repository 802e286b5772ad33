-- The only one that passes, met one by one.
use Rattle.std.proofs.Common.{◌≡◌, refl, ap, sym, subst, ◌∙◌, ℕ, ◌⊎◌, true, false, List, []}
use Rattle.std.proofs.Common.{◌∷◌, ◌++◌, inl, inr, Option, Some, None, arith, ◌+◌, ◌<◌}
use Rattle.std.proofs.Common.{length, take, drop, get_or}
use Rattle.std.specs.Prelude.{Contains, IfSome, is_some}
use Rattle.std.proofs.lemmas.List.{take_more, take-append-drop}
use Rattle.std.proofs.lemmas.Bool.{false≢true}
use Rattle.std.proofs.lemmas.List.Elements.{Contains-append_left, Contains-push}
use Rattle.std.proofs.lemmas.List.Elements.{Contains-push_cases}
use Rattle.class_views.specs.Resolution.{NameAndType}
use Rattle.class_views.specs.World.{World}
use Rattle.client_view.specs.Sole.{is_concrete, Passes, NonePasses, TwoPass, IsSole}
use Rattle.client_view.specs.Sole.{IsSoleYet}

module _ (world : World) (sought : NameAndType) (above : List ℕ) where
  pub none_yet : IsSoleYet world sought above [] None
  none_yet = λ k p. (let few = p.listed.1 in absurd (omega (arith, few)))

  abbrev Fails : ℕ → Type 0
  Fails x = Contains above x ⊎ (is_concrete world sought x ≡ false)

  module _ (list : List ℕ) (x : ℕ) where
    grown : (k : ℕ) → Passes world sought above list k →
        Passes world sought above (list ++ x ∷ []) k
    grown k p = record {
      listed = Contains-append_left list (x ∷ []) k p.listed;
      lone = p.lone;
      concrete = p.concrete;
    }

    back : (k : ℕ) → Passes world sought above (list ++ x ∷ []) k →
        Passes world sought above list k ⊎ (x ≡ k)
    back k p = elim (Contains-push_cases list x k p.listed) [
      | inl here ↦ inl (record { listed = here; lone = p.lone; concrete = p.concrete })
      | inr is ↦ inr is
    ]

    passed_over : (k : ℕ) → Fails x → Passes world sought above (list ++ x ∷ []) k →
        Passes world sought above list k
    passed_over k fails p = by (back k p) fails
      where
        by : Passes world sought above list k ⊎ (x ≡ k) → Fails x →
            Passes world sought above list k
        by (inl q) f = q
        by (inr is) (inl up) = absurd (p.lone (subst (Contains above) is up))
        by (inr is) (inr f) =
            absurd (false≢true (sym (ap (is_concrete world sought) (sym is) ∙ f) ∙ p.concrete))

    pub skipped : (o : Option ℕ) → IsSoleYet world sought above list o → Fails x →
        IsSoleYet world sought above (list ++ x ∷ []) o
    skipped None none fails = λ k p. none k (passed_over k fails p)
    skipped (Some n) only fails = record {
      passes = grown n only.passes;
      others = λ k p. only.others k (passed_over k fails p);
    }

    module _ (lone : Contains above x → ⊥) (concrete : is_concrete world sought x ≡ true) where
      last : Passes world sought above (list ++ x ∷ []) x
      last = record { listed = Contains-push list x; lone = lone; concrete = concrete }

      pub met : (o : Option ℕ) → IsSoleYet world sought above list o →
          ((n : ℕ) → o ≡ Some n → n ≡ x) → IsSoleYet world sought above (list ++ x ∷ []) (Some x)
      met None none same = record {
        passes = last;
        others = λ k p. elim (back k p) [ inl q ↦ absurd (none k q) | inr is ↦ sym is ];
      }
      met (Some n) only same = record {
        passes = last;
        others = λ k p. elim (back k p) [
          | inl q ↦ only.others k q ∙ same n refl
          | inr is ↦ sym is
        ];
      }

      pub two : (n : ℕ) → IsSoleYet world sought above list (Some n) → (n ≡ x → ⊥) →
          TwoPass world sought above (list ++ x ∷ [])
      two n only differ = record {
        one = n;
        other = x;
        differ = differ;
        one_passes = grown n only.passes;
        other_passes = last;
      }

  pub done : (list : List ℕ) (o : Option ℕ) → IsSoleYet world sought above list o →
      IsSole world sought above list o
  done list None none = inl none
  done list (Some n) only = only

  -- of a longer list
  pub longer : (front back : List ℕ) → TwoPass world sought above front →
      TwoPass world sought above (front ++ back)
  longer front back two = record {
    one = two.one;
    other = two.other;
    differ = two.differ;
    one_passes = more two.one two.one_passes;
    other_passes = more two.other two.other_passes;
  }
    where
      more : (k : ℕ) → Passes world sought above front k →
          Passes world sought above (front ++ back) k
      more k p = record {
        listed = Contains-append_left front back k p.listed;
        lone = p.lone;
        concrete = p.concrete;
      }

  module _ (xs : List ℕ) (i d : ℕ) (few : i < length xs) where
    abbrev x : ℕ
    x = get_or xs i d

    more : take (i + 1) xs ≡ take i xs ++ x ∷ []
    more = take_more xs i d few

    pub past_one : (o : Option ℕ) → IsSoleYet world sought above (take i xs) o → Fails x →
        IsSoleYet world sought above (take (i + 1) xs) o
    past_one o yet fails =
        subst (λ (l : List ℕ). IsSoleYet world sought above l o) (sym more)
        (skipped (take i xs) x o yet fails)

    pub another_one : (o : Option ℕ) → IsSoleYet world sought above (take i xs) o →
        (Contains above x → ⊥) → is_concrete world sought x ≡ true → is_some o ≡ true →
        IfSome o (λ other. other ≡ x → ⊥) →
        NonePasses world sought above xs ⊎ TwoPass world sought above xs
    another_one None yet lone concrete some differ = absurd cc
    another_one (Some n) only lone concrete some differ =
        inr (subst (TwoPass world sought above) (take-append-drop (i + 1) xs)
        (longer (take (i + 1) xs) (drop (i + 1) xs)
        (subst (TwoPass world sought above) (sym more)
        (two (take i xs) x lone concrete n only differ))))

    pub met_one : (o : Option ℕ) → IsSoleYet world sought above (take i xs) o →
        (Contains above x → ⊥) → is_concrete world sought x ≡ true →
        ((n : ℕ) → o ≡ Some n → n ≡ x) →
        IsSoleYet world sought above (take (i + 1) xs) (Some x)
    met_one o yet lone concrete same =
        subst (λ (l : List ℕ). IsSoleYet world sought above l (Some x)) (sym more)
        (met (take i xs) x lone concrete o yet same)
