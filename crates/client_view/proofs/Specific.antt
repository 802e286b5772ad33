-- The only maximally specific method, from the candidates and what lies above them.
use Rattle.std.proofs.Common.{◌≡◌, refl, ap, sym, ◌∙◌, ℕ, ◌<◌, ◌⊎◌, arith, true}
use Rattle.std.proofs.Common.{false}
use Rattle.std.proofs.Common.{not, List, length, inl, inr, Option, Some, None}
use Rattle.std.specs.Prelude.{Contains, ◌↔◌, slice_get, is_some, option_map, option_and_then}
use Rattle.std.specs.Option.{option_map_or, option_or}
use Rattle.std.proofs.lemmas.Option.{slice_get_within}
use Rattle.supertypes.specs.Ways.{IsBelow, IsAboveSome, HasNoRing}
use Rattle.class_views.specs.View.{View, MemberView}
use Rattle.class_views.specs.Flags.{is_abstract}
use Rattle.class_views.specs.World.{World, supertypes, walk}
use Rattle.class_views.specs.Resolution.{Declared, NameAndType, declared_by, sole}
use Rattle.class_views.specs.Resolution.{interface_method_in, first_declared}
use Rattle.class_views.specs.Resolution.{from_superinterfaces}
use Rattle.client_view.specs.Members.{declares, declared_at}
use Rattle.client_view.specs.Numbers.{AreApart, IsGraphOf}
use Rattle.client_view.specs.Sole.{is_concrete, Passes, IsOnly, NonePasses, TwoPass, IsSole}
use Rattle.client_view.specs.Sole.{IsChosen}
use Rattle.client_view.proofs.Concrete.{concrete_there}
use Rattle.client_view.proofs.Interfaces.{IsCandidate, Qualifies, left}
use Rattle.client_view.proofs.Interfaces.{none_left, sole_left, two_left, not_false}

module _ (world : World) (apart : AreApart world) (graph : List (List ℕ))
    (is : IsGraphOf world supertypes graph) (n : ℕ) (c : View)
    (at : slice_get world n ≡ Some c) (free : HasNoRing graph n) (sought : NameAndType)
    (candidates above : List ℕ)
    (each : (k : ℕ) → Contains candidates k ↔
    (IsBelow graph n k × (declares world (interface_method_in sought) k ≡ true)))
    (higher : (k : ℕ) → Contains above k ↔
    ((k < length graph) × IsAboveSome graph candidates k)) where
  abbrev Candidate : ℕ → Type 0
  Candidate k = IsCandidate world apart graph is n c at free sought k

  abbrev Good : ℕ → Type 0
  Good k = Qualifies world apart graph is n c at free sought k

  record Declares (k : ℕ) : Type 0 where
    class : View
    method : MemberView
    there : slice_get world k ≡ Some class
    chosen : interface_method_in sought class ≡ Some method

  who : (k : ℕ) → declares world (interface_method_in sought) k ≡ true → Declares k
  who k t = by (slice_get world k) refl t
    where
      inside : (e : View) → slice_get world k ≡ Some e → (o : Option MemberView) →
          interface_method_in sought e ≡ o → is_some o ≡ true → Declares k
      inside e there None f t = absurd cc
      inside e there (Some m) f t =
          record { class = e; method = m; there = there; chosen = f }

      by : (o : Option View) → slice_get world k ≡ o →
          is_some (option_and_then (interface_method_in sought) o) ≡ true → Declares k
      by None f t = absurd cc
      by (Some e) f t = inside e f (interface_method_in sought e) refl t

  declares_it : (k : ℕ) (e : View) (m : MemberView) → slice_get world k ≡ Some e →
      interface_method_in sought e ≡ Some m →
      declares world (interface_method_in sought) k ≡ true
  declares_it k e m there chosen =
      ap (λ o. is_some (option_and_then (interface_method_in sought) o)) there
      ∙ ap is_some chosen

  candidate : (k : ℕ) → Contains candidates k → Candidate k
  candidate k here =
      let parts = (each k).0 here in
      let d = who k parts.1 in
      record {
        class = d.class;
        method = d.method;
        there = d.there;
        below = parts.0;
        chosen = d.chosen;
      }

  listed : (k : ℕ) → Candidate k → Contains candidates k
  listed k one =
      (each k).1 (one.below, declares_it k one.class one.method one.there one.chosen)

  small : (k : ℕ) (e : View) → slice_get world k ≡ Some e → k < length graph
  small k e there =
      let few = slice_get_within world k e there in
      let level = is.level in omega (arith, few, level)

  whole_is : (k : ℕ) (e : View) (m : MemberView) → slice_get world k ≡ Some e →
      interface_method_in sought e ≡ Some m →
      is_concrete world sought k ≡ not (is_abstract m.flags)
  whole_is k e m there chosen =
      ap (λ o. option_map_or (λ (x : MemberView). not (is_abstract x.flags)) o false)
      (ap (option_and_then (interface_method_in sought)) there ∙ chosen)

  qualifies : (k : ℕ) → Passes world sought above candidates k → Good k
  qualifies k p =
      let one = candidate k p.listed in
      record {
        candidate = one;
        lone = λ (j, other, below). p.lone ((higher k).1 (
          small k one.class one.there,
          (j, listed j other, below),
        ));
        whole = not_false (is_abstract one.method.flags)
            (sym (whole_is k one.class one.method one.there one.chosen) ∙ p.concrete);
      }

  passes : (k : ℕ) → Good k → Passes world sought above candidates k
  passes k q = record {
    listed = listed k q.candidate;
    lone = λ here.
        let up = ((higher k).0 here).1 in
        q.lone (up.0, candidate up.0 up.1, up.2);
    concrete =
        whole_is k q.candidate.class q.candidate.method q.candidate.there q.candidate.chosen
        ∙ ap not q.whole;
  }

  pub none_sole : NonePasses world sought above candidates
      ⊎ TwoPass world sought above candidates →
      sole (left world apart graph is n c at free sought) ≡ None
  none_sole (inl none) =
      none_left world apart graph is n c at free sought (λ k q. none k (passes k q))
  none_sole (inr two) =
      two_left world apart graph is n c at free sought two.one two.other
      (qualifies two.one two.one_passes) (qualifies two.other two.other_passes) two.differ

  pub some_sole : (k : ℕ) → IsOnly world sought above candidates k →
      sole (left world apart graph is n c at free sought)
      ≡ declared_at world (interface_method_in sought) k
  some_sole k only =
      let q = qualifies k only.passes in
      sole_left world apart graph is n c at free sought k q
      (λ j p. only.others j (passes j p))
      ∙ sym (ap (option_and_then (declared_by (interface_method_in sought))) q.candidate.there
      ∙ ap (option_map (λ m. record { declarer = q.candidate.class; member = m }))
      q.candidate.chosen)

  abbrev first : Option Declared
  first = first_declared (interface_method_in sought) (walk world c.name)

  pub none_chosen : NonePasses world sought above candidates
      ⊎ TwoPass world sought above candidates →
      from_superinterfaces world c.name sought ≡ first
  none_chosen none = ap (λ o. option_or o first) (none_sole none)

  pub some_chosen : (k : ℕ) → IsOnly world sought above candidates k →
      from_superinterfaces world c.name sought
      ≡ declared_at world (interface_method_in sought) k
  some_chosen k only =
      let there = concrete_there world sought k only.passes.concrete in
      ap (λ o. option_or o first) (some_sole k only ∙ there.1) ∙ sym there.1

  pub chosen : (o : Option ℕ) → IsSole world sought above candidates o →
      IsChosen world c.name sought o
  chosen None none = none_chosen none
  chosen (Some k) only = some_chosen k only
