-- Where no ring is reached, walks are the same at each depth from the number of classes on.
use Rattle.std.proofs.Common.{◌≡◌, ◌≢◌, refl, ap, sym, subst, ◌∙◌, ℕ, zero, suc, ◌≤◌, ◌<◌}
use Rattle.std.proofs.Common.{Bool, true, false, List, [], ◌∷◌, ◌++◌, length, get_or, set}
use Rattle.std.proofs.Common.{replicate, cond, arith, ⊎_elim}
use Rattle.std.specs.Prelude.{Contains}
use Rattle.std.specs.List.{flat_map}
use Rattle.std.proofs.lemmas.List.{get_or_default, get_or-set_other, length-set, length-replicate}
use Rattle.std.proofs.lemmas.Bool.{cases_eq, cases_lt, lt-ltb, le-ltb}
use Rattle.reachability.specs.Reached.{targets}
use Rattle.reachability.specs.Search.{unmarked}
use Rattle.supertypes.specs.Ways.{IsBelow, HasNoRing}
use Rattle.supertypes.specs.Walk.{walk_at, walk, IsWalk}
use Rattle.supertypes.proofs.Marked.{one_less, no_mark, none_marked}
use Rattle.supertypes.proofs.Ways.{below_on, then}

alike : (f g : ℕ → List ℕ) (xs : List ℕ) → ((x : ℕ) → Contains xs x → f x ≡ g x) →
    flat_map f xs ≡ flat_map g xs
alike f g [] same = refl
alike f g (x ∷ xs) same =
    λ i. same x (0, omega arith, refl) i
    ++ alike f g xs (λ y here. same y (
      suc here.0,
      (let few = here.1 in omega (arith, few)),
      here.2,
    )) i

module _ (graph : List (List ℕ)) where
  pub there : (depth n : ℕ) → n < length graph → walk_at graph (suc depth) n ≡ n ∷ flat_map
      (walk_at graph depth) (targets graph n)
  there depth n few = ap (λ b. cond b (n ∷ flat_map (walk_at graph depth) (targets graph n)) [])
      (lt-ltb n (length graph) few)

  pub gone : (depth n : ℕ) → length graph ≤ n → walk_at graph depth n ≡ []
  gone zero n past = refl
  gone (suc depth) n past =
      ap (λ b. cond b (n ∷ flat_map (walk_at graph depth) (targets graph n)) [])
      (le-ltb n (length graph) past)

  free_on : (a b : ℕ) → Contains (targets graph a) b → HasNoRing graph a → HasNoRing graph b
  free_on a b edge free = λ c way self. free c (suc way.0, (b, edge, way.1)) self

  -- a class that no other one of those on the way there is
  is_new : (a : ℕ) (used : List Bool) → HasNoRing graph a → length used ≡ length graph →
      ((v : ℕ) → get_or used v false ≡ true → IsBelow graph v a) → a < length graph →
      get_or used a true ≡ false
  is_new a used free level climb few = new_if (get_or used a true) refl
    where
      new_if : (b : Bool) → get_or used a true ≡ b → get_or used a true ≡ false
      new_if false e = e
      new_if true e =
          absurd (free a (0, refl)
          (climb a (get_or_default used a false true (omega (arith, few, level)) ∙ e)))

  abbrev Settles : ℕ → Type 0
  Settles depth =
      (a : ℕ) (used : List Bool) → HasNoRing graph a → length used ≡ length graph →
      ((v : ℕ) → get_or used v false ≡ true → IsBelow graph v a) → unmarked used ≤ depth →
      walk_at graph (suc depth) a ≡ walk_at graph depth a

  next : (d : ℕ) → Settles d → (a : ℕ) (used : List Bool) → HasNoRing graph a →
      length used ≡ length graph →
      ((v : ℕ) → get_or used v false ≡ true → IsBelow graph v a) → a < length graph →
      unmarked used ≤ suc d → walk_at graph (suc (suc d)) a ≡ walk_at graph (suc d) a
  next d more a used free level climb few small =
      let less = one_less used a (is_new a used free level climb few) in
      there (suc d) a few
      ∙ ap (λ l. a ∷ l) (alike (walk_at graph (suc d)) (walk_at graph d) (targets graph a)
      (λ t edge.
      more t (set used a true) (free_on a t edge free) (length-set used a true ∙ level)
      (λ v marked. ⊎_elim
      (λ (e : v ≡ a). (t, subst (λ (k : ℕ). Contains (targets graph k) t) (sym e) edge, (0, refl)))
      (λ (differs : v ≢ a). below_on graph v a t
      (climb v (sym (get_or-set_other used a v true false differs) ∙ marked)) edge)
      (cases_eq v a))
      (omega (arith, less, small))))
      ∙ sym (there d a few)

  settles : (depth : ℕ) → Settles depth
  settles zero a used free level climb small = ⊎_elim
      (λ (few : a < length graph). let less = one_less used a
      (is_new a used free level climb few) in absurd (omega (arith, less, small)))
      (λ (past : length graph ≤ a). gone (suc zero) a past)
      (cases_lt a (length graph))
  settles (suc d) a used free level climb small = ⊎_elim
      (λ (few : a < length graph). next d (settles d) a used free level climb few small)
      (λ (past : length graph ≤ a). gone (suc (suc d)) a past ∙ sym (gone (suc d) a past))
      (cases_lt a (length graph))

  pub settled : (start : ℕ) → HasNoRing graph start → IsWalk graph start (walk graph)
  settled start free = record {
    steps = λ n way few.
        let used : List Bool = replicate (length graph) false in
        let level = length-replicate (length graph) false in
        let all = none_marked used (no_mark (length graph)) in
        sym (settles (length graph) n used (λ c on self. free c (then graph start n c way on) self)
        level (λ v marked. absurd (no_mark (length graph) v marked))
        (omega (arith, all, level)))
        ∙ there (length graph) n few;
    beyond = λ n past. gone (length graph) n past;
  }
