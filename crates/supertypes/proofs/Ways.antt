-- Ways along supertypes.
use Rattle.std.proofs.Common.{◌≡◌, refl, sym, subst, ℕ, zero, suc, ◌<◌, List, [], length}
use Rattle.std.proofs.Common.{⊎_elim}
use Rattle.std.specs.Prelude.{Contains}
use Rattle.std.proofs.lemmas.List.{get_or_past}
use Rattle.std.proofs.lemmas.Bool.{cases_lt}
use Rattle.reachability.specs.Reached.{targets}
use Rattle.supertypes.specs.Ways.{HasWay, Reaches, IsBelow}
use Rattle.supertypes.proofs.Marked.{none}

module _ (graph : List (List ℕ)) where
  -- one step more
  pub reaches_on : (steps a b c : ℕ) → HasWay graph steps a b → Contains (targets graph b) c →
      Reaches graph a c
  reaches_on zero a b c way edge =
      (1, (c, subst (λ (k : ℕ). Contains (targets graph k) c) (sym way) edge, refl))
  reaches_on (suc steps) a b c way edge =
      let more = reaches_on steps way.0 b c way.2 edge in
      (suc more.0, (way.0, way.1, more.1))

  pub below_on : (a b c : ℕ) → IsBelow graph a b → Contains (targets graph b) c → IsBelow graph a c
  below_on a b c below edge = (below.0, below.1, reaches_on below.2.0 below.0 b c below.2.1 edge)

  -- what leads on is a class of the graph
  pub leads_in : (a b : ℕ) → Contains (targets graph a) b → a < length graph
  leads_in a b edge = ⊎_elim
      (λ few. few)
      (λ past. absurd (none b (subst (λ (l : List ℕ). Contains l b) (get_or_past graph a [] past)
      edge)))
      (cases_lt a (length graph))

  pub stays : (a : ℕ) → Reaches graph a a
  stays a = (0, refl)

  joined : (steps a b c : ℕ) → HasWay graph steps a b → Reaches graph b c → Reaches graph a c
  joined zero a b c way on = subst (λ (k : ℕ). Reaches graph k c) (sym way) on
  joined (suc steps) a b c way on =
      let more = joined steps way.0 b c way.2 on in (suc more.0, (way.0, way.1, more.1))

  pub then : (a b c : ℕ) → Reaches graph a b → Reaches graph b c → Reaches graph a c
  then a b c way on = joined way.0 a b c way.1 on

  -- a way, an edge, a way
  below_over : (steps a b c d : ℕ) → HasWay graph steps a b → Contains (targets graph b) c →
      Reaches graph c d → IsBelow graph a d
  below_over zero a b c d way edge on =
      (c, subst (λ (k : ℕ). Contains (targets graph k) c) (sym way) edge, on)
  below_over (suc steps) a b c d way edge on =
      let more = reaches_on steps way.0 b c way.2 edge in
      (way.0, way.1, then way.0 c d more on)

  pub below_by : (a b c d : ℕ) → Reaches graph a b → Contains (targets graph b) c →
      Reaches graph c d → IsBelow graph a d
  below_by a b c d way edge on = below_over way.0 a b c d way.1 edge on

  pub from_as : (a b c : ℕ) → a ≡ b → Reaches graph a c → Reaches graph b c
  from_as a b c same way = subst (λ (k : ℕ). Reaches graph k c) same way

  pub to_as : (a b c : ℕ) → b ≡ c → Reaches graph a b → Reaches graph a c
  to_as a b c same way = subst (λ (k : ℕ). Reaches graph a k) same way
