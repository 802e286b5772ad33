-- The `default` of a method, found by whether a group was met.
use Rattle.std.proofs.Common.{◌≡◌, refl, sym, ◌∙◌, ap, ◌==◌, Bool, true, false, ◌&&◌, ◌||◌}
use Rattle.std.proofs.Common.{if◌then◌else◌, List, [], ◌∷◌, Some}
use Rattle.std.specs.List.{list_any}
use Rattle.segments.specs.Places.{behind_item}
use Rattle.java_grammar.specs.Tests.{is_group_start}
use Rattle.java_grammar.specs.Counts.{Place, is_default, first_of, behind_place}
use Rattle.java_grammar.specs.Counts.{default_value}
use Rattle.java_grammar.specs.Running.{begins_default, behind_default}

same_first : {X : Type 0} (f g : List X → X → Bool) (xs : List X)
    → ((before : List X) (x : X) → f before x ≡ g before x) → first_of f xs ≡ first_of g xs
same_first f g [] h = refl
same_first f g (x ∷ xs) h =
    ap (λ b. if b then Some x else first_of (behind_item f x) xs) (h [] x)
    ∙ ap (λ o. if g [] x then Some x else o)
    (same_first (behind_item f x) (behind_item g x) xs (λ before y. h (x ∷ before) y))

or_or : (a b c : Bool) → (a || (b || c)) ≡ ((a || b) || c)
or_or true b c = refl
or_or false b c = refl

or_false : (a : Bool) → (a || false) ≡ a
or_false true = refl
or_false false = refl

abbrev pub is_group : Place → Bool
is_group at = is_group_start at.part

-- the same where a group was met already
abbrev pub begins_value_behind : Bool → List Place → Place → Bool
begins_value_behind met before at =
    is_default at.part && ((at.depth == 0) && (met || list_any is_group before))

met_first : (met : Bool) (at : Place) (others : List Place) (b : Bool)
    → begins_default at.depth at.part met ≡ b
    → behind_default (met || is_group at) others
    ≡ behind_place (first_of (begins_value_behind (met || is_group at)) others)
    → behind_default met (at ∷ others)
    ≡ behind_place (first_of (begins_value_behind met) (at ∷ others))
met_first met at others true e rest =
    let now : begins_value_behind met [] at ≡ true =
    ap (λ m. is_default at.part && ((at.depth == 0) && m)) (or_false met) ∙ e in
    rw e (rw now refl)
met_first met at others false e rest =
    let now : begins_value_behind met [] at ≡ false =
    ap (λ m. is_default at.part && ((at.depth == 0) && m)) (or_false met) ∙ e in
    let behind = same_first
    (behind_item (begins_value_behind met) at) (begins_value_behind (met || is_group at)) others
    (λ before x. ap (λ m. is_default x.part && ((x.depth == 0) && m))
    (or_or met (is_group at) (list_any is_group before))) in
    rw e (rw now (rest ∙ ap behind_place (sym behind)))

met_behind : (met : Bool) (places : List Place)
    → behind_default met places ≡ behind_place (first_of (begins_value_behind met) places)
met_behind met [] = refl
met_behind met (at ∷ others) = met_first
    met at others (begins_default at.depth at.part met) refl
    (met_behind (met || is_group at) others)

-- whether a group was met tells the first `default` behind one
pub default_is_met : (places : List Place) → behind_default false places ≡ default_value places
unfolding default_value
default_is_met places = met_behind false places
