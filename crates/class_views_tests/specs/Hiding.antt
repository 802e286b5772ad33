-- Private members that hide.
use Rattle.std.specs.Prelude.{◌≡◌, ℕ, Bool, true, false, List, [], ◌∷◌, map, codes}
use Rattle.class_views.specs.World.{World}
use Rattle.class_views.specs.Query.{Query, is_hidden}
use Rattle.class_views_tests.specs.Classes.{int_field, method, class, subclass, field_x, member_x}
use Rattle.class_views_tests.specs.Classes.{method_m, member_m}

abbrev pub with_private : World
with_private =
    class (codes "A") [] (int_field 0x0001 (codes "x") ∷ []) (method 0x0003 (codes "m") ∷ [])
    ∷ subclass (codes "B") (codes "A") [] (int_field 0x0002 (codes "x") ∷ []) []
    ∷ subclass (codes "C") (codes "B") [] [] (method 0x0002 (codes "n") ∷ [])
    ∷ []

-- the names of the classes read, a question, and whether a private member hides its answer
abbrev pub hiding_rows : List (List (List ℕ) × Query × Bool)
hiding_rows =
    (codes "A" ∷ codes "B" ∷ codes "C" ∷ [], member_x (codes "C"), true)
    ∷ (codes "A" ∷ codes "C" ∷ [], member_x (codes "C"), false)
    ∷ (codes "B" ∷ [], member_x (codes "A"), false)
    ∷ (codes "B" ∷ [], field_x (codes "C"), false)
    ∷ (codes "A" ∷ [], member_m (codes "C"), true)
    ∷ (codes "B" ∷ codes "C" ∷ [], member_m (codes "C"), false)
    ∷ (codes "A" ∷ [], method_m (codes "C"), false)
    ∷ (codes "A" ∷ [], member_m (codes "Gone"), false)
    ∷ []

abbrev pub HidingAgrees : Type 0
HidingAgrees =
    map (λ row. is_hidden with_private row.0 row.1) hiding_rows ≡ map (λ row. row.2) hiding_rows
