-- A question that succeeds over a list, and whose answer is another one over what is left.
use Rattle.std.proofs.Common.{◌≡◌, refl, sym, ap, ◌∙◌, List, [], ◌++◌, map, append-nil, false}
use Rattle.class_desc.specs.declared.class.ClassDesc.{ClassDesc}
use Rattle.class_views.specs.Query.{Query, Finding, Answer, Found, class_asked, ask}
use Rattle.class_views.specs.Strip.{is_listed}
use Rattle.class_views.specs.View.{view_of_desc}
use Rattle.class_views.specs.World.{World}
use Rattle.projection.specs.Stripping.{removed_names}
use Rattle.class_views_tests.specs.Classes.{stranger}
use Rattle.projection.specs.Survives.{asks_members, asks_initialiser, IsClientQuery}
use Rattle.projection.specs.Written.{KeepsAnswers}

module _ (list left : List ClassDesc) (full less : World) (are : map view_of_desc list ≡ full)
    (left_are : map view_of_desc left ≡ less) (query : Query) (finding : Finding)
    (other : Answer) where
  pub lost : is_listed (removed_names list) (class_asked query) ≡ false →
      asks_initialiser query ≡ false → asks_members query ≡ false →
      ask full stranger query ≡ Found finding → ask less stranger query ≡ other →
      (other ≡ Found finding → ⊥) → KeepsAnswers list left → ⊥
  lost stays plain_name plain found changed differ keeps =
      let before : ask (map view_of_desc list ++ []) stranger query ≡ Found finding =
      ap (λ world. ask world stranger query) (append-nil (map view_of_desc list) ∙ are) ∙ found in
      let after : ask (map view_of_desc left ++ []) stranger query ≡ other =
      ap (λ world. ask world stranger query) (append-nil (map view_of_desc left) ∙ left_are)
      ∙ changed in
      let asked : IsClientQuery (removed_names list) stranger query = record {
        class_stays = stays;
        superclass_stays = refl;
        no_initialiser = plain_name;
      } in
      differ (sym after
      ∙ (keeps.resolution [] stranger query refl asked plain (finding, before) ∙ before))
