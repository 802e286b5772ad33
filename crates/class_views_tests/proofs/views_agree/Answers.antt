use Rattle.std.proofs.Common.{◌≡◌, List, [], ◌∷◌, map, refl, ap}
use Rattle.class_desc.specs.declared.attribute.Attr.{roll-Attr, out-Attr, out-roll-Attr}
use Rattle.class_views.specs.View.{Layer, field_view, method_view, class_view}
use Rattle.class_views_tests.specs.Views.{everywhere, field_f, method_m, with_attributes}
use Rattle.class_views_tests.proofs.views_agree.Goals as goal

held : (layers : List Layer) → map out-Attr (map roll-Attr layers) ≡ layers
held [] = refl
held (layer ∷ layers) = λ i. out-roll-Attr layer i ∷ held layers i

pub returns-clause-field : goal.returns-clause-field
returns-clause-field c = ap (field_view field_f) (held everywhere)

pub returns-clause-method : goal.returns-clause-method
returns-clause-method c = ap (method_view method_m) (held everywhere)

pub returns-clause-class : goal.returns-clause-class
returns-clause-class c = ap (class_view (with_attributes everywhere)) (held everywhere)

pub returns-clause-plain : goal.returns-clause-plain
returns-clause-plain c = refl
