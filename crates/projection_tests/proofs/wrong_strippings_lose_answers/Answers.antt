use Rattle.std.proofs.Common.{◌≡◌, true, List, [], ◌∷◌, ◌++◌, ℕ, map, length, codes, refl, ap}
use Rattle.std.proofs.Common.{Some, arith}
use Rattle.std.specs.Prelude.{pos}
use Rattle.class_desc.specs.ClassFile.{object_name}
use Rattle.class_desc.specs.declared.attribute.Attr.{roll-Attr, out-Attr, out-roll-Attr}
use Rattle.class_desc.specs.declared.value.Value.TheVariants.{Integer}
use Rattle.class_views.specs.Kept.{is_kept}
use Rattle.class_views.specs.Query.{ClassQuery, SupersQuery, ConstantQuery, AnnotationsQuery}
use Rattle.class_views.specs.Query.{FieldPart, ClassFound, MemberFound, ConstantFound}
use Rattle.class_views.specs.Query.{AnnotationsFound, Answer, Found, NotFound, ask}
use Rattle.class_views.specs.Resolution.{field_resolution}
use Rattle.class_views.specs.Staying.{staying_after}
use Rattle.class_views.specs.Supertypes.{fold_at}
use Rattle.class_views.specs.View.{Layer, field_view, view_of_desc}
use Rattle.class_views_tests.specs.Annotations.{annotation}
use Rattle.class_views_tests.specs.Classes.{field_x, int_field, class, subclass, type}
use Rattle.projection_tests.specs.Wrong.{x_field, a_with, a_of, below_a, five, visible}
use Rattle.projection_tests.proofs.Lost.{lost}
use Rattle.projection_tests.proofs.wrong_strippings_lose_answers.Goals as goal

held : (layers : List Layer) → map out-Attr (map roll-Attr layers) ≡ layers
held [] = refl
held (layer ∷ layers) = λ i. out-roll-Attr layer i ∷ held layers i

-- the view of A with the field x
seen : (flags : ℕ) (layers : List Layer) → map view_of_desc (a_with (x_field flags layers ∷ []))
    ≡ class (codes "A") [] (field_view (x_field flags layers) layers ∷ []) [] ∷ []
seen flags layers =
    ap (λ held. class (codes "A") [] (field_view (x_field flags layers) held ∷ []) [] ∷ [])
    (held layers)

-- the flags of a class that is found, and how many superinterfaces it has
abbrev flags_found : Answer → ℕ
flags_found (Found (ClassFound c)) = c.flags
flags_found other = 0

abbrev count_found : Answer → ℕ
count_found (Found (ClassFound c)) = length c.interfaces
count_found other = 0

pub returns : goal.returns
unfolding ask fold_at field_resolution is_kept staying_after
returns c = record {
  package_member =
      lost (a_with (x_field 0x0000 [] ∷ [])) (a_with [])
      (class (codes "A") [] (int_field 0x0000 (codes "x") ∷ []) [] ∷ [])
      (class (codes "A") [] [] [] ∷ []) refl refl (field_x (codes "A"))
      (MemberFound (codes "A") (int_field 0x0000 (codes "x"))) NotFound
      refl refl refl refl refl (λ e. absurd cc);
  static_member =
      lost (a_with (x_field 0x0009 [] ∷ [])) (a_with [])
      (class (codes "A") [] (int_field 0x0009 (codes "x") ∷ []) [] ∷ [])
      (class (codes "A") [] [] [] ∷ []) refl refl (field_x (codes "A"))
      (MemberFound (codes "A") (int_field 0x0009 (codes "x"))) NotFound
      refl refl refl refl refl (λ e. absurd cc);
  constant =
      lost (a_with (x_field 0x0019 (five ∷ []) ∷ [])) (a_with (x_field 0x0019 [] ∷ []))
      (class (codes "A") [] (field_view (x_field 0x0019 (five ∷ [])) (five ∷ []) ∷ []) []
      ∷ [])
      (class (codes "A") [] (int_field 0x0019 (codes "x") ∷ []) [] ∷ [])
      (seen 0x0019 (five ∷ [])) refl (ConstantQuery (codes "A") (codes "x"))
      (ConstantFound (Integer (pos 5))) NotFound
      refl refl refl refl refl (λ e. absurd cc);
  annotations =
      lost (a_with (x_field 0x0001 (visible ∷ []) ∷ [])) (a_with (x_field 0x0001 [] ∷ []))
      (class (codes "A") [] (field_view (x_field 0x0001 (visible ∷ [])) (visible ∷ []) ∷ []) []
      ∷ [])
      (class (codes "A") [] (int_field 0x0001 (codes "x") ∷ []) [] ∷ [])
      (seen 0x0001 (visible ∷ [])) refl
      (AnnotationsQuery (codes "A") (FieldPart (codes "x")))
      (AnnotationsFound (annotation true (codes "LV;") ∷ [])) (Found (AnnotationsFound []))
      refl refl refl refl refl (λ e. absurd cc);
  class_flags =
      lost (a_of 0x0021 []) (a_of 0x0031 []) (class (codes "A") [] [] [] ∷ [])
      (type 0x0031 (codes "A") (Some object_name) [] [] [] ∷ []) refl refl
      (ClassQuery (codes "A")) (ClassFound (class (codes "A") [] [] []))
      (Found (ClassFound (type 0x0031 (codes "A") (Some object_name) [] [] [])))
      refl refl refl refl refl (λ e. let flags : 0x0031 ≡ 0x0021 = ap flags_found e in omega arith);
  interfaces =
      lost (a_of 0x0021 (codes "I" ∷ [])) (a_of 0x0021 [])
      (class (codes "A") (codes "I" ∷ []) [] [] ∷ []) (class (codes "A") [] [] [] ∷ []) refl refl
      (SupersQuery (codes "A"))
      (ClassFound (class (codes "A") (codes "I" ∷ []) [] []))
      (Found (ClassFound (class (codes "A") [] [] [])))
      refl refl refl refl refl (λ e. let count : 0 ≡ 1 = ap count_found e in omega arith);
  superclass =
      lost (a_with [] ++ below_a) below_a
      (class (codes "A") [] [] [] ∷ subclass (codes "B") (codes "A") [] [] [] ∷ [])
      (subclass (codes "B") (codes "A") [] [] [] ∷ []) refl refl
      (ClassQuery (codes "A")) (ClassFound (class (codes "A") [] [] [])) NotFound
      refl refl refl refl refl (λ e. absurd cc);
}
