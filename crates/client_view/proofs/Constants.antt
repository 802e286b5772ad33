-- The first field of a class that has a constant, or a name, by its place.
use Rattle.std.proofs.Common.{◌≡◌, refl, ℕ, Bool, ◌||◌, ◌&&◌, List, []}
use Rattle.std.proofs.Common.{◌∷◌, Option, Some, None}
use Rattle.std.specs.Prelude.{slice_get, position, is_some}
use Rattle.std.specs.Option.{option_or}
use Rattle.std.specs.List.{list_any}
use Rattle.class_desc.specs.declared.attribute.Attr.{Attr, out-Attr}
use Rattle.class_desc.specs.declared.class.ClassDesc.{ClassDesc}
use Rattle.class_desc.specs.declared.value.Value.{Value}
use Rattle.class_views.specs.Query.{is_final_field}
use Rattle.class_views.specs.View.{MemberView, view_of_field, constant_in, first_attribute}
use Rattle.client_view.specs.Members.{declared_at, constant_in_class, field_named_in, Meets}
use Rattle.java_names.specs.Names.{is_text}
use Rattle.client_view.specs.Numbers.{views}
use Rattle.client_view.specs.Replies.{fields_of}
use Rattle.client_view.specs.declared.members.Met.{Met}
use Rattle.client_view.proofs.Choosing.{chosen_meets}
use Rattle.client_view.proofs.Meeting.{AtPlace}

-- some attribute holds a constant
pub any_held : (attributes : List Attr) →
    list_any (λ a. is_some (constant_in (out-Attr a))) attributes
    ≡ is_some (first_attribute constant_in attributes)
any_held [] = refl
any_held (a ∷ attributes) = by (constant_in (out-Attr a)) (any_held attributes)
  where
    by : (o : Option Value) → list_any (λ x. is_some (constant_in (out-Attr x))) attributes
        ≡ is_some (first_attribute constant_in attributes) →
        (is_some o || list_any (λ x. is_some (constant_in (out-Attr x))) attributes)
        ≡ is_some (option_or o (first_attribute constant_in attributes))
    by None more = more
    by (Some value) more = refl

abbrev pub is_held : List ℕ → MemberView → Bool
is_held name m = is_final_field name m && is_some m.constant

pub constant_meets : (classes : List ClassDesc) (n : ℕ) (d : ClassDesc) (name : List ℕ) →
    slice_get classes n ≡ Some d → (place : Option ℕ) →
    place ≡ position (λ f. is_held name (view_of_field f)) d.fields → (met : Option Met) →
    AtPlace d n place met →
    Meets (views classes) fields_of met (declared_at (views classes) (constant_in_class name) n)
constant_meets classes n d name at place e met tells =
    chosen_meets (λ x. x.fields) view_of_field (λ f. f.flags) (λ f. refl) fields_of (λ x. refl)
    classes n d at (constant_in_class name) (is_held name) refl place e met tells

-- ---- the first field of a name

pub named_meets : (classes : List ClassDesc) (n : ℕ) (d : ClassDesc) (name : List ℕ) →
    slice_get classes n ≡ Some d → (place : Option ℕ) →
    place ≡ position (λ f. is_text f.name name) d.fields → (met : Option Met) →
    AtPlace d n place met →
    Meets (views classes) fields_of met (declared_at (views classes) (field_named_in name) n)
named_meets classes n d name at place e met tells =
    chosen_meets (λ x. x.fields) view_of_field (λ f. f.flags) (λ f. refl) fields_of (λ x. refl)
    classes n d at (field_named_in name) (λ m. is_text m.name name) refl place e met tells
