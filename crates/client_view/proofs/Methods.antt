-- The methods of a class by their places.
use Rattle.std.proofs.Common.{◌≡◌, refl, ℕ, ◌<◌, List, length, Option, Some}
use Rattle.std.specs.Prelude.{slice_get, position, is_some, IfSome}
use Rattle.class_desc.specs.declared.class.ClassDesc.{ClassDesc}
use Rattle.class_desc.specs.declared.class.MethodDesc.{MethodDesc}
use Rattle.class_views.specs.View.{view_of_method}
use Rattle.class_views.specs.Resolution.{NameAndType, is_meant, method_in}
use Rattle.client_view.specs.Members.{declares, declared_at, Meets}
use Rattle.client_view.specs.Numbers.{views}
use Rattle.client_view.specs.Replies.{methods_of}
use Rattle.client_view.specs.declared.members.Met.{Met}
use Rattle.client_view.proofs.Choosing.{Tells, chosen_declares, chosen_meets, chosen_small}

abbrev pub items : ClassDesc → List MethodDesc
items d = d.methods

abbrev pub flags_of : MethodDesc → ℕ
flags_of m = m.flags

-- what a place tells
abbrev pub MethodTells : ClassDesc → ℕ → Option ℕ → Option Met → Type 0
MethodTells d n place met =
    Tells items view_of_method flags_of (λ m. refl) methods_of (λ e. refl) d n place met

pub method_small : (d : ClassDesc) (n : ℕ) (place : Option ℕ) (met : Option Met) →
    MethodTells d n place met → IfSome place (λ i. i < length d.methods) → (size : ℕ) →
    n < size → IfSome met (λ m. m.at.class < size)
method_small d n place met tells within size few =
    chosen_small items view_of_method flags_of (λ m. refl) methods_of (λ e. refl) d n place met
    tells within size few

module _ (classes : List ClassDesc) (n : ℕ) (d : ClassDesc) (sought : NameAndType)
    (at : slice_get classes n ≡ Some d) where
  pub method_declares : (o : Option ℕ) →
      o ≡ position (λ m. is_meant sought (view_of_method m)) d.methods →
      is_some o ≡ declares (views classes) (method_in sought) n
  method_declares o e =
      chosen_declares items view_of_method flags_of (λ m. refl) methods_of (λ e. refl) classes n d
      at (method_in sought) (is_meant sought) refl o e

  pub method_meets : (o : Option ℕ) →
      o ≡ position (λ m. is_meant sought (view_of_method m)) d.methods → (met : Option Met) →
      MethodTells d n o met →
      Meets (views classes) methods_of met (declared_at (views classes) (method_in sought) n)
  method_meets o e met tells =
      chosen_meets items view_of_method flags_of (λ m. refl) methods_of (λ e. refl) classes n d
      at (method_in sought) (is_meant sought) refl o e met tells
