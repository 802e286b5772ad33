-- The only one of some interfaces above which none of them stands and whose method isn't abstract.
use Rattle.std.specs.Prelude.{◌≡◌, ◌⊎◌, ℕ, Bool, not, true, false, List, Option, Some, None}
use Rattle.std.specs.Prelude.{Contains}
use Rattle.std.specs.Option.{option_map_or}
use Rattle.class_views.specs.Flags.{is_abstract}
use Rattle.class_views.specs.Resolution.{NameAndType, interface_method_in, first_declared}
use Rattle.class_views.specs.Resolution.{from_superinterfaces}
use Rattle.class_views.specs.World.{World, walk}
use Rattle.client_view.specs.Members.{picked, declared_at}

-- the method that an interface of the number gives isn't abstract
abbrev pub is_concrete : World → NameAndType → ℕ → Bool
is_concrete world sought number =
    option_map_or (λ m. not (is_abstract m.flags))
    (picked world (interface_method_in sought) number) false

-- one of a list, not among those above
pub record Passes (world : World) (sought : NameAndType) (above list : List ℕ) (number : ℕ)
    : Type 0 where
  pub listed : Contains list number
  pub lone : Contains above number → ⊥
  pub concrete : is_concrete world sought number ≡ true

pub record IsOnly (world : World) (sought : NameAndType) (above list : List ℕ) (number : ℕ)
    : Type 0 where
  pub passes : Passes world sought above list number
  pub others : (other : ℕ) → Passes world sought above list other → other ≡ number

abbrev pub NonePasses : World → NameAndType → List ℕ → List ℕ → Type 0
NonePasses world sought above list = (number : ℕ) → Passes world sought above list number → ⊥

pub record TwoPass (world : World) (sought : NameAndType) (above list : List ℕ) : Type 0 where
  pub one : ℕ
  pub other : ℕ
  pub differ : one ≡ other → ⊥
  pub one_passes : Passes world sought above list one
  pub other_passes : Passes world sought above list other

abbrev pub IsSole : World → NameAndType → List ℕ → List ℕ → Option ℕ → Type 0
IsSole world sought above list None =
    NonePasses world sought above list ⊎ TwoPass world sought above list
IsSole world sought above list (Some number) = IsOnly world sought above list number

-- the same, where two have not been met
abbrev pub IsSoleYet : World → NameAndType → List ℕ → List ℕ → Option ℕ → Type 0
IsSoleYet world sought above list None = NonePasses world sought above list
IsSoleYet world sought above list (Some number) = IsOnly world sought above list number

-- what superinterfaces give is the method of the class, or the first one in the walk
abbrev pub IsChosen : World → List ℕ → NameAndType → Option ℕ → Type 0
IsChosen world name sought None =
    from_superinterfaces world name sought
    ≡ first_declared (interface_method_in sought) (walk world name)
IsChosen world name sought (Some number) =
    from_superinterfaces world name sought
    ≡ declared_at world (interface_method_in sought) number
