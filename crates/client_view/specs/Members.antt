-- What a class declares, by the number of the class.
use Rattle.std.specs.Prelude.{◌≡◌, ℕ, Bool, List, slice_get, Option, Some, None, option_map}
use Rattle.std.specs.Prelude.{is_some}
use Rattle.std.specs.Prelude.{option_and_then, find, ◌&&◌, if◌then◌else◌}
use Rattle.java_names.specs.Names.{is_text}
use Rattle.class_views.specs.Query.{is_final_field}
use Rattle.class_views.specs.View.{View, MemberView}
use Rattle.class_views.specs.World.{World}
use Rattle.class_views.specs.Flags.{access_of}
use Rattle.class_views.specs.Access.{Client, may_access}
use Rattle.class_views.specs.Resolution.{Declared, NameAndType, declared_by}
use Rattle.client_view.specs.declared.members.Met.{Met}
use Rattle.client_view.specs.declared.reply.MemberAt.{MemberAt}
use Rattle.client_view.specs.declared.reply.Reply.{Reply}
use Rattle.client_view.specs.declared.reply.Reply.TheVariants as reply

abbrev pub named : List ℕ → List ℕ → NameAndType
named name descriptor = record { name = name; descriptor = descriptor }

-- the member that a way to choose one takes in the class of a number
abbrev pub picked : World → (View → Option MemberView) → ℕ → Option MemberView
picked world choice number = option_and_then choice (slice_get world number)

abbrev pub declares : World → (View → Option MemberView) → ℕ → Bool
declares world choice number = is_some (picked world choice number)

-- the same, with the class
abbrev pub declared_at : World → (View → Option MemberView) → ℕ → Option Declared
declared_at world choice number =
    option_and_then (declared_by choice) (slice_get world number)

-- the member of a place, among the fields or the methods
abbrev pub member_at : World → (View → List MemberView) → MemberAt → Option Declared
member_at world members at =
    option_and_then
    (λ c. option_map (λ m. record { declarer = c; member = m }) (slice_get (members c) at.index))
    (slice_get world at.class)

-- a place and the flags of the member there
pub record IsMet (world : World) (members : View → List MemberView) (met : Met)
    (declared : Declared) : Type 0 where
  pub there : member_at world members met.at ≡ Some declared
  pub flags : met.flags ≡ declared.member.flags

pub record HasMet (world : World) (members : View → List MemberView) (met : Met)
    (sought : Option Declared) : Type 0 where
  pub declared : Declared
  pub is : sought ≡ Some declared
  pub place : IsMet world members met declared

-- the place of what is sought, or that there is nothing
abbrev pub Meets : World → (View → List MemberView) → Option Met → Option Declared → Type 0
Meets world members None sought = sought ≡ None
Meets world members (Some met) sought = HasMet world members met sought

-- the place, if a client may access the member of these flags that the class declares
abbrev pub replied : World → Client → View → Met → Reply MemberAt
replied world client c met =
    if may_access world client c.name (access_of met.flags)
    then reply.Found met.at
    else reply.NotAccessible met.at.class

-- ---- what a class itself declares

-- the first final field of a name that has a constant
abbrev pub constant_in_class : List ℕ → View → Option MemberView
constant_in_class name c = find (λ m. is_final_field name m && is_some m.constant) c.fields

-- the first field of a name
abbrev pub field_named_in : List ℕ → View → Option MemberView
field_named_in name c = find (λ m. is_text m.name name) c.fields
