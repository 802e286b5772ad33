-- When a world shows less than another one: classes have lost members that no client can call,
-- and some classes are gone. It is told by look-ups alone, so no order of classes matters.
use Rattle.std.specs.Prelude.{◌≡◌, ℕ, Bool, true, false, ◌||◌, List, [], ◌∷◌}
use Rattle.std.specs.List.{list_any}
use Rattle.class_desc.specs.ClassFile.{object_name}
use Rattle.class_views.specs.Alike.{Both}
use Rattle.class_views.specs.Flags.{is_private}
use Rattle.class_views.specs.Query.{without_members}
use Rattle.class_views.specs.Strip.{is_class_initialiser, is_listed}
use Rattle.class_views.specs.View.{View, MemberView}
use Rattle.class_views.specs.World.{World, class_of, supertypes}

-- the second list is the first one, in its order, without some of the items that may go
pub data LeftOf {A : Type 0} (may_go : A → Bool) : List A → List A → Type 0 where
  ends : LeftOf may_go [] []
  stays : {x : A} {xs ys : List A} → LeftOf may_go xs ys → LeftOf may_go (x ∷ xs) (x ∷ ys)
  goes : {x : A} {xs ys : List A} → may_go x ≡ true → LeftOf may_go xs ys →
      LeftOf may_go (x ∷ xs) ys

-- nothing private is accessible to a client, which has a nest of its own (JVMS 5.4.4)
abbrev pub field_may_go : MemberView → Bool
field_may_go f = is_private f.flags

-- nor can it call a class initialiser (JVMS 2.9.2)
abbrev pub method_may_go : MemberView → Bool
method_may_go m = is_private m.flags || is_class_initialiser m

-- the second class has all of the first one but for members that may go
pub record Shows (full less : View) : Type 0 where
  pub same : without_members less ≡ without_members full
  pub fields : LeftOf field_may_go full.fields less.fields
  pub methods : LeftOf method_may_go full.methods less.methods

-- classes that a name has in the two worlds, by the names of those read and of those gone
pub record StandsFor (read gone : List (List ℕ)) (full less : View) : Type 0 where
  pub shows : Shows full less
  -- a class that stays names none as a supertype that is gone
  pub closed : list_any (is_listed gone) (supertypes full) ≡ false
  -- a class that wasn't read is as it was
  pub unread : is_listed read full.name ≡ false → less ≡ full

-- each name that isn't gone has a class in both worlds or in neither; java/lang/Object, which is
-- looked up by its name, isn't gone
pub record ShowsLess (read gone : List (List ℕ)) (world less : World) : Type 0 where
  pub object_stays : is_listed gone object_name ≡ false
  pub classes : (name : List ℕ) → is_listed gone name ≡ false →
      Both (StandsFor read gone) (class_of world name) (class_of less name)
