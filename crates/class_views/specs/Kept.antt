-- Which classes of a list are written: no local and no anonymous ones, unless one that is written
-- names them as a supertype.
use Rattle.std.specs.Prelude.{ℕ, ◌&&◌, Bool, not, List, ◌++◌, map, filter, Option, Some, None}
use Rattle.std.specs.Prelude.{is_none, option_to_list, if◌then◌else◌}
use Rattle.std.specs.List.{list_any}
use Rattle.class_desc.specs.declared.attribute.InnerEntry.{InnerEntry}
use Rattle.class_desc.specs.declared.class.ClassDesc.{ClassDesc}
use Rattle.class_desc.specs.ClassFile.{object_name}
use Rattle.java_names.specs.Names.{is_text}
use Rattle.class_views.specs.View.{inner_in, listed_in}
use Rattle.class_views.specs.Staying.{stays_in}
use Rattle.class_views.specs.Strip.{is_listed, strip_class}

-- an entry for the class of this name, and that one has no outer class
abbrev pub is_own_local : List ℕ → InnerEntry → Bool
is_own_local name entry = is_none entry.outer && is_text entry.inner name

-- an entry for itself in the first InnerClasses has no outer class (JVMS 4.7.6); java/lang/Object
-- is in no other class
abbrev pub is_local : ClassDesc → Bool
is_local d =
    not (is_text d.name object_name)
    && list_any (is_own_local d.name) (listed_in inner_in d.attrs)

abbrev pub is_no_local : ClassDesc → Bool
is_no_local d = not (is_local d)

-- the superclass and the superinterfaces
abbrev pub super_names : ClassDesc → List (List ℕ)
super_names d = option_to_list d.super_name ++ d.interfaces

abbrev pub names_class : ClassDesc → ClassDesc → Bool
names_class d other = is_listed (super_names d) other.name

unfoldable pub is_kept : List ClassDesc → ClassDesc → Bool
is_kept list = stays_in is_no_local names_class list

-- the kept classes stripped, in their order
abbrev pub strip_set : List ClassDesc → List ClassDesc
strip_set list = map strip_class (filter (is_kept list) list)

-- the same in place: nothing where a class is removed
abbrev pub strip_each : List ClassDesc → List (Option ClassDesc)
strip_each list = map (λ d. if is_kept list d then Some (strip_class d) else None) list
