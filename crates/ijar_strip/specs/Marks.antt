-- The marks of what stays, and entries and classes as items that lead to names.
use Rattle.std.specs.Prelude.{ℕ, ◌||◌, Bool, List, [], ◌++◌, map, option_to_list, unwrap_or}
use Rattle.std.specs.Option.{option_map_or}
use Rattle.class_desc.specs.declared.attribute.InnerEntry.{InnerEntry}
use Rattle.class_desc.specs.declared.attribute.Attr.{Attr, out-Attr}
use Rattle.class_desc.specs.declared.class.ClassDesc.{ClassDesc}
use Rattle.class_views.specs.View.{inner_in}
use Rattle.class_views.specs.Strip.{is_listed, is_inside, stays_entry}
use Rattle.class_views.specs.Kept.{is_no_local, super_names}
use Rattle.ijar_strip.specs.Links.{Linked}

-- an entry, where these are the names in the class of this name
abbrev pub entry_link : List (List ℕ) → List ℕ → InnerEntry → Linked
entry_link names class entry = record {
  begun = is_listed names entry.inner || is_inside entry class;
  name = entry.inner;
  leads = option_to_list entry.outer ++ [];
}

abbrev pub class_link : ClassDesc → Linked
class_link d = record {
  begun = is_no_local d;
  name = d.name;
  leads = super_names d;
}

-- the entries of an InnerClasses, and none of another attribute
abbrev pub entries_of : Attr → List InnerEntry
entries_of a = unwrap_or (inner_in (out-Attr a)) []

-- the marks of an attribute's entries, if it is an InnerClasses
abbrev pub attribute_marks : ClassDesc → Attr → List Bool
attribute_marks d a =
    option_map_or (λ entries. map (stays_entry d entries) entries) (inner_in (out-Attr a)) []
