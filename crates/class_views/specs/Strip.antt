-- What remains of a class for its clients: no private members, no class initialiser, and of
-- InnerClasses (JVMS 4.7.6) the entries that tell of what remains.
use Rattle.std.specs.Prelude.{ℕ, ◌&&◌, ◌||◌, Bool, false, not, List, [], ◌∷◌, ◌++◌, ◌≤◌, length}
use Rattle.std.specs.Prelude.{filter, codes, is_some, option_to_list, unwrap_or}
use Rattle.std.specs.List.{flat_map, list_any}
use Rattle.std.specs.Option.{option_map_or}
use Rattle.class_desc.specs.declared.attribute.InnerEntry.{InnerEntry}
use Rattle.class_desc.specs.declared.attribute.Attr.{Attr, out-Attr}
use Rattle.class_desc.specs.declared.attribute.Attr.TheVariants.{InnerClasses}
use Rattle.class_desc.specs.declared.class.ClassDesc.{ClassDesc}
use Rattle.class_desc.specs.declared.class.FieldDesc.{FieldDesc}
use Rattle.class_desc.specs.declared.class.MethodDesc.{MethodDesc}
use Rattle.java_names.specs.Names.{is_text}
use Rattle.class_views.specs.View.{MemberView, View, inner_in, thrown_in, permitted_in}
use Rattle.class_views.specs.Flags.{is_private}
use Rattle.class_views.specs.Staying.{stays_in}

-- ---- members

abbrev pub stays_field : FieldDesc → Bool
stays_field f = not (is_private f.flags)

-- the class initialiser is known by its name alone: JVMS 2.9.2 asks for more, but no other method
-- may have that name (JVMS 4.6)
abbrev pub stays_method : MethodDesc → Bool
stays_method m = not (is_private m.flags) && not (is_text m.name (codes "<clinit>"))

-- ---- the names of classes in the stripped class

-- the classes of each Exceptions (JVMS 4.7.5)
abbrev pub thrown_names : MethodDesc → List (List ℕ)
thrown_names m = flat_map (λ a. unwrap_or (thrown_in (out-Attr a)) []) m.attrs

-- the classes of each PermittedSubclasses (JVMS 4.7.31)
abbrev pub permitted_names : List Attr → List (List ℕ)
permitted_names attributes = flat_map (λ a. unwrap_or (permitted_in (out-Attr a)) []) attributes

-- itself, its superclass, its superinterfaces, what its methods throw, its permitted subclasses
abbrev pub stripped_names : ClassDesc → List (List ℕ)
stripped_names d =
    d.name ∷ (option_to_list d.super_name ++ (d.interfaces
    ++ (flat_map thrown_names (filter stays_method d.methods) ++ permitted_names d.attrs)))

-- ---- InnerClasses

abbrev pub is_listed : List (List ℕ) → List ℕ → Bool
is_listed names name = list_any (is_text name) names

-- the outer class of the entry is the class of this name
abbrev pub is_inside : InnerEntry → List ℕ → Bool
is_inside entry name = option_map_or (is_text name) entry.outer false

-- an entry for a class that the stripped class names, or for a member of the class itself
abbrev pub entry_begins : ClassDesc → InnerEntry → Bool
entry_begins d entry = is_listed (stripped_names d) entry.inner || is_inside entry d.name

-- an entry names those for its outer class
abbrev pub names_entry : InnerEntry → InnerEntry → Bool
names_entry entry other = is_inside entry other.inner

-- whether an entry of this attribute stays
unfoldable pub stays_entry : ClassDesc → List InnerEntry → InnerEntry → Bool
stays_entry d entries = stays_in (entry_begins d) names_entry entries

-- the attribute with these entries, or none without entries
abbrev pub inner_classes : List InnerEntry → List Attr
inner_classes [] = []
inner_classes (entry ∷ entries) = InnerClasses (entry ∷ entries) ∷ []

-- each InnerClasses by itself; every other attribute stays
abbrev pub strip_attribute : ClassDesc → Attr → List Attr
strip_attribute d a =
    option_map_or
    (λ entries. inner_classes (filter (stays_entry d entries) entries))
    (inner_in (out-Attr a)) (a ∷ [])

abbrev pub strip_class : ClassDesc → ClassDesc
strip_class d = record {
  minor = d.minor;
  major = d.major;
  flags = d.flags;
  name = d.name;
  super_name = d.super_name;
  interfaces = d.interfaces;
  fields = filter stays_field d.fields;
  methods = filter stays_method d.methods;
  attrs = flat_map (strip_attribute d) d.attrs;
}

-- ---- the view

-- the class initialiser, which no client can call (JVMS 2.9.2)
abbrev pub is_class_initialiser : MemberView → Bool
is_class_initialiser m = is_text m.name (codes "<clinit>")

-- without private fields, private methods and the class initialiser
abbrev pub strip_view : View → View
strip_view v = record v {
  fields = filter (λ f. not (is_private f.flags)) v.fields;
  methods = filter (λ m. not (is_private m.flags) && not (is_class_initialiser m)) v.methods;
}

-- no two InnerClasses, as the grammar has it (JVMS 4.7.6)
abbrev pub HasOneInnerClasses : ClassDesc → Type 0
HasOneInnerClasses d = length (filter (λ a. is_some (inner_in (out-Attr a))) d.attrs) ≤ 1
