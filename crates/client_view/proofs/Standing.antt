-- Where the members of a class stand.
use Rattle.std.proofs.Common.{◌≡◌, refl, ap, sym, ◌∙◌, ℕ, Bool, true, false, cond, ◌&&◌, not, List}
use Rattle.std.proofs.Common.{[], Option, Some, None}
use Rattle.std.specs.Prelude.{slice_get, find, position, is_some}
use Rattle.std.specs.Option.{option_map_or}
use Rattle.java_names.specs.Names.{is_text}
use Rattle.class_desc.specs.declared.class.ClassDesc.{ClassDesc}
use Rattle.class_desc.specs.declared.class.FieldDesc.{FieldDesc}
use Rattle.class_desc.specs.declared.class.MethodDesc.{MethodDesc}
use Rattle.class_views.specs.Flags.{has_flag}
use Rattle.class_views.specs.Resolution.{is_meant, is_given, field_in, method_in}
use Rattle.class_views.specs.Resolution.{interface_method_in}
use Rattle.class_views.specs.View.{view_of_field, view_of_method, constant_in, first_attribute}
use Rattle.member_index.specs.Index.{names_by, fields_of, methods_of, passes_at}
use Rattle.member_index.proofs.Placed.{head_placed, find_placed}
use Rattle.client_view.specs.Members.{declares}
use Rattle.client_view.specs.Numbers.{views}
use Rattle.client_view.specs.Sought.{meant, fields_sought, methods_sought, holds_constant}
use Rattle.client_view.specs.Sought.{is_inherited, is_shared}
use Rattle.client_view.specs.declared.sought.Sought.{Sought}
use Rattle.client_view.proofs.Constants.{is_held}
use Rattle.client_view.proofs.Givens.{given_declares}
use Rattle.client_view.proofs.Meeting.{absent_declares, field_declares}
use Rattle.client_view.proofs.Methods.{method_declares}

and_assoc : (a b c : Bool) → (a && (b && c)) ≡ (a && b && c)
and_assoc true b c = refl
and_assoc false b c = refl

-- the members of a class that may not be there
abbrev fields_in : Option ClassDesc → List FieldDesc
fields_in o = option_map_or (λ (d : ClassDesc). d.fields) o []

abbrev methods_in : Option ClassDesc → List MethodDesc
methods_in o = option_map_or (λ (d : ClassDesc). d.methods) o []

module _ (classes : List ClassDesc) (class : ℕ) where
  -- ---- what is sought by name and descriptor

  module _ (sought : Sought) where
    abbrev is_field : FieldDesc → Bool
    is_field f = is_meant (meant sought) (view_of_field f)

    abbrev is_method : MethodDesc → Bool
    is_method m = is_meant (meant sought) (view_of_method m)

    fields_stand : slice_get (fields_sought classes class sought) 0
        ≡ position is_field (fields_of classes class)
    fields_stand = head_placed is_field (fields_of classes class)

    methods_stand : slice_get (methods_sought classes class sought) 0
        ≡ position is_method (methods_of classes class)
    methods_stand = head_placed is_method (methods_of classes class)

    chosen_stand : (more whole : MethodDesc → Bool) →
        ((m : MethodDesc) → (is_method m && more m) ≡ whole m) →
        find (passes_at more (methods_of classes class)) (methods_sought classes class sought)
        ≡ position whole (methods_of classes class)
    chosen_stand more whole same =
        find_placed is_method more whole same (methods_of classes class)

    pub field_has : (place : Option ℕ) →
        place ≡ slice_get (fields_sought classes class sought) 0 →
        is_some place ≡ declares (views classes) (field_in (meant sought)) class
    field_has place e = by (slice_get classes class) refl
      where
        by : (o : Option ClassDesc) → slice_get classes class ≡ o →
            is_some place ≡ declares (views classes) (field_in (meant sought)) class
        by None none =
            ap is_some (e ∙ fields_stand
            ∙ ap (λ o. position is_field (fields_in o)) none)
            ∙ sym (absent_declares classes class (field_in (meant sought)) none)
        by (Some d) at =
            field_declares classes class d (meant sought) at place
            (e ∙ fields_stand
            ∙ ap (λ o. position is_field (fields_in o)) at)

    pub method_has : (place : Option ℕ) →
        place ≡ slice_get (methods_sought classes class sought) 0 →
        is_some place ≡ declares (views classes) (method_in (meant sought)) class
    method_has place e = by (slice_get classes class) refl
      where
        by : (o : Option ClassDesc) → slice_get classes class ≡ o →
            is_some place ≡ declares (views classes) (method_in (meant sought)) class
        by None none =
            ap is_some (e ∙ methods_stand
            ∙ ap (λ o. position is_method (methods_in o)) none)
            ∙ sym (absent_declares classes class (method_in (meant sought)) none)
        by (Some d) at =
            method_declares classes class d (meant sought) at place
            (e ∙ methods_stand
            ∙ ap (λ o. position is_method (methods_in o)) at)

    module _ (d : ClassDesc) (at : slice_get classes class ≡ Some d) (place : Option ℕ) where
      pub field_stands : place ≡ slice_get (fields_sought classes class sought) 0 →
          place ≡ position is_field d.fields
      field_stands e =
          e ∙ fields_stand
          ∙ ap (λ o. position is_field (fields_in o)) at

      pub method_stands : place ≡ slice_get (methods_sought classes class sought) 0 →
          place ≡ position is_method d.methods
      method_stands e =
          e ∙ methods_stand
          ∙ ap (λ o. position is_method (methods_in o)) at

      chosen_stands : (more whole : MethodDesc → Bool) →
          ((m : MethodDesc) → (is_method m && more m) ≡ whole m) → (places : List ℕ) →
          places ≡ methods_sought classes class sought →
          find (passes_at more d.methods) places ≡ position whole d.methods
      chosen_stands more whole same places are =
          ap (find (passes_at more d.methods)) are
          ∙ sym (ap (λ o. find (passes_at more (methods_in o))
          (methods_sought classes class sought)) at)
          ∙ chosen_stand more whole same
          ∙ ap (λ o. position whole (methods_in o)) at

      abbrev pub given : Option ℕ
      given =
          cond (has_flag 0x0200 d.flags)
          (position (λ m. is_given (meant sought) (view_of_method m)) d.methods) None

      pub given_stands : (places : List ℕ) → places ≡ methods_sought classes class sought →
          place ≡ cond (has_flag 0x0200 d.flags)
          (find (passes_at is_inherited d.methods) places) None → place ≡ given
      given_stands places are e =
          e ∙ ap (λ o. cond (has_flag 0x0200 d.flags) o None)
          (chosen_stands is_inherited (λ m. is_given (meant sought) (view_of_method m))
          (λ m. and_assoc (is_method m) (not (has_flag 0x0002 m.flags))
          (not (has_flag 0x0008 m.flags))) places are)

      pub shared_stands : (methods : List MethodDesc) → methods ≡ d.methods →
          (places : List ℕ) → places ≡ methods_sought classes class sought →
          place ≡ find (passes_at is_shared methods) places →
          place ≡ position (λ m. is_method m && has_flag 0x0001 m.flags
          && not (has_flag 0x0008 m.flags)) d.methods
      shared_stands methods same places are e =
          e ∙ ap (λ l. find (passes_at is_shared l) places) same
          ∙ chosen_stands is_shared (λ m. is_method m && has_flag 0x0001 m.flags
          && not (has_flag 0x0008 m.flags))
          (λ m. and_assoc (is_method m) (has_flag 0x0001 m.flags)
          (not (has_flag 0x0008 m.flags))) places are

      pub given_has : (places : List ℕ) → places ≡ methods_sought classes class sought →
          place ≡ cond (has_flag 0x0200 d.flags)
          (find (passes_at is_inherited d.methods) places) None →
          is_some place ≡ declares (views classes) (interface_method_in (meant sought)) class
      given_has places are e =
          given_declares classes class d (meant sought) at place (given_stands places are e)

  -- ---- fields of a name

  module _ (d : ClassDesc) (at : slice_get classes class ≡ Some d) (name : List ℕ)
      (places : List ℕ) (are : places ≡ names_by classes class name) (place : Option ℕ) where
    abbrev is_named : FieldDesc → Bool
    is_named f = is_text f.name name

    pub named_stands : place ≡ slice_get places 0 → place ≡ position is_named d.fields
    named_stands e =
        e ∙ ap (λ l. slice_get l 0) are ∙ head_placed is_named (fields_of classes class)
        ∙ ap (λ o. position is_named (fields_in o)) at

    pub constant_stands : (fields : List FieldDesc) → fields ≡ d.fields →
        place ≡ find (passes_at holds_constant fields) places →
        place ≡ position (λ f. is_held name (view_of_field f)) d.fields
    constant_stands fields same e =
        e ∙ ap (λ l. find (passes_at holds_constant l) places)
        (same ∙ sym (ap fields_in at))
        ∙ ap (find (passes_at holds_constant (fields_of classes class))) are
        ∙ find_placed is_named holds_constant (λ f. is_held name (view_of_field f))
        (λ f. and_assoc (is_named f) (has_flag 0x0010 f.flags)
        (is_some (first_attribute constant_in f.attrs))) (fields_of classes class)
        ∙ ap (λ o. position (λ f. is_held name (view_of_field f))
        (fields_in o)) at
