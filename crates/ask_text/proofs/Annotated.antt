-- Annotations that are found in a description, and their texts.
use Rattle.std.proofs.Common.{◌≡◌, Bool, true, false, List, [], ◌∷◌, ◌++◌, map, refl, sym, ap, ◌∙◌}
use Rattle.std.specs.Prelude.{Option, Some, None, option_map, find, codes}
use Rattle.std.specs.Borrow.{Bor}
use Rattle.std.proofs.lemmas.Grind.{flat_map-append}
use Rattle.std.proofs.lemmas.Option.{same_Some}
use Rattle.class_desc.specs.declared.annotation.AnnDesc.{AnnDesc}
use Rattle.class_desc.specs.declared.attribute.Attr.{Attr, out-Attr}
use Rattle.class_desc.specs.declared.bound_annotations.Ann.{Ann}
use Rattle.class_views.specs.View.{MemberView, annotations_of}
use Rattle.client_view.proofs.Placed.{find_map}
use Rattle.ask_text.specs.Texts.{signed_text, signed_texts, sign_of, annotation_text}
use Rattle.ask_text.specs.Texts.{annotation_texts}

abbrev of_attributes : List Attr → List Ann
of_attributes attributes = annotations_of (map out-Attr attributes)

module _ {X : Type 0} (view : X → MemberView) (attributes : X → List Attr) where
  through : (found : Option (Bor (List Attr))) (o : Option X)
      → ((x : X) → (view x).annotations ≡ of_attributes (attributes x))
      → option_map (λ (a : Bor (List Attr)). a.now) found ≡ option_map attributes o
      → option_map (λ (a : Bor (List Attr)). of_attributes a.now) found
      ≡ option_map (λ (m : MemberView). m.annotations) (option_map view o)
  through None None seen e = refl
  through None (Some x) seen e = absurd cc
  through (Some a) None seen e = absurd cc
  through (Some a) (Some x) seen e =
      ap Some (ap of_attributes (same_Some a.now (attributes x) e) ∙ sym (seen x))

  -- the attributes of the first member that passes a test have its annotations
  pub annotations_through : (test : MemberView → Bool) (xs : List X)
      (found : Option (Bor (List Attr)))
      → ((x : X) → (view x).annotations ≡ of_attributes (attributes x))
      → option_map (λ (a : Bor (List Attr)). a.now) found
      ≡ option_map attributes (find (λ x. test (view x)) xs)
      → option_map (λ (a : Bor (List Attr)). of_attributes a.now) found
      ≡ option_map (λ (m : MemberView). m.annotations) (find test (map view xs))
  annotations_through test xs found seen is =
      through found (find (λ x. test (view x)) xs) seen is
      ∙ sym (ap (option_map (λ (m : MemberView). m.annotations)) (find_map view test xs))

-- ---- texts

abbrev bound : Bool → AnnDesc → Ann
bound visible annotation = record { visible = visible; desc = annotation }

texts_bound : (visible : Bool) (annotations : List AnnDesc)
    → annotation_texts (map (bound visible) annotations)
    ≡ signed_texts (sign_of visible) annotations
texts_bound visible [] = refl
texts_bound visible (a ∷ annotations) =
    ap (λ t. signed_text (sign_of visible) a ++ t) (texts_bound visible annotations)

-- the visible ones, and behind them the invisible ones
pub texts_of_both : (visible invisible : List AnnDesc)
    → annotation_texts (map (bound true) visible ++ map (bound false) invisible)
    ≡ signed_texts (codes "+") visible ++ signed_texts (codes "-") invisible
texts_of_both visible invisible =
    flat_map-append annotation_text (map (bound true) visible) (map (bound false) invisible)
    ∙ ap (λ t. t ++ annotation_texts (map (bound false) invisible)) (texts_bound true visible)
    ∙ ap (λ t. signed_texts (codes "+") visible ++ t) (texts_bound false invisible)
