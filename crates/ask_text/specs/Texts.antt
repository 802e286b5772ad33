-- The texts of what is found.
use Rattle.std.specs.Prelude.{ℕ, Bool, true, false, List, ◌++◌, codes}
use Rattle.std.specs.Prelude.{Option, unwrap_or}
use Rattle.std.specs.List.{flat_map}
use Rattle.std.specs.Int.{w16, w32, w64, to_be_bytes}
use Rattle.std.specs.Fmt.{signed_decimal}
use Rattle.hex.specs.Hex.{encode_lower}
use Rattle.class_desc.specs.declared.value.Value.{Value}
use Rattle.class_desc.specs.declared.value.Value.TheVariants as value
use Rattle.class_desc.specs.declared.annotation.AnnDesc.{AnnDesc, out-AnnDesc}
use Rattle.class_desc.specs.declared.bound_annotations.Ann.{Ann}

abbrev pub behind_blank : List ℕ → List ℕ
behind_blank text = codes " " ++ text

-- each behind a blank
abbrev pub blanked : List (List ℕ) → List ℕ
blanked texts = flat_map behind_blank texts

-- four hexadecimal digits
abbrev pub flags_text : ℕ → List ℕ
flags_text flags = encode_lower (to_be_bytes w16 flags)

abbrev pub superclass_text : Option (List ℕ) → List ℕ
superclass_text name = behind_blank (unwrap_or name (codes "-"))

-- numbers in decimal, with their sign; bits as all their hexadecimal digits, and bytes as two each
abbrev pub constant_text : Value → List ℕ
constant_text (value.Integer number) = codes " int " ++ signed_decimal number
constant_text (value.Long number) = codes " long " ++ signed_decimal number
constant_text (value.Raw32 bits) = codes " float " ++ encode_lower (to_be_bytes w32 bits)
constant_text (value.Raw64 bits) = codes " double " ++ encode_lower (to_be_bytes w64 bits)
constant_text (value.Str text) = codes " text " ++ encode_lower text

-- an annotation's descriptor behind a blank and a sign
abbrev pub signed_text : List ℕ → AnnDesc → List ℕ
signed_text sign annotation = behind_blank sign ++ (out-AnnDesc annotation).descriptor

abbrev pub signed_texts : List ℕ → List AnnDesc → List ℕ
signed_texts sign annotations = flat_map (signed_text sign) annotations

-- '+' for a visible annotation (JVMS 4.7.16), '-' for an invisible one (JVMS 4.7.17)
abbrev pub sign_of : Bool → List ℕ
sign_of true = codes "+"
sign_of false = codes "-"

abbrev pub annotation_text : Ann → List ℕ
annotation_text annotation = signed_text (sign_of annotation.visible) annotation.desc

abbrev pub annotation_texts : List Ann → List ℕ
annotation_texts annotations = flat_map annotation_text annotations
