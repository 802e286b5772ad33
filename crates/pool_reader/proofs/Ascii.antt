-- A text of bytes that are units by themselves is in modified UTF-8.
use Rattle.std.proofs.Common.{◌≡◌, ℕ, true, List, [], ◌∷◌, ◌++◌, refl, sym, ap}
use Rattle.std.proofs.Common.{◌∙◌, arith}
use Rattle.std.specs.List.{list_all, flat_map}
use Rattle.std.proofs.lemmas.Bool.{and_parts}
use Rattle.java_names.specs.ModifiedUtf8.{unit_bytes, IsModifiedUtf8}
use Rattle.java_names.specs.Units.{is_single_byte, is_modified_utf8}
use Rattle.java_names.proofs.Decoded.{test_accepts}
use Rattle.java_names.proofs.ModifiedUtf8.{single_parts, single_made}

are_units : (text : List ℕ) → list_all is_single_byte text ≡ true → IsModifiedUtf8 text
are_units [] e = record { units = []; fit = tt; whole = refl }
are_units (b ∷ text) e =
    let p = and_parts (is_single_byte b) (list_all is_single_byte text) e in
    let more = are_units text p.1 in
    record {
      units = b ∷ more.units;
      fit = (omega (arith, (single_parts b p.0).1), more.fit);
      whole = ap (λ (t : List ℕ). b ∷ t) more.whole
          ∙ ap (λ (f : List ℕ). f ++ flat_map unit_bytes more.units) (sym (single_made b p.0));
    }

pub ascii_is : (text : List ℕ)
    → list_all is_single_byte text ≡ true
    → true ≡ is_modified_utf8 text
ascii_is text e = sym (test_accepts text (are_units text e))
