-- Names and dimensions at the front of bytes.
use Rattle.std.proofs.Common.{◌≡◌, sym, ap, ◌∙◌, subst, ℕ, ◌<◌, ◌==◌, ◌^◌, List, ◌∷◌, length}
use Rattle.std.proofs.Common.{take, drop, Result, Ok, Err}
use Rattle.std.specs.List.{position_or_len, prefix_len}
use Rattle.std.proofs.Math.Seq.{take-append_seam, drop-append_seam}
use Rattle.std.specs.Result.{result_unwrap_or, OkIff}
use Rattle.java_types.proofs.Fronts.{name_place, count_brackets, drop_brackets}
use Rattle.java_types.specs.Fronts.{ends_name}
use Rattle.descriptor_sig.specs.Standing.{Builds, NameStands, DimensionsStand}

pub first_of_cons : {x y : ℕ} {xs ys : List ℕ} → x ∷ xs ≡ y ∷ ys → x ≡ y
first_of_cons e = cc

pub rest_of_cons : {x y : ℕ} {xs ys : List ℕ} → x ∷ xs ≡ y ∷ ys → xs ≡ ys
rest_of_cons e = cc

-- ---- names

pub names_build : (bytes front back : List ℕ) (n : ℕ) → n ≡ position_or_len ends_name bytes
    → front ≡ take n bytes → back ≡ drop n bytes → Builds NameStands bytes (Ok front) back
names_build bytes front back n is f b = record {
  gives = λ name more s.
      let e : n ≡ length name = is
      ∙ (ap (position_or_len ends_name) s.whole ∙ name_place name more s.plain s.stops) in (
        f ∙ (ap (λ k. take k bytes) e
            ∙ (ap (take (length name)) s.whole ∙ take-append_seam name more)),
        b ∙ (ap (λ k. drop k bytes) e
            ∙ (ap (drop (length name)) s.whole ∙ drop-append_seam name more)),
      );
}

-- ---- dimensions

pub dimensions_build : (bytes back : List ℕ) (n dims : ℕ) → n ≡ prefix_len (λ b. b == 91) bytes
    → (n < 2 ^ 32 → dims ≡ n) → back ≡ drop n bytes → Builds DimensionsStand bytes (Ok dims) back
dimensions_build bytes back n dims is few b = record {
  gives = λ number more s.
      let e : n ≡ number = is ∙ (ap (prefix_len (λ b. b == 91)) s.whole
      ∙ count_brackets number more s.stops) in (
        few (subst (λ k. k < 2 ^ 32) (sym e) s.few) ∙ e,
        b ∙ (ap (λ k. drop k bytes) e ∙ (ap (drop number) s.whole ∙ drop_brackets number more)),
      );
}

-- a number that fits 32 bits is kept
pub kept_if_few : (E : Type 0) (r : Result ℕ E) (n most : ℕ) → OkIff r (n < 2 ^ 32) n → n < 2 ^ 32
    → result_unwrap_or r most ≡ n
kept_if_few E (Ok x) n most h few = h.1
kept_if_few E (Err e) n most h few = absurd (h few)
