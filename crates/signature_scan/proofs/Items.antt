-- Texts of things and of lists of things as languages.
use Rattle.std.proofs.Common.{◌≡◌, ◌↔◌, refl, sym, ap, ◌∙◌, ℕ, zero, suc, Bool, true, List, []}
use Rattle.std.proofs.Common.{◌∷◌, ◌++◌}
use Rattle.std.specs.List.{list_all, flat_map}
use Rattle.signature_scan.proofs.Conjunctions.{and_true}
use Rattle.signature_scan.proofs.Languages.{Cat, Star, star_more, Times}
use Rattle.signature_scan.proofs.Expressions.{Byte, Words, IsTextOf}

-- the same test and text in other words
pub texts_as : {T : Type 0} (test test' : T → Bool) (text text' : T → List ℕ)
    → ((x : T) → test x ≡ test' x) → ((x : T) → text x ≡ text' x) → (w : List ℕ)
    → IsTextOf test text w ↔ IsTextOf test' text' w
texts_as test test' text text' tests texts w = (
  λ t. record { item = t.item; is = sym (tests t.item) ∙ t.is; whole = t.whole ∙ texts t.item },
  λ t. record { item = t.item; is = tests t.item ∙ t.is; whole = t.whole ∙ sym (texts t.item) },
)

module _ {T : Type 0} (test : T → Bool) (text : T → List ℕ) (L : List ℕ → Type 0)
    (one : (v : List ℕ) → IsTextOf test text v ↔ L v) where
  list_to : (xs : List T) → list_all test xs ≡ true → (w : List ℕ) → w ≡ flat_map text xs →
      Star L w
  list_to [] t w e = (zero, e)
  list_to (x ∷ xs) t w e =
      let p = (and_true (test x) (list_all test xs)).1 t in
      star_more L w (record {
        front = text x;
        rest = flat_map text xs;
        whole = e;
        first = (one (text x)).0 (record { item = x; is = p.0; whole = refl });
        second = list_to xs p.1 (flat_map text xs) refl;
      })

  list_back : (n : ℕ) (w : List ℕ) → Times L n w → IsTextOf (list_all test) (flat_map text) w
  list_back zero w e = record { item = []; is = refl; whole = e }
  list_back (suc n) w c =
      let x = (one c.front).1 c.first in
      let xs = list_back n c.rest c.second in
      record {
        item = x.item ∷ xs.item;
        is = (and_true (test x.item) (list_all test xs.item)).0 (x.is, xs.is);
        whole =
            c.whole ∙ ap (λ (v : List ℕ). v ++ c.rest) x.whole
            ∙ ap (λ (v : List ℕ). text x.item ++ v) xs.whole;
      }

  -- the texts of a list
  pub list_is : (w : List ℕ) → IsTextOf (list_all test) (flat_map text) w ↔ Star L w
  list_is w = (λ t. list_to t.item t.is w t.whole, λ s. list_back s.0 w s.1)

  -- a byte in front of the text
  pub behind_byte : (n : ℕ) (w : List ℕ) → IsTextOf test (λ x. n ∷ text x) w
      ↔ Cat (Words (Byte n)) L w
  behind_byte n w = (
    λ t. record {
      front = n ∷ [];
      rest = text t.item;
      whole = t.whole;
      first = refl;
      second = (one (text t.item)).0 (record { item = t.item; is = t.is; whole = refl });
    },
    λ c. (let t = (one c.rest).1 c.second in
        record {
          item = t.item;
          is = t.is;
          whole =
              c.whole ∙ ap (λ (v : List ℕ). v ++ c.rest) c.first
              ∙ ap (λ (v : List ℕ). n ∷ v) t.whole;
        }),
  )
