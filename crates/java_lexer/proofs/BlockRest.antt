-- The rest of a text block, unit by unit.
use Rattle.std.proofs.Common.{◌≡◌, ℕ, ◌<◌, Bool, true, false, ◌&&◌, ◌||◌, not, ◌==◌, List, []}
use Rattle.std.proofs.Common.{◌∷◌, if◌then◌else◌, refl, sym, ◌∙◌, ap, arith, inl, inr}
use Rattle.std.proofs.lemmas.Bool.{cases_lt}
use Rattle.java_lexer.specs.Grammar.{symbol, has, any_of, line_terminators, begins_escape}
use Rattle.java_lexer.specs.Grammar.{is_empty, is_cut, are_block_characters, are_three_quotes}
use Rattle.java_lexer.specs.Grammar.{ends_block, is_some, is_block_rest}
use Rattle.java_lexer.proofs.EscapeLemmas.{differs}

pub same_symbol : (n c : ℕ) → n < 128 → (symbol c == n) ≡ (c == n)
same_symbol n c h = elim (cases_lt c 128) [
  | inl l ↦ (let e : symbol c ≡ c = omega arith in ap (λ s. s == n) e)
  | inr l ↦ (differs (symbol c) n (λ e. omega (arith, e, h, l))
      ∙ sym (differs c n (λ e. omega (arith, e, h, l))))
]

-- no front passes
pub no_cut : (q : List ℕ → Bool) (w : List ℕ) → is_cut (λ v. false) q w ≡ false
no_cut q [] = refl
no_cut q (c ∷ w) = no_cut q w

cut_and : (b : Bool) (p q : List ℕ → Bool) (w : List ℕ)
    → is_cut (λ v. b && p v) q w ≡ (b && is_cut p q w)
cut_and true p q w = refl
cut_and false p q w = no_cut q w

and_false : (b : Bool) → (b && false) ≡ false
and_false true = refl
and_false false = refl

abbrev escapes : ℕ → Bool
escapes d = begins_escape d || has (any_of line_terminators) d

-- ---- characters

plain_character : (c : ℕ) → (c == 92) ≡ false → (v : List ℕ)
    → are_block_characters (c ∷ v) ≡ are_block_characters v
plain_character c e [] = ap not e
plain_character c e (d ∷ v) =
    ap (λ b. if b then escapes d && are_block_characters v else are_block_characters (d ∷ v)) e

not_three : (c : ℕ) (w : List ℕ) → (c == 34) ≡ false → are_three_quotes (c ∷ w) ≡ false
not_three c [] e = refl
not_three c (d ∷ []) e = refl
not_three c (d ∷ f ∷ []) e = ap (λ b. b && (d == 34 && f == 34)) e
not_three c (d ∷ f ∷ g ∷ w) e = refl

not_second : (c : ℕ) (w : List ℕ) → (c == 34) ≡ false → are_three_quotes (34 ∷ c ∷ w) ≡ false
not_second c [] e = refl
not_second c (f ∷ []) e = ap (λ b. b && f == 34) e
not_second c (f ∷ g ∷ w) e = refl

not_third : (c : ℕ) (w : List ℕ) → (c == 34) ≡ false → are_three_quotes (34 ∷ 34 ∷ c ∷ w) ≡ false
not_third c [] e = e
not_third c (f ∷ w) e = refl

-- ---- what ends a block

ends_cons : (c : ℕ) → (c == 92) ≡ false → (w : List ℕ)
    → ends_block (c ∷ w) ≡ (are_three_quotes (c ∷ w) || ends_block w)
ends_cons c e w =
    ap (λ (p : List ℕ → Bool). are_three_quotes (c ∷ w) || is_cut p are_three_quotes w)
    (λ i v. plain_character c e v i)

ends_plain : (c : ℕ) → (c == 34) ≡ false → (c == 92) ≡ false → (w : List ℕ)
    → ends_block (c ∷ w) ≡ ends_block w
ends_plain c q e w = ends_cons c e w ∙ ap (λ b. b || ends_block w) (not_three c w q)

ends_escape : (d : ℕ) (w : List ℕ) → ends_block (92 ∷ d ∷ w) ≡ (escapes d && ends_block w)
ends_escape d w =
    ap (λ b. b || is_cut (λ v. escapes d && are_block_characters v) are_three_quotes w)
    (not_three 92 (d ∷ w) refl)
    ∙ cut_and (escapes d) are_block_characters are_three_quotes w

ends_quote : (c : ℕ) → (c == 34) ≡ false → (w : List ℕ)
    → ends_block (34 ∷ c ∷ w) ≡ ends_block (c ∷ w)
ends_quote c q w = ends_cons 34 refl (c ∷ w) ∙ ap (λ b. b || ends_block (c ∷ w)) (not_second c w q)

ends_quotes : (c : ℕ) → (c == 34) ≡ false → (w : List ℕ)
    → ends_block (34 ∷ 34 ∷ c ∷ w) ≡ ends_block (c ∷ w)
ends_quotes c q w = ends_cons 34 refl (34 ∷ c ∷ w)
    ∙ ap (λ b. b || ends_block (34 ∷ c ∷ w)) (not_third c w q) ∙ ends_quote c q w

-- ---- the rest of a block

rest_by : (v w : List ℕ) → ends_block v ≡ ends_block w
    → is_cut ends_block is_some v ≡ is_cut ends_block is_some w → is_block_rest v ≡ is_block_rest w
rest_by v w e s = ap (λ b. b && not (is_cut ends_block is_some v)) e
    ∙ ap (λ b. ends_block w && not b) s

pub plain_rest : (c : ℕ) (w : List ℕ) → (c == 34) ≡ false → (c == 92) ≡ false
    → is_block_rest (c ∷ w) ≡ is_block_rest w
plain_rest c w q e =
    rest_by (c ∷ w) w (ends_plain c q e w)
    (ap (λ (p : List ℕ → Bool). is_cut p is_some w) (λ i v. ends_plain c q e v i))

pub one_quote : (c : ℕ) (w : List ℕ) → (c == 34) ≡ false
    → is_block_rest (34 ∷ c ∷ w) ≡ is_block_rest (c ∷ w)
one_quote c w q =
    rest_by (34 ∷ c ∷ w) (c ∷ w) (ends_quote c q w)
    (ap (λ (p : List ℕ → Bool). is_cut p is_some w) (λ i v. ends_quote c q v i))

pub two_quotes : (c : ℕ) (w : List ℕ) → (c == 34) ≡ false
    → is_block_rest (34 ∷ 34 ∷ c ∷ w) ≡ is_block_rest (c ∷ w)
two_quotes c w q =
    rest_by (34 ∷ 34 ∷ c ∷ w) (c ∷ w) (ends_quotes c q w)
    (ap (λ (p : List ℕ → Bool). is_cut p is_some w) (λ i v. ends_quotes c q v i))

pub three_quotes : (w : List ℕ) → is_block_rest (34 ∷ 34 ∷ 34 ∷ w) ≡ is_empty w
three_quotes [] = refl
three_quotes (c ∷ w) = and_false (ends_block (34 ∷ 34 ∷ 34 ∷ c ∷ w))

both_and : (e a b : Bool) → ((e && a) && not (e && b)) ≡ (e && (a && not b))
both_and true a b = refl
both_and false a b = refl

pub escape_rest : (d : ℕ) (w : List ℕ) → is_block_rest (92 ∷ d ∷ w)
    ≡ (escapes d && is_block_rest w)
escape_rest d w =
    ap (λ b. b && not (is_cut ends_block is_some (92 ∷ d ∷ w))) (ends_escape d w)
    ∙ ap (λ b. (escapes d && ends_block w) && not b)
    (ap (λ (p : List ℕ → Bool). is_cut p is_some w) (λ i v. ends_escape d v i)
    ∙ cut_and (escapes d) ends_block is_some w)
    ∙ both_and (escapes d) (ends_block w) (is_cut ends_block is_some w)
