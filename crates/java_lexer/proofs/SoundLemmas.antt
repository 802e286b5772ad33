-- Tokens are sound.
use Rattle.std.proofs.Common.{◌≡◌, ℕ, zero, suc, ◌+◌, ◌/◌, ◌%◌, ◌<◌, ◌≤◌, Bool, true, false, ◌&&◌}
use Rattle.std.proofs.Common.{◌||◌, not, ◌==◌, nat_lt, List, [], ◌∷◌, ◌++◌, length, map, take}
use Rattle.std.proofs.Common.{drop, codes, Option, Some, None, IfSome, Ok, refl, sym, ◌∙◌, subst}
use Rattle.std.proofs.Common.{length-append, arith, if◌then◌else◌}
use Rattle.std.specs.List.{list_all}
use Rattle.std.specs.Char.Utf16.{is_high_surrogate, is_low_surrogate, surrogate_pair_char}
use Rattle.std.proofs.lemmas.Bool.{ltb-true, leb-true}
use Rattle.lemmas.proofs.Tables.{below, same_below}
use Rattle.java_names.specs.ModifiedUtf8.{IsModifiedUtf8, unit_bytes, modified_utf8}
use Rattle.java_token.specs.declared.token.Token.{Token}
use Rattle.java_token.specs.declared.token.TokenKind.{TokenKind}
use Rattle.java_token.specs.declared.keyword.Kw.{Kw}
use Rattle.java_text.specs.Letters.{is_start, is_part}
use Rattle.java_text.specs.Ascii.{is_ascii_start, is_ascii_part}
use Rattle.java_text.specs.Source.{text_of, is_all_utf8}
use Rattle.java_text.proofs.LetterLemmas.{ascii_start, ascii_part}
use Rattle.java_text.proofs.FitLemmas.{Fit, fit-take, fit-drop, and_first, and_second, text_fits}
use Rattle.java_lexer.specs.declared.kind.Kind.{Kind}
use Rattle.java_lexer.specs.declared.kind.Kind.TheVariants as kind
use Rattle.java_lexer.specs.Grammar.{Production, is_spelled, kind_by, grammar, comment}
use Rattle.java_lexer.specs.Words.{is_word, is_word_behind, are_parts}
use Rattle.java_lexer.specs.Pieces.{kind_of, or_shorter, longest_up_to, opens_comment, piece_at}
use Rattle.java_lexer.specs.Keywords.{keyword_of}
use Rattle.java_lexer.specs.Escapes.{string_units}
use Rattle.java_lexer.specs.Blocks.{block_units}
use Rattle.java_lexer.specs.Tokens.{word_or, token_of}
use Rattle.java_lexer.specs.Lexing.{Cut, with_token, with_piece, cut_up_to, cut_of, verdict_at}
use Rattle.java_lexer.specs.Lexing.{line_behind, lexed}
use Rattle.java_names.specs.Names.{is_among, is_identifier}
use Rattle.java_lexer.specs.Sound.{IsSoundKind, AreSound}
use Rattle.java_lexer.proofs.EscapeLemmas.{differs}
use Rattle.java_lexer.proofs.FitLemmas.{string_fits, block_fits}

-- a byte of an identifier
abbrev is_name_byte : ℕ → Bool
is_name_byte b = not (is_among (codes ".;[/<>:") b)

-- ---- which pieces are words

abbrev is_word_kind : Kind → Bool
is_word_kind kind.Word = true
is_word_kind _ = false

abbrev NoWord : Option Kind → Type 0
NoWord None = Unit {0}
NoWord (Some k) = not (is_word_kind k) ≡ true

chosen_no_word : (b : Bool) (k : Kind) (rest : Option Kind) → not (is_word_kind k) ≡ true
    → NoWord rest → NoWord (if b then Some k else rest)
chosen_no_word true k rest h r = h
chosen_no_word false k rest h r = r

no_word_by : (ps : List Production) (w : List ℕ)
    → list_all (λ (p : Production). not (is_word_kind p.0)) ps ≡ true → NoWord (kind_by ps w)
unfolding kind_by
no_word_by [] w h = tt
no_word_by (p ∷ ps) w h =
    chosen_no_word (is_spelled p.1 w) p.0 (kind_by ps w) (and_first _ _ h)
    (no_word_by ps w (and_second (not (is_word_kind p.0)) _ h))

no_word_in_grammar : (w : List ℕ) → NoWord (kind_by grammar w)
unfolding grammar
no_word_in_grammar w = no_word_by grammar w refl

no_comment_word : (w : List ℕ) → NoWord (kind_by comment w)
unfolding comment
no_comment_word w = no_word_by comment w refl

-- a fact of a word
abbrev IfWord : Kind → Type 0 → Type 0
IfWord kind.Word P = P
IfWord _ P = Unit {0}

if_word : (k : Kind) (P : Type 0) → P → IfWord k P
if_word kind.Word P p = p
if_word _ P p = tt

if_no_word : (k : Kind) (P : Type 0) → not (is_word_kind k) ≡ true → IfWord k P
if_no_word kind.Word P e = cc
if_no_word _ P e = tt

word_kind : (w : List ℕ) (k : Kind) → kind_of w ≡ Some k → IfWord k (is_word w ≡ true)
unfolding kind_of
word_kind w k e = by (is_word w) refl e where
  by : (b : Bool) → is_word w ≡ b → (if b then Some kind.Word else kind_by grammar w) ≡ Some k
      → IfWord k (is_word w ≡ true)
  by true i e = if_word k (is_word w ≡ true) i
  by false i e = if_no_word k (is_word w ≡ true) (subst NoWord e (no_word_in_grammar w))

comment_kind : (w : List ℕ) (k : Kind) → kind_by comment w ≡ Some k → IfWord k (is_word w ≡ true)
comment_kind w k e = if_no_word k (is_word w ≡ true) (subst NoWord e (no_comment_word w))

abbrev Words : List ℕ → Option (ℕ × Kind) → Type 0
Words units found = IfSome found (λ piece. IfWord piece.1 (is_word (take piece.0 units) ≡ true))

found_word : (kind : List ℕ → Option Kind)
    → ((w : List ℕ) (k : Kind) → kind w ≡ Some k → IfWord k (is_word w ≡ true))
    → (n : ℕ) (units : List ℕ) → Words units (longest_up_to kind n units)
unfolding longest_up_to
found_word kind h zero units = tt
found_word kind h (suc n) units =
    by (kind (take (suc n) units)) refl (found_word kind h n units) where
      by : (here : Option Kind) → kind (take (suc n) units) ≡ here
          → Words units (longest_up_to kind n units)
          → Words units (or_shorter (suc n) here (longest_up_to kind n units))
      by None e shorter = shorter
      by (Some k) e shorter = h (take (suc n) units) k e

piece_word : (units : List ℕ) → Words units (piece_at units)
unfolding piece_at
piece_word units = by (opens_comment units) where
  by : (b : Bool)
      → Words units (if b then longest_up_to (kind_by comment) (length units) units
      else longest_up_to kind_of (length units) units)
  by true = found_word (kind_by comment) comment_kind (length units) units
  by false = found_word kind_of word_kind (length units) units

-- ---- the bytes of words

abbrev safe_part : ℕ → Bool
safe_part c = not (is_ascii_part c) || is_name_byte c

abbrev always : ℕ → Bool
always c = true

safe_parts : map safe_part (below 128) ≡ map always (below 128)
safe_parts = refl

ascii_safe : (c : ℕ) → c < 128 → is_ascii_part c ≡ true → is_name_byte c ≡ true
ascii_safe c h e = rw e at (same_below safe_part always 128 c safe_parts h)

start_is_part : (c : ℕ) → is_ascii_start c ≡ true → is_ascii_part c ≡ true
start_is_part c e = rw e refl

part_safe : (c : ℕ) → is_part c ≡ true → c < 128 → is_name_byte c ≡ true
part_safe c e h = ascii_safe c h (sym (ascii_part c h) ∙ e)

start_safe : (c : ℕ) → is_start c ≡ true → c < 128 → is_name_byte c ≡ true
start_safe c e h = ascii_safe c h (start_is_part c (sym (ascii_start c h) ∙ e))

wide_safe : (b : ℕ) → 128 ≤ b → is_name_byte b ≡ true
wide_safe b h =
    let other : (n : ℕ) → n < 128 → (n == b) ≡ false =
    λ n k. differs n b (λ e. omega (arith, e, h, k)) in
    rw (
      other 46 (omega arith),
      other 59 (omega arith),
      other 91 (omega arith),
      other 47 (omega arith),
      other 60 (omega arith),
      other 62 (omega arith),
      other 58 (omega arith),
    ) refl

abbrev AreSafe : List ℕ → Type 0
AreSafe bytes = list_all is_name_byte bytes ≡ true

safe_append : (xs ys : List ℕ) → AreSafe xs → AreSafe ys → AreSafe (xs ++ ys)
safe_append [] ys h k = k
safe_append (x ∷ xs) ys h k =
    rw (and_first (is_name_byte x) _ h, safe_append xs ys (and_second (is_name_byte x) _ h) k) refl

-- a unit that is no ASCII sign
unit_safe : (c : ℕ) → (c < 128 → is_name_byte c ≡ true) → AreSafe (unit_bytes c)
unit_safe c h = by (nat_lt 0 c && nat_lt c 128) refl (nat_lt c 2048) where
  by : (p : Bool) → (nat_lt 0 c && nat_lt c 128) ≡ p → (q : Bool)
      → AreSafe (if p then c ∷ [] else (if q then (192 + c / 64) ∷ (128 + c % 64) ∷ []
      else (224 + c / 4096) ∷ (128 + c / 64 % 64) ∷ (128 + c % 64) ∷ []))
  by true e q = rw (h (ltb-true c 128 (and_second (nat_lt 0 c) _ e))) refl
  by false e true =
      rw (wide_safe (192 + c / 64) (omega arith), wide_safe (128 + c % 64) (omega arith)) refl
  by false e false =
      rw (
        wide_safe (224 + c / 4096) (omega arith),
        wide_safe (128 + c / 64 % 64) (omega arith),
        wide_safe (128 + c % 64) (omega arith),
      ) refl

high_safe : (c : ℕ) → is_high_surrogate c ≡ true → AreSafe (unit_bytes c)
high_safe c e = let high = leb-true 55296 c (and_first _ _ e) in
    unit_safe c (λ h. absurd (omega (arith, high, h)))

low_safe : (c : ℕ) → is_low_surrogate c ≡ true → AreSafe (unit_bytes c)
low_safe c e = let low = leb-true 56320 c (and_first _ _ e) in
    unit_safe c (λ h. absurd (omega (arith, low, h)))

parts_safe : (before : Option ℕ) (w : List ℕ) → are_parts before w ≡ true
    → AreSafe (modified_utf8 w)
parts_safe None [] e = refl
parts_safe (Some high) [] e = refl
parts_safe None (c ∷ w) e =
    by (is_high_surrogate c) refl e (λ k. parts_safe (Some c) w k) (λ k. parts_safe None w k) where
      by : (b : Bool) → is_high_surrogate c ≡ b
          → (if b then are_parts (Some c) w else (is_part c && are_parts None w)) ≡ true
          → (are_parts (Some c) w ≡ true → AreSafe (modified_utf8 w))
          → (are_parts None w ≡ true → AreSafe (modified_utf8 w)) → AreSafe (modified_utf8 (c ∷ w))
      by true i e pair alone = safe_append (unit_bytes c) (modified_utf8 w) (high_safe c i)
          (pair e)
      by false i e pair alone =
          safe_append (unit_bytes c) (modified_utf8 w)
          (unit_safe c (part_safe c (and_first _ _ e)))
          (alone (and_second (is_part c) _ e))
parts_safe (Some high) (c ∷ w) e =
    safe_append (unit_bytes c) (modified_utf8 w) (low_safe c (and_first _ _ e))
    (parts_safe None w
    (and_second (is_part (surrogate_pair_char high c)) _ (and_second (is_low_surrogate c) _ e)))

behind_safe : (high : ℕ) (w : List ℕ) → is_word_behind high w ≡ true → AreSafe (modified_utf8 w)
behind_safe high [] e = refl
behind_safe high (c ∷ w) e =
    safe_append (unit_bytes c) (modified_utf8 w) (low_safe c (and_first _ _ e))
    (parts_safe None w
    (and_second (is_start (surrogate_pair_char high c)) _ (and_second (is_low_surrogate c) _ e)))

word_safe : (w : List ℕ) → is_word w ≡ true → AreSafe (modified_utf8 w)
word_safe [] e = refl
word_safe (c ∷ w) e = by (is_high_surrogate c) refl e where
  by : (b : Bool) → is_high_surrogate c ≡ b
      → (if b then is_word_behind c w else (is_start c && are_parts None w)) ≡ true
      → AreSafe (modified_utf8 (c ∷ w))
  by true i e = safe_append (unit_bytes c) (modified_utf8 w) (high_safe c i) (behind_safe c w e)
  by false i e =
      safe_append (unit_bytes c) (modified_utf8 w) (unit_safe c (start_safe c (and_first _ _ e)))
      (parts_safe None w (and_second (is_start c) _ e))

some_bytes : (c : ℕ) → 0 < length (unit_bytes c)
some_bytes c = by (nat_lt 0 c && nat_lt c 128) (nat_lt c 2048) where
  by : (p q : Bool)
      → 0 < length (if p then c ∷ [] else (if q then (192 + c / 64) ∷ (128 + c % 64) ∷ []
      else (224 + c / 4096) ∷ (128 + c / 64 % 64) ∷ (128 + c % 64) ∷ []))
  by true q = omega arith
  by false true = omega arith
  by false false = omega arith

word_not_empty : (w : List ℕ) → is_word w ≡ true → 0 < length (modified_utf8 w)
word_not_empty [] e = cc
word_not_empty (c ∷ w) e =
    omega (arith, some_bytes c, length-append (unit_bytes c) (modified_utf8 w))

not_zero : (n : ℕ) → 0 < n → not (n == 0) ≡ true
not_zero n h = rw (differs n 0 (λ e. omega (arith, e, h))) refl

word_identifier : (w : List ℕ) → is_word w ≡ true → is_identifier (modified_utf8 w) ≡ true
word_identifier w e = rw (not_zero (length (modified_utf8 w)) (word_not_empty w e)) (word_safe w e)

-- ---- tokens

encoded : (units : List ℕ) → Fit units → IsModifiedUtf8 (modified_utf8 units)
encoded units h = record { units = units; fit = h; whole = refl }

word_token : (w : List ℕ) → Fit w → is_word w ≡ true
    → IsSoundKind (word_or (keyword_of (modified_utf8 w)) (modified_utf8 w))
word_token w h e = by (keyword_of (modified_utf8 w)) refl where
  by : (keyword : Option Kw) → keyword_of (modified_utf8 w) ≡ keyword
      → IsSoundKind (word_or keyword (modified_utf8 w))
  by None n = record { encoded = encoded w h; identifier = word_identifier w e; no_keyword = n }
  by (Some keyword) n = tt

token_sound : (k : Kind) (w : List ℕ) → Fit w → IfWord k (is_word w ≡ true)
    → IfSome (token_of k w) IsSoundKind
token_sound kind.Word w h e = word_token w h e
token_sound kind.String w h e = encoded (string_units w) (string_fits w h)
token_sound kind.TextBlock w h e = encoded (block_units w) (block_fits w h)
token_sound kind.Blank w h e = tt
token_sound kind.Integer w h e = tt
token_sound kind.FloatingPoint w h e = tt
token_sound kind.Character w h e = tt
token_sound (kind.Operator operator) w h e = tt

with_sound : (token : Option TokenKind) (line : ℕ) (cut : Cut) → IfSome token IsSoundKind
    → AreSound cut.tokens → AreSound (with_token token line cut).tokens
with_sound None line cut h k = k
with_sound (Some token) line cut h k = (h, k)

cut_sound : (n : ℕ) (before units : List ℕ) → Fit units →
    AreSound (cut_up_to n before units).tokens
unfolding cut_up_to
cut_sound zero before units h = tt
cut_sound (suc n) before [] h = tt
cut_sound (suc n) before (c ∷ units) h =
    by (piece_at (c ∷ units)) (piece_word (c ∷ units))
    (λ more rest f. cut_sound n more rest f) where
      by : (piece : Option (ℕ × Kind)) → Words (c ∷ units) piece
          → ((more rest : List ℕ) → Fit rest → AreSound (cut_up_to n more rest).tokens)
          → AreSound
          (with_piece piece before (c ∷ units) (λ more rest. cut_up_to n more rest)).tokens
      by None word further = tt
      by (Some piece) word further =
          with_sound (token_of piece.1 (take piece.0 (c ∷ units))) (line_behind before) _
          (token_sound piece.1 (take piece.0 (c ∷ units)) (fit-take piece.0 (c ∷ units) h) word)
          (further (before ++ take piece.0 (c ∷ units)) (drop piece.0 (c ∷ units))
          (fit-drop piece.0 (c ∷ units) h))

same_tokens : (rest : List ℕ) (tokens : List Token) (line : ℕ) (whole : Bool) (told : List Token)
    → verdict_at rest tokens line whole ≡ Ok told → tokens ≡ told
same_tokens [] tokens line true told e = cc
same_tokens [] tokens line false told e = cc
same_tokens (c ∷ rest) tokens line whole told e = cc

pub lexed_sound : (bytes : List ℕ) (tokens : List Token) → lexed bytes ≡ Ok tokens →
    AreSound tokens
unfolding lexed
lexed_sound bytes tokens e =
    let cut = cut_of (text_of bytes) in
    subst AreSound
    (same_tokens cut.rest cut.tokens (line_behind cut.before) (is_all_utf8 bytes) tokens e)
    (cut_sound (length (text_of bytes)) [] (text_of bytes) (text_fits bytes))
