-- What each state of the machine stands for.
use Rattle.std.proofs.Common.{◌≡◌, ℕ, ◌<◌, Bool, true, false, ◌&&◌, List, [], ◌∷◌, map, Option}
use Rattle.std.proofs.Common.{Some, None, if◌then◌else◌, refl, sym, ◌∙◌, ap, arith, inl, inr}
use Rattle.std.proofs.lemmas.Bool.{cases_lt}
use Rattle.lemmas.proofs.Tables.{below, same_below}
use Rattle.std.specs.Char.Utf16.{is_high_surrogate, is_low_surrogate, surrogate_pair_char}
use Rattle.java_text.specs.Letters.{is_start, is_part}
use Rattle.java_text.specs.Ascii.{is_ascii_start}
use Rattle.java_text.proofs.LetterLemmas.{ascii_start}
use Rattle.java_lexer.specs.declared.kind.Kind.{Kind}
use Rattle.java_lexer.specs.declared.kind.Kind.TheVariants as kind
use Rattle.java_lexer.specs.declared.form.Form.{Form}
use Rattle.java_lexer.specs.declared.state.State.{State}
use Rattle.java_lexer.specs.declared.state.State.TheVariants as state
use Rattle.java_lexer.specs.Grammar.{symbol, kind_by, grammar}
use Rattle.java_lexer.specs.Words.{is_word, is_word_behind, are_parts}
use Rattle.java_lexer.specs.Pieces.{kind_of}
use Rattle.java_lexer.specs.Machine.{next_state, next_form, first_form, state_kind, other}
use Rattle.java_lexer.proofs.Derive.{derive-is}
use Rattle.java_lexer.proofs.FormLemmas.{stands, stands_if, next-stands, first-stands, kind-stands}

abbrev pub word_if : Bool → Option Kind
word_if b = if b then Some kind.Word else None

-- the kind of the whole piece, where these units complete it from the state
unfoldable pub completed : State → List ℕ → Option Kind
completed state.Start w = kind_of w
completed (state.FirstPair high) w = word_if (is_word_behind high w)
completed state.Word w = word_if (are_parts None w)
completed (state.WordPair high) w = word_if (are_parts (Some high) w)
completed (state.Other q) w = kind_by (stands q) w

abbrev pub completed_if : Option State → List ℕ → Option Kind
completed_if None w = None
completed_if (Some q) w = completed q w

symbol_fits : (c : ℕ) → symbol c < 129
symbol_fits c = omega arith

-- of no productions
none_by : (w : List ℕ) → kind_by [] w ≡ None
unfolding kind_by
none_by w = refl

by_if : (q : Option Form) (w : List ℕ) → kind_by (stands_if q) w ≡ completed_if (other q) w
unfolding completed kind_by
by_if None w = refl
by_if (Some q) w = refl

form_step : (q : Form) (c : ℕ) (w : List ℕ)
    → kind_by (stands q) (c ∷ w) ≡ completed_if (other (next_form q (symbol c))) w
form_step q c w = derive-is (stands q) c w
    ∙ ap (λ ps. kind_by ps w) (next-stands q (symbol c) (symbol_fits c))
    ∙ by_if (next_form q (symbol c)) w

-- of the productions of the grammar
first_step : (c : ℕ) (w : List ℕ)
    → kind_by grammar (c ∷ w) ≡ completed_if (other (first_form (symbol c))) w
first_step c w = derive-is grammar c w
    ∙ ap (λ ps. kind_by ps w) (first-stands (symbol c) (symbol_fits c))
    ∙ by_if (first_form (symbol c)) w

abbrev letter_form : ℕ → Option Form
letter_form s = if is_ascii_start s then first_form s else None

abbrev no_form : ℕ → Option Form
no_form s = None

-- no other piece begins as an ASCII word does
letters_alone : map letter_form (below 128) ≡ map no_form (below 128)
letters_alone = refl

ascii_letter : (c : ℕ) → c < 128 → is_ascii_start c ≡ true → first_form c ≡ None
ascii_letter c h e = ap (λ b. if b then first_form c else None) (sym e)
    ∙ same_below letter_form no_form 128 c letters_alone h

-- no other piece begins as a word does
letter_first : (c : ℕ) → is_start c ≡ true → first_form (symbol c) ≡ None
letter_first c e = elim (cases_lt c 128) [
  | inl h ↦ (let same : symbol c ≡ c = omega arith in
      rw same (ascii_letter c h (sym (ascii_start c h) ∙ e)))
  | inr h ↦ (let far : symbol c ≡ 128 = omega arith in rw far refl)
]

high_first : (c : ℕ) → is_high_surrogate c ≡ true → first_form (symbol c) ≡ None
high_first c e = let far : symbol c ≡ 128 = grind (arith, e) in rw far refl

word_or : (b : Bool) (o : Option Kind) → o ≡ None → (if b then Some kind.Word else o) ≡ word_if b
word_or true o e = refl
word_or false o e = e

start_step : (c : ℕ) (w : List ℕ) (high start : Bool) → is_high_surrogate c ≡ high
    → is_start c ≡ start
    → kind_of (c ∷ w)
    ≡ completed_if (if high then Some (state.FirstPair c)
    else (if start then Some state.Word else other (first_form (symbol c)))) w
unfolding kind_of completed
start_step c w true start h s =
    rw (h, is_word) (word_or (is_word_behind c w) _ (first_step c w ∙ rw (high_first c h) refl))
start_step c w false true h s =
    rw (h, s, is_word) (word_or (are_parts None w) _ (first_step c w ∙ rw (letter_first c s) refl))
start_step c w false false h s = rw (h, s, is_word) (first_step c w)

pair_step : (b start : Bool) (w : List ℕ)
    → word_if (b && (start && are_parts None w))
    ≡ completed_if (if b && start then Some state.Word else None) w
unfolding completed
pair_step true true w = refl
pair_step true false w = refl
pair_step false start w = refl

word_step : (high part : Bool) (c : ℕ) (w : List ℕ)
    → word_if (if high then are_parts (Some c) w else (part && are_parts None w))
    ≡ completed_if (if high then Some (state.WordPair c)
    else (if part then Some state.Word else None)) w
unfolding completed
word_step true part c w = refl
word_step false true c w = refl
word_step false false c w = refl

-- one step of the machine
pub completed-step : (q : State) (c : ℕ) (w : List ℕ)
    → completed q (c ∷ w) ≡ completed_if (next_state q c) w
unfolding completed
completed-step state.Start c w = start_step c w (is_high_surrogate c) (is_start c) refl refl
completed-step (state.FirstPair high) c w =
    pair_step (is_low_surrogate c) (is_start (surrogate_pair_char high c)) w
completed-step state.Word c w = word_step (is_high_surrogate c) (is_part c) c w
completed-step (state.WordPair high) c w =
    pair_step (is_low_surrogate c) (is_part (surrogate_pair_char high c)) w
completed-step (state.Other q) c w = form_step q c w

start_end : kind_of [] ≡ None
unfolding kind_of kind_by grammar
start_end = refl

-- a piece that ends here
pub completed-end : (q : State) → completed q [] ≡ state_kind q
unfolding completed
completed-end state.Start = start_end
completed-end (state.FirstPair high) = refl
completed-end state.Word = refl
completed-end (state.WordPair high) = refl
completed-end (state.Other q) = kind-stands q
