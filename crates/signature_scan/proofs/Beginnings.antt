-- The functions tell whether a text begins a signature, and how much of it does.
use Rattle.std.proofs.Common.{◌≡◌, ◌⊎◌, inl, inr, refl, sym, ap, ◌∙◌, subst, ℕ, zero, suc, ◌+◌}
use Rattle.std.proofs.Common.{◌*◌, ◌<◌, ◌≤◌, Bool, true, false, List, [], ◌∷◌, ◌++◌, length, take}
use Rattle.std.proofs.Common.{append_assoc, append-nil, length-append, Option, Some, None}
use Rattle.std.proofs.Common.{if◌then◌else◌, arith}
use Rattle.std.specs.Prelude.{nat_lt}
use Rattle.std.specs.List.{list_all}
use Rattle.std.specs.Option.{is_some}
use Rattle.std.proofs.lemmas.Bool.{cases_lt, false≢true, ltb-true}
use Rattle.java_types.specs.declared.types.JSig.{JSig}
use Rattle.java_types.specs.declared.production.SigPlace.{SigPlace}
use Rattle.java_types.specs.Signature.{SignatureSpells}
use Rattle.java_types.specs.Spelling.{Begins, IsLongestBeginning}
use Rattle.java_types.specs.Trees.{signature_of}
use Rattle.java_types.proofs.OneTree.{signature_found, signature_spelled}
use Rattle.signature_scan.specs.declared.state.State.{State}
use Rattle.signature_scan.specs.declared.state.State.TheVariants as state
use Rattle.signature_scan.specs.Machine.{next, deeper, depth_of}
use Rattle.signature_scan.specs.Beginning.{some_below, some_bytes, begins, longest, beginning}
use Rattle.signature_scan.proofs.Conjunctions.{and_true, or_true}
use Rattle.signature_scan.proofs.Depths.{depth_rises}
use Rattle.signature_scan.proofs.Signatures.{Spelled, start_is}
use Rattle.signature_scan.proofs.Lives.{word, lives, word_few}
use Rattle.signature_scan.proofs.Verdicts.{AreBytes, Reached, reached_start, reached_next, never}

-- ---- searches

below_to : (passes : ℕ → Bool) (n : ℕ) → some_below passes n ≡ true
    → (b : ℕ) × (b < n) × (passes b ≡ true)
unfolding some_below
below_to passes zero e = absurd (false≢true e)
below_to passes (suc n) e =
    elim ((or_true (passes n) (some_below passes n)).1 e)
    as (λ c. (b : ℕ) × (b < suc n) × (passes b ≡ true)) [
      | inl here ↦ (n, omega arith, here)
      | inr there ↦ (let more = below_to passes n there in
          let less = more.1 in (more.0, omega arith, more.2))
    ]

below_from : (passes : ℕ → Bool) (n b : ℕ) → b < n → passes b ≡ true → some_below passes n ≡ true
unfolding some_below
below_from passes zero b h e = absurd (omega arith)
below_from passes (suc n) b h e =
    (or_true (passes n) (some_below passes n)).0 (elim (cases_lt b n)
    as (λ c. (passes n ≡ true) ⊎ (some_below passes n ≡ true)) [
      | inl less ↦ inr (below_from passes n b less e)
      | inr most ↦ (let q : b ≡ n = omega arith in inl (subst (λ k. passes k ≡ true) q e))
    ])

-- whether bytes behind a first one pass
abbrev behind_first : (List ℕ → Bool) → ℕ → ℕ → Bool
behind_first passes n b = some_bytes (λ bytes. passes (b ∷ bytes)) n

bytes_to : (passes : List ℕ → Bool) (n : ℕ) → some_bytes passes n ≡ true
    → (bytes : List ℕ) × (passes bytes ≡ true)
unfolding some_bytes
bytes_to passes zero e = ([], e)
bytes_to passes (suc n) e =
    elim ((or_true (passes []) (some_below (behind_first passes n) 256)).1 e)
    as (λ c. (bytes : List ℕ) × (passes bytes ≡ true)) [
      | inl none ↦ ([], none)
      | inr some ↦ (let first = below_to (behind_first passes n) 256 some in
          let later = bytes_to (λ bytes. passes (first.0 ∷ bytes)) n first.2 in
          (first.0 ∷ later.0, later.1))
    ]

bytes_from : (passes : List ℕ → Bool) (n : ℕ) (bytes : List ℕ) → AreBytes bytes
    → length bytes ≤ n → passes bytes ≡ true → some_bytes passes n ≡ true
unfolding some_bytes
bytes_from passes zero [] are h e = e
bytes_from passes zero (b ∷ bytes) are h e = absurd (omega arith)
bytes_from passes (suc n) [] are h e =
    (or_true (passes []) (some_below (behind_first passes n) 256)).0 (inl e)
bytes_from passes (suc n) (b ∷ bytes) are h e =
    (or_true (passes []) (some_below (behind_first passes n) 256)).0
    (inr (below_from (behind_first passes n) 256 b (are zero)
    (bytes_from (λ bytes. passes (b ∷ bytes)) n bytes (λ i. are (suc i)) (omega arith) e)))

-- ---- what makes a signature of a front

tested : (w : List ℕ) → list_all (λ b. nat_lt b 256) w ≡ true → AreBytes w
tested [] e i = omega arith
tested (b ∷ w) e zero =
    ltb-true b 256 ((and_true (nat_lt b 256) (list_all (λ b. nat_lt b 256) w)).1 e).0
tested (b ∷ w) e (suc i) =
    tested w ((and_true (nat_lt b 256) (list_all (λ b. nat_lt b 256) w)).1 e).1 i

-- few bytes behind the front that make it a signature
record Finish (place : SigPlace) (front : List ℕ) : Type 0 where
  more : List ℕ
  spelled : Spelled place (front ++ more)
  bytes : AreBytes more
  few : length more ≤ 2 * length front + 9

finish_here : (place : SigPlace) (front : List ℕ) (s : State) (deep : Option ℕ)
    → depth_of s ≤ length front → Reached place front s deep → Finish place front
finish_here place front s deep depth r =
    let few = (word_few s).few in record {
      more = word s;
      spelled = (r.follows (word s)).0 (lives s);
      bytes = tested (word s) (word_few s).bytes;
      few = omega arith;
    }

finish_from : (place : SigPlace) (rest front : List ℕ) (s : State) (deep : Option ℕ)
    → AreBytes rest → depth_of s ≤ length front → Reached place front s deep
    → (more : List ℕ) → Spelled place ((front ++ rest) ++ more) → Finish place (front ++ rest)
finish_from place [] front s deep bytes depth r more spelled =
    subst (Finish place) (sym (append-nil front)) (finish_here place front s deep depth r)
finish_from place (b ∷ rest) front s deep bytes depth r more spelled =
    by (next s b) refl (λ t e. finish_from place rest (front ++ (b ∷ [])) t
    (deeper deep t (length front)) (λ i. bytes (suc i)) (deeper_by_one t e)
    (reached_next place front s deep b (length front) t (bytes zero) e refl r) more
    (subst (λ (v : List ℕ). Spelled place (v ++ more))
    (sym (append_assoc front (b ∷ []) rest)) spelled))
  where
    deeper_by_one : (t : State) → next s b ≡ Some t → depth_of t ≤ length (front ++ (b ∷ []))
    deeper_by_one t e =
        let rise = depth_rises s b t (bytes zero) e in
        let longer = length-append front (b ∷ []) in omega arith

    by : (o : Option State) → next s b ≡ o
        → ((t : State) → next s b ≡ Some t → Finish place ((front ++ (b ∷ [])) ++ rest))
        → Finish place (front ++ (b ∷ rest))
    by None e onward = absurd (never place front s deep (length front) refl r b rest (bytes zero) e
        (rest ++ more) (subst (Spelled place) (append_assoc front (b ∷ rest) more) spelled))
    by (Some t) e onward =
        subst (Finish place) (append_assoc front (b ∷ []) rest) (onward t e)

-- ---- whether a front begins a signature

some_is : (o : Option JSig) → is_some o ≡ true → (sig : JSig) × (o ≡ Some sig)
some_is None e = absurd (false≢true e)
some_is (Some sig) e = (sig, refl)

module _ (place : SigPlace) where
  -- whether these bytes behind the front make it a signature
  abbrev finishes : List ℕ → List ℕ → Bool
  finishes front more = is_some (signature_of place (front ++ more))

  pub begins_to : (front : List ℕ) → begins place front ≡ true
      → Begins (SignatureSpells place) front
  unfolding begins
  begins_to front e =
      let found = bytes_to (finishes front) (2 * length front + 9) e in
      let sig = some_is (signature_of place (front ++ found.0)) found.1 in
      (sig.0, found.0, signature_spelled place sig.0 (front ++ found.0) sig.1)

  pub begins_from : (front : List ℕ) → AreBytes front → Begins (SignatureSpells place) front
      → begins place front ≡ true
  unfolding begins
  begins_from front bytes is =
      let finish = finish_from place front [] (state.Start place) None bytes (omega arith)
      (reached_start place) is.1 (is.0, is.2) in
      bytes_from (finishes front) (2 * length front + 9) finish.more finish.bytes finish.few
      (ap is_some (signature_found place finish.spelled.0 (front ++ finish.more) finish.spelled.1))

  nothing_begins : Begins (SignatureSpells place) []
  nothing_begins =
      let sig = (start_is place (word (state.Start place))).0 (lives (state.Start place)) in
      (sig.0, word (state.Start place), sig.1)

-- ---- the longest front that does

module _ (passes : List ℕ → Bool) (text : List ℕ) where
  longest_fits : (n : ℕ) → longest passes text n ≤ n
  longest_fits zero = omega arith
  longest_fits (suc n) = by (passes (take (suc n) text)) (longest_fits n)
    where
      by : (t : Bool) → longest passes text n ≤ n
          → (if t then suc n else longest passes text n) ≤ suc n
      by true less = omega arith
      by false less = omega arith

  longest_passes : (n : ℕ) → passes [] ≡ true → passes (take (longest passes text n) text) ≡ true
  longest_passes zero none = none
  longest_passes (suc n) none = by (passes (take (suc n) text)) refl (longest_passes n none)
    where
      by : (t : Bool) → passes (take (suc n) text) ≡ t
          → passes (take (longest passes text n) text) ≡ true
          → passes (take (if t then suc n else longest passes text n) text) ≡ true
      by true here less = here
      by false here less = less

  longest_most : (n m : ℕ) → m ≤ n → passes (take m text) ≡ true → m ≤ longest passes text n
  longest_most zero m h e = omega arith
  longest_most (suc n) m h e =
      by (passes (take (suc n) text)) refl (λ less. longest_most n m less e)
    where
      by : (t : Bool) → passes (take (suc n) text) ≡ t → (m ≤ n → m ≤ longest passes text n)
          → m ≤ (if t then suc n else longest passes text n)
      by true here less = h
      by false here less = less (elim (cases_lt n m) as (λ c. m ≤ n) [
        | inl more ↦ (let q : m ≡ suc n = omega arith in
            absurd (false≢true (sym here ∙ subst (λ k. passes (take k text) ≡ true) q e)))
        | inr most ↦ most
      ])

taken : (n : ℕ) (text : List ℕ) → AreBytes text → AreBytes (take n text)
taken zero text are i = omega arith
taken (suc n) [] are i = omega arith
taken (suc n) (b ∷ text) are zero = are zero
taken (suc n) (b ∷ text) are (suc i) = taken n text (λ k. are (suc k)) i

pub beginning_right : (place : SigPlace) (text : List ℕ) → AreBytes text
    → IsLongestBeginning (SignatureSpells place) text (beginning place text)
beginning_right place text bytes = record {
  fits = longest_fits (begins place) text (length text);
  begins = begins_to place (take (beginning place text) text) (longest_passes (begins place) text
      (length text) (begins_from place [] (λ i. omega arith) (nothing_begins place)));
  longest = λ m h is. longest_most (begins place) text (length text) m h
      (begins_from place (take m text) (taken m text bytes) is);
}
