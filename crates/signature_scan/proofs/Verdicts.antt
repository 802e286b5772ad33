-- The machine's verdict on a text is the right one.
use Rattle.std.proofs.Common.{◌≡◌, ◌↔◌, inl, inr, refl, sym, ap, ◌∙◌, subst, ℕ, zero, suc, ◌+◌}
use Rattle.std.proofs.Common.{◌<◌, ◌≤◌, Bool, true, false, List, [], ◌∷◌, ◌++◌, length, take}
use Rattle.std.proofs.Common.{get_or, append_assoc, length-append, drop, Option, Some, None}
use Rattle.std.proofs.Common.{arith}
use Rattle.std.specs.List.{position_or_len}
use Rattle.std.proofs.lemmas.Bool.{cases_lt, false≢true}
use Rattle.std.proofs.lemmas.List.{take_at, append-nil, drop_all, drop_more}
use Rattle.java_types.specs.declared.types.JSig.{JSig}
use Rattle.java_types.specs.Signature.{SignatureSpells}
use Rattle.java_types.specs.Spelling.{Begins, IsBadText}
use Rattle.java_types.specs.Nesting.{greatest, levels}
use Rattle.java_types.proofs.Levels.{text_levels, levels_by_text}
use Rattle.java_types.specs.declared.production.SigPlace.{SigPlace}
use Rattle.signature_scan.specs.declared.state.State.{State}
use Rattle.signature_scan.specs.declared.state.State.TheVariants as state
use Rattle.signature_scan.specs.declared.verdict.Verdict.{Verdict}
use Rattle.signature_scan.specs.declared.verdict.Verdict.TheVariants as verdict
use Rattle.signature_scan.specs.Scanned.{Scanned}
use Rattle.signature_scan.specs.Machine.{next, deeper, is_whole, depth_of}
use Rattle.signature_scan.proofs.Languages.{and_then, turned}
use Rattle.signature_scan.proofs.Expressions.{AnyRow, derive_all}
use Rattle.signature_scan.proofs.Running.{run, go_on, end_verdict, whole_verdict}
use Rattle.signature_scan.proofs.States.{rows, rows_if, next_rows}
use Rattle.signature_scan.proofs.TypeLaws.{step_is}
use Rattle.signature_scan.proofs.Signatures.{Spelled, start_is}
use Rattle.signature_scan.proofs.Lives.{word, lives, whole_is}
use Rattle.signature_scan.proofs.Depths.{levels_from, level_at, next_told, levels_step}
use Rattle.signature_scan.proofs.Depths.{levels_end, is_deep, first_deep, deeper_is}
use Rattle.signature_scan.proofs.Depths.{still_shallow, none_deep, some_deep}

-- each is a byte
abbrev pub AreBytes : List ℕ → Type 0
AreBytes bytes = (i : ℕ) → get_or bytes i 0 < 256

-- what is known when these bytes have led to this state
pub record Reached (place : SigPlace) (front : List ℕ) (s : State) (deep : Option ℕ) : Type 0 where
  pub follows : (w : List ℕ) → AnyRow (rows s) w ↔ Spelled place (front ++ w)
  levels : List ℕ
  sized : length levels ≡ length front
  leveled : (w : List ℕ) → text_levels (front ++ w) ≡ levels ++ levels_from s w
  found : deep ≡ first_deep 0 levels
  shallow : deep ≡ None → depth_of s ≤ 64

pub reached_start : (place : SigPlace) → Reached place [] (state.Start place) None
reached_start place = record {
  follows = start_is place;
  levels = [];
  sized = refl;
  leveled = λ w. refl;
  found = refl;
  shallow = λ e. omega arith;
}

-- what follows behind a byte
behind_byte : (s : State) (b : ℕ) (o : Option State) (w : List ℕ) → b < 256 → next s b ≡ o
    → AnyRow (rows s) (b ∷ w) ↔ AnyRow (rows_if o) w
behind_byte s b o w h e =
    let same : derive_all (rows s) b ≡ rows_if o = next_rows s b h ∙ ap rows_if e in
    and_then (step_is (rows s) b w)
    (λ x. subst (λ rows. AnyRow rows w) same x, λ x. subst (λ rows. AnyRow rows w) (sym same) x)

pub reached_next : (place : SigPlace) (front : List ℕ) (s : State) (deep : Option ℕ) (b at : ℕ)
    (t : State) → b < 256 → next s b ≡ Some t → at ≡ length front → Reached place front s deep
    → Reached place (front ++ (b ∷ [])) t (deeper deep t at)
reached_next place front s deep b at t h e here r =
    let n = next_told s b t h e in
    record {
      follows = λ w.
          let whole : (front ++ (b ∷ [])) ++ w ≡ front ++ (b ∷ w) =
          append_assoc front (b ∷ []) w in
          and_then (turned (behind_byte s b (Some t) w h e))
          (and_then (r.follows (b ∷ w))
          (λ x. subst (Spelled place) (sym whole) x, λ x. subst (Spelled place) whole x));
      levels = r.levels ++ (level_at s b ∷ []);
      sized =
          length-append r.levels (level_at s b ∷ []) ∙ ap (λ k. k + 1) r.sized
          ∙ sym (length-append front (b ∷ []));
      leveled =
          λ w. ap text_levels (append_assoc front (b ∷ []) w) ∙ r.leveled (b ∷ w)
          ∙ ap (λ (v : List ℕ). r.levels ++ v) (levels_step s b t w n)
          ∙ sym (append_assoc r.levels (level_at s b ∷ []) (levels_from t w));
      found = deeper_is s b t deep at r.levels n r.found (here ∙ sym r.sized) r.shallow;
      shallow = still_shallow t deep at;
    }

-- ---- where the text ends

-- a front that reaches behind a byte
take_beyond : (front : List ℕ) (b : ℕ) (rest : List ℕ) (m : ℕ) → length front < m
    → (k : ℕ) × (take m (front ++ (b ∷ rest)) ≡ front ++ (b ∷ take k rest))
take_beyond [] b rest zero h = absurd (omega arith)
take_beyond [] b rest (suc m) h = (m, refl)
take_beyond (x ∷ front) b rest zero h = absurd (omega arith)
take_beyond (x ∷ front) b rest (suc m) h = let more = take_beyond front b rest m (omega arith) in
    (more.0, ap (λ (v : List ℕ). x ∷ v) more.1)

module _ (place : SigPlace) (front : List ℕ) (s : State) (deep : Option ℕ) (at : ℕ)
    (here : at ≡ length front) (r : Reached place front s deep) where
  some_begins : (rest : List ℕ) → Begins (SignatureSpells place) (take at (front ++ rest))
  some_begins rest =
      let sig = (r.follows (word s)).0 (lives s) in (
        sig.0,
        word s,
        subst (λ (f : List ℕ). SignatureSpells place sig.0 (f ++ word s))
            (sym (take_at front rest at (sym here))) sig.1,
      )

  length_is : length (front ++ []) ≡ at
  length_is = ap length (append-nil front) ∙ sym here

  bad_end : is_whole s ≡ false → IsBadText (SignatureSpells place) (front ++ []) at
  bad_end e = record {
    unspelled =
        λ sig spelled. false≢true (sym e ∙ (whole_is s).0 ((r.follows []).1 (sig, spelled)));
    longest = record {
      fits = let l = length_is in omega arith;
      begins = some_begins [];
      longest = λ m h begins. let l = length_is in omega arith;
    };
  }

  levels_are : (sig : JSig) → SignatureSpells place sig (front ++ []) → levels sig ≡ r.levels
  levels_are sig spelled =
      levels_by_text place sig spelled.form ∙ ap text_levels (sym spelled.whole) ∙ r.leveled []
      ∙ ap (λ (v : List ℕ). r.levels ++ v) (levels_end s) ∙ append-nil r.levels

  whole_end : (o : Option ℕ) → o ≡ first_deep 0 r.levels → Spelled place (front ++ [])
      → Scanned place (front ++ []) (whole_verdict o)
  whole_end None found spelled = (
    spelled.0,
    record {
      spelled = spelled.1;
      nested =
          subst (λ (ls : List ℕ). greatest ls ≤ 64) (sym (levels_are spelled.0 spelled.1))
          (none_deep 0 r.levels (sym found));
    },
  )
  whole_end (Some first) found spelled =
      let d = some_deep 0 r.levels first (sym found) in
      let opened : first ≡ position_or_len is_deep r.levels = omega (arith, d.place) in (
        spelled.0,
        record {
          spelled = spelled.1;
          nested =
              subst (λ (ls : List ℕ). 64 < greatest ls) (sym (levels_are spelled.0 spelled.1))
              d.deep;
          opens = opened ∙ ap (position_or_len is_deep) (sym (levels_are spelled.0 spelled.1));
        },
      )

  text_end : (whole : Bool) → is_whole s ≡ whole
      → Scanned place (front ++ []) (end_verdict whole deep at)
  text_end true e = whole_end deep r.found ((r.follows []).0 ((whole_is s).1 e))
  text_end false e = bad_end e

  -- ---- where a byte does not go on

  module _ (b : ℕ) (rest : List ℕ) (fits : b < 256) (stops : next s b ≡ None) where
    pub never : (w : List ℕ) → Spelled place (front ++ (b ∷ w)) → ⊥
    never w spelled = (behind_byte s b None w fits stops).0 ((r.follows (b ∷ w)).1 spelled)

    longer : (m : ℕ) → at < m → Begins (SignatureSpells place) (take m (front ++ (b ∷ rest))) → ⊥
    longer m h begins =
        let t = take_beyond front b rest m (omega arith) in
        let whole : take m (front ++ (b ∷ rest)) ++ begins.1
        ≡ front ++ (b ∷ (take t.0 rest ++ begins.1))
        = ap (λ (v : List ℕ). v ++ begins.1) t.1
        ∙ append_assoc front (b ∷ take t.0 rest) begins.1 in
        never (take t.0 rest ++ begins.1)
        (begins.0, subst (SignatureSpells place begins.0) whole begins.2)

    bad_at : IsBadText (SignatureSpells place) (front ++ (b ∷ rest)) at
    bad_at = record {
      unspelled = λ sig spelled. never rest (sig, spelled);
      longest = record {
        fits = let l = length-append front (b ∷ rest) in omega arith;
        begins = some_begins (b ∷ rest);
        longest =
            λ m h begins. elim (cases_lt at m) as
            (λ c. m ≤ at) [ inl more ↦ absurd (longer m more begins) | inr most ↦ most ];
      };
    }

scanned_from : (place : SigPlace) (rest front : List ℕ) (s : State) (deep : Option ℕ) (at : ℕ)
    → AreBytes rest → at ≡ length front → Reached place front s deep
    → Scanned place (front ++ rest) (run s deep at rest)
scanned_from place [] front s deep at bytes here r =
    text_end place front s deep at here r (is_whole s) refl
scanned_from place (b ∷ rest) front s deep at bytes here r =
    by (next s b) refl (λ t e. scanned_from place rest (front ++ (b ∷ [])) t (deeper deep t at)
    (at + 1) (λ i. bytes (suc i)) (ap (λ k. k + 1) here ∙ sym (length-append front (b ∷ [])))
    (reached_next place front s deep b at t (bytes zero) e here r))
  where
    by : (o : Option State) → next s b ≡ o
        → ((t : State) → next s b ≡ Some t
        → Scanned place ((front ++ (b ∷ [])) ++ rest) (run t (deeper deep t at) (at + 1) rest))
        → Scanned place (front ++ (b ∷ rest))
        (go_on o (λ t. run t (deeper deep t at) (at + 1) rest) at)
    by None e more = bad_at place front s deep at here r b rest (bytes zero) e
    by (Some t) e more =
        subst (λ (text : List ℕ). Scanned place text (run t (deeper deep t at) (at + 1) rest))
        (append_assoc front (b ∷ []) rest) (more t e)

-- the verdict on a whole text
pub scanned : (place : SigPlace) (text : List ℕ) → AreBytes text
    → Scanned place text (run (state.Start place) None 0 text)
scanned place text bytes =
    scanned_from place text [] (state.Start place) None 0 bytes refl (reached_start place)

-- ---- the loop

-- the scan goes on
pub run_more : (s t : State) (i : ℕ) (deep after : Option ℕ) (text : List ℕ) → i < length text
    → Some t ≡ next s (get_or text i 0) → after ≡ deeper deep t i
    → run t after (i + 1) (drop (i + 1) text) ≡ run s deep i (drop i text)
run_more s t i deep after text h e d =
    rw (d, drop_more text i 0 h) (ap
    (λ (o : Option State). go_on o (λ t. run t (deeper deep t i) (i + 1) (drop (i + 1) text))
    i) e)

-- the scan ends before a byte
pub run_stops : (s : State) (i : ℕ) (deep : Option ℕ) (text : List ℕ) → i < length text
    → None ≡ next s (get_or text i 0) → verdict.BadText i ≡ run s deep i (drop i text)
run_stops s i deep text h e =
    rw (drop_more text i 0 h) (ap (λ (o : Option State). go_on o
    (λ t. run t (deeper deep t i) (i + 1) (drop (i + 1) text)) i) e)

-- the scan ends with the text
pub run_ends : (s : State) (i : ℕ) (deep : Option ℕ) (text : List ℕ) → length text ≤ i
    → end_verdict (is_whole s) deep i ≡ run s deep i (drop i text)
run_ends s i deep text h = rw (drop_all i text h) refl

-- the verdict where the text ends
pub at_end : (place : SigPlace) (text : List ℕ) (v : Verdict) (s : State) (i : ℕ) (deep : Option ℕ)
    (whole : Bool)
    → run s deep i (drop i text) ≡ run (state.Start place) None 0 text → length text ≤ i
    → is_whole s ≡ whole → v ≡ end_verdict whole deep i
    → v ≡ run (state.Start place) None 0 text
at_end place text v s i deep whole kept h w e =
    e ∙ ap (λ t. end_verdict t deep i) (sym w) ∙ run_ends s i deep text h ∙ kept
