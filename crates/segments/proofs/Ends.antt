-- Segments one after the other, from front to back: `before` is what the first of them has
-- already.
use Rattle.std.proofs.Common.{◌≡◌, refl, sym, ◌∙◌, ap, subst, Bool, true, false, ◌||◌, cond}
use Rattle.std.proofs.Common.{if◌then◌else◌, List, [], ◌∷◌, ◌++◌, append_assoc, append-nil}
use Rattle.segments.specs.Places.{behind_item, has_place}
use Rattle.segments.specs.Cut.{Piece}
use Rattle.segments.specs.Segmentwise.{ends, AreSegments, no_end, first}
use Rattle.segments.proofs.Parts.{shifted, shifted_item}

-- the segments that end: each time the pieces before the end, and the piece that ends them
abbrev pub between_ends : List Piece → List Piece → List (List Piece × Piece)
between_ends before [] = []
between_ends before (p ∷ ps) =
    if ends before p then (before, p) ∷ between_ends [] ps else between_ends (before ++ p ∷ []) ps

-- the pieces of the segment that doesn't end
abbrev pub behind_ends : List Piece → List Piece → List Piece
behind_ends before [] = before
behind_ends before (p ∷ ps) =
    if ends before p then behind_ends [] ps else behind_ends (before ++ p ∷ []) ps

-- ---- they are segments

has_place_end : {X : Type 0} (is : List X → X → Bool) (xs : List X) (x : X)
    → has_place is (xs ++ x ∷ []) ≡ (has_place is xs || is xs x)
has_place_end is [] x = by (is [] x) where
  by : (b : Bool) → (b || false) ≡ b
  by true = refl
  by false = refl
has_place_end is (y ∷ xs) x = by (is [] y) (has_place_end (behind_item is y) xs x) where
  by : (b : Bool)
      → has_place (behind_item is y) (xs ++ x ∷ [])
      ≡ (has_place (behind_item is y) xs || is (y ∷ xs) x)
      → (b || has_place (behind_item is y) (xs ++ x ∷ []))
      ≡ ((b || has_place (behind_item is y) xs) || is (y ∷ xs) x)
  by true e = refl
  by false e = e

are_from : (ps before : List Piece) → has_place ends before ≡ false
    → AreSegments (before ++ ps) (between_ends before ps) (behind_ends before ps)
are_from [] before e =
    subst (λ l. AreSegments l [] before) (sym (append-nil before)) (no_end before e)
are_from (p ∷ ps) before e = by (ends before p) refl (are_from ps) where
  by : (b : Bool) → ends before p ≡ b
      → ((front : List Piece) → has_place ends front ≡ false
      → AreSegments (front ++ ps) (between_ends front ps) (behind_ends front ps))
      → AreSegments (before ++ p ∷ ps)
      (cond b ((before, p) ∷ between_ends [] ps) (between_ends (before ++ p ∷ []) ps))
      (cond b (behind_ends [] ps) (behind_ends (before ++ p ∷ []) ps))
  by true h more = first before p ps (between_ends [] ps) (behind_ends [] ps) e h (more [] refl)
  by false h more =
      subst (λ l. AreSegments l (between_ends (before ++ p ∷ []) ps)
      (behind_ends (before ++ p ∷ []) ps))
      (append_assoc before (p ∷ []) ps)
      (more (before ++ p ∷ []) (has_place_end ends before p ∙ ap (λ a. a || ends before p) e ∙ h))

pub are_segments : (ps : List Piece) → AreSegments ps (between_ends [] ps) (behind_ends [] ps)
are_segments ps = are_from ps [] refl

-- ---- and no others are

or_first : (a b : Bool) → (a || b) ≡ false → a ≡ false
or_first true b e = cc
or_first false b e = refl

or_second : (a b : Bool) → (a || b) ≡ false → b ≡ false
or_second true b e = cc
or_second false b e = e

-- what goes on behind a piece that ends no segment goes on behind pieces of which none does
skip : {Y : Type 0} (F : List Piece → List Piece → Y)
    → ((front : List Piece) (p : Piece) (ps : List Piece) → ends front p ≡ false
    → F front (p ∷ ps) ≡ F (front ++ p ∷ []) ps)
    → (before ps front : List Piece) → has_place (shifted ends front) before ≡ false
    → F front (before ++ ps) ≡ F (front ++ before) ps
skip F one [] ps front e = ap (λ f. F f ps) (sym (append-nil front))
skip F one (p ∷ before) ps front e =
    let places = behind_item (shifted ends front) p in
    let here = or_first (ends (front ++ []) p) (has_place places before) e in
    let there = or_second (ends (front ++ []) p) (has_place places before) e in
    one front p (before ++ ps) (ap (λ f. ends f p) (sym (append-nil front)) ∙ here)
    ∙ skip F one before ps (front ++ p ∷ [])
    (ap (λ is. has_place is before) (shifted_item ends front p) ∙ there)
    ∙ ap (λ f. F f ps) (append_assoc front (p ∷ []) before)

between_one : (front : List Piece) (p : Piece) (ps : List Piece) → ends front p ≡ false
    → between_ends front (p ∷ ps) ≡ between_ends (front ++ p ∷ []) ps
between_one front p ps e =
    ap (λ b. cond b ((front, p) ∷ between_ends [] ps) (between_ends (front ++ p ∷ []) ps)) e

behind_one : (front : List Piece) (p : Piece) (ps : List Piece) → ends front p ≡ false
    → behind_ends front (p ∷ ps) ≡ behind_ends (front ++ p ∷ []) ps
behind_one front p ps e = ap (λ b. cond b (behind_ends [] ps) (behind_ends (front ++ p ∷ []) ps)) e

pub only_segments : {ps : List Piece} {segments : List (List Piece × Piece)} {rest : List Piece}
    → AreSegments ps segments rest → (segments ≡ between_ends [] ps) × (rest ≡ behind_ends [] ps)
only_segments (no_end rest e) = (
  sym (ap (between_ends []) (sym (append-nil rest)) ∙ skip between_ends between_one rest [] [] e),
  sym (ap (behind_ends []) (sym (append-nil rest)) ∙ skip behind_ends behind_one rest [] [] e),
)
only_segments (first before p ps segments rest e h more) =
    let m = only_segments more in (
      ap (λ x. (before, p) ∷ x) m.0
          ∙ sym (skip between_ends between_one before (p ∷ ps) [] e
          ∙ ap (λ b. cond b ((before, p) ∷ between_ends [] ps)
          (between_ends (before ++ p ∷ []) ps)) h),
      m.1
          ∙ sym (skip behind_ends behind_one before (p ∷ ps) [] e
          ∙ ap (λ b. cond b (behind_ends [] ps) (behind_ends (before ++ p ∷ []) ps)) h),
    )
