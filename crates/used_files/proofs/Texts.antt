-- What methods of texts answer, in the words of paths.
use Rattle.std.proofs.Common.{◌≡◌, ◌≢◌, ℕ, ◌+◌, ◌-◌, ◌<◌, ◌≤◌, Bool, true, false, cond, eqb, ltb}
use Rattle.std.proofs.Common.{List, [], ◌∷◌, length, take, drop, refl, sym, ap, subst, ◌∙◌}
use Rattle.std.proofs.Common.{arith, lit<, length-drop}
use Rattle.std.specs.Prelude.{nat_eq, codes, Option, Some, None, MatchOption, IfSome, option_map}
use Rattle.std.specs.Prelude.{unwrap_or}
use Rattle.std.specs.Borrow.{Bor}
use Rattle.std.specs.List.{starts_with, position_or_len, before_first, after_first}
use Rattle.std.specs.Str.Pattern.{FindsTextPrefix, FindsTextSuffix, StripsPrefix, StripsSuffix}
use Rattle.std.specs.Str.Pattern.{FindsCharPrefix}
use Rattle.std.specs.Str.{IsCharBoundary}
use Rattle.std.proofs.lemmas.Bool.{eqb-true, lt-ltb, le-ltb}
use Rattle.std.proofs.lemmas.Str.Pattern.{IsSplitOnceResult, split_once_first, starts_text}
use Rattle.std.proofs.lemmas.Str.Pattern.{ends_text, strip_prefix_char}
use Rattle.option_words.specs.Seen.{parts_seen, text_seen}
use Rattle.used_files.specs.Paths.{first_folder, behind_slash, stem}

abbrev Text : Type 0
Text = Bor (List ℕ)

abbrev is_slash : ℕ → Bool
is_slash b = eqb b 47

-- ---- the first folder

abbrev folder_at : List ℕ → Bool → Option (List ℕ × List ℕ)
folder_at path there =
    cond there (Some (before_first is_slash path, after_first is_slash path)) None

as_folder : (path : List ℕ) (there : Bool)
    → ltb (position_or_len is_slash path) (length path) ≡ there
    → folder_at path there ≡ first_folder path
as_folder path there e = by (ltb (position_or_len is_slash path) (length path)) there e
  where
    by : (b t : Bool) → b ≡ t
        → folder_at path t
        ≡ option_map (λ i. (take i path, drop (i + 1) path))
        (cond b (Some (position_or_len is_slash path)) None)
    by true true e = refl
    by false false e = refl
    by true false e = absurd cc
    by false true e = absurd cc

pub folder_found : (path : List ℕ) (r : Option (Text × Text)) → IsSplitOnceResult 47 path r
    → parts_seen r ≡ first_folder path
folder_found path None s =
    let m : position_or_len is_slash path
    ≡ length path = split_once_first 47 path None s (lit< tt) in
    as_folder path false (le-ltb (position_or_len is_slash path) (length path) (omega arith))
folder_found path (Some x) s =
    let m = split_once_first 47 path (Some x) s (lit< tt) in
    let parts : Some (x.0.now, x.1.now) ≡ folder_at path true = cc (m.1, m.2) in
    parts ∙ as_folder path true (lt-ltb (position_or_len is_slash path) (length path) m.0)

-- what stands behind the first folder is shorter
pub folder_shorter : (path : List ℕ) (r : Option (Text × Text)) → IsSplitOnceResult 47 path r
    → IfSome r (λ x. length x.1.now < length path)
folder_shorter path None s = tt
folder_shorter path (Some x) s =
    let m = split_once_first 47 path (Some x) s (lit< tt) in
    let e : length x.1.now ≡ length (after_first is_slash path) = ap length m.2 in
    let d : length (after_first is_slash path)
    ≡ length path - (position_or_len is_slash path + 1) = length-drop
    (position_or_len is_slash path + 1) path in
    let lt : position_or_len is_slash path < length path = m.0 in
    omega arith

-- ---- a root in front

pub prefix_stripped : (root path : List ℕ) (r : Option Text)
    → MatchOption r (FindsTextPrefix root path None)
    (λ x. StripsPrefix (FindsTextPrefix root) path x.now)
    → text_seen r ≡ cond (starts_with nat_eq path root) (Some (drop (length root) path)) None
prefix_stripped root path None s =
    ap (λ b. cond b (Some (drop (length root) path)) None) (starts_text false root path s)
prefix_stripped root path (Some x) (n, found, is, long) =
    let at : IsCharBoundary path n = subst (IsCharBoundary path) (sym found.0) found.2 in
    ap Some (is ∙ ap (λ k. drop k path) found.0)
    ∙ ap (λ b. cond b (Some (drop (length root) path)) None)
    (starts_text true root path (n, found, at))

pub slash_stripped : (rest : List ℕ) (r : Option Text)
    → MatchOption r (FindsCharPrefix 47 rest None)
    (λ x. (n : ℕ) × FindsCharPrefix 47 rest (Some n) × (x.now ≡ drop n rest)
    × (length x.now + n ≡ length rest))
    → text_seen r ≡ behind_slash rest
slash_stripped rest None s = by rest (strip_prefix_char 47 rest None s (lit< tt))
  where
    by : (rest : List ℕ) → ((more : List ℕ) → rest ≢ 47 ∷ more) → None ≡ behind_slash rest
    by [] never = refl
    by (b ∷ bs) never = slash (eqb b 47) refl
      where
        slash : (t : Bool) → eqb b 47 ≡ t → None ≡ cond t (Some bs) None
        slash true e = absurd (never bs (ap (λ (c : ℕ). c ∷ bs) (eqb-true b 47 e)))
        slash false e = refl
slash_stripped rest (Some x) s =
    sym (ap behind_slash (strip_prefix_char 47 rest (Some x) s (lit< tt)))

pub behind_some : (starts : Bool) (rest behind : List ℕ)
    → Some rest ≡ cond starts (Some behind) None
    → behind_slash rest ≡ cond starts (behind_slash behind) None
behind_some true rest behind e = let same : rest ≡ behind = cc in ap behind_slash same
behind_some false rest behind e = absurd cc

pub behind_none : (starts : Bool) (behind : List ℕ) → None ≡ cond starts (Some behind) None
    → None ≡ cond starts (behind_slash behind) None
behind_none true behind e = absurd cc
behind_none false behind e = refl

-- ---- an ending

pub stem_found : (path : List ℕ) (r : Option Text)
    → MatchOption r (FindsTextSuffix (codes ".class") path None)
    (λ x. StripsSuffix (FindsTextSuffix (codes ".class")) path x.now)
    → unwrap_or (text_seen r) path ≡ stem path
stem_found path None s =
    ap (λ b. cond b (take (length path - length (codes ".class")) path) path)
    (ends_text false (codes ".class") path s)
stem_found path (Some x) (n, found, is, long) =
    let at : IsCharBoundary path (length path - n) = subst
    (λ k. IsCharBoundary path (length path - k)) (sym found.0) found.2 in
    let within : n ≤ length path = omega arith in
    is ∙ ap (λ k. take (length path - k) path) found.0
    ∙ ap (λ b. cond b (take (length path - length (codes ".class")) path) path)
    (ends_text true (codes ".class") path (n, found, within, at))
