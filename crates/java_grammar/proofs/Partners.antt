-- The partner of a bracket, found with a count of the brackets that are open.
use Rattle.std.proofs.Common.{◌≡◌, refl, sym, ◌∙◌, ap, ℕ, zero, suc, ◌+◌, ◌-◌, ◌==◌, arith, cond}
use Rattle.std.proofs.Common.{Bool, true, false, ◌&&◌, if◌then◌else◌, List, [], ◌∷◌, Some}
use Rattle.std.specs.Prelude.{count_by}
use Rattle.std.proofs.lemmas.Bool.{eqb-true, eqb-false, eq-eqb, ne_eqb}
use Rattle.std.proofs.lemmas.List.Sums.{sum_by-cons}
use Rattle.segments.specs.Places.{behind_item}
use Rattle.java_grammar.specs.declared.part.Part.{Part}
use Rattle.java_grammar.specs.declared.part.Part.TheVariants as part
use Rattle.java_grammar.specs.Tests.{is_opening, is_closing}
use Rattle.java_grammar.specs.Extents.{one_more, up_to_first, is_partner, partner_of}
use Rattle.java_grammar.specs.Running.{partner_from}

same_by : (a b c d : ℕ) (t : Bool) → (a == b) ≡ t → (a ≡ b → c ≡ d) → (c ≡ d → a ≡ b)
    → t ≡ (c == d)
same_by a b c d true e there back = sym (eq-eqb c d (there (eqb-true a b e)))
same_by a b c d false e there back = sym (ne_eqb c d (λ q. eqb-false a b e (back q)))

same_test : (a b c d : ℕ) → (a ≡ b → c ≡ d) → (c ≡ d → a ≡ b) → (a == b) ≡ (c == d)
same_test a b c d there back = same_by a b c d (a == b) refl there back

same_first : {X : Type 0} (f g : List X → X → Bool) (xs : List X)
    → ((before : List X) (x : X) → f before x ≡ g before x)
    → up_to_first f xs ≡ up_to_first g xs
same_first f g [] h = refl
same_first f g (x ∷ xs) h =
    ap (λ b. if b then Some 1 else one_more (up_to_first (behind_item f x) xs)) (h [] x)
    ∙ ap (λ o. if g [] x then Some 1 else one_more o)
    (same_first (behind_item f x) (behind_item g x) xs (λ before y. h (x ∷ before) y))

-- the partner where so many more brackets are open
abbrev pub is_partner_behind : ℕ → List Part → Part → Bool
is_partner_behind inside between p =
    is_closing p && (inside + count_by is_opening between == count_by is_closing between)

shifted : (inside now : ℕ) (p : Part) (between : List Part) (q : Part)
    → inside + cond (is_opening p) 1 0 ≡ now + cond (is_closing p) 1 0
    → is_partner_behind inside (p ∷ between) q ≡ is_partner_behind now between q
shifted inside now p between q e =
    let opens = sum_by-cons (λ x. cond (is_opening x) 1 0) p between in
    let closes = sum_by-cons (λ x. cond (is_closing x) 1 0) p between in
    ap (λ b. is_closing q && b)
    (same_test (inside + count_by is_opening (p ∷ between)) (count_by is_closing (p ∷ between))
    (now + count_by is_opening between) (count_by is_closing between)
    (λ h. omega (arith, opens, closes)) (λ h. omega (arith, opens, closes)))

opening_closes_none : (p : Part) → is_opening p ≡ true → is_closing p ≡ false
opening_closes_none (part.Opening pair) e = refl
opening_closes_none p e = cc

-- behind a part that is no partner
behind_part : (inside now : ℕ) (p : Part) (ps : List Part)
    → inside + cond (is_opening p) 1 0 ≡ now + cond (is_closing p) 1 0
    → up_to_first (behind_item (is_partner_behind inside) p) ps
    ≡ up_to_first (is_partner_behind now) ps
behind_part inside now p ps e = same_first
    (behind_item (is_partner_behind inside) p) (is_partner_behind now) ps
    (λ between q. shifted inside now p between q e)

-- a bracket that closes, where so many more are open
closed_inside : (inside : ℕ) (p : Part) (ps : List Part) → is_opening p ≡ false
    → is_closing p ≡ true
    → ((now : ℕ) → partner_from now ps ≡ up_to_first (is_partner_behind now) ps)
    → partner_from inside (p ∷ ps) ≡ up_to_first (is_partner_behind inside) (p ∷ ps)
closed_inside zero p ps opens closes rest = rw opens (rw closes refl)
closed_inside (suc m) p ps opens closes rest =
    let still : (suc m == 0) ≡ false = ne_eqb (suc m) 0 (λ e. absurd (omega arith)) in
    let none : (suc m + 0 == 0) ≡ false = ne_eqb (suc m + 0) 0 (λ e. absurd (omega arith)) in
    let less : suc m - 1 ≡ m = omega arith in
    let open_now : suc m + cond (is_opening p) 1 0 ≡ m + cond (is_closing p) 1 0 =
    rw opens (rw closes (omega arith)) in
    let behind = rest m ∙ sym (behind_part (suc m) m p ps open_now) in
    rw opens (rw closes (rw still (rw none (ap (λ n. one_more (partner_from n ps)) less
    ∙ ap one_more behind))))

at_part : (inside : ℕ) (p : Part) (ps : List Part) (o c : Bool) → is_opening p ≡ o
    → is_closing p ≡ c
    → ((now : ℕ) → partner_from now ps ≡ up_to_first (is_partner_behind now) ps)
    → partner_from inside (p ∷ ps) ≡ up_to_first (is_partner_behind inside) (p ∷ ps)
at_part inside p ps true c opens closes rest =
    let open_only = opening_closes_none p opens in
    let open_now : inside + cond (is_opening p) 1 0 ≡ inside + 1 + cond (is_closing p) 1 0 =
    rw opens (rw open_only (omega arith)) in
    let behind = rest (inside + 1) ∙ sym (behind_part inside (inside + 1) p ps open_now) in
    rw opens (rw open_only (ap one_more behind))
at_part inside p ps false true opens closes rest = closed_inside inside p ps opens closes rest
at_part inside p ps false false opens closes rest =
    let open_now : inside + cond (is_opening p) 1 0 ≡ inside + cond (is_closing p) 1 0 =
    rw opens (rw closes refl) in
    let behind = rest inside ∙ sym (behind_part inside inside p ps open_now) in
    rw opens (rw closes (ap one_more behind))

partner_counts : (inside : ℕ) (ps : List Part)
    → partner_from inside ps ≡ up_to_first (is_partner_behind inside) ps
partner_counts inside [] = refl
partner_counts inside (p ∷ ps) = at_part inside p ps (is_opening p) (is_closing p) refl refl
    (λ now. partner_counts now ps)

-- counting finds the partner
pub partner_is_counted : (ps : List Part) → partner_from 0 ps ≡ partner_of ps
unfolding partner_of
partner_is_counted ps = partner_counts 0 ps ∙ same_first (is_partner_behind 0) is_partner ps
    (λ between p. ap (λ n. is_closing p && (n == count_by is_closing between)) (omega arith))
