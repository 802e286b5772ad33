-- The numbers of names.
use Rattle.std.proofs.Common.{◌≡◌, refl, ap, sym, subst, ◌∙◌, ℕ, zero, suc, ◌<◌, ◌≤◌, arith}
use Rattle.std.proofs.Common.{Bool, true, false, List, [], ◌∷◌, ◌++◌, length, ⊎_elim, Option, Some}
use Rattle.std.proofs.Common.{None}
use Rattle.std.specs.Prelude.{slice_get, option_map, option_and_then, if◌then◌else◌}
use Rattle.std.proofs.lemmas.Option.{slice_get_within}
use Rattle.std.proofs.lemmas.Bool.{cases_lt}
use Rattle.class_views.specs.View.{View}
use Rattle.class_views.specs.World.{World, is_named, class_of}
use Rattle.class_views.proofs.Worlds.{same_text, texts}
use Rattle.client_view.specs.Numbers.{number_of, noted, AreApart}

abbrev next : ℕ → ℕ
next number = suc number

-- ---- one class more

noted_next : (o : Option ℕ) (same : Bool) (n : ℕ) →
    option_map next (noted o same n) ≡ noted (option_map next o) same (suc n)
noted_next (Some first) same n = refl
noted_next None true n = refl
noted_next None false n = refl

pub number_push : (world : World) (c : View) (name : List ℕ) (n : ℕ) → n ≡ length world →
    number_of (world ++ c ∷ []) name ≡ noted (number_of world name) (is_named name c) n
number_push [] c name n e = by (is_named name c)
  where
    by : (b : Bool) → (if b then Some 0 else option_map next None) ≡ noted None b n
    by true = ap Some (sym e)
    by false = refl
number_push (d ∷ world) c name zero e = absurd (omega (arith, e))
number_push (d ∷ world) c name (suc n) e =
    by (is_named name d) (number_push world c name n (omega (arith, e)))
  where
    by : (b : Bool) → number_of (world ++ c ∷ []) name
        ≡ noted (number_of world name) (is_named name c) n →
        (if b then Some 0 else option_map next (number_of (world ++ c ∷ []) name))
        ≡ noted (if b then Some 0 else option_map next (number_of world name)) (is_named name c)
        (suc n)
    by true more = refl
    by false more =
        ap (option_map next) more ∙ noted_next (number_of world name) (is_named name c) n

-- ---- the class of a number

pub record Numbered (world : World) (name : List ℕ) (number : ℕ) : Type 0 where
  pub class : View
  pub there : slice_get world number ≡ Some class
  pub named : class.name ≡ name

pub number_there : (world : World) (name : List ℕ) (number : ℕ) →
    number_of world name ≡ Some number → Numbered world name number
number_there [] name number e = absurd cc
number_there (d ∷ world) name number e =
    by (is_named name d) refl (number_of world name) refl (number_there world name) e
  where
    by : (b : Bool) → is_named name d ≡ b → (o : Option ℕ) → number_of world name ≡ o →
        ((n : ℕ) → number_of world name ≡ Some n → Numbered world name n) →
        (if b then Some 0 else option_map next o) ≡ Some number → Numbered (d ∷ world) name number
    by true t o f more e =
        let zero_is : 0 ≡ number = cc in
        subst (λ n. Numbered (d ∷ world) name n) zero_is
        (record { class = d; there = refl; named = same_text d.name name t })
    by false t None f more e = absurd cc
    by false t (Some m) f more e =
        let below = more m f in
        let suc_is : suc m ≡ number = cc in
        subst (λ n. Numbered (d ∷ world) name n) suc_is
        (record { class = below.class; there = below.there; named = below.named })

-- the first class of the name
pub number_least : (world : World) (name : List ℕ) (number other : ℕ) (c : View) →
    number_of world name ≡ Some number → slice_get world other ≡ Some c → c.name ≡ name →
    number ≤ other
number_least [] name number other c e at same = absurd cc
number_least (d ∷ world) name number other c e at same =
    by (is_named name d) refl (number_of world name) refl
    (λ m n f there. number_least world name m n c f there same) other e at
  where
    by : (b : Bool) → is_named name d ≡ b → (o : Option ℕ) → number_of world name ≡ o →
        ((m n : ℕ) → number_of world name ≡ Some m → slice_get world n ≡ Some c → m ≤ n) →
        (n : ℕ) → (if b then Some 0 else option_map next o) ≡ Some number →
        slice_get (d ∷ world) n ≡ Some c → number ≤ n
    by true t o f later n e at = let zero_is : 0 ≡ number = cc in omega (arith, zero_is)
    by false t None f later n e at = absurd cc
    by false t (Some m) f later zero e at =
        let d_is : d ≡ c = cc in
        let named : is_named name d ≡ true =
        subst (λ (x : List ℕ). is_named x d ≡ true) (ap (λ (v : View). v.name) d_is ∙ same)
        (texts.refl d.name) in
        absurd (cc (t, named))
    by false t (Some m) f later (suc n) e at =
        let more = later m n f at in
        let suc_is : suc m ≡ number = cc in
        omega (arith, more, suc_is)

pub number_none : (world : World) (name : List ℕ) (other : ℕ) (c : View) →
    number_of world name ≡ None → slice_get world other ≡ Some c → c.name ≡ name → ⊥
number_none [] name other c e at same = cc
number_none (d ∷ world) name other c e at same =
    by (is_named name d) refl (number_of world name) refl
    (λ n f there. number_none world name n c f there same) other e at
  where
    by : (b : Bool) → is_named name d ≡ b → (o : Option ℕ) → number_of world name ≡ o →
        ((n : ℕ) → number_of world name ≡ None → slice_get world n ≡ Some c → ⊥) →
        (n : ℕ) → (if b then Some 0 else option_map next o) ≡ None →
        slice_get (d ∷ world) n ≡ Some c → ⊥
    by true t o f later n e at = cc
    by false t (Some m) f later n e at = cc
    by false t None f later zero e at =
        let d_is : d ≡ c = cc in
        let named : is_named name d ≡ true =
        subst (λ (x : List ℕ). is_named x d ≡ true) (ap (λ (v : View). v.name) d_is ∙ same)
        (texts.refl d.name) in
        cc (t, named)
    by false t None f later (suc n) e at = later n f at

pub number_within : (world : World) (name : List ℕ) (number : ℕ) →
    number_of world name ≡ Some number → number < length world
number_within world name number e =
    let at = number_there world name number e in slice_get_within world number at.class at.there

-- the number of each class, where no two have one name
pub number_is : (world : World) → AreApart world → (number : ℕ) (c : View) →
    slice_get world number ≡ Some c → number_of world c.name ≡ Some number
number_is world apart number c at = by (number_of world c.name) refl
  where
    same : (first : ℕ) → number_of world c.name ≡ Some first → first ≡ number
    same first e =
        let found = number_there world c.name first e in
        let least = number_least world c.name first number c e at refl in
        ⊎_elim
        (λ (before : first < number). absurd (apart first number before (record {
          one = found.class;
          other = c;
          first_is = found.there;
          second_is = at;
          same = found.named;
        })))
        (λ (not_before : number ≤ first).
        let e : first ≡ number = omega (arith, least, not_before) in e)
        (cases_lt first number)

    by : (o : Option ℕ) → number_of world c.name ≡ o → o ≡ Some number
    by None e = absurd (number_none world c.name number c e at refl)
    by (Some first) e = ap Some (same first e)

-- ---- classes by their numbers

numbered_next : (world : World) (d : View) (o : Option ℕ) →
    option_and_then (slice_get (d ∷ world)) (option_map next o)
    ≡ option_and_then (slice_get world) o
numbered_next world d None = refl
numbered_next world d (Some n) = refl

pub class_by_number : (world : World) (name : List ℕ) →
    class_of world name ≡ option_and_then (slice_get world) (number_of world name)
class_by_number [] name = refl
class_by_number (d ∷ world) name = by (is_named name d) (class_by_number world name)
  where
    by : (b : Bool) → class_of world name ≡ option_and_then (slice_get world)
        (number_of world name) →
        (if b then Some d else class_of world name)
        ≡ option_and_then (slice_get (d ∷ world))
        (if b then Some 0 else option_map next (number_of world name))
    by true more = refl
    by false more = more ∙ sym (numbered_next world d (number_of world name))
