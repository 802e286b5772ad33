-- What is found in a list, and in what is left of it.
use Rattle.std.proofs.Common.{◌≡◌, refl, sym, ◌∙◌, ap, ℕ, Bool, true, false, cond, List}
use Rattle.std.proofs.Common.{◌∷◌, Option, Some, None, find, filter, filter_map, option_map}
use Rattle.std.proofs.Common.{option_to_list, if◌then◌else◌}
use Rattle.std.specs.Option.{option_or}
use Rattle.std.specs.List.{cons_option}
use Rattle.std.proofs.lemmas.Bool.{false≢true}
use Rattle.class_desc.specs.declared.value.Value.{Value}
use Rattle.class_views.specs.Alike.{Both}
use Rattle.class_views.specs.Flags.{is_private}
use Rattle.class_views.specs.Query.{first_constant, is_final_field}
use Rattle.class_views.specs.Resolution.{Declared, declared_by, first_declared, sole}
use Rattle.class_views.specs.View.{View, MemberView}
use Rattle.class_views.proofs.Ways.{In, first, later}
use Rattle.projection.specs.ShowsLess.{LeftOf, ends, stays, goes, field_may_go}
use Rattle.projection.proofs.Related.{Equal, Pairs, no_pair, pair}

-- Where nothing is found, nothing is found again; and what is found, if it may be seen, is found
-- again as what it is related to.
pub data Finds {X Y : Type 0} (Seen : X → Type 0) (Related : X → Y → Type 0) : Option X →
    Option Y →
    Type 0 where
  neither : Finds Seen Related None None
  unseen : {x : X} {p : Option Y} → (Seen x → ⊥) → Finds Seen Related (Some x) p
  again : {x : X} {y : Y} → Related x y → Finds Seen Related (Some x) (Some y)

-- whatever it is
abbrev pub Anything : {X : Type 0} → X → Type 0
Anything x = Unit {0}

module _ {X Y : Type 0} {Seen : X → Type 0} {Related : X → Y → Type 0} where
  pub finds_or : {o : Option X} {p : Option Y} {q : Option X} {r : Option Y} →
      Finds Seen Related o p → Finds Seen Related q r →
      Finds Seen Related (option_or o q) (option_or p r)
  finds_or neither next = next
  finds_or (unseen not_seen) next = unseen not_seen
  finds_or (again one) next = again one

  pub finds_any : {o : Option X} {p : Option Y} → Finds Anything Related o p →
      Finds Seen Related o p
  finds_any neither = neither
  finds_any (unseen not_seen) = absurd (not_seen tt)
  finds_any (again one) = again one

pub finds_itself : {X : Type 0} {Seen : X → Type 0} (o : Option X) → Finds Seen Equal o o
finds_itself None = neither
finds_itself (Some x) = again refl

-- ---- in lists of related items

module _ {X Y : Type 0} {Related : X → Y → Type 0} where
  pub made_of_pairs : {U V : Type 0} {Made : U → V → Type 0} {xs : List X} {ys : List Y}
      (f : X → Option U) (g : Y → Option V) →
      ((x : X) (y : Y) → Related x y → Finds Anything Made (f x) (g y)) → Pairs Related xs ys →
      Pairs Made (filter_map f xs) (filter_map g ys)
  made_of_pairs f g made no_pair = no_pair
  made_of_pairs {U = U} {V = V} {Made = Made} f g made
      (pair {x = x} {y = y} {xs = xs} {ys = ys} one rest) =
      by (made x y one) (made_of_pairs f g made rest)
    where
      by : {o : Option U} {p : Option V} → Finds Anything Made o p →
          Pairs Made (filter_map f xs) (filter_map g ys) →
          Pairs Made (cons_option o (filter_map f xs)) (cons_option p (filter_map g ys))
      by neither more = more
      by (unseen not_seen) more = absurd (not_seen tt)
      by (again two) more = pair two more

  pub sole_of_pairs : {xs : List X} {ys : List Y} → Pairs Related xs ys →
      Finds Anything Related (sole xs) (sole ys)
  sole_of_pairs no_pair = neither
  sole_of_pairs (pair one no_pair) = again one
  sole_of_pairs (pair one (pair two rest)) = neither

  pub pairs_listed : (o : Option X) (p : Option Y) → Both Related o p →
      Pairs Related (option_to_list o) (option_to_list p)
  pairs_listed None None both = no_pair
  pairs_listed (Some x) (Some y) both = pair both no_pair
  pairs_listed None (Some y) both = absurd both
  pairs_listed (Some x) None both = absurd both

-- ---- in what is left of a list

module _ {A : Type 0} {may_go : A → Bool} (test : A → Bool) where
  -- what passes the test and may be seen may not go
  pub left_found : {Seen : A → Type 0} →
      ((x : A) → test x ≡ true → Seen x → may_go x ≡ false) → {xs ys : List A} →
      LeftOf may_go xs ys → Finds Seen Equal (find test xs) (find test ys)
  left_found kept ends = neither
  left_found {Seen = Seen} kept (stays {x = x} {xs = xs} {ys = ys} left) =
      by (test x) (left_found kept left)
    where
      by : (b : Bool) → Finds Seen Equal (find test xs) (find test ys) →
          Finds Seen Equal (cond b (Some x) (find test xs)) (cond b (Some x) (find test ys))
      by true rest = again refl
      by false rest = rest
  left_found {Seen = Seen} kept (goes {x = x} {xs = xs} {ys = ys} may left) =
      by (test x) refl (left_found kept left)
    where
      by : (b : Bool) → test x ≡ b → Finds Seen Equal (find test xs) (find test ys) →
          Finds Seen Equal (cond b (Some x) (find test xs)) (find test ys)
      by true t rest = unseen (λ seen. false≢true (sym (kept x t seen) ∙ may))
      by false t rest = rest

  -- nothing that passes the test may go
  pub left_filtered : {xs ys : List A} → LeftOf may_go xs ys →
      ((x : A) → In x xs → test x ≡ true → may_go x ≡ false) → filter test xs ≡ filter test ys
  left_filtered ends kept = refl
  left_filtered (stays {x = x} left) kept =
      ap (λ others. cond (test x) (x ∷ others) others)
      (left_filtered left (λ y at. kept y (later at)))
  left_filtered (goes {x = x} {xs = xs} {ys = ys} may left) kept =
      by (test x) refl (left_filtered left (λ y at. kept y (later at)))
    where
      by : (b : Bool) → test x ≡ b → filter test xs ≡ filter test ys →
          cond b (x ∷ filter test xs) (filter test xs) ≡ filter test ys
      by true t rest = absurd (false≢true (sym (kept x first t) ∙ may))
      by false t rest = rest

-- ---- members

abbrev pub IsNotPrivate : MemberView → Type 0
IsNotPrivate m = is_private m.flags ≡ false

abbrev pub HasSeenField : MemberView × Value → Type 0
HasSeenField constant = IsNotPrivate constant.0

pub left_constant : (name : List ℕ) {xs ys : List MemberView} → LeftOf field_may_go xs ys →
    Finds HasSeenField Equal (first_constant name xs) (first_constant name ys)
left_constant name ends = neither
left_constant name (stays {x = x} left) =
    finds_or
    (finds_itself
    (if is_final_field name x then option_map (λ value. (x, value)) x.constant else None))
    (left_constant name left)
left_constant name (goes {x = x} {xs = xs} {ys = ys} may left) =
    by (is_final_field name x) x.constant (left_constant name left)
  where
    by : (b : Bool) (o : Option Value) →
        Finds HasSeenField Equal (first_constant name xs) (first_constant name ys) →
        Finds HasSeenField Equal
        (option_or (if b then option_map (λ value. (x, value)) o else None)
        (first_constant name xs)) (first_constant name ys)
    by true (Some value) rest = unseen (λ seen. false≢true (sym seen ∙ may))
    by true None rest = rest
    by false o rest = rest

-- ---- the member of the first class that has one

-- the same member, of related classes
abbrev pub SameMember : (View → View → Type 0) → Declared → Declared → Type 0
SameMember Related x y = Related x.declarer y.declarer × (x.member ≡ y.member)

abbrev pub HasSeen : (MemberView → Type 0) → Declared → Type 0
HasSeen Seen x = Seen x.member

module _ {Related : View → View → Type 0} {Seen : MemberView → Type 0}
    (choice : View → Option MemberView)
    (finds : (c d : View) → Related c d → Finds Seen Equal (choice c) (choice d)) where
  pub declared_found : (c d : View) → Related c d →
      Finds (HasSeen Seen) (SameMember Related) (declared_by choice c) (declared_by choice d)
  declared_found c d related = by (finds c d related)
    where
      by : {o p : Option MemberView} → Finds Seen Equal o p →
          Finds (HasSeen Seen) (SameMember Related)
          (option_map (λ m. record { declarer = c; member = m }) o)
          (option_map (λ m. record { declarer = d; member = m }) p)
      by neither = neither
      by (unseen not_seen) = unseen not_seen
      by (again same) = again (related, same)

  pub first_found : {cs ds : List View} → Pairs Related cs ds →
      Finds (HasSeen Seen) (SameMember Related) (first_declared choice cs)
      (first_declared choice ds)
  first_found no_pair = neither
  first_found (pair {x = c} {y = d} one rest) =
      finds_or (declared_found c d one) (first_found rest)
