-- What holds of a list, of its keys and of its bytes holds of what is left of its items.
use Rattle.std.proofs.Common.{◌≡◌, ℕ, ◌+◌, ◌<◌, ◌≤◌, ◌^◌, arith, Bool, true, false, cond, List, []}
use Rattle.std.proofs.Common.{◌∷◌, ◌++◌, length, map, Option, Some, None, refl, sym, ap, subst}
use Rattle.std.proofs.Common.{length-append}
use Rattle.std.specs.Prelude.{filter, IfSome}
use Rattle.std.specs.List.{AllByRecursion, IsDistinct, cons_option, filter_map}
use Rattle.std.specs.Int.{w16, to_be_bytes}
use Rattle.class_desc.specs.Items.{EachSpells, CountedSpells}
use Rattle.lemmas.proofs.Lists.{all_append, all_front, all_behind}

abbrev pub IsByte : ℕ → Type 0
IsByte b = b < 2 ^ 8

abbrev pub AreBytes : List ℕ → Type 0
AreBytes bytes = AllByRecursion IsByte bytes

-- it is spelled, by no more bytes than these
pub record Fewer (Spelled : List ℕ → Type 0) (most : ℕ) : Type 0 where
  pub bytes : List ℕ
  pub are : AreBytes bytes
  pub few : length bytes ≤ most
  pub spelled : Spelled bytes

-- of each item one is left, or none
module _ {A : Type 0} (left : A → Option A) where
  pub few_left : (items : List A) → length (filter_map left items) ≤ length items
  few_left [] = omega arith
  few_left (item ∷ items) = by (left item) (few_left items)
    where
      by : (o : Option A) → length (filter_map left items) ≤ length items
          → length (cons_option o (filter_map left items)) ≤ length (item ∷ items)
      by (Some one) few = omega arith
      by None few = omega arith

  module _ {K : Type 0} (key : A → K)
      (keyed : (item : A) → IfSome (left item) (λ one. key one ≡ key item)) where
    all_left : (Holds : K → Type 0) (items : List A) → AllByRecursion Holds (map key items)
        → AllByRecursion Holds (map key (filter_map left items))
    all_left Holds [] all = tt
    all_left Holds (item ∷ items) all = by (left item) (keyed item) (all_left Holds items all.1)
      where
        by : (o : Option A) → IfSome o (λ one. key one ≡ key item)
            → AllByRecursion Holds (map key (filter_map left items))
            → AllByRecursion Holds (map key (cons_option o (filter_map left items)))
        by (Some one) same rest = (subst Holds (sym same) all.0, rest)
        by None same rest = rest

    pub distinct_left : (same : K → K → Bool) (items : List A) → IsDistinct same (map key items)
        → IsDistinct same (map key (filter_map left items))
    unfolding IsDistinct
    distinct_left same [] distinct = tt
    distinct_left same (item ∷ items) distinct =
        by (left item) (keyed item) (distinct_left same items distinct.1)
      where
        by : (o : Option A) → IfSome o (λ one. key one ≡ key item)
            → IsDistinct same (map key (filter_map left items))
            → IsDistinct same (map key (cons_option o (filter_map left items)))
        by (Some one) own rest = (
          all_left (λ k. same (key one) k ≡ false) items
              (subst (λ k. AllByRecursion (λ other. same k other ≡ false) (map key items))
              (sym own) distinct.0),
          rest,
        )
        by None own rest = rest

  module _ (Spells : A → List ℕ → Type 0)
      (one_left : (item : A) (bytes : List ℕ) → AreBytes bytes → Spells item bytes
      → IfSome (left item) (λ one. Fewer (Spells one) (length bytes))) where
    each_left : (items : List A) (bytes : List ℕ) → AreBytes bytes → EachSpells Spells items bytes
        → Fewer (EachSpells Spells (filter_map left items)) (length bytes)
    each_left [] bytes are spelled =
        record { bytes = bytes; are = are; few = omega arith; spelled = spelled }
    each_left (item ∷ items) bytes are (front, rest, whole, one, others) =
        let parts : AreBytes (front ++ rest) = subst AreBytes whole are in
        let long : length bytes ≡ length front + length rest =
        rw whole (length-append front rest) in
        by (left item)
        (one_left item front (all_front IsByte front rest parts) one)
        (each_left items rest (all_behind IsByte front rest parts) others) long
      where
        by : (o : Option A) → IfSome o (λ one. Fewer (Spells one) (length front))
            → Fewer (EachSpells Spells (filter_map left items)) (length rest)
            → length bytes ≡ length front + length rest
            → Fewer (EachSpells Spells (cons_option o (filter_map left items))) (length bytes)
        by (Some one) first others long =
            let few : length first.bytes ≤ length front = first.few in
            let more : length others.bytes ≤ length rest = others.few in
            let both : length (first.bytes ++ others.bytes)
            ≡ length first.bytes + length others.bytes =
            length-append first.bytes others.bytes in record {
              bytes = first.bytes ++ others.bytes;
              are = all_append IsByte first.bytes others.bytes first.are others.are;
              few = omega arith;
              spelled = (first.bytes, others.bytes, refl, first.spelled, others.spelled);
            }
        by None first others long =
            let more : length others.bytes ≤ length rest = others.few in record {
              bytes = others.bytes;
              are = others.are;
              few = omega arith;
              spelled = others.spelled;
            }

    -- what is left of spelled items is spelled, by no more bytes
    pub counted_left : (items : List A) (bytes : List ℕ) → AreBytes bytes
        → CountedSpells Spells items bytes
        → Fewer (CountedSpells Spells (filter_map left items)) (length bytes)
    counted_left items bytes are spelled =
        let parts : AreBytes (to_be_bytes w16 (length items) ++ spelled.rest) =
        subst AreBytes spelled.whole are in
        let each = each_left items spelled.rest parts.1.1 spelled.each in
        let fewer : length (filter_map left items) ≤ length items = few_left items in
        let shorter : length each.bytes ≤ length spelled.rest = each.few in
        let count : length items < 2 ^ 16 = spelled.count in
        let long : length bytes ≡ length (to_be_bytes w16 (length items) ++ spelled.rest) =
        ap length spelled.whole in record {
          bytes = to_be_bytes w16 (length (filter_map left items)) ++ each.bytes;
          are = (omega arith, (omega arith, each.are));
          few = omega arith;
          spelled = record {
            rest = each.bytes;
            count = omega arith;
            whole = refl;
            each = each.spelled;
          };
        }

-- those that pass a test are left
module _ {A : Type 0} (keeps : A → Bool) where
  abbrev if_kept : A → Option A
  if_kept item = cond (keeps item) (Some item) None

  filter_is : (items : List A) → filter keeps items ≡ filter_map if_kept items
  filter_is [] = refl
  filter_is (item ∷ items) = by (keeps item) (filter_is items)
    where
      by : (b : Bool) → filter keeps items ≡ filter_map if_kept items
          → cond b (item ∷ filter keeps items) (filter keeps items)
          ≡ cons_option (cond b (Some item) None) (filter_map if_kept items)
      by true rest = ap (λ others. item ∷ others) rest
      by false rest = rest

  -- what holds of the item itself
  itself : (Holds : A → Type 0) (item : A) → Holds item → IfSome (if_kept item) Holds
  itself Holds item holds = by (keeps item)
    where
      by : (b : Bool) → IfSome (cond b (Some item) None) Holds
      by true = holds
      by false = tt

  pub few_stay : (items : List A) → length (filter keeps items) ≤ length items
  few_stay items =
      subst (λ left. length left ≤ length items) (sym (filter_is items)) (few_left if_kept items)

  pub distinct_stay : {K : Type 0} (key : A → K) (same : K → K → Bool) (items : List A)
      → IsDistinct same (map key items) → IsDistinct same (map key (filter keeps items))
  distinct_stay key same items distinct =
      subst (λ left. IsDistinct same (map key left)) (sym (filter_is items))
      (distinct_left if_kept key (λ item. itself (λ one. key one ≡ key item) item refl) same
      items distinct)

  pub counted_stay : (Spells : A → List ℕ → Type 0) (items : List A) (bytes : List ℕ)
      → AreBytes bytes → CountedSpells Spells items bytes
      → Fewer (CountedSpells Spells (filter keeps items)) (length bytes)
  counted_stay Spells items bytes are spelled =
      subst (λ left. Fewer (CountedSpells Spells left) (length bytes)) (sym (filter_is items))
      (counted_left if_kept Spells (λ item own fit one.
      itself (λ other. Fewer (Spells other) (length own)) item
      (record { bytes = own; are = fit; few = omega arith; spelled = one }))
      items bytes are spelled)

-- a test of what the items are mapped to
pub map_filter : {A B : Type 0} (f : A → B) (keeps : B → Bool) (items : List A) →
    map f (filter (λ item. keeps (f item)) items) ≡ filter keeps (map f items)
map_filter f keeps [] = refl
map_filter f keeps (item ∷ items) = by (keeps (f item)) (map_filter f keeps items)
  where
    by : (b : Bool) → map f (filter (λ item. keeps (f item)) items) ≡ filter keeps (map f items) →
        map f (cond b (item ∷ filter (λ item. keeps (f item)) items)
        (filter (λ item. keeps (f item)) items))
        ≡ cond b (f item ∷ filter keeps (map f items)) (filter keeps (map f items))
    by true rest = ap (λ others. f item ∷ others) rest
    by false rest = rest
