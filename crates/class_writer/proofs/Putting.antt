-- Items that are put one behind the other.
use Rattle.std.proofs.Common.{◌≡◌, ℕ, ◌+◌, ◌^◌, ◌<◌, arith, List, [], ◌∷◌, ◌++◌, length, map, set}
use Rattle.std.proofs.Common.{get_or, take, sym, ap, ◌∙◌, subst, append_assoc, append-nil}
use Rattle.std.proofs.Common.{add_assoc, add-zero, zero-add, add-one}
use Rattle.std.specs.List.{flat_map}
use Rattle.std.proofs.Math.Seq.{take-suc, set-append_seam}
use Rattle.std.proofs.lemmas.List.{length-append, length-map}
use Rattle.std.proofs.lemmas.List.Folds.{flat_map-map}
use Rattle.std.proofs.lemmas.List.Sums.{sum_by-append}
use Rattle.std.proofs.lemmas.Grind.{flat_map-append}
use Rattle.class_desc.specs.Layout.{Item, Count, BodyLength, item_size, size, told, text_item}
use Rattle.class_desc.specs.Layout.{attribute, counted}
use Rattle.class_writer.specs.declared.body.Body.{Body}
use Rattle.class_writer.specs.Writing.{Outline, Puts, BeginsAttribute, EndsAttribute}

-- ---- sizes

pub told_same : (a b more : ℕ) → told a ≡ told b → told (a + more) ≡ told (b + more)
told_same a b more h = omega arith

pub told_is : (n : ℕ) → n < 2 ^ 64 → told n ≡ n
told_is n h = omega arith

size_append : (xs ys : List Item) → size (xs ++ ys) ≡ size xs + size ys
size_append = sum_by-append item_size

-- ---- one behind the other

pub puts_none : (a : Outline) → Puts [] a a
puts_none a = record {
  items = sym (append-nil a.items);
  size = ap told (sym (add-zero a.size));
}

pub puts_then : {a b c : Outline} {xs ys : List Item} → Puts xs a b → Puts ys b c
    → Puts (xs ++ ys) a c
puts_then {a} {b} {c} {xs} {ys} one two = record {
  items = two.items ∙ ap (λ t. t ++ ys) one.items ∙ append_assoc a.items xs ys;
  size =
      two.size ∙ told_same b.size (a.size + size xs) (size ys) one.size
      ∙ ap told (add_assoc a.size (size xs) (size ys)
      ∙ ap (λ n. a.size + n) (sym (size_append xs ys)));
}

pub puts_as : {a b : Outline} {xs ys : List Item} → xs ≡ ys → Puts xs a b → Puts ys a b
puts_as {a} {b} same put = subst (λ t. Puts t a b) same put

-- ---- lists

pub flat_map_last : {X A : Type 0} (f : X → List A) (i : ℕ) (xs : List X) (x : X) → i < length xs
    → x ≡ get_or xs i x
    → flat_map f (take i xs) ++ f x ≡ flat_map f (take (i + 1) xs)
flat_map_last f i xs x below is =
    let cut : take (i + 1) xs ≡ take i xs ++ get_or xs i x
    ∷ [] = rw add-one (take-suc xs i x below) in
    sym (
    ap (flat_map f) cut ∙ flat_map-append f (take i xs) (get_or xs i x ∷ [])
    ∙ ap (λ t. flat_map f (take i xs) ++ t) (append-nil (f (get_or xs i x)) ∙ ap f (sym is)))

-- one more behind the head of a list
pub puts_more : {X : Type 0} (items : X → List Item) (head : Item) (i : ℕ) (xs : List X)
    (x : X) {a b c : Outline}
    → i < length xs → x ≡ get_or xs i x → Puts (head ∷ flat_map items (take i xs)) a b
    → Puts (items x) b c
    → Puts (head ∷ flat_map items (take (i + 1) xs)) a c
puts_more items head i xs x below is before now =
    puts_as (ap (λ t. head ∷ t) (flat_map_last items i xs x below is)) (puts_then before now)

pub counted_map : {X : Type 0} (items : X → List Item) (xs : List X)
    → counted (λ list. list) (map items xs) ≡ counted items xs
counted_map items xs =
    ap (λ n. Count n ∷ flat_map (λ list. list) (map items xs)) (length-map xs items)
    ∙ ap (λ t. Count (length xs) ∷ t) (flat_map-map (λ list. list) items xs)

-- ---- attributes

pub puts_attribute : (name : List ℕ) (body : List Item) (mark : Body) (a b c d : Outline)
    → BeginsAttribute name mark a b
    → Puts body b c → EndsAttribute mark c d → Puts (attribute name body) a d
puts_attribute name body mark a b c d begun put ended =
    let head = text_item name ∷ BodyLength (told (size body)) ∷ [] in
    let behind_name : mark.place ≡ length (a.items ++ text_item name ∷ []) =
    begun.place ∙ sym (length-append a.items (text_item name ∷ [])) in
    let so_far : c.items ≡ (a.items ++ text_item name ∷ []) ++ BodyLength 0 ∷ body =
    put.items ∙ ap (λ t. t ++ body) begun.items
    ∙ append_assoc a.items (text_item name ∷ BodyLength 0 ∷ []) body
    ∙ sym (append_assoc a.items (text_item name ∷ []) (BodyLength 0 ∷ body)) in
    let told_size : told c.size ≡ told (size body) =
    put.size ∙ ap (λ n. told (n + size body)) begun.size ∙ ap told (zero-add (size body)) in
    let sizes : size (attribute name body) ≡ 6 + size body = size_append head body in
    record {
      items =
          ended.items
          ∙ ap (λ n. set c.items n (BodyLength (told c.size))) behind_name
          ∙ ap (λ t. set t (length (a.items ++ text_item name ∷ [])) (BodyLength (told c.size)))
          so_far
          ∙ set-append_seam (a.items ++ text_item name ∷ []) (BodyLength 0) body
          (BodyLength (told c.size))
          ∙ append_assoc a.items (text_item name ∷ []) (BodyLength (told c.size) ∷ body)
          ∙ ap (λ n. a.items ++ text_item name ∷ BodyLength n ∷ body) told_size;
      size =
          ended.size ∙ told_same mark.before (a.size + 2) (4 + c.size) begun.before
          ∙ ap told (first a.size c.size) ∙ told_same c.size (size body) (a.size + 6) told_size
          ∙ ap told (last a.size (size body) (size (attribute name body)) sizes);
    }
  where
    first : (m n : ℕ) → m + 2 + (4 + n) ≡ n + (m + 6)
    first m n = omega arith

    last : (m n all : ℕ) → all ≡ 6 + n → n + (m + 6) ≡ m + all
    last m n all h = omega arith
