-- That what was read is valid.
use Rattle.std.proofs.Common.{◌≡◌, ℕ, ◌+◌, ◌<◌, ◌≤◌, ◌^◌, suc, arith, List, [], ◌∷◌, ◌++◌, length}
use Rattle.std.proofs.Common.{ap, sym, subst, append-nil}
use Rattle.std.specs.List.{AllByRecursion}
use Rattle.std.proofs.lemmas.List.{length_push}
use Rattle.std.proofs.lemmas.List.Concat.{flat_map-append}
use Rattle.class_desc.specs.ClassFile.{IsValid}
use Rattle.lemmas.proofs.Lists.{all_append}
use Rattle.pool_reader.specs.Reading.{AreBytes}
use Rattle.pool_reader.proofs.Laws.{IsBytes}
use Rattle.file_contents.specs.declared.items.Item.{Item}
use Rattle.file_contents.specs.Contents.{class_in, classes}
use Rattle.file_contents.specs.Valid.{IsValidContent, AreValid}

pub are_bytes : (bytes : List ℕ) → IsBytes bytes → AreBytes bytes
are_bytes [] fits = tt
are_bytes (b ∷ bytes) fits = (fits 0, are_bytes bytes (λ i. fits (suc i)))

-- one more item
pub one_more : (before after : List Item) (item : Item) → after ≡ before ++ item ∷ []
    → length after ≤ length before + 1
one_more before after item is =
    let long = ap (λ (items : List Item). length items) is in
    let more = length_push before item in omega (arith, long, more)

pub valid_more : (before after : List Item) (item : Item) → after ≡ before ++ item ∷ []
    → IsValidContent item.content → AreValid before → AreValid after
valid_more before after item is fits valid =
    let one : AllByRecursion IsValid (class_in item.content ++ []) =
    subst (AllByRecursion IsValid) (sym (append-nil (class_in item.content))) fits in
    subst AreValid (sym is)
    (subst (AllByRecursion IsValid)
    (sym (flat_map-append (λ (i : Item). class_in i.content) before (item ∷ [])))
    (all_append IsValid (classes before) (class_in item.content ++ []) valid one))
