-- The size of items is the length of their bytes.
use Rattle.std.proofs.Common.{◌≡◌, ℕ, ◌+◌, List, [], ◌∷◌, length, refl, sym, ap, ◌∙◌}
use Rattle.std.specs.List.{flat_map}
use Rattle.std.proofs.lemmas.List.{length-append}
use Rattle.std.proofs.lemmas.List.Sums.{sum_by-cons}
use Rattle.class_desc.specs.Layout.{Need, Item, Tag, Flags, ParameterCount, Count, BodyLength}
use Rattle.class_desc.specs.Layout.{EntryNumber, NoEntry, item_size, item_bytes, size}

item_length : (number : Need → ℕ) (item : Item) → length (item_bytes number item) ≡ item_size item
item_length number (Tag tag) = refl
item_length number (Flags flags) = refl
item_length number (ParameterCount count) = refl
item_length number (Count count) = refl
item_length number (BodyLength bytes) = refl
item_length number (EntryNumber need) = refl
item_length number NoEntry = refl

pub items_length : (number : Need → ℕ) (items : List Item)
    → length (flat_map (item_bytes number) items) ≡ size items
items_length number [] = refl
items_length number (item ∷ items) =
    length-append (item_bytes number item) (flat_map (item_bytes number) items)
    ∙ ap (λ n. n + length (flat_map (item_bytes number) items)) (item_length number item)
    ∙ ap (λ n. item_size item + n) (items_length number items)
    ∙ sym (sum_by-cons item_size item items)
