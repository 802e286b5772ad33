-- When a description has no class file.
use Rattle.std.specs.Prelude.{◌≡◌, ℕ, nat_lt, List, [], ◌∷◌, length, Option, Some, None, Result}
use Rattle.std.specs.Prelude.{Ok, Err, if◌then◌else◌}
use Rattle.class_desc.specs.declared.class.ClassDesc.{ClassDesc}
use Rattle.class_desc.specs.Layout.{Need, TextNeed, Item, ParameterCount, Count, BodyLength}
use Rattle.class_desc.specs.Layout.{needs, class_items, pool_of, numbers_needed}
use Rattle.class_writer.specs.declared.error.PoolErr.{PoolErr}
use Rattle.class_writer.specs.declared.error.PoolErr.TheVariants.{TextTooLong, TooMany, PoolFull}
use Rattle.class_writer.specs.declared.error.PoolErr.TheVariants.{Memory}

-- a refusal, or where there is none the next
abbrev pub or_next : Option PoolErr → Option PoolErr → Option PoolErr
or_next None next = next
or_next (Some e) next = Some e

-- the first refusal of the items, in their order
abbrev pub first_refusal : {A : Type 0} → (A → Option PoolErr) → List A → Option PoolErr
first_refusal refuse [] = None
first_refusal refuse (item ∷ items) = or_next (refuse item) (first_refusal refuse items)

-- the length of a text is kept in two bytes (JVMS 4.4.7)
abbrev pub text_refusal : List ℕ → Option PoolErr
text_refusal text = if nat_lt 65535 (length text) then Some (TextTooLong (length text)) else None

-- the text of a class or a string is a need of its own
abbrev pub need_refusal : Need → Option PoolErr
need_refusal (TextNeed text) = text_refusal text
need_refusal _ = None

-- more than a field holds
abbrev pub above : ℕ → ℕ → Option PoolErr
above most count = if nat_lt most count then Some (TooMany count) else None

-- the number of parameters is kept in one byte (JVMS 4.7.18, 4.7.19, 4.7.24), the length of
-- another list in two (JVMS 4.1, 4.5 to 4.7), and that of an attribute's body, which stands before
-- the body, in four (JVMS 4.7)
abbrev pub item_refusal : Item → Option PoolErr
item_refusal (ParameterCount count) = above 255 count
item_refusal (Count count) = above 65535 count
item_refusal (BodyLength bytes) = above 4294967295 bytes
item_refusal _ = None

-- the count of the pool, which is one more than its greatest number, is kept in two bytes (JVMS
-- 4.1)
abbrev pub pool_refusal : ℕ → Option PoolErr
pool_refusal needed = if nat_lt 65534 needed then Some (PoolFull needed) else None

-- first the texts, then the counts, each in the order of the file, then the pool
abbrev pub refusal : ClassDesc → Option PoolErr
refusal d =
    or_next (first_refusal need_refusal (needs d))
    (or_next (first_refusal item_refusal (class_items d))
    (pool_refusal (numbers_needed (pool_of d))))

-- the answer of a check
abbrev pub checked : Option PoolErr → Result (Unit {0}) PoolErr
checked None = Ok tt
checked (Some e) = Err e

-- an answer that isn't Ok: want of memory, or this refusal
abbrev pub IsCause : PoolErr → Option PoolErr → Type 0
IsCause Memory refused = Unit {0}
IsCause (TextTooLong length) refused = refused ≡ Some (TextTooLong length)
IsCause (TooMany count) refused = refused ≡ Some (TooMany count)
IsCause (PoolFull needed) refused = refused ≡ Some (PoolFull needed)
