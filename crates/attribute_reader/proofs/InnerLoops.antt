-- The loop over the entries of InnerClasses.
use Rattle.std.proofs.Common.{◌≡◌, ℕ, ◌+◌, ◌-◌, ◌<◌, ◌||◌, Bool, cond, List, [], ◌∷◌, ◌++◌}
use Rattle.std.proofs.Common.{length, map, Result, Ok, Err, sym, ap, subst, ◌∙◌}
use Rattle.std.specs.Int.{w16}
use Rattle.std.specs.List.{list_any}
use Rattle.std.proofs.lemmas.List.{map-append}
use Rattle.java_names.specs.Names.{is_text}
use Rattle.class_desc.specs.declared.attribute.InnerEntry.{InnerEntry}
use Rattle.pool_reader.specs.declared.fault.ClassFault.{ClassFault}
use Rattle.pool_reader.specs.declared.fault.ClassKind.TheVariants.{F9}
use Rattle.pool_reader.specs.declared.fault.ReadErr.{ReadErr}
use Rattle.pool_reader.specs.declared.fault.ReadErr.TheVariants as errors
use Rattle.pool_reader.specs.Reading.{◌>>=◌, Position, Read, Fails, fault_at, number_at}
use Rattle.pool_reader.specs.Pooled.{Row}
use Rattle.attribute_reader.specs.Attributes.{HaveSame, name_or_zero_at, class_or_zero_at}
use Rattle.attribute_reader.specs.Attributes.{new_class_checked, made_at, inner_class_at}
use Rattle.attribute_reader.specs.Attributes.{next_inner_class_at}
use Rattle.attribute_reader.specs.Items.{class_checked, numbered_at, growing}
use Rattle.attribute_reader.proofs.Loops.{grows}
use Rattle.attribute_reader.proofs.Ordered.{any_behind}

abbrev names : List InnerEntry → List (List ℕ)
names before = map (λ e. e.inner) before

abbrev listed : Read InnerEntry → Read (List InnerEntry)
listed read = made_at (λ e. e ∷ []) read

abbrev good : Result (Unit {0}) ClassFault
good = Ok tt

abbrev fine : List ℕ → Result (List ℕ) ClassFault
fine name = Ok name

abbrev read : InnerEntry → Position → Read InnerEntry
read e p = Ok (e, p)

-- an entry is read alike behind lists of the same texts
checked_alike : (rows : List Row) (seen others : List (List ℕ)) → HaveSame seen others
    → new_class_checked rows seen ≡ new_class_checked rows others
checked_alike rows seen others same =
    λ i at n. class_checked rows at n >>= λ name. cond (same name i) (Err (fault_at at F9)) good >>=
    λ new. fine name

read_alike : (rows : List Row) (seen others : List (List ℕ)) (p : Position) → HaveSame seen others
    → inner_class_at rows seen p ≡ inner_class_at rows others p
unfolding inner_class_at
read_alike rows seen others p same =
    ap (λ (check : ℕ → ℕ → Result (List ℕ) ClassFault). numbered_at length check p >>= λ inner.
    class_or_zero_at rows inner.1 >>= λ outer. name_or_zero_at rows outer.1 >>= λ name.
    number_at w16 name.1 >>= λ flags.
    read (record { inner = inner.0; outer = outer.0; name = name.0; flags = flags.0 }) flags.1)
    (checked_alike rows seen others same)

pub next_fails : (e : ReadErr) (rows : List Row) (seen : List (List ℕ)) (before : List InnerEntry)
    (p : Position)
    → HaveSame seen (names before)
    → Fails e (inner_class_at rows seen p)
    → Fails e (next_inner_class_at rows before p)
next_fails errors.Memory rows seen before p same h = tt
next_fails (errors.Fault f) rows seen before p same h =
    ap listed (sym (read_alike rows seen (names before) p same)) ∙ ap listed h

next_is : (rows : List Row) (seen : List (List ℕ)) (before : List InnerEntry) (p after : Position)
    (e : InnerEntry)
    → HaveSame seen (names before)
    → inner_class_at rows seen p ≡ Ok (e, after)
    → next_inner_class_at rows before p ≡ Ok (e ∷ [], after)
next_is rows seen before p after e same h =
    ap listed (sym (read_alike rows seen (names before) p same)) ∙ ap listed h

-- with one more name
one_more : (seen more : List (List ℕ)) (before : List InnerEntry) (e : InnerEntry)
    → HaveSame seen (names before)
    → HaveSame more (seen ++ e.inner ∷ [])
    → HaveSame more (names (before ++ e ∷ []))
one_more seen more before e same added text =
    added text
    ∙ any_behind (is_text text) seen e.inner
    ∙ ap (λ b. is_text text e.inner || b) (same text)
    ∙ sym (any_behind (is_text text) (names before) e.inner)
    ∙ sym (ap (list_any (is_text text))
    (map-append (λ (e : InnerEntry). e.inner) before (e ∷ [])))

pub next_goes_on : (rows : List Row) (seen more : List (List ℕ)) (before : List InnerEntry)
    (count i : ℕ) (p after : Position) (e : InnerEntry) (total : Read (List InnerEntry))
    → i < count
    → inner_class_at rows seen p ≡ Ok (e, after)
    → HaveSame more (seen ++ e.inner ∷ [])
    → HaveSame seen (names before)
    → growing (next_inner_class_at rows) before (count - i) p ≡ total
    → HaveSame more (names (before ++ e ∷ []))
    × (growing (next_inner_class_at rows) (before ++ e ∷ []) (count - (i + 1)) after ≡ total)
next_goes_on rows seen more before count i p after e total lt h added same so_far = (
  one_more seen more before e same added,
  grows (next_inner_class_at rows) before (e ∷ []) count i p after total lt
      (next_is rows seen before p after e same h) so_far,
)
