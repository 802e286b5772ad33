-- The set of keys, seen as a list of names and descriptors.
use Rattle.std.proofs.Common.{◌≡◌, ℕ, ◌||◌, ◌&&◌, Bool, List, [], ◌∷◌, ◌++◌, map, refl, sym, ap}
use Rattle.std.proofs.Common.{◌∙◌}
use Rattle.std.specs.BTreeMap.{is_at}
use Rattle.std.specs.BTreeSet.{insert_key}
use Rattle.std.specs.Cmp.Lexicographic.{slice_cmp}
use Rattle.std.specs.List.{list_any}
use Rattle.std.specs.Ordering.{nat_cmp}
use Rattle.std.proofs.lemmas.Map.Lookups.{exact_bytes, exact_pairs}
use Rattle.class_desc.specs.ClassFile.{Key, is_key}
use Rattle.attribute_reader.proofs.Ordered.{any_behind, any_inserted, then_eq, text_eq}
use Rattle.class_reader.specs.declared.member.MemberKey.{MemberKey}
use Rattle.class_reader.specs.contracts.member.MemberKeyOrd.TheImpl.{ghosts}
use Rattle.class_reader.specs.Reading.{HaveSame}
use Rattle.class_reader.specs.Seen.{key_seen}

is_at_key : (a b : MemberKey) → is_at (ghosts.cmp a) b ≡ is_key (key_seen a) (key_seen b)
is_at_key a b =
    then_eq (slice_cmp nat_cmp a.name.now b.name.now)
    (slice_cmp nat_cmp a.descriptor.now b.descriptor.now)
    ∙ (λ i. text_eq a.name.now b.name.now i && text_eq a.descriptor.now b.descriptor.now i)

pub any_seen : (key : MemberKey) (keys : List MemberKey) → list_any (is_at (ghosts.cmp key)) keys
    ≡ list_any (is_key (key_seen key)) (map key_seen keys)
any_seen key [] = refl
any_seen key (k ∷ ks) = λ i. is_at_key key k i || any_seen key ks i

-- with a key at its place stand the keys and this one
pub with_key : (key : MemberKey) (keys : List MemberKey)
    → HaveSame (map key_seen (insert_key ghosts.cmp keys key))
    (map key_seen keys ++ key_seen key ∷ [])
with_key key keys other =
    any_inserted ghosts.cmp key_seen (is_key other) keys key
    (λ k e. sym (exact_pairs (slice_cmp nat_cmp) (slice_cmp nat_cmp) exact_bytes exact_bytes
    (key_seen key) (key_seen k) e))
    ∙ sym (any_behind (is_key other) (map key_seen keys) (key_seen key))
