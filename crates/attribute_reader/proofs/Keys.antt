-- The set of inner classes, seen as a list of names, and the names of attributes.
use Rattle.std.proofs.Common.{◌≡◌, ℕ, ◌||◌, Bool, cond, List, [], ◌∷◌, map, Result, Ok, Err, refl}
use Rattle.std.proofs.Common.{sym, ap, ◌++◌, ◌∙◌}
use Rattle.std.specs.BTreeMap.{is_at}
use Rattle.std.specs.BTreeSet.{insert_key}
use Rattle.std.specs.List.{list_any}
use Rattle.std.proofs.lemmas.Map.Lookups.{exact_bytes}
use Rattle.java_names.specs.Names.{is_text}
use Rattle.class_desc.specs.declared.attribute.Attr.{Attr}
use Rattle.class_desc.specs.Places.{attribute_name}
use Rattle.pool_reader.specs.declared.fault.ClassFault.{ClassFault}
use Rattle.pool_reader.specs.declared.fault.ClassKind.TheVariants.{F9}
use Rattle.pool_reader.specs.Reading.{fault_at}
use Rattle.attribute_reader.specs.Attributes.{unseen, HaveSame}
use Rattle.attribute_reader.specs.declared.bodies.InnerKey.{InnerKey}
use Rattle.attribute_reader.specs.contracts.bodies.InnerKeyOrd.TheImpl.{ghosts}
use Rattle.attribute_reader.proofs.Ordered.{any_behind, any_inserted, text_eq}

abbrev pub names : List InnerKey → List (List ℕ)
names keys = map (λ key. key.name.now) keys

pub any_seen : (key : InnerKey) (keys : List InnerKey) → list_any (is_at (ghosts.cmp key)) keys
    ≡ list_any (is_text key.name.now) (names keys)
any_seen key [] = refl
any_seen key (k ∷ ks) = λ i. text_eq key.name.now k.name.now i || any_seen key ks i

-- with a key at its place stand the names and that of the key
pub with_key : (key : InnerKey) (keys : List InnerKey)
    → HaveSame (names (insert_key ghosts.cmp keys key)) (names keys ++ key.name.now ∷ [])
with_key key keys text =
    any_inserted ghosts.cmp (λ (k : InnerKey). k.name.now) (is_text text) keys key
    (λ other e. sym (exact_bytes key.name.now other.name.now e))
    ∙ sym (any_behind (is_text text) (names keys) key.name.now)

abbrev good : Result (Unit {0}) ClassFault
good = Ok tt

abbrev bad : ℕ → Result (Unit {0}) ClassFault
bad at = Err (fault_at at F9)

-- one of these attributes has the name
pub any_named : (name : List ℕ) (attrs : List Attr)
    → list_any (is_text name) (map attribute_name attrs)
    ≡ list_any (λ attr. is_text name (attribute_name attr)) attrs
any_named name [] = refl
any_named name (a ∷ attrs) =
    ap (λ b. is_text name (attribute_name a) || b) (any_named name attrs)

pub unseen_by : (at : ℕ) (name : List ℕ) (attrs : List Attr) (b : Bool)
    → list_any (λ attr. is_text name (attribute_name attr)) attrs ≡ b
    → unseen at name (map attribute_name attrs) ≡ cond b (Err (fault_at at F9)) (Ok tt)
unseen_by at name attrs b e =
    ap (λ (b : Bool). cond b (bad at) good) (any_named name attrs ∙ e)
