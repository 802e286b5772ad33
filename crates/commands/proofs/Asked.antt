-- The classes read make a world: they are not too many, none has too many members, and no two have
-- one name.
use Rattle.std.proofs.Common.{◌≡◌, refl, ap, sym, subst, ◌∙◌, ℕ, zero, suc, ◌+◌, ◌<◌, ◌≤◌, ◌^◌}
use Rattle.std.proofs.Common.{Bool, true, false, cond, ◌||◌, List, [], ◌∷◌, ◌++◌, length, map, take}
use Rattle.std.proofs.Common.{arith}
use Rattle.std.specs.Prelude.{slice_get, slice_index_or, Some, None, bytes_eq, Result, Err}
use Rattle.std.specs.List.{flat_map, enumerate_from, AllByRecursion}
use Rattle.std.proofs.lemmas.Cmp.{nat_list_eq_equiv}
use Rattle.std.proofs.lemmas.List.{length-append}
use Rattle.hdr_core.specs.declared.code.Code.TheVariants.{C1}
use Rattle.class_desc.specs.declared.class.ClassDesc.{ClassDesc}
use Rattle.class_desc.specs.ClassFile.{IsValid}
use Rattle.class_views.specs.View.{View, view_of_desc}
use Rattle.class_views.specs.World.{World}
use Rattle.client_view.specs.Indexed.{HasFewMembers, HaveFewMembers}
use Rattle.client_view.specs.Numbers.{views, AreApart, IsFirstRepeat}
use Rattle.client_view.specs.declared.refused.ViewErr.{ViewErr}
use Rattle.client_view.specs.declared.refused.ViewErr.TheVariants.{Repeated}
use Rattle.used_files.specs.Paths.{is_among, is_repeated}
use Rattle.file_contents.specs.declared.items.Content.{Content}
use Rattle.file_contents.specs.declared.items.Content.TheVariants.{Class, Module}
use Rattle.file_contents.specs.declared.items.Item.{Item}
use Rattle.file_contents.specs.Contents.{content_name, item_name, class_in, classes}
use Rattle.file_contents.specs.Reading.{diag_at}
use Rattle.file_contents.specs.Phases.{twice, twice_at}

-- ---- few classes, and few members in each

few_here : (content : Content) → length (class_in content) ≤ 1
few_here (Class d) = omega arith
few_here (Module below name bytes) = omega arith

pub no_more_classes : (items : List Item) → length (classes items) ≤ length items
no_more_classes [] = omega arith
no_more_classes (item ∷ items) =
    let more = length-append (class_in item.content) (classes items) in
    let rest = no_more_classes items in
    let all : length (class_in item.content ++ classes items) ≤ length (item ∷ items) =
    omega (arith, few_here item.content, rest, more) in all

-- JVMS 4.1: both counts are numbers of 16 bits
few_of : (d : ClassDesc) → IsValid d → HasFewMembers d
few_of d (bytes, all, (pool, s, texts)) = record {
  fields = let few = s.fields.count in omega (arith, few);
  methods = let few = s.methods.count in omega (arith, few);
}

pub few_members : (list : List ClassDesc) → AllByRecursion IsValid list → HaveFewMembers list
few_members [] valid number d there = absurd (let none : None ≡ Some d = there in cc)
few_members (c ∷ list) valid zero d there =
    let is : Some c ≡ Some d = there in let same : c ≡ d = cc in subst HasFewMembers same
    (few_of c valid.0)
few_members (c ∷ list) valid (suc number) d there = few_members list valid.1 number d there

-- ---- different names

-- no item has the name of one before it
abbrev AreNew : List Item → Type 0
AreNew items = (n : ℕ) (item : Item) → slice_get items n ≡ Some item
    → is_among (take n (map item_name items)) (item_name item) ≡ false

neither : (a b : Bool) → (a || b) ≡ false → (a ≡ false) × (b ≡ false)
neither true b e = absurd (let both : true ≡ false = e in cc)
neither false b e = (refl, e)

later : (item : Item) (items : List Item) → AreNew (item ∷ items) → AreNew items
later item items new n other there =
    (neither (bytes_eq (item_name other) (item_name item))
    (is_among (take n (map item_name items)) (item_name other)) (new (suc n) other there)).1

-- an item of the name of a class
abbrev HasItem : List Item → View → Type 0
HasItem items c = (k : ℕ) × (item : Item) × (slice_get items k ≡ Some item)
    × (item_name item ≡ c.name)

behind_item : (item : Item) (items : List Item) (c : View) → HasItem items c
    → HasItem (item ∷ items) c
behind_item item items c (k, other, there, named) = (suc k, other, there, named)

-- a class stands in an item of its name
class_item : (items : List Item) (c : View) (n : ℕ) → slice_get (views (classes items)) n ≡ Some c
    → HasItem items c
class_item [] c n there = absurd (let none : None ≡ Some c = there in cc)
class_item (item ∷ items) c n there = by item.content refl n there (class_item items c)
  where
    named : (d : ClassDesc) → item.content ≡ Class d → view_of_desc d ≡ c
        → item_name item ≡ c.name
    named d is same = ap content_name is ∙ ap (λ (v : View). v.name) same

    by : (content : Content) → item.content ≡ content → (n : ℕ)
        → slice_get (views (class_in content ++ classes items)) n ≡ Some c
        → ((n : ℕ) → slice_get (views (classes items)) n ≡ Some c → HasItem items c)
        → HasItem (item ∷ items) c
    by (Class d) is zero there more =
        let view : Some (view_of_desc d) ≡ Some c = there in
        let same : view_of_desc d ≡ c = cc in (0, item, refl, named d is same)
    by (Class d) is (suc n) there more = behind_item item items c (more n there)
    by (Module below name bytes) is n there more = behind_item item items c (more n there)

cons_apart : (v : View) (world : World) → AreApart world
    → ((n : ℕ) (c : View) → slice_get world n ≡ Some c → v.name ≡ c.name → ⊥)
    → AreApart (v ∷ world)
cons_apart v world apart other zero zero before have = absurd (omega (arith, before))
cons_apart v world apart other (suc first) zero before have = absurd (omega (arith, before))
cons_apart v world apart other zero (suc second) before have =
    let is : Some v ≡ Some have.one = have.first_is in
    let same : v ≡ have.one = cc in
    other second have.other have.second_is (ap (λ (c : View). c.name) same ∙ have.same)
cons_apart v world apart other (suc first) (suc second) before have =
    apart first second (omega (arith, before)) (record {
      one = have.one;
      other = have.other;
      first_is = have.first_is;
      second_is = have.second_is;
      same = have.same;
    })

none_apart : AreApart []
none_apart first second before have =
    absurd (let none : None ≡ Some have.one = have.first_is in cc)

new_apart : (items : List Item) → AreNew items → AreApart (views (classes items))
new_apart [] new = none_apart
new_apart (item ∷ items) new = by item.content refl (new_apart items (later item items new))
  where
    by : (content : Content) → item.content ≡ content → AreApart (views (classes items))
        → AreApart (views (class_in content ++ classes items))
    by (Module below name bytes) is apart = apart
    by (Class d) is apart = cons_apart (view_of_desc d) (views (classes items)) apart
        (λ n c there same. let found = class_item items c n there in
        let own : item_name item ≡ d.name = ap content_name is in
        let eq : item_name found.1 ≡ item_name item = found.3 ∙ sym same ∙ sym own in
        let differ = (neither (bytes_eq (item_name found.1) (item_name item))
        (is_among (take found.0 (map item_name items)) (item_name found.1))
        (new (suc found.0) found.1 found.2)).0 in
        let equal : bytes_eq (item_name found.1) (item_name item) ≡ true =
        ap (λ name. bytes_eq name (item_name item)) eq
        ∙ nat_list_eq_equiv.refl (item_name item) in
        absurd (let both : true ≡ false = sym equal ∙ differ in cc))

-- ---- none is declared twice

nil_front : {A : Type 0} (a b : List A) → a ++ b ≡ [] → (a ≡ []) × (b ≡ [])
nil_front [] b e = (refl, e)
nil_front (x ∷ a) b e = absurd (let some : x ∷ (a ++ b) ≡ [] = e in cc)

nil_each : {A B : Type 0} (f : ℕ × A → List B) (n : ℕ) (xs : List A)
    → flat_map f (enumerate_from n xs) ≡ [] → (k : ℕ) (x : A) → slice_get xs k ≡ Some x
    → f (n + k, x) ≡ []
nil_each f n [] none k x there = absurd (let nothing : None ≡ Some x = there in cc)
nil_each {A = A} f n (y ∷ ys) none zero x there =
    let is : Some y ≡ Some x = there in
    let same : y ≡ x = cc in
    let at : n + 0 ≡ n = omega arith in
    ap (λ (k : ℕ). f (k, x)) at ∙ ap (λ (z : A). f (n, z)) (sym same)
    ∙ (nil_front (f (n, y)) (flat_map f (enumerate_from (n + 1) ys)) none).0
nil_each f n (y ∷ ys) none (suc k) x there =
    let at : n + suc k ≡ (n + 1) + k = omega arith in
    ap (λ (m : ℕ). f (m, x)) at
    ∙ nil_each f (n + 1) ys
    (nil_front (f (n, y)) (flat_map f (enumerate_from (n + 1) ys)) none).1 k x there

name_at : (items : List Item) (n : ℕ) (item : Item) → slice_get items n ≡ Some item
    → slice_index_or (map item_name items) n [] ≡ item_name item
name_at [] n item there = absurd (let none : None ≡ Some item = there in cc)
name_at (other ∷ items) zero item there =
    let is : Some other ≡ Some item = there in let same : other ≡ item = cc in ap item_name same
name_at (other ∷ items) (suc n) item there = name_at items n item there

unless : (b : Bool) (item : Item)
    → cond b (diag_at item.file item.path C1 (item_name item) ∷ []) [] ≡ [] → b ≡ false
unless true item e =
    absurd (let one : diag_at item.file item.path C1 (item_name item) ∷ [] ≡ [] = e in cc)
unless false item e = refl

all_new : (items : List Item) → twice items ≡ [] → AreNew items
all_new items none n item there =
    let names = map item_name items in
    let at : twice_at names (0 + n, item) ≡ [] =
    nil_each (twice_at names) 0 items none n item there in
    let zero_at : 0 + n ≡ n = omega arith in
    let here : twice_at names (n, item) ≡ [] =
    ap (λ (k : ℕ). twice_at names (k, item)) (sym zero_at) ∙ at in
    ap (is_among (take n names)) (sym (name_at items n item there))
    ∙ unless (is_repeated names n) item here

-- no two classes have one name where no item was declared before
pub names_apart : (items : List Item) → twice items ≡ [] → AreApart (views (classes items))
names_apart items none = new_apart items (all_new items none)

-- ---- the lines

pub map_through : {A B C : Type 0} (f : B → C) (g : A → B) (xs : List A)
    → map (λ x. f (g x)) xs ≡ map f (map g xs)
map_through f g [] = refl
map_through f g (x ∷ xs) = ap (λ ys. f (g x) ∷ ys) (map_through f g xs)

-- ---- classes of different names are no classes of one name

pub never_repeated : (list : List ClassDesc) (r : Result (List ClassDesc) ViewErr) (e : ViewErr)
    (first second : ℕ) → AreApart (views list)
    → ((one other : ℕ) → r ≡ Err (Repeated one other) → IsFirstRepeat (views list) one other)
    → r ≡ Err e → e ≡ Repeated first second → ⊥
never_repeated list r e first second apart repeated is repeat =
    let met = repeated first second (is ∙ ap Err repeat) in apart first second met.before met.have
