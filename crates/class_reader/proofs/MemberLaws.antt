-- Fields and methods, of which no two have one name and descriptor.
use Rattle.std.proofs.Common.{◌≡◌, ℕ, zero, suc, ◌^◌, ◌<◌, ◌&&◌, Bool, true, false}
use Rattle.std.proofs.Common.{true≢false}
use Rattle.std.proofs.Common.{cond, List, [], ◌∷◌, ◌++◌, length, map, Ok, Err, refl, sym}
use Rattle.std.proofs.Common.{ap}
use Rattle.std.proofs.Common.{subst, ◌∙◌, ◌+◌, append_assoc, append-nil, arith}
use Rattle.std.specs.List.{IsDistinct, list_any}
use Rattle.std.specs.Int.{w16, to_be_bytes}
use Rattle.class_desc.specs.declared.class.FieldDesc.{FieldDesc}
use Rattle.class_desc.specs.declared.class.MethodDesc.{MethodDesc}
use Rattle.java_names.specs.Names.{is_text}
use Rattle.class_desc.specs.Pool.{Entry}
use Rattle.class_desc.specs.Forms.{IsFieldName, IsMethodName, IsFieldDescriptor}
use Rattle.class_desc.specs.Forms.{IsMethodDescriptor}
use Rattle.class_desc.specs.Items.{NamesTextOf, Numbered}
use Rattle.class_desc.specs.Attributes.{AttributesSpell}
use Rattle.class_desc.specs.ClassFile.{MemberSpells, FieldSpells}
use Rattle.class_desc.specs.ClassFile.{MethodSpells}
use Rattle.class_desc.specs.Items.{EachSpells, CountedSpells}
use Rattle.class_desc.specs.ClassFile.{Key, is_key, field_key}
use Rattle.class_desc.specs.ClassFile.{method_key}
use Rattle.class_desc.specs.Texts.{total, attribute_texts, member_texts, field_texts}
use Rattle.class_desc.specs.Texts.{method_texts}
use Rattle.pool_reader.specs.declared.fault.ClassKind.TheVariants.{F9}
use Rattle.pool_reader.specs.Reading.{◌>>=◌, Position, offset, Read, fault_at}
use Rattle.pool_reader.specs.Pooled.{rows_of}
use Rattle.pool_reader.proofs.Laws.{Weighs, reads_as, Given, weighs_given, Then, joined}
use Rattle.pool_reader.proofs.Laws.{weighs_then, reads_then, reads_checked, Made, weighs_made}
use Rattle.pool_reader.proofs.Laws.{same_after}
use Rattle.pool_reader.proofs.Numbers.{NumberSpells, reads_u16}
use Rattle.class_reader.specs.declared.member.Member.{Member}
use Rattle.class_reader.specs.declared.member.MemberKind.{MemberKind}
use Rattle.class_reader.specs.declared.member.MemberKind.TheVariants as kind
use Rattle.class_reader.specs.Reading.{place_of, name_form, descriptor_form, unseen}
use Rattle.class_reader.specs.Reading.{signed_at, member_at, members_at, as_field, as_method}
use Rattle.class_reader.specs.Reading.{fields_at, methods_at}
use Rattle.attribute_reader.specs.Attributes.{attributes_at}
use Rattle.attribute_reader.specs.Forms.{form_fault}
use Rattle.attribute_reader.specs.Items.{text_at}
use Rattle.attribute_reader.proofs.AttributeLaws.{reads_of_field, reads_of_method}
use Rattle.attribute_reader.proofs.Distinct as distinct
use Rattle.attribute_reader.proofs.Distinct.{distinct_new, new_distinct, flipped}
use Rattle.attribute_reader.proofs.FormLaws.{Tells, field_name_tells, method_name_tells}
use Rattle.attribute_reader.proofs.FormLaws.{field_descriptor_tells, method_descriptor_tells}
use Rattle.attribute_reader.proofs.ItemLaws.{weighs_text}

-- the attributes of a field or a method
reads_attributes : (pool : List Entry) (kind : MemberKind) (descriptor : List ℕ)
    → Weighs 0 (total attribute_texts) (attributes_at (rows_of pool) (place_of kind) descriptor)
    (AttributesSpell pool (place_of kind) descriptor)
reads_attributes pool kind.Field descriptor = reads_of_field pool descriptor
reads_attributes pool kind.Method descriptor = reads_of_method pool descriptor

-- ---- a member that is like none before it

-- no member that was seen has this key
abbrev pub IsNew : List Key → Key → Type 0
IsNew seen key = list_any (is_key key) seen ≡ false

abbrev pub member_key : Member → Key
member_key m = (m.name, m.descriptor)

new_is : (at : ℕ) (key : Key) (seen : List Key) (nothing : Unit {0})
    → unseen at key seen ≡ Ok nothing
    → IsNew seen key
new_is at key seen nothing e = by (list_any (is_key key) seen) refl e
  where
    by : (b : Bool)
        → list_any (is_key key) seen ≡ b
        → cond b (Err (fault_at at F9)) (Ok tt) ≡ Ok nothing
        → list_any (is_key key) seen ≡ false
    by true is e = absurd cc
    by false is e = is

is_new : (at : ℕ) (key : Key) (seen : List Key) → IsNew seen key → unseen at key seen ≡ Ok tt
is_new at key seen new = rw new refl

-- nothing is read
abbrev NewGiven : {A : Type 0} → List Key → Key → A → A → List ℕ → Type 0
NewGiven seen key made item rest = IsNew seen key × Given made item rest

reads_new : {A : Type 0} {before : ℕ} {weight : A → ℕ} (at : ℕ) (key : Key) (seen : List Key)
    (made : A)
    → before ≡ weight made
    → Weighs before weight (λ p. unseen at key seen >>= λ new. Ok (made, p))
    (NewGiven seen key made)
reads_new at key seen made all =
    reads_as (NewGiven seen key made)
    (reads_checked (unseen at key seen) (λ new p. Ok (made, p)) (λ new. weighs_given made all))
    (λ item rest c. (new_is at key seen c.item c.passed, c.second))
    (λ item rest n. record { item = tt; passed = is_new at key seen n.0; second = n.1 })

-- what the name and the descriptor of a member have
abbrev signed_texts : ℕ × List ℕ × List ℕ → ℕ
signed_texts m = length m.1 + length m.2

abbrev own_texts : Member → ℕ
own_texts m = member_texts m.name m.descriptor m.attrs

-- what stands in front of the attributes
record SignedSpells (pool : List Entry) (IsName : List ℕ → Type 0) (IsDescriptor : ℕ → List ℕ
    → Type 0)
    (seen : List Key) (m : ℕ × List ℕ × List ℕ) (text : List ℕ) : Type 0 where
  name_number : ℕ
  descriptor_number : ℕ
  fits : m.0 < 2 ^ 16
  named : NamesTextOf pool IsName name_number m.1
  described : NamesTextOf pool (IsDescriptor m.0) descriptor_number m.2
  new : IsNew seen (m.1, m.2)
  whole : text ≡ to_be_bytes w16 m.0
      ++ (to_be_bytes w16 name_number ++ to_be_bytes w16 descriptor_number)

-- a member that is like none before it
pub record NewMember (Spells : Member → List ℕ → Type 0) (seen : List Key) (m : Member)
    (text : List ℕ) : Type 0 where
  pub new : IsNew seen (member_key m)
  pub spells : Spells m text

module _ (pool : List Entry) (kind : MemberKind) (IsName : List ℕ → Type 0)
    (IsDescriptor : ℕ → List ℕ → Type 0) where
  abbrev Signed : List Key → ℕ × List ℕ × List ℕ → List ℕ → Type 0
  Signed = SignedSpells pool IsName IsDescriptor

  abbrev FromName : List Key → ℕ → ℕ × List ℕ × List ℕ → List ℕ → Type 0
  FromName seen flags =
      Then (Numbered (NamesTextOf pool IsName)) (λ name.
      Then (Numbered (NamesTextOf pool (IsDescriptor flags))) (λ descriptor.
      NewGiven seen (name, descriptor) (flags, name, descriptor)))

  abbrev SignedParts : List Key → ℕ × List ℕ × List ℕ → List ℕ → Type 0
  SignedParts seen = Then (NumberSpells w16 (2 ^ 16)) (FromName seen)

  to_signed : (seen : List Key) (m : ℕ × List ℕ × List ℕ) (text : List ℕ)
      → SignedParts seen m text
      → Signed seen m text
  to_signed seen m text s =
      let n = s.second in
      let d = n.second in
      let last : d.rest ≡ [] = d.second.1.1 in
      let numbers = joined n n.first.is (joined d d.first.is last
      ∙ append-nil (to_be_bytes w16 d.first.number)) in
      subst (λ m. Signed seen m text) d.second.1.0 (record {
        name_number = n.first.number;
        descriptor_number = d.first.number;
        fits = s.first.0;
        named = n.first.named;
        described = d.first.named;
        new = d.second.0;
        whole = joined s s.first.1 numbers;
      })

  from_signed : (seen : List Key) (m : ℕ × List ℕ × List ℕ) (text : List ℕ)
      → Signed seen m text
      → SignedParts seen m text
  from_signed seen m text s = record {
    item = m.0;
    front = to_be_bytes w16 m.0;
    rest = to_be_bytes w16 s.name_number ++ to_be_bytes w16 s.descriptor_number;
    whole = s.whole;
    first = (s.fits, refl);
    second = record {
      item = m.1;
      front = to_be_bytes w16 s.name_number;
      rest = to_be_bytes w16 s.descriptor_number;
      whole = refl;
      first = record { number = s.name_number; fits = s.named.fits; named = s.named; is = refl };
      second = record {
        item = m.2;
        front = to_be_bytes w16 s.descriptor_number;
        rest = [];
        whole = sym (append-nil (to_be_bytes w16 s.descriptor_number));
        first = record {
          number = s.descriptor_number;
          fits = s.described.fits;
          named = s.described;
          is = refl;
        };
        second = (s.new, (refl, refl));
      };
    };
  }

  abbrev pub SpellsMember : Member → List ℕ → Type 0
  SpellsMember m text =
      MemberSpells pool (place_of kind) IsName (IsDescriptor m.flags) m.flags m.name m.descriptor
      m.attrs text

  abbrev MemberParts : List Key → Member → List ℕ → Type 0
  MemberParts seen =
      Then (Signed seen) (λ front.
      Made (λ attrs. record {
        flags = front.0;
        name = front.1;
        descriptor = front.2;
        attrs =
            attrs;
      })
      (AttributesSpell pool (place_of kind) front.2))

  to_member : (seen : List Key) (m : Member) (text : List ℕ)
      → MemberParts seen m text
      → NewMember SpellsMember seen m text
  to_member seen m text s =
      let f = s.first in
      let a = s.second in
      let flags = to_be_bytes w16 s.item.0 in
      let name = to_be_bytes w16 f.name_number in
      let descriptor = to_be_bytes w16 f.descriptor_number in
      subst (λ m. NewMember SpellsMember seen m text) a.is (record {
        new = f.new;
        spells = record {
          name_number = f.name_number;
          descriptor_number = f.descriptor_number;
          attributes = s.rest;
          flags_fit = f.fits;
          whole = joined s f.whole refl ∙ append_assoc flags (name ++ descriptor) s.rest
              ∙ ap (λ (t : List ℕ). flags ++ t) (append_assoc name descriptor s.rest);
          named = f.named;
          described = f.described;
          attributed = a.spells;
        };
      })

  from_member : (seen : List Key) (m : Member) (text : List ℕ)
      → NewMember SpellsMember seen m text
      → MemberParts seen m text
  from_member seen m text n =
      let s = n.spells in
      let flags = to_be_bytes w16 m.flags in
      let name = to_be_bytes w16 s.name_number in
      let descriptor = to_be_bytes w16 s.descriptor_number in
      record {
        item = (m.flags, m.name, m.descriptor);
        front = flags ++ (name ++ descriptor);
        rest = s.attributes;
        whole = s.whole
            ∙ sym (append_assoc flags (name ++ descriptor) s.attributes
            ∙ ap (λ (t : List ℕ). flags ++ t) (append_assoc name descriptor s.attributes));
        first = record {
          name_number = s.name_number;
          descriptor_number = s.descriptor_number;
          fits = s.flags_fit;
          named = s.named;
          described = s.described;
          new = n.new;
          whole = refl;
        };
        second = record { item = m.attrs; is = refl; spells = s.attributed };
      }

  module _ (name_law : Tells (form_fault (name_form kind)) IsName)
      (descriptor_law : (flags : ℕ) → Tells (form_fault (descriptor_form kind flags))
      (IsDescriptor flags)) where
    abbrev name_at : Position → Read (List ℕ)
    name_at = text_at (rows_of pool) (form_fault (name_form kind))

    abbrev descriptor_at : ℕ → Position → Read (List ℕ)
    descriptor_at flags = text_at (rows_of pool) (form_fault (descriptor_form kind flags))

    reads_from_name : (seen : List Key) (flags : ℕ)
        → Weighs 0 signed_texts
        (λ p. name_at p >>= λ name. descriptor_at flags name.1 >>= λ descriptor.
        unseen (offset p) (name.0, descriptor.0) seen >>= λ new.
        Ok ((flags, name.0, descriptor.0), descriptor.1))
        (FromName seen flags)
    reads_from_name seen flags =
        weighs_then
        (λ begun name rest. descriptor_at flags rest >>= λ descriptor.
        unseen (offset begun) (name, descriptor.0) seen >>= λ new.
        Ok ((flags, name, descriptor.0), descriptor.1))
        (weighs_text pool (form_fault (name_form kind)) IsName name_law)
        (λ begun name.
        weighs_then
        (λ later descriptor rest. unseen (offset begun) (name, descriptor) seen >>= λ new.
        Ok ((flags, name, descriptor), rest))
        (weighs_text pool (form_fault (descriptor_form kind flags)) (IsDescriptor flags)
        (descriptor_law flags))
        (λ later descriptor.
        reads_new (offset begun) (name, descriptor) seen (flags, name, descriptor) (omega arith)))

    reads_signed : (seen : List Key)
        → Weighs 0 signed_texts (signed_at (rows_of pool) kind seen) (Signed seen)
    unfolding signed_at
    reads_signed seen =
        reads_as (Signed seen)
        (reads_then
        (λ begun flags rest. name_at rest >>= λ name. descriptor_at flags name.1 >>= λ descriptor.
        unseen (offset rest) (name.0, descriptor.0) seen >>= λ new.
        Ok ((flags, name.0, descriptor.0), descriptor.1))
        reads_u16
        (λ begun flags. reads_from_name seen flags))
        (to_signed seen)
        (from_signed seen)

    pub reads_member : (seen : List Key)
        → Weighs 0 own_texts (member_at (rows_of pool) kind seen) (NewMember SpellsMember seen)
    unfolding member_at
    reads_member seen =
        reads_as (NewMember SpellsMember seen)
        (weighs_then
        (λ begun front rest. attributes_at (rows_of pool) (place_of kind) front.2 rest >>= λ attrs.
        Ok (
          record { flags = front.0; name = front.1; descriptor = front.2; attrs = attrs.0 },
          attrs.1,
        ))
        (reads_signed seen)
        (λ begun front.
        weighs_made (λ attrs. record {
          flags = front.0;
          name = front.1;
          descriptor = front.2;
          attrs = attrs;
        })
        (λ attrs. omega arith)
        (reads_attributes pool kind front.2)))
        (to_member seen)
        (from_member seen)

-- ---- keys

both_true : (p q : Bool) → (p && q) ≡ true → (p ≡ true) × (q ≡ true)
both_true true true e = (refl, refl)
both_true true false e = absurd (true≢false (sym e))
both_true false q e = absurd (true≢false (sym e))

same_key : (a b : Key) → is_key a b ≡ true → is_key b a ≡ true
same_key a b e =
    let p = both_true (is_text a.0 b.0) (is_text a.1 b.1) e in
    let x = flipped a.0 b.0 p.0 in
    let y = flipped a.1 b.1 p.1 in
    rw (x, y) refl

-- keys that differ do so both ways
pub other_key : (a b : Key) → is_key a b ≡ false → is_key b a ≡ false
other_key a b e = by (is_key b a) refl
  where
    by : (t : Bool) → is_key b a ≡ t → is_key b a ≡ false
    by true is = absurd (true≢false (sym (same_key b a is) ∙ e))
    by false is = is

-- each key is like none before it, nor like one that was seen
abbrev pub AreNew : List Key → List Key → Type 0
AreNew = distinct.AreNew is_key other_key

-- ---- as many members as a count says

module _ {A : Type 0} (make : Member → A) (back : A → Member) (Spells : Member → List ℕ
    → Type 0) where
  abbrev pub SpellsBack : A → List ℕ → Type 0
  SpellsBack item text = Spells (back item) text

  abbrev pub back_key : A → Key
  back_key item = member_key (back item)

  pub record SeveralMembers (seen : List Key) (count : ℕ) (items : List A) (text : List ℕ) : Type 0
    where
      pub length_is : length items ≡ count
      pub each : EachSpells SpellsBack items text
      pub new : AreNew seen (map back_key items)

  abbrev MembersParts : List Key → ℕ → List A → List ℕ → Type 0
  MembersParts seen n = Then (NewMember Spells seen) (λ m.
      Made (λ items. make m ∷ items) (SeveralMembers (seen ++ member_key m ∷ []) n))

  no_member : (seen : List Key) (items : List A) (text : List ℕ) → SeveralMembers seen 0 items text
      → Given [] items text
  no_member seen [] text s = (refl, s.each)
  no_member seen (item ∷ items) text s = absurd (let h = s.length_is in cc)

  module _ (there : (m : Member) → back (make m) ≡ m) (again : (item : A) → make (back item)
      ≡ item) (weight : A → ℕ) (weight_is : (m : Member) → weight (make m) ≡ own_texts m) where
    to_members : (seen : List Key) (n : ℕ) (items : List A) (text : List ℕ)
        → MembersParts seen n items text → SeveralMembers seen (suc n) items text
    to_members seen n items text s =
        let m = s.item in
        let others = s.second in
        subst (λ v. SeveralMembers seen (suc n) v text) others.is (record {
          length_is = ap suc others.spells.length_is;
          each = (
            s.front,
            s.rest,
            s.whole,
            subst (λ k. Spells k s.front) (sym (there m))
                s.first.spells,
            others.spells.each,
          );
          new = subst (λ k. IsNew seen k × AreNew (seen ++ k ∷ []) (map back_key others.item))
              (ap member_key (sym (there m))) (s.first.new, others.spells.new);
        })

    from_members : (seen : List Key) (n : ℕ) (items : List A) (text : List ℕ)
        → SeveralMembers seen (suc n) items text → MembersParts seen n items text
    from_members seen n [] text s = absurd (let h = s.length_is in cc)
    from_members seen n (item ∷ items) text s = record {
      item = back item;
      front = s.each.0;
      rest = s.each.1;
      whole = s.each.2;
      first = record { new = s.new.0; spells = s.each.3 };
      second = record {
        item = items;
        is = ap (λ (x : A). x ∷ items) (again item);
        spells =
            record {
              length_is = same_after (length items) n s.length_is;
              each = s.each.4;
              new =
                  s.new.1;
            };
      };
    }

    pub reads_members : (read : List Key → Position → Read Member)
        → ((seen : List Key) → Weighs 0 own_texts (read seen) (NewMember Spells seen))
        → (seen : List Key) (n : ℕ) → Weighs 0 (total weight) (members_at make read seen n)
        (SeveralMembers seen n)
    unfolding members_at
    reads_members read law seen zero =
        reads_as (SeveralMembers seen 0) (weighs_given [] refl) (λ items text s.
        subst (λ v. SeveralMembers seen 0 v text) s.0
        (record { length_is = refl; each = s.1; new = tt })) (no_member seen)
    reads_members read law seen (suc n) = reads_as (SeveralMembers seen (suc n))
        (weighs_then (λ begun m rest. members_at make read (seen ++ member_key m ∷ []) n rest >>=
        λ ms. Ok (make m ∷ ms.0, ms.1)) (law seen) (λ begun m.
        weighs_made (λ items. make m ∷ items) (λ items. omega (arith, weight_is m))
        (reads_members read law (seen ++ member_key m ∷ []) n)))
        (to_members seen n)
        (from_members seen n)

-- members behind their count, of which no two have one key
pub record DistinctSpell {A : Type 0} (Spells : A → List ℕ → Type 0) (key : A
    → Key) (items : List A) (text : List ℕ) : Type 0 where
  pub spells : CountedSpells Spells items text
  pub distinct : IsDistinct is_key (map key items)

module _ {A : Type 0} (make : Member → A) (back : A → Member) (Spells : Member → List ℕ
    → Type 0) where
  abbrev CountedMembers : List A → List ℕ → Type 0
  CountedMembers = Then (NumberSpells w16 (2 ^ 16)) (SeveralMembers make back Spells [])

  abbrev Distinct : List A → List ℕ → Type 0
  Distinct = DistinctSpell (λ item. Spells (back item)) (λ item. member_key (back item))

  to_distinct : (items : List A) (text : List ℕ) → CountedMembers items text → Distinct items text
  to_distinct items text s = record {
    spells = record {
      rest = s.rest;
      count = omega (arith, s.first.0, s.second.length_is);
      whole = joined s (s.first.1 ∙ ap (to_be_bytes w16) (sym s.second.length_is)) refl;
      each = s.second.each;
    };
    distinct = distinct_new is_key other_key _ s.second.new;
  }

  from_distinct : (items : List A) (text : List ℕ) → Distinct items text
      → CountedMembers items text
  from_distinct items text s = record {
    item = length items;
    front = to_be_bytes w16 (length items);
    rest = s.spells.rest;
    whole = s.spells.whole;
    first = (s.spells.count, refl);
    second = record {
      length_is = refl;
      each = s.spells.each;
      new = new_distinct is_key other_key _ s.distinct;
    };
  }

abbrev field_back : FieldDesc → Member
field_back f = record {
  flags = f.flags;
  name = f.name;
  descriptor = f.descriptor;
  attrs = f.attrs;
}

abbrev method_back : MethodDesc → Member
method_back m = record {
  flags = m.flags;
  name = m.name;
  descriptor = m.descriptor;
  attrs =
      m.attrs;
}

pub reads_fields : (pool : List Entry)
    → Weighs 0 (total field_texts) (fields_at (rows_of pool))
    (DistinctSpell (FieldSpells pool) field_key)
unfolding fields_at
reads_fields pool =
    let IsDescriptor = λ (flags : ℕ). IsFieldDescriptor in
    let Spells = SpellsMember pool kind.Field IsFieldName IsDescriptor in
    let read = member_at (rows_of pool) kind.Field in
    let law = reads_member pool kind.Field IsFieldName IsDescriptor field_name_tells
    (λ flags. field_descriptor_tells) in
    reads_as (DistinctSpell (FieldSpells pool) field_key)
    (reads_then (λ begun count rest. members_at as_field read [] count rest) reads_u16
    (λ begun count. reads_members as_field field_back Spells (λ m. refl) (λ f. refl) field_texts
    (λ m. refl) read law [] count))
    (to_distinct as_field field_back Spells)
    (from_distinct as_field field_back Spells)

pub reads_methods : (pool : List Entry)
    → Weighs 0 (total method_texts) (methods_at (rows_of pool))
    (DistinctSpell (MethodSpells pool) method_key)
unfolding methods_at
reads_methods pool =
    let Spells = SpellsMember pool kind.Method IsMethodName IsMethodDescriptor in
    let read = member_at (rows_of pool) kind.Method in
    let law = reads_member pool kind.Method IsMethodName IsMethodDescriptor method_name_tells
    method_descriptor_tells in
    reads_as (DistinctSpell (MethodSpells pool) method_key)
    (reads_then (λ begun count rest. members_at as_method read [] count rest) reads_u16
    (λ begun count. reads_members as_method method_back Spells (λ m. refl) (λ m. refl)
    method_texts (λ m. refl) read law [] count))
    (to_distinct as_method method_back Spells)
    (from_distinct as_method method_back Spells)
