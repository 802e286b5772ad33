-- A loop that reads as many members as a count says, and notes each.
use Rattle.std.proofs.Common.{◌≡◌, ℕ, suc, ◌+◌, ◌-◌, ◌<◌, ◌≤◌, List, [], ◌∷◌, ◌++◌, Ok, Err, refl}
use Rattle.std.proofs.Common.{sym, ap, ◌∙◌, ◌||◌, cond, Bool, Result, append-nil, arith}
use Rattle.std.specs.Int.{w16}
use Rattle.std.specs.List.{list_any}
use Rattle.class_desc.specs.ClassFile.{Key}
use Rattle.class_reader.specs.declared.member.Member.{Member}
use Rattle.pool_reader.specs.declared.fault.ReadErr.{ReadErr}
use Rattle.pool_reader.specs.declared.fault.ReadErr.TheVariants as errors
use Rattle.pool_reader.specs.Reading.{◌>>=◌, Position, offset, Read, Fails, fault_at, number_at}
use Rattle.pool_reader.proofs.Times.{with_front, regroup}
use Rattle.class_reader.specs.declared.member.MemberKind.{MemberKind}
use Rattle.pool_reader.specs.declared.fault.ClassFault.{ClassFault}
use Rattle.pool_reader.specs.declared.fault.ClassKind.TheVariants.{F9}
use Rattle.pool_reader.specs.Pooled.{Row}
use Rattle.class_desc.specs.ClassFile.{is_key}
use Rattle.attribute_reader.specs.Attributes.{attributes_at}
use Rattle.attribute_reader.specs.Forms.{form_fault}
use Rattle.attribute_reader.specs.Items.{text_at}
use Rattle.attribute_reader.proofs.Ordered.{any_behind}
use Rattle.class_reader.specs.Reading.{HaveSame, unseen, place_of, name_form, descriptor_form}
use Rattle.class_reader.specs.Reading.{signed_at, member_at, members_at}

-- ---- members behind keys in another order

abbrev good : Result (Unit {0}) ClassFault
good = Ok tt

abbrev unseen_in : List Key → ℕ → Key → Result (Unit {0}) ClassFault
unseen_in seen at key = unseen at key seen

unseen_alike : (seen others : List Key) → HaveSame seen others
    → unseen_in seen ≡ unseen_in others
unseen_alike seen others same = λ i at key. cond (same key i) (Err (fault_at at F9)) good

abbrev signed : ℕ × List ℕ × List ℕ → Position → Read (ℕ × List ℕ × List ℕ)
signed m p = Ok (m, p)

signed_alike : (rows : List Row) (kind : MemberKind) (seen others : List Key) (p : Position)
    → HaveSame seen others
    → signed_at rows kind seen p ≡ signed_at rows kind others p
unfolding signed_at
signed_alike rows kind seen others p same =
    ap (λ (check : ℕ → Key → Result (Unit {0}) ClassFault). number_at w16 p >>= λ flags.
    text_at rows (form_fault (name_form kind)) flags.1 >>= λ name.
    text_at rows (form_fault (descriptor_form kind flags.0)) name.1 >>= λ descriptor.
    check (offset flags.1) (name.0, descriptor.0) >>= λ new.
    signed (flags.0, name.0, descriptor.0) descriptor.1)
    (unseen_alike seen others same)

abbrev member : Member → Position → Read Member
member m p = Ok (m, p)

pub member_alike : (rows : List Row) (kind : MemberKind) (seen others : List Key) (p : Position)
    → HaveSame seen others
    → member_at rows kind seen p ≡ member_at rows kind others p
unfolding member_at
member_alike rows kind seen others p same =
    ap (λ (front : Read (ℕ × List ℕ × List ℕ)). front >>= λ front.
    attributes_at rows (place_of kind) front.0.2 front.1 >>= λ attrs.
    member (record {
      flags = front.0.0;
      name = front.0.1;
      descriptor = front.0.2;
      attrs = attrs.0;
    }) attrs.1)
    (signed_alike rows kind seen others p same)

-- with one more key
pub one_more : (seen more others : List Key) (key : Key)
    → HaveSame seen others
    → HaveSame more (seen ++ key ∷ [])
    → HaveSame more (others ++ key ∷ [])
one_more seen more others key same added other =
    added other
    ∙ any_behind (is_key other) seen key
    ∙ ap (λ b. is_key other key || b) (same other)
    ∙ sym (any_behind (is_key other) others key)

-- ---- the loop

nothing_in_front : {A : Type 0} (r : Read (List A)) → with_front [] r ≡ r
nothing_in_front (Ok x) = refl
nothing_in_front (Err e) = refl

module _ {A : Type 0} (make : Member → A) (read : List Key → Position → Read Member) where
  -- nothing was read, and no key is known
  pub begins : (front : List A) (known : List Key) (count : ℕ) (p : Position)
      → known ≡ []
      → front ≡ []
      → (seen : List Key) × HaveSame known seen
      × (with_front front (members_at make read seen (count - 0) p)
      ≡ members_at make read [] count p)
  begins front known count p none nothing =
      let all : count - 0 ≡ count = omega arith in (
        [],
        λ key. ap (list_any (is_key key)) none,
        ap (λ (f : List A). with_front f (members_at make read [] (count - 0) p)) nothing
            ∙ ap (λ n. with_front {A = A} [] (members_at make read [] n p)) all
            ∙ nothing_in_front (members_at make read [] count p),
      )

  pub goes_on : (front : List A) (seen : List Key) (count i : ℕ) (p : Position) (m : Member)
      (after : Position) (total : Read (List A)) → i < count → read seen p ≡ Ok (m, after)
      → with_front front (members_at make read seen (count - i) p) ≡ total
      → with_front (front ++ make m ∷ [])
      (members_at make read (seen ++ (m.name, m.descriptor) ∷ []) (count - (i + 1)) after)
      ≡ total
  unfolding members_at
  goes_on front seen count i p m after total lt h so_far =
      let k : count - i ≡ suc (count - (i + 1)) = omega arith in
      let one : with_front front (members_at make read seen (count - i) p)
      ≡ with_front (front ++ make m ∷ [])
      (members_at make read (seen ++ (m.name, m.descriptor) ∷ []) (count - (i + 1))
      after) = rw (k, h) (regroup front (make m)
      (members_at make read (seen ++ (m.name, m.descriptor) ∷ []) (count - (i + 1))
      after)) in
      sym one ∙ so_far

  pub ends : (e : ReadErr) (front : List A) (seen : List Key) (count i : ℕ) (p : Position)
      (total : Read (List A)) → i < count → Fails e (read seen p)
      → with_front front (members_at make read seen (count - i) p) ≡ total → Fails e total
  unfolding members_at
  ends errors.Memory front seen count i p total lt h so_far = tt
  ends (errors.Fault f) front seen count i p total lt h so_far =
      let k : count - i ≡ suc (count - (i + 1)) = omega arith in
      let one : with_front front (members_at make read seen (count - i) p)
      ≡ Err f = rw (k, h) refl in
      sym so_far ∙ one

  pub is_done : (front : List A) (seen : List Key) (count i : ℕ) (p : Position)
      (total : Read (List A)) → count ≤ i
      → with_front front (members_at make read seen (count - i) p) ≡ total → total
      ≡ Ok (front, p)
  unfolding members_at
  is_done front seen count i p total le so_far =
      let k : count - i ≡ 0 = omega arith in
      let one : with_front front (members_at make read seen (count - i) p)
      ≡ Ok (front, p) = rw k (ap (λ items. Ok (items, p)) (append-nil front)) in
      sym so_far ∙ one
