-- The version, the flags, the superclass and the superinterfaces.
use Rattle.std.proofs.Common.{◌≡◌, ℕ, suc, ◌+◌, ◌^◌, ◌<◌, ◌≤◌, ◌||◌, Bool, true, false, true≢false}
use Rattle.std.proofs.Common.{cond, ltb, eqb, List, [], ◌∷◌, ◌++◌, length, Option, Some, None, Ok}
use Rattle.std.proofs.Common.{Err}
use Rattle.std.proofs.Common.{refl, sym, ap, subst, ◌∙◌, append-nil, arith, inl, inr}
use Rattle.std.specs.List.{flat_map}
use Rattle.std.specs.Int.{w16, w32, to_be_bytes}
use Rattle.std.proofs.lemmas.Bool.{eqb-true, eq-eqb, ltb-true, ltb-false, le-ltb}
use Rattle.std.proofs.lemmas.List.Concat.{flat_map-cons}
use Rattle.java_names.specs.Names.{is_text}
use Rattle.class_desc.specs.Pool.{Entry, ClassRef, entry_of}
use Rattle.class_desc.specs.ClassFile.{magic, object_name, NamesSuper, NamesClasses}
use Rattle.class_desc.specs.Items.{NamesClassOf, Numbered}
use Rattle.class_desc.specs.Items.{EachSpells, CountedSpells}
use Rattle.class_desc.specs.Texts.{total, option_texts}
use Rattle.pool_reader.specs.declared.fault.ClassKind.TheVariants.{F2, F3, F11}
use Rattle.pool_reader.specs.Reading.{◌>>=◌, Position, Read, offset, fault_at, told, number_at}
use Rattle.pool_reader.specs.Reading.{spent_at}
use Rattle.pool_reader.specs.Pooled.{rows_of, class_named}
use Rattle.pool_reader.proofs.Laws.{Weighs, Reads, reads_as, Given, reads_given, weighs_given}
use Rattle.pool_reader.proofs.Laws.{Then, joined, alone}
use Rattle.pool_reader.proofs.Laws.{reads_then}
use Rattle.pool_reader.proofs.Laws.{Checked, reads_checked, Either, reads_if, Never, reads_never}
use Rattle.pool_reader.proofs.Numbers.{NumberSpells, reads_u16, reads_u32, weighs_spent}
use Rattle.attribute_reader.specs.declared.forms.Form.TheVariants as form
use Rattle.attribute_reader.specs.Forms.{form_fault}
use Rattle.attribute_reader.specs.Items.{class_checked}
use Rattle.class_reader.specs.Reading.{version_at, class_flags_at, super_at}
use Rattle.class_reader.specs.Reading.{interfaces_at}
use Rattle.attribute_reader.proofs.ItemLaws.{Passes, passes, is_checked, to_class, from_class}
use Rattle.attribute_reader.proofs.ItemLaws.{weighs_class}
use Rattle.attribute_reader.proofs.ListLaws.{weighs_counted_at}

-- ---- the version

pub record VersionSpells (version : ℕ × ℕ) (text : List ℕ) : Type 0 where
  pub minor : version.0 < 2 ^ 16
  pub major : (45 ≤ version.1) × (version.1 ≤ 61)
  pub whole : text ≡ to_be_bytes w32 magic
      ++ (to_be_bytes w16 version.0 ++ to_be_bytes w16 version.1)

abbrev Number16 : ℕ → List ℕ → Type 0
Number16 = NumberSpells w16 (2 ^ 16)

abbrev is_outside : ℕ → Bool
is_outside major = ltb major 45 || ltb 61 major

abbrev MajorParts : ℕ → ℕ × ℕ → List ℕ → Type 0
MajorParts minor = Then Number16 (λ major. Either (is_outside major) Never (Given (minor, major)))

abbrev VersionParts : ℕ × ℕ → List ℕ → Type 0
VersionParts =
    Then (NumberSpells w32 (2 ^ 32)) (λ first.
    Then (Either (eqb first magic) Number16 Never) MajorParts)

outside : (major : ℕ) → is_outside major ≡ false → (45 ≤ major) × (major ≤ 61)
outside major e = by (ltb major 45) (ltb 61 major) refl refl e
  where
    by : (p q : Bool)
        → ltb major 45 ≡ p
        → ltb 61 major ≡ q
        → (p || q) ≡ false
        → (45 ≤ major) × (major ≤ 61)
    by true q p_is q_is e = absurd (true≢false e)
    by false true p_is q_is e = absurd (true≢false e)
    by false false p_is q_is e = (ltb-false _ _ p_is, ltb-false _ _ q_is)

inside : (major : ℕ) → 45 ≤ major → major ≤ 61 → is_outside major ≡ false
inside major low high =
    let p : ltb major 45 ≡ false = le-ltb _ _ low in
    let q : ltb 61 major ≡ false = le-ltb _ _ high in
    rw (p, q) refl

to_version : (version : ℕ × ℕ) (text : List ℕ) → VersionParts version text
    → VersionSpells version text
to_version version text s = by_magic s.second.first
  where
    by_major : Number16 s.second.item s.second.front
        → eqb s.item magic ≡ true
        → Either (is_outside s.second.second.item) Never
        (Given (s.second.item, s.second.second.item))
        version s.second.second.rest
        → VersionSpells version text
    by_major minor first (inl m) = absurd m.1
    by_major minor first (inr m) =
        let magic_is : s.front ≡ to_be_bytes w32 magic =
        s.first.1 ∙ ap (to_be_bytes w32) (eqb-true _ _ first) in
        let major_is : s.second.rest ≡ to_be_bytes w16 s.second.second.item =
        alone s.second.second s.second.second.first.1 m.1.1 in
        subst (λ v. VersionSpells v text) m.1.0 (record {
          minor = minor.0;
          major = outside s.second.second.item m.0;
          whole = joined s magic_is (joined s.second minor.1 major_is);
        })

    by_magic : Either (eqb s.item magic) Number16 Never s.second.item s.second.front
        → VersionSpells version text
    by_magic (inr n) = absurd n.1
    by_magic (inl n) = by_major n.1 n.0 s.second.second.second

from_version : (version : ℕ × ℕ) (text : List ℕ) → VersionSpells version text
    → VersionParts version text
from_version version text s = record {
  item = magic;
  front = to_be_bytes w32 magic;
  rest = to_be_bytes w16 version.0 ++ to_be_bytes w16 version.1;
  whole = s.whole;
  first = (omega arith, refl);
  second = record {
    item = version.0;
    front = to_be_bytes w16 version.0;
    rest = to_be_bytes w16 version.1;
    whole = refl;
    first = inl (refl, (s.minor, refl));
    second = record {
      item = version.1;
      front = to_be_bytes w16 version.1;
      rest = [];
      whole = sym (append-nil (to_be_bytes w16 version.1));
      first = (omega (arith, s.major.1), refl);
      second = inr (inside version.1 s.major.0 s.major.1, (refl, refl));
    };
  };
}

pub reads_version : Reads version_at VersionSpells
unfolding version_at
reads_version =
    reads_as VersionSpells
    (reads_then
    (λ begun first rest. cond (eqb first magic) (number_at w16 rest) (Err (told begun F2)) >>=
    λ minor.
    number_at w16 minor.1 >>= λ major.
    cond (is_outside major.0) (Err (told minor.1 F3)) (Ok ((minor.0, major.0), major.1)))
    reads_u32
    (λ begun first.
    reads_then
    (λ later minor rest. number_at w16 rest >>= λ major.
    cond (is_outside major.0) (Err (told rest F3)) (Ok ((minor, major.0), major.1)))
    (reads_if (eqb first magic) reads_u16 (reads_never (λ p. told begun F2)))
    (λ later minor.
    reads_then
    (λ third major rest. cond (is_outside major) (Err (told third F3)) (Ok ((minor, major), rest)))
    reads_u16
    (λ third major.
    reads_if (is_outside major) (reads_never (λ p. told third F3)) (reads_given (minor, major))))))
    to_version
    from_version

-- ---- the flags

pub record FlagsSpell (flags : ℕ) (text : List ℕ) : Type 0 where
  pub fits : flags < 2 ^ 15
  pub whole : text ≡ to_be_bytes w16 flags

abbrev FlagsParts : ℕ → List ℕ → Type 0
FlagsParts = Then Number16 (λ n. Either (ltb n (2 ^ 15)) (Given n) Never)

to_flags : (flags : ℕ) (text : List ℕ) → FlagsParts flags text → FlagsSpell flags text
to_flags flags text s = by s.second
  where
    by : Either (ltb s.item (2 ^ 15)) (Given s.item) Never flags s.rest → FlagsSpell flags text
    by (inl g) = subst (λ n. FlagsSpell n text) g.1.0 (record {
      fits = ltb-true _ _ g.0;
      whole = alone s s.first.1 g.1.1;
    })
    by (inr n) = absurd n.1

lt_is : (a b : ℕ) → a < b → ltb a b ≡ true
lt_is a b lt = by (ltb a b) refl
  where
    by : (t : Bool) → ltb a b ≡ t → ltb a b ≡ true
    by true e = e
    by false e = absurd (let h : b ≤ a = ltb-false a b e in omega arith)

from_flags : (flags : ℕ) (text : List ℕ) → FlagsSpell flags text → FlagsParts flags text
from_flags flags text s = record {
  item = flags;
  front = to_be_bytes w16 flags;
  rest = [];
  whole = s.whole ∙ sym (append-nil (to_be_bytes w16 flags));
  first = (omega (arith, s.fits), refl);
  second = inl (lt_is flags (2 ^ 15) s.fits, (refl, refl));
}

pub reads_flags : Reads class_flags_at FlagsSpell
unfolding class_flags_at
reads_flags =
    reads_as FlagsSpell
    (reads_then (λ begun n rest. cond (ltb n (2 ^ 15)) (Ok (n, rest)) (Err (told begun F11)))
    reads_u16
    (λ begun n. reads_if (ltb n (2 ^ 15)) (reads_given n) (reads_never (λ p. told begun F11))))
    to_flags
    from_flags

-- ---- the superclass

module _ (pool : List Entry) (name : List ℕ) where
  abbrev pub SuperSpells : Option (List ℕ) → List ℕ → Type 0
  SuperSpells = Numbered (λ n super. NamesSuper pool n name super)

  abbrev is_object : Bool
  is_object = is_text name object_name

  abbrev NoSuper : Option (List ℕ) → List ℕ → Type 0
  NoSuper = Either is_object (Given None) Never

  -- a class of this number, which java/lang/Object hasn't
  record SomeSuper (n : ℕ) (super : Option (List ℕ)) (rest : List ℕ) : Type 0 where
    class : List ℕ
    passing : Passes (form_fault form.ClassName) (class_named (rows_of pool) n) class
    other : is_object ≡ false
    is : Some class ≡ super
    none : rest ≡ []

  abbrev SuperParts : Option (List ℕ) → List ℕ → Type 0
  SuperParts = Then Number16 (λ n. Either (eqb n 0) NoSuper (SomeSuper n))

  -- a superclass, for whose name there is room
  abbrev some_at : ℕ → List ℕ → Position → Read (Option (List ℕ))
  some_at at super p = spent_at at (length super) p >>= λ room. Ok (Some super, room.1)

  reads_some : (at n : ℕ)
      → Weighs 0 option_texts
      (λ p. class_checked (rows_of pool) at n >>= λ super.
      cond is_object (Err (fault_at at F11)) (some_at at super p))
      (SomeSuper n)
  reads_some at n =
      reads_as (SomeSuper n)
      (reads_checked (class_checked (rows_of pool) at n)
      (λ super p. cond is_object (Err (fault_at at F11)) (some_at at super p))
      (λ super.
      reads_if is_object (reads_never (λ p. fault_at at F11))
      (weighs_spent option_texts at (Some super))))
      (λ super rest c. to super rest c c.second)
      (λ super rest s. record {
        item = s.class;
        passed = is_checked (form_fault form.ClassName) at (class_named (rows_of pool) n) s.class
            s.passing;
        second = inr (s.other, (s.is, s.none));
      })
    where
      to : (super : Option (List ℕ)) (rest : List ℕ)
          (c : Checked (class_checked (rows_of pool) at n) (λ class.
          Either is_object Never (Given (Some class))) super rest)
          → Either is_object Never (Given (Some c.item)) super rest
          → SomeSuper n super rest
      to super rest c (inl never) = absurd never.1
      to super rest c (inr g) = record {
        class = c.item;
        passing = passes (form_fault form.ClassName) at (class_named (rows_of pool) n) c.item
            c.passed;
        other = g.0;
        is = g.1.0;
        none = g.1.1;
      }

  to_super : (super : Option (List ℕ)) (text : List ℕ) → SuperParts super text
      → SuperSpells super text
  to_super super text s = by s.second
    where
      by : Either (eqb s.item 0) NoSuper (SomeSuper s.item) super s.rest → SuperSpells super text
      by (inl (z, inl g)) = subst (λ o. SuperSpells o text) g.1.0 (record {
        number = s.item;
        fits = s.first.0;
        named = (eqb-true _ _ z, g.0);
        is = alone s s.first.1 g.1.1;
      })
      by (inl (z, inr never)) = absurd never.1
      by (inr (some, n)) = subst (λ o. SuperSpells o text) n.is (record {
        number = s.item;
        fits = s.first.0;
        named = (n.other, to_class pool s.item n.class s.first.0 n.passing);
        is = alone s s.first.1 n.none;
      })

  -- no class has the number 0
  above_zero : (n : ℕ) (super : List ℕ) → NamesClassOf pool n super → eqb n 0 ≡ false
  above_zero n super names = by (eqb n 0) refl
    where
      by : (t : Bool) → eqb n 0 ≡ t → eqb n 0 ≡ false
      by false e = e
      by true e =
          absurd
          (let h : entry_of pool 0 ≡ Some (ClassRef names.named.0) =
          subst (λ k. entry_of pool k ≡ Some (ClassRef names.named.0)) (eqb-true n 0 e)
          names.named.1 in
          cc)

  from_super : (super : Option (List ℕ)) (text : List ℕ) → SuperSpells super text
      → SuperParts super text
  from_super super text s = record {
    item = s.number;
    front = to_be_bytes w16 s.number;
    rest = [];
    whole = s.is ∙ sym (append-nil (to_be_bytes w16 s.number));
    first = (s.fits, refl);
    second = by super s.named;
  }
    where
      by : (super : Option (List ℕ))
          → NamesSuper pool s.number name super
          → Either (eqb s.number 0) NoSuper (SomeSuper s.number) super []
      by None n = inl (eq-eqb _ _ n.0, inl (n.1, (refl, refl)))
      by (Some super) n = inr (
        above_zero s.number super n.1,
        record {
          class = super;
          passing = from_class pool s.number super n.1;
          other = n.0;
          is = refl;
          none = refl;
        },
      )

  pub reads_super : Weighs 0 option_texts (super_at (rows_of pool) name) SuperSpells
  unfolding super_at
  reads_super =
      reads_as SuperSpells
      (reads_then
      (λ begun n rest.
      cond (eqb n 0) (cond is_object (Ok (None, rest)) (Err (told begun F11)))
      (class_checked (rows_of pool) (offset begun) n >>= λ super.
      cond is_object (Err (told begun F11)) (some_at (offset begun) super rest)))
      reads_u16
      (λ begun n.
      reads_if (eqb n 0)
      (reads_if is_object (weighs_given None refl) (reads_never (λ p. told begun F11)))
      (reads_some (offset begun) n)))
      to_super
      from_super

-- ---- the superinterfaces

pub record InterfacesSpell (pool : List Entry) (names : List (List ℕ)) (text : List ℕ) : Type 0
  where
    pub numbers : List ℕ
    pub count : length numbers < 2 ^ 16
    pub named : NamesClasses pool numbers names
    pub whole : text ≡ to_be_bytes w16 (length numbers) ++ flat_map (to_be_bytes w16) numbers

record Numbers (pool : List Entry) (names : List (List ℕ)) (text : List ℕ) : Type 0 where
  numbers : List ℕ
  length_is : length numbers ≡ length names
  named : NamesClasses pool numbers names
  whole : text ≡ flat_map (to_be_bytes w16) numbers

module _ (pool : List Entry) where
  abbrev Each : List (List ℕ) → List ℕ → Type 0
  Each = EachSpells (Numbered (NamesClassOf pool))

  numbers_of : (names : List (List ℕ)) (text : List ℕ) → Each names text → Numbers pool names text
  numbers_of [] text s = record { numbers = []; length_is = refl; named = tt; whole = s }
  numbers_of (name ∷ names) text s =
      let one = s.3 in
      let others = numbers_of names s.1 s.4 in
      record {
        numbers = one.number ∷ others.numbers;
        length_is = ap suc others.length_is;
        named = (one.named, others.named);
        whole = s.2 ∙ ap (λ (t : List ℕ). t ++ s.1) one.is
            ∙ ap (λ (t : List ℕ). to_be_bytes w16 one.number ++ t) others.whole
            ∙ sym (flat_map-cons (to_be_bytes w16) one.number others.numbers);
      }

  each_of : (numbers : List ℕ) (names : List (List ℕ)) (text : List ℕ)
      → NamesClasses pool numbers names
      → text ≡ flat_map (to_be_bytes w16) numbers
      → Each names text
  each_of [] [] text named e = e
  each_of (n ∷ ns) (name ∷ names) text named e = (
    to_be_bytes w16 n,
    flat_map (to_be_bytes w16) ns,
    e ∙ flat_map-cons (to_be_bytes w16) n ns,
    record { number = n; fits = named.0.fits; named = named.0; is = refl },
    each_of ns names (flat_map (to_be_bytes w16) ns) named.1 refl,
  )
  each_of [] (name ∷ names) text named e = absurd named
  each_of (n ∷ ns) [] text named e = absurd named

  same_length : (numbers : List ℕ) (names : List (List ℕ))
      → NamesClasses pool numbers names
      → length numbers ≡ length names
  same_length [] [] named = refl
  same_length (n ∷ ns) (name ∷ names) named = ap suc (same_length ns names named.1)
  same_length [] (name ∷ names) named = absurd named
  same_length (n ∷ ns) [] named = absurd named

  abbrev Counted : List (List ℕ) → List ℕ → Type 0
  Counted = CountedSpells (Numbered (NamesClassOf pool))

  to_interfaces : (names : List (List ℕ)) (text : List ℕ)
      → Counted names text
      → InterfacesSpell pool names text
  to_interfaces names text s =
      let n = numbers_of names s.rest s.each in
      record {
        numbers = n.numbers;
        count = omega (arith, s.count, n.length_is);
        named = n.named;
        whole = s.whole ∙ ap (λ (t : List ℕ). to_be_bytes w16 (length names) ++ t) n.whole
            ∙ ap (λ (k : ℕ). to_be_bytes w16 k
            ++ flat_map (to_be_bytes w16) n.numbers) (sym n.length_is);
      }

  from_interfaces : (names : List (List ℕ)) (text : List ℕ)
      → InterfacesSpell pool names text
      → Counted names text
  from_interfaces names text s =
      let len = same_length s.numbers names s.named in
      record {
        rest = flat_map (to_be_bytes w16) s.numbers;
        count = omega (arith, s.count, len);
        whole = s.whole ∙ ap (λ (k : ℕ). to_be_bytes w16 k
            ++ flat_map (to_be_bytes w16) s.numbers) len;
        each = each_of s.numbers names (flat_map (to_be_bytes w16) s.numbers) s.named refl;
      }

  pub reads_interfaces : Weighs 0 (total length) (interfaces_at (rows_of pool))
      (InterfacesSpell pool)
  unfolding interfaces_at
  reads_interfaces =
      reads_as (InterfacesSpell pool) (weighs_counted_at (weighs_class pool)) to_interfaces
      from_interfaces
