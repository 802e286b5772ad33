-- Items that are numbers of texts and of classes.
use Rattle.std.proofs.Common.{◌≡◌, ℕ, ◌<◌, ◌^◌, Bool, true, false, cond, eqb, List, []}
use Rattle.std.proofs.Common.{Option, Some, None, Result, Ok, Err, refl, sym, ap, subst, ◌∙◌}
use Rattle.std.proofs.Common.{append-nil, length}
use Rattle.std.specs.Int.{w16, to_be_bytes}
use Rattle.std.proofs.lemmas.Bool.{eqb-true, eq-eqb}
use Rattle.class_desc.specs.Forms.{IsAnyText, IsFieldDescriptor}
use Rattle.class_desc.specs.Items.{NamesTextOf, NamesClassOf, OrZero, Numbered}
use Rattle.class_desc.specs.Pool.{Entry}
use Rattle.class_desc.specs.Texts.{option_texts}
use Rattle.pool_reader.specs.declared.fault.ClassFault.{ClassFault}
use Rattle.pool_reader.specs.declared.fault.ClassKind.{ClassKind}
use Rattle.pool_reader.specs.Reading.{◌>>=◌, Position, Read, offset, number_at, spent_at}
use Rattle.pool_reader.specs.Pooled.{rows_of, text_named, class_named}
use Rattle.pool_reader.proofs.Laws.{ok_is, Weighs, Reads, weightless, reads_as, Given}
use Rattle.pool_reader.proofs.Laws.{reads_given, Then, alone, Made, reads_then_of, reads_checked}
use Rattle.pool_reader.proofs.Numbers.{NumberSpells, reads_u16, weighs_spent}
use Rattle.pool_reader.proofs.Named.{is_text_named, text_named_is, is_class_named}
use Rattle.pool_reader.proofs.Named.{class_named_is}
use Rattle.attribute_reader.specs.declared.forms.Form.TheVariants as form
use Rattle.attribute_reader.specs.Forms.{form_fault}
use Rattle.attribute_reader.specs.Items.{passed, checked, text_checked, class_checked, or_zero}
use Rattle.attribute_reader.specs.Items.{numbered_at, text_at, class_at, optional_at}
use Rattle.attribute_reader.specs.Items.{attribute_name_at}
use Rattle.attribute_reader.proofs.FormLaws.{Tells, any_text_tells, class_name_tells}
use Rattle.attribute_reader.proofs.FormLaws.{field_descriptor_tells}

-- a text is named, and nothing is told of it
pub record Passes (fault : List ℕ → Option ClassKind) (named : Result (List ℕ) ClassKind)
    (text : List ℕ) : Type 0 where
  pub is : named ≡ Ok text
  pub untold : fault text ≡ None

pub passes : (fault : List ℕ → Option ClassKind) (at : ℕ) (named : Result (List ℕ) ClassKind)
    (text : List ℕ)
    → checked fault at named ≡ Ok text
    → Passes fault named text
passes fault at (Err kind) text e = absurd cc
passes fault at (Ok t) text e = by (fault t) refl e
  where
    by : (o : Option ClassKind) → fault t ≡ o → passed t at o ≡ Ok text → Passes fault (Ok t) text
    by None is e =
        let same : t ≡ text = cc in
        subst (Passes fault (Ok t)) same (record { is = refl; untold = is })
    by (Some kind) is e = absurd cc

pub is_checked : (fault : List ℕ → Option ClassKind) (at : ℕ) (named : Result (List ℕ) ClassKind)
    (text : List ℕ)
    → Passes fault named text
    → checked fault at named ≡ Ok text
is_checked fault at named text p = ap (checked fault at) p.is ∙ ap (passed text at) p.untold

-- ---- what was checked is what the grammar asks

pub to_text : (pool : List Entry) (fault : List ℕ → Option ClassKind) (IsForm : List ℕ → Type 0)
    (n : ℕ) (text : List ℕ)
    → Tells fault IsForm
    → n < 2 ^ 16
    → Passes fault (text_named (rows_of pool) n) text
    → NamesTextOf pool IsForm n text
to_text pool fault IsForm n text law fits p =
    let is = is_text_named pool n text p.is in
    record {
      fits = fits;
      named = is.named;
      modified = is.modified;
      form = law.right text p.untold;
    }

pub from_text : (pool : List Entry) (fault : List ℕ → Option ClassKind) (IsForm : List ℕ → Type 0)
    (n : ℕ) (text : List ℕ)
    → Tells fault IsForm
    → NamesTextOf pool IsForm n text
    → Passes fault (text_named (rows_of pool) n) text
from_text pool fault IsForm n text law s = record {
  is = text_named_is pool n text (record { named = s.named; modified = s.modified });
  untold = law.again text s.form;
}

pub to_class : (pool : List Entry) (n : ℕ) (name : List ℕ)
    → n < 2 ^ 16
    → Passes (form_fault form.ClassName) (class_named (rows_of pool) n) name
    → NamesClassOf pool n name
to_class pool n name fits p =
    let is = is_class_named pool n name p.is in
    record {
      fits = fits;
      named = is.named;
      modified = is.modified;
      form = class_name_tells.right name p.untold;
    }

pub from_class : (pool : List Entry) (n : ℕ) (name : List ℕ)
    → NamesClassOf pool n name
    → Passes (form_fault form.ClassName) (class_named (rows_of pool) n) name
from_class pool n name s = record {
  is = class_named_is pool n name (record { named = s.named; modified = s.modified });
  untold = class_name_tells.again name s.form;
}

-- ---- an item that is a number

abbrev fine : {A : Type 0} → A → Result A ClassFault
fine item = Ok item

-- what is asked of a number, whatever its offset, gives just what the number names
pub record Finds {A : Type 0} (check : ℕ → ℕ → Result A ClassFault) (Names : ℕ → A → Type 0)
    : Type 0 where
  pub right : (at n : ℕ) (item : A) → n < 2 ^ 16 → check at n ≡ Ok item → Names n item
  pub again : (at n : ℕ) (item : A) → Names n item → check at n ≡ Ok item

-- nothing is read for a check; behind it what it gives is given, as here
weighs_check : {A : Type 0} {weight : A → ℕ} (check : Result A ClassFault)
    (give : A → Position → Read A)
    → ((item : A) → Weighs 0 weight (give item) (Given item))
    → Weighs 0 weight (λ p. check >>= λ item. give item p)
    (λ item rest. (check ≡ Ok item) × (rest ≡ []))
weighs_check check give law =
    reads_as (λ item rest. (check ≡ Ok item) × (rest ≡ []))
    (reads_checked check give law)
    (λ item rest c. (subst (λ i. check ≡ Ok i) c.second.0 c.passed, c.second.1))
    (λ item rest c. record { item = item; passed = c.0; second = (refl, c.1) })

-- a number of two bytes
abbrev Short : Type 0
Short = (n : ℕ) × (n < 2 ^ 16)

abbrev short : Short → ℕ
short n = n.0

abbrev ShortSpells : ℕ → List ℕ → Type 0
ShortSpells = Made short (λ n text. text ≡ to_be_bytes w16 n.0)

reads_short : Reads (number_at w16) ShortSpells
reads_short =
    reads_as ShortSpells reads_u16
    (λ n text s. record { item = (n, s.0); is = refl; spells = s.1 })
    (λ n text s. subst (λ k. NumberSpells w16 (2 ^ 16) k text) s.is (s.item.1, s.spells))

-- a number, of which this is named, and then nothing
abbrev ThenNamed : {A : Type 0} → (ℕ → A → Type 0) → A → List ℕ → Type 0
ThenNamed Names =
    Then (λ (n : Short) text. text ≡ to_be_bytes w16 n.0)
    (λ n item rest. Names n.0 item × (rest ≡ []))

to_numbered : {A : Type 0} (Names : ℕ → A → Type 0) (item : A) (text : List ℕ)
    → ThenNamed Names item text
    → Numbered Names item text
to_numbered Names item text s = record {
  number = s.item.0;
  fits = s.item.1;
  named = s.second.0;
  is = alone s s.first s.second.1;
}

from_numbered : {A : Type 0} (Names : ℕ → A → Type 0) (item : A) (text : List ℕ)
    → Numbered Names item text
    → ThenNamed Names item text
from_numbered Names item text s = record {
  item = (s.number, s.fits);
  front = to_be_bytes w16 s.number;
  rest = [];
  whole = s.is ∙ sym (append-nil (to_be_bytes w16 s.number));
  first = refl;
  second = (s.named, refl);
}

-- a number, of which this is asked, and behind it what was found is given, as at its offset
weighs_found : {A : Type 0} {weight : A → ℕ} {check : ℕ → ℕ → Result A ClassFault}
    {Names : ℕ → A → Type 0} (give : ℕ → A → Position → Read A)
    → ((at : ℕ) (item : A) → Weighs 0 weight (give at item) (Given item))
    → Finds check Names
    → Weighs 0 weight
    (λ p. number_at w16 p >>= λ n. check (offset p) n.0 >>= λ item. give (offset p) item n.1)
    (Numbered Names)
weighs_found {check} {Names} give law finds =
    reads_as (Numbered Names)
    (reads_then_of
    (λ begun n rest. check (offset begun) n >>= λ item. give (offset begun) item rest)
    reads_short
    (λ begun n.
    reads_as (λ item rest. Names n.0 item × (rest ≡ []))
    (weighs_check (check (offset begun) n.0) (give (offset begun)) (law (offset begun)))
    (λ item rest c. (finds.right (offset begun) n.0 item n.1 c.0, c.1))
    (λ item rest c. (finds.again (offset begun) n.0 item c.0, c.1))))
    (to_numbered Names)
    (from_numbered Names)

pub weighs_numbered : {A : Type 0} {check : ℕ → ℕ → Result A ClassFault} {Names : ℕ → A → Type 0}
    (weight : A → ℕ)
    → Finds check Names
    → Weighs 0 weight (numbered_at weight check) (Numbered Names)
unfolding numbered_at
weighs_numbered weight finds =
    weighs_found (λ at item p. spent_at at (weight item) p >>= λ room. Ok (item, room.1))
    (weighs_spent weight)
    finds

-- ---- texts and classes

pub finds_text : (pool : List Entry) (fault : List ℕ → Option ClassKind) (IsForm : List ℕ → Type 0)
    → Tells fault IsForm
    → Finds (text_checked (rows_of pool) fault) (NamesTextOf pool IsForm)
finds_text pool fault IsForm law = record {
  right = λ at n text fits e.
      to_text pool fault IsForm n text law fits
      (passes fault at (text_named (rows_of pool) n) text e);
  again = λ at n text s.
      is_checked fault at (text_named (rows_of pool) n) text
      (from_text pool fault IsForm n text law s);
}

pub finds_class : (pool : List Entry) → Finds (class_checked (rows_of pool)) (NamesClassOf pool)
finds_class pool = record {
  right = λ at n name fits e.
      to_class pool n name fits
      (passes (form_fault form.ClassName) at (class_named (rows_of pool) n) name e);
  again = λ at n name s.
      is_checked (form_fault form.ClassName) at (class_named (rows_of pool) n) name
      (from_class pool n name s);
}

pub weighs_text : (pool : List Entry) (fault : List ℕ → Option ClassKind)
    (IsForm : List ℕ → Type 0)
    → Tells fault IsForm
    → Weighs 0 length (text_at (rows_of pool) fault) (Numbered (NamesTextOf pool IsForm))
weighs_text pool fault IsForm law = weighs_numbered length (finds_text pool fault IsForm law)

pub weighs_any_text : (pool : List Entry)
    → Weighs 0 length (text_at (rows_of pool) (form_fault form.AnyText))
    (Numbered (NamesTextOf pool IsAnyText))
weighs_any_text pool = weighs_text pool (form_fault form.AnyText) IsAnyText any_text_tells

pub weighs_field_descriptor : (pool : List Entry)
    → Weighs 0 length (text_at (rows_of pool) (form_fault form.FieldDescriptor))
    (Numbered (NamesTextOf pool IsFieldDescriptor))
weighs_field_descriptor pool =
    weighs_text pool (form_fault form.FieldDescriptor) IsFieldDescriptor field_descriptor_tells

pub weighs_class : (pool : List Entry)
    → Weighs 0 length (class_at (rows_of pool)) (Numbered (NamesClassOf pool))
weighs_class pool = weighs_numbered length (finds_class pool)

-- the name of an attribute counts for nothing
pub reads_attribute_name : (pool : List Entry)
    → Reads (attribute_name_at (rows_of pool)) (Numbered (NamesTextOf pool IsAnyText))
unfolding attribute_name_at
reads_attribute_name pool =
    weighs_found (λ at name p. Ok (name, p)) (λ at name. reads_given name)
    (finds_text pool (form_fault form.AnyText) IsAnyText any_text_tells)

-- ---- the number 0, or something else

or_none : {A : Type 0} (check : Result A ClassFault) (item : Option A)
    → (check >>= λ x. Ok (Some x)) ≡ Ok item
    → (x : A) × (check ≡ Ok x) × (Some x ≡ item)
or_none (Ok x) item e = (x, refl, ok_is (Some x) item e)
or_none (Err fault) item e = absurd cc

-- no number 0 names anything
pub finds_or_zero : {A : Type 0} {check : ℕ → ℕ → Result A ClassFault} {Names : ℕ → A → Type 0}
    → Finds check Names
    → ((item : A) → Names 0 item → ⊥)
    → Finds (or_zero check) (OrZero Names)
finds_or_zero {A} {check} {Names} finds none = record { right = right; again = again }
  where
    right : (at n : ℕ) (item : Option A)
        → n < 2 ^ 16
        → or_zero check at n ≡ Ok item
        → OrZero Names n item
    right at n item fits e = by (eqb n 0) refl e
      where
        by : (b : Bool)
            → eqb n 0 ≡ b
            → cond b (Ok None) (check at n >>= λ x. Ok (Some x)) ≡ Ok item
            → OrZero Names n item
        by true is e = subst (OrZero Names n) (ok_is None item e) (eqb-true n 0 is)
        by false is e =
            let o = or_none (check at n) item e in
            subst (OrZero Names n) o.2 (finds.right at n o.0 fits o.1)

    above : (n : ℕ) (item : A) → Names n item → eqb n 0 ≡ false
    above n item named = by (eqb n 0) refl
      where
        by : (b : Bool) → eqb n 0 ≡ b → eqb n 0 ≡ false
        by false is = is
        by true is = absurd (none item (subst (λ k. Names k item) (eqb-true n 0 is) named))

    again : (at n : ℕ) (item : Option A) → OrZero Names n item → or_zero check at n ≡ Ok item
    again at n None zero =
        ap (λ b. cond b (fine None) (check at n >>= λ x. Ok (Some x))) (eq-eqb n 0 zero)
    again at n (Some item) named =
        ap (λ b. cond b (fine None) (check at n >>= λ x. fine (Some x))) (above n item named)
        ∙ ap (λ (r : Result A ClassFault). r >>= λ x. fine (Some x)) (finds.again at n item named)

pub weighs_optional : {check : ℕ → ℕ → Result (List ℕ) ClassFault} {Names : ℕ → List ℕ → Type 0}
    → Finds check Names
    → ((item : List ℕ) → Names 0 item → ⊥)
    → Weighs 0 option_texts (optional_at check) (Numbered (OrZero Names))
weighs_optional finds none = weighs_numbered option_texts (finds_or_zero finds none)
