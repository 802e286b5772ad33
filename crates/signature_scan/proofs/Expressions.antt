-- Languages as expressions, and the expressions for what a byte leaves of them.
use Rattle.std.proofs.Common.{◌≡◌, ◌↔◌, ◌⊎◌, inl, inr, refl, ap, ℕ, zero, suc, ◌≤◌, Bool, true}
use Rattle.std.proofs.Common.{false, ◌&&◌, ◌||◌, ◌==◌, eq-eqb, eqb-true, List, [], ◌∷◌, ◌++◌}
use Rattle.std.proofs.Common.{replicate}
use Rattle.std.proofs.lemmas.Bool.{false≢true}
use Rattle.java_types.specs.declared.types.JType.{JType}
use Rattle.java_types.specs.Types.{type_text}
use Rattle.java_types.specs.Descriptor.{is_primitive}
use Rattle.java_types.specs.declared.production.Production.{Production}
use Rattle.java_types.specs.declared.production.Production.TheVariants.{Reference, Element}
use Rattle.java_types.specs.Signature.{is_type, allows_void, allows_primitive, allows_variable}
use Rattle.java_types.specs.Signature.{allows_array}
use Rattle.signature_scan.specs.Machine.{is_name_byte}
use Rattle.signature_scan.proofs.Conjunctions.{and_true, or_true}
use Rattle.signature_scan.proofs.Languages.{same, and_then, turned, either, pair, swap, Cat, cats}
use Rattle.signature_scan.proofs.Languages.{Empty, cat_empty, cat_cons, cat_first, cat_last}
use Rattle.signature_scan.proofs.Languages.{cat_assoc, cat_or, Star, star_none, star_cons}

pub data Expr : Type 0 where
  -- this byte
  Byte : ℕ → Expr
  -- a byte of an identifier
  NameByte : Expr
  Many : Expr → Expr
  Maybe : Expr → Expr
  Or : Expr → Expr → Expr
  Both : Expr → Expr → Expr
  -- a type that the production allows
  Kind : Production → Expr
  -- so many dimensions at most, and then what is no array
  Dims : ℕ → Expr

-- the text of something that passes
pub record IsTextOf {T : Type 0} (test : T → Bool) (text : T → List ℕ) (w : List ℕ) : Type 0 where
  pub item : T
  pub is : test item ≡ true
  pub whole : w ≡ text item

abbrev pub IsKind : Production → List ℕ → Type 0
IsKind at = IsTextOf (λ type. is_type type at) type_text

pub record IsElement (most : ℕ) (w : List ℕ) : Type 0 where
  pub dims : ℕ
  pub type : JType
  pub within : dims ≤ most
  pub is : is_type type Element ≡ true
  pub text : w ≡ replicate dims 91 ++ type_text type

pub record IsNameByte (w : List ℕ) : Type 0 where
  pub byte : ℕ
  pub is : is_name_byte byte ≡ true
  pub text : w ≡ byte ∷ []

-- the words of an expression
abbrev pub Words : Expr → List ℕ → Type 0
Words (Byte n) = λ w. w ≡ n ∷ []
Words NameByte = IsNameByte
Words (Many e) = Star (Words e)
Words (Maybe e) = λ w. Empty w ⊎ Words e w
Words (Or e f) = λ w. Words e w ⊎ Words f w
Words (Both e f) = Cat (Words e) (Words f)
Words (Kind at) = IsKind at
Words (Dims most) = IsElement most

-- words of each in a row
abbrev pub Rows : List Expr → List ℕ → Type 0
Rows [] = Empty
Rows (e ∷ es) = Cat (Words e) (Rows es)

-- words of any of them
abbrev pub AnyRow : List (List Expr) → List ℕ → Type 0
AnyRow [] = λ w. ⊥
AnyRow (es ∷ more) = λ w. Rows es w ⊎ AnyRow more w

-- ---- parts of the grammar

abbrev pub names : Expr
names = Many NameByte

abbrev pub slashes : Expr
slashes = Many (Both (Both (Byte 47) NameByte) names)

abbrev pub argument : Expr
argument = Or (Byte 42) (Both (Maybe (Or (Byte 43) (Byte 45))) (Kind Reference))

abbrev pub arguments : Expr
arguments = Maybe (Both (Both (Both (Byte 60) argument) (Many argument)) (Byte 62))

abbrev pub inners : Expr
inners = Many (Both (Both (Both (Byte 46) NameByte) names) arguments)

-- ---- what is left behind a byte

abbrev pub can_end : Expr → Bool
can_end (Byte n) = false
can_end NameByte = false
can_end (Many e) = true
can_end (Maybe e) = true
can_end (Or e f) = can_end e || can_end f
can_end (Both e f) = can_end e && can_end f
can_end (Kind at) = false
can_end (Dims most) = false

abbrev pub only : Bool → List (List Expr) → List (List Expr)
only true rows = rows
only false rows = []

-- each of them, and these behind it
abbrev pub each : List (List Expr) → List Expr → List (List Expr)
each [] es = []
each (row ∷ rows) es = (row ++ es) ∷ each rows es

abbrev pub class_row : List Expr
class_row = NameByte ∷ names ∷ slashes ∷ arguments ∷ inners ∷ Byte 59 ∷ []

abbrev pub variable_row : List Expr
variable_row = NameByte ∷ names ∷ Byte 59 ∷ []

abbrev pub kind_after : Production → ℕ → List (List Expr)
kind_after at b =
    only (b == 76) (class_row ∷ [])
    ++ (only (b == 84 && allows_variable at) (variable_row ∷ [])
    ++ (only (b == 91 && allows_array at) ((Dims 4294967294 ∷ []) ∷ [])
    ++ (only (b == 86 && allows_void at) ([] ∷ [])
    ++ only (is_primitive b && allows_primitive at) ([] ∷ []))))

abbrev pub one_fewer : ℕ → List (List Expr)
one_fewer zero = []
one_fewer (suc most) = (Dims most ∷ []) ∷ []

abbrev pub after : Expr → ℕ → List (List Expr)
after (Byte n) b = only (b == n) ([] ∷ [])
after NameByte b = only (is_name_byte b) ([] ∷ [])
after (Many e) b = each (after e b) (Many e ∷ [])
after (Maybe e) b = after e b
after (Or e f) b = after e b ++ after f b
after (Both e f) b = each (after e b) (f ∷ []) ++ only (can_end e) (after f b)
after (Kind at) b = kind_after at b
after (Dims most) b = only (b == 91) (one_fewer most) ++ kind_after Element b

abbrev pub derive : List Expr → ℕ → List (List Expr)
derive [] b = []
derive (e ∷ es) b = each (after e b) es ++ only (can_end e) (derive es b)

abbrev pub derive_all : List (List Expr) → ℕ → List (List Expr)
derive_all [] b = []
derive_all (row ∷ rows) b = derive row b ++ derive_all rows b

-- ---- rows

pub any_append : (xs ys : List (List Expr)) (w : List ℕ) → AnyRow (xs ++ ys) w
    ↔ (AnyRow xs w ⊎ AnyRow ys w)
any_append [] ys w =
    (λ y. inr y, λ s. elim s as (λ s. AnyRow ys w) [ inl x ↦ absurd x | inr y ↦ y ])
any_append (x ∷ xs) ys w = and_then (either same (any_append xs ys w)) regroup
  where
    to : Rows x w ⊎ (AnyRow xs w ⊎ AnyRow ys w) → (Rows x w ⊎ AnyRow xs w) ⊎ AnyRow ys w
    to (inl r) = inl (inl r)
    to (inr (inl r)) = inl (inr r)
    to (inr (inr r)) = inr r

    back : (Rows x w ⊎ AnyRow xs w) ⊎ AnyRow ys w → Rows x w ⊎ (AnyRow xs w ⊎ AnyRow ys w)
    back (inl (inl r)) = inl r
    back (inl (inr r)) = inr (inl r)
    back (inr r) = inr (inr r)

    regroup : (Rows x w ⊎ (AnyRow xs w ⊎ AnyRow ys w)) ↔ ((Rows x w ⊎ AnyRow xs w) ⊎ AnyRow ys w)
    regroup = (to, back)

pub only_is : (test : Bool) (rows : List (List Expr)) (w : List ℕ) → AnyRow (only test rows) w
    ↔ ((test ≡ true) × AnyRow rows w)
only_is true rows w = (λ r. (refl, r), λ p. p.1)
only_is false rows w = (λ r. absurd r, λ p. absurd (false≢true p.0))

-- one row
pub one_row : (es : List Expr) (w : List ℕ) → AnyRow (es ∷ []) w ↔ Rows es w
one_row es w = (λ s. elim s as (λ s. Rows es w) [ inl x ↦ x | inr y ↦ absurd y ], λ r. inl r)

pub row_append : (xs ys : List Expr) (w : List ℕ) → Rows (xs ++ ys) w ↔ Cat (Rows xs) (Rows ys) w
row_append [] ys w = turned (cat_first (Rows ys) w)
row_append (x ∷ xs) ys w =
    and_then (cats (λ v. same) (λ v. row_append xs ys v) w)
    (turned (cat_assoc (Words x) (Rows xs) (Rows ys) w))

no_cat : (K : List ℕ → Type 0) (w : List ℕ) → ⊥ ↔ Cat (λ v. ⊥) K w
no_cat K w = (λ x. absurd x, λ c. c.first)

pub each_is : (rows : List (List Expr)) (es : List Expr) (w : List ℕ) → AnyRow (each rows es) w
    ↔ Cat (AnyRow rows) (Rows es) w
each_is [] es w = no_cat (Rows es) w
each_is (row ∷ rows) es w =
    and_then (either (row_append row es w) (each_is rows es w))
    (turned (cat_or (Rows row) (AnyRow rows) (Rows es) w))

-- a row of one expression
pub row_one : (e : Expr) (w : List ℕ) → Rows (e ∷ []) w ↔ Words e w
row_one e w = cat_last (Words e) w

-- ---- the laws

abbrev pub EndIs : Expr → Type 0
EndIs e = Words e [] ↔ (can_end e ≡ true)

abbrev pub AfterIs : Expr → Type 0
AfterIs e = (b : ℕ) (w : List ℕ) → Words e (b ∷ w) ↔ AnyRow (after e b) w

-- an item in front of others
pub front_is : (e : Expr) (K : List ℕ → Type 0) (rest : List (List Expr)) (b : ℕ) (w : List ℕ)
    (es : List Expr) → EndIs e → AfterIs e → ((v : List ℕ) → K v ↔ Rows es v) → K (b ∷ w)
    ↔ AnyRow rest w
    → Cat (Words e) K (b ∷ w) ↔ AnyRow (each (after e b) es ++ only (can_end e) rest) w
front_is e K rest b w es ends goes behind more =
    and_then (cat_cons (Words e) K b w)
    (and_then swap
    (and_then (either (and_then (cats (λ v. goes b v) behind w)
    (turned (each_is (after e b) es w)))
    (and_then (pair ends more) (turned (only_is (can_end e) rest w))))
    (turned (any_append (each (after e b) es) (only (can_end e) rest) w))))

pub derive_is : ((e : Expr) → EndIs e) → ((e : Expr) → AfterIs e)
    → (es : List Expr) (b : ℕ) (w : List ℕ) → Rows es (b ∷ w) ↔ AnyRow (derive es b) w
derive_is ends goes [] b w = (λ e. absurd (cc), λ x. absurd x)
derive_is ends goes (e ∷ es) b w =
    front_is e (Rows es) (derive es b) b w es (ends e) (goes e) (λ v. same)
    (derive_is ends goes es b w)

pub derive_all_is : ((e : Expr) → EndIs e) → ((e : Expr) → AfterIs e)
    → (rows : List (List Expr)) (b : ℕ) (w : List ℕ) → AnyRow rows (b ∷ w)
    ↔ AnyRow (derive_all rows b) w
derive_all_is ends goes [] b w = same
derive_all_is ends goes (row ∷ rows) b w =
    and_then (either (derive_is ends goes row b w) (derive_all_is ends goes rows b w))
    (turned (any_append (derive row b) (derive_all rows b) w))

pub byte_after : (n : ℕ) → AfterIs (Byte n)
byte_after n b w = and_then (to, back) (turned (only_is (b == n) ([] ∷ []) w))
  where
    to : b ∷ w ≡ n ∷ [] → (b == n ≡ true) × AnyRow ([] ∷ []) w
    to e = let head : b ≡ n = cc in let tail : w ≡ [] = cc in (eq-eqb b n head, inl tail)

    back : (b == n ≡ true) × AnyRow ([] ∷ []) w → b ∷ w ≡ n ∷ []
    back p = let head = eqb-true b n p.0 in let tail = (one_row [] w).0 p.1 in cc

pub name_byte_after : AfterIs NameByte
name_byte_after b w = and_then (to, back) (turned (only_is (is_name_byte b) ([] ∷ []) w))
  where
    to : IsNameByte (b ∷ w) → (is_name_byte b ≡ true) × AnyRow ([] ∷ []) w
    to x = let e = x.text in let head : x.byte ≡ b = cc in let tail : w ≡ [] = cc in
        (rw head at x.is, inl tail)

    back : (is_name_byte b ≡ true) × AnyRow ([] ∷ []) w → IsNameByte (b ∷ w)
    back p = record { byte = b; is = p.0; text = ap (λ v. b ∷ v) ((one_row [] w).0 p.1) }

pub maybe_after : (e : Expr) → AfterIs e → AfterIs (Maybe e)
maybe_after e goes b w =
    and_then (
      λ s. elim s as (λ s. Words e (b ∷ w)) [ inl x ↦ absurd (cc) | inr y ↦ y ],
      λ y. inr y,
    )
    (goes b w)

pub or_after : (e f : Expr) → AfterIs e → AfterIs f → AfterIs (Or e f)
or_after e f goes more b w =
    and_then (either (goes b w) (more b w)) (turned (any_append (after e b) (after f b) w))

pub both_after : (e f : Expr) → EndIs e → AfterIs e → AfterIs f → AfterIs (Both e f)
both_after e f ends goes more b w =
    front_is e (Words f) (after f b) b w (f ∷ []) ends goes (λ v. turned (row_one f v)) (more b w)

pub many_after : (e : Expr) → AfterIs e → AfterIs (Many e)
many_after e goes b w =
    and_then (star_cons (Words e) b w)
    (and_then (cats (λ v. goes b v) (λ v. turned (row_one (Many e) v)) w)
    (turned (each_is (after e b) (Many e ∷ []) w)))

pub many_end : (e : Expr) → EndIs (Many e)
many_end e = (λ s. refl, λ t. star_none (Words e))

pub maybe_end : (e : Expr) → EndIs (Maybe e)
maybe_end e = (λ s. refl, λ t. inl refl)

pub or_end : (e f : Expr) → EndIs e → EndIs f → EndIs (Or e f)
or_end e f p q = and_then (either p q) (or_true (can_end e) (can_end f))

pub both_end : (e f : Expr) → EndIs e → EndIs f → EndIs (Both e f)
both_end e f p q =
    and_then (cat_empty (Words e) (Words f))
    (and_then (pair p q) (and_true (can_end e) (can_end f)))

pub byte_end : (n : ℕ) → EndIs (Byte n)
byte_end n = (λ e. absurd (cc), λ t. absurd (false≢true t))

pub name_byte_end : EndIs NameByte
name_byte_end = (λ x. absurd (let e = x.text in cc), λ t. absurd (false≢true t))

-- the parts of an expression in a row
abbrev pub parts_of : Expr → List Expr
parts_of (Byte n) = Byte n ∷ []
parts_of NameByte = NameByte ∷ []
parts_of (Many e) = Many e ∷ []
parts_of (Maybe e) = Maybe e ∷ []
parts_of (Or e f) = Or e f ∷ []
parts_of (Both e f) = parts_of e ++ parts_of f
parts_of (Kind at) = Kind at ∷ []
parts_of (Dims most) = Dims most ∷ []

pub parts_is : (e : Expr) (w : List ℕ) → Words e w ↔ Rows (parts_of e) w
parts_is (Byte n) w = turned (row_one (Byte n) w)
parts_is NameByte w = turned (row_one NameByte w)
parts_is (Many e) w = turned (row_one (Many e) w)
parts_is (Maybe e) w = turned (row_one (Maybe e) w)
parts_is (Or e f) w = turned (row_one (Or e f) w)
parts_is (Both e f) w =
    and_then (cats (parts_is e) (parts_is f) w) (turned (row_append (parts_of e) (parts_of f) w))
parts_is (Kind at) w = turned (row_one (Kind at) w)
parts_is (Dims most) w = turned (row_one (Dims most) w)
