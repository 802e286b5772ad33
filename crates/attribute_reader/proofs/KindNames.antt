-- The kinds of attributes and their names.
use Rattle.std.proofs.Common.{◌≡◌, ℕ, Bool, true, false, true≢false, cond, List, [], ◌∷◌, Option}
use Rattle.std.proofs.Common.{Some, None, refl, sym, ap, ◌∙◌}
use Rattle.std.specs.Prelude.{find, is_some}
use Rattle.std.specs.Cmp.Lexicographic.{same_text}
use Rattle.java_names.specs.Names.{is_text}
use Rattle.class_desc.specs.declared.attribute_kind.AttributeKind.{AttributeKind}
use Rattle.class_desc.specs.declared.attribute_kind.AttributeKind.TheVariants as kind
use Rattle.class_desc.specs.declared.place.Place.{Place}
use Rattle.class_desc.specs.Places.{kind_name, kept_kinds, kept_kind, keeps}

-- ---- each name is that of one kind

kinds : List AttributeKind
kinds =
    kind.ConstantValue ∷ kind.Exceptions ∷ kind.Signature ∷ kind.Deprecated ∷ kind.Synthetic
    ∷ kind.InnerClasses ∷ kind.Record ∷ kind.PermittedSubclasses ∷ kind.AnnotationDefault
    ∷ kind.MethodParameters ∷ kind.VisibleAnnotations ∷ kind.InvisibleAnnotations
    ∷ kind.VisibleParameterAnnotations ∷ kind.InvisibleParameterAnnotations ∷ []

of_name : List ℕ → Option AttributeKind
of_name name = find (λ k. is_text (kind_name k) name) kinds

own_name : (k : AttributeKind) → of_name (kind_name k) ≡ Some k
unfolding of_name kinds
own_name kind.ConstantValue = refl
own_name kind.Exceptions = refl
own_name kind.Signature = refl
own_name kind.Deprecated = refl
own_name kind.Synthetic = refl
own_name kind.InnerClasses = refl
own_name kind.Record = refl
own_name kind.PermittedSubclasses = refl
own_name kind.AnnotationDefault = refl
own_name kind.MethodParameters = refl
own_name kind.VisibleAnnotations = refl
own_name kind.InvisibleAnnotations = refl
own_name kind.VisibleParameterAnnotations = refl
own_name kind.InvisibleParameterAnnotations = refl

pub same_kind : (a b : AttributeKind) → kind_name a ≡ kind_name b → a ≡ b
same_kind a b e = kind_is a b (sym (own_name a) ∙ ap of_name e ∙ own_name b)
  where
    kind_is : (a b : AttributeKind) → Some a ≡ Some b → a ≡ b
    kind_is a b e = cc

-- ---- the kinds of a place

some_is : {A : Type 0} (a b : A) → Some a ≡ Some b → a ≡ b
some_is a b e = cc

found_passes : {A : Type 0} (test : A → Bool) (items : List A) (item : A)
    → find test items ≡ Some item
    → test item ≡ true
found_passes test [] item e = absurd cc
found_passes test (first ∷ items) item e =
    by (test first) refl e (found_passes test items item)
  where
    by : (b : Bool)
        → test first ≡ b
        → cond b (Some first) (find test items) ≡ Some item
        → (find test items ≡ Some item → test item ≡ true)
        → test item ≡ true
    by true is e later = ap test (sym (some_is first item e)) ∙ is
    by false is e later = later e

-- a kind that is kept has the name by which it was found
pub kept_name : (place : Place) (name : List ℕ) (k : AttributeKind)
    → kept_kind place name ≡ Some k
    → kind_name k ≡ name
kept_name place name k e =
    same_text (kind_name k) name
    (sym (found_passes (λ k. is_text (kind_name k) name) (kept_kinds place) k e))

-- a kept name is that of its kind
pub kept_own : (place : Place) (k : AttributeKind)
    → keeps place (kind_name k) ≡ true
    → kept_kind place (kind_name k) ≡ Some k
kept_own place k e = by (kept_kind place (kind_name k)) refl e
  where
    by : (o : Option AttributeKind)
        → kept_kind place (kind_name k) ≡ o
        → is_some o ≡ true
        → kept_kind place (kind_name k) ≡ Some k
    by None is e = absurd (true≢false (sym e))
    by (Some other) is e =
        is ∙ ap Some (same_kind other k (kept_name place (kind_name k) other is))

pub not_kept : (place : Place) (name : List ℕ)
    → keeps place name ≡ false
    → kept_kind place name ≡ None
not_kept place name e = by (kept_kind place name) refl e
  where
    by : (o : Option AttributeKind)
        → kept_kind place name ≡ o
        → is_some o ≡ false
        → kept_kind place name ≡ None
    by None is e = is
    by (Some other) is e = absurd (true≢false e)
