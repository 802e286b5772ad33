-- Stripping leaves a world that shows less.
use Rattle.std.proofs.Common.{◌≡◌, refl, sym, ap, subst, subst₂, ◌∙◌, ℕ, Bool, true}
use Rattle.std.proofs.Common.{false, cond, not}
use Rattle.std.proofs.Common.{◌&&◌, ◌||◌, List, [], ◌∷◌, ◌++◌, map, filter, Contains, Option, Some}
use Rattle.std.proofs.Common.{None, option_to_list, ◌⊎◌, inl, inr}
use Rattle.std.specs.List.{list_any, AllByRecursion}
use Rattle.std.proofs.lemmas.Bool.{false≢true, false_from_ne_true, true_from_ne_false, not-true}
use Rattle.std.proofs.lemmas.Bool.{or_from, or_left, or_right}
use Rattle.std.proofs.lemmas.List.Folds.{list_any-append}
use Rattle.java_names.specs.Names.{is_text}
use Rattle.class_desc.specs.ClassFile.{object_name}
use Rattle.class_desc.specs.declared.class.ClassDesc.{ClassDesc}
use Rattle.class_views.specs.Alike.{Both}
use Rattle.class_views.specs.Flags.{is_private}
use Rattle.class_views.specs.Kept.{is_own_local, is_no_local, names_class, super_names, is_kept}
use Rattle.class_views.specs.Kept.{strip_set}
use Rattle.class_views.specs.Staying.{IsClosed}
use Rattle.class_views.specs.Strip.{is_listed, strip_class, strip_view, is_class_initialiser}
use Rattle.class_views.specs.Strip.{HasOneInnerClasses}
use Rattle.class_views.specs.View.{View, view_of_desc, listed_in, inner_in}
use Rattle.class_views.specs.World.{World, class_of, supertypes}
use Rattle.class_views.proofs.Members.{in_filter}
use Rattle.class_views.proofs.Staying.{contains_first, contains_later, least}
use Rattle.class_views.proofs.Viewed.{stripped_view}
use Rattle.class_views.proofs.Ways.{In, first, later, any_in, in_any, none_in}
use Rattle.class_views.proofs.Worlds.{same_text, texts, found_in}
use Rattle.projection.specs.ShowsLess.{LeftOf, ends, stays, goes, field_may_go, method_may_go}
use Rattle.projection.specs.ShowsLess.{Shows, StandsFor, ShowsLess}
use Rattle.projection.specs.Stripping.{class_names, removed_names, world_of, names_removed}

-- ---- what a filter leaves

module _ {A : Type 0} (may_go : A → Bool) where
  pub left_whole : (xs : List A) → LeftOf may_go xs xs
  left_whole [] = ends
  left_whole (x ∷ xs) = stays (left_whole xs)

  pub left_by_filter : (keeps : A → Bool) → ((x : A) → keeps x ≡ false → may_go x ≡ true) →
      (xs : List A) → LeftOf may_go xs (filter keeps xs)
  left_by_filter keeps may [] = ends
  left_by_filter keeps may (x ∷ xs) = by (keeps x) refl (left_by_filter keeps may xs)
    where
      by : (b : Bool) → keeps x ≡ b → LeftOf may_go xs (filter keeps xs) →
          LeftOf may_go (x ∷ xs) (cond b (x ∷ filter keeps xs) (filter keeps xs))
      by true e left = stays left
      by false e left = goes (may x e) left

pub shows_itself : (c : View) → Shows c c
shows_itself c = record {
  same = refl;
  fields = left_whole field_may_go c.fields;
  methods = left_whole method_may_go c.methods;
}

pub shows_stripped : (c : View) → Shows c (strip_view c)
shows_stripped c = record {
  same = refl;
  fields =
      left_by_filter field_may_go (λ f. not (is_private f.flags))
      (λ f e. private_goes (is_private f.flags) e) c.fields;
  methods =
      left_by_filter method_may_go (λ m. not (is_private m.flags) && not (is_class_initialiser m))
      (λ m e. goes_either (is_private m.flags) (is_class_initialiser m) e) c.methods;
}
  where
    private_goes : (b : Bool) → not b ≡ false → b ≡ true
    private_goes true e = refl
    private_goes false e = absurd (false≢true (sym e))

    goes_either : (a b : Bool) → (not a && not b) ≡ false → (a || b) ≡ true
    goes_either true b e = refl
    goes_either false true e = refl
    goes_either false false e = absurd (false≢true (sym e))

-- ---- which classes are gone

in_contains : {A : Type 0} (x : A) (xs : List A) → In x xs → Contains xs x
in_contains x [] at = elim at [ ]
in_contains x (y ∷ xs) first = contains_first x xs
in_contains x (y ∷ xs) (later at) = contains_later y xs x (in_contains x xs at)

in_names : (name : List ℕ) (ds : List ClassDesc) → In name (class_names ds) →
    (d : ClassDesc) × In d ds × (d.name ≡ name)
in_names name [] at = elim at [ ]
in_names name (d ∷ ds) first = (d, first, refl)
in_names name (d ∷ ds) (later at) =
    let found = in_names name ds at in
    (found.0, later found.1, found.2)

name_in : (d : ClassDesc) (ds : List ClassDesc) → In d ds → In d.name (class_names ds)
name_in d [] at = elim at [ ]
name_in d (e ∷ ds) first = first
name_in d (e ∷ ds) (later at) = later (name_in d ds at)

filtered_in : {A : Type 0} (test : A → Bool) (x : A) (xs : List A) → In x xs → test x ≡ true →
    In x (filter test xs)
filtered_in test x [] at t = elim at [ ]
filtered_in test x (y ∷ xs) first t =
    subst (λ b. In x (cond b (x ∷ filter test xs) (filter test xs))) (sym t) first
filtered_in test x (y ∷ xs) (later at) t = by (test y) (filtered_in test x xs at t)
  where
    by : (b : Bool) → In x (filter test xs) → In x (cond b (y ∷ filter test xs) (filter test xs))
    by true rest = later rest
    by false rest = rest

module _ (list : List ClassDesc) where
  closed : IsClosed is_no_local names_class list (is_kept list)
  unfolding is_kept
  closed = (least is_no_local names_class list).closed

  -- a class of this name that isn't kept
  record Removed (name : List ℕ) : Type 0 where
    pub class : ClassDesc
    pub listed : In class list
    pub goes_away : is_kept list class ≡ false
    pub named : class.name ≡ name

  removed : (name : List ℕ) → is_listed (removed_names list) name ≡ true → Removed name
  removed name t =
      let some = any_in (is_text name) (removed_names list) t in
      let found = in_names some.0 (filter (λ d. not (is_kept list d)) list) some.1 in
      let parts = in_filter (λ d. not (is_kept list d)) found.0 list found.1 in
      record {
        class = found.0;
        listed = parts.0;
        goes_away = not-true (is_kept list found.0) parts.1;
        named = found.2 ∙ sym (same_text name some.0 some.2);
      }

  object_kept : is_listed (removed_names list) object_name ≡ false
  object_kept =
      false_from_ne_true (is_listed (removed_names list) object_name)
      (λ t. met (removed object_name t))
    where
      met : Removed object_name → ⊥
      met gone =
          false≢true
          (sym gone.goes_away ∙ closed.begun gone.class (in_contains gone.class list gone.listed)
          (subst (λ name. not (not (is_text name object_name)
          && list_any (is_own_local name) (listed_in inner_in gone.class.attrs)) ≡ true)
          (sym gone.named) refl))

  or_swapped : (a b : Bool) → (a || b) ≡ true → (b || a) ≡ true
  or_swapped true true t = refl
  or_swapped true false t = refl
  or_swapped false true t = refl
  or_swapped false false t = t

  named_above : (d : ClassDesc) (s : List ℕ) → In s (supertypes (view_of_desc d)) →
      is_listed (super_names d) s ≡ true
  named_above d s at =
      list_any-append (is_text s) (option_to_list d.super_name) d.interfaces
      ∙ or_swapped (list_any (is_text s) d.interfaces)
      (list_any (is_text s) (option_to_list d.super_name))
      (sym (list_any-append (is_text s) d.interfaces (option_to_list d.super_name))
      ∙ in_any (is_text s) s (d.interfaces ++ option_to_list d.super_name) at (texts.refl s))

  kept_closed : (d : ClassDesc) → In d list → is_kept list d ≡ true →
      list_any (is_listed (removed_names list)) (supertypes (view_of_desc d)) ≡ false
  kept_closed d at kept =
      false_from_ne_true
      (list_any (is_listed (removed_names list)) (supertypes (view_of_desc d)))
      (λ t. met (any_in (is_listed (removed_names list)) (supertypes (view_of_desc d)) t))
    where
      met : (s : List ℕ) × In s (supertypes (view_of_desc d))
          × (is_listed (removed_names list) s ≡ true) → ⊥
      met found =
          let gone = removed found.0 found.2 in
          false≢true
          (sym gone.goes_away
          ∙ closed.named d gone.class (in_contains d list at)
          (in_contains gone.class list gone.listed) kept
          (subst (λ name. is_listed (super_names d) name ≡ true) (sym gone.named)
          (named_above d found.0 found.1)))

  -- ---- what a name finds before and after

  module _ (others : World) (name : List ℕ) where
    -- a class read, and the same stripped
    record Written (ds : List ClassDesc) (o p : Option View) : Type 0 where
      pub class : ClassDesc
      pub listed : In class ds
      pub named : is_text class.name name ≡ true
      pub full : o ≡ Some (view_of_desc class)
      pub less : p ≡ Some (view_of_desc (strip_class class))

    -- another class, or none
    record Beside (ds : List ClassDesc) (o p : Option View) : Type 0 where
      pub full : o ≡ class_of others name
      pub less : p ≡ class_of others name
      pub unread : is_listed (class_names ds) name ≡ false

    abbrev before : List ClassDesc → Option View
    before ds = class_of (world_of ds others) name

    abbrev after : List ClassDesc → Option View
    after ds = class_of (world_of (map strip_class (filter (is_kept list) ds)) others) name

    abbrev LookedUp : List ClassDesc → Option View → Option View → Type 0
    LookedUp ds o p = Written ds o p ⊎ Beside ds o p

    -- behind a class of another name
    passed : (d : ClassDesc) (ds : List ClassDesc) → is_text d.name name ≡ false →
        LookedUp ds (before ds) (after ds) → LookedUp (d ∷ ds) (before ds) (after ds)
    passed d ds t (inl w) =
        inl (record {
          class = w.class;
          listed = later w.listed;
          named = w.named;
          full = w.full;
          less = w.less;
        })
    passed d ds t (inr b) =
        inr (record {
          full = b.full;
          less = b.less;
          unread =
              or_from (is_text name d.name) (is_listed (class_names ds) name)
              (texts.symm name d.name ∙ t) b.unread;
        })

    look : (ds : List ClassDesc) →
        ((d : ClassDesc) → In d ds → is_text d.name name ≡ true → is_kept list d ≡ true) →
        LookedUp ds (before ds) (after ds)
    look [] stay = inr (record { full = refl; less = refl; unread = refl })
    look (d ∷ ds) stay =
        by (is_text d.name name) refl (is_kept list d) refl
        (look ds (λ e at. stay e (later at)))
      where
        here : Bool → Option View
        here b = cond b (Some (view_of_desc (strip_class d))) (after ds)

        by : (b : Bool) → is_text d.name name ≡ b → (k : Bool) → is_kept list d ≡ k →
            LookedUp ds (before ds) (after ds) →
            LookedUp (d ∷ ds) (cond b (Some (view_of_desc d)) (before ds))
            (class_of (world_of (map strip_class
            (cond k (d ∷ filter (is_kept list) ds) (filter (is_kept list) ds))) others) name)
        by true t true k rest =
            inl (record { class = d; listed = first; named = t; full = refl; less = ap here t })
        by true t false k rest = absurd (false≢true (sym k ∙ stay d first t))
        by false t true k rest =
            subst (λ p. LookedUp (d ∷ ds) (before ds) p) (sym (ap here t)) (passed d ds t rest)
        by false t false k rest = passed d ds t rest

  -- ---- the two worlds

  module _ (others : World) (one : AllByRecursion HasOneInnerClasses list)
      (apart : list_any (names_removed list) others ≡ false) where
    one_in : (d : ClassDesc) (ds : List ClassDesc) → AllByRecursion HasOneInnerClasses ds →
        In d ds → HasOneInnerClasses d
    one_in d [] all at = elim at [ ]
    one_in d (e ∷ ds) all first = all.0
    one_in d (e ∷ ds) all (later at) = one_in d ds all.1 at

    written : (d : ClassDesc) → In d list → is_kept list d ≡ true →
        StandsFor (class_names list) (removed_names list) (view_of_desc d)
        (view_of_desc (strip_class d))
    written d at kept = record {
      shows =
          subst (λ v. Shows (view_of_desc d) v) (sym (stripped_view d (one_in d list one at)))
          (shows_stripped (view_of_desc d));
      closed = kept_closed d at kept;
      unread = λ none. absurd (false≢true (sym none ∙ listed d list at));
    }
      where
        listed : (e : ClassDesc) (ds : List ClassDesc) → In e ds →
            is_listed (class_names ds) e.name ≡ true
        listed e [] at = elim at [ ]
        listed e (f ∷ ds) first =
            or_left (is_text e.name e.name) (is_listed (class_names ds) e.name)
            (texts.refl e.name)
        listed e (f ∷ ds) (later at) =
            or_right (is_text e.name f.name) (is_listed (class_names ds) e.name) (listed e ds at)

    beside : (c : View) → In c others →
        StandsFor (class_names list) (removed_names list) c c
    beside c at = record {
      shows = shows_itself c;
      closed =
          false_from_ne_true (names_removed list c)
          (none_in (names_removed list) c others apart at);
      unread = λ none. refl;
    }

    abbrev Stand : Option View → Option View → Type 0
    Stand = Both (StandsFor (class_names list) (removed_names list))

    stands_at : (name : List ℕ) → is_listed (removed_names list) name ≡ false →
        Stand (class_of (world_of list others) name)
        (class_of (world_of (strip_set list) others) name)
    stands_at name left = by (look others name list kept)
      where
        kept : (d : ClassDesc) → In d list → is_text d.name name ≡ true → is_kept list d ≡ true
        kept d at named = true_from_ne_false (is_kept list d) (λ e. met e)
          where
            met : is_kept list d ≡ false → ⊥
            met e =
                false≢true
                (sym left
                ∙ in_any (is_text name) d.name (removed_names list)
                (name_in d (filter (λ x. not (is_kept list x)) list)
                (filtered_in (λ x. not (is_kept list x)) d list at (ap not e)))
                (texts.symm name d.name ∙ named))

        other : (o : Option View) → class_of others name ≡ o → Stand o o
        other None e = tt
        other (Some c) e = beside c (found_in others name c e)

        by : LookedUp others name list (class_of (world_of list others) name)
            (class_of (world_of (strip_set list) others) name) →
            Stand (class_of (world_of list others) name)
            (class_of (world_of (strip_set list) others) name)
        by (inl w) =
            subst₂ (λ o p. Stand o p) (sym w.full) (sym w.less)
            (written w.class w.listed (kept w.class w.listed w.named))
        by (inr b) =
            subst₂ (λ o p. Stand o p) (sym b.full) (sym b.less)
            (other (class_of others name) refl)

    pub strip_shows_less : ShowsLess (class_names list) (removed_names list)
        (world_of list others) (world_of (strip_set list) others)
    strip_shows_less = record { object_stays = object_kept; classes = stands_at }
