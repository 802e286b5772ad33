-- Items that each add something or nothing to a list without repeats.
use Rattle.std.proofs.Common.{◌≡◌, ℕ, zero, suc, Bool, false, List, [], ◌∷◌, ◌++◌, length, map}
use Rattle.std.proofs.Common.{Option, Some, None, refl, sym, ap, subst, ◌∙◌, append_assoc}
use Rattle.std.proofs.Common.{append-nil}
use Rattle.std.specs.List.{filter_map, cons_option}
use Rattle.std.proofs.lemmas.List.{map-append}
use Rattle.class_desc.specs.Items.{EachSpells}
use Rattle.pool_reader.proofs.Laws.{same_after}
use Rattle.attribute_reader.proofs.Distinct.{AreNew, new_parts, new_joined}
use Rattle.attribute_reader.proofs.ListLaws.{Grown}

module _ {O A K : Type 0} (same : K → K → Bool)
    (other : (a b : K) → same a b ≡ false → same b a ≡ false)
    (adds : O → Option A) (key : A → K) (Spells : O → List ℕ → Type 0) where
  abbrev Fresh : List A → List A → Type 0
  Fresh before more = AreNew same other (map key before) (map key more)

  -- an item adds this to those before
  pub record Adding (before more : List A) (text : List ℕ) : Type 0 where
    pub item : O
    pub is : cons_option (adds item) [] ≡ more
    pub new : Fresh before more
    pub spelled : Spells item text

  -- as many items add these
  pub record AllAdding (count : ℕ) (before all : List A) (text : List ℕ) : Type 0 where
    pub items : List O
    pub length_is : length items ≡ count
    pub are : before ++ filter_map adds items ≡ all
    pub new : Fresh before (filter_map adds items)
    pub each : EachSpells Spells items text

  one_more : (before : List A) (o : Option A) (rest : List A)
      → (before ++ cons_option o []) ++ rest ≡ before ++ cons_option o rest
  one_more before None rest = ap (λ (t : List A). t ++ rest) (append-nil before)
  one_more before (Some item) rest = append_assoc before (item ∷ []) rest

  one_added : (o : Option A) (rest : List A) → cons_option o [] ++ rest ≡ cons_option o rest
  one_added None rest = refl
  one_added (Some item) rest = refl

  -- what is new behind some, and what behind those
  join_new : (before more rest : List A) → Fresh before more → Fresh (before ++ more) rest
      → Fresh before (more ++ rest)
  join_new before more rest new later =
      subst (λ (t : List K). AreNew same other (map key before) t) (sym (map-append key more rest))
      (new_joined same other (map key before) (map key more) (map key rest) new
      (subst (λ (s : List K). AreNew same other s (map key rest)) (map-append key before more)
      later))

  split_new : (before more rest : List A) → Fresh before (more ++ rest)
      → Fresh before more × Fresh (before ++ more) rest
  split_new before more rest new =
      let p = new_parts same other (map key before) (map key more) (map key rest)
      (subst (λ (t : List K). AreNew same other (map key before) t) (map-append key more rest) new)
      in (
        p.0,
        subst (λ (s : List K). AreNew same other s (map key rest))
            (sym (map-append key before more)) p.1,
      )

  pub to_all : (n : ℕ) (before all : List A) (text : List ℕ) → Grown Adding n before all text
      → AllAdding n before all text
  to_all zero before all text s = record {
    items = [];
    length_is = refl;
    are = append-nil before ∙ s.0;
    new = tt;
    each = s.1;
  }
  to_all (suc n) before all text s =
      let a = s.first in
      let more = s.item in
      let later = to_all n (before ++ more) all s.rest s.second in
      let rest = filter_map adds later.items in
      let added : more ++ rest ≡ cons_option (adds a.item) rest =
      ap (λ (t : List A). t ++ rest) (sym a.is) ∙ one_added (adds a.item) rest in
      record {
        items = a.item ∷ later.items;
        length_is = ap suc later.length_is;
        are = sym (one_more before (adds a.item) rest)
            ∙ ap (λ (t : List A). (before ++ t) ++ rest) a.is ∙ later.are;
        new = subst (Fresh before) added (join_new before more rest a.new later.new);
        each = (s.front, s.rest, s.whole, a.spelled, later.each);
      }

  from_items : (items : List O) (n : ℕ) (before all : List A) (text : List ℕ)
      → length items ≡ n
      → before ++ filter_map adds items ≡ all
      → Fresh before (filter_map adds items)
      → EachSpells Spells items text
      → Grown Adding n before all text
  from_items [] zero before all text len are new each = (sym (append-nil before) ∙ are, each)
  from_items [] (suc n) before all text len are new each = absurd (let h = len in cc)
  from_items (item ∷ items) zero before all text len are new each = absurd (let h = len in cc)
  from_items (item ∷ items) (suc n) before all text len are new each =
      let more = cons_option (adds item) [] in
      let rest = filter_map adds items in
      let split = split_new before more rest
      (subst (Fresh before) (sym (one_added (adds item) rest)) new) in
      record {
        item = more;
        front = each.0;
        rest = each.1;
        whole = each.2;
        first = record { item = item; is = refl; new = split.0; spelled = each.3 };
        second = from_items items n (before ++ more) all each.1 (same_after (length items) n len)
            (one_more before (adds item) rest ∙ are) split.1 each.4;
      }

  pub from_all : (n : ℕ) (before all : List A) (text : List ℕ) → AllAdding n before all text
      → Grown Adding n before all text
  from_all n before all text s =
      from_items s.items n before all text s.length_is s.are s.new s.each
