-- The maximally specific superinterface methods, by number.
use Rattle.std.proofs.Common.{◌≡◌, refl, ap, sym, subst, ◌∙◌, ℕ, zero, suc, ◌⊎◌, Bool, true}
use Rattle.std.proofs.Common.{false, not, cond, ◌&&◌, List, inl, inr, Option, Some, None}
use Rattle.std.specs.Prelude.{slice_get, find, filter, option_map}
use Rattle.std.specs.List.{list_any, filter_map}
use Rattle.std.proofs.lemmas.Bool.{and_from, and_parts, cases_Bool, false≢true}
use Rattle.java_names.specs.Names.{is_text}
use Rattle.supertypes.specs.Ways.{Reaches, IsBelow, HasNoRing}
use Rattle.supertypes.specs.Walk.{walk as numbers}
use Rattle.class_views.specs.View.{View, MemberView}
use Rattle.class_views.specs.Flags.{is_abstract}
use Rattle.class_views.specs.World.{World, supertypes, walk, leads_to, is_named, is_interface}
use Rattle.class_views.specs.World.{same_class, each_once, supers_of, is_below}
use Rattle.class_views.specs.Resolution.{Declared, NameAndType, declared_by, is_given}
use Rattle.class_views.specs.Resolution.{interface_method_in, superinterface_methods}
use Rattle.class_views.specs.Resolution.{is_most_specific, specific, sole}
use Rattle.class_views.proofs.Ways.{In, any_in, in_any}
use Rattle.class_views.proofs.Worlds.{same_text, texts}
use Rattle.client_view.specs.Numbers.{number_of, AreApart, IsGraphOf}
use Rattle.client_view.proofs.Numbered.{number_is}
use Rattle.client_view.proofs.Graphs.{given_in, in_given}
use Rattle.client_view.proofs.Rings.{leads_numbers, numbers_lead}
use Rattle.client_view.proofs.Soles.{NoRepeats, filter_in, in_filter, firsts_once}
use Rattle.client_view.proofs.Soles.{firsts_in, in_firsts, kept, filter_given, given_filter}
use Rattle.client_view.proofs.Soles.{none_given, sole_given, two_given}
use Rattle.client_view.proofs.Walks.{walk_lifted}

-- what a choice takes is taken where its test passes
given_by_interface : (sought : NameAndType) (e : View) (m : MemberView) →
    interface_method_in sought e ≡ Some m → is_interface e ≡ true
given_by_interface sought e m is = by (cases_Bool (is_interface e))
  where
    by : (is_interface e ≡ true) ⊎ (is_interface e ≡ false) → is_interface e ≡ true
    by (inl t) = t
    by (inr f) =
        let none : None ≡ Some m =
        sym (ap (λ b. cond b (find (is_given sought) e.methods) None) f) ∙ is in absurd cc

pub not_false : (b : Bool) → not b ≡ true → b ≡ false
not_false true t = cc
not_false false t = refl

module _ (world : World) (apart : AreApart world) (graph : List (List ℕ))
    (is : IsGraphOf world supertypes graph) (n : ℕ) (c : View)
    (at : slice_get world n ≡ Some c) (free : HasNoRing graph n) where
  -- ---- the classes of the walk

  pub walk_has : (e : View) → In e (walk world c.name) →
      (k : ℕ) × (slice_get world k ≡ Some e) × Reaches graph n k
  walk_has e inside =
      let found = given_in (slice_get world) e (numbers graph n)
      (subst (λ (l : List View). In e l)
      (walk_lifted world apart graph is c.name n (number_is world apart n c at)) inside) in (
        found.0,
        found.2,
        leads_numbers world apart graph is n found.0 c e at found.2
            (in_any (is_named e.name) e (walk world c.name) inside (texts.refl e.name)),
      )

  same_class_of : (j k : ℕ) (d e : View) → slice_get world j ≡ Some d →
      slice_get world k ≡ Some e → d.name ≡ e.name → d ≡ e
  same_class_of j k d e here there same =
      let numbers_same : Some j ≡ Some k =
      sym (number_is world apart j d here) ∙ ap (number_of world) same
      ∙ number_is world apart k e there in
      let j_is : j ≡ k = cc in
      let classes_same : Some d ≡ Some e =
      sym here ∙ ap (slice_get world) j_is ∙ there in
      cc

  pub in_walk : (k : ℕ) (e : View) → slice_get world k ≡ Some e → Reaches graph n k →
      In e (walk world c.name)
  in_walk k e there way =
      let found = any_in (is_named e.name) (walk world c.name)
      (numbers_lead world apart graph is n k c e at there way) in
      let has = walk_has found.0 found.1 in
      subst (λ (v : View). In v (walk world c.name))
      (same_class_of has.0 k found.0 e has.1 there (same_text found.0.name e.name found.2))
      found.1

  means : (x y : View) → In x (walk world c.name) → In y (walk world c.name) →
      same_class x y ≡ true → x ≡ y
  means x y at_x at_y t =
      let a = walk_has x at_x in
      let b = walk_has y at_y in
      same_class_of a.0 b.0 x y a.1 b.1 (same_text x.name y.name t)

  pub once : NoRepeats (each_once (walk world c.name))
  once = firsts_once same_class (λ x. texts.refl x.name) (walk world c.name)

  pub in_once : (k : ℕ) (e : View) → slice_get world k ≡ Some e → Reaches graph n k →
      In e (each_once (walk world c.name))
  in_once k e there way =
      in_firsts same_class (λ x. texts.refl x.name) e (walk world c.name) means
      (in_walk k e there way)

  pub once_has : (e : View) → In e (each_once (walk world c.name)) →
      (k : ℕ) × (slice_get world k ≡ Some e) × Reaches graph n k
  once_has e inside =
      walk_has e
      (firsts_in same_class (λ x. texts.refl x.name) e (walk world c.name) inside)

  -- ---- strictly above

  above_itself : (k : ℕ) → Reaches graph n k → (n ≡ k → ⊥) → IsBelow graph n k
  above_itself k (zero, way) differ = absurd (differ way)
  above_itself k (suc steps, way) differ = (way.0, way.1, (steps, way.2))

  pub reaches_other : (j k : ℕ) (d e : View) → slice_get world j ≡ Some d →
      slice_get world k ≡ Some e → is_text d.name e.name ≡ false → Reaches graph j k →
      IsBelow graph j k
  reaches_other j k d e here there f (zero, way) =
      let d_is : Some d ≡ Some e = sym here ∙ ap (slice_get world) way ∙ there in
      let same : d ≡ e = cc in
      absurd (false≢true (sym f ∙ ap (λ (v : View). is_text v.name e.name) same
      ∙ texts.refl e.name))
  reaches_other j k d e here there f (suc steps, way) = (way.0, way.1, (steps, way.2))

  below_reaches : (j k : ℕ) → IsBelow graph j k → Reaches graph j k
  below_reaches j k below = (suc below.2.0, (below.0, below.1, below.2.1))

  module _ (sought : NameAndType) where
    abbrev choice : View → Option MemberView
    choice e = interface_method_in sought e

    abbrev methods : List Declared
    methods = superinterface_methods world c.name sought

    abbrev is_super : View → Bool
    is_super e = is_interface e && not (is_named c.name e)

    -- an interface above that gives a method
    pub record IsCandidate (k : ℕ) : Type 0 where
      pub class : View
      pub method : MemberView
      pub there : slice_get world k ≡ Some class
      pub below : IsBelow graph n k
      pub chosen : choice class ≡ Some method

    pub super_passes : (k : ℕ) (e : View) (m : MemberView) → slice_get world k ≡ Some e →
        IsBelow graph n k → choice e ≡ Some m → is_super e ≡ true
    super_passes k e m there below chosen =
        and_from (is_interface e) (not (is_named c.name e)) (given_by_interface sought e m chosen)
        (by (cases_Bool (is_named c.name e)))
      where
        by : (is_named c.name e ≡ true) ⊎ (is_named c.name e ≡ false) →
            not (is_named c.name e) ≡ true
        by (inl t) =
            let e_is = number_is world apart k e there in
            let c_is = number_is world apart n c at in
            let same : Some k ≡ Some n =
            sym e_is ∙ ap (number_of world) (same_text e.name c.name t) ∙ c_is in
            let k_is : k ≡ n = cc in
            absurd (free n (0, refl) (subst (λ x. IsBelow graph n x) k_is below))
        by (inr f) = ap not f

    listed : (k : ℕ) (e : View) (m : MemberView) → slice_get world k ≡ Some e →
        IsBelow graph n k → choice e ≡ Some m →
        In (record { declarer = e; member = m }) methods
    listed k e m there below chosen =
        in_given (declared_by choice) e (record { declarer = e; member = m })
        (supers_of world c.name)
        (in_filter is_super e (each_once (walk world c.name))
        (in_once k e there (below_reaches n k below)) (super_passes k e m there below chosen))
        (ap (option_map (λ x. record { declarer = e; member = x })) chosen)

    pub record IsListed (d : Declared) : Type 0 where
      pub number : ℕ
      pub there : slice_get world number ≡ Some d.declarer
      pub below : IsBelow graph n number
      pub chosen : choice d.declarer ≡ Some d.member

    declares_itself : (e : View) (d : Declared) → declared_by choice e ≡ Some d →
        (e ≡ d.declarer) × (choice e ≡ Some d.member)
    declares_itself e d is = by (choice e) refl is
      where
        by : (o : Option MemberView) → choice e ≡ o →
            option_map (λ m. record { declarer = e; member = m }) o ≡ Some d →
            (e ≡ d.declarer) × (choice e ≡ Some d.member)
        by None f g = absurd cc
        by (Some m) f g =
            let d_is : record { declarer = e; member = m } ≡ d = cc in (
              ap (λ (x : Declared). x.declarer) d_is,
              f ∙ ap (λ (x : Declared). Some x.member) d_is,
            )

    has_listed : (d : Declared) → In d methods → IsListed d
    has_listed d inside =
        let found = given_in (declared_by choice) d (supers_of world c.name) inside in
        let passed = filter_in is_super found.0 (each_once (walk world c.name)) found.1 in
        let has = once_has found.0 passed.0 in
        let own = declares_itself found.0 d found.2 in
        let other =
        (and_parts (is_interface found.0) (not (is_named c.name found.0)) passed.1).1 in
        let differ : n ≡ has.0 → ⊥ = λ same.
        (let same_class : Some c ≡ Some found.0 =
        sym at ∙ ap (slice_get world) same ∙ has.1 in
        let c_is : c ≡ found.0 = cc in
        let named : is_named c.name found.0 ≡ true =
        ap (λ (v : View). is_text v.name c.name) (sym c_is) ∙ texts.refl c.name in
        false≢true (sym (ap not named) ∙ other)) in
        record {
          number = has.0;
          there = has.1 ∙ ap Some own.0;
          below = above_itself has.0 has.2 differ;
          chosen = ap choice (sym own.0) ∙ own.1;
        }

    -- ---- which are maximally specific

    -- some candidate is below
    abbrev pub IsUnder : ℕ → Type 0
    IsUnder k = (j : ℕ) × IsCandidate j × IsBelow graph j k

    under : (k : ℕ) (d : Declared) → slice_get world k ≡ Some d.declarer →
        Reaches graph n k → IsUnder k → is_most_specific world methods d ≡ false
    under k d there way (j, one, below) =
        let separate : is_text one.class.name d.declarer.name ≡ false =
        by (cases_Bool (is_text one.class.name d.declarer.name)) in
        let leads = numbers_lead world apart graph is j k one.class d.declarer one.there there
        (below_reaches j k below) in
        ap not (in_any (λ other. is_below world other.declarer.name d.declarer.name)
        (record { declarer = one.class; member = one.method }) methods
        (listed j one.class one.method one.there one.below one.chosen)
        (and_from (not (is_text one.class.name d.declarer.name))
        (leads_to world one.class.name d.declarer.name) (ap not separate) leads))
      where
        by : (is_text one.class.name d.declarer.name ≡ true)
            ⊎ (is_text one.class.name d.declarer.name ≡ false) →
            is_text one.class.name d.declarer.name ≡ false
        by (inr f) = f
        by (inl t) =
            let same : Some j ≡ Some k =
            sym (number_is world apart j one.class one.there)
            ∙ ap (number_of world) (same_text one.class.name d.declarer.name t)
            ∙ number_is world apart k d.declarer there in
            let j_is : j ≡ k = cc in
            absurd (free k way (subst (λ x. IsBelow graph x k) j_is below))

    not_under : (k : ℕ) (d : Declared) → slice_get world k ≡ Some d.declarer →
        (IsUnder k → ⊥) → is_most_specific world methods d ≡ true
    not_under k d there none = by (cases_Bool (list_any
        (λ other. is_below world other.declarer.name d.declarer.name) methods))
      where
        by : (list_any (λ other. is_below world other.declarer.name d.declarer.name) methods
            ≡ true) ⊎ (list_any
            (λ other. is_below world other.declarer.name d.declarer.name) methods ≡ false) →
            is_most_specific world methods d ≡ true
        by (inr f) = ap not f
        by (inl t) =
            let found = any_in (λ other. is_below world other.declarer.name d.declarer.name)
            methods t in
            let has = has_listed found.0 found.1 in
            let parts = and_parts (not (is_text found.0.declarer.name d.declarer.name))
            (leads_to world found.0.declarer.name d.declarer.name) found.2 in
            let way = leads_numbers world apart graph is has.number k found.0.declarer d.declarer
            has.there there parts.1 in
            absurd (none (
              has.number,
              record {
                class = found.0.declarer;
                method = found.0.member;
                there = has.there;
                below = has.below;
                chosen = has.chosen;
              },
              reaches_other has.number k found.0.declarer d.declarer has.there there
                  (not_false (is_text found.0.declarer.name d.declarer.name) parts.0) way,
            ))

    -- ---- the sole concrete one

    pub concrete : Declared → Bool
    concrete d = not (is_abstract d.member.flags)

    -- what each class of the walk gives
    pub gives : View → Option Declared
    gives e = kept concrete (kept (is_most_specific world methods)
        (cond (is_super e) (declared_by choice e) None))

    pub left_given : filter (λ m. not (is_abstract m.member.flags)) (specific world c.name sought)
        ≡ filter_map gives (each_once (walk world c.name))
    unfolding specific concrete gives
    left_given =
        ap (filter concrete)
        (ap (filter (is_most_specific world methods))
        (given_filter is_super (declared_by choice) (each_once (walk world c.name)))
        ∙ filter_given (is_most_specific world methods)
        (λ e. cond (is_super e) (declared_by choice e) None) (each_once (walk world c.name)))
        ∙ filter_given concrete
        (λ e. kept (is_most_specific world methods)
        (cond (is_super e) (declared_by choice e) None)) (each_once (walk world c.name))

    -- a candidate above which no other one stands, and not abstract
    pub record Qualifies (k : ℕ) : Type 0 where
      pub candidate : IsCandidate k
      pub lone : IsUnder k → ⊥
      pub whole : is_abstract candidate.method.flags ≡ false

    abbrev pub the_method : (k : ℕ) → Qualifies k → Declared
    the_method k q = record { declarer = q.candidate.class; member = q.candidate.method }

    kept_some : (test : Declared → Bool) (o : Option Declared) (d : Declared) →
        kept test o ≡ Some d → (o ≡ Some d) × (test d ≡ true)
    kept_some test None d e = absurd cc
    kept_some test (Some x) d e = by (test x) refl e
      where
        by : (b : Bool) → test x ≡ b → cond b (Some x) None ≡ Some d →
            (Some x ≡ Some d) × (test d ≡ true)
        by true t f = let is : x ≡ d = cc in (f, sym (ap test is) ∙ t)
        by false t f = absurd cc

    cond_some : (b : Bool) (o : Option Declared) (d : Declared) → cond b o None ≡ Some d →
        (b ≡ true) × (o ≡ Some d)
    cond_some true o d e = (refl, e)
    cond_some false o d e = absurd cc

    gives_itself : (k : ℕ) (q : Qualifies k) → gives q.candidate.class ≡ Some (the_method k q)
    unfolding gives concrete
    gives_itself k q =
        let e = q.candidate.class in
        let m = q.candidate.method in
        let d : Declared = the_method k q in
        ap (λ b. kept concrete (kept (is_most_specific world methods)
        (cond b (declared_by choice e) None)))
        (super_passes k e m q.candidate.there q.candidate.below q.candidate.chosen)
        ∙ ap (λ o. kept concrete (kept (is_most_specific world methods)
        (option_map (λ x. record { declarer = e; member = x }) o))) q.candidate.chosen
        ∙ ap (λ b. kept concrete (cond b (Some d) None)) (not_under k d q.candidate.there q.lone)
        ∙ ap (λ b. cond (not b) (Some d) None) q.whole

    record Given (e : View) : Type 0 where
      number : ℕ
      qualifies : Qualifies number
      class_is : qualifies.candidate.class ≡ e

    gives_who : (e : View) (d : Declared) → In e (each_once (walk world c.name)) →
        gives e ≡ Some d → Given e
    unfolding gives concrete
    gives_who e d inside is =
        let whole = kept_some concrete (kept (is_most_specific world methods)
        (cond (is_super e) (declared_by choice e) None)) d is in
        let most = kept_some (is_most_specific world methods)
        (cond (is_super e) (declared_by choice e) None) d whole.0 in
        let super = cond_some (is_super e) (declared_by choice e) d most.0 in
        let own = declares_itself e d super.1 in
        let listed = has_listed d (in_given (declared_by choice) e d (supers_of world c.name)
        (in_filter is_super e (each_once (walk world c.name)) inside super.0) super.1) in
        record {
          number = listed.number;
          qualifies = record {
            candidate = record {
              class = d.declarer;
              method = d.member;
              there = listed.there;
              below = listed.below;
              chosen = listed.chosen;
            };
            lone = λ one. false≢true
                (sym (under listed.number d listed.there
                (below_reaches n listed.number listed.below) one) ∙ most.1);
            whole = not_false (is_abstract d.member.flags) whole.1;
          };
          class_is = sym own.0;
        }

    in_list : (k : ℕ) (q : Qualifies k) →
        In q.candidate.class (each_once (walk world c.name))
    in_list k q =
        in_once k q.candidate.class q.candidate.there
        (below_reaches n k q.candidate.below)

    abbrev pub left : List Declared
    left = filter (λ m. not (is_abstract m.member.flags)) (specific world c.name sought)

    pub none_left : ((k : ℕ) → Qualifies k → ⊥) → sole left ≡ None
    none_left none =
        ap sole (left_given
        ∙ none_given gives (each_once (walk world c.name))
        (λ e inside. by e inside (gives e) refl))
      where
        by : (e : View) → In e (each_once (walk world c.name)) → (o : Option Declared) →
            gives e ≡ o → gives e ≡ None
        by e inside None is = is
        by e inside (Some d) is =
            let given = gives_who e d inside is in absurd (none given.number given.qualifies)

    pub sole_left : (k : ℕ) (q : Qualifies k) → ((j : ℕ) → Qualifies j → j ≡ k) →
        sole left ≡ Some (the_method k q)
    sole_left k q others =
        ap sole (left_given
        ∙ sole_given gives q.candidate.class (the_method k q) (each_once (walk world c.name)) once
        (in_list k q) (gives_itself k q) (λ e inside. by e inside (gives e) refl))
      where
        by : (e : View) → In e (each_once (walk world c.name)) → (o : Option Declared) →
            gives e ≡ o → (gives e ≡ None) ⊎ (e ≡ q.candidate.class)
        by e inside None is = inl is
        by e inside (Some d) is =
            let given = gives_who e d inside is in
            let number_is = others given.number given.qualifies in
            let same : Some given.qualifies.candidate.class ≡ Some q.candidate.class =
            sym given.qualifies.candidate.there ∙ ap (slice_get world) number_is
            ∙ q.candidate.there in
            let class_is : given.qualifies.candidate.class ≡ q.candidate.class = cc in
            inr (sym given.class_is ∙ class_is)

    pub two_left : (j k : ℕ) (p : Qualifies j) (q : Qualifies k) → (j ≡ k → ⊥) →
        sole left ≡ None
    two_left j k p q differ =
        let two = two_given gives p.candidate.class q.candidate.class (the_method j p)
        (the_method k q) (each_once (walk world c.name)) apart_classes (in_list j p) (in_list k q)
        (gives_itself j p) (gives_itself k q) in
        ap sole (left_given ∙ two.is)
      where
        apart_classes : p.candidate.class ≡ q.candidate.class → ⊥
        apart_classes same =
            let numbers_same : Some j ≡ Some k =
            sym (number_is world apart j p.candidate.class p.candidate.there)
            ∙ ap (λ (v : View). number_of world v.name) same
            ∙ number_is world apart k q.candidate.class q.candidate.there in
            differ cc
