use Rattle.std.proofs.Common.{◌≡◌, ◌∙◌, ap, sym, subst, List, ℕ, length, map, arith, []}
use Rattle.std.specs.Prelude.{Err}
use Rattle.std.specs.BTreeMap.{get}
use Rattle.std.specs.Cmp.Lexicographic.{slice_cmp}
use Rattle.std.specs.Ordering.{nat_cmp}
use Rattle.std.proofs.lemmas.List.{length-map}
use Rattle.std.proofs.lemmas.Result.{err_from_is_err_and}
use Rattle.class_desc.specs.ClassFile.{object_name}
use Rattle.class_desc.specs.declared.class.ClassDesc.{ClassDesc}
use Rattle.class_views.specs.View.{view_of_desc}
use Rattle.class_views.specs.World.{supertypes}
use Rattle.member_index.specs.Index.{IsIndexOf}
use Rattle.client_view.specs.Indexed.{HaveFewMembers, superclasses}
use Rattle.client_view.specs.Numbers.{views, number_of, row_of, AreApart, IsFirstRepeat}
use Rattle.client_view.specs.declared.refused.ViewErr.{ViewErr}
use Rattle.client_view.specs.declared.refused.ViewErr.TheVariants.{Repeated}
use Rattle.client_view.proofs.Rowed.{graph_of_rows}
use Rattle.client_view.proofs.Told.{err_same}
use Rattle.client_view.proofs.world.ClientWorld.of.Goals as goal

pub returns-in_err-numbers-clause-repeated : goal.returns-in_err-numbers-clause-repeated
returns-in_err-numbers-clause-repeated c = λ first second e.
    let told = err_from_is_err_and c.from_residual.result c.from_residual.ensures.1 in
    subst (λ (classes : List ClassDesc). IsFirstRepeat (views classes) first second)
    c.deref.ensures.value
    (c.in_err-numbers.ensures.repeated first second
    (ap (λ (v : ViewErr). Err v) (sym told.2
    ∙ err_same told.0 (Repeated first second) c.from_residual.result told.1 e)))

pub least_rings-requires : goal.least_rings-requires
least_rings-requires c =
    let classes : List ClassDesc = c.args.classes.items in
    let numbers : (name : List ℕ) → get (slice_cmp nat_cmp) c.in_ok-numbers.numbers name
    ≡ number_of (views classes) name =
    subst (λ (l : List ClassDesc). (name : List ℕ) → get (slice_cmp nat_cmp) c.in_ok-numbers.numbers name
    ≡ number_of (views l) name) c.deref.ensures.value c.in_ok-numbers.ensures.numbers in
    let rows = ap length (c.in_ok-supertypes.ensures (views classes) numbers) in
    let long = length-map c.deref-2.result.now
    (λ d. row_of (views classes) supertypes (view_of_desc d)) in
    let same = ap length c.deref-2.ensures.value in
    let few = c.requires.few in
    omega (arith, rows, long, same, few)

pub of-requires : goal.of-requires
of-requires c =
    subst HaveFewMembers (sym c.deref-4.ensures.value) c.requires.members

pub invariant_of-result : goal.invariant_of-result
invariant_of-result c =
    let classes : List ClassDesc = c.args.classes.items in
    let numbers : (name : List ℕ) → get (slice_cmp nat_cmp) c.in_ok-numbers.numbers name
    ≡ number_of (views classes) name =
    subst (λ (l : List ClassDesc). (name : List ℕ) → get (slice_cmp nat_cmp) c.in_ok-numbers.numbers name
    ≡ number_of (views l) name) c.deref.ensures.value c.in_ok-numbers.ensures.numbers in
    record {
      few = c.requires.few;
      members = c.requires.members;
      apart = subst (λ (l : List ClassDesc). AreApart (views l)) c.deref.ensures.value
          c.in_ok-numbers.ensures.apart;
      numbers = numbers;
      supertypes_are = graph_of_rows classes supertypes c.in_ok-supertypes.supertypes
          (c.in_ok-supertypes.ensures (views classes) numbers
          ∙ ap (map (λ d. row_of (views classes) supertypes (view_of_desc d)))
          c.deref-2.ensures.value);
      superclasses_are = graph_of_rows classes superclasses c.in_ok-superclasses.superclasses
          (c.in_ok-superclasses.ensures (views classes) numbers
          ∙ ap (map (λ d. row_of (views classes) superclasses (view_of_desc d)))
          c.deref-3.ensures.value);
      rings = record {
        level = c.in_ok-rings.ensures.length;
        each = c.in_ok-rings.ensures.exact;
      };
      members_are = subst (IsIndexOf c.in_ok-members.members) c.deref-4.ensures.value
          c.in_ok-members.ensures;
      room = c.in_ok-search.ensures
          ∙ ap (λ (n : ℕ). record { classes = n; list = [] })
          (let counted = c.len.ensures in let lent = c.deref.ensures.len in
          let same = ap length c.deref.ensures.value in
          let e : c.len.result ≡ length c.args.classes.items =
          omega (arith, counted, lent, same) in e);
      object = c.in_ok-object.ensures ∙ numbers object_name;
      candidates = c.in_ok-candidates.ensures.items;
      candidates_room =
          let counted = c.len-2.ensures in let lent = c.deref.ensures.len in
          let same = ap length c.deref.ensures.value in
          let room = c.in_ok-candidates.ensures.exact in
          omega (arith, counted, lent, same, room);
    }

pub returns-clause-apart : goal.returns-clause-apart
returns-clause-apart c =
    subst (λ (l : List ClassDesc). AreApart (views l)) c.deref.ensures.value
    c.in_ok-numbers.ensures.apart
