-- The graph of a world, from its rows.
use Rattle.std.proofs.Common.{◌≡◌, refl, ap, sym, ◌∙◌, ℕ, List, [], length, map}
use Rattle.std.proofs.Common.{Option, Some, None}
use Rattle.std.specs.Prelude.{slice_get, option_map}
use Rattle.std.proofs.lemmas.List.{length-map}
use Rattle.std.proofs.lemmas.Option.{slice_get-map, get_or_from_slice_get}
use Rattle.reachability.specs.Reached.{targets}
use Rattle.class_desc.specs.declared.class.ClassDesc.{ClassDesc}
use Rattle.class_views.specs.View.{View, view_of_desc}
use Rattle.client_view.specs.Numbers.{views, row_of, IsGraphOf}

-- the description of a class that is seen
pub record Seen (classes : List ClassDesc) (number : ℕ) (c : View) : Type 0 where
  pub desc : ClassDesc
  pub there : slice_get classes number ≡ Some desc
  pub is : view_of_desc desc ≡ c

pub seen : (classes : List ClassDesc) (number : ℕ) (c : View) →
    slice_get (views classes) number ≡ Some c → Seen classes number c
seen classes number c at = by (slice_get classes number) refl
    (sym (slice_get-map view_of_desc classes number) ∙ at)
  where
    by : (o : Option ClassDesc) → slice_get classes number ≡ o →
        option_map view_of_desc o ≡ Some c → Seen classes number c
    by None e f = absurd cc
    by (Some d) e f =
        let is : view_of_desc d ≡ c = cc in record { desc = d; there = e; is = is }

pub graph_of_rows : (classes : List ClassDesc) (named : View → List (List ℕ))
    (rows : List (List ℕ)) →
    rows ≡ map (λ d. row_of (views classes) named (view_of_desc d)) classes →
    IsGraphOf (views classes) named rows
graph_of_rows classes named rows e = record {
  level =
      ap length e
      ∙ length-map classes (λ d. row_of (views classes) named (view_of_desc d))
      ∙ sym (length-map classes view_of_desc);
  rows = λ number c at.
      let own = seen classes number c at in
      ap (λ (graph : List (List ℕ)). targets graph number) e
      ∙ get_or_from_slice_get
      (map (λ d. row_of (views classes) named (view_of_desc d)) classes) number
      (row_of (views classes) named (view_of_desc own.desc)) []
      (slice_get-map (λ d. row_of (views classes) named (view_of_desc d)) classes number
      ∙ ap (option_map (λ d. row_of (views classes) named (view_of_desc d))) own.there)
      ∙ ap (row_of (views classes) named) own.is;
}
