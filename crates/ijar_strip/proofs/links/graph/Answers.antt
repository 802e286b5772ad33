use Rattle.std.proofs.Common.{◌≡◌, ap, sym, subst, ◌∙◌, ◌+◌, ◌++◌, ◌<◌, arith, [], length, map}
use Rattle.std.specs.Prelude.{None, option_to_list}
use Rattle.std.proofs.lemmas.List.{get_or_default}
use Rattle.ijar_strip.specs.Links.{AreValues, link_seen, names_of, places_of, row_of}
use Rattle.ijar_strip.proofs.Steps.{row_is, begun_more, values_push}
use Rattle.ijar_strip.proofs.links.graph.Goals as goal

pub loop-index-preserved : goal.loop-index-preserved
loop-index-preserved c =
    let links = c.args.links.now in
    let i = c.loop-index.index in
    let link = c.index-links-index.result in
    let befores = c.in_ok-places.befores.items in
    let long : length befores ≡ length links = c.in_ok-places.ensures.befores.long in
    let inside : i < length befores = omega arith in
    let before = c.index.ensures ∙ (get_or_default befores i c.index.result.now None inside
    ∙ c.in_ok-places.ensures.befores.each i c.loop-index-test.true) in
    let row =
    c.deref.ensures.value ∙ (c.in_ok-push_row.ensures
    ∙ (ap (λ names. option_to_list c.index.result.now ++ places_of names (link_seen link).leads)
    c.in_ok-places.ensures.names
    ∙ row_is links i link c.index.result.now c.loop-index-test.true c.index-links-index.is
    before)) in
    let begun = begun_more links (names_of (map link_seen links)) i link c.loop-index-test.true
    c.index-links-index.is in
    record {
      rows =
          subst (AreValues (row_of (map link_seen links)) [] (i + 1)) (sym c.in_ok-push.ensures.ok)
          (values_push (row_of (map link_seen links)) [] i c.loop-index.rows c.deref.result.now
          c.loop-index.invariant.rows row);
      begun = cc (
        begun,
        c.in_ok-push_begun.ensures,
        c.loop-index.invariant.begun,
        c.in_ok-places.ensures.names,
      );
    }
