use Rattle.std.proofs.Common.{ap, sym, subst, ◌∙◌, ◌+◌, map}
use Rattle.std.specs.Prelude.{None}
use Rattle.ijar_strip.specs.Places.{last_place}
use Rattle.ijar_strip.specs.Links.{AreValues, link_seen, before_of}
use Rattle.ijar_strip.proofs.Steps.{names_more, before_is, values_push}
use Rattle.ijar_strip.proofs.links.placed.Goals as goal

pub loop-link-preserved : goal.loop-link-preserved
loop-link-preserved c =
    let links = c.args.links.now in
    let i = c.loop-link.link-index in
    let link = c.link-item.result in
    let names = names_more links i link c.loop-link-test.true c.link-item.is in
    let before = c.in_ok-push.ensures.before
    ∙ (ap (λ list. last_place list link.name.now) c.loop-link.invariant.names
    ∙ before_is links i link c.loop-link-test.true c.link-item.is) in
    record {
      names = cc (names, c.in_ok-push.ensures.new, c.loop-link.invariant.names);
      befores =
          subst (AreValues (before_of (map link_seen links)) None (i + 1))
          (sym c.in_ok-push-2.ensures.items)
          (values_push (before_of (map link_seen links)) None i c.loop-link.befores.items
          c.in_ok-push.field-0 c.loop-link.invariant.befores before);
    }
