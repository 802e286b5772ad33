use Rattle.std.proofs.Common.{◌≡◌, [], ◌++◌, length, map, sym, ap, ◌∙◌}
use Rattle.std.specs.List.{flat_map, zip}
use Rattle.std.proofs.lemmas.Result.{err_from_is_err_and}
use Rattle.class_views.specs.Kept.{strip_each}
use Rattle.run_ends.specs.OutFiles.{file_seen}
use Rattle.used_files.proofs.Options.{stops_weaker}
use Rattle.file_contents.specs.Phases.{twice}
use Rattle.commands.specs.Sources.{sourced_limits, sourced_file}
use Rattle.commands.proofs.Phased.{told_twice, told_limits}
use Rattle.commands.proofs.Stripped.{as_many_left, limits_are, files_are}
use Rattle.commands.proofs.ijar.strip_items.Goals as goal

pub write_classes-requires : goal.write_classes-requires
write_classes-requires c =
    let items = c.args.items.items in
    let from = c.in_ok-parts.parts.sources.items in
    let stripped = c.in_ok-stripped.stripped.items in
    let are = c.in_ok-parts.ensures.sources in
    let left = c.in_ok-stripped.ensures.each ∙ ap strip_each c.in_ok-parts.ensures.classes in
    ap length c.deref-2.ensures.value ∙ as_many_left items from stripped are left
    ∙ sym (ap length c.deref-3.ensures.value)

pub returns-in_err-stop_at-clause-stops : goal.returns-in_err-stop_at-clause-stops
returns-in_err-stop_at-clause-stops c =
    let items = c.args.items.items in
    let p = err_from_is_err_and c.from_residual-in_err-stop_at.result
    c.from_residual-in_err-stop_at.ensures.1 in
    rw (p.1, p.2)
    (stops_weaker c.in_err-stop_at.field-0.0 _ _ _ _ (λ path none. none)
    (λ list told. (
      told.0,
      told_twice items list told.0
          (told.1 ∙ c.in_ok-repeated.ensures ∙ ap twice c.deref.ensures.value),
    ))
    c.in_err-stop_at.ensures.some)

pub returns-in_err-stop_at-2-clause-stops : goal.returns-in_err-stop_at-2-clause-stops
returns-in_err-stop_at-2-clause-stops c =
    let items = c.args.items.items in
    let from = c.in_ok-parts.parts.sources.items in
    let stripped = c.in_ok-stripped.stripped.items in
    let are = c.in_ok-parts.ensures.sources in
    let left = c.in_ok-stripped.ensures.each ∙ ap strip_each c.in_ok-parts.ensures.classes in
    let zips : zip c.deref-2.result.now c.deref-3.result.now ≡ zip from stripped =
    ap (λ list. zip list c.deref-3.result.now) c.deref-2.ensures.value
    ∙ ap (zip from) c.deref-3.ensures.value in
    let none : twice items ≡ [] =
    sym (c.in_ok-repeated.ensures ∙ ap twice c.deref.ensures.value)
    ∙ c.in_ok-stop_at.ensures.none in
    let limits =
    limits_are items from stripped are left c.in_ok-written.written.limits.items
    (c.in_ok-written.ensures.limits ∙ ap (flat_map sourced_limits) zips) in
    let p = err_from_is_err_and c.from_residual-in_err-stop_at-2.result
    c.from_residual-in_err-stop_at-2.ensures.1 in
    rw (p.1, p.2)
    (stops_weaker c.in_err-stop_at-2.field-0.0 _ _ _ _ (λ path none. none)
    (λ list told. (told.0, told_limits items none ∙ sym limits ∙ sym told.1))
    c.in_err-stop_at-2.ensures.some)

pub returns-clause-files : goal.returns-clause-files
returns-clause-files c =
    let items = c.args.items.items in
    let from = c.in_ok-parts.parts.sources.items in
    let stripped = c.in_ok-stripped.stripped.items in
    let are = c.in_ok-parts.ensures.sources in
    let left = c.in_ok-stripped.ensures.each ∙ ap strip_each c.in_ok-parts.ensures.classes in
    let zips : zip c.deref-2.result.now c.deref-3.result.now ≡ zip from stripped =
    ap (λ list. zip list c.deref-3.result.now) c.deref-2.ensures.value
    ∙ ap (zip from) c.deref-3.ensures.value in
    let copied = map file_seen c.in_ok-parts.parts.modules.items in
    files_are items from stripped are left c.args.output.now copied _
    c.in_ok-parts.ensures.modules
    (c.in_ok-written.ensures.files c.in_ok-stop_at-2.ensures.none
    ∙ ap (λ pairs. copied ++ flat_map (sourced_file c.args.output.now) pairs) zips)

pub returns-clause-fine : goal.returns-clause-fine
returns-clause-fine c =
    let items = c.args.items.items in
    let from = c.in_ok-parts.parts.sources.items in
    let stripped = c.in_ok-stripped.stripped.items in
    let are = c.in_ok-parts.ensures.sources in
    let left = c.in_ok-stripped.ensures.each ∙ ap strip_each c.in_ok-parts.ensures.classes in
    let zips : zip c.deref-2.result.now c.deref-3.result.now ≡ zip from stripped =
    ap (λ list. zip list c.deref-3.result.now) c.deref-2.ensures.value
    ∙ ap (zip from) c.deref-3.ensures.value in
    let none : twice items ≡ [] =
    sym (c.in_ok-repeated.ensures ∙ ap twice c.deref.ensures.value)
    ∙ c.in_ok-stop_at.ensures.none in
    let limits =
    limits_are items from stripped are left c.in_ok-written.written.limits.items
    (c.in_ok-written.ensures.limits ∙ ap (flat_map sourced_limits) zips) in
    told_limits items none ∙ sym limits ∙ c.in_ok-stop_at-2.ensures.none
