use Rattle.std.proofs.Common.{◌++◌, map, sym, ap, ◌∙◌, append_assoc}
use Rattle.std.specs.Prelude.{codes}
use Rattle.std.proofs.lemmas.Result.{on_ok_weaker}
use Rattle.class_desc.specs.declared.attribute.Attr.{out-Attr}
use Rattle.class_views.specs.View.{listed, visible_in, invisible_in}
use Rattle.ask_text.specs.Texts.{signed_texts}
use Rattle.ask_text.proofs.Annotated.{texts_of_both}
use Rattle.ask_text.proofs.parts.append_annotations.Goals as goal

pub returns : goal.returns
returns c =
    let line = c.args.line.now.items in
    let layers = map out-Attr c.args.attributes.now in
    let plus = signed_texts (codes "+") in
    let minus = signed_texts (codes "-") in
    on_ok_weaker c.append_signed-2.result (λ e.
    e
    ∙ ap (λ t. t ++ minus c.invisible.result.now) c.in_ok-append_signed.ensures
    ∙ append_assoc line (plus c.visible.result.now) (minus c.invisible.result.now)
    ∙ ap (λ ds. line ++ (plus ds ++ minus c.invisible.result.now)) c.visible.ensures
    ∙ ap (λ ds. line ++ (plus (listed visible_in layers) ++ minus ds)) c.invisible.ensures
    ∙ ap (λ t. line ++ t)
    (sym (texts_of_both (listed visible_in layers) (listed invisible_in layers))))
    c.append_signed-2.ensures
