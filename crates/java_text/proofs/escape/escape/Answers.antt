use Rattle.std.proofs.Common.{◌∙◌, refl, sym}
use Rattle.std.proofs.lemmas.List.{take_rest}
use Rattle.java_text.proofs.EscapeLemmas.{no_escape, behind_marker}
use Rattle.java_text.proofs.escape.escape.Goals as goal

pub returns-then-marker-eq0-clause-value : goal.returns-then-marker-eq0-clause-value
returns-then-marker-eq0-clause-value c =
    no_escape c.args.after.now (sym c.marker_length-marker.ensures.value ∙ c.if-marker-eq0.true)

pub returns-in-Some-clause-value : goal.returns-in-Some-clause-value
returns-in-Some-clause-value c = (
  sym (behind_marker _ c.args.after.now c.marker_length-marker.ensures.value c.if-marker-eq0.false)
      ∙ sym (simp take_rest at c.in-Some.ensures.value),
  rw (← c.marker_length-marker.ensures.value) refl,
)

pub returns-in-None-clause-value : goal.returns-in-None-clause-value
returns-in-None-clause-value c =
    sym (behind_marker _ c.args.after.now c.marker_length-marker.ensures.value
    c.if-marker-eq0.false) ∙ sym (simp take_rest at c.in-None.ensures.value)
