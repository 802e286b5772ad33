use Rattle.std.proofs.Common.{◌≡◌, ◌∙◌, sym, append-nil, append_assoc, []}
use Rattle.std.proofs.lemmas.Str.{IsUtf8-past_char, chars_past_char, chars-nil}
use Rattle.std.specs.Str.Iter.{chars_rest}
use Rattle.std.proofs.lemmas.List.{nil_from_length}
use Rattle.java_text.proofs.source.raw.Goals as goal

pub loop-character-preserved : goal.loop-character-preserved
loop-character-preserved c =
    let held = c.loop-character.invariant in
    let parts = c.in-Some.ensures.steps.0 in (
      IsUtf8-past_char _ _ c.in-Some.character held.0 parts,
      rw (c.in_ok-push_character.ensures, append_assoc)
          (rw (chars_past_char _ _ c.in-Some.character held.0 parts) at held.1),
    )

pub returns : goal.returns
returns c = let e : chars_rest c.loop-character.character-iterator ≡ [] =
    nil_from_length _ c.in-None.ensures.steps.0.0 in
    sym (append-nil _) ∙ (rw (e, chars-nil) at c.loop-character.invariant.1)
