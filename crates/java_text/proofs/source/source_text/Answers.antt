use Rattle.std.proofs.Common.{◌∙◌, refl, ap, subst}
use Rattle.std.proofs.lemmas.List.{length-take-le}
use Rattle.std.proofs.lemmas.Str.{utf8_valid_len_le}
use Rattle.java_text.specs.Source.{text_of, translated, without_last_substitute}
use Rattle.std.specs.Str.{IsUtf8}
use Rattle.java_text.proofs.LengthLemmas.{text_length}
use Rattle.java_text.proofs.source.source_text.Goals as goal

pub returns-clause-text : goal.returns-clause-text
unfolding text_of
returns-clause-text c = c.drop_last_substitute.ensures
    ∙ ap without_last_substitute (c.in_ok-units.ensures
    ∙ ap translated (c.as_slice.ensures.value ∙ c.in_ok-raw.ensures
    ∙ rw c.longest_utf8-text.ensures refl))

pub returns-clause-whole : goal.returns-clause-whole
returns-clause-whole c =
    rw (
      c.longest_utf8-text.ensures,
      length-take-le _ c.args.bytes.now (utf8_valid_len_le c.args.bytes.now),
    ) refl

pub returns-clause-room : goal.returns-clause-room
returns-clause-room c =
    rw (returns-clause-text c, returns-clause-whole c)
    (text_length c.args.bytes.now
    (subst IsUtf8 c.longest_utf8-text.ensures c.longest_utf8-text.utf8))
