use Rattle.std.proofs.Common.{ap, ◌∙◌, sym, map}
use Rattle.std.specs.Map.{lookup}
use Rattle.java_names.specs.Names.{is_text}
use Rattle.ijar_strip.specs.Places.{text_seen, last_place}
use Rattle.ijar_strip.proofs.places.Places.new.Goals as goal

pub invariant_of-result : goal.invariant_of-result
unfolding last_place
invariant_of-result c = record {
  each = λ name. ap (lookup (λ key. is_text name.now key.now)) c.new-2.ensures.empty
      ∙ sym (ap (λ items. last_place (map text_seen items) name.now) c.new.ensures.items);
}
