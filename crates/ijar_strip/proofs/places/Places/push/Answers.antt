use Rattle.std.proofs.Common.{◌≡◌, arith, ◌∷◌, ◌++◌, [], length, map, ap, ◌∙◌, sym}
use Rattle.std.specs.Prelude.{Some, cond}
use Rattle.std.specs.HashMap.{get_by}
use Rattle.std.proofs.lemmas.List.{length-map, map_push}
use Rattle.java_names.specs.Names.{is_text}
use Rattle.ijar_strip.specs.Places.{text_seen, last_place}
use Rattle.ijar_strip.proofs.Steps.{index_push}
use Rattle.ijar_strip.proofs.places.Places.push.Goals as goal

pub invariant_of-self-2 : goal.invariant_of-self-2
invariant_of-self-2 c =
    let names = c.self.inside.names.items in
    let long : length (map text_seen names) ≡ length names = length-map names text_seen in
    let place : c.in-Ok.place ≡ length (map text_seen names) = omega arith in
    let items = c.in_ok-push.ensures.items
    ∙ ap (λ list. list ++ c.args.name ∷ []) c.in_ok-reserve.ensures.items in
    record {
      each = λ name.
          index_push (map text_seen names) c.args.name.now name.now
          (get_by (λ key. is_text name.now key.now) c.insert.new.self)
          (get_by (λ key. is_text name.now key.now) c.self.inside.last)
          (c.in_ok-before.ensures.updates.0 name
          ∙ ap (λ n. cond (is_text c.args.name.now name.now) (Some n)
          (get_by (λ key. is_text name.now key.now) c.self.inside.last)) place)
          (c.self.invariant.each name)
          ∙ sym (ap (λ list. last_place (map text_seen list) name.now) items
          ∙ ap (λ list. last_place list name.now) (map_push text_seen names c.args.name));
    }
