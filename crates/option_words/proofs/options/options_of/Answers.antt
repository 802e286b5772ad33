use Rattle.std.proofs.Common.{◌≡◌, [], ◌∷◌, ◌++◌, map, true, sym, ap, ◌∙◌}
use Rattle.std.specs.Prelude.{string_bytes}
use Rattle.std.proofs.lemmas.List.{map-append}
use Rattle.option_words.specs.Options.{is_value, options}
use Rattle.option_words.specs.Seen.{given_seen, all_given}
use Rattle.option_words.proofs.Each.{with_front}
use Rattle.option_words.proofs.Words.{option_more}
use Rattle.option_words.proofs.options.options_of.Goals as goal

pub loop-option-preserved : goal.loop-option-preserved
loop-option-preserved c =
    let good : is_value c.in-Some.option.value.now ≡ true =
    sym c.is_value.ensures ∙ c.if-not-is_value.false in
    let all : all_given c.push.new.self.items
    ≡ all_given c.loop-option.given.items ++ given_seen c.in-Some.option ∷ [] =
    ap all_given c.in_ok-push.ensures.items
    ∙ map-append given_seen c.loop-option.given.items (c.in-Some.option ∷ []) in
    option_more (map string_bytes c.args.words.now) (map string_bytes c.loop-option.rest.now)
    (map string_bytes c.in-Some.more.now) (all_given c.loop-option.given.items)
    (given_seen c.in-Some.option) c.loop-option.invariant c.in-Some.ensures.words good
    ∙ ap (λ done. with_front done (options (map string_bytes c.in-Some.more.now))) (sym all)
