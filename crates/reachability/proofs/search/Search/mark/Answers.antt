use Rattle.std.proofs.Common.{◌∙◌, sym, refl}
use Rattle.std.proofs.lemmas.Bool.{not-true, not-false}
use Rattle.reachability.proofs.Searched.{grew_one, grew_none}
use Rattle.reachability.proofs.search.Search.mark.Goals as goal

pub returns-in_ok-push : goal.returns-in_ok-push
returns-in_ok-push c = grew_one c.args.self.now _ c.args.number
    (not-true _ (sym c.is_new.ensures ∙ c.if-is_new.true)) refl c.in_ok-push.ensures.items

pub returns-else-is_new : goal.returns-else-is_new
returns-else-is_new c = grew_none c.args.self.now c.args.number
    (not-false _ (sym c.is_new.ensures ∙ c.if-is_new.false))
