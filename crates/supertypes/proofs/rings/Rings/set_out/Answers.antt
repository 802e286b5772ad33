use Rattle.std.proofs.Common.{◌∙◌, ap, refl, [], ◌∷◌, ◌++◌}
use Rattle.supertypes.proofs.Stepped.{new_few, set_out_along}
use Rattle.supertypes.proofs.Work.{work_entered}
use Rattle.supertypes.proofs.rings.Rings.set_out.Goals as goal

pub enter-requires : goal.enter-requires
enter-requires c = new_few c.args.self.now.standings.items c.args.target c.requires.new

pub returns-clause-on_way : goal.returns-clause-on_way
returns-clause-on_way c =
    set_out_along c.args.graph.now c.args.self.now _ c.enter.new.self c.args.edge c.requires.along
    c.args.target c.requires.leads c.requires.new
    (c.in_ok-push.ensures.items ∙ ap (λ e. c.args.self.now.path.items ++ e ∷ []) c.requires.past)
    refl refl refl refl c.in_ok-enter.ensures

pub returns-clause-work : goal.returns-clause-work
returns-clause-work c =
    work_entered c.args.self.now _ c.enter.new.self c.args.past c.args.target c.in_ok-enter.ensures
    c.requires.new c.in_ok-push.ensures.items refl refl
