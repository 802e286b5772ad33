use Rattle.std.proofs.Common.{◌≡◌, ◌∙◌, ℕ, ap, sym, subst, take, arith}
use Rattle.std.specs.Prelude.{Err}
use Rattle.std.proofs.lemmas.List.{length-take-le, length-map, take_all}
use Rattle.std.proofs.lemmas.Result.{err_from_is_err_and}
use Rattle.java_names.specs.Names.{is_text}
use Rattle.class_views.specs.View.{view_of_desc}
use Rattle.class_views.specs.World.{World}
use Rattle.client_view.specs.Numbers.{views, number_of, noted, AreApart, IsFirstRepeat}
use Rattle.client_view.specs.declared.refused.ViewErr.{ViewErr}
use Rattle.client_view.specs.declared.refused.ViewErr.TheVariants.{Repeated}
use Rattle.client_view.proofs.Numbered.{number_push}
use Rattle.client_view.proofs.Repeats.{push_apart, first_repeat, view_at, take_view}
use Rattle.client_view.proofs.Told.{err_same}
use Rattle.client_view.proofs.numbers.numbers_of.Goals as goal

pub loop-index-preserved : goal.loop-index-preserved
loop-index-preserved c =
    let classes = c.args.classes.now in
    let i : ℕ = c.loop-index.index in
    let d = c.index-classes-index.result in
    let few = c.loop-index-test.true in
    let more = take_view classes i d few c.index-classes-index.is in
    let long = length-take-le i (views classes)
    (let all = length-map classes view_of_desc in omega (arith, all, few)) in
    record {
      numbers = λ name.
          c.in_ok-note.ensures.noted name
          ∙ ap (λ o. noted o (is_text d.name name) i) (c.loop-index.invariant.numbers name)
          ∙ sym (ap (λ (world : World). number_of world name) more
          ∙ number_push (take i (views classes)) (view_of_desc d) name i (sym long));
      apart = subst AreApart (sym more) (push_apart (take i (views classes))
          c.loop-index.invariant.apart (view_of_desc d)
          (sym (c.loop-index.invariant.numbers d.name) ∙ c.in_ok-note.ensures.new));
    }

pub returns-in_err-note-clause-repeated : goal.returns-in_err-note-clause-repeated
returns-in_err-note-clause-repeated c = λ first second e.
    let classes = c.args.classes.now in
    let i : ℕ = c.loop-index.index in
    let d = c.index-classes-index.result in
    let few = c.loop-index-test.true in
    let told = err_from_is_err_and c.from_residual.result
    c.from_residual.ensures.1 in
    let parts = c.in_err-note.ensures.repeated first second
    (ap (λ (v : ViewErr). Err v) (sym told.2
    ∙ err_same told.0 (Repeated first second) c.from_residual.result told.1 e)) in
    subst (λ (s : ℕ). IsFirstRepeat (views classes) first s) (sym parts.1)
    (first_repeat (views classes) i c.loop-index.invariant.apart (view_of_desc d)
    (view_at classes i d few c.index-classes-index.is) first
    (sym (c.loop-index.invariant.numbers d.name) ∙ parts.0))

pub returns-clause-apart : goal.returns-clause-apart
returns-clause-apart c =
    let all : take c.loop-index.index (views c.args.classes.now) ≡ views c.args.classes.now =
    take_all c.loop-index.index (views c.args.classes.now)
    (let long = length-map c.args.classes.now view_of_desc in
    let over = c.loop-index-test.false in omega (arith, long, over)) in
    subst AreApart all c.loop-index.invariant.apart
