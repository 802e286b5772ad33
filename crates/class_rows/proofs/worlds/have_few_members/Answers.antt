use Rattle.std.proofs.Common.{◌≡◌, refl, sym, ◌∙◌, ap, subst, arith, ⊎_elim, length, Some}
use Rattle.std.specs.Prelude.{slice_get}
use Rattle.std.proofs.lemmas.Bool.{cases_lt}
use Rattle.std.proofs.lemmas.Option.{slice_get_read, slice_get_within}
use Rattle.client_view.specs.Indexed.{HasFewMembers}
use Rattle.class_rows.proofs.worlds.have_few_members.Goals as goal

pub loop-class-preserved : goal.loop-class-preserved
loop-class-preserved c = λ number class less at.
    let classes = c.args.classes.now in
    let i = c.loop-class.class-index in
    let d = c.class-item.result in
    ⊎_elim (λ before. c.loop-class.invariant number class before at)
    (λ past.
    let same : number ≡ i = omega (arith, less, past) in
    let there : slice_get classes i ≡ Some d =
    slice_get_read classes (length classes) i d refl c.loop-class-test.true
    c.class-item.is in
    let one : Some d ≡ Some class = sym there ∙ ap (slice_get classes) (sym same) ∙ at in
    let is : d ≡ class = cc in
    subst HasFewMembers is (record {
      fields = omega (arith, c.len.ensures, c.if-len-gt100.false);
      methods = omega (arith, c.len-else-len-gt100.ensures, c.if-len-gt100-2.false);
    })) (cases_lt number i)

pub returns : goal.returns
returns c = λ yes number class at.
    let few = slice_get_within c.args.classes.now number class at in
    c.loop-class.invariant number class (omega (arith, few, c.loop-class-test.false)) at
