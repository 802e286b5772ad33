use Rattle.std.proofs.Common.{◌∙◌, ap, refl, arith, nat_le, nat_eq}
use Rattle.std.proofs.lemmas.Bool.{le-leb}
use Rattle.java_lexer.proofs.KeywordLemmas.{keyword_among}
use Rattle.java_lexer.proofs.keyword.keyword.Goals as goal

pub returns-in-0-to-3 : goal.returns-in-0-to-3
returns-in-0-to-3 c = c.find-in-0-to-3.ensures
    ∙ keyword_among (λ n. nat_le n 3) _ c.args.word.now refl (le-leb _ _ (omega arith))

pub returns-in-4 : goal.returns-in-4
returns-in-4 c = c.find.ensures
    ∙ keyword_among (λ n. nat_eq n 4) _ c.args.word.now refl (ap (λ n. nat_eq n 4) c.in-4.is)

pub returns-in-5 : goal.returns-in-5
returns-in-5 c = c.find-in-5.ensures
    ∙ keyword_among (λ n. nat_eq n 5) _ c.args.word.now refl (ap (λ n. nat_eq n 5) c.in-5.is)

pub returns-in-6 : goal.returns-in-6
returns-in-6 c = c.find-in-6.ensures
    ∙ keyword_among (λ n. nat_eq n 6) _ c.args.word.now refl (ap (λ n. nat_eq n 6) c.in-6.is)

pub returns-in-7 : goal.returns-in-7
returns-in-7 c = c.find-in-7.ensures
    ∙ keyword_among (λ n. nat_eq n 7) _ c.args.word.now refl (ap (λ n. nat_eq n 7) c.in-7.is)

pub returns-in_default : goal.returns-in_default
returns-in_default c = c.find-in_default.ensures
    ∙ keyword_among (λ n. nat_le 8 n) _ c.args.word.now refl (le-leb _ _ (omega arith))
