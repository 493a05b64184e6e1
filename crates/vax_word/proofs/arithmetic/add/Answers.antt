use Rattle.vax_word.proofs.SumLemmas.{sum_answer}
use Rattle.vax_word.proofs.arithmetic.add.Goals as goal

pub returns-clause-exact : goal.returns-clause-exact
returns-clause-exact c =
    let answered = sum_answer c.args.size c.args.a c.args.b c.args.carry c.low-r.result c.requires.a_fits c.requires.b_fits c.low-r.ensures.within c.low-r.ensures.exact in
    cc
