use Rattle.vax_word.proofs.SumLemmas.{difference_answer}
use Rattle.vax_word.proofs.arithmetic.sub.Goals as goal

pub returns-clause-exact : goal.returns-clause-exact
returns-clause-exact c =
    let answered = difference_answer c.args.size c.args.a c.args.b c.args.borrow c.low-r.result c.requires.a_fits c.requires.b_fits c.low-r.ensures.within c.low-r.ensures.exact in
    cc
