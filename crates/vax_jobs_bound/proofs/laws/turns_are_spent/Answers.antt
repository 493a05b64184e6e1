use Rattle.vax_jobs_bound.proofs.Spending.{few_pinned, turn_spends, turns_cost}
use Rattle.vax_jobs_bound.proofs.laws.turns_are_spent.Goals as goal

pub returns-clause-spends : goal.returns-clause-spends
returns-clause-spends c = λ turn result old new within few low h. turn_spends turn result old new within few low h

pub returns-clause-few : goal.returns-clause-few
returns-clause-few c = λ r. few_pinned r

pub returns-clause-several : goal.returns-clause-several
returns-clause-several c = λ list parts old new h. turns_cost list parts old new h
