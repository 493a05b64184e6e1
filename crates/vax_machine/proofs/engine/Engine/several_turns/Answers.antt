use Rattle.std.proofs.Common.{◌+◌, ◌∙◌, ℕ, sym, ap, arith}
use Rattle.vax_pager.specs.Meaning.{pages}
use Rattle.vax_sched.specs.Due.{due}
use Rattle.vax_machine.proofs.Delivering.{then_on_ok}
use Rattle.vax_machine.proofs.Between.{wider}
use Rattle.vax_machine.proofs.Outputs.{err_like, then_writes}
use Rattle.vax_machine.proofs.Running.{by_none, on_ok, turns_made, unevicted}
use Rattle.vax_machine.proofs.Tracking.{pins_evicted}
use Rattle.vax_machine.proofs.engine.Engine.several_turns.Goals as goal

pub most_attempts-most-requires-clause-steps : goal.most_attempts-most-requires-clause-steps
most_attempts-most-requires-clause-steps g c = let e = c.in_ok-evict_due.ensures.still.steps in let r = c.requires.steps in omega (arith, e, r)

pub most_attempts-most-requires-clause-turns : goal.most_attempts-most-requires-clause-turns
most_attempts-most-requires-clause-turns g c = let e = c.in_ok-evict_due.ensures.still.turns in let r = c.requires.turns in omega (arith, e, r)

pub returns-in_err-evict_due-clause-done : goal.returns-in_err-evict_due-clause-done
returns-in_err-evict_due-clause-done g c = λ o p f pins.
    unevicted c.args.limits.now o _ c.args.schedule.now c.args.self.now _ _ _ _ _ p f.tracks c.from_residual.result c.evict_due.result (err_like c.from_residual.result c.evict_due.result _ c.from_residual.ensures.1 c.in_err-evict_due.was)
    (by_none c.args.limits.now c.args.self.now _ p c.requires.going c.requires.steps c.requires.turns f.tracks) (c.evict_due.ensures.done o p f)

pub attempt_and_serve-requires-clause-going : goal.attempt_and_serve-requires-clause-going
attempt_and_serve-requires-clause-going g c = c.in_ok-evict_due.ensures.still.ended ∙ c.requires.going

pub attempt_and_serve-requires-clause-steps : goal.attempt_and_serve-requires-clause-steps
attempt_and_serve-requires-clause-steps g c = let a = c.most_attempts-most.ensures.steps in let b = c.requires.few_steps in omega (arith, a, b)

pub attempt_and_serve-requires-clause-turns : goal.attempt_and_serve-requires-clause-turns
attempt_and_serve-requires-clause-turns g c = let a = c.most_attempts-most.ensures.turns in let b = c.requires.few_turns in omega (arith, a, b)

pub returns-clause-done : goal.returns-clause-done
returns-clause-done g c = λ o p f pins.
    let still = c.in_ok-evict_due.ensures.still in
    turns_made c.args.limits.now o (pages c.args.self.now.pager).areas c.args.schedule.now c.args.self.now c.attempt_and_serve.new.self _ _ _ _ p f.tracks c.most_attempts-most.result
    (let a = c.most_attempts-most.ensures.steps in let b = still.steps in omega (arith, a, b))
    (let a = c.most_attempts-most.ensures.turns in let b = still.turns in omega (arith, a, b))
    (by_none c.args.limits.now c.args.self.now _ p c.requires.going c.requires.steps c.requires.turns f.tracks)
    (λ k low. ap (λ (n : ℕ). due c.args.schedule.now (n + 2 + k)) (sym still.turns) ∙ c.most_attempts-most.ensures.quiet k low)
    c.attempt_and_serve.result
    (c.attempt_and_serve.ensures.done o _ (c.in_ok-evict_due.ensures.done o p f) (pins_evicted _ p pins))

pub returns-clause-steps : goal.returns-clause-steps
returns-clause-steps g c =
    let a = c.most_attempts-most.ensures.steps in
    let b = c.attempt_and_serve.ensures.gone.steps in
    on_ok c.attempt_and_serve.result (omega (arith, a, b))

pub returns-clause-turns : goal.returns-clause-turns
returns-clause-turns g c =
    let a = c.most_attempts-most.ensures.turns in
    let b = c.attempt_and_serve.ensures.gone.turns in
    omega (arith, a, b)

pub returns-in_err-evict_due-clause-turns : goal.returns-in_err-evict_due-clause-turns
returns-in_err-evict_due-clause-turns g c = let a = c.evict_due.ensures.still.turns in let b = c.requires.turns in omega (arith, a, b)

pub returns-in_err-evict_due-clause-later : goal.returns-in_err-evict_due-clause-later
returns-in_err-evict_due-clause-later g c = let a = c.evict_due.ensures.still.turns in omega (arith, a)

pub returns-clause-later : goal.returns-clause-later
returns-clause-later g c =
    let a = c.in_ok-evict_due.ensures.still.turns in
    let b = c.attempt_and_serve.ensures.gone.some in
    omega (arith, a, b)

pub returns-clause-some : goal.returns-clause-some
returns-clause-some g c =
    let a = c.in_ok-evict_due.ensures.still.turns in
    let b = c.attempt_and_serve.ensures.gone.some in
    on_ok c.attempt_and_serve.result (omega (arith, a, b))

pub returns-clause-areas : goal.returns-clause-areas
returns-clause-areas g c = on_ok c.attempt_and_serve.result (c.attempt_and_serve.ensures.gone.areas ∙ c.in_ok-evict_due.ensures.still.areas)

pub returns-clause-writes : goal.returns-clause-writes
returns-clause-writes g c = then_writes _ _ _ _ _ _ c.in_ok-evict_due.ensures.writes c.attempt_and_serve.ensures.writes

pub returns-clause-goes_on : goal.returns-clause-goes_on
returns-clause-goes_on g c =
    let a = c.most_attempts-most.ensures.steps in
    on_ok c.attempt_and_serve.result (wider _ c.args.limits.now.steps c.attempt_and_serve.new.self (omega (arith, a)) c.attempt_and_serve.ensures.goes_on)

pub returns-clause-follows : goal.returns-clause-follows
returns-clause-follows g c = λ first start f. c.attempt_and_serve.ensures.follows first start (c.evict_due.ensures.follows first start f)

pub returns-clause-delivers : goal.returns-clause-delivers
returns-clause-delivers g c = then_on_ok c.attempt_and_serve.result _ _ _ _ _ _ _ _ _ c.in_ok-evict_due.ensures.delivers c.attempt_and_serve.ensures.delivers
