use Rattle.std.proofs.Common.{arith}
use Rattle.vax_machine.proofs.Between.{at_ending, at_steps}
use Rattle.vax_machine.proofs.Running.{by_ending, by_none, by_steps, by_turns}
use Rattle.vax_machine.proofs.engine.Engine.stopped.Goals as goal

pub returns-in-Some-clause-stops : goal.returns-in-Some-clause-stops
returns-in-Some-clause-stops c = λ file p t. by_ending c.args.limits.now c.args.self.now file p _ c.in-Some.is t

pub returns-then-self-limits-clause-stops : goal.returns-then-self-limits-clause-stops
returns-then-self-limits-clause-stops c = λ file p t. by_steps c.args.limits.now c.args.self.now file p c.in_default.is (omega arith) t

pub returns-then-self-limits-2-clause-stops : goal.returns-then-self-limits-2-clause-stops
returns-then-self-limits-2-clause-stops c = λ file p t. by_turns c.args.limits.now c.args.self.now file p c.in_default.is (omega arith) (omega arith) t

pub returns-clause-stops : goal.returns-clause-stops
returns-clause-stops c = λ file p t. by_none c.args.limits.now c.args.self.now file p c.in_default.is (omega arith) (omega arith) t

pub returns-in-Some-clause-between : goal.returns-in-Some-clause-between
returns-in-Some-clause-between c = λ h stop. at_ending c.args.limits.now.steps c.args.self.now _ c.in-Some.is h

pub returns-then-self-limits-clause-between : goal.returns-then-self-limits-clause-between
returns-then-self-limits-clause-between c = λ h stop. at_steps c.args.limits.now.steps c.args.self.now (omega arith) h
