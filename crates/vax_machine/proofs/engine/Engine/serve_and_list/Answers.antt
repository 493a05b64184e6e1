use Rattle.std.proofs.Common.{arith}
use Rattle.vax_machine.proofs.Following.{serve_follows}
use Rattle.vax_machine.proofs.Outputs.{writes_nothing}
use Rattle.vax_machine.proofs.Passing.{never_else, served_by, steps_stay, turns_stay}
use Rattle.vax_machine.specs.Machine.{keeping}
use Rattle.vax_machine.proofs.engine.Engine.serve_and_list.Goals as goal

pub returns-in-Failed-clause-writes : goal.returns-in-Failed-clause-writes
returns-in-Failed-clause-writes g c = writes_nothing _ _

pub list-requires-clause-turns : goal.list-requires-clause-turns
list-requires-clause-turns g c =
    let t = turns_stay (keeping c.args.self.now) (keeping c.serve.new.self) c.args.self.now.wanted c.serve.result c.serve.ensures.applies.0 in
    let r = c.requires.turns in
    omega (arith, t, r)

pub returns-in-Served-clause-served : goal.returns-in-Served-clause-served
returns-in-Served-clause-served g c =
    let t = turns_stay (keeping c.args.self.now) (keeping c.serve.new.self) c.args.self.now.wanted c.serve.result c.serve.ensures.applies.0 in
    served_by c.list.result c.args.self.now c.serve.new.self _ _ _ _ _ _ c.in-Served.victim c.serve.new.self.turns t c.in-Served.ensures.applies c.in-Served.ensures.moves c.list.ensures.passes

pub returns-in_default-clause-served : goal.returns-in_default-clause-served
returns-in_default-clause-served g c = absurd (never_else c.args.self.now.wanted (keeping c.args.self.now) (keeping c.serve.new.self) c.serve.result c.requires.wanted c.serve.ensures.applies.0 c.in_default.not-Failed c.in_default.not-Served)

pub returns-in_default-clause-writes : goal.returns-in_default-clause-writes
returns-in_default-clause-writes g c = writes_nothing _ _

pub returns-in-Failed-clause-follows : goal.returns-in-Failed-clause-follows
returns-in-Failed-clause-follows g c = serve_follows c.args.self.now c.serve.new.self _ _ c.serve.result c.serve.ensures.applies

pub returns-in-Served-clause-follows : goal.returns-in-Served-clause-follows
returns-in-Served-clause-follows g c = serve_follows c.args.self.now c.serve.new.self _ _ c.serve.result c.serve.ensures.applies

pub returns-in_default-clause-follows : goal.returns-in_default-clause-follows
returns-in_default-clause-follows g c = serve_follows c.args.self.now c.serve.new.self _ _ c.serve.result c.serve.ensures.applies

pub returns-in-Served-clause-delivers : goal.returns-in-Served-clause-delivers
returns-in-Served-clause-delivers g c = λ since low.
    let e = steps_stay (keeping c.args.self.now) (keeping c.serve.new.self) c.args.self.now.wanted c.serve.result c.serve.ensures.applies.0 in
    c.list.ensures.delivers since (omega (arith, e, low))

pub returns-in_default-clause-delivers : goal.returns-in_default-clause-delivers
returns-in_default-clause-delivers g c = absurd (never_else c.args.self.now.wanted (keeping c.args.self.now) (keeping c.serve.new.self) c.serve.result c.requires.wanted c.serve.ensures.applies.0 c.in_default.not-Failed c.in_default.not-Served)
