use Rattle.std.proofs.Common.{◌+◌, ap, arith, refl, sym, ◌∙◌}
use Rattle.vax_jobs.proofs.Advancing.{as_many, fails_behind, leads_far, made_all, made_more, may_again, some_made}
use Rattle.vax_jobs.specs.Pool.{pooling_of}
use Rattle.vax_jobs.specs.Running.{system_of}
use Rattle.vax_jobs.proofs.pool.Pool.several_turns.Goals as goal

pub returns-then-made-most-clause-count : goal.returns-then-made-most-clause-count
returns-then-made-most-clause-count g c = as_many c.args.job c.advance-made.result c.args.steps _ _ c.advance-made.ensures.advanced

pub returns-then-made-most-clause-done : goal.returns-then-made-most-clause-done
returns-then-made-most-clause-done g c = λ first s may at.
    let y = system_of (pooling_of c.args.self.now) c.args.self.now.machines.items (g.F.PageFile.contents c.args.file.now) in
    let z = system_of (pooling_of c.advance-made.new.self) c.advance-made.new.self.machines.items (g.F.PageFile.contents c.args.file.now) in
    let now = g.K.Sink.contents c.args.sink.now in
    let l = leads_far c.args.steps c.args.job c.advance-made.result y z c.args.held.now.items first now s refl refl c.advance-made.ensures.most (ap (λ r. r.items) c.advance-made.ensures.residents) refl c.requires.sound.sound c.advance-made.ensures.advanced may at in
    let is = c.if-made-most.true in
    let some = c.requires.some in
    made_all c.args.steps c.args.job c.advance-made.result c.args.most first s z c.args.held.now.items now l (omega (arith, is, some)) (omega (arith, is))

pub returns-then-not-goes_on-clause-done : goal.returns-then-not-goes_on-clause-done
returns-then-not-goes_on-clause-done g c = λ first s may at.
    let y = system_of (pooling_of c.args.self.now) c.args.self.now.machines.items (g.F.PageFile.contents c.args.file.now) in
    let z = system_of (pooling_of c.advance-made.new.self) c.advance-made.new.self.machines.items (g.F.PageFile.contents c.args.file.now) in
    let now = g.K.Sink.contents c.args.sink.now in
    let l = leads_far c.args.steps c.args.job c.advance-made.result y z c.args.held.now.items first now s refl refl c.advance-made.ensures.most (ap (λ r. r.items) c.advance-made.ensures.residents) refl c.requires.sound.sound c.advance-made.ensures.advanced may at in
    let some = some_made c.args.job c.advance-made.result c.args.steps (pooling_of c.args.self.now) (pooling_of c.advance-made.new.self) _ _ refl refl c.advance-made.ensures.advanced c.requires.going (sym c.goes_on.ensures ∙ c.if-not-goes_on.true) in
    made_all c.args.steps c.args.job c.advance-made.result c.args.most first s z c.args.held.now.items now l some c.advance-made.ensures.few

pub returns-in-Ok-clause-done : goal.returns-in-Ok-clause-done
returns-in-Ok-clause-done g c = λ first s may at.
    let y = system_of (pooling_of c.args.self.now) c.args.self.now.machines.items (g.F.PageFile.contents c.args.file.now) in
    let z = system_of (pooling_of c.advance-made.new.self) c.advance-made.new.self.machines.items (g.F.PageFile.contents c.args.file.now) in
    let w = system_of (pooling_of c.one_turn.new.self) c.one_turn.new.self.machines.items (g.F.PageFile.contents c.one_turn.new.file) in
    let now = g.K.Sink.contents c.args.sink.now in
    let l = leads_far c.args.steps c.args.job c.advance-made.result y z c.args.held.now.items first now s refl refl c.advance-made.ensures.most (ap (λ r. r.items) c.advance-made.ensures.residents) refl c.requires.sound.sound c.advance-made.ensures.advanced may at in
    let on = sym c.goes_on.ensures ∙ c.if-not-goes_on.false in
    let few = c.advance-made.ensures.few in
    let other = c.if-made-most.false in
    let t = may_again c.args.steps c.args.job c.advance-made.result first s z c.args.held.now.items now l on may in
    made_more c.args.steps c.args.job c.advance-made.result first s z c.args.held.now.items now l on c.args.most w c.one_turn.new.held.items (g.K.Sink.contents c.one_turn.new.sink) c.one_turn.ensures.most (omega (arith, few, other))
    (c.advance-made.result + 1) refl (c.in-Ok.ensures.done first _ c.args.steps t l.at)

pub returns-then-not-goes_on-clause-some : goal.returns-then-not-goes_on-clause-some
returns-then-not-goes_on-clause-some g c =
    (some_made c.args.job c.advance-made.result c.args.steps (pooling_of c.args.self.now) (pooling_of c.advance-made.new.self) _ _ refl refl c.advance-made.ensures.advanced c.requires.going (sym c.goes_on.ensures ∙ c.if-not-goes_on.true), c.advance-made.ensures.few)

pub returns-in-Err-clause-done : goal.returns-in-Err-clause-done
returns-in-Err-clause-done g c = λ first s may at.
    let y = system_of (pooling_of c.args.self.now) c.args.self.now.machines.items (g.F.PageFile.contents c.args.file.now) in
    let z = system_of (pooling_of c.advance-made.new.self) c.advance-made.new.self.machines.items (g.F.PageFile.contents c.args.file.now) in
    let w = system_of (pooling_of c.one_turn.new.self) c.one_turn.new.self.machines.items (g.F.PageFile.contents c.one_turn.new.file) in
    let now = g.K.Sink.contents c.args.sink.now in
    let l = leads_far c.args.steps c.args.job c.advance-made.result y z c.args.held.now.items first now s refl refl c.advance-made.ensures.most (ap (λ r. r.items) c.advance-made.ensures.residents) refl c.requires.sound.sound c.advance-made.ensures.advanced may at in
    let on = sym c.goes_on.ensures ∙ c.if-not-goes_on.false in
    let few = c.advance-made.ensures.few in
    let other = c.if-made-most.false in
    let t = may_again c.args.steps c.args.job c.advance-made.result first s z c.args.held.now.items now l on may in
    fails_behind c.args.steps c.args.job c.advance-made.result first s z c.args.held.now.items now l on c.args.most w c.one_turn.new.held.items (g.K.Sink.contents c.one_turn.new.sink) c.one_turn.ensures.most (omega (arith, few, other))
    c.in-Err.fault (c.in-Err.ensures.done first _ c.args.steps t l.at)
