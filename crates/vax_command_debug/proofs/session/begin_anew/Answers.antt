use Rattle.std.proofs.Common.{refl, inl, inr}
use Rattle.vax_outside.proofs.Growth.{grew_nothing}
use Rattle.vax_command_debug.proofs.session.begin_anew.Goals as goal

pub returns-in-None-clause-refused : goal.returns-in-None-clause-refused
returns-in-None-clause-refused g c = inl (inl (record { answer = refl; grew = grew_nothing (g.K.Sink.contents c.args.sink.now); quiet = refl }))

pub returns-in-Ok-clause-ready : goal.returns-in-Ok-clause-ready
returns-in-Ok-clause-ready g c = record { grew = c.in-Ok.ensures.ok; quiet = c.in-Ok.ensures.counts.quiet }

pub returns-in-Err-clause-refused : goal.returns-in-Err-clause-refused
returns-in-Err-clause-refused g c = inr (record { answer = refl; prefix = c.in-Err.ensures.prefix; cause = c.in-Err.ensures.counts.cause })
