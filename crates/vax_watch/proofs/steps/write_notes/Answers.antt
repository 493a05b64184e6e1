use Rattle.std.proofs.Common.{ap, subst, List, ℕ}
use Rattle.std.proofs.lemmas.Result.{on_err_weaker}
use Rattle.vax_outside.specs.Channels.{GrewByPrefix, append, nothing, only}
use Rattle.vax_outside.specs.declared.traits.Chan.TheVariants.{Record}
use Rattle.vax_outside.proofs.Growth.{append-nothing, on_err, prefix_in}
use Rattle.vax_machine.specs.Writing.{held_in}
use Rattle.vax_watch.proofs.Holding.{prefix_then}
use Rattle.vax_watch.proofs.steps.write_notes.Goals as goal

pub returns-in_err-write_all-clause-prefix : goal.returns-in_err-write_all-clause-prefix
returns-in_err-write_all-clause-prefix g c =
    on_err c.from_residual.result (prefix_then _ _ (held_in c.args.notes.now.held) (only Record c.args.notes.now.lines.items) c.in_err-write_all.ensures.prefix)

pub returns-clause-prefix : goal.returns-clause-prefix
returns-clause-prefix g c =
    let held = held_in c.args.notes.now.held in
    let lines = c.args.notes.now.lines.items in
    on_err_weaker c.put_all.result (λ grew. prefix_in _ _ _ held (only Record lines) nothing (append held (only Record lines)) (ap (append held) (append-nothing (only Record lines))) c.in_ok-write_all.ensures.ok
    (subst (λ (z : List ℕ). GrewByPrefix (g.K.Sink.contents c.write_all.new.sink) (g.K.Sink.contents c.put_all.new.sink) (only Record z)) c.deref.ensures.0 grew)) c.put_all.ensures.prefix
