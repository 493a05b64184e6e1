use Rattle.std.proofs.Common.{subst, List, ℕ}
use Rattle.vax_outside.specs.Channels.{Grew, only}
use Rattle.vax_outside.specs.declared.traits.Chan.TheVariants.{State}
use Rattle.vax_save.proofs.Streaming.{written}
use Rattle.vax_save.proofs.stream.make_room.Goals as goal

pub returns-clause-ok : goal.returns-clause-ok
returns-clause-ok g c =
    let grew = subst (λ (z : List ℕ). Grew (g.K.Sink.contents c.args.sink.now) (g.K.Sink.contents c.put_all.new.sink) (only State z)) c.deref.ensures.0 c.in_ok-put_all.ensures.ok in
    written c.args.held.now.items _ _ _ c.clear.ensures grew
