use Rattle.std.proofs.Common.{subst, List, ℕ}
use Rattle.vax_outside.specs.Channels.{Grew, only}
use Rattle.vax_outside.specs.declared.traits.Chan.TheVariants.{Out}
use Rattle.vax_listing.proofs.Writing.{written}
use Rattle.vax_listing.proofs.make_room.Goals as goal

pub returns-clause-ok : goal.returns-clause-ok
returns-clause-ok g c whole rest first b =
    let grew = subst (λ (z : List ℕ). Grew (g.K.Sink.contents c.args.sink.now) (g.K.Sink.contents c.put_all.new.sink) (only Out z)) c.deref.ensures.0 c.in_ok-put_all.ensures.ok in
    written whole c.args.lines.now.items rest _ first _ _ c.clear.ensures b grew
