use Rattle.vax_tb.proofs.Places.{there_dropped, away_dropped}
use Rattle.vax_tb.proofs.buffer.Buffer.forget.Goals as goal

pub returns-then-self-place-clause-entries : goal.returns-then-self-place-clause-entries
returns-then-self-place-clause-entries c = there_dropped _ _ _ _ c.args.self.now.sound c.place_of-place.ensures c.if-self-place.true c.none.ensures.said

pub returns-else-self-place-clause-entries : goal.returns-else-self-place-clause-entries
returns-else-self-place-clause-entries c = away_dropped _ _ _ c.place_of-place.ensures c.if-self-place.false
