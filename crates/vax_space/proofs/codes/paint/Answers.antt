use Rattle.std.proofs.Common.{arith}
use Rattle.vax_space.proofs.AreaFaults.{placed_high}
use Rattle.vax_space.proofs.Tables.{painted_more, painted_end}
use Rattle.vax_space.proofs.codes.paint.Goals as goal

pub place_of-from-requires : goal.place_of-from-requires
place_of-from-requires c = λ h. omega (arith, placed_high _ c.requires.placed h)

pub overflow_add-place-end : goal.overflow_add-place-end
overflow_add-place-end c = omega (arith, painted_end _ _ c.requires.placed c.place_of-from.ensures)

pub bounds-codes-place : goal.bounds-codes-place
bounds-codes-place c = omega (arith, painted_end _ _ c.requires.placed c.place_of-from.ensures)

pub loop-place-preserved : goal.loop-place-preserved
loop-place-preserved c = painted_more c.args.codes.now _ _ _ _ c.loop-place.auto.place (omega (arith, painted_end _ _ c.requires.placed c.place_of-from.ensures)) c.loop-place.invariant
