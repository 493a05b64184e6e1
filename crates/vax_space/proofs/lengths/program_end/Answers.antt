use Rattle.std.proofs.Common.{arith}
use Rattle.vax_space.proofs.Extents.{rest_at, area_end, none_left, program_more, program_none}
use Rattle.vax_space.proofs.lengths.program_end.Goals as goal

pub end_in_program-requires : goal.end_in_program-requires
end_in_program-requires c = omega (arith, area_end _ _ _ c.requires c.loop-area-test.true c.area-item.is)

pub loop-area-preserved : goal.loop-area-preserved
loop-area-preserved c =
    rw (c.max-end.ensures, c.end_in_program.ensures)
    (program_more _ _ _ _ (rw (rest_at _ _ _ c.loop-area-test.true c.area-item.is) at c.loop-area.invariant))

pub returns-clause-end : goal.returns-clause-end
returns-clause-end c = program_none _ _ (rw (none_left _ _ c.loop-area-test.false) at c.loop-area.invariant)
