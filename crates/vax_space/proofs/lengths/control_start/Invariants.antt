use Rattle.std.proofs.Common.{◌≡◌, ◌≤◌, drop, min}
use Rattle.vax_space.specs.Reference.{control_start}
use Rattle.vax_space.proofs.lengths.control_start.Given as goal

abbrev pub invariant-loop-area : goal.invariant-loop-area
invariant-loop-area l =
    (min l.start (control_start (drop l.area-index l.areas)) ≡ control_start l.areas) × (l.start ≤ 0x400000)
