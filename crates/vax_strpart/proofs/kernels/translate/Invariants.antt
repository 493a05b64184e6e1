use Rattle.std.proofs.Common.{◌≡◌, ◌++◌, take, drop}
use Rattle.vax_strpart.specs.Kernels.{translated}
use Rattle.vax_strpart.proofs.kernels.translate.Given as goal

abbrev pub invariant-loop-byte : goal.invariant-loop-byte
invariant-loop-byte l = l.s ≡ translated l.table (take l.byte-index l.initial.s) ++ drop l.byte-index l.initial.s
