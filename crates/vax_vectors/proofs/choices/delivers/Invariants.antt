use Rattle.std.proofs.Common.{◌≡◌, drop}
use Rattle.vax_vectors.specs.Choices.{delivers}
use Rattle.vax_vectors.proofs.choices.delivers.Given as goal

-- whether one of those from here on is there says whether one of all is
abbrev pub invariant-loop-touch : goal.invariant-loop-touch
invariant-loop-touch l = delivers (drop l.touch-index l.touches) l.offset ≡ delivers l.touches l.offset
