use Rattle.std.proofs.Common.{◌≡◌, ◌+◌, drop}
use Rattle.vax_debug_replies.specs.Places.{zeros}
use Rattle.vax_debug_replies.proofs.places.zeros.Given as goal

-- the zeros go on as far as what is left begins with them
abbrev pub invariant-loop-i : goal.invariant-loop-i
invariant-loop-i l = zeros l.digits ≡ l.i + zeros (drop l.i l.digits)
