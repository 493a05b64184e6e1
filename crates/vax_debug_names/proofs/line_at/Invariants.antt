use Rattle.std.proofs.Common.{◌≡◌, drop}
use Rattle.vax_debug_names.specs.Names.{line_at}
use Rattle.vax_debug_names.proofs.line_at.Given as goal

-- none of the statements so far is there
abbrev pub invariant-loop-line : goal.invariant-loop-line
invariant-loop-line l = line_at l.lines l.address ≡ line_at (drop l.line-index l.lines) l.address
