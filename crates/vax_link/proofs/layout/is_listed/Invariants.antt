use Rattle.std.proofs.Common.{◌≡◌, false, take}
use Rattle.vax_link.specs.Layout.{is_listed, names_in}
use Rattle.vax_link.proofs.layout.is_listed.Given as goal

abbrev pub invariant-loop-other : goal.invariant-loop-other
invariant-loop-other l = is_listed (names_in (take l.other-index l.names)) l.name ≡ false
