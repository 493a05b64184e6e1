use Rattle.std.proofs.Common.{◌≡◌, ◌+◌, drop}
use Rattle.vax_image.specs.Texts.{place_among}
use Rattle.vax_image.specs.Views.{texts}
use Rattle.vax_image.proofs.texts.number_among.Given as goal

abbrev pub invariant-loop-number : goal.invariant-loop-number
invariant-loop-number l = place_among (texts l.taken) l.bytes l.prot ≡ l.number + place_among (drop l.number (texts l.taken)) l.bytes l.prot
