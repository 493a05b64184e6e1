use Rattle.vax_link.specs.Layout.{sections_in}
use Rattle.vax_link.proofs.RoomLaws.{IsLaid}
use Rattle.vax_link.proofs.layout.first_pages.Given as goal

abbrev pub invariant-loop-name : goal.invariant-loop-name
invariant-loop-name l = IsLaid l.base (sections_in l.pieces) l.names l.name-index l.page l.pages.items
