use Rattle.vax_debug.proofs.Locating.{told_place}
use Rattle.vax_debug.proofs.places.locate_at.Goals as goal

pub returns-in-Ok-clause-tells : goal.returns-in-Ok-clause-tells
returns-in-Ok-clause-tells g c = λ sink o s replies here.
    told_place s.machine c.args.address c.examine.new.cells c.place_of.result (c.in-Ok.ensures.shows sink o s replies here) c.place_of.ensures
