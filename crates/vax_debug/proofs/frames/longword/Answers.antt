use Rattle.std.proofs.Common.{◌≡◌}
use Rattle.vax_debug.specs.Calls.{bytes_of}
use Rattle.vax_debug.proofs.Calling.{told_longword}
use Rattle.vax_debug.proofs.frames.longword.Goals as goal

pub returns-in-Ok-clause-tells : goal.returns-in-Ok-clause-tells
returns-in-Ok-clause-tells g c = λ sink o s replies here.
    let is : c.deref.result.now ≡ bytes_of c.examine.new.cells = cc in
    told_longword s.machine c.args.addr c.examine.new.cells c.deref.result.now c.longword_in.result (c.in-Ok.ensures.shows sink o s replies here) is c.longword_in.ensures
