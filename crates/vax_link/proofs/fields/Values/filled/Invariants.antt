use Rattle.std.proofs.Common.{◌≡◌, ◌++◌, drop}
use Rattle.vax_image.specs.declared.Base.{Base}
use Rattle.vax_link.specs.Placed.{IsValues, bytes_in}
use Rattle.vax_link.specs.Values.{filled_from}
use Rattle.vax_link.proofs.fields.Values.filled.Given as goal

abbrev pub invariant-loop-owner : goal.invariant-loop-owner
invariant-loop-owner l = (region : Base) → IsValues l.self region l.modules → bytes_in l.filled.items ++ filled_from region l.modules l.owner (drop l.owner l.modules) ≡ filled_from region l.modules 0 l.modules
