use Rattle.std.proofs.Common.{◌≡◌, drop}
use Rattle.vax_image.specs.declared.Base.{Base}
use Rattle.vax_link.specs.Placed.{IsValues}
use Rattle.vax_link.specs.Linked.{transfer_from}
use Rattle.vax_link.proofs.joining.transfer_of.Given as goal

abbrev pub invariant-loop-owner : goal.invariant-loop-owner
invariant-loop-owner l = (region : Base) → IsValues l.values region l.modules → transfer_from region l.modules l.owner (drop l.owner l.modules) ≡ transfer_from region l.modules 0 l.modules
