use Rattle.std.proofs.Common.{◌≡◌, drop}
use Rattle.std.specs.Prelude.{None}
use Rattle.vax_image.specs.declared.Base.{Base}
use Rattle.vax_link.specs.Placed.{IsValues}
use Rattle.vax_link.specs.Values.{unreached_from}
use Rattle.vax_link.proofs.fields.Values.unreached.Given as goal

abbrev pub invariant-loop-owner : goal.invariant-loop-owner
invariant-loop-owner l = (region : Base) → IsValues l.self region l.modules → unreached_from region l.modules l.owner l.found (drop l.owner l.modules) ≡ unreached_from region l.modules 0 None l.modules
