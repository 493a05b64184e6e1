use Rattle.std.proofs.Common.{◌≡◌, List, take}
use Rattle.std.specs.List.{fold}
use Rattle.vax_image.specs.declared.Base.{Base}
use Rattle.vax_module.specs.declared.Module.{Module}
use Rattle.vax_link.specs.Placed.{IsValues}
use Rattle.vax_link.specs.Values.{with_reach}
use Rattle.vax_link.proofs.fields.Values.unreached_of.Given as goal

abbrev pub invariant-loop-reloc : goal.invariant-loop-reloc
invariant-loop-reloc l = (region : Base) (modules : List Module) → IsValues l.self region modules → l.lowest ≡ fold (with_reach region modules l.owner) l.initial.lowest (take l.reloc-index l.relocs)
