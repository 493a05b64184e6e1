use Rattle.std.proofs.Common.{◌≡◌, List, length, take}
use Rattle.std.specs.List.{fold}
use Rattle.vax_image.specs.declared.Base.{Base}
use Rattle.vax_module.specs.declared.Module.{Module}
use Rattle.vax_link.specs.Placed.{IsValues}
use Rattle.vax_link.specs.Values.{with_reloc}
use Rattle.vax_link.proofs.fields.Values.filled_section.Given as goal

abbrev pub invariant-loop-reloc : goal.invariant-loop-reloc
invariant-loop-reloc l = record {
  filled : (region : Base) (modules : List Module) → IsValues l.self region modules → l.bytes.items ≡ fold (with_reloc region modules l.owner l.number) l.section (take l.reloc-index l.relocs);
  long : length l.bytes.items ≡ length l.section;
}
