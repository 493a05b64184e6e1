use Rattle.std.proofs.Common.{◌≡◌, ◌++◌, List, drop, map}
use Rattle.vax_image.specs.declared.Base.{Base}
use Rattle.vax_module.specs.declared.Module.{Module}
use Rattle.vax_link.specs.Placed.{IsValues, bytes_in}
use Rattle.vax_link.specs.Values.{filled_sections_from}
use Rattle.vax_link.proofs.fields.Values.push_filled.Given as goal

abbrev pub invariant-loop-number : goal.invariant-loop-number
invariant-loop-number l = (region : Base) (modules : List Module) → IsValues l.self region modules
    → bytes_in l.filled.items ++ filled_sections_from region modules l.owner l.relocs l.number (map (λ s. s.bytes) (drop l.number l.sections))
    ≡ bytes_in l.fn.filled.items ++ filled_sections_from region modules l.owner l.relocs 0 (map (λ s. s.bytes) l.sections)
