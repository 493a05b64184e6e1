use Rattle.std.proofs.Common.{◌≡◌, ◌++◌, take}
use Rattle.std.specs.List.{flat_map}
use Rattle.vax_asm_listing.specs.Listing.{label_line}
use Rattle.vax_asm_listing.specs.Placings.{placing_of}
use Rattle.vax_asm_listing.proofs.tables.push_labels.Given as goal

abbrev pub invariant-loop-label : goal.invariant-loop-label
invariant-loop-label l = l.out.items ≡ l.fn.out.items ++ flat_map (label_line (placing_of l.placing)) (take l.label-index l.labels)
