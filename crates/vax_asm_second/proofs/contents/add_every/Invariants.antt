use Rattle.std.proofs.Common.{◌≡◌, ◌++◌, ◌-◌}
use Rattle.vax_asm_second.specs.Contents.{every}
use Rattle.vax_asm_second.proofs.contents.add_every.Given as goal

abbrev pub invariant-loop : goal.invariant-loop
invariant-loop l = l.relocs.items ++ every (l.count - l.counter) l.step l.reloc ≡ l.fn.relocs.items ++ every l.fn.count l.fn.step l.fn.first
