use Rattle.std.proofs.Common.{◌≡◌, drop}
use Rattle.vax_isa.specs.Entries.{first_named, slots_of}
use Rattle.vax_isa.proofs.table.named.Given as goal

-- the slots so far have no such name
abbrev pub invariant-loop-code : goal.invariant-loop-code
invariant-loop-code l = first_named (slots_of l.slots l.codes) l.name ≡ first_named (slots_of l.slots (drop l.code-index l.codes)) l.name
