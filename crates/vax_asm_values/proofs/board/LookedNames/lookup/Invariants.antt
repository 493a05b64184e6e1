use Rattle.std.proofs.Common.{◌≡◌, drop, map}
use Rattle.vax_asm_values.specs.Values.{named}
use Rattle.vax_asm_values.specs.View.{meaning_of}
use Rattle.vax_asm_values.specs.Waiting.{known}
use Rattle.vax_asm_values.proofs.board.LookedNames.lookup.Given as goal

abbrev pub invariant-loop-meaning : goal.invariant-loop-meaning
invariant-loop-meaning l = named (known l.self.values.now) (map meaning_of l.self.names.now) l.name ≡ named (known l.self.values.now) (map meaning_of (drop l.meaning-index l.self.names.now)) l.name
