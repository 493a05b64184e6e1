-- What a machine means.
use Rattle.std.specs.Prelude.{ℕ, Option, Some, None, List, []}
use Rattle.vax_word.specs.declared.Core.{Core}
use Rattle.vax_space.specs.declared.Area.{Area}
use Rattle.vax_flat.specs.Parts.{Place, At, Within}
use Rattle.vax_flat.specs.Start.{start_memory}
use Rattle.vax_flat.specs.Step.{Flat}
use Rattle.vax_cpu.specs.declared.cpu.Open.{Open}
use Rattle.vax_undo.specs.declared.term.Term.{Term}
use Rattle.vax_pager.specs.Meaning.{pages}
use Rattle.vax_pager.specs.Paging.{Paging}
use Rattle.vax_machine.specs.declared.engine.Engine.{Engine}
use Rattle.vax_machine.specs.declared.machine.Machine.{Machine}

abbrev pub engine : Machine → Engine
engine m = m.engine

abbrev pub memory_of : Machine → Paging
memory_of m = pages m.engine.pager

abbrev pub units_of : Option Open → ℕ
units_of None = 0
units_of (Some latched) = latched.units

-- the flat machine at the start
abbrev pub starts_at : Core → List Area → List ℕ → Flat
starts_at core memory input = record { core = core; memory = memory; input = input; taken = 0; output = []; ending = None }

-- over a space
abbrev pub flat_start : Core → List Area → List ℕ → Flat
flat_start core space input = starts_at core (start_memory space) input

-- the flat machine with these registers, this memory and this console, of which these bytes were sent before
abbrev pub left_at : Core → List Area → Term → List ℕ → Flat
left_at core memory term output =
    record { core = core; memory = memory; input = term.input.items; taken = term.place; output = output; ending = None }

-- where a processor of this flat machine is that has this string instruction open
abbrev pub resumed_at : Flat → Option Open → Place
resumed_at m None = At m
resumed_at m (Some latched) =
    Within (record { opcode = latched.opcode; start = latched.start; units = latched.units; now = m })
