-- Assignments that make their names come back to themselves (VAX MACRO and Instruction Set Reference Manual, "Direct assignment statement").
use Rattle.std.specs.Prelude.{ℕ, List, map, slice_get, Option, option_map, Some, None}
use Rattle.vax_asm_circles.specs.Circles.{Step, circle}
use Rattle.vax_asm_first.specs.Fixups.{Assignment}
use Rattle.vax_asm_first.specs.declared.types.Origin.{Origin}

-- The definition that an assignment is waits for those in what is assigned.
abbrev pub step_by : Assignment → Step
step_by a = record { from = a.definition; to = map (λ m. m.definition) a.written.names }

abbrev pub steps_by : List Assignment → List Step
steps_by assignments = map step_by assignments

abbrev pub origin_at : List Assignment → Option ℕ → Option Origin
origin_at assignments (Some i) = option_map (λ (a : Assignment). a.origin) (slice_get assignments i)
origin_at assignments None = None

-- The statement of the first assignment that makes its name come back to itself by those up to it.
unfoldable pub first_circle : List Assignment → Option Origin
first_circle assignments = origin_at assignments (circle (steps_by assignments))
