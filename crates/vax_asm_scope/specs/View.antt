-- What a table of names and definitions mean together.
use Rattle.std.specs.Prelude.{◌≡◌, ℕ, List, map, Option, Some, None, Result, Ok, Err}
use Rattle.std.specs.Global.{Vec}
use Rattle.vax_asm_names.specs.Names.{Names}
use Rattle.vax_asm_names.specs.View.{names_of, marked_names}
use Rattle.vax_asm_values.specs.Definitions.{sources_of, marked_sources}
use Rattle.vax_asm_values.specs.Values.{Source}
use Rattle.vax_asm_values.specs.View.{meaning_of}
use Rattle.vax_asm_values.specs.declared.types.Meaning.{Meaning}
use Rattle.vax_asm_names.specs.declared.types.Duplicate.{Duplicate}
use Rattle.vax_asm_names.specs.declared.types.LabelError.{LabelError}
use Rattle.vax_asm_names.specs.declared.types.LabelError.TheVariants as errors
use Rattle.vax_asm_scope.specs.Scope.{Scope, Bound, IsInRange}
use Rattle.vax_asm_scope.specs.declared.tables.Tables.{Tables}

abbrev pub scope_in : Tables → Scope
scope_in t = record { names = names_of t.names; sources = sources_of t.definitions }

-- what they were at the mark, where both have one
abbrev pub both_marked : Option Names → Option (List Source) → Option Scope
both_marked None sources = None
both_marked (Some names) None = None
both_marked (Some names) (Some sources) = Some (record { names = names; sources = sources })

abbrev pub marked_in : Tables → Option Scope
marked_in t = both_marked (marked_names t.names) (marked_sources t.definitions)

-- The mark, if there still is one, is the same as before.
abbrev pub KeepsMark : (old new : Tables) → Type 0
KeepsMark old new = (m : Scope) → marked_in new ≡ Some m → marked_in old ≡ Some m

-- what there was at the mark is in range
abbrev pub IsMarkInRange : Tables → Type 0
IsMarkInRange t = (m : Scope) → marked_in t ≡ Some m → IsInRange m

abbrev pub bound_in : Vec Meaning → Tables → Bound
bound_in m t = record { names = map meaning_of m.items; scope = scope_in t }

-- what an assignment leaves, or that it is a second one; memory may be refused at any time
abbrev pub Defines : {X : Type 0} → Result X LabelError → Scope → Result Scope Duplicate → Type 0
Defines (Ok x) after r = r ≡ Ok after
Defines (Err errors.Duplicate) after r = r ≡ Err (record {})
Defines (Err errors.NoMemory) after r = Unit {0}

-- what a label or an assignment leaves, or that it is a second one, where all is as before; memory may be refused at any time
abbrev pub Labels : {X : Type 0} → Result X LabelError → Scope → Scope → Result Scope Duplicate → Type 0
Labels (Ok x) before after r = r ≡ Ok after
Labels (Err errors.Duplicate) before after r = (r ≡ Err (record {})) × (after ≡ before)
Labels (Err errors.NoMemory) before after r = Unit {0}

abbrev pub texts_of : Vec (Vec ℕ) → List (List ℕ)
texts_of v = map (λ w. w.items) v.items
