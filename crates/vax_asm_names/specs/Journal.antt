-- What changed since the mark, and the names before it.
use Rattle.std.specs.Prelude.{◌≡◌, ◌<◌, ◌-◌, max, ℕ, List, [], ◌∷◌, ◌++◌, length, take, slice_get, true, Option, Some, None, if◌then◌else◌}
use Rattle.std.specs.Option.{ForSome}
use Rattle.vax_asm_names.specs.ByName.{with_entry}
use Rattle.vax_asm_names.specs.Names.{Name, Names, name_at, with_change}
use Rattle.vax_asm_names.specs.declared.journal.Journal.{Journal}
use Rattle.vax_asm_names.specs.declared.journal.Said.{Said}
use Rattle.vax_asm_names.specs.declared.journal.Step.{Step}
use Rattle.vax_asm_names.specs.declared.journal.Step.TheVariants.{Added, Changed, Begun}

-- the last name, if there is one, with its number is taken away
abbrev pub without_name : Option Name → Names → Names
without_name None n = n
without_name (Some name) n = record n { numbers = with_entry name.text None n.numbers; all = take (length n.all - 1) n.all }

-- all that is said of a name but its text
abbrev pub said_of : Name → Said
said_of name = record { definition = name.definition; defined_by = name.defined_by; global = name.global; external = name.external; weak = name.weak }

-- a name of which this is said
abbrev pub with_said : Said → Name → Name
with_said was name = record name { definition = was.definition; defined_by = was.defined_by; global = was.global; external = was.external; weak = was.weak }

-- The names before a step. The first two blocks are there from the start on.
abbrev pub undo : Step → Names → Names
undo Added n = without_name (slice_get n.all (length n.all - 1)) n
undo (Changed number was) n = with_change number n (with_said was (name_at n.all number))
undo (Begun block) n = record n { blocks = take (max 2 (length n.blocks - 1)) n.blocks; block = block }

-- the names before these steps, of which the last one is undone first
unfoldable pub undone : List Step → Names → Names
undone [] n = n
undone (step ∷ steps) n = undo step (undone steps n)

-- the names at the mark, if there is one
abbrev pub marked_in : Journal → Names → Option Names
marked_in j n = if j.marked then Some (undone j.steps.items n) else None

-- The step is the last one of those since the mark, where that is kept.
abbrev pub Notes : Step → (old new : Journal) → Type 0
Notes step old new = new.marked ≡ true → (old.marked ≡ true) × (new.steps.items ≡ old.steps.items ++ step ∷ [])

-- each number is that of a name, and there is a current block
abbrev pub IsSound : Names → Type 0
IsSound n = ((text : List ℕ) → ForSome (n.numbers text) (λ i. i < length n.all)) × (n.block < length n.blocks)
