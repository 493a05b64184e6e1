-- What definitions were at a mark: each change since then is undone, the last one first.
use Rattle.std.specs.Prelude.{◌≡◌, ◌-◌, ℕ, true, List, [], ◌∷◌, ◌++◌, length, take, slice_set, Option, Some, None, if◌then◌else◌}
use Rattle.vax_lex.specs.declared.value.Value.{Value}
use Rattle.vax_asm_values.specs.Values.{Source, ToCome}
use Rattle.vax_asm_values.specs.View.{sources_in, lists_in}
use Rattle.vax_asm_values.specs.Waiting.{Settled, Grown}
use Rattle.vax_asm_values.specs.declared.types.Board.{Board}
use Rattle.vax_asm_values.specs.declared.journal.Change.{Change}
use Rattle.vax_asm_values.specs.declared.journal.Change.TheVariants.{Opened, Defined, Known}
use Rattle.vax_asm_values.specs.declared.journal.Journal.{Journal}

abbrev pub without_last : {X : Type 0} → List X → List X
without_last xs = take (length xs - 1) xs

-- the definitions before a change
abbrev pub source_before : Change → List Source → List Source
source_before Opened sources = without_last sources
source_before (Defined i) sources = slice_set sources i ToCome
source_before (Known i) sources = sources

-- their values before it
abbrev pub value_before : Change → List (Option Value) → List (Option Value)
value_before Opened values = without_last values
value_before (Defined i) values = values
value_before (Known i) values = slice_set values i None

-- those that wait for each, of the definitions before it
abbrev pub wait_before : Change → List (List ℕ) → List (List ℕ)
wait_before Opened waiting = without_last waiting
wait_before (Defined i) waiting = waiting
wait_before (Known i) waiting = waiting

-- the same before all of these changes

abbrev pub sources_before : List Change → List Source → List Source
sources_before [] sources = sources
sources_before (c ∷ cs) sources = source_before c (sources_before cs sources)

abbrev pub values_before : List Change → List (Option Value) → List (Option Value)
values_before [] values = values
values_before (c ∷ cs) values = value_before c (values_before cs values)

abbrev pub waiting_before : List Change → List (List ℕ) → List (List ℕ)
waiting_before [] waiting = waiting
waiting_before (c ∷ cs) waiting = wait_before c (waiting_before cs waiting)

-- what a board was at its mark

abbrev pub marked_sources_in : Board → List Source
marked_sources_in b = sources_before b.journal.changes.items (sources_in b.sources)

abbrev pub marked_values_in : Board → List (Option Value)
marked_values_in b = values_before b.journal.changes.items b.values.items

abbrev pub marked_waiting_in : Board → List (List ℕ)
marked_waiting_in b = waiting_before b.journal.changes.items (lists_in b.waiting)

-- the definitions at the mark, if there is one
abbrev pub marked_in : Board → Option (List Source)
marked_in b = if b.journal.marked then Some (marked_sources_in b) else None

-- what a board was at its mark is settled
abbrev pub Restorable : Board → Type 0
Restorable b = b.journal.marked ≡ true → Settled (marked_sources_in b) (marked_values_in b) (marked_waiting_in b)

-- a journal has one change more, or it has no mark
abbrev pub Noted : Journal → Journal → Change → Type 0
Noted old new change = new.marked ≡ true → (old.marked ≡ true) × (new.changes.items ≡ old.changes.items ++ change ∷ [])

-- What a board was at its mark is what another one was at its own, but that more definitions may wait for each.
pub record SameMark (old new : Board) : Type 0 where
  pub marked : old.journal.marked ≡ true
  pub sources : marked_sources_in new ≡ marked_sources_in old
  pub values : marked_values_in new ≡ marked_values_in old
  pub waiting : Grown (marked_waiting_in old) (marked_waiting_in new)

-- a board keeps its mark, or has none afterwards
abbrev pub KeepsMark : Board → Board → Type 0
KeepsMark old new = new.journal.marked ≡ true → SameMark old new
