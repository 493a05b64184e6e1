-- The code's table: an entry in the slot of each opcode that isn't reserved.
use Rattle.std.specs.Prelude.{ℕ, zero, suc, List, [], ◌∷◌, Option, None, find, filter_map, map, option_map, slice_index_or}
use Rattle.vax_isa.specs.declared.table.Entry.{Entry}
use Rattle.vax_isa.specs.declared.actions.Action.{Action}
use Rattle.vax_isa.specs.Instructions.{Instruction}
use Rattle.vax_isa.specs.Rows.{Plain, plain, row_of, names_of, with_opcode, is_one_of}

abbrev pub entry_row : Entry → Plain
entry_row e = plain e.row

abbrev pub entry_action : Entry → Action
entry_action e = e.action

-- the name and the aliases
abbrev pub entry_names : Entry → List (List ℕ)
entry_names e = e.row.name.now ∷ map (λ alias. alias.now) e.aliases.now

-- a row with all its names
pub record Listing : Type 0 where
  pub names : List (List ℕ)
  pub row : Plain

abbrev pub entry_listing : Entry → Listing
entry_listing e = record { names = entry_names e; row = entry_row e }

abbrev pub listing_of : Instruction → Listing
listing_of i = record { names = names_of i; row = row_of i }

-- the row of an opcode
abbrev pub row_at : ℕ → Option Plain
row_at code = option_map row_of (with_opcode code)

-- the row of an opcode, with all the names of its instruction
abbrev pub listing_at : ℕ → Option Listing
listing_at code = option_map listing_of (with_opcode code)

-- n numbers, from `start` on
abbrev pub counted : ℕ → ℕ → List ℕ
counted start zero = []
counted start (suc n) = start ∷ counted (suc start) n

-- the slots of these opcodes
abbrev pub slots_of : List (Option Entry) → List ℕ → List (Option Entry)
slots_of slots codes = map (λ code. slice_index_or slots code None) codes

-- what stands in the slots
abbrev pub entries : List (Option Entry) → List Entry
entries slots = filter_map (λ slot. slot) slots

abbrev pub first_named : List (Option Entry) → List ℕ → Option Entry
first_named slots text = find (λ e. is_one_of (entry_names e) text) (entries slots)
