-- What is looked up in the list of the instructions.
use Rattle.std.specs.Prelude.{◌≡◌, ℕ, List, ◌∷◌, ◌++◌, ◌-◌, ◌<◌, ◌≤◌, ◌==◌, Bool, ◌||◌, ◌⊎◌, Option, find, option_map, length, replicate, slice_index, slice_index_or, true}
use Rattle.std.specs.Str.{str_eq_ignore_ascii_case}
use Rattle.std.specs.Char.{is_ascii_uppercase, is_ascii_digit}
use Rattle.std.specs.List.{AllPass, list_any}
use Rattle.vax_isa.specs.declared.OperandKind.{OperandKind}
use Rattle.vax_isa.specs.declared.Letter.TheVariants.{Read, Branch}
use Rattle.vax_isa.specs.declared.Row.{Row}
use Rattle.vax_isa.specs.declared.actions.Action.{Action}
use Rattle.vax_isa.specs.Instructions.{Instruction, instructions}

-- a row as its values
pub record Plain : Type 0 where
  pub code : ℕ
  pub name : List ℕ
  pub count : ℕ
  pub operands : List OperandKind

abbrev pub plain : Row → Plain
plain r = record { code = r.code; name = r.name.now; count = r.count; operands = r.operands }

-- what stands in a place that no operand fills
abbrev pub no_operand : OperandKind
no_operand = record { letter = Read; width = 0 }

-- the row of an instruction, which has six places for operands
abbrev pub row_of : Instruction → Plain
row_of i = record { code = i.opcode; name = i.name; count = length i.operands; operands = i.operands ++ replicate (6 - length i.operands) no_operand }

unfoldable pub with_opcode : ℕ → Option Instruction
with_opcode code = find (λ i. i.opcode == code) instructions

-- what the instruction with an opcode does; none where the opcode is reserved
unfoldable pub action_of : ℕ → Option Action
action_of code = option_map (λ i. i.action) (with_opcode code)

abbrev pub names_of : Instruction → List (List ℕ)
names_of i = i.name ∷ i.aliases

-- the text is one of these names, in letters of either case
abbrev pub is_one_of : List (List ℕ) → List ℕ → Bool
is_one_of names text = list_any (λ name. str_eq_ignore_ascii_case name text) names

unfoldable pub with_name : List ℕ → Option Instruction
with_name text = find (λ i. is_one_of (names_of i) text) instructions

-- the widths of an operand, in bytes
abbrev pub IsWidth : ℕ → Type 0
IsWidth width = (width ≡ 1) ⊎ ((width ≡ 2) ⊎ ((width ≡ 4) ⊎ (width ≡ 8)))

-- the widths of a displacement to branch by
abbrev pub IsBranchWidth : ℕ → Type 0
IsBranchWidth width = (width ≡ 1) ⊎ (width ≡ 2)

pub record IsKind (kind : OperandKind) : Type 0 where
  pub width : IsWidth kind.width
  pub branch : kind.letter ≡ Branch → IsBranchWidth kind.width

abbrev pub is_name_character : ℕ → Bool
is_name_character c = is_ascii_uppercase c || is_ascii_digit c

-- a name: one to six capitals and digits, a capital first
pub record IsName (name : List ℕ) : Type 0 where
  pub some : 0 < length name
  pub short : length name ≤ 6
  pub letter : is_ascii_uppercase (slice_index name 0) ≡ true
  pub characters : AllPass is_name_character name

-- what each row keeps: its name, and six places, of which the first `count` have operands
pub record IsFormed (r : Plain) : Type 0 where
  pub name : IsName r.name
  pub count : r.count ≤ 6
  pub places : length r.operands ≡ 6
  pub kinds : (k : ℕ) (d : OperandKind) → k < r.count → IsKind (slice_index_or r.operands k d)
