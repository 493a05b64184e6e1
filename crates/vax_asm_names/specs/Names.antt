-- Names and what uses of them mean (VAX MACRO and Instruction Set Reference Manual, "Symbols", "Direct assignment
-- statement" and "Local labels").
use Rattle.std.specs.Prelude.{ℕ, Bool, true, false, List, [], ◌∷◌, ◌++◌, length, nat_lt, slice_index_or, slice_set, if◌then◌else◌, Option, Some, None, Result, Ok, Err}
use Rattle.vax_asm_names.specs.ByName.{with_entry}
use Rattle.vax_asm_names.specs.declared.types.DefinedBy.{DefinedBy}
use Rattle.vax_asm_names.specs.declared.types.DefinedBy.TheVariants.{Nothing, Label, Assignment}
use Rattle.vax_asm_names.specs.declared.types.Duplicate.{Duplicate}
use Rattle.vax_asm_names.specs.declared.types.Linkage.{Linkage}
use Rattle.vax_asm_names.specs.declared.types.Linkage.TheVariants as linkage
use Rattle.vax_asm_names.specs.declared.types.Local.{Local}

-- A name that appeared: the definition that a use means, by its number, which is the last one so far, else the first to
-- come; what has defined it so far; whether other modules may use it; whether another one may define it; and
-- whether its value is 0 where none does.
pub record Name : Type 0 where
  pub text : List ℕ
  pub definition : ℕ
  pub defined_by : DefinedBy
  pub global : Bool
  pub external : Bool
  pub weak : Bool

-- the local labels of a block that has none yet
abbrev pub no_locals : List ℕ → Option Local
no_locals text = None

-- The number of each name; the names in the order in which they first appeared; the blocks of local labels so far, each with its local
-- labels; which of them is the current one; and whether another module may define a name that appears from here on. No statement is in
-- the first of the blocks: it has the masks of entries, by the names of these.
pub record Names : Type 0 where
  pub numbers : List ℕ → Option ℕ
  pub all : List Name
  pub blocks : List (List ℕ → Option Local)
  pub block : ℕ
  pub assumes_external : Bool

abbrev pub no_names : Names
no_names = record { numbers = λ text. None; all = []; blocks = no_locals ∷ no_locals ∷ []; block = 1; assumes_external = true }

-- the local labels of the current block
abbrev pub locals_of : Names → List ℕ → Option Local
locals_of n = slice_index_or n.blocks n.block no_locals

-- A name appears for the first time. Its first definition, which is to come, has this number.
abbrev pub first_seen : Bool → List ℕ → ℕ → Name
first_seen external text definition = record { text = text; definition = definition; defined_by = Nothing; global = false; external = external; weak = false }

abbrev pub with_name : List ℕ → ℕ → Names → Names
with_name text definition n =
    record n { numbers = with_entry text (Some (length n.all)) n.numbers; all = n.all ++ first_seen n.assumes_external text definition ∷ [] }

-- A label defines a name that nothing has defined.
abbrev pub labelled : Name → Result Name Duplicate
labelled name = elim name.defined_by [
  | Nothing ↦ Ok (record name { defined_by = Label })
  | Label ↦ Err (record {})
  | Assignment ↦ Err (record {})
]

-- An assignment defines a name that is no label: for the first time by the definition that earlier uses mean, and again by
-- a fresh one.
abbrev pub assigned : ℕ → Name → Result Name Duplicate
assigned fresh name = elim name.defined_by [
  | Nothing ↦ Ok (record name { defined_by = Assignment })
  | Label ↦ Err (record {})
  | Assignment ↦ Ok (record name { definition = fresh })
]

-- What the module says of a name to others. That stays, whatever is said besides.
abbrev pub linked : Linkage → Name → Name
linked linkage.External name = record name { external = true }
linked linkage.Global name = record name { external = true; global = true }
linked linkage.Weak name = record name { external = true; global = true; weak = true }

-- whether another module may define a name that appears from here on, where nothing more is said of it
abbrev pub assuming : Bool → Names → Names
assuming assumes n = record n { assumes_external = assumes }

-- one of the names is another
abbrev pub name_at : List Name → ℕ → Name
name_at names i = slice_index_or names i (first_seen true [] 0)

abbrev pub with_change : ℕ → Names → Name → Names
with_change i n name = record n { all = slice_set n.all i name }

abbrev pub changed : ℕ → Names → Result Name Duplicate → Result Names Duplicate
changed i n (Ok name) = Ok (with_change i n name)
changed i n (Err e) = Err e

-- A local label appears in its block for the first time.
abbrev pub with_local : List ℕ → Local → Names → Names
with_local text l n = record n { blocks = slice_set n.blocks n.block (with_entry text (Some l) (locals_of n)) }

-- what a local label is once it is used, and once it is defined
abbrev pub used_locally : ℕ → Option Local → Local
used_locally fresh (Some l) = l
used_locally fresh None = record { definition = fresh; defined = false }

abbrev pub with_use : List ℕ → Local → Option Local → Names → Names
with_use text l (Some before) n = n
with_use text l None n = with_local text l n

abbrev pub labelled_locally : ℕ → Option Local → Result Local Duplicate
labelled_locally fresh None = Ok (record { definition = fresh; defined = true })
labelled_locally fresh (Some l) = if l.defined then Err (record {}) else Ok (record l { defined = true })

-- a block of local labels begins
abbrev pub in_next_block : Names → Names
in_next_block n = record n { blocks = n.blocks ++ no_locals ∷ []; block = length n.blocks }

-- a block that began before goes on
abbrev pub in_block : ℕ → Names → Names
in_block i n = if nat_lt i (length n.blocks) then record n { block = i } else n
