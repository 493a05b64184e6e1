-- The names and the definitions so far, and what statements do to them (VAX MACRO and Instruction Set Reference Manual,
-- "Symbols", "Local labels" and "Direct assignment statement").
use Rattle.std.specs.Prelude.{◌<◌, ◌+◌, ℕ, pos, Bool, true, false, ◌&&◌, ◌==◌, if◌then◌else◌, All, List, [], ◌∷◌, ◌++◌, length, Option, Some, None, Result, Ok, Err, codes, not}
use Rattle.std.specs.Option.{ForSome}
use Rattle.std.specs.Char.{is_ascii_digit}
use Rattle.std.specs.Str.{bytes_eq}
use Rattle.vax_lex.specs.Grammar.{Symbol}
use Rattle.vax_lex.specs.declared.value.Value.{Value}
use Rattle.vax_lex.specs.declared.value.Value.TheVariants.{External}
use Rattle.vax_lex.specs.declared.value.ExprError.{ExprError}
use Rattle.vax_asm_names.specs.Names as table
use Rattle.vax_asm_names.specs.declared.types.DefinedBy.{DefinedBy}
use Rattle.vax_asm_names.specs.declared.types.DefinedBy.TheVariants.{Nothing, Label, Assignment}
use Rattle.vax_asm_names.specs.declared.types.Duplicate.{Duplicate}
use Rattle.vax_asm_names.specs.declared.types.Linkage.{Linkage}
use Rattle.vax_asm_names.specs.declared.types.Local.{Local}
use Rattle.vax_asm_values.specs.Values.{Meaning, Written, Source, ToCome, Given, Worked, worth, value_of, with_source}
use Rattle.vax_asm_scope.specs.Used.{at_term, used}

pub record Scope : Type 0 where
  pub names : table.Names
  pub sources : List Source

abbrev pub nothing : Scope
nothing = record { names = table.no_names; sources = [] }

-- one more definition, which is to come
abbrev pub opened : Scope → Scope
opened s = record s { sources = s.sources ++ ToCome ∷ [] }

-- A name and its number: one that appears for the first time gets a definition that is to come.
pub record Entry : Type 0 where
  pub number : ℕ
  pub scope : Scope

abbrev pub entry_by : List ℕ → Scope → Option ℕ → Entry
entry_by text s (Some i) = record { number = i; scope = s }
entry_by text s None = record { number = length s.names.all; scope = record { names = table.with_name text (length s.sources) s.names; sources = s.sources ++ ToCome ∷ [] } }

abbrev pub entry : List ℕ → Scope → Entry
entry text s = entry_by text s (s.names.numbers text)

abbrev pub definition_at : Entry → ℕ
definition_at e = (table.name_at e.scope.names.all e.number).definition

-- the definition that a name means; 0 where there is no such name
abbrev pub definition_by : Scope → Option ℕ → ℕ
definition_by s (Some i) = (table.name_at s.names.all i).definition
definition_by s None = 0

abbrev pub definition_of : List ℕ → Scope → ℕ
definition_of text s = definition_by s (s.names.numbers text)

-- A local label begins with a digit.
abbrev pub is_local : List ℕ → Bool
is_local [] = false
is_local (c ∷ name) = is_ascii_digit c

-- What a name means: `.` the place where its statement begins, a local label its definition in the block, every other name
-- its last definition so far, else the first to come.
pub record Meant : Type 0 where
  pub definition : ℕ
  pub scope : Scope

abbrev pub mean_here : Value → Scope → Meant
mean_here here s = record { definition = length s.sources; scope = record s { sources = with_source (length s.sources) (Given here) (s.sources ++ ToCome ∷ []) } }

abbrev pub mean_local : List ℕ → Scope → Option Local → Meant
mean_local text s (Some l) = record { definition = l.definition; scope = s }
mean_local text s None = record {
  definition = length s.sources;
  scope = record { names = table.with_local text (table.used_locally (length s.sources) None) s.names; sources = s.sources ++ ToCome ∷ [] };
}

abbrev pub mean_name : Entry → Meant
mean_name e = record { definition = definition_at e; scope = e.scope }

abbrev pub mean : Value → List ℕ → Scope → Meant
mean here text s =
    if bytes_eq text (codes ".") then mean_here here s
    else (if is_local text then mean_local text s (table.locals_of s.names text) else mean_name (entry text s))

-- names and what they mean, one behind another
pub record Bound : Type 0 where
  pub names : List Meaning
  pub scope : Scope

abbrev pub bind_to : List Meaning → List ℕ → Meant → Bound
bind_to names text m = record { names = names ++ record { name = text; definition = m.definition } ∷ []; scope = m.scope }

abbrev pub bind : Value → List ℕ → Bound → Bound
bind here text b = bind_to b.names text (mean here text b.scope)

abbrev pub bind_all : Value → Bound → List (List ℕ) → Bound
bind_all here b [] = b
bind_all here b (text ∷ texts) = bind_all here (bind here text b) texts

-- the names of an expression where it stands
abbrev pub bound : Value → List Symbol → Scope → Bound
bound here symbols s = bind_all here (record { names = []; scope = s }) (used at_term symbols)

-- what the names are after a change, and the definition that a name then means
abbrev pub renamed : Source → ℕ → List Source → Result table.Names Duplicate → Result Scope Duplicate
renamed source i sources (Ok n) = Ok (record { names = n; sources = with_source (table.name_at n.all i).definition source sources })
renamed source i sources (Err e) = Err e

-- a label
abbrev pub label_by : Value → Entry → Result Scope Duplicate
label_by v e = renamed (Given v) e.number e.scope.sources (table.changed e.number e.scope.names (table.labelled (table.name_at e.scope.names.all e.number)))

abbrev pub labelled : List ℕ → Value → Scope → Result Scope Duplicate
labelled text v s = label_by v (entry text s)

-- An assignment: what it gives is kept as a value where it has one by what stands before it.
abbrev pub kept : Written → Result Value ExprError → Source
kept w (Ok v) = Given v
kept w (Err e) = Worked w

abbrev pub opened_if_fresh : ℕ → List Source → List Source
opened_if_fresh d sources = if d == length sources then sources ++ ToCome ∷ [] else sources

abbrev pub assign_to : Source → ℕ → List Source → Result table.Names Duplicate → Result Scope Duplicate
assign_to source i sources (Ok n) =
    let d = (table.name_at n.all i).definition in
    Ok (record { names = n; sources = with_source d source (opened_if_fresh d sources) })
assign_to source i sources (Err e) = Err e

abbrev pub assign_by : Written → Entry → Result Scope Duplicate
assign_by w e =
    assign_to (kept w (worth (value_of e.scope.sources) w)) e.number e.scope.sources
    (table.changed e.number e.scope.names (table.assigned (length e.scope.sources) (table.name_at e.scope.names.all e.number)))

abbrev pub assigned : List ℕ → Written → Scope → Result Scope Duplicate
assigned text w s = assign_by w (entry text s)

-- a local label
abbrev pub local_by : List ℕ → Value → Scope → Result Local Duplicate → Result Scope Duplicate
local_by text v s (Ok l) = Ok (record { names = table.with_local text l s.names; sources = with_source l.definition (Given v) (opened_if_fresh l.definition s.sources) })
local_by text v s (Err e) = Err e

abbrev pub labelled_locally : List ℕ → Value → Scope → Result Scope Duplicate
labelled_locally text v s = local_by text v s (table.labelled_locally (length s.sources) (table.locals_of s.names text))

abbrev pub begun_block : Scope → Scope
begun_block s = record s { names = table.in_next_block s.names }

-- a block of local labels that began before goes on
abbrev pub in_block : ℕ → Scope → Scope
in_block i s = record s { names = table.in_block i s.names }

-- a name that other modules may use, or that one of them may define, or need not
abbrev pub linked_by : Linkage → Entry → Scope
linked_by linkage e = record e.scope { names = table.with_change e.number e.scope.names (table.linked linkage (table.name_at e.scope.names.all e.number)) }

abbrev pub linked : Linkage → List ℕ → Scope → Scope
linked linkage text s = linked_by linkage (entry text s)

-- whether another module may define a name that appears from here on, where nothing more is said of it
abbrev pub assuming : Bool → Scope → Scope
assuming assumes s = record s { names = table.assuming assumes s.names }

abbrev pub undefined_by : DefinedBy → Bool
undefined_by Nothing = true
undefined_by Label = false
undefined_by Assignment = false

abbrev pub is_undefined : table.Name → Bool
is_undefined n = undefined_by n.defined_by

-- a name that nothing here has defined, and no other module may define
abbrev pub is_missing : table.Name → Bool
is_missing n = is_undefined n && not n.external

abbrev pub missing_by : Scope → Option ℕ → Bool
missing_by s (Some i) = is_missing (table.name_at s.names.all i)
missing_by s None = false

abbrev pub misses : List ℕ → Scope → Bool
misses text s = missing_by s (s.names.numbers text)

-- The source is read: a name that nothing has defined, and that another module may define, is the external with its place in the list of
-- these. Every other one stays without a definition.
abbrev pub is_external : table.Name → Bool
is_external n = is_undefined n && n.external

abbrev pub external_names : List table.Name → List (List ℕ)
external_names [] = []
external_names (n ∷ names) = if is_external n then n.text ∷ external_names names else external_names names

-- what an external name of this number is given
abbrev pub external_at : ℕ → Source
external_at i = Given (External i (pos 0))

abbrev pub with_externals : ℕ → List table.Name → List Source → List Source
with_externals i [] sources = sources
with_externals i (n ∷ names) sources =
    if is_external n then with_externals (i + 1) names (with_source n.definition (external_at i) sources)
    else with_externals i names sources

abbrev pub closed : Scope → Scope
closed s = record s { sources = with_externals 0 s.names.all s.sources }

-- the local labels of a block mean definitions of so many
abbrev pub AreIn : ℕ → (List ℕ → Option Local) → Type 0
AreIn definitions locals = (text : List ℕ) → ForSome (locals text) (λ l. l.definition < definitions)

-- each name has a number in the list, and means a definition of so many; so does each local label, and the current block is there
pub record InRange (names : table.Names) (definitions : ℕ) : Type 0 where
  pub numbers : (text : List ℕ) → ForSome (names.numbers text) (λ i. i < length names.all)
  pub all : All (λ n. n.definition < definitions) names.all
  pub block : names.block < length names.blocks
  pub blocks : All (AreIn definitions) names.blocks

abbrev pub IsInRange : Scope → Type 0
IsInRange s = InRange s.names (length s.sources)
