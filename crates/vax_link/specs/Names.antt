-- The names that modules share: which is defined twice, which isn't defined, and what a name leads to.
use Rattle.std.specs.Prelude.{ℕ, zero, suc, ◌+◌, ◌%◌, ◌^◌, ℤ, Bool, true, false, not, ◌&&◌, ◌||◌, List, [], ◌∷◌, ◌++◌, length, map, slice_get, slice_index_or, Option, Some, None, option_map, is_some, if◌then◌else◌}
use Rattle.std.specs.List.{filter_map, flat_map, find, list_any}
use Rattle.std.specs.Map.{lookup}
use Rattle.std.specs.Int.{w64, cast_unsigned}
use Rattle.std.specs.Str.{bytes_eq}
use Rattle.vax_lex.specs.declared.value.Value.{Value}
use Rattle.vax_lex.specs.declared.value.Value.TheVariants.{Absolute, Section as InSection, External}
use Rattle.vax_module.specs.declared.ExternalName.{ExternalName}
use Rattle.vax_module.specs.declared.Symbol.{Symbol}
use Rattle.vax_module.specs.declared.Module.{Module}
use Rattle.vax_link.specs.declared.names.Definition.{Definition}
use Rattle.vax_link.specs.declared.names.Chased.{Chased}
use Rattle.vax_link.specs.declared.names.Chased.TheVariants.{Ends, Unknown, Circles}

abbrev pub Name : Type 0
Name = List ℕ

-- names with what they stand for, and in which module
abbrev pub Entries : Type 0
Entries = List (Name × Definition)

abbrev pub entries_of : ℕ → List Symbol → Entries
entries_of owner globals = map (λ symbol. (symbol.name, record { owner = owner; value = symbol.value })) globals

-- the global names of modules, in the order of the modules and of their lists
unfoldable pub entries_from : ℕ → List Module → Entries
entries_from owner [] = []
entries_from owner (m ∷ modules) = entries_of owner m.globals ++ entries_from (suc owner) modules

abbrev pub definition_of : Name → Entries → Option Definition
definition_of name entries = lookup (bytes_eq name) entries

abbrev pub is_defined : Name → Entries → Bool
is_defined name entries = is_some (definition_of name entries)

-- the first name that stands before
unfoldable pub repeated : Entries → Entries → Option Name
repeated before [] = None
repeated before (entry ∷ entries) =
    if is_defined entry.0 before then Some entry.0 else repeated (before ++ entry ∷ []) entries

abbrev pub transfers : List Module → List Symbol
transfers modules = filter_map (λ m. m.transfer) modules

-- the name of the second transfer address
abbrev pub second_transfer : List Module → Option Name
second_transfer modules = option_map (λ symbol. symbol.name) (slice_get (transfers modules) 1)

abbrev pub or_else : {X : Type 0} → Option X → Option X → Option X
or_else None other = other
or_else (Some x) other = Some x

-- the first global name that an earlier entry has; where there is none, the second transfer's name
unfoldable pub duplicate : List Module → Option Name
duplicate modules = or_else (repeated [] (entries_from 0 modules)) (second_transfer modules)

-- ---- what a name leads to

abbrev pub nothing : Module
nothing = record { sections = []; globals = []; externals = []; relocs = []; transfer = None }

abbrev pub module_at : List Module → ℕ → Module
module_at modules owner = slice_index_or modules owner nothing

abbrev pub no_external : ExternalName
no_external = record { name = []; weak = false }

abbrev pub external_name : List Module → ℕ → ℕ → Name
external_name modules owner index = (slice_index_or (module_at modules owner).externals index no_external).name

-- the low 32 bits
abbrev pub low_longword : ℤ → ℕ
low_longword n = cast_unsigned w64 n % 2 ^ 32

abbrev pub plus : ℕ → ℕ → ℕ
plus a b = (a + b) % 2 ^ 32

-- where a definition leads, and what goes on at an external name
abbrev pub led : ℕ → Value → ℕ → (ℕ → ℕ → ℕ → Chased) → Chased
led owner (Absolute n) offset next = Ends owner (Absolute n) offset
led owner (InSection section place) offset next = Ends owner (InSection section place) offset
led owner (External index more) offset next = next owner index (low_longword more)

abbrev pub leads : Option Definition → ℕ → (ℕ → ℕ → ℕ → Chased) → Chased
leads None offset next = Unknown offset
leads (Some definition) offset next = led definition.owner definition.value offset next

abbrev pub is_met : Name → List Name → Bool
is_met name met = list_any (bytes_eq name) met

-- Where a name leads, when others have been met on the way to it: one that stands for a place beside an external name leads
-- on to that, and one that has been met leads in a circle. Each step meets another name that is defined, so there are no
-- more steps than definitions.
unfoldable pub chased : List Module → Entries → ℕ → List Name → Name → ℕ → Chased
chased modules entries zero met name offset = Circles
chased modules entries (suc left) met name offset =
    if is_met name met then Circles
    else leads (definition_of name entries) offset (λ owner index more. chased modules entries left (name ∷ met) (external_name modules owner index) (plus offset more))

abbrev pub chase : List Module → Entries → Name → Chased
chase modules entries name = chased modules entries (suc (length entries)) [] name 0

abbrev pub comes_back : Chased → Bool
comes_back (Ends owner value offset) = false
comes_back (Unknown offset) = false
comes_back Circles = true

-- No module defines the name, which isn't weak; or its definition comes back to a name that it has already met.
abbrev pub is_at_fault : List Module → Entries → ExternalName → Bool
is_at_fault modules entries e = (not e.weak && not (is_defined e.name entries)) || comes_back (chase modules entries e.name)

abbrev pub externals : List Module → List ExternalName
externals modules = flat_map (λ m. m.externals) modules

-- the first external name at fault
unfoldable pub undefined : List Module → Option Name
undefined modules = option_map (λ e. e.name) (find (is_at_fault modules (entries_from 0 modules)) (externals modules))
