-- The module that a source is, or its first fault that the whole source decides (VAX MACRO and Instruction Set Reference
-- Manual, "VAX MACRO assembler directives": `.GLOBAL`, `.EXTERNAL`, `.WEAK` and `.END`).
use Rattle.std.specs.Prelude.{ℕ, not, ◌&&◌, if◌then◌else◌, List, ◌++◌, length, Option, Some, None, Result, Ok, Err}
use Rattle.std.specs.List.{filter_map}
use Rattle.std.specs.Option.{option_and_then}
use Rattle.vax_lex.specs.declared.value.Value.{Value}
use Rattle.vax_macro.specs.Rest.{Opening}
use Rattle.vax_module.specs.declared.ExternalName.{ExternalName}
use Rattle.vax_module.specs.declared.Module.{Module}
use Rattle.vax_module.specs.declared.Symbol.{Symbol}
use Rattle.vax_asm_names.specs.Names.{Name}
use Rattle.vax_asm_sections.specs.Layout.{Section as Building}
use Rattle.vax_asm_first.specs.Fixups.{Fixup, Assignment, Transfer}
use Rattle.vax_asm_first.specs.Standing.{Standing}
use Rattle.vax_asm_scope.specs.Scope.{closed, external_names, is_external, is_undefined}
use Rattle.vax_asm_values.specs.Values.{value_of}
use Rattle.vax_asm_second.specs.Faults.{first_of, assigned_faults, unclosed_faults}
use Rattle.vax_asm_second.specs.Laid.{Known, is_known, Laid, laid}
use Rattle.vax_asm_second.specs.declared.types.Fault.{Fault}

-- what is known once all of the source is read: a name that nothing has defined, and another module may define, is an external
abbrev pub known_in : Standing → Known
known_in s = record {
  sources = (closed s.scope).sources;
  sections = length s.sections.all;
  externals = length (external_names s.scope.names.all);
}

-- a name and the value of the definition that it means, if that has one
abbrev pub symbol_by : Known → List ℕ → Value → Option Symbol
symbol_by k name v = if is_known k v then Some (record { name = name; value = v }) else None

abbrev pub symbol : Known → List ℕ → ℕ → Option Symbol
symbol k name definition = option_and_then (symbol_by k name) (value_of k.sources definition)

-- a name that other modules may use and this one defines
abbrev pub global_symbol : Known → Name → Option Symbol
global_symbol k n = if n.global && not (is_undefined n) then symbol k n.text n.definition else None

abbrev pub transfer_symbol : Known → Transfer → Option Symbol
transfer_symbol k t = symbol k t.name t.definition

-- a name that another module may define, and this one doesn't
abbrev pub external_of : Name → Option ExternalName
external_of n = if is_external n then Some (record { name = n.text; weak = n.weak }) else None

abbrev pub externals_of : List Name → List ExternalName
externals_of names = filter_map external_of names

-- all faults that the whole source decides
abbrev pub faults : Known → List (Building Fixup) → List Assignment → Option Opening → List Fault
faults k sections assignments begin = (laid k 0 sections).faults ++ (assigned_faults k.sources assignments ++ unclosed_faults begin)

abbrev pub module_of : Known → Laid → List Name → Option Transfer → Module
module_of k l names t = record {
  sections = l.sections;
  globals = filter_map (global_symbol k) names;
  externals = externals_of names;
  relocs = l.relocs;
  transfer = option_and_then (transfer_symbol k) t;
}

abbrev pub unless_faulty : Option Fault → Module → Result Module Fault
unless_faulty None m = Ok m
unless_faulty (Some f) m = Err f

-- the module, or the fault that goes before all others
unfoldable pub filled_in : Standing → List Assignment → Option Opening → Result Module Fault
filled_in s assignments begin =
    let k = known_in s in
    let names = s.scope.names.all in
    unless_faulty (first_of (faults k s.sections.all assignments begin)) (module_of k (laid k 0 s.sections.all) names s.transfer)
