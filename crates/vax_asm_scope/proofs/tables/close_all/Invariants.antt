use Rattle.std.proofs.Common.{◌≡◌, ◌++◌, drop, length, map}
use Rattle.vax_asm_names.specs.View.{name_of}
use Rattle.vax_asm_scope.specs.Scope.{with_externals, external_names}
use Rattle.vax_asm_scope.specs.View.{texts_of}
use Rattle.vax_asm_values.specs.Definitions.{sources_of}
use Rattle.vax_asm_scope.proofs.tables.close_all.Given as goal

abbrev pub invariant-loop-name : goal.invariant-loop-name
invariant-loop-name l = record {
  externals : texts_of l.externals ++ external_names (map name_of (drop l.name-index l.names)) ≡ external_names (map name_of l.names);
  sources : with_externals (length (texts_of l.externals)) (map name_of (drop l.name-index l.names)) (sources_of l.definitions) ≡ with_externals 0 (map name_of l.names) (sources_of l.fn.definitions);
}
