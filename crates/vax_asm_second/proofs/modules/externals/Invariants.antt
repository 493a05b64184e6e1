use Rattle.std.proofs.Common.{◌≡◌, ◌++◌, map, drop}
use Rattle.std.specs.List.{filter_map}
use Rattle.vax_asm_second.specs.Modules.{external_of}
use Rattle.vax_asm_names.specs.View.{name_of}
use Rattle.vax_asm_second.proofs.modules.externals.Given as goal

abbrev pub invariant-loop-name : goal.invariant-loop-name
invariant-loop-name l =
    l.list.items ++ filter_map external_of (map name_of (drop l.name-index l.names)) ≡ filter_map external_of (map name_of l.names)
