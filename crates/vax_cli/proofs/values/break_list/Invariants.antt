use Rattle.std.proofs.Common.{◌≡◌, ◌≤◌, length}
use Rattle.std.specs.Option.{option_copied}
use Rattle.std.specs.List.{slice_split}
use Rattle.vax_cli.specs.Tracing.{addresses}
use Rattle.vax_cli.specs.Values.{is_comma, parts_behind}
use Rattle.vax_cli.proofs.Prefixes.{behind, size}
use Rattle.vax_cli.proofs.values.break_list.Given as goal

-- the addresses so far, and those of the text that is left
abbrev pub invariant-loop-rest : goal.invariant-loop-rest
invariant-loop-rest l = record {
  reads : behind l.breaks.items (addresses (parts_behind (option_copied l.rest))) ≡ addresses (slice_split is_comma l.fn.list);
  few : length l.breaks.items ≤ 16;
}

abbrev pub decreases-loop-rest : goal.decreases-loop-rest
decreases-loop-rest l = size (option_copied l.rest)
