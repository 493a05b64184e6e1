use Rattle.std.proofs.Common.{◌≡◌, ◌≤◌, All, length}
use Rattle.std.specs.Option.{option_copied}
use Rattle.std.specs.List.{slice_split}
use Rattle.vax_cli.specs.Values.{dump_items, is_comma, parts_behind}
use Rattle.vax_cli.specs.Said.{IsDump}
use Rattle.vax_cli.proofs.Prefixes.{behind, size}
use Rattle.vax_cli.proofs.values.dump_items.Given as goal

-- the items so far, and those of the text that is left
abbrev pub invariant-loop-rest : goal.invariant-loop-rest
invariant-loop-rest l = record {
  reads : behind l.items.items (dump_items (parts_behind (option_copied l.rest))) ≡ dump_items (slice_split is_comma l.fn.list);
  few : length l.items.items ≤ 16;
  within : All IsDump l.items.items;
}

abbrev pub decreases-loop-rest : goal.decreases-loop-rest
decreases-loop-rest l = size (option_copied l.rest)
