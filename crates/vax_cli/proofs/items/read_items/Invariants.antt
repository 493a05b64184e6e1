use Rattle.std.proofs.Common.{◌≡◌, ◌≤◌, None, drop, length}
use Rattle.vax_cli.specs.Items.{items_from}
use Rattle.vax_cli.specs.Said.{items_of, texts}
use Rattle.vax_cli.proofs.Prefixes.{behind}
use Rattle.vax_cli.proofs.items.read_items.Given as goal

-- the items so far, and those that the words say which are left
abbrev pub invariant-loop-word : goal.invariant-loop-word
invariant-loop-word l = record {
  reads : behind (items_of l.items.items) (items_from l.keys l.pending (texts (drop l.word-index l.words))) ≡ items_from l.keys None (texts l.words);
  few : length l.items.items ≤ 37;
}
