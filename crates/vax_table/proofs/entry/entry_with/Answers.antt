use Rattle.std.proofs.Common.{rules}
use Rattle.vax_table.specs.Entry.{entry_with}
use Rattle.vax_table.proofs.entry.entry_with.Goals.{then-valid, else-valid, then-modified, else-modified}
use Rattle.vax_table.proofs.entry.entry_with.Goals as goal

pub returns : goal.returns
unfolding entry_with
returns c = elim c.if-valid.branch [
  | then-valid v ↦ elim c.if-modified.branch [ then-modified m ↦ search rules | else-modified m ↦ search rules ]
  | else-valid v ↦ elim c.if-modified.branch [ then-modified m ↦ search rules | else-modified m ↦ search rules ]
]
