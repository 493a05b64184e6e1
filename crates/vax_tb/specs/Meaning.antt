-- What a buffer means.
use Rattle.std.specs.Prelude.{ℕ, Option}
use Rattle.vax_table.specs.declared.Walk.{Walk}
use Rattle.vax_tb.specs.declared.buffer.Buffer.{Buffer}
use Rattle.vax_tb.specs.Entries.{entry_for}

-- for each page what its entry says, none where it has no entry
abbrev pub buffered : Buffer → ℕ → Option Walk
buffered buffer = entry_for buffer.entries
