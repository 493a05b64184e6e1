-- Calls that are to fail.
use Rattle.std.specs.Prelude.{ℕ, Bool, false, ◌==◌}
use Rattle.vax_outside.specs.declared.fails.Fail.{Fail}
use Rattle.vax_outside.specs.declared.fails.Fail.TheVariants.{Call, Read, Write}

-- it names the read that has these numbers among all calls and among the reads
abbrev pub names_read : ℕ → ℕ → Fail → Bool
names_read call read (Call n) = n == call
names_read call read (Read n) = n == read
names_read call read (Write n) = false

-- it names the write that has these numbers among all calls and among the writes
abbrev pub names_write : ℕ → ℕ → Fail → Bool
names_write call write (Call n) = n == call
names_write call write (Read n) = false
names_write call write (Write n) = n == write
