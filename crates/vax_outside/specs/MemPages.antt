-- What clauses read of a page file in memory.
use Rattle.std.specs.Prelude.{ℕ, Bool, ◌||◌, List, length, nat_le}
use Rattle.std.specs.List.{list_any}
use Rattle.vax_outside.specs.Blocks.{BlockFile, numbered}
use Rattle.vax_outside.specs.Fails.{names_read, names_write}
use Rattle.vax_outside.specs.Faults.{raised}
use Rattle.vax_outside.specs.declared.fails.Fail.{Fail}
use Rattle.vax_outside.specs.declared.faults.Failures.{Failures}
use Rattle.vax_outside.specs.declared.mem_pages.MemPages.{MemPages}

-- the number of blocks, the room in the list of writes, and the calls that are to fail
pub record Limits : Type 0 where
  pub blocks : ℕ
  pub writes : ℕ
  pub fails : List Fail

abbrev pub limits_of : MemPages → Limits
limits_of m = record { blocks = length m.blocks.items; writes = m.room; fails = m.fails.items }

abbrev pub file_of : MemPages → BlockFile
file_of m = record { blocks = numbered m.blocks.items; writes = m.writes.items; reads = m.reads }

-- how often the object was called, and how often for a read and for a write
pub record Calls : Type 0 where
  pub all : ℕ
  pub reads : ℕ
  pub writes : ℕ

abbrev pub calls_of : MemPages → Calls
calls_of m = record { all = m.calls; reads = m.read_calls; writes = m.write_calls }

abbrev pub read_more : Calls → Calls
read_more calls = record calls { all = raised calls.all; reads = raised calls.reads }

abbrev pub write_more : Calls → Calls
write_more calls = record calls { all = raised calls.all; writes = raised calls.writes }

-- the calls that failed
abbrev pub faults_of : MemPages → Failures
faults_of m = m.faults

-- a read of block n is to fail
abbrev pub read_fails : MemPages → ℕ → Bool
read_fails m n = list_any (names_read (raised m.calls) (raised m.read_calls)) m.fails.items || nat_le (length m.blocks.items) n

-- a write of block n is to fail
abbrev pub write_fails : MemPages → ℕ → Bool
write_fails m n = list_any (names_write (raised m.calls) (raised m.write_calls)) m.fails.items || (nat_le (length m.blocks.items) n || nat_le m.room (length m.writes.items))
