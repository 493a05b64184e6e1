-- What clauses read of files in memory.
use Rattle.std.specs.Prelude.{ℕ, Bool, List}
use Rattle.std.specs.List.{list_any}
use Rattle.vax_outside.specs.Directory.{Directory, directory}
use Rattle.vax_outside.specs.Fails.{names_read}
use Rattle.vax_outside.specs.Faults.{raised}
use Rattle.vax_outside.specs.declared.fails.Fail.{Fail}
use Rattle.vax_outside.specs.declared.faults.Failures.{Failures}
use Rattle.vax_outside.specs.declared.mem_files.MemFiles.{MemFiles}

abbrev pub directory_of : MemFiles → Directory
directory_of m = directory m.files.items

-- the calls that are to fail
abbrev pub fails_of : MemFiles → List Fail
fails_of m = m.fails.items

-- the number of calls so far
abbrev pub calls_of : MemFiles → ℕ
calls_of m = m.calls

-- the calls that failed
abbrev pub faults_of : MemFiles → Failures
faults_of m = m.faults

-- the next call is to fail
abbrev pub next_fails : MemFiles → Bool
next_fails m = list_any (names_read (raised m.calls) (raised m.calls)) m.fails.items
