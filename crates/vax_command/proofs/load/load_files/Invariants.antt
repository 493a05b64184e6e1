use Rattle.std.proofs.Common.{◌≡◌, Ok, length, take}
use Rattle.vax_cli.specs.Said.{names_of}
use Rattle.vax_command.specs.Reading.{Reads, all_sought}
use Rattle.vax_command.specs.ReadingView.{texts}
use Rattle.vax_command.proofs.load.load_files.Given as goal

-- the files so far
abbrev pub invariant-loop-name : goal.invariant-loop-name
invariant-loop-name g l = record {
  same : g.S.Files.contents l.files ≡ g.S.Files.contents l.fn.files;
  quiet : (g.S.Files.faults l.files).count ≡ (g.S.Files.faults l.fn.files).count;
  count : length l.all.items ≡ l.name-index;
  reads : Reads (g.S.Files.contents l.fn.files) (all_sought l.role (names_of (take l.name-index l.names))) (Ok (texts l.all.items));
}
