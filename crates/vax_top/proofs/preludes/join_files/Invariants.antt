use Rattle.std.proofs.Common.{◌≡◌, ◌++◌, drop}
use Rattle.vax_command.specs.ReadingView.{texts}
use Rattle.vax_prelude.specs.View.{preludes_seen}
use Rattle.vax_top.specs.Loaded.{joined_files}
use Rattle.vax_top.proofs.preludes.join_files.Given as goal

abbrev pub invariant-loop-file : goal.invariant-loop-file
invariant-loop-file l =
    texts l.all.items ++ joined_files (preludes_seen l.preludes) (texts (drop l.file-index l.files)) ≡ joined_files (preludes_seen l.preludes) (texts l.files)
