use Rattle.std.proofs.Common.{◌≡◌, ◌++◌, drop}
use Rattle.vax_check.specs.Linking.{files_of}
use Rattle.vax_check.specs.View.{files_seen, titles_of}
use Rattle.vax_prelude.specs.View.{preludes_seen}
use Rattle.vax_program.specs.View.{texts}
use Rattle.vax_check.proofs.sources.files_of.Given as goal

abbrev pub invariant-loop-name : goal.invariant-loop-name
invariant-loop-name l = files_seen l.all.items ++ files_of (titles_of (preludes_seen l.files.preludes.now) (drop l.name-index l.files.names.now)) (texts l.rest) ≡ files_of (titles_of (preludes_seen l.files.preludes.now) l.files.names.now) (texts l.files.texts.now)
