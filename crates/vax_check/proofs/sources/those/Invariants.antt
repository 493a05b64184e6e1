use Rattle.std.proofs.Common.{◌≡◌, ◌++◌, drop}
use Rattle.vax_check.specs.Linking.{those}
use Rattle.vax_check.specs.View.{files_seen}
use Rattle.vax_check.proofs.sources.those.Given as goal

abbrev pub invariant-loop-file : goal.invariant-loop-file
invariant-loop-file l = files_seen l.all.items ++ those l.dialect l.role l.name (files_seen (drop l.file-index l.files)) ≡ those l.dialect l.role l.name (files_seen l.files)
