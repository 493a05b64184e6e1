use Rattle.std.proofs.Common.{◌≡◌, ◌+◌, All, drop, length}
use Rattle.vax_module.specs.Formed.{Formed}
use Rattle.vax_program.specs.Program.{modules_of}
use Rattle.vax_program.specs.View.{texts}
use Rattle.vax_program.proofs.Joining.{ahead}
use Rattle.vax_program.proofs.parts.read_sources.Given as goal

abbrev pub invariant-loop-file : goal.invariant-loop-file
invariant-loop-file l = record {
  reads : ahead l.modules.items (modules_of l.dialect l.number (texts (drop l.file-index l.files))) ≡ modules_of l.dialect l.first (texts l.files);
  formed : All Formed l.modules.items;
  count : length l.modules.items ≡ l.file-index;
  number : l.number ≡ l.first + l.file-index;
}
