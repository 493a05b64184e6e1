use Rattle.std.proofs.Common.{◌≡◌, length, take}
use Rattle.std.specs.Prelude.{All}
use Rattle.vax_module.specs.Formed.{Formed}
use Rattle.vax_asm_listing.specs.Listed.{AreTraced, texts}
use Rattle.vax_asm_listing.proofs.program.trace_files.Given as goal

abbrev pub invariant-loop-file : goal.invariant-loop-file
invariant-loop-file l = record {
  traced : AreTraced l.dialect (texts (take l.file-index l.files)) l.modules.items l.notes.items;
  formed : All Formed l.modules.items;
  count : length l.modules.items ≡ l.file-index;
  number : l.number ≡ l.file-index;
}
