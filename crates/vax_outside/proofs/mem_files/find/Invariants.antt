use Rattle.std.proofs.Common.{◌≡◌, drop}
use Rattle.vax_outside.specs.Directory.{bytes_of, directory}
use Rattle.vax_outside.proofs.mem_files.find.Given as goal

-- what is left has the same first file of this name
abbrev pub invariant-loop-file : goal.invariant-loop-file
invariant-loop-file l = bytes_of (directory (drop l.file-index l.files)) l.name ≡ bytes_of (directory l.files) l.name
