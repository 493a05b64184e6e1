use Rattle.std.proofs.Common.{◌≡◌, ◌++◌, length, take}
use Rattle.std.specs.List.{flat_map}
use Rattle.vax_image.specs.File.{magic, word, entry, longword, area_field}
use Rattle.vax_image.proofs.writing.write.Given as goal

abbrev pub invariant-loop-area : goal.invariant-loop-area
invariant-loop-area l = l.out.items ≡ (magic ++ (word 1 ++ (entry l.fn.image ++ longword (length l.areas)))) ++ flat_map area_field (take l.area-index l.areas)
