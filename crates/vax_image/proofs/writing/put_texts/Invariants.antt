use Rattle.std.proofs.Common.{◌≡◌, ◌++◌, take}
use Rattle.std.specs.List.{flat_map}
use Rattle.vax_image.specs.File.{text_field}
use Rattle.vax_image.specs.Views.{texts}
use Rattle.vax_image.proofs.writing.put_texts.Given as goal

abbrev pub invariant-loop-text : goal.invariant-loop-text
invariant-loop-text l = l.out.items ≡ l.fn.out.items ++ flat_map text_field (texts (take l.text-index l.texts))
