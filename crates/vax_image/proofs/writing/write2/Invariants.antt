use Rattle.std.proofs.Common.{◌≡◌, ◌≤◌, ◌++◌, [], length, drop}
use Rattle.vax_image.specs.Texts.{texts_of}
use Rattle.vax_image.specs.File.{numbered}
use Rattle.vax_image.specs.Views.{texts}
use Rattle.vax_image.proofs.writing.write2.Given as goal

abbrev pub invariant-loop-area : goal.invariant-loop-area
invariant-loop-area l = record {
  fields : l.numbered.items ++ numbered (texts l.texts.items) (drop l.area-index l.areas) ≡ numbered [] l.areas;
  taken : texts_of (texts l.texts.items) (drop l.area-index l.areas) ≡ texts_of [] l.areas;
  few : length l.texts.items ≤ l.area-index;
}
