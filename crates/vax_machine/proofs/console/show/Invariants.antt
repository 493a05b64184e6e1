use Rattle.std.proofs.Common.{◌≡◌, ◌-◌, ◌<◌, List, length, take}
use Rattle.std.specs.Prelude.{IfSome, is_some}
use Rattle.vax_space.specs.declared.Area.{Area}
use Rattle.vax_space.specs.Areas.{area_of}
use Rattle.vax_space.specs.Reference.{byte_after, page_of}
use Rattle.vax_pager.specs.Meaning.{pages}
use Rattle.vax_pager.specs.Paging.{Keeps, StandsWith}
use Rattle.vax_pager.specs.Poking.{OnlyRead, ReadsAtMost}
use Rattle.vax_machine.specs.Console.{AreShown, IsPageOf, memory_from, pages_in}
use Rattle.vax_machine.proofs.console.show.Given as goal

abbrev pub invariant-loop-place : goal.invariant-loop-place
invariant-loop-place g l = record {
  same : pages l.pager ≡ pages l.fn.pager;
  keeps : Keeps (pages l.fn.pager) (g.F.PageFile.contents l.fn.file) (pages l.pager) (g.F.PageFile.contents l.file);
  reads : OnlyRead (g.F.PageFile.contents l.fn.file) (g.F.PageFile.contents l.file);
  once : ReadsAtMost (pages_in l.addr l.place) (g.F.PageFile.contents l.fn.file) (g.F.PageFile.contents l.file);
  len : length l.cells ≡ length l.fn.cells;
  none : AreShown (pages l.fn.pager).areas l.addr (take l.place l.cells);
  bytes : (memory : List Area) → StandsWith (pages l.fn.pager) (g.F.PageFile.contents l.fn.file) memory → take l.place l.cells ≡ memory_from memory l.addr l.place;
  there : 0 < l.place → is_some l.page ≡ is_some (area_of (pages l.fn.pager).areas (page_of (byte_after l.addr (l.place - 1))));
  held : 0 < l.place → (memory : List Area) → StandsWith (pages l.fn.pager) (g.F.PageFile.contents l.fn.file) memory → IfSome l.page (IsPageOf memory (page_of (byte_after l.addr (l.place - 1))));
  quiet : (g.F.PageFile.faults l.file).count ≡ (g.F.PageFile.faults l.fn.file).count;
}
