use Rattle.std.proofs.Common.{◌≡◌, ◌+◌, ◌*◌, ◌-◌}
use Rattle.vax_image.specs.Image.{first_page}
use Rattle.vax_elf.specs.Reading.{areas_at}
use Rattle.vax_elf.proofs.Loops.{with_front}
use Rattle.vax_elf.proofs.segments.areas_at.Given as goal

abbrev pub invariant-loop : goal.invariant-loop
invariant-loop l = record {
  so_far : with_front l.areas.items (areas_at l.base l.low l.file l.place (l.count - l.counter)) ≡ areas_at l.base (first_page l.base) l.file l.fn.place l.count;
  place : l.place ≡ l.fn.place + 32 * l.counter;
}
