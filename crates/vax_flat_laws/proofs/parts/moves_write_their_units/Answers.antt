use Rattle.vax_flat_laws.proofs.Writing.{part_escaped, part_filled, part_moved}
use Rattle.vax_flat_laws.proofs.parts.moves_write_their_units.Goals as goal

pub returns : goal.returns
returns c = record {
  moved = λ translate p s memory whole are h some. part_moved translate p s memory whole are h.move.is h.checked some;
  filled = λ translate p s memory whole h none some. part_filled translate p s memory whole h.move.is h.checked none some;
  escape = λ p s memory whole are h some. part_escaped p s memory whole are h.escape.is h.checked some;
}
