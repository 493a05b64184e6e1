-- First part done (VAX Architecture Reference Manual, processor status longword).
use Rattle.std.specs.Prelude.{◌≡◌, ℕ}
use Rattle.vax_word.specs.declared.Psl.{Psl}
use Rattle.vax_word.specs.Status.{field}

-- bit 27: an instruction was left between two of its parts
unfoldable pub first_part_done : Psl → ℕ
first_part_done p = field p.0 27 1

abbrev pub NothingOpen : Psl → Type 0
NothingOpen p = first_part_done p ≡ 0
