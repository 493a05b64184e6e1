-- Where fields lead (VAX Architecture Reference Manual, operand specifiers: displacement modes, program counter addressing).
use Rattle.std.specs.Prelude.{ℕ, ◌+◌, if◌then◌else◌}
use Rattle.vax_flat.specs.Memory.{byte_at, number}
use Rattle.vax_flat.specs.Operand.{extended, plus}
use Rattle.vax_image.specs.declared.Image.{Image}
use Rattle.vax_link.specs.Values.{is_relative}
use Rattle.vax_module.specs.Formed.{width_of}
use Rattle.vax_module.specs.declared.RelocKind.{RelocKind}

-- the signed number that a processor reads at an address
abbrev pub read_at : Image → (address width : ℕ) → ℕ
read_at image address width = extended width (number (byte_at image.areas) address width)

-- what a field at an address holds, or where it leads from behind it
abbrev pub leads_to : Image → (kind : RelocKind) → (address : ℕ) → ℕ
leads_to image kind address =
    if is_relative kind then plus (address + width_of kind) (read_at image address (width_of kind)) else read_at image address (width_of kind)
