-- A machine's state as a file. Numbers are little-endian, and nothing stands between or behind the fields.
use Rattle.std.specs.Prelude.{ℕ, ◌==◌, Bool, if◌then◌else◌, Option, Some, None, List, [], ◌∷◌, ◌++◌, length, codes}
use Rattle.std.specs.List.{flat_map, list_all}
use Rattle.byteorder.specs.Endian.{little_bytes}
use Rattle.vax_word.specs.declared.Core.{Core}
use Rattle.vax_space.specs.declared.Area.{Area}
use Rattle.vax_space.specs.Areas.{pages_of}
use Rattle.vax_flat.specs.Parts.{Place, machine_at}
use Rattle.vax_cpu.specs.Attempt.{open_at}
use Rattle.vax_cpu.specs.declared.cpu.Open.{Open}
use Rattle.vax_machine.specs.Paged.{page_bytes}

abbrev pub word : ℕ → List ℕ
word n = little_bytes 2 n

abbrev pub longword : ℕ → List ℕ
longword n = little_bytes 4 n

abbrev pub quadword : ℕ → List ℕ
quadword n = little_bytes 8 n

-- what stands for an opcode where no string instruction is open
abbrev pub no_opcode : ℕ
no_opcode = 0xFFFF

-- the registers with an opcode: 96 bytes
unfoldable pub core_field : Core → ℕ → List ℕ
core_field core opcode =
    flat_map longword core.regs
    ++ (longword core.psl.0
    ++ (flat_map longword core.stacks
    ++ (word core.sisr
    ++ ((core.iccs ∷ 0 ∷ [])
    ++ (word core.clock
    ++ word opcode)))))

-- the magic, the version, and how many steps were completed
abbrev pub heading : ℕ → List ℕ
heading steps = codes "VAXS" ++ (word 1 ++ (word 0 ++ quadword steps))

-- how much of the console's input is taken, and the input
abbrev pub input_field : ℕ → List ℕ → List ℕ
input_field taken input = longword taken ++ (longword (length input) ++ input)

-- where an area lies, and its protection code
abbrev pub area_field : Area → List ℕ
area_field area = longword area.first ++ (longword area.pages ++ longword area.prot)

abbrev pub areas_field : List Area → List ℕ
areas_field areas = longword (length areas) ++ flat_map area_field areas

-- all of these bytes are 0
abbrev pub is_blank : List ℕ → Bool
is_blank bytes = list_all (λ byte. byte == 0) bytes

-- a page's number and these bytes, unless all of them are 0
abbrev pub content_field : ℕ → List ℕ → List ℕ
content_field page bytes = if is_blank bytes then [] else longword page ++ bytes

-- a page with its bytes in a memory
abbrev pub page_field : List Area → ℕ → List ℕ
page_field memory page = content_field page (page_bytes memory page)

-- what stands for a page's number behind the last page
abbrev pub end_mark : ℕ
end_mark = 0xFFFFFFFF

-- the pages of these areas, in ascending order, with their bytes in a memory
abbrev pub pages_field : List Area → List Area → List ℕ
pages_field memory areas = flat_map (page_field memory) (flat_map pages_of areas)

unfoldable pub memory_field : List Area → List ℕ
memory_field memory = areas_field memory ++ (pages_field memory memory ++ longword end_mark)

-- the registers, and the string instruction that is open with the registers at its start, if one is
abbrev pub registers_field : Core → Option Open → List ℕ
registers_field core None = core_field core no_opcode
registers_field core (Some latched) = core_field core latched.opcode ++ (longword latched.units ++ core_field latched.start 0)

-- the bytes of a state: where the flat machine is, and how many steps were completed
unfoldable pub saved : Place → ℕ → List ℕ
saved place steps =
    heading steps
    ++ (registers_field (machine_at place).core (open_at place)
    ++ (input_field (machine_at place).taken (machine_at place).input
    ++ memory_field (machine_at place).memory))
