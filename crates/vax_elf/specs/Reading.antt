-- The image that an executable gives, or the first fault: those of the header in the order of its fields, then those of the program headers
-- in their order, then those of the whole.
use Rattle.std.specs.Prelude.{ℕ, zero, suc, ◌+◌, ◌*◌, Bool, not, ◌||◌, ◌==◌, nat_lt, if◌then◌else◌, List, [], ◌++◌, length, slice_index, Option, Some, None, option_to_list, Result, Ok, Err}
use Rattle.vax_space.specs.declared.Area.{Area}
use Rattle.vax_space.specs.Areas.{end_of}
use Rattle.vax_space.specs.Reference.{page_of}
use Rattle.vax_image.specs.declared.Base.{Base}
use Rattle.vax_image.specs.declared.Image.{Image}
use Rattle.vax_image.specs.Image.{first_page, end_page, is_in}
use Rattle.vax_elf.specs.declared.faults.ElfFault.{ElfFault}
use Rattle.vax_elf.specs.declared.faults.ElfFault.TheVariants.{Class, Order, Version, Kind, Machine, Sizes, Count, Short, Interpreter, Length, Alignment, Outside, Overlap, Entry}
use Rattle.vax_elf.specs.declared.faults.ElfError.{ElfError}
use Rattle.vax_elf.specs.declared.faults.ElfError.TheVariants.{Fault}
use Rattle.vax_elf.specs.declared.segments.Segment.{Segment}
use Rattle.vax_elf.specs.Executable.{half_at, word_at, headers_begin, header_count, entry_of, segment_at, told_len, base_of, is_aligned, file_end, area_of}
use Rattle.vax_elf.specs.Faults.{◌>>=◌}

-- the number, or a fault at an offset
abbrev pub checked : Bool → ℕ → ElfFault → Result ℕ ElfError → Result ℕ ElfError
checked faulty place kind others = if faulty then Err (Fault place kind) else others

-- 32 bits, low bytes first, the first version: the number of the program headers, or the first fault of the header
unfoldable pub told_by : List ℕ → Result ℕ ElfError
told_by file =
    checked (not (slice_index file 4 == 1)) 4 Class
    (checked (not (slice_index file 5 == 1)) 5 Order
    (checked (not (slice_index file 6 == 1)) 6 Version (Ok (header_count file))))

-- an executable, for the VAX
unfoldable pub named_by : List ℕ → Result ℕ ElfError
named_by file =
    checked (not (half_at file 16 == 2)) 16 Kind
    (checked (not (half_at file 18 == 75)) 18 Machine
    (checked (not (word_at file 20 == 1)) 20 Version (Ok (header_count file))))

-- a header of 52 bytes, and 1 to 64 program headers of 32 bytes each, which stand in the file
unfoldable pub sized_by : List ℕ → Result ℕ ElfError
sized_by file =
    checked (not (half_at file 40 == 52)) 40 Sizes
    (checked (not (half_at file 42 == 32)) 42 Sizes
    (checked (header_count file == 0 || nat_lt 64 (header_count file)) 44 Count
    (checked (nat_lt (told_len file) (headers_begin file + 32 * header_count file)) 28 Short (Ok (header_count file)))))

-- the number of the program headers
unfoldable pub header_of : List ℕ → Result ℕ ElfError
header_of file =
    if nat_lt (length file) 52 then Err (Fault 0 Short)
    else ((told_by file >>= λ told. named_by file) >>= λ named. sized_by file)

-- the fault of a loaded segment that stands at page `low` or behind it, by the offset of its program header
unfoldable pub fault_of : Base → ℕ → ℕ → ℕ → Segment → Option ElfError
fault_of base low len place segment =
    if not (is_aligned segment) then Some (Fault (place + 28) Alignment)
    else (if nat_lt (page_of segment.address) (first_page base) || nat_lt (512 * end_page base) (segment.address + segment.memory_size)
    then Some (Fault (place + 8) Outside)
    else (if nat_lt (page_of segment.address) low then Some (Fault (place + 8) Overlap)
    else (if nat_lt len (file_end segment) then Some (Fault (place + 4) Short) else None)))

abbrev pub unless_fault : {X : Type 0} → Option ElfError → X → Result X ElfError
unless_fault None x = Ok x
unless_fault (Some e) x = Err e

-- the area of the segment that a program header tells, if it is loaded
unfoldable pub loaded_at : Base → ℕ → List ℕ → ℕ → Result (Option Area) ElfError
loaded_at base low file place =
    let segment = segment_at file place in
    if segment.kind == 3 then Err (Fault place Interpreter)
    else (if not (segment.kind == 1) then Ok None
    else (if nat_lt segment.memory_size segment.file_size then Err (Fault (place + 16) Length)
    else (if segment.memory_size == 0 then Ok None
    else unless_fault (fault_of base low (length file) place segment) (Some (area_of base file segment)))))

-- the page that the next area may begin at
abbrev pub behind : ℕ → Option Area → ℕ
behind low None = low
behind low (Some area) = end_of area

-- the areas that so many program headers tell
unfoldable pub areas_at : Base → ℕ → List ℕ → ℕ → ℕ → Result (List Area) ElfError
areas_at region low file place zero = Ok []
areas_at region low file place (suc count) =
    loaded_at region low file place >>= λ first.
    areas_at region (behind low first) file (place + 32) count >>= λ others.
    Ok (option_to_list first ++ others)

-- something is loaded, and the program begins in it
unfoldable pub ended : List ℕ → List Area → Result Image ElfError
ended file areas =
    if length areas == 0 then Err (Fault 44 Count)
    else (if not (is_in areas (entry_of file)) then Err (Fault 24 Entry)
    else Ok (record { base = base_of (entry_of file); transfer = entry_of file; areas = areas }))

unfoldable pub image_of : List ℕ → Result Image ElfError
image_of file =
    (header_of file >>= λ count. areas_at (base_of (entry_of file)) (first_page (base_of (entry_of file))) file (headers_begin file) count)
    >>= λ areas. ended file areas
