-- Executables of the Executable and Linking Format for the VAX: its header and program headers, in the terms of the format's specification.
-- Offsets are bytes from the beginning of the file.
use Rattle.std.specs.Prelude.{◌≡◌, ◌≢◌, ℕ, zero, suc, ◌+◌, ◌*◌, ◌-◌, ◌%◌, ◌<◌, ◌≤◌, Bool, true, false, not, ◌&&◌, ◌||◌, ◌==◌, nat_lt, if◌then◌else◌, List, [], ◌∷◌, ◌++◌, length, take, drop, replicate, map, slice_index, bit_and, All, codes, min, filter}
use Rattle.std.specs.Str.{bytes_eq}
use Rattle.std.specs.Int.{is_power_of_two}
use Rattle.byteorder.specs.Endian.{little_number}
use Rattle.vax_space.specs.declared.Area.{Area}
use Rattle.vax_space.specs.Reference.{page_of}
use Rattle.vax_image.specs.declared.Base.{Base}
use Rattle.vax_image.specs.declared.Base.TheVariants.{Bare, User}
use Rattle.vax_image.specs.declared.Image.{Image}
use Rattle.vax_image.specs.Image.{first_page, end_page, IsImage}
use Rattle.vax_elf.specs.declared.segments.Segment.{Segment}

-- the file begins as one of that format
abbrev pub magic : List ℕ
magic = 0x7F ∷ codes "ELF"

-- the number of two and of four bytes at an offset
abbrev pub half_at : List ℕ → ℕ → ℕ
half_at file offset = little_number 2 (drop offset file)

abbrev pub word_at : List ℕ → ℕ → ℕ
word_at file offset = little_number 4 (drop offset file)

-- the offset of the program headers, how many there are, and the address at which the program begins
abbrev pub headers_begin : List ℕ → ℕ
headers_begin file = word_at file 28

abbrev pub header_count : List ℕ → ℕ
header_count file = half_at file 44

abbrev pub entry_of : List ℕ → ℕ
entry_of file = word_at file 24

-- the program header at an offset
abbrev pub segment_at : List ℕ → ℕ → Segment
segment_at file offset = record {
  kind = word_at file offset;
  offset = word_at file (offset + 4);
  address = word_at file (offset + 8);
  file_size = word_at file (offset + 16);
  memory_size = word_at file (offset + 20);
  flags = word_at file (offset + 24);
  alignment = word_at file (offset + 28);
}

-- a program that begins in system space is a bare one
abbrev pub base_of : ℕ → Base
base_of entry = if nat_lt entry 0x80000000 then User else Bare

-- the file's bytes that a field of 32 bits can tell
abbrev pub told_len : List ℕ → ℕ
told_len file = min (length file) 0xFFFFFFFF

-- the segment is loaded: its type is 1, and it has memory
abbrev pub is_loaded : Segment → Bool
is_loaded segment = (segment.kind == 1) && not (segment.memory_size == 0)

-- it may be written
abbrev pub is_writable : Segment → Bool
is_writable segment = not (bit_and segment.flags 2 == 0)

-- the address and the offset agree by the alignment, which is a power of two, or 0 where any will do
abbrev pub is_aligned : Segment → Bool
is_aligned segment =
    segment.alignment == 0
    || (is_power_of_two segment.alignment && (segment.address % segment.alignment == segment.offset % segment.alignment))

-- where its bytes end in the file; one that has none there needs no place in it
abbrev pub file_end : Segment → ℕ
file_end segment = if segment.file_size == 0 then 0 else segment.offset + segment.file_size

-- the page behind the segment's last
abbrev pub page_behind : Segment → ℕ
page_behind segment = page_of (segment.address + segment.memory_size + 511)

-- the protection code: read by all, and written by all, or in a bare program by the kernel alone
abbrev pub protection : Base → Bool → ℕ
protection region false = 15
protection Bare true = 14
protection User true = 4

-- the pages of a loaded segment: zeros before it, its bytes of the file, and zeros behind them
abbrev pub area_of : Base → List ℕ → Segment → Area
area_of base file segment = record {
  first = page_of segment.address;
  pages = page_behind segment - page_of segment.address;
  prot = protection base (is_writable segment);
  bytes = replicate (segment.address % 512) 0 ++ take segment.file_size (drop segment.offset file);
}

-- so many program headers, from an offset on
abbrev pub segments_from : List ℕ → ℕ → ℕ → List Segment
segments_from file place zero = []
segments_from file place (suc count) = segment_at file place ∷ segments_from file (place + 32) count

abbrev pub segments_of : List ℕ → List Segment
segments_of file = segments_from file (headers_begin file) (header_count file)

-- a segment that can be loaded into a part of memory from a file of so many bytes, or is none to be loaded
pub record IsSegment (base : Base) (len : ℕ) (segment : Segment) : Type 0 where
  -- its type is none of a program that wants an interpreter
  pub own : segment.kind ≢ 3
  pub fits : segment.kind ≡ 1 → segment.file_size ≤ segment.memory_size
  pub aligned : is_loaded segment ≡ true → is_aligned segment ≡ true
  pub behind : is_loaded segment ≡ true → first_page base ≤ page_of segment.address
  pub within : is_loaded segment ≡ true → segment.address + segment.memory_size ≤ 512 * end_page base
  pub there : is_loaded segment ≡ true → file_end segment ≤ len

-- an executable with fixed addresses for the VAX, and its image: each field as the format's specification has it
pub record ElfImage (file : List ℕ) (image : Image) : Type 0 where
  pub long : 52 ≤ length file
  pub class : slice_index file 4 ≡ 1
  pub order : slice_index file 5 ≡ 1
  pub version : slice_index file 6 ≡ 1
  pub kind : half_at file 16 ≡ 2
  pub machine : half_at file 18 ≡ 75
  pub file_version : word_at file 20 ≡ 1
  pub header_bytes : half_at file 40 ≡ 52
  pub program_header_bytes : half_at file 42 ≡ 32
  pub some : 0 < header_count file
  pub few : header_count file ≤ 64
  pub there : headers_begin file + 32 * header_count file ≤ told_len file
  pub base : image.base ≡ base_of (entry_of file)
  pub transfer : image.transfer ≡ entry_of file
  pub segments : All (IsSegment image.base (length file)) (segments_of file)
  pub areas : image.areas ≡ map (area_of image.base file) (filter is_loaded (segments_of file))
  -- no two areas share a page, and the program begins in one of them
  pub formed : IsImage image

-- it begins as a file of the format does
abbrev pub is_executable : List ℕ → Bool
is_executable file = bytes_eq (take 4 file) magic
