-- The listing of a program's modules: the lines of each with the addresses and the bytes of its statements, its sections and its names; and where
-- the program begins (VAX MACRO and Instruction Set Reference Manual, "VAX MACRO listing").
use Rattle.std.specs.Prelude.{ℕ, ◌+◌, ◌-◌, ◌*◌, ◌/◌, ◌%◌, ◌^◌, Bool, true, false, ◌&&◌, ◌==◌, nat_le, nat_lt, if◌then◌else◌, List, [], ◌∷◌, ◌++◌, length, max, take, drop, replicate, slice_index, codes, decimal, Option, Some, None}
use Rattle.std.specs.List.{filter_map, flat_map, list_all, reduce}
use Rattle.std.specs.Str.{bytes_eq}
use Rattle.vax_outside.specs.Hex.{hex}
use Rattle.vax_lines.specs.Lines.{lines}
use Rattle.vax_space.specs.Areas.{has_page}
use Rattle.vax_space.specs.declared.Area.{Area}
use Rattle.vax_module.specs.declared.Section.{Section}
use Rattle.vax_lex.specs.declared.value.Value.{Value}
use Rattle.vax_lex.specs.declared.value.Value.TheVariants as value
use Rattle.vax_link.specs.Names.{low_longword}
use Rattle.vax_asm_listing.specs.declared.types.Label.{Label}
use Rattle.vax_asm_listing.specs.declared.types.Row.{Row}

abbrev pub blanks : ℕ → List ℕ
blanks n = replicate n 32

-- ---- The bytes of a statement

-- the bytes that areas have from an address on, at most so many
unfoldable pub bytes_at : (addr count : ℕ) → List Area → List ℕ
bytes_at addr count [] = []
bytes_at addr count (area ∷ areas) =
    if has_page area (addr / 512) then take count (drop (addr - 512 * area.first) area.bytes) else bytes_at addr count areas

-- a byte in two digits, behind a blank
abbrev pub cell : ℕ → List ℕ
cell b = 32 ∷ hex 2 b

-- More than eight bytes that are all 0, as those of `.BLKB`, are counted.
abbrev pub is_zero : List ℕ → Bool
is_zero bytes = list_all (λ b. b == 0) bytes

unfoldable pub is_filler : List ℕ → Bool
is_filler bytes = nat_lt 8 (length bytes) && is_zero bytes

-- what stands beside a statement: its first eight bytes, or how many it has
abbrev pub column_by : Bool → List ℕ → List ℕ
column_by true bytes = codes " 00 * " ++ decimal (length bytes)
column_by false bytes = flat_map cell (take 8 bytes)

unfoldable pub column : List ℕ → List ℕ
column bytes = column_by (is_filler bytes) bytes

-- the rest of them, eight a line, each behind the address of its first; so many stand on the line already
abbrev pub cell_begin : (place addr : ℕ) → List ℕ
cell_begin place addr = if place == 0 then blanks 7 ++ hex 8 addr else []

abbrev pub cell_end : ℕ → List ℕ
cell_end place = if place == 7 then 10 ∷ [] else []

abbrev pub next_place : ℕ → ℕ
next_place place = if place == 7 then 0 else place + 1

unfoldable pub more_from : (place addr : ℕ) → List ℕ → List ℕ
more_from place addr [] = if place == 0 then [] else 10 ∷ []
more_from place addr (b ∷ bytes) =
    cell_begin place addr ++ (cell b ++ (cell_end place ++ more_from (next_place place) ((addr + 1) % 2 ^ 32) bytes))

abbrev pub more_by : Bool → (addr : ℕ) → List ℕ → List ℕ
more_by true addr bytes = []
more_by false addr bytes = more_from 0 ((addr + 8) % 2 ^ 32) (drop 8 bytes)

-- ---- Lines

-- a number in a column of six
unfoldable pub number_cell : ℕ → List ℕ
number_cell n = blanks (6 - length (decimal n)) ++ decimal n

-- A statement that is the whole line stands in it. Any other, as one of an expansion, has a line of its own, marked.
abbrev pub head : Option ℕ → List ℕ
head (Some n) = number_cell n
head None = codes "     +"

abbrev pub indent : Option ℕ → ℕ
indent (Some n) = 0
indent None = 4

-- a text behind a column, if it isn't empty
abbrev pub text_behind : (gap text : List ℕ) → List ℕ
text_behind gap [] = 10 ∷ []
text_behind gap (c ∷ text) = gap ++ ((c ∷ text) ++ 10 ∷ [])

unfoldable pub statement_lines : Option ℕ → (addr : ℕ) → (bytes text : List ℕ) → List ℕ
statement_lines number addr bytes text =
    head number ++ (32 ∷ hex 8 addr ++ (column bytes ++ (text_behind (blanks (26 - length (column bytes) + indent number)) text
    ++ more_by (is_filler bytes) addr bytes)))

-- a line that is no statement
unfoldable pub plain_line : ℕ → List ℕ → List ℕ
plain_line number text = number_cell number ++ text_behind (blanks 35) text

-- what a module's rows are listed by: the image's areas, and where the module's sections lie
pub record Placing : Type 0 where
  pub areas : List Area
  pub places : List ℕ

-- An absolute section is at address 0. It has no bytes, and neither has another that only counts.
abbrev pub address_of : Placing → Row → ℕ
address_of p row = if row.absolute then row.begin else (slice_index p.places row.section + row.begin) % 2 ^ 32

abbrev pub bytes_of : Placing → Row → List ℕ
bytes_of p row = if row.counts then [] else bytes_at (address_of p row) (row.end - row.begin) p.areas

abbrev pub row_lines : Placing → Option ℕ → Row → List ℕ
row_lines p number row = statement_lines number (address_of p row) (bytes_of p row) row.text

abbrev pub is_of : ℕ → Row → Bool
is_of number row = row.origin.line == number

-- The rows that stand behind a line: those of the line that aren't it, and those of lines before. Copies of a repeat are of the line with which it begins, and
-- a label of the line with which it ends stands before them.
abbrev pub is_up_to : ℕ → Row → Bool
is_up_to number row = nat_le row.origin.line number

-- these rows, and those that are left
unfoldable pub others_lines : Placing → (number : ℕ) → List Row → List ℕ
others_lines p number [] = []
others_lines p number (row ∷ rows) = if is_up_to number row then row_lines p None row ++ others_lines p number rows else []

unfoldable pub others_left : (number : ℕ) → List Row → List Row
others_left number [] = []
others_left number (row ∷ rows) = if is_up_to number row then others_left number rows else row ∷ rows

abbrev pub is_own : (number : ℕ) → List ℕ → Row → Bool
is_own number text row = is_of number row && bytes_eq row.text text

unfoldable pub own_lines : Placing → (number : ℕ) → List ℕ → List Row → List ℕ
own_lines p number text [] = plain_line number text
own_lines p number text (row ∷ rows) = if is_own number text row then row_lines p (Some number) row else plain_line number text

unfoldable pub own_left : (number : ℕ) → List ℕ → List Row → List Row
own_left number text [] = []
own_left number text (row ∷ rows) = if is_own number text row then rows else row ∷ rows

-- a line of the source with its statements
unfoldable pub line_lines : Placing → (number : ℕ) → List ℕ → List Row → List ℕ
line_lines p number text rows = own_lines p number text rows ++ others_lines p number (own_left number text rows)

abbrev pub line_left : (number : ℕ) → List ℕ → List Row → List Row
line_left number text rows = others_left number (own_left number text rows)

-- the lines of a source, behind so many
unfoldable pub source_lines : Placing → ℕ → List (List ℕ) → List Row → List ℕ
source_lines p number [] rows = []
source_lines p number (text ∷ texts) rows =
    line_lines p (number + 1) text rows ++ source_lines p (number + 1) texts (line_left (number + 1) text rows)

-- the rows that are left behind them
unfoldable pub source_left : ℕ → List (List ℕ) → List Row → List Row
source_left number [] rows = rows
source_left number (text ∷ texts) rows = source_left (number + 1) texts (line_left (number + 1) text rows)

-- ---- Sections and names

abbrev pub attribute : Bool → List ℕ
attribute true = codes " WRT   "
attribute false = codes " NOWRT "

-- the name of a section
abbrev pub name_cell : List ℕ → List ℕ
name_cell [] = codes ". BLANK ."
name_cell (c ∷ name) = c ∷ name

-- where a statement of this section ends, if that is absolute
abbrev pub end_in : (number : ℕ) → Row → Option ℕ
end_in number row = if row.absolute && row.section == number then Some row.end else None

-- How far an absolute section has counted: to the farthest end of its statements. Any other has none, and an absolute one has one at least, the `.PSECT`
-- that chose it first.
unfoldable pub counted_in : (number : ℕ) → List Row → Option ℕ
counted_in number rows = reduce max (filter_map (end_in number) rows)

-- An absolute section is at address 0, wherever others lie.
abbrev pub begin_by : (counted : Option ℕ) → (place : ℕ) → ℕ
begin_by (Some n) place = 0
begin_by None place = place

-- how far an absolute section has counted, or how many bytes another has or lays over others
abbrev pub extent_by : (counted : Option ℕ) → Section → ℕ
extent_by (Some n) s = n
extent_by None s = max (length s.bytes) s.storage

-- a section: where it lies, how long it is, whether it may be written, and its name
unfoldable pub section_line : (place : ℕ) → (counted : Option ℕ) → Section → List ℕ
section_line place counted s =
    hex 8 (begin_by counted place) ++ (32 ∷ number_cell (extent_by counted s) ++ (attribute s.write ++ (name_cell s.name ++ 10 ∷ [])))

-- the sections of a module with these rows, behind so many
unfoldable pub section_lines : Placing → List Row → ℕ → List Section → List ℕ
section_lines p rows number [] = []
section_lines p rows number (s ∷ sections) =
    section_line (slice_index p.places number) (counted_in number rows) s ++ section_lines p rows (number + 1) sections

abbrev pub external_cell : List ℕ
external_cell = codes "         EXT "

-- what a name is worth: an address, a number, or what another module says
abbrev pub value_cell : Placing → Option Value → List ℕ
value_cell p None = external_cell
value_cell p (Some (value.External index offset)) = external_cell
value_cell p (Some (value.Absolute n)) = hex 8 (low_longword n) ++ codes " ABS "
value_cell p (Some (value.Section section offset)) = hex 8 ((slice_index p.places section + low_longword offset) % 2 ^ 32) ++ codes " REL "

abbrev pub global_cell : Bool → List ℕ
global_cell true = codes "GLOBAL "
global_cell false = codes "       "

unfoldable pub label_line : Placing → Label → List ℕ
label_line p l = value_cell p l.value ++ (global_cell l.global ++ (l.name ++ 10 ∷ []))

unfoldable pub label_lines : Placing → List Label → List ℕ
label_lines p labels = flat_map (label_line p) labels

-- ---- Modules

abbrev pub title : ℕ → List ℕ
title number = codes "MODULE " ++ (decimal number ++ 10 ∷ [])

-- what is listed of a module
pub record Part : Type 0 where
  pub source : List ℕ
  pub sections : List Section
  pub rows : List Row
  pub labels : List Label

-- a module, by its number: the lines of its source, its sections, and its names
unfoldable pub module_lines : Placing → (number : ℕ) → Part → List ℕ
module_lines p number m =
    title number ++ (source_lines p 0 (lines m.source) m.rows
    ++ ((codes "SECTIONS" ++ 10 ∷ []) ++ (section_lines p m.rows 0 m.sections
    ++ ((codes "NAMES" ++ 10 ∷ []) ++ label_lines p m.labels))))

-- modules behind so many; the first places are those of the first one's sections
unfoldable pub modules_lines : List Area → (places : List ℕ) → (number : ℕ) → List Part → List ℕ
modules_lines areas places number [] = []
modules_lines areas places number (m ∷ modules) =
    module_lines (record { areas = areas; places = take (length m.sections) places }) (number + 1) m
    ++ modules_lines areas (drop (length m.sections) places) (number + 1) modules

-- a program of these modules, and the address at which it begins
unfoldable pub listing_of : List Area → (places : List ℕ) → List Part → (transfer : ℕ) → List ℕ
listing_of areas places modules transfer =
    modules_lines areas places 0 modules ++ (codes "ENTRY " ++ (hex 8 transfer ++ 10 ∷ []))
