-- The text of a vector: one JSON object in a line. The number of its fields and their order are fixed, numbers are decimal, and no space is
-- between its tokens.
use Rattle.std.specs.Prelude.{ℕ, ◌*◌, suc, zero, nat_lt, ◌==◌, ◌||◌, if◌then◌else◌, List, [], ◌∷◌, ◌++◌, Bool, true, false, codes, decimal, None, Some, length}
use Rattle.std.specs.List.{flat_map}
use Rattle.vax_word.specs.declared.Core.{Core}
use Rattle.vax_space.specs.declared.Access.{Access}
use Rattle.vax_space.specs.declared.Access.TheVariants.{Read, Write}
use Rattle.vax_flat.specs.declared.Ending.{Ending}
use Rattle.vax_flat.specs.declared.Ending.TheVariants.{Halt, Vector as ByVector, Stack, Scb, Change}
use Rattle.vax_vectors.specs.declared.vector.Cell.{Cell}
use Rattle.vax_vectors.specs.declared.vector.Page.{Page}
use Rattle.vax_vectors.specs.declared.vector.Touch.{Touch}
use Rattle.vax_vectors.specs.declared.vector.Ends.{Ends}
use Rattle.vax_vectors.specs.declared.vector.Ends.TheVariants.{Step, Part, Absent, Ended}
use Rattle.vax_vectors.specs.declared.vector.Start.{Start}
use Rattle.vax_vectors.specs.declared.vector.End.{End}
use Rattle.vax_vectors.specs.declared.vector.Vector.{Vector}
use Rattle.vax_vectors.specs.Choices.{rests_on_choice}

-- a comma before each item but the first
unfoldable pub comma_before : ℕ → List ℕ
comma_before zero = []
comma_before (suc k) = codes ","

-- items with commas between them, of which so many stand before these
unfoldable pub items_from : {A : Type 0} → ℕ → (A → List ℕ) → List A → List ℕ
items_from k text [] = []
items_from k text (x ∷ xs) = comma_before k ++ text x ++ items_from (suc k) text xs

-- an array
unfoldable pub array : {A : Type 0} → (A → List ℕ) → List A → List ℕ
array text xs = codes "[" ++ items_from 0 text xs ++ codes "]"

-- a character of a string: quotes, backslashes and what isn't printable ASCII as numbers
unfoldable pub character : ℕ → List ℕ
character c = if nat_lt c 32 || nat_lt 126 c || c == 34 || c == 92 then codes "?" else c ∷ []

unfoldable pub string : List ℕ → List ℕ
string bytes = codes "\"" ++ flat_map character bytes ++ codes "\""

-- an address and the byte there
unfoldable pub cell_text : Cell → List ℕ
cell_text cell = codes "[" ++ decimal cell.addr ++ codes "," ++ decimal cell.byte ++ codes "]"

-- the address of a page, and its protection code
unfoldable pub page_text : Page → List ℕ
page_text page = codes "[" ++ decimal (512 * page.number) ++ codes "," ++ decimal page.prot ++ codes "]"

-- a page by its address
unfoldable pub address_text : ℕ → List ℕ
address_text page = decimal (512 * page)

abbrev pub letter : Access → List ℕ
letter Read = codes "\"r\""
letter Write = codes "\"w\""

-- whether it was read or written, its address, its length and its bytes
unfoldable pub touch_text : Touch → List ℕ
touch_text touch =
    codes "[" ++ letter touch.access ++ codes "," ++ decimal touch.addr ++ codes "," ++ decimal (length touch.bytes.items) ++ codes ","
    ++ array decimal touch.bytes.items ++ codes "]"

abbrev pub ending_text : Ending → List ℕ
ending_text Halt = codes "\"halt\""
ending_text (ByVector offset) = codes "\"vector\"," ++ decimal offset
ending_text Stack = codes "\"stack\""
ending_text Scb = codes "\"scb\""
ending_text Change = codes "\"change\""

-- how the step ended; a byte that was sent to the console stands behind "step", a page by its address
abbrev pub ends_text : Ends → List ℕ
ends_text (Step None) = codes "[\"step\"]"
ends_text (Step (Some byte)) = codes "[\"step\"," ++ decimal byte ++ codes "]"
ends_text (Part opcode units) = codes "[\"part\"," ++ decimal opcode ++ codes "," ++ decimal units ++ codes "]"
ends_text (Absent page) = codes "[\"absent\"," ++ address_text page ++ codes "]"
ends_text (Ended ending) = codes "[\"ended\"," ++ ending_text ending ++ codes "]"

-- the fields of the registers
unfoldable pub registers : Core → List ℕ
registers core =
    codes "\"regs\":" ++ array decimal core.regs ++ codes ",\"psl\":" ++ decimal core.psl.0 ++ codes ",\"stacks\":" ++ array decimal core.stacks
    ++ codes ",\"sisr\":" ++ decimal core.sisr ++ codes ",\"iccs\":" ++ decimal core.iccs ++ codes ",\"clock\":" ++ decimal core.clock

-- the fields of memory
unfoldable pub memory_text : Start → List ℕ
memory_text start =
    codes ",\"pages\":" ++ array page_text start.pages.items ++ codes ",\"absent\":" ++ array address_text start.absent.items
    ++ codes ",\"ram\":" ++ array cell_text start.ram.items

-- what the step begins with
unfoldable pub initial_text : Start → List ℕ
initial_text start = codes "\"initial\":{" ++ registers start.core ++ memory_text start ++ codes "}"

-- what it leaves
unfoldable pub final_text : End → List ℕ
final_text end = codes "\"final\":{" ++ registers end.core ++ codes ",\"ram\":" ++ array cell_text end.ram.items ++ codes "}"

-- what it touches
unfoldable pub touched_text : Vector → List ℕ
touched_text v =
    codes "\"touched\":" ++ array address_text v.touched.items ++ codes ",\"accesses\":" ++ array touch_text v.end.touches.items

unfoldable pub states_text : Vector → List ℕ
states_text v = codes "," ++ initial_text v.start ++ codes "," ++ final_text v.end ++ codes ","

-- whether its outcome rests on this machine's choice
abbrev pub truth : Bool → List ℕ
truth true = codes "true"
truth false = codes "false"

-- the line of a vector
unfoldable pub json_text : Vector → List ℕ
json_text v =
    codes "{\"name\":" ++ string v.name.items ++ states_text v ++ touched_text v ++ codes ",\"ends\":" ++ ends_text v.end.ends
    ++ codes ",\"profile\":" ++ truth (rests_on_choice v) ++ codes "}\n"
