-- The directives of data (VAX MACRO and Instruction Set Reference Manual, "VAX MACRO assembler directives": `.BYTE` to
-- `.QUAD`, `.OCTA`, `.SIGNED_BYTE`, `.SIGNED_WORD`, `.ADDRESS`, `.ASCII` to `.ASCIZ`, `.ASCID`, `.BLKB` to `.BLKQ`, `.BLKO`, `.ALIGN`,
-- `.EVEN`, `.ODD`).
use Rattle.std.specs.Prelude.{ℕ, pos, ◌+◌, ◌-◌, ◌*◌, ◌/◌, ◌%◌, ◌^◌, Bool, true, false, ◌&&◌, ◌==◌, nat_lt, nat_le, if◌then◌else◌, List, [], ◌∷◌, length, map, replicate, take, drop, Option, Some, None, Result, Ok, Err, codes}
use Rattle.std.specs.Int.{w64, int_wrapping_add}
use Rattle.vax_asm_encode.specs.Operands.{item_bytes, item_field}
use Rattle.vax_asm_encode.specs.declared.operand.DataKind.{DataKind}
use Rattle.vax_asm_encode.specs.declared.operand.DataKind.TheVariants.{Number}
use Rattle.vax_asm_sections.specs.Layout.{Part, Zeros, Bytes, Field, current_of, gap, is_absolute, only_counts, place_in, put, aligned}
use Rattle.vax_dialect.specs.Differences.{has_empty_items, has_further_directives}
use Rattle.vax_lex.specs.Characters.{spells}
use Rattle.vax_lex.specs.Grammar.{symbols_of}
use Rattle.vax_lex.specs.Tokens.{token_text}
use Rattle.vax_lex.specs.declared.token.Token.{Token}
use Rattle.vax_lex.specs.declared.value.Value.{Value}
use Rattle.vax_lex.specs.declared.value.Value.TheVariants as value
use Rattle.vax_macro.specs.declared.error.FaultKind.{FaultKind}
use Rattle.vax_macro.specs.declared.error.FaultKind.TheVariants as fault
use Rattle.vax_asm_first.specs.Faults.{first_of, lowest, fault_of_value, unless_place, number_of}
use Rattle.vax_asm_first.specs.Fixups.{Filling, Fixup, Known, filling_by}
use Rattle.vax_asm_first.specs.Progress.{Site, Progress, begun, joined, done, added, Counted, counted, site_of}
use Rattle.vax_asm_first.specs.Standing.{Standing, Told, here_at, here_in, misplaces, told, set_back, with_scope, with_sections}
use Rattle.vax_asm_first.specs.declared.types.Content.TheVariants.{Data}
use Rattle.vax_asm_first.specs.declared.types.Origin.{Origin}
use Rattle.vax_asm_scope.specs.Scope.{Scope}
use Rattle.vax_asm_scope.specs.Used.{uses_place}
use Rattle.vax_asm_statement.specs.Items.{Item, item_of, whole, name_alone, Piece, Characters, Value as ByteValue, pieces_of}
use Rattle.vax_asm_statement.specs.Parts.{parts}
use Rattle.vax_word.specs.declared.Size.TheVariants as size

-- More items than a module can have are a fault, and in a section that only counts all are.
abbrev pub too_many : Standing → FaultKind
too_many s = if only_counts (current_of s.sections) then fault.Form else fault.Large

-- An item of data: an expression that a field of this kind holds, so many times.
abbrev pub fixed : DataKind → Site → ℕ → Filling → Standing → Progress
fixed kind site n filling s =
    added (item_bytes kind * n) (Field (record { origin = site.origin; at = (current_of s.sections).size; content = Data kind n; filling = filling })) s

abbrev pub placed_item : DataKind → Site → Option FaultKind → Result ℕ FaultKind → Filling → Standing → Progress
placed_item kind site None (Ok n) filling s = fixed kind site n filling s
placed_item kind site (Some f) (Ok n) filling s = record { fault = Some f; standing = s }
placed_item kind site before (Err f) filling s = record { fault = lowest before (Some f); standing = s }

-- an item's expression where the item stands
abbrev pub item_told : Site → Item → Standing → Told
item_told site item s = told site.dialect (here_at s.dialect site.here (here_in s.sections)) (symbols_of site.line item.expression) s.scope

abbrev pub expression_stated : DataKind → Site → Item → Standing → Progress
expression_stated kind site item s =
    let t = item_told site item s in
    let c = counted site item.count t.scope in
    placed_item kind site (unless_place (misplaces s.dialect (symbols_of site.line item.expression)) (fault_of_value (item_field kind) 0 0 t.settled)) c.number (filling_by t.value t.written) (with_scope c.scope s)

-- an item without an expression
abbrev pub is_nothing : List Token → Bool
is_nothing [] = true
is_nothing (t ∷ tokens) = false

abbrev pub zero_stated : DataKind → Site → Item → Standing → Progress
zero_stated kind site item s =
    let c = counted site item.count s.scope in
    placed_item kind site None c.number (Known (value.Absolute (pos 0))) (with_scope c.scope s)

abbrev pub item_stated : DataKind → Site → Item → Standing → Progress
item_stated kind site item s =
    if is_nothing item.expression && has_empty_items s.dialect then zero_stated kind site item s else expression_stated kind site item s

abbrev pub items_stated : DataKind → Site → List Item → Progress → Progress
items_stated kind site [] p = p
items_stated kind site (item ∷ items) p = items_stated kind site items (joined p.fault (item_stated kind site item p.standing))

-- an operand as an item: written once, or as often as its count says
abbrev pub item_as : Bool → List Token → Item
item_as true tokens = whole tokens
item_as false tokens = item_of tokens

-- there is at least one operand
abbrev pub unless_none : List Token → Result Standing FaultKind → Result Standing FaultKind
unless_none [] r = Err fault.Count
unless_none (t ∷ tokens) r = r

-- `.BYTE`, `.WORD`, `.LONG`, `.QUAD`, `.OCTA`, `.SIGNED_BYTE`, `.SIGNED_WORD`
unfoldable pub data_stated : DataKind → Origin → List ℕ → List Token → Standing → Result Standing FaultKind
data_stated kind origin line tokens s =
    unless_none tokens (done (items_stated kind (site_of origin line s) (map item_of (parts tokens)) (begun s)))

-- `.ADDRESS`: longwords, each written once
unfoldable pub addresses_stated : Origin → List ℕ → List Token → Standing → Result Standing FaultKind
addresses_stated origin line tokens s =
    unless_none tokens (done (items_stated (Number size.L) (site_of origin line s) (map whole (parts tokens)) (begun s)))

-- the characters between two delimiters
abbrev pub characters_of : List ℕ → Token → List ℕ
characters_of line t = let text = token_text line t in take (length text - 2) (drop 1 text)

-- a piece of text
abbrev pub piece_stated : Site → Piece → Standing → Progress
piece_stated site (Characters t) s = added (length (characters_of site.line t)) (Bytes (characters_of site.line t)) s
piece_stated site (ByteValue tokens) s = item_stated (Number size.B) site (whole tokens) s

abbrev pub pieces_stated : Site → List Piece → Progress → Progress
pieces_stated site [] p = p
pieces_stated site (piece ∷ pieces) p = pieces_stated site pieces (joined p.fault (piece_stated site piece p.standing))

-- how many bytes pieces have
abbrev pub piece_length : List ℕ → Piece → ℕ
piece_length line (Characters t) = length (characters_of line t)
piece_length line (ByteValue tokens) = 1

abbrev pub pieces_length : List ℕ → List Piece → ℕ
pieces_length line [] = 0
pieces_length line (piece ∷ pieces) = piece_length line piece + pieces_length line pieces

-- `.ASCII`: the pieces alone; `.ASCIC`: their count first, in a byte; `.ASCIZ`: a zero byte last; `.ASCID`: a descriptor first
pub data Ending : Type 0 where
  Plain : Ending
  Counted_first : Ending
  Zero_last : Ending
  Described : Ending

-- a count that isn't above the most that may be
abbrev pub count_within : (most n : ℕ) → Option ℕ
count_within most n = if nat_le n most then Some n else None

abbrev pub count_stated : Option ℕ → Standing → Progress
count_stated (Some n) s = added 1 (Bytes (n ∷ [])) s
count_stated None s = record { fault = Some fault.Range; standing = s }

-- A descriptor of so many characters (".ASCID"): a word with their count, a byte with the type of data, 14 for text, a byte with
-- the class of the descriptor, 1 for a fixed one, and a longword with the address of the characters, which stand right behind it.
abbrev pub descriptor_head : ℕ → List ℕ
descriptor_head n = n % 256 ∷ n / 256 ∷ 14 ∷ 1 ∷ []

-- a place so many bytes behind another
abbrev pub place_behind : ℕ → Value → Value
place_behind n (value.Absolute x) = value.Absolute (int_wrapping_add w64 x (pos n))
place_behind n (value.Section s x) = value.Section s (int_wrapping_add w64 x (pos n))
place_behind n (value.External i x) = value.External i (int_wrapping_add w64 x (pos n))

abbrev pub address_stated : Site → Progress → Progress
address_stated site p = joined p.fault (fixed (Number size.L) site 1 (Known (place_behind 8 site.here)) p.standing)

abbrev pub descriptor_stated : Option ℕ → Site → Standing → Progress
descriptor_stated (Some n) site s = address_stated site (added 4 (Bytes (descriptor_head n)) s)
descriptor_stated None site s = record { fault = Some fault.Range; standing = s }

abbrev pub before_pieces : Ending → Site → ℕ → Standing → Progress
before_pieces Plain site n s = begun s
before_pieces Counted_first site n s = count_stated (count_within 255 n) s
before_pieces Zero_last site n s = begun s
before_pieces Described site n s = descriptor_stated (count_within 65535 n) site s

abbrev pub behind_pieces : Ending → Progress → Progress
behind_pieces Plain p = p
behind_pieces Counted_first p = p
behind_pieces Described p = p
behind_pieces Zero_last p = joined p.fault (added 1 (Zeros 1) p.standing)

abbrev pub text_parts : Ending → Site → List Piece → Standing → Progress
text_parts ending site pieces s =
    behind_pieces ending (pieces_stated site pieces (before_pieces ending site (pieces_length site.line pieces) s))

abbrev pub text_by : Ending → Site → Standing → Option (List Piece) → Result Standing FaultKind
text_by ending site s None = Err fault.Form
text_by ending site s (Some pieces) = done (text_parts ending site pieces s)

unfoldable pub text_stated : Ending → Origin → List ℕ → List Token → Standing → Result Standing FaultKind
text_stated ending origin line tokens s = unless_none tokens (text_by ending (site_of origin line s) s (pieces_of tokens))

-- `.BLKB`, `.BLKW`, `.BLKL`, `.BLKQ`, `.BLKO`: zero bytes for so many items of this kind
abbrev pub room : DataKind → Standing → Result ℕ FaultKind → Result Standing FaultKind
room kind s (Ok n) = with_sections s (put (item_bytes kind * n) (Zeros (item_bytes kind * n)) s.sections)
room kind s (Err fault) = Err fault

abbrev pub room_by : DataKind → Site → Option (List Token) → Standing → Result Standing FaultKind
room_by kind site count s =
    let c = counted site count s.scope in
    room kind (with_scope c.scope s) c.number

-- at most one operand
abbrev pub at_most_one : List (List Token) → (Option (List Token) → Result Standing FaultKind) → Result Standing FaultKind
at_most_one [] stated = stated None
at_most_one (one ∷ []) stated = stated (Some one)
at_most_one (one ∷ two ∷ more) stated = Err fault.Count

unfoldable pub space_stated : DataKind → Origin → List ℕ → List Token → Standing → Result Standing FaultKind
space_stated kind origin line tokens s =
    at_most_one (parts tokens) (λ count. room_by kind (site_of origin line s) count s)

-- `.ALIGN`: the name of a boundary, else a power of two from 0 to 9
abbrev pub boundary_of : List ℕ → Option ℕ
boundary_of name =
    if spells (codes "BYTE") name then Some 0
    else (if spells (codes "WORD") name then Some 1
    else (if spells (codes "LONG") name then Some 2
    else (if spells (codes "QUAD") name then Some 3
    else (if spells (codes "PAGE") name then Some 9
    else None))))

abbrev pub boundary_by : List ℕ → Option Token → Option ℕ
boundary_by line (Some t) = boundary_of (token_text line t)
boundary_by line None = None

abbrev pub boundary_named : List ℕ → List Token → Option ℕ
boundary_named line tokens = boundary_by line (name_alone line tokens)

abbrev pub power : Result ℕ FaultKind → Result ℕ FaultKind
power (Ok n) = if nat_le n 9 then Ok n else Err fault.Range
power (Err kind) = Err kind

abbrev pub unless_here : Bool → Result ℕ FaultKind → Result ℕ FaultKind
unless_here true r = Err fault.Form
unless_here false r = r

abbrev pub boundary : Site → List Token → Option ℕ → Scope → Counted
boundary site tokens (Some k) s = record { number = Ok k; scope = s }
boundary site tokens None s =
    let symbols = symbols_of site.line tokens in
    let t = told site.dialect site.here symbols s in
    record { number = unless_here (uses_place symbols) (power (number_of t.value)); scope = t.scope }

abbrev pub align_to : Standing → Result ℕ FaultKind → Result Standing FaultKind
align_to s (Ok k) = with_sections s (aligned k s.sections)
align_to s (Err kind) = Err kind

abbrev pub align_by : Site → List Token → Standing → Result Standing FaultKind
align_by site tokens s =
    let c = boundary site tokens (boundary_named site.line tokens) s.scope in
    align_to (with_scope c.scope s) c.number

-- Its second operand, where the dialect has further directives: the byte that it fills with.
abbrev pub byte_of : Result ℕ FaultKind → Result ℕ FaultKind
byte_of (Ok n) = if nat_lt n 256 then Ok n else Err fault.Range
byte_of (Err kind) = Err kind

abbrev pub behind_fill : ℕ → Result Standing FaultKind → Result Standing FaultKind
behind_fill k (Ok s) = with_sections s (aligned k s.sections)
behind_fill k (Err kind) = Err kind

-- so many times this byte; zeros alone are room
abbrev pub filling_with : (byte n : ℕ) → Part Fixup
filling_with byte n = if byte == 0 then Zeros n else Bytes (replicate n byte)

abbrev pub filled_to : (byte k : ℕ) → Standing → Result Standing FaultKind
filled_to byte k s =
    let n = gap (place_in (current_of s.sections)) (2 ^ k) in
    behind_fill k (with_sections s (put n (filling_with byte n) s.sections))

abbrev pub filled_by : Standing → (boundary byte : Result ℕ FaultKind) → Result Standing FaultKind
filled_by s (Ok k) (Ok byte) = filled_to byte k s
filled_by s (Ok k) (Err kind) = Err kind
filled_by s (Err kind) (Ok byte) = Err kind
filled_by s (Err kind) (Err other) = Err (first_of kind other)

abbrev pub fill_by : Site → (boundary byte : List Token) → Standing → Result Standing FaultKind
fill_by site tokens byte s =
    let b = boundary site tokens (boundary_named site.line tokens) s.scope in
    let c = counted site (Some byte) b.scope in
    filled_by (with_scope c.scope s) b.number (byte_of c.number)

abbrev pub fill_where : Bool → Site → (boundary byte : List Token) → Standing → Result Standing FaultKind
fill_where true site tokens byte s = fill_by site tokens byte s
fill_where false site tokens byte s = Err fault.Count

abbrev pub one_or_two : List (List Token) → (List Token → Result Standing FaultKind) → (List Token → List Token → Result Standing FaultKind) → Result Standing FaultKind
one_or_two [] stated both = Err fault.Count
one_or_two (one ∷ []) stated both = stated one
one_or_two (one ∷ two ∷ []) stated both = both one two
one_or_two (one ∷ two ∷ three ∷ more) stated both = Err fault.Count

unfoldable pub align_stated : Origin → List ℕ → List Token → Standing → Result Standing FaultKind
align_stated origin line tokens s =
    one_or_two (parts tokens) (λ one. align_by (site_of origin line s) one s)
    (λ one byte. fill_where (has_further_directives s.dialect) (site_of origin line s) one byte s)

-- `.EVEN`: a multiple of two; it has no operands
unfoldable pub even_stated : List Token → Standing → Result Standing FaultKind
even_stated [] s = with_sections s (aligned 1 s.sections)
even_stated (t ∷ tokens) s = Err fault.Count

-- a place of the section at which it goes on: zero bytes up to it
abbrev pub forward : ℕ → Standing → Result Standing FaultKind
forward to s =
    let place = place_in (current_of s.sections) in
    if nat_lt to place then Err fault.Range else with_sections s (put (to - place) (Zeros (to - place)) s.sections)

-- A place of the section at which it goes on, which may lie before in an absolute one: no bytes stand there.
unfoldable pub moved : ℕ → Standing → Result Standing FaultKind
moved to s =
    let section = current_of s.sections in
    if is_absolute section && nat_lt to (place_in section) then Ok (set_back to s) else forward to s

-- `.ODD`: a zero byte, where the next one would have an even place in its section; it has no operands
abbrev pub to_odd : ℕ → ℕ
to_odd place = 1 - place % 2

unfoldable pub odd_stated : List Token → Standing → Result Standing FaultKind
odd_stated [] s = with_sections s (put (to_odd (place_in (current_of s.sections))) (Zeros (to_odd (place_in (current_of s.sections)))) s.sections)
odd_stated (t ∷ tokens) s = Err fault.Count
