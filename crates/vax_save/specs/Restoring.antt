-- Reading a saved state from its first field to its last, with the first fault that is met and where its field begins.
use Rattle.std.specs.Prelude.{◌≡◌, ℕ, zero, suc, ◌+◌, ◌^◌, ◌%◌, Bool, false, not, ◌&&◌, ◌||◌, ◌==◌, nat_lt, if◌then◌else◌, Option, Some, None, is_some, List, [], ◌∷◌, ◌++◌, length, take, drop, replicate, Result, Ok, Err}
use Rattle.std.specs.List.{list_any}
use Rattle.std.specs.Str.{bytes_eq}
use Rattle.std.specs.Prelude.{codes}
use Rattle.byteorder.specs.Endian.{little_number}
use Rattle.vax_word.specs.declared.Core.{Core}
use Rattle.vax_word.specs.Status.{field, is_one, mode_of}
use Rattle.vax_space.specs.declared.Access.{Access}
use Rattle.vax_space.specs.declared.Access.TheVariants.{Read, Write}
use Rattle.vax_space.specs.declared.Area.{Area}
use Rattle.vax_space.specs.Areas.{end_of}
use Rattle.vax_space.specs.Faults.{is_placed, is_protection}
use Rattle.vax_space.specs.Reference.{violation}
use Rattle.vax_strpart.specs.declared.packing.Progress.{Progress}
use Rattle.vax_strpart.specs.Packing.{unpacked}
use Rattle.vax_flat.specs.Step.{Flat}
use Rattle.vax_flat.specs.StringCompare.{pairs_of}
use Rattle.vax_flat.specs.StringMove.{moved_count}
use Rattle.vax_cpu.specs.declared.cpu.Open.{Open}
use Rattle.vax_save.specs.declared.SaveError.{SaveError}
use Rattle.vax_save.specs.declared.SaveError.TheVariants.{Fault, NoMemory}
use Rattle.vax_save.specs.declared.cursor.Role.{Role}
use Rattle.vax_save.specs.declared.cursor.Role.TheVariants.{Now, Start}
use Rattle.vax_save.specs.Kinds.{no_magic, other_version, many_steps, wrong_core, wrong_open, wrong_input, wrong_area, ends_early, goes_on, wrong_page}
use Rattle.vax_save.specs.Saved.{end_mark, is_blank, no_opcode}

-- what is left of a file, and the offset at which that begins
pub record Cursor : Type 0 where
  pub place : ℕ
  pub rest : List ℕ

infixl 10 ◌>>=◌
abbrev pub ◌>>=◌ : {A B : Type 0} → Result A SaveError → (A → Result B SaveError) → Result B SaveError
(Ok x) >>= f = f x
(Err e) >>= f = Err e

-- what a function returned, seen by view, is what reading gives, unless memory was refused
abbrev pub Fails : {Y : Type 0} → SaveError → Result Y SaveError → Type 0
Fails NoMemory read = Unit {0}
Fails (Fault place kind) read = read ≡ Err (Fault place kind)

abbrev pub Gives : {X Y : Type 0} → (X → Y) → Result X SaveError → Result Y SaveError → Type 0
Gives view (Ok x) read = read ≡ Ok (view x)
Gives view (Err e) read = Fails e read

-- a field that is sound gives its value and what stands behind it
abbrev pub unless : {X : Type 0} → Bool → ℕ → ℕ → X → Result X SaveError
unless faulty place kind x = if faulty then Err (Fault place kind) else Ok x

unfoldable pub bytes_at : ℕ → Cursor → Result (List ℕ × Cursor) SaveError
bytes_at len from = unless (nat_lt (length from.rest) len) from.place ends_early (take len from.rest, record { place = from.place + len; rest = drop len from.rest })

unfoldable pub number_at : ℕ → Cursor → Result (ℕ × Cursor) SaveError
number_at len from = do
  bytes ← bytes_at len from
  Ok (little_number len bytes.0, bytes.1)

-- a number that isn't faulty
abbrev pub sound_at : ℕ → ℕ → (ℕ → Bool) → Cursor → Result (ℕ × Cursor) SaveError
sound_at len kind faulty from = do
  n ← number_at len from
  unless (faulty n.0) from.place kind n

-- so many longwords
unfoldable pub longwords_at : ℕ → Cursor → Result (List ℕ × Cursor) SaveError
longwords_at zero from = Ok ([], from)
longwords_at (suc count) from = do
  first ← number_at 4 from
  others ← longwords_at count first.1
  Ok (first.0 ∷ others.0, others.1)

unfoldable pub magic_at : Cursor → Result Cursor SaveError
magic_at from = do
  bytes ← bytes_at 4 from
  unless (not (bytes_eq bytes.0 (codes "VAXS"))) from.place no_magic bytes.1

-- a word that must have this value
abbrev pub version_at : ℕ → Cursor → Result (ℕ × Cursor) SaveError
version_at value from = sound_at 2 other_version (λ n. not (n == value)) from

-- how many steps were completed
unfoldable pub steps_at : Cursor → Result (ℕ × Cursor) SaveError
steps_at from = do
  version ← version_at 1 from
  spare ← version_at 0 version.1
  sound_at 8 many_steps (λ n. nat_lt (10 ^ 18) n) spare.1

abbrev pub is_string : ℕ → Bool
is_string opcode = list_any (λ code. code == opcode) (0x28 ∷ 0x29 ∷ 0x2A ∷ 0x2B ∷ 0x2C ∷ 0x2D ∷ 0x2E ∷ 0x2F ∷ 0x39 ∷ 0x3A ∷ 0x3B ∷ [])

-- of a processor status longword: a bit that must be 0, trace, trace pending or compatibility mode is set
abbrev pub has_wrong_bits : ℕ → Bool
has_wrong_bits psl = not (field psl 8 8 == 0) || (is_one psl 21 || (not (field psl 28 4 == 0) || is_one psl 4))

-- the opcode, which stands 30 bytes on, where the file has all of it
unfoldable pub opcode_ahead : Cursor → Option ℕ
opcode_ahead from = if nat_lt (length from.rest) 32 then None else Some (little_number 2 (take 2 (drop 30 from.rest)))

-- first part done is set exactly where a string instruction is open
abbrev pub opens_wrongly : Option ℕ → ℕ → Bool
opens_wrongly None psl = false
opens_wrongly (Some opcode) psl = if is_string opcode then not (is_one psl 27) else ((opcode == no_opcode) && is_one psl 27)

-- first part done is wrong in the registers at this role, whose status stands so
abbrev pub is_part_wrong : Role → Cursor → ℕ → Bool
is_part_wrong Now from psl = opens_wrongly (opcode_ahead from) psl
is_part_wrong Start from psl = is_one psl 27

abbrev pub opcode_kind : Role → ℕ
opcode_kind Now = wrong_open
opcode_kind Start = wrong_core

-- no opcode stands so in the registers at this role
abbrev pub is_opcode_wrong : Role → ℕ → Bool
is_opcode_wrong Now opcode = not ((opcode == no_opcode) || is_string opcode)
is_opcode_wrong Start opcode = not (opcode == 0)

-- the status longword
unfoldable pub status_at : Role → Cursor → Result (ℕ × Cursor) SaveError
status_at role from = sound_at 4 wrong_core (λ psl. has_wrong_bits psl || is_part_wrong role from psl) from

-- what stands behind the stack pointers: the requests, the clock and an opcode
pub record Behind : Type 0 where
  pub sisr : ℕ
  pub iccs : ℕ
  pub clock : ℕ
  pub opcode : ℕ

abbrev pub requests_at : Cursor → Result (ℕ × Cursor) SaveError
requests_at from = sound_at 2 wrong_core (λ n. is_one n 0) from

-- with the byte behind it
unfoldable pub control_at : Cursor → Result (ℕ × Cursor) SaveError
control_at from = do
  iccs ← sound_at 1 wrong_core (λ n. not (n % 64 == 0)) from
  spare ← sound_at 1 wrong_core (λ n. not (n == 0)) iccs.1
  Ok (iccs.0, spare.1)

abbrev pub clock_at : Cursor → Result (ℕ × Cursor) SaveError
clock_at from = sound_at 2 wrong_core (λ n. nat_lt 999 n) from

abbrev pub opcode_at : Role → Cursor → Result (ℕ × Cursor) SaveError
opcode_at role from = sound_at 2 (opcode_kind role) (is_opcode_wrong role) from

unfoldable pub behind_at : Role → Cursor → Result (Behind × Cursor) SaveError
behind_at role from = do
  sisr ← requests_at from
  iccs ← control_at sisr.1
  clock ← clock_at iccs.1
  opcode ← opcode_at role clock.1
  Ok (record { sisr = sisr.0; iccs = iccs.0; clock = clock.0; opcode = opcode.0 }, opcode.1)

-- the registers with their opcode
unfoldable pub core_at : Role → Cursor → Result ((Core × ℕ) × Cursor) SaveError
core_at role from = do
  regs ← longwords_at 16 from
  psl ← status_at role regs.1
  stacks ← longwords_at 5 psl.1
  behind ← behind_at role stacks.1
  Ok ((record { regs = regs.0; psl = record { 0 = psl.0 }; stacks = stacks.0; sisr = behind.0.sisr; iccs = behind.0.iccs; clock = behind.0.clock }, behind.0.opcode), behind.1)

abbrev pub units_at : Cursor → Result (ℕ × Cursor) SaveError
units_at from = sound_at 4 wrong_open (λ n. n == 0) from

-- the string instruction that is open with this opcode, if one is
unfoldable pub open_at : ℕ → Cursor → Result (Option Open × Cursor) SaveError
open_at opcode from = if opcode == no_opcode then Ok (None, from) else (do
  units ← units_at from
  start ← core_at Start units.1
  Ok (Some (record { opcode = opcode; start = start.0.0; units = units.0 }), start.1))

-- how much of the input is taken, and the input
unfoldable pub input_at : Cursor → Result ((ℕ × List ℕ) × Cursor) SaveError
input_at from = do
  taken ← number_at 4 from
  len ← number_at 4 taken.1
  sound ← unless (nat_lt len.0 taken.0) from.place wrong_input len
  bytes ← bytes_at sound.0 sound.1
  Ok ((taken.0, bytes.0), bytes.1)

abbrev pub placed : ℕ → ℕ → ℕ → Area
placed first pages prot = record { first = first; pages = pages; prot = prot; bytes = [] }

abbrev pub is_placed_so : ℕ → ℕ → Bool
is_placed_so first pages = is_placed (placed first pages 0)

-- the first page and the number of the pages of an area that stands at page `low` or behind it
unfoldable pub extent_at : ℕ → Cursor → Result ((ℕ × ℕ) × Cursor) SaveError
extent_at low from = do
  first ← number_at 4 from
  pages ← number_at 4 first.1
  unless (nat_lt first.0 low || not (is_placed_so first.0 pages.0)) from.place wrong_area ((first.0, pages.0), pages.1)

abbrev pub protection_at : Cursor → Result (ℕ × Cursor) SaveError
protection_at from = sound_at 4 wrong_area (λ code. not (is_protection code)) from

-- an area that stands at page `low` or behind it, with none of its bytes
unfoldable pub area_at : ℕ → Cursor → Result (Area × Cursor) SaveError
area_at low from = do
  extent ← extent_at low from
  prot ← protection_at extent.1
  Ok (placed extent.0.0 extent.0.1 prot.0, prot.1)

-- so many areas, each behind the one before it
unfoldable pub areas_at : ℕ → ℕ → Cursor → Result (List Area × Cursor) SaveError
areas_at low zero from = Ok ([], from)
areas_at low (suc count) from = do
  first ← area_at low from
  others ← areas_at (end_of first.0) count first.1
  Ok (first.0 ∷ others.0, others.1)

unfoldable pub count_at : Cursor → Result (ℕ × Cursor) SaveError
count_at from = sound_at 4 wrong_area (λ n. (n == 0) || nat_lt 256 n) from

-- the bytes of a page, not all of them 0
unfoldable pub page_at : Cursor → Result (List ℕ × Cursor) SaveError
page_at from = do
  bytes ← bytes_at 512 from
  unless (is_blank bytes.0) from.place wrong_page bytes

-- the bytes of a page: those that stand next with its number, and zeros where another number stands there
unfoldable pub page_or_zeros : ℕ → Cursor → Result (List ℕ × Cursor) SaveError
page_or_zeros page from = do
  number ← number_at 4 from
  if number.0 == page then page_at number.1 else Ok (replicate 512 0, from)

-- the bytes of so many pages from this one on
unfoldable pub pages_at : ℕ → ℕ → Cursor → Result (List ℕ × Cursor) SaveError
pages_at page zero from = Ok ([], from)
pages_at page (suc count) from = do
  here ← page_or_zeros page from
  others ← pages_at (page + 1) count here.1
  Ok (here.0 ++ others.0, others.1)

-- the areas with their bytes
unfoldable pub filled_at : List Area → Cursor → Result (List Area × Cursor) SaveError
filled_at [] from = Ok ([], from)
filled_at (area ∷ areas) from = do
  bytes ← pages_at area.first area.pages from
  others ← filled_at areas bytes.1
  Ok (record area { bytes = bytes.0 } ∷ others.0, others.1)

-- The mark behind the last page. Another number there is that of a page that doesn't ascend, or that lies in no area.
unfoldable pub mark_at : Cursor → Result (ℕ × Cursor) SaveError
mark_at from = sound_at 4 wrong_page (λ n. not (n == end_mark)) from

-- the memory: the areas, and their bytes
unfoldable pub memory_at : Cursor → Result (List Area × Cursor) SaveError
memory_at from = do
  count ← count_at from
  areas ← areas_at 0 count.0 count.1
  filled ← filled_at areas.0 areas.1
  mark ← mark_at filled.1
  Ok (filled.0, mark.1)

-- what the fields say, one behind the other, and what stands behind them
pub record Contents : Type 0 where
  pub steps : ℕ
  pub core : Core
  pub latch : Option Open
  pub taken : ℕ
  pub input : List ℕ
  pub memory : List Area
  pub end : Cursor

unfoldable pub contents_at : Cursor → Result Contents SaveError
contents_at from = do
  body ← magic_at from
  steps ← steps_at body
  core ← core_at Now steps.1
  latch ← open_at core.0.1 core.1
  input ← input_at latch.1
  memory ← memory_at input.1
  Ok (record { steps = steps.0; core = core.0.0; latch = latch.0; taken = input.0.0; input = input.0.1; memory = memory.0; end = memory.1 })

-- how many bytes a moving instruction moves
abbrev pub moved_in : Progress → ℕ
moved_in p = moved_count p

-- how many units a string instruction has at most, by its registers
abbrev pub units_in : Progress → ℕ
units_in p =
    if p.op == 0x2F then moved_count p
    else if p.op == 0x39 then p.len1
    else if (p.op == 0x29) || (p.op == 0x2D) then pairs_of p
    else p.len2

-- a range may not be used in the mode of these registers
abbrev pub fails : List Area → Core → ℕ → ℕ → Access → Bool
fails memory core addr len access = is_some (violation memory addr len (mode_of core.psl) access)

-- how many bytes a writing instruction writes
abbrev pub written_in : Progress → ℕ
written_in p = if p.op == 0x2F then moved_count p else p.len2

abbrev pub is_translating : Progress → Bool
is_translating p = (p.op == 0x2E) || (p.op == 0x2F)

abbrev pub is_writing : Progress → Bool
is_writing p = (p.op == 0x28) || ((p.op == 0x2C) || is_translating p)

-- a range that a writing instruction checks at its start may not be used: what it reads, the table, what it writes
abbrev pub ranges_fail : List Area → Core → Progress → Bool
ranges_fail memory core p =
    is_writing p
    && (fails memory core p.addr1 (moved_count p) Read
    || ((is_translating p && (nat_lt 0 (moved_count p) && fails memory core p.table 256 Read))
    || fails memory core p.addr2 (written_in p) Write))

-- a string instruction has more units done than there are, or its ranges may not be used
abbrev pub is_overdone : Option Open → List Area → Core → Bool
is_overdone None memory core = false
is_overdone (Some latched) memory core =
    let p = unpacked latched.opcode (take 6 core.regs) in
    nat_lt (units_in p) p.done || ranges_fail memory core p

-- the offset of the opcode in the first registers
abbrev pub opcode_place : ℕ
opcode_place = 110

-- a flat machine with no output that goes on, the string instruction that is open, and how many steps were completed
pub record Restored : Type 0 where
  pub machine : Flat
  pub latch : Option Open
  pub steps : ℕ

abbrev pub state_of : Contents → Restored
state_of c = record {
  machine = record { core = c.core; memory = c.memory; input = c.input; taken = c.taken; output = []; ending = None };
  latch = c.latch;
  steps = c.steps;
}

-- no bytes behind the last field, and a string instruction that may go on
unfoldable pub ended : Contents → Result Restored SaveError
ended c = do
  all ← unless (not (length c.end.rest == 0)) c.end.place goes_on c
  unless (is_overdone all.latch all.memory all.core) opcode_place wrong_open (state_of all)

-- all of the bytes
unfoldable pub restored : List ℕ → Result Restored SaveError
restored bytes = do
  contents ← contents_at (record { place = 0; rest = bytes })
  ended contents
