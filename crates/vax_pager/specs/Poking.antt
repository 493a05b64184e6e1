-- What bytes that are written from outside make of a pager.
use Rattle.std.specs.Prelude.{ℕ, zero, suc, ◌≡◌, ◌≤◌, ◌+◌, ◌-◌, ◌*◌, ◌<◌, ◌||◌, Bool, true, false, Option, Some, Result, Ok, Err, List, [], ◌∷◌, ◌++◌, length, slice_index}
use Rattle.std.specs.Option.{option_map}
use Rattle.vax_space.specs.declared.Area.{Area}
use Rattle.vax_space.specs.Areas.{block_of}
use Rattle.vax_space.specs.Reference.{byte_after, page_of}
use Rattle.vax_outside.specs.Blocks.{BlockFile, after_read}
use Rattle.vax_flat.specs.Memory.{byte_at, written_run}
use Rattle.vax_flat.specs.Port.{StandsFor, is_in}
use Rattle.vax_pager.specs.Calls.{FillsFrame, IsLeft, IsPaging, came, file_after, source}
use Rattle.vax_pager.specs.Listing.{is_listed}
use Rattle.vax_pager.specs.Paging.{Keeps, Paging, StandsWith, view_of}
use Rattle.vax_pager.specs.Steps.{OnlyWritten, settled}
use Rattle.vax_pager.specs.declared.calls.PageFault.{PageFault}

-- the bytes of a page of each memory that the pager stands for with this file
abbrev pub IsPage : Paging → Option BlockFile → ℕ → List ℕ → Type 0
IsPage s file page bytes = (memory : List Area) → StandsWith s file memory → (k : ℕ) → k < 512 → slice_index bytes k ≡ byte_at memory (512 * page + k)

-- what a page file tells, whatever was read of it
abbrev pub unread : BlockFile → BlockFile
unread file = record file { reads = 0 }

abbrev pub without_reads : Option BlockFile → Option BlockFile
without_reads contents = option_map unread contents

-- blocks were read at most: they are as they were, and none was written
abbrev pub OnlyRead : Option BlockFile → Option BlockFile → Type 0
OnlyRead before after = without_reads after ≡ without_reads before

-- so many blocks were read
unfoldable pub after_reads : ℕ → BlockFile → BlockFile
after_reads zero file = file
after_reads (suc count) file = after_read (after_reads count file)

-- where the file tells its blocks, at most so many were read, and none was written
abbrev pub ReadsAtMost : ℕ → Option BlockFile → Option BlockFile → Type 0
ReadsAtMost most before after = (f : BlockFile) → before ≡ Some f → (count : ℕ) × (count ≤ most) × (after ≡ Some (after_reads count f))

-- what stays while pages come in and make room
pub record StaysAlike (s t : Paging) : Type 0 where
  pub areas : t.areas ≡ s.areas
  pub frames : t.frames ≡ s.frames
  pub spoiled : t.numbers.spoiled ≡ s.numbers.spoiled

-- a page was made resident, if it wasn't
pub record BringsIn (page : ℕ) (s t : Paging) : Type 0 where
  pub here : is_listed page t.order ≡ true
  pub same : is_listed page s.order ≡ true → t ≡ s
  pub pinned : is_listed page s.order ≡ false → t.pinned ≡ s.pinned ++ page ∷ []

-- a pager with what its page file tells
pub record Backed : Type 0 where
  pub paging : Paging
  pub file : Option BlockFile

abbrev pub backed : Paging → Option BlockFile → Backed
backed paging file = record { paging = paging; file = file }

-- a page was served: the page that made room was written to its block, if it was modified, the page was read, if it has a block, and that is all
pub record IsServed (page : ℕ) (s t : Backed) : Type 0 where
  pub paging : t.paging ≡ came (source page s.paging) page (t.paging.frame page) s.paging
  pub file : t.file ≡ file_after (source page s.paging) page s.paging s.file
  pub bytes : FillsFrame page s.paging s.file t.paging

-- a page comes in, by a service where it isn't resident
abbrev pub ComesInBy : Bool → ℕ → Backed → Backed → Type 0
ComesInBy true page s t = t ≡ s
ComesInBy false page s t = IsServed page s t

-- so it does where one page more may be pinned
pub record ComesIn (page : ℕ) (s t : Backed) : Type 0 where
  pub by : ComesInBy (is_listed page s.paging.order) page s t
  pub fine : IsPaging s.paging
  pub room : length s.paging.pinned < s.paging.frames
  pub keeps : Keeps s.paging s.file t.paging t.file

-- pages come in, one after the other
unfoldable pub AllComeIn : List ℕ → Backed → Backed → Type 0
AllComeIn [] s t = t ≡ s
AllComeIn (page ∷ pages) s t = (mid : Backed) × ComesIn page s mid × AllComeIn pages mid t

-- the service of the page failed: the page that was to make room may have been written
pub record StaysOut (page : ℕ) (s t : Backed) : Type 0 where
  pub away : is_listed page s.paging.order ≡ false
  pub stays : IsLeft (source page s.paging) page s.paging s.file t.paging t.file
  pub fine : IsPaging s.paging
  pub room : length s.paging.pinned < s.paging.frames

-- the first of these pages came in, and the next didn't
pub record SomeComeIn (pages : List ℕ) (s t : Backed) : Type 0 where
  pub front : List ℕ
  pub page : ℕ
  pub rest : List ℕ
  pub splits : pages ≡ front ++ page ∷ rest
  pub mid : Backed
  pub came : AllComeIn front s mid
  pub out : StaysOut page mid t

-- the pages of bytes from an address on, of which the service of the last may make the first absent
abbrev pub pages_of_bytes : ℕ → ℕ → List ℕ
pages_of_bytes addr count =
    let first = page_of addr in
    first ∷ page_of (byte_after addr (count - 1)) ∷ first ∷ []

-- bytes were written to resident pages
pub record WritesThere (s : Paging) (addr : ℕ) (bytes : List ℕ) (t : Paging) : Type 0 where
  pub stands : (memory : List Area) → StandsFor (view_of s) memory → StandsFor (view_of t) (written_run memory addr bytes)
  pub absent : (memory : List Area) → StandsFor (view_of s) memory → (place : ℕ) → is_listed (page_of place) s.order ≡ false → byte_at (written_run memory addr bytes) place ≡ byte_at memory place
  pub only : OnlyWritten s t
  pub marked : (page : ℕ) → is_listed page t.modified ≡ (is_listed page s.modified || is_in addr (length bytes) page)

-- the block of a page of the space
abbrev pub IsBlock : List Area → ℕ → Type 0
IsBlock areas block = (page : ℕ) × (block_of areas page ≡ Some block)

abbrev pub AreBlocks : List Area → List (ℕ × List ℕ) → Type 0
AreBlocks areas [] = Unit {0}
AreBlocks areas (w ∷ ws) = IsBlock areas w.0 × AreBlocks areas ws

-- blocks of the space's pages were written, and no others
pub record HasWritten (areas : List Area) (before after : BlockFile) : Type 0 where
  pub made : List (ℕ × List ℕ)
  pub is : after.writes ≡ before.writes ++ made
  pub blocks : AreBlocks areas made

-- where the file tells its writes
abbrev pub WritesBlocks : List Area → Option BlockFile → Option BlockFile → Type 0
WritesBlocks areas before after = (f : BlockFile) → before ≡ Some f → (g : BlockFile) × (after ≡ Some g) × HasWritten areas f g

-- no page is modified that wasn't, and no block is written but those of the space's pages
pub record MarksNone (s : Paging) (file : Option BlockFile) (t : Paging) (after : Option BlockFile) : Type 0 where
  pub marked : (page : ℕ) → is_listed page t.modified ≡ true → is_listed page s.modified ≡ true
  pub areas : t.areas ≡ s.areas
  pub writes : WritesBlocks s.areas file after

-- the bytes are those of the memory; their pages are modified, and no others that weren't; and no page is pinned
pub record HasPoked (addr : ℕ) (bytes : List ℕ) (s : Paging) (file : Option BlockFile) (t : Paging) (after : Option BlockFile) : Type 0 where
  pub alike : StaysAlike s t
  pub unpinned : t.pinned ≡ []
  pub stands : (memory : List Area) → StandsWith s file memory → StandsWith t after (written_run memory addr bytes)
  pub marked : (page : ℕ) → is_in addr (length bytes) page ≡ true → is_listed page t.modified ≡ true
  pub only : (page : ℕ) → is_listed page t.modified ≡ true → (is_listed page s.modified || is_in addr (length bytes) page) ≡ true
  pub writes : WritesBlocks s.areas file after
  pub mid : Paging
  pub brings : AllComeIn (pages_of_bytes addr (length bytes)) (backed (settled s) file) (backed mid after)
  pub then : OnlyWritten (settled mid) t
  pub touches : (page : ℕ) → is_listed page t.modified ≡ (is_listed page mid.modified || is_in addr (length bytes) page)

-- every byte is as it was, no page is modified that wasn't, and no page is pinned
pub record HasFailed (addr count : ℕ) (s : Paging) (file : Option BlockFile) (t : Paging) (after : Option BlockFile) : Type 0 where
  pub alike : StaysAlike s t
  pub unpinned : t.pinned ≡ []
  pub keeps : Keeps s file t after
  pub marks : MarksNone s file t after
  pub mid : Paging
  pub brings : SomeComeIn (pages_of_bytes addr count) (backed (settled s) file) (backed mid after)
  pub then : t ≡ settled mid

-- what writing these bytes comes to, where it isn't refused
abbrev pub Pokes : Result Bool PageFault → ℕ → List ℕ → Paging → Option BlockFile → Paging → Option BlockFile → Type 0
Pokes (Ok true) addr bytes s file t after = HasPoked addr bytes s file t after
Pokes (Ok false) addr bytes s file t after = Unit {0}
Pokes (Err e) addr bytes s file t after = HasFailed addr (length bytes) s file t after
