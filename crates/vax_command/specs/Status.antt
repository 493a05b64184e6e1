-- The answers of the program, their numbers, and the lines that refusals write.
use Rattle.std.specs.Prelude.{ℕ, Bool, ◌==◌, ◌||◌, if◌then◌else◌, List, [], ◌++◌, codes, decimal, Option, None, Some}
use Rattle.vax_outside.specs.Hex.{hex}
use Rattle.vax_outside.specs.Channels.{Channels, nothing, only}
use Rattle.vax_outside.specs.declared.traits.Chan.TheVariants.{Report}
use Rattle.vax_command.specs.declared.status.Part.TheVariants as part
use Rattle.vax_command.specs.declared.status.Status.{Status}
use Rattle.vax_command.specs.declared.status.Status.TheVariants.{Done, Usage, Missing, Large, Refused, Macros, Link, Schedule, Image, Turns, PageFault, ReadFault, WriteFault, NoMemory, Saved, Order, NotHalted, Unsuccessful, Unfinished, LineFault, Told}

-- the exit status of the process
abbrev pub code : Status → ℕ
code Done = 0
code Usage = 1
code (Missing name) = 2
code (Large name) = 3
code (Refused file line kind) = 4
code (Macros file line kind) = 4
code (Link kind name place) = 5
code (Schedule line kind) = 6
code (Image place kind) = 7
code Turns = 8
code PageFault = 9
code ReadFault = 10
code WriteFault = 11
code NoMemory = 12
code (Order line kind) = 13
code (Saved place kind) = 14
code (Told part.Source) = 4
code (Told part.Link) = 5
code (Told part.Image) = 7
code NotHalted = 15
code Unsuccessful = 16
code Unfinished = 17
code LineFault = 18

-- a label and a name, which end with a line feed
abbrev pub named : List ℕ → List ℕ → List ℕ
named label name = label ++ name ++ codes "\n"

-- a fault and its place, behind what the place is
unfoldable pub fault_at : List ℕ → ℕ → ℕ → List ℕ
fault_at label place kind = label ++ decimal place ++ codes " fault " ++ decimal kind ++ codes "\n"

-- a fault in a source
unfoldable pub source_fault : ℕ → ℕ → ℕ → List ℕ
source_fault file line kind = fault_at (codes "vax: source " ++ decimal file ++ codes " line ") line kind

-- a fault in a prelude of sources
unfoldable pub macros_fault : ℕ → ℕ → ℕ → List ℕ
macros_fault file line kind = fault_at (codes "vax: macros " ++ decimal file ++ codes " line ") line kind

-- kinds of what the linker finds that have a name
abbrev pub is_named : ℕ → Bool
is_named kind = (kind == 1) || (kind == 2)

-- behind these stands the name, behind kind 5 an address
abbrev pub link_detail : ℕ → List ℕ → ℕ → List ℕ
link_detail kind name place = if is_named kind then codes " " ++ name else (if kind == 5 then codes " " ++ hex 8 place else [])

-- what the linker found
unfoldable pub link_fault : ℕ → List ℕ → ℕ → List ℕ
link_fault kind name place = codes "vax: link fault " ++ decimal kind ++ link_detail kind name place ++ codes "\n"

-- the line that an answer before the run writes to Report, if it is a refusal
abbrev pub refusal : Status → Option (List ℕ)
refusal Done = None
refusal Usage = Some (codes "vax: usage\n")
refusal (Missing name) = Some (named (codes "vax: missing ") name)
refusal (Large name) = Some (named (codes "vax: large ") name)
refusal (Refused file line kind) = Some (source_fault file line kind)
refusal (Macros file line kind) = Some (macros_fault file line kind)
refusal (Link kind name place) = Some (link_fault kind name place)
refusal (Schedule line kind) = Some (fault_at (codes "vax: schedule line ") line kind)
refusal (Image place kind) = Some (fault_at (codes "vax: image place ") place kind)
refusal Turns = None
refusal PageFault = None
refusal ReadFault = Some (codes "vax: read\n")
refusal WriteFault = None
refusal NoMemory = Some (codes "vax: memory\n")
refusal (Saved place kind) = Some (fault_at (codes "vax: saved place ") place kind)
refusal (Order line kind) = Some (fault_at (codes "vax: order line ") line kind)
refusal (Told which) = None
refusal NotHalted = None
refusal Unsuccessful = None
refusal Unfinished = None
refusal LineFault = None

-- what the channels grow by at a refusal
abbrev pub growth_of : Option (List ℕ) → Channels
growth_of None = nothing
growth_of (Some text) = only Report text

abbrev pub refusal_growth : Status → Channels
refusal_growth status = growth_of (refusal status)
