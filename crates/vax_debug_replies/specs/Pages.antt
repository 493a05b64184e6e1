-- The lines of pages.
use Rattle.std.specs.Prelude.{ℕ, List, ◌++◌, codes, decimal}
use Rattle.vax_report.specs.Lines.{line}
use Rattle.vax_debug_names.specs.declared.Legend.{Legend}
use Rattle.vax_debug_replies.specs.Places.{place}
use Rattle.vax_debug_replies.specs.declared.pages.PageState.{PageState}
use Rattle.vax_debug_replies.specs.declared.pages.PageState.TheVariants as state

-- how a page stands in the machine's frames
abbrev pub state_text : PageState → List ℕ
state_text state.Resident = codes "RESIDENT"
state_text state.Modified = codes "RESIDENT MODIFIED"
state_text state.Kept = codes "KEPT"

-- the page at an address
unfoldable pub page_line : Legend → (address : ℕ) → PageState → List ℕ
page_line legend address s = line (place legend address ++ codes ": " ++ state_text s)

-- how many pages may be resident
unfoldable pub frames_line : ℕ → List ℕ
frames_line frames = line (codes "FRAMES " ++ decimal frames)

-- the page at an address, that an attempt missed
unfoldable pub missed_line : Legend → (address : ℕ) → List ℕ
missed_line legend address = line (codes "MISSED " ++ place legend address)
