-- What is shown of the pages of a machine.
use Rattle.std.specs.Prelude.{ℕ, ◌+◌, ◌%◌, ◌^◌, List, [], ◌++◌, Option, None, Some, if◌then◌else◌}
use Rattle.std.specs.List.{flat_map, range_with_len}
use Rattle.vax_space.specs.declared.Area.{Area}
use Rattle.vax_pager.specs.Listing.{is_listed}
use Rattle.vax_debug.specs.Pages.{Pages, start_of_page}
use Rattle.vax_debug_names.specs.declared.Legend.{Legend}
use Rattle.vax_debug_replies.specs.Pages.{frames_line, page_line}
use Rattle.vax_debug_replies.specs.declared.pages.PageState.{PageState}
use Rattle.vax_debug_replies.specs.declared.pages.PageState.TheVariants as state

-- how a page stands; none where it is absent and has no frame
abbrev pub state_of : Pages → (page : ℕ) → Option PageState
state_of p page =
    if is_listed page p.resident then (if is_listed page p.modified then Some state.Modified else Some state.Resident)
    else if is_listed page p.kept then Some state.Kept else None

abbrev pub state_line : Legend → (page : ℕ) → Option PageState → List ℕ
state_line legend page None = []
state_line legend page (Some s) = page_line legend (start_of_page page) s

-- the line of a page that has a frame
abbrev pub page_shown : Legend → Pages → (page : ℕ) → List ℕ
page_shown legend p page = state_line legend page (state_of p page)

-- those of an area, in order
abbrev pub area_shown : Legend → Pages → Area → List ℕ
area_shown legend p area = flat_map (λ k. page_shown legend p ((area.first + k) % 2 ^ 32)) (range_with_len 0 area.pages)

-- how many pages may be resident, and those of all areas that have a frame
unfoldable pub pages_shown : Legend → Pages → List ℕ
pages_shown legend p = frames_line p.frames ++ flat_map (area_shown legend p) p.areas
