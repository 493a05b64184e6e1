-- Where sections lie. Sections of one name are one section, in the order in which the names first appear.
use Rattle.std.specs.Prelude.{◌≡◌, ℕ, ◌+◌, ◌*◌, Bool, false, not, ◌&&◌, ◌||◌, ◌==◌, nat_lt, if◌then◌else◌, List, [], ◌∷◌, ◌++◌, length, max, codes, slice_index, take, map}
use Rattle.std.specs.Borrow.{Bor}
use Rattle.std.specs.List.{flat_map, fold, list_any, position_or_len, zip}
use Rattle.std.specs.Int.{div_ceil}
use Rattle.std.specs.Str.{bytes_eq}
use Rattle.vax_module.specs.declared.Section.{Section}
use Rattle.vax_module.specs.declared.Module.{Module}
use Rattle.vax_image.specs.declared.Base.{Base}
use Rattle.vax_image.specs.declared.Base.TheVariants.{Bare, User}
use Rattle.vax_image.specs.Image.{end_page}
use Rattle.vax_link.specs.Names.{Name}

-- the sections of modules, one after the other: what each module gives to a section of its name
abbrev pub pieces_of : List Module → List Section
pieces_of modules = flat_map (λ m. m.sections) modules

-- the place of a module's first section among the pieces
abbrev pub first_piece : List Module → ℕ → ℕ
first_piece modules owner = length (pieces_of (take owner modules))

abbrev pub is_listed : List Name → Name → Bool
is_listed names name = list_any (λ n. bytes_eq n name) names

-- names with that of one more piece, if it is new
abbrev pub with_name : List Name → Section → List Name
with_name names piece = if is_listed names piece.name then names else names ++ piece.name ∷ []

-- the names of pieces, each where it first appears
abbrev pub names_of : List Section → List Name
names_of pieces = fold with_name [] pieces

abbrev pub is_named : Name → Section → Bool
is_named name piece = bytes_eq piece.name name

-- a section's alignment is the greatest that a piece of it has
abbrev pub aligned_for : Name → ℕ → Section → ℕ
aligned_for name align piece = if is_named name piece then max align piece.align else align

abbrev pub align_of : Name → List Section → ℕ
align_of name pieces = fold (aligned_for name) 1 pieces

-- some piece of it may be written
unfoldable pub is_writable : Name → List Section → Bool
is_writable name pieces = list_any (λ piece. is_named name piece && piece.write) pieces

-- the next multiple
abbrev pub aligned : ℕ → ℕ → ℕ
aligned align place = div_ceil place align * align

-- a piece begins at the next multiple of its section's alignment; behind one without bytes the end is where it was
abbrev pub behind_piece : Name → ℕ → ℕ → Section → ℕ
behind_piece name align end piece =
    if is_named name piece && not (length piece.bytes == 0) then aligned align end + length piece.bytes else end

-- where a section ends behind these pieces, when it has ended at a place before
abbrev pub end_behind : Name → ℕ → ℕ → List Section → ℕ
end_behind name align end pieces = fold (behind_piece name align) end pieces

-- a piece that is laid over others: it has no bytes of its own, and tells how many it covers
abbrev pub is_overlaid : Section → Bool
is_overlaid piece = length piece.bytes == 0 && not (piece.storage == 0)

-- the most bytes that an overlaid piece of a section covers, with one more piece
abbrev pub covered_behind : Name → ℕ → Section → ℕ
covered_behind name most piece = if is_named name piece && is_overlaid piece then max most piece.storage else most

-- how many bytes of a section these pieces cover from its begin on
abbrev pub covered_by : Name → ℕ → List Section → ℕ
covered_by name most pieces = fold (covered_behind name) most pieces

-- how many bytes a section has: it ends behind its pieces, and no overlaid one covers more
unfoldable pub size_of : List Section → Name → ℕ
size_of pieces name = max (end_behind name (align_of name pieces) 0 pieces) (covered_by name 0 pieces)

abbrev pub pages_of : List Section → Name → ℕ
pages_of pieces name = div_ceil (size_of pieces name) 512

-- the section that is the system control block
abbrev pub is_control_block : Base → Name → Bool
is_control_block Bare name = bytes_eq name (codes "$SCB")
is_control_block User name = false

-- the first page of the first section
abbrev pub origin : Base → ℕ
origin Bare = 0x400001
origin User = 1

-- the page behind a section that begins at a page: each section that isn't empty begins on a page of its own
abbrev pub page_behind : Base → List Section → ℕ → Name → ℕ
page_behind region pieces page name = if is_control_block region name then page else page + pages_of pieces name

-- the pages at which sections begin, the first of them at a page; the control block has the first page of system space
unfoldable pub pages_from : Base → List Section → ℕ → List Name → List ℕ
pages_from region pieces page [] = []
pages_from region pieces page (name ∷ names) =
    (if is_control_block region name then 0x400000 else page) ∷ pages_from region pieces (page_behind region pieces page name) names

-- the page behind all of these
abbrev pub end_page_from : Base → List Section → ℕ → List Name → ℕ
end_page_from region pieces page names = fold (page_behind region pieces) page names

abbrev pub pages_of_names : Base → List Section → List ℕ
pages_of_names region pieces = pages_from region pieces (origin region) (names_of pieces)

-- the names of sections, each with the page at which it begins
abbrev pub placed_names : Base → List Section → List (Name × ℕ)
placed_names region pieces = zip (names_of pieces) (pages_of_names region pieces)

-- the page at which a section begins
abbrev pub first_page_of : Base → List Section → Name → ℕ
first_page_of region pieces name = slice_index (pages_of_names region pieces) (position_or_len (λ n. bytes_eq n name) (names_of pieces))

-- where a piece begins that stands behind these in its section
abbrev pub offset_behind : List Section → List Section → Name → ℕ
offset_behind pieces before name = aligned (align_of name pieces) (end_behind name (align_of name pieces) 0 before)

-- where a piece begins in its section: an overlaid one at the section's begin, any other behind these
abbrev pub offset_of : List Section → List Section → Section → ℕ
offset_of pieces before piece = if is_overlaid piece then 0 else offset_behind pieces before piece.name

-- the addresses of pieces behind others
unfoldable pub addresses_from : Base → List Section → List Section → List Section → List ℕ
addresses_from region pieces before [] = []
addresses_from region pieces before (piece ∷ rest) =
    (512 * first_page_of region pieces piece.name + offset_of pieces before piece) ∷ addresses_from region pieces (before ++ piece ∷ []) rest

-- where each piece lies
abbrev pub addresses : Base → List Section → List ℕ
addresses region pieces = addresses_from region pieces [] pieces

-- a control block longer than a page, or a section past the last page
unfoldable pub has_no_room : Base → List Section → List Name → Bool
has_no_room region pieces names =
    list_any (λ name. is_control_block region name && nat_lt 512 (size_of pieces name)) names
    || nat_lt (end_page region) (end_page_from region pieces (origin region) names)

-- more than 64 sections, or no room for them
unfoldable pub is_too_large : Base → List Section → Bool
is_too_large region pieces = nat_lt 64 (length (names_of pieces)) || has_no_room region pieces (names_of pieces)

-- ---- what the code keeps of it

-- the sections to which these lead
abbrev pub sections_in : List (Bor Section) → List Section
sections_in pieces = map (λ p. p.now) pieces

-- the names to which these lead
abbrev pub names_in : List (Bor (List ℕ)) → List Name
names_in names = map (λ n. n.now) names

-- the names of sections, the pages at which they begin, and where the pieces lie
pub record IsPlaced (region : Base) (pieces : List Section) (names : List Name) (pages places : List ℕ) : Type 0 where
  pub room : is_too_large region pieces ≡ false
  pub named : names ≡ names_of pieces
  pub begun : pages ≡ pages_of_names region pieces
  pub lying : places ≡ addresses region pieces
