-- Lists of pages.
use Rattle.std.specs.Prelude.{ℕ, ◌≡◌, ◌==◌, ◌||◌, Bool, true, false, if◌then◌else◌, Option, Some, None, is_some, List, [], ◌∷◌}
use Rattle.vax_lists.specs.Lines.{frame_in}
use Rattle.vax_lists.specs.declared.lists.Placed.{Placed}

-- the page stands in the list
unfoldable pub is_listed : ℕ → List ℕ → Bool
is_listed page [] = false
is_listed page (x ∷ xs) = (x == page) || is_listed page xs

-- the list without the page
unfoldable pub leave_out : ℕ → List ℕ → List ℕ
leave_out page [] = []
leave_out page (x ∷ xs) = if x == page then leave_out page xs else x ∷ leave_out page xs

-- the first page that doesn't stand in another list
unfoldable pub first_outside : List ℕ → List ℕ → Option ℕ
first_outside others [] = None
first_outside others (x ∷ xs) = if is_listed x others then first_outside others xs else Some x

abbrev pub first : List ℕ → Option ℕ
first [] = None
first (x ∷ xs) = Some x

-- the page, of a page in a frame
abbrev pub page_in : Option Placed → Option ℕ
page_in None = None
page_in (Some placed) = Some placed.page

-- each page has one frame
unfoldable pub are_once : List Placed → Bool
are_once [] = true
are_once (x ∷ xs) = if is_some (frame_in xs x.page) then false else are_once xs

-- each page stands once
unfoldable pub AreOnce : List ℕ → Type 0
AreOnce [] = Unit {0}
AreOnce (x ∷ xs) = (is_listed x xs ≡ false) × AreOnce xs
