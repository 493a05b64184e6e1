-- The rule of parts, apart from how many units the definitions give a part (what the VAX Architecture Reference Manual leaves to the processor, first
-- part done): a part goes on to 512 units, or to the first that needs a page which its first unit doesn't.
use Rattle.std.specs.Prelude.{◌≡◌, ℕ, suc, zero, ◌+◌, ◌-◌, ◌^◌, ◌<◌, ◌≤◌, ◌⊎◌, ◌==◌, Bool, not, true, false, ◌++◌, nat_lt, if◌then◌else◌, List, [], ◌∷◌}
use Rattle.vax_space.specs.declared.Access.TheVariants.{Read}
use Rattle.vax_space.specs.declared.Area.{Area}
use Rattle.vax_space.specs.Reference.{may_access, page_of}
use Rattle.vax_strpart.specs.declared.packing.Progress.{Progress}
use Rattle.vax_flat.specs.declared.Flow.TheVariants as flow
use Rattle.vax_flat.specs.Memory.{byte_at}
use Rattle.vax_flat.specs.State.{State}
use Rattle.vax_flat.specs.Accesses.{Leaf, Went, Found}
use Rattle.vax_flat.specs.Operand.{plus}
use Rattle.vax_flat.specs.Outcome.{Outcome, Ends, Raised}
use Rattle.vax_flat.specs.StringMove.{moved_count, is_backward}

-- a page is one of these
abbrev pub IsAmong : ℕ → List ℕ → Type 0
IsAmong page [] = ⊥
IsAmong page (p ∷ pages) = (page ≡ p) ⊎ IsAmong page pages

abbrev pub AreAmong : List ℕ → List ℕ → Type 0
AreAmong [] pages = Unit {0}
AreAmong (p ∷ ps) pages = IsAmong p pages × AreAmong ps pages

-- A part of so many units, where each unit from the part's first on needs these pages: at most 512, each in the first one's pages; and there are 512, or
-- the next unit is of another kind, or it needs another page.
pub record IsMaximal (needs : ℕ → List ℕ) (turns : ℕ → Bool) (made : ℕ) : Type 0 where
  pub few : made ≤ 512
  pub near : (j : ℕ) → j < made → AreAmong (needs j) (needs 0)
  pub full : (made ≡ 512) ⊎ ((turns made ≡ true) ⊎ (AreAmong (needs made) (needs 0) → ⊥))

-- where a tree leaves a part of so many units, this holds of it and of the state
abbrev pub IfLeft : (ℕ → State → Type 0) → Outcome Leaf → Type 0
IfLeft holds (Ends (Went flow.Done s) memory) = Unit {0}
IfLeft holds (Ends (Went flow.Clocked s) memory) = Unit {0}
IfLeft holds (Ends (Went (flow.Trap kind) s) memory) = Unit {0}
IfLeft holds (Ends (Went (flow.More opcode made) s) memory) = holds made s
IfLeft holds (Ends (Went (flow.Ended e) s) memory) = Unit {0}
IfLeft holds (Ends (Found operand s) memory) = Unit {0}
IfLeft holds (Raised e) = Unit {0}

-- the page that the j-th unit of a string needs, if it has one
abbrev pub page_in : ℕ → ℕ → ℕ → List ℕ
page_in addr len j = if nat_lt j len then page_of (plus addr j) ∷ [] else []

-- no unit is of another kind
abbrev pub never : ℕ → Bool
never made = false

-- a search: a byte of the string
abbrev pub search_needs : Progress → ℕ → List ℕ
search_needs p j = page_of (plus p.addr1 j) ∷ []

-- a scan: the same, up to a byte whose table byte may not be read
abbrev pub entry_barred : Progress → ℕ → List Area → ℕ → Bool
entry_barred p mode memory made =
    not (may_access memory (page_of (plus p.table (byte_at memory (plus p.addr1 made)))) mode Read)

-- a comparison: a byte of each string that isn't exhausted
abbrev pub compare_needs : Progress → ℕ → List ℕ
compare_needs p j = page_in p.addr1 p.len1 (p.done + j) ++ page_in p.addr2 p.len2 (p.done + j)

-- a move: a byte of the source and one of the destination, from the last backward or from the first on; it turns to fills
abbrev pub moved_index : Progress → ℕ → ℕ
moved_index p j = if is_backward p then moved_count p - (p.done + j + 1) else p.done + j

abbrev pub move_needs : Progress → ℕ → List ℕ
move_needs p j = page_of (plus p.addr1 (moved_index p j)) ∷ page_of (plus p.addr2 (moved_index p j)) ∷ []

abbrev pub turns_to_fills : Progress → ℕ → Bool
turns_to_fills p made = p.done + made == moved_count p

-- a move up to a byte that escapes: the same, from the first on
abbrev pub escape_needs : Progress → ℕ → List ℕ
escape_needs p j = page_of (plus p.addr1 (p.done + j)) ∷ page_of (plus p.addr2 (p.done + j)) ∷ []

-- a fill: a byte of the destination
abbrev pub fill_needs : Progress → ℕ → List ℕ
fill_needs p j = page_of (plus p.addr2 (p.done + j)) ∷ []

-- a match: a byte of the object and one of the string, which are the next where they agree, and else the first at the next place
abbrev pub after_unit : Progress → List Area → Progress
after_unit p memory =
    if byte_at memory (plus p.addr1 p.done) == byte_at memory (plus p.addr2 p.done)
    then record p { done = p.done + 1 }
    else record p { len2 = p.len2 - 1; addr2 = plus p.addr2 1; done = 0 }

abbrev pub after_units : Progress → List Area → ℕ → Progress
after_units p memory zero = p
after_units p memory (suc units) = after_unit (after_units p memory units) memory

abbrev pub match_needs : Progress → List Area → ℕ → List ℕ
match_needs p memory j =
    let q = after_units p memory j in
    page_of (plus q.addr1 q.done) ∷ page_of (plus q.addr2 q.done) ∷ []

-- what a part of so many units leaves
pub record LeavesPart (needs : ℕ → List ℕ) (turns : ℕ → Bool) (after : ℕ → State) (made : ℕ) (t : State) : Type 0 where
  pub some : 1 ≤ made
  pub maximal : IsMaximal needs turns made
  pub state : t ≡ after made

-- neither string goes past the last address
pub record IsPlain (p : Progress) : Type 0 where
  pub first : p.addr1 + p.len1 ≤ 2 ^ 32
  pub second : p.addr2 + p.len2 ≤ 2 ^ 32

-- nor does what is moved
pub record IsMovePlain (p : Progress) : Type 0 where
  pub first : p.addr1 + moved_count p ≤ 2 ^ 32
  pub second : p.addr2 + moved_count p ≤ 2 ^ 32

-- memory is as it was, where a tree comes to its end
abbrev pub IsKept : List Area → Outcome Leaf → Type 0
IsKept memory (Ends x after) = after ≡ memory
IsKept memory (Raised e) = Unit {0}
