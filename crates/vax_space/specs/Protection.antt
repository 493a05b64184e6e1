-- What each access mode may do to a page with each protection code
-- (VAX Architecture Reference Manual, memory management, access control: the table of protection codes).
use Rattle.std.specs.Prelude.{ℕ, Bool, true, false, List, [], ◌∷◌, slice_index_or}
use Rattle.vax_space.specs.declared.Access.{Access}
use Rattle.vax_space.specs.declared.Access.TheVariants.{Read, Write}
use Rattle.vax_space.specs.declared.Right.{Right}
use Rattle.vax_space.specs.declared.Right.TheVariants.{Nothing, ReadOnly, ReadWrite}

abbrev pub row : Right → Right → Right → Right → List Right
row kernel executive supervisor user = kernel ∷ executive ∷ supervisor ∷ user ∷ []

-- one row a code, with the rights of kernel, executive, supervisor and user mode; the reserved code allows nothing
abbrev pub protection_table : List (List Right)
protection_table =
    row Nothing Nothing Nothing Nothing  -- 0 NA
    ∷ row Nothing Nothing Nothing Nothing  -- 1 reserved
    ∷ row ReadWrite Nothing Nothing Nothing  -- 2 KW
    ∷ row ReadOnly Nothing Nothing Nothing  -- 3 KR
    ∷ row ReadWrite ReadWrite ReadWrite ReadWrite  -- 4 UW
    ∷ row ReadWrite ReadWrite Nothing Nothing  -- 5 EW
    ∷ row ReadWrite ReadOnly Nothing Nothing  -- 6 ERKW
    ∷ row ReadOnly ReadOnly Nothing Nothing  -- 7 ER
    ∷ row ReadWrite ReadWrite ReadWrite Nothing  -- 8 SW
    ∷ row ReadWrite ReadWrite ReadOnly Nothing  -- 9 SREW
    ∷ row ReadWrite ReadOnly ReadOnly Nothing  -- A SRKW
    ∷ row ReadOnly ReadOnly ReadOnly Nothing  -- B SR
    ∷ row ReadWrite ReadWrite ReadWrite ReadOnly  -- C URSW
    ∷ row ReadWrite ReadWrite ReadOnly ReadOnly  -- D UREW
    ∷ row ReadWrite ReadOnly ReadOnly ReadOnly  -- E URKW
    ∷ row ReadOnly ReadOnly ReadOnly ReadOnly  -- F UR
    ∷ []

abbrev pub permits : Right → Access → Bool
permits Nothing access = false
permits ReadOnly Read = true
permits ReadOnly Write = false
permits ReadWrite access = true

-- modes are 0 kernel, 1 executive, 2 supervisor, 3 user
unfoldable pub right_of : ℕ → ℕ → Right
right_of code mode = slice_index_or (slice_index_or protection_table code []) mode Nothing

unfoldable pub allows : ℕ → ℕ → Access → Bool
allows code mode access = permits (right_of code mode) access
