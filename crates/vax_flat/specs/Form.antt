-- The forms that a specifier byte can have.
use Rattle.std.specs.Prelude.{◌≡◌, ◌<◌, ◌⊎◌, ℕ}
use Rattle.vax_flat.specs.declared.Form.{Form}
use Rattle.vax_flat.specs.declared.Form.TheVariants.{Literal, Index, Register, Deferred, Decrement, Increment, IncrementDeferred, Displacement, DisplacementDeferred}

-- a displacement's width in bytes
abbrev pub IsDisplacement : ℕ → Type 0
IsDisplacement width = (width ≡ 1) ⊎ ((width ≡ 2) ⊎ (width ≡ 4))

abbrev pub IsForm : Form → Type 0
IsForm (Literal value) = value < 64
IsForm (Index x) = x < 16
IsForm (Register n) = n < 16
IsForm (Deferred n) = n < 16
IsForm (Decrement n) = n < 16
IsForm (Increment n) = n < 16
IsForm (IncrementDeferred n) = n < 16
IsForm (Displacement width n) = IsDisplacement width × (n < 16)
IsForm (DisplacementDeferred width n) = IsDisplacement width × (n < 16)
