-- The page of PC, which is looked up once for all the instructions in it.
use Rattle.std.specs.Prelude.{ℕ, ◌^◌, ◌<◌}
use Rattle.vax_quick.specs.declared.code.Code.{Code}

-- A page, if it is one, lay in this frame at some time since which only calls of a port were made, and an instruction could be read from it.
abbrev pub IsKnown : {P : Type 0} → (P → ℕ → ℕ → ℕ → Type 0) → (P → P → Type 0) → Code → P → Type 0
IsKnown {P} lies along code port = code.page < 2 ^ 23 → (start : P) × (lies start code.frame code.page code.mode × along start port)
