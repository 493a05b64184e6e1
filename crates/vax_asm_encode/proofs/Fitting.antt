-- What may stand as an operand, in the terms of the grammar.
use Rattle.std.proofs.Common.{◌≡◌, ℕ, ◌^◌, ◌<◌, ◌⊎◌, Bool, true, false}
use Rattle.vax_isa.specs.declared.OperandKind.{OperandKind}
use Rattle.vax_flat.specs.declared.Form.{Form}
use Rattle.vax_flat.specs.declared.Form.TheVariants as form
use Rattle.vax_flat.specs.Operand.{is_result, reaches_pc, is_no_base}
use Rattle.vax_flat.specs.Grammar.{Place, Deferred, Decrement, Increment, IncrementDeferred, Absolute, Displaced, DisplacedDeferred, Specifier, Literal, Register, Immediate, InMemory, Indexed, BranchBy, is_read, takes_register}
use Rattle.vax_asm_encode.specs.Bytes.{Extends}

abbrev pub IsDisplacement : ℕ → Type 0
IsDisplacement width = (width ≡ 1) ⊎ ((width ≡ 2) ⊎ (width ≡ 4))

-- the form of a place's specifier byte
abbrev pub base_form : Place → Form
base_form (Deferred n) = form.Deferred n
base_form (Decrement n) = form.Decrement n
base_form (Increment n) = form.Increment n
base_form (IncrementDeferred n) = form.IncrementDeferred n
base_form (Absolute addr) = form.IncrementDeferred 15
base_form (Displaced width displacement n) = form.Displacement width n
base_form (DisplacedDeferred width displacement n) = form.DisplacementDeferred width n

abbrev pub PlaceFits : Place → Type 0
PlaceFits (Deferred n) = n < 15
PlaceFits (Decrement n) = n < 15
PlaceFits (Increment n) = n < 15
PlaceFits (IncrementDeferred n) = n < 15
PlaceFits (Absolute addr) = addr < 256 ^ 4
PlaceFits (Displaced width displacement n) = IsDisplacement width × (n < 16) × Extends width displacement
PlaceFits (DisplacedDeferred width displacement n) = IsDisplacement width × (n < 16) × Extends width displacement

-- the operand may stand there
abbrev pub Fits : OperandKind → Specifier → Type 0
Fits kind (Literal value) = (value < 64) × (is_read kind.letter ≡ true)
Fits kind (Register n) = (n < 16) × (reaches_pc kind.width n ≡ false) × (takes_register kind.letter ≡ true)
Fits kind (Immediate value) = (value < 256 ^ kind.width) × (is_result kind.letter ≡ false)
Fits kind (InMemory place) = PlaceFits place
Fits kind (Indexed place x) = (x < 15) × PlaceFits place × (is_no_base x (base_form place) ≡ false)
Fits kind (BranchBy displacement) = Extends kind.width displacement

abbrev pub is_branch : Specifier → Bool
is_branch (Literal value) = false
is_branch (Register n) = false
is_branch (Immediate value) = false
is_branch (InMemory place) = false
is_branch (Indexed place x) = false
is_branch (BranchBy displacement) = true
