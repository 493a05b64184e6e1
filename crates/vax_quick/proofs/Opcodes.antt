-- What the opcodes of the commonest instructions stand for.
use Rattle.std.proofs.Common.{◌≡◌, ℕ, Option, sym, subst}
use Rattle.vax_quick.specs.Made.{Computer, MakesOrStays, made_by}

-- an instruction is made as its opcode says
pub as_opcode : (code opcode : ℕ) (r : Option (Unit {0})) (old new : Computer) → opcode ≡ code → MakesOrStays (made_by code) r old new → MakesOrStays (made_by opcode) r old new
as_opcode code opcode r old new is made = subst (λ k. MakesOrStays (made_by k) r old new) (sym is) made
