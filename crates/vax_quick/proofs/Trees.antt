-- Trees that come to the same.
use Rattle.std.proofs.Common.{◌≡◌, ℕ, ◌/◌, ◌%◌, Option, Some, None, true, false, nat_lt, refl, ap, ◌∙◌, arith}
use Rattle.std.proofs.lemmas.Bool.Decides.{nat_tests}
use Rattle.vax_isa.specs.declared.Letter.TheVariants.{Address, Field, Read}
use Rattle.vax_flat.specs.Field.{base_kind}
use Rattle.vax_flat.specs.declared.Operand.{Operand}
use Rattle.vax_flat.specs.declared.Operand.TheVariants.{Memory}
use Rattle.vax_flat.specs.declared.Form.{Form}
use Rattle.vax_flat.specs.declared.Form.TheVariants as form
use Rattle.vax_flat.specs.State.{State}
use Rattle.vax_flat.specs.Accesses.{Accesses, Leaf}
use Rattle.vax_flat.specs.Operand.{form_of, formed, fetched, read_at, addressed, is_reserved, at_address}
use Rattle.vax_flat.specs.OverPort.{over_port}
use Rattle.vax_flat.specs.Rows.{address_of, address_in}
use Rattle.vax_operand.specs.Addressed.{located, direct, IsMemory}
use Rattle.vax_operand.proofs.Addresses.{formed_located}
use Rattle.vax_quick.specs.declared.window.Window.{Window}
use Rattle.vax_quick.specs.Made.{Computer, Gives, at_console}

pub gives_by : {X : Type 0} (a b : State → (X → State → Accesses Leaf) → Accesses Leaf) (r : Option (X × Window)) (old new : Computer) → ((s : State) (next : X → State → Accesses Leaf) → a s next ≡ b s next) → Gives b r old new → Gives a r old new
gives_by a b None old new same gives = tt
gives_by a b (Some found) old new same gives = λ input taken sent next.
    ap (λ tree. over_port tree old.view) (same (at_console old.core input taken sent) next) ∙ gives input taken sent next

-- an immediate is what the instruction has next
pub immediate_is : (width : ℕ) (s : State) (next : ℕ → State → Accesses Leaf) → located Read width (form.Increment 15) s (λ addr t. read_at addr width t next) ≡ fetched width s next
unfolding located direct is_reserved addressed fetched read_at
immediate_is width s next = refl

-- the base of a field in memory
pub base_located : (shape : Form) (s : State) (next : Operand → State → Accesses Leaf) → IsMemory shape → formed base_kind shape s next ≡ located Field 1 shape s (λ addr t. next (Memory addr) t)
unfolding at_address
base_located shape s next m = formed_located base_kind shape s next m

-- the address of an operand in memory
pub address_located : (width : ℕ) (shape : Form) (s : State) (next : ℕ → State → Accesses Leaf) → IsMemory shape → formed (address_of width) shape s (λ o t. next (address_in o) t) ≡ located Address width shape s next
unfolding at_address address_in
address_located width shape s next m = formed_located (address_of width) shape s (λ o t. next (address_in o) t) m

-- two forms by their specifier bytes
pub is_deferred : (byte : ℕ) → byte / 16 ≡ 6 → form_of byte ≡ form.Deferred (byte % 16)
unfolding form_of
is_deferred byte e =
    let a : nat_lt byte 0x40 ≡ false = grind (arith, nat_tests) in
    let b : nat_lt byte 0x50 ≡ false = grind (arith, nat_tests) in
    let c : nat_lt byte 0x60 ≡ false = grind (arith, nat_tests) in
    let d : nat_lt byte 0x70 ≡ true = grind (arith, nat_tests) in
    rw (a, b, c, d) refl

pub is_near : (byte : ℕ) → byte / 16 ≡ 10 → form_of byte ≡ form.Displacement 1 (byte % 16)
unfolding form_of
is_near byte e =
    let a : nat_lt byte 0x40 ≡ false = grind (arith, nat_tests) in
    let b : nat_lt byte 0x50 ≡ false = grind (arith, nat_tests) in
    let c : nat_lt byte 0x60 ≡ false = grind (arith, nat_tests) in
    let d : nat_lt byte 0x70 ≡ false = grind (arith, nat_tests) in
    let f : nat_lt byte 0x80 ≡ false = grind (arith, nat_tests) in
    let h : nat_lt byte 0x90 ≡ false = grind (arith, nat_tests) in
    let i : nat_lt byte 0xA0 ≡ false = grind (arith, nat_tests) in
    let j : nat_lt byte 0xB0 ≡ true = grind (arith, nat_tests) in
    rw (a, b, c, d, f, h, i, j) refl
