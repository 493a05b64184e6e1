-- The operands that texts are, and what they hold.
use Rattle.std.proofs.Common.{◌≡◌, ◌⊎◌, ℕ, suc, ◌-◌, ◌*◌, ◌<◌, ◌≤◌, ◌^◌, Bool, true, false, pos, Some, None, Result, Ok, refl, ap, subst, arith, inl, inr}
use Rattle.std.specs.Prelude.{◌==◌, ◌&&◌, ◌||◌, not, nat_lt, nat_le}
use Rattle.std.specs.Int.{w64, cast_signed}
use Rattle.std.proofs.lemmas.Bool.{cases_lt}
use Rattle.std.proofs.lemmas.Bool.Decides.{nat_tests}
use Rattle.vax_isa.specs.declared.OperandKind.{OperandKind}
use Rattle.vax_isa.specs.declared.Letter.{Letter}
use Rattle.vax_isa.specs.declared.Letter.TheVariants as letter
use Rattle.vax_isa.specs.declared.actions.Narrow.{Narrow}
use Rattle.vax_isa.specs.declared.actions.Narrow.TheVariants as narrow
use Rattle.vax_isa.specs.Rows.{IsWidth, IsBranchWidth}
use Rattle.vax_lex.specs.declared.value.Value.{Value}
use Rattle.vax_lex.specs.declared.value.Value.TheVariants as value
use Rattle.vax_lex.specs.declared.value.ExprError.{ExprError}
use Rattle.vax_flat.specs.Operand.{extended, plus, reaches_pc, is_no_base, is_result}
use Rattle.vax_flat.specs.Grammar.{Place, Deferred, Decrement, Increment, IncrementDeferred, Absolute, Displaced, DisplacedDeferred, Specifier, Literal, Register, Immediate, InMemory, Indexed, BranchBy, is_read, takes_register}
use Rattle.vax_asm_encode.specs.declared.operand.Base.{Base}
use Rattle.vax_asm_encode.specs.declared.operand.Base.TheVariants as base
use Rattle.vax_asm_encode.specs.declared.operand.Operand.{Operand}
use Rattle.vax_asm_encode.specs.declared.operand.Operand.TheVariants as operand
use Rattle.vax_asm_encode.specs.Operands.{width_of, data_size, branch_size, field_of, base_field, base_stands, takes_index, may_stand, takes_branch, place_of, specifier_of}
use Rattle.vax_asm_encode.specs.Fields.{filled, half, displacement, reached, number, relative_reloc}
use Rattle.vax_asm_statement.specs.Sizes.{sized}
use Rattle.vax_asm_second.specs.Laid.{held}
use Rattle.vax_asm_instruction.specs.Stating.{zero_value}
use Rattle.vax_flat.specs.Form.{IsDisplacement}
use Rattle.vax_disasm_laws.proofs.Readings.{IsExtended, base_form, PlaceMay, May}
use Rattle.vax_disasm_laws.proofs.Moded.{narrow_of, signed_value, place_mode, small_signed, high_signed}

abbrev pub base_for : Place → Base
base_for (Deferred n) = base.Deferred n
base_for (Decrement n) = base.Decrement n
base_for (Increment n) = base.Increment n
base_for (IncrementDeferred n) = base.IncrementDeferred n
base_for (Absolute addr) = base.Absolute
base_for (Displaced width displacement n) = base.Displaced (narrow_of width) n
base_for (DisplacedDeferred width displacement n) = base.DisplacedDeferred (narrow_of width) n

-- numbers in fields

below : (n m : ℕ) → n < m → nat_lt n m ≡ true
below n m h = grind (arith, nat_tests)

past : (n m : ℕ) → m ≤ n → nat_lt n m ≡ false
past n m h = grind (arith, nat_tests)

displacement_low : (s : Narrow) (d : ℕ) → d < half s → displacement s (signed_value d) ≡ Some d
displacement_low narrow.B d h = rw (below d (2 ^ 31) (omega arith), below d 128 h) refl
displacement_low narrow.W d h = rw (below d (2 ^ 31) (omega arith), below d 32768 h) refl
displacement_low narrow.L d h = rw (below d 2147483648 h, below d 2147483648 h) refl

displacement_high : (s : Narrow) (d : ℕ) → 2 ^ 32 - half s ≤ d → d < 2 ^ 32 → displacement s (signed_value d) ≡ Some d
displacement_high narrow.B d h t = let back : 2 ^ 32 - suc (2 ^ 32 - d - 1) ≡ d = omega arith in rw (past d (2 ^ 31) (omega arith), below (2 ^ 32 - d - 1) 128 (omega arith), back) refl
displacement_high narrow.W d h t = let back : 2 ^ 32 - suc (2 ^ 32 - d - 1) ≡ d = omega arith in rw (past d (2 ^ 31) (omega arith), below (2 ^ 32 - d - 1) 32768 (omega arith), back) refl
displacement_high narrow.L d h t = let back : 2 ^ 32 - suc (2 ^ 32 - d - 1) ≡ d = omega arith in rw (past d (2 ^ 31) (omega arith), below (2 ^ 32 - d - 1) 2147483648 (omega arith), back) refl

abbrev pub Narrowly : Narrow → ℕ → Type 0
Narrowly s d = (d < half s) ⊎ ((2 ^ 32 - half s ≤ d) × (d < 2 ^ 32))

extended_narrowly : (width raw : ℕ) (low : Bool) → IsDisplacement width → raw < 256 ^ width → nat_lt (2 * raw) (256 ^ width) ≡ low → Narrowly (narrow_of width) (extended width raw)
unfolding extended
extended_narrowly width raw true (inl one) = rw one (λ h e. rw e (inl (grind (arith, nat_tests))))
extended_narrowly width raw false (inl one) = rw one (λ h e. rw e (inr (grind (arith, nat_tests))))
extended_narrowly width raw true (inr (inl two)) = rw two (λ h e. rw e (inl (grind (arith, nat_tests))))
extended_narrowly width raw false (inr (inl two)) = rw two (λ h e. rw e (inr (grind (arith, nat_tests))))
extended_narrowly width raw true (inr (inr four)) = rw four (λ h e. rw e (inl (grind (arith, nat_tests))))
extended_narrowly width raw false (inr (inr four)) = rw four (λ h e. rw e (inr (grind (arith, nat_tests))))

pub narrowly : (width d : ℕ) → IsDisplacement width → IsExtended width d → Narrowly (narrow_of width) d
narrowly width d w x = subst (λ (n : ℕ). Narrowly (narrow_of width) n) x.is (extended_narrowly width x.raw (nat_lt (2 * x.raw) (256 ^ width)) w x.fits refl)

displacement_back : (width d : ℕ) → IsDisplacement width → IsExtended width d → displacement (narrow_of width) (signed_value d) ≡ Some d
displacement_back width d w x = elim (narrowly width d w x) [
  | inl low ↦ displacement_low (narrow_of width) d low
  | inr high ↦ displacement_high (narrow_of width) d high.0 high.1
]

pub narrow_width : (width : ℕ) → IsDisplacement width → width_of (narrow_of width) ≡ width
narrow_width width (inl one) = rw one refl
narrow_width width (inr (inl two)) = rw two refl
narrow_width width (inr (inr four)) = rw four refl

or_true : (a : Bool) → (a || true) ≡ true
or_true true = refl
or_true false = refl

reached_back : (s : Narrow) (d : ℕ) → Narrowly s d → reached s d ≡ Some d
reached_back s d (inl low) = rw (below d (half s) low) refl
reached_back s d (inr high) = let is : nat_le (2 ^ 32 - half s) d ≡ true = let h = high.0 in grind (arith, nat_tests) in rw (is, or_true (nat_lt d (half s))) refl

immediate_back : (width n : ℕ) → IsWidth width → n < 256 ^ width → number (data_size width) (cast_signed w64 n) ≡ Some n
immediate_back width n (inl one) h = let small : n < 256 ^ 1 = rw one at h in rw (one, small_signed n (omega arith), below n 256 (omega arith)) refl
immediate_back width n (inr (inl two)) h = let small : n < 256 ^ 2 = rw two at h in rw (two, small_signed n (omega arith), below n 65536 (omega arith)) refl
immediate_back width n (inr (inr (inl four))) h = let small : n < 256 ^ 4 = rw four at h in rw (four, small_signed n (omega arith), below n 4294967296 (omega arith)) refl
immediate_back width n (inr (inr (inr eight))) h =
    let small : n < 256 ^ 8 = rw eight at h in
    rw eight (elim (cases_lt n (2 ^ 63)) [
      | inl low ↦ rw (small_signed n low, below n (2 ^ 64) (omega arith)) refl
      | inr high ↦ let back : 2 ^ 64 - suc (2 ^ 64 - suc n) ≡ n = omega arith in rw (high_signed n high (omega arith), below (2 ^ 64 - suc n) (2 ^ 63) (omega arith), back) refl
    ])

-- where the operand may stand

base_may : (p : Place) → PlaceMay p → base_stands (base_for p) ≡ true
base_may (Deferred n) h = below n 15 h
base_may (Decrement n) h = below n 15 h
base_may (Increment n) h = below n 15 h
base_may (IncrementDeferred n) h = below n 15 h
base_may (Absolute addr) h = refl
base_may (Displaced width displacement n) h = below n 16 h.1
base_may (DisplacedDeferred width displacement n) h = below n 16 h.1

right_false : (a b : Bool) → (a || b) ≡ false → b ≡ false
right_false true b e = cc
right_false false b e = e

index_may : (p : Place) (x : ℕ) → is_no_base x (base_form p) ≡ false → takes_index (base_for p) x ≡ true
unfolding is_no_base
index_may (Deferred n) x e = refl
index_may (Decrement n) x e = let apart : (n == x) ≡ false = right_false (n == 15) (n == x) e in rw apart refl
index_may (Increment n) x e = let apart : (n == x) ≡ false = right_false (n == 15) (n == x) e in rw apart refl
index_may (IncrementDeferred n) x e = let apart : (n == x) ≡ false = e in rw apart refl
index_may (Absolute addr) x e = refl
index_may (Displaced width displacement n) x e = refl
index_may (DisplacedDeferred width displacement n) x e = refl

register_may : (width n : ℕ) → n < 16 → reaches_pc width n ≡ false → (nat_lt n 15 && not (width == 8 && n == 14)) ≡ true
register_may width n h e = grind (arith, nat_tests)

-- the numbers of places

pub place_number : Place → ℕ
place_number (Deferred n) = 0
place_number (Decrement n) = 0
place_number (Increment n) = 0
place_number (IncrementDeferred n) = 0
place_number (Absolute addr) = addr
place_number (Displaced width displacement n) = displacement
place_number (DisplacedDeferred width displacement n) = displacement

-- ---- what the fields hold

-- the value of a place's expression; of a place without one, nothing
abbrev pub place_value : Place → Value
place_value (Deferred n) = zero_value
place_value (Decrement n) = zero_value
place_value (Increment n) = zero_value
place_value (IncrementDeferred n) = zero_value
place_value (Absolute addr) = value.Absolute (pos addr)
place_value (Displaced width displacement n) = value.Absolute (signed_value displacement)
place_value (DisplacedDeferred width displacement n) = value.Absolute (signed_value displacement)

place_holds : (p : Place) (section at : ℕ) → PlaceMay p → held (base_field (base_for p)) section at (Ok (place_value p)) ≡ Ok (record { number = place_number p; link = None })
unfolding place_number filled
place_holds (Deferred n) section at h = refl
place_holds (Decrement n) section at h = refl
place_holds (Increment n) section at h = refl
place_holds (IncrementDeferred n) section at h = refl
place_holds (Absolute a) section at h = rw (below a 4294967296 (omega arith)) refl
place_holds (Displaced width d n) section at h = rw (displacement_back width d h.0 h.2) refl
place_holds (DisplacedDeferred width d n) section at h = rw (displacement_back width d h.0 h.2) refl

pub place_back : (p : Place) → PlaceMay p → place_of (base_for p) (place_number p) ≡ p
unfolding place_number
place_back (Deferred n) h = refl
place_back (Decrement n) h = refl
place_back (Increment n) h = refl
place_back (IncrementDeferred n) h = refl
place_back (Absolute a) h = refl
place_back (Displaced width d n) h = rw (narrow_width width h.0) refl
place_back (DisplacedDeferred width d n) h = rw (narrow_width width h.0) refl

pub place_sized : (p : Place) (section at : ℕ) (v : Result Value ExprError) → sized (place_mode p) None section at v ≡ Some (operand.Memory (base_for p))
place_sized (Deferred n) section at v = refl
place_sized (Decrement n) section at v = refl
place_sized (Increment n) section at v = refl
place_sized (IncrementDeferred n) section at v = refl
place_sized (Absolute a) section at v = refl
place_sized (Displaced width d n) section at v = refl
place_sized (DisplacedDeferred width d n) section at v = refl

pub indexed_sized : (p : Place) (x section at : ℕ) (v : Result Value ExprError) → sized (place_mode p) (Some x) section at v ≡ Some (operand.Indexed (base_for p) x)
indexed_sized (Deferred n) x section at v = refl
indexed_sized (Decrement n) x section at v = refl
indexed_sized (Increment n) x section at v = refl
indexed_sized (IncrementDeferred n) x section at v = refl
indexed_sized (Absolute a) x section at v = refl
indexed_sized (Displaced width d n) x section at v = refl
indexed_sized (DisplacedDeferred width d n) x section at v = refl

pub read_no_branch : (l : Letter) → is_read l ≡ true → takes_branch l ≡ false
read_no_branch letter.Read h = refl
read_no_branch letter.Modify h = refl
read_no_branch letter.Write h = refl
read_no_branch letter.Address h = refl
read_no_branch letter.Field h = refl
read_no_branch letter.Branch h = cc

pub register_no_branch : (l : Letter) → takes_register l ≡ true → takes_branch l ≡ false
register_no_branch letter.Read h = refl
register_no_branch letter.Modify h = refl
register_no_branch letter.Write h = refl
register_no_branch letter.Address h = refl
register_no_branch letter.Field h = refl
register_no_branch letter.Branch h = cc

pub result_no_branch : (l : Letter) → is_result l ≡ false → takes_branch l ≡ false
result_no_branch letter.Read h = refl
result_no_branch letter.Modify h = refl
result_no_branch letter.Write h = refl
result_no_branch letter.Address h = refl
result_no_branch letter.Field h = refl
result_no_branch letter.Branch h = cc

pub branch_width : (width : ℕ) → IsBranchWidth width → width_of (branch_size width) ≡ width
branch_width width (inl one) = rw one refl
branch_width width (inr two) = rw two refl

branch_few : (width : ℕ) → IsBranchWidth width → width ≤ 2
branch_few width (inl one) = omega arith
branch_few width (inr two) = omega arith

branch_displaces : (width : ℕ) → IsBranchWidth width → IsDisplacement width
branch_displaces width (inl one) = inl one
branch_displaces width (inr two) = inr (inl two)

pub branch_narrowly : (width d : ℕ) → IsBranchWidth width → IsExtended width d → Narrowly (branch_size width) d
branch_narrowly width d w x = narrowly width d (branch_displaces width w) x

pub narrow_wide : (s : Narrow) (d : ℕ) → Narrowly s d → d < 2 ^ 32
narrow_wide narrow.B d (inl low) = omega arith
narrow_wide narrow.W d (inl low) = omega arith
narrow_wide narrow.L d (inl low) = omega arith
narrow_wide s d (inr high) = high.1

-- ---- operands

abbrev pub operand_for : Specifier → Operand
operand_for (Literal n) = operand.Literal
operand_for (Register n) = operand.Register n
operand_for (Immediate n) = operand.Immediate
operand_for (InMemory p) = operand.Memory (base_for p)
operand_for (Indexed p x) = operand.Indexed (base_for p) x
operand_for (BranchBy d) = operand.Branch

-- the value of the expression of an operand that ends in front of an address
abbrev pub value_for : (next : ℕ) → Specifier → Value
value_for next (Literal n) = value.Absolute (pos n)
value_for next (Register n) = zero_value
value_for next (Immediate n) = value.Absolute (cast_signed w64 n)
value_for next (InMemory p) = place_value p
value_for next (Indexed p x) = place_value p
value_for next (BranchBy d) = value.Absolute (pos (plus next d))

-- the number in the field of an operand
abbrev pub number_for : Specifier → ℕ
number_for (Literal n) = n
number_for (Register n) = 0
number_for (Immediate n) = n
number_for (InMemory p) = place_number p
number_for (Indexed p x) = place_number p
number_for (BranchBy d) = d

pub back_from : (kind : OperandKind) (s : Specifier) → May kind s → specifier_of (operand_for s) (number_for s) ≡ s
back_from kind (Literal n) h = refl
back_from kind (Register n) h = refl
back_from kind (Immediate n) h = refl
back_from kind (InMemory p) h = ap InMemory (place_back p h.0)
back_from kind (Indexed p x) h = ap (λ (q : Place). Indexed q x) (place_back p h.1)
back_from kind (BranchBy d) h = refl

pub stands_for : (kind : OperandKind) (s : Specifier) → May kind s → may_stand kind (operand_for s) ≡ true
stands_for kind (Literal n) h = h.1
stands_for kind (Register n) h = rw (register_may kind.width n h.0 h.1, h.2) refl
stands_for kind (Immediate n) h = rw h.1 refl
stands_for kind (InMemory p) h = rw (base_may p h.0, h.1) refl
stands_for kind (Indexed p x) h = rw (below x 15 h.0, base_may p h.1, index_may p x h.2, h.3) refl
stands_for kind (BranchBy d) h = h.2

-- Where an instruction branches the linker fills in; all other fields hold their numbers.
abbrev pub IsHeld : OperandKind → (next section at : ℕ) → Specifier → Type 0
IsHeld kind next section at (BranchBy d) =
    held (field_of kind operand.Branch) section at (Ok (value_for next (BranchBy d)))
    ≡ Ok (record { number = 0; link = Some (record { kind = relative_reloc (branch_size kind.width); target = value_for next (BranchBy d) }) })
IsHeld kind next section at s = held (field_of kind (operand_for s)) section at (Ok (value_for next s)) ≡ Ok (record { number = number_for s; link = None })

pub held_for : (kind : OperandKind) (next section at : ℕ) (s : Specifier) → IsWidth kind.width → May kind s → IsHeld kind next section at s
unfolding filled
held_for kind next section at (Literal n) w h = rw (below n 64 h.0) refl
held_for kind next section at (Register n) w h = refl
held_for kind next section at (Immediate n) w h = rw (immediate_back kind.width n w h.0) refl
held_for kind next section at (InMemory p) w h = place_holds p section at h.0
held_for kind next section at (Indexed p x) w h = place_holds p section at h.1
held_for kind next section at (BranchBy d) w h = refl
