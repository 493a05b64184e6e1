-- Bytes that were written are read back.
use Rattle.std.proofs.Common.{◌≡◌, ℕ, zero, suc, ◌+◌, ◌*◌, ◌/◌, ◌%◌, ◌^◌, ◌<◌, true, false, List, ◌++◌, length, Some, Option, refl, ap, ◌∙◌, arith, nat_le, ◌==◌, inl, inr}
use Rattle.std.proofs.lemmas.Bool.Decides.{nat_tests}
use Rattle.std.proofs.Math.Nat.{pow-suc, mod-eq_of_lt, one-le-pow}
use Rattle.std.proofs.Math.Arith.{mod-mul}
use Rattle.std.proofs.lemmas.List.{take_at, length-append}
use Rattle.vax_isa.specs.declared.OperandKind.{OperandKind}
use Rattle.vax_isa.specs.declared.Letter.TheVariants as letter
use Rattle.vax_flat.specs.declared.Form.TheVariants as form
use Rattle.vax_flat.specs.Operand.{form_of, is_reserved, is_no_base}
use Rattle.vax_flat.specs.Grammar.{Place, Deferred, Decrement, Increment, IncrementDeferred, Absolute, Displaced, DisplacedDeferred, Specifier, Literal, Register, Immediate, InMemory, Indexed, BranchBy, Reading, Reads, value_of_bytes, piece, read_specifier, read_form, placed, unindexed, incremented, in_a_register, based, read_operand, read_displacement}
use Rattle.vax_asm_encode.specs.Bytes.{low_bytes, bytes_of, place_bytes, displacement_mode, Extends}
use Rattle.vax_asm_encode.specs.Operands.{takes_branch}
use Rattle.vax_asm_encode.proofs.Fitting.{IsDisplacement, PlaceFits, Fits, base_form, is_branch}

length_low : (width n : ℕ) → length (low_bytes width n) ≡ width
unfolding low_bytes
length_low zero n = refl
length_low (suc width) n = ap suc (length_low width (n / 256))

value_low : (width n : ℕ) → value_of_bytes (low_bytes width n) ≡ n % 256 ^ width
unfolding low_bytes value_of_bytes
value_low zero n = omega arith
value_low (suc width) n =
    let positive : 0 < 256 ^ width = one-le-pow width 256 (omega arith) in
    let split : n % (256 ^ width * 256) ≡ (n / 256 % 256 ^ width) * 256 + n % 256 = mod-mul n positive (omega arith) in
    rw (value_low width (n / 256), pow-suc 256 width, split) (omega arith)

literal_form : (n : ℕ) → n < 64 → form_of n ≡ form.Literal n
unfolding form_of
literal_form n h = grind (arith, nat_tests)

register_form : (n m : ℕ) → n < 16 → m ≡ 0x50 + n → form_of m ≡ form.Register n
unfolding form_of
register_form n m h e = let rest : m % 16 ≡ n = omega arith in grind (arith, nat_tests)

deferred_form : (n m : ℕ) → n < 16 → m ≡ 0x60 + n → form_of m ≡ form.Deferred n
unfolding form_of
deferred_form n m h e = let rest : m % 16 ≡ n = omega arith in grind (arith, nat_tests)

decrement_form : (n m : ℕ) → n < 16 → m ≡ 0x70 + n → form_of m ≡ form.Decrement n
unfolding form_of
decrement_form n m h e = let rest : m % 16 ≡ n = omega arith in grind (arith, nat_tests)

increment_form : (n m : ℕ) → n < 16 → m ≡ 0x80 + n → form_of m ≡ form.Increment n
unfolding form_of
increment_form n m h e = let rest : m % 16 ≡ n = omega arith in grind (arith, nat_tests)

increment_deferred_form : (n m : ℕ) → n < 16 → m ≡ 0x90 + n → form_of m ≡ form.IncrementDeferred n
unfolding form_of
increment_deferred_form n m h e = let rest : m % 16 ≡ n = omega arith in grind (arith, nat_tests)

-- a piece that was written
piece_low : (width n : ℕ) (rest : List ℕ) (next : ℕ → Option Reading) → piece width (low_bytes width n ++ rest) next ≡ next (n % 256 ^ width)
unfolding piece
piece_low width n rest next =
    let enough : nat_le width (length (low_bytes width n ++ rest)) ≡ true = rw (length-append, length_low) (grind (arith, nat_tests)) in
    rw (enough, take_at (low_bytes width n) rest width (length_low width n), value_low width n) refl

whole : (width n : ℕ) → n < 256 ^ width → n % 256 ^ width ≡ n
whole width n h = mod-eq_of_lt h

not_pc : (n : ℕ) → n < 15 → (n == 15) ≡ false
not_pc n h = grind (arith, nat_tests)

two_and : (n : ℕ) → 2 + n ≡ suc (suc n)
two_and n = omega arith

one_and : (n : ℕ) → 1 + n ≡ suc n
one_and n = omega arith

displaced_form : (width n m : ℕ) → IsDisplacement width → n < 16 → m ≡ displacement_mode width + n → form_of m ≡ form.Displacement width n
unfolding form_of
displaced_form width n m w h e = elim w [
  | inl one ↦ rw one (let at : m ≡ 0xA0 + n = rw one at e in let rest : m % 16 ≡ n = omega arith in grind (arith, nat_tests))
  | inr other ↦ elim other [
    | inl two ↦ rw two (let at : m ≡ 0xC0 + n = rw two at e in let rest : m % 16 ≡ n = omega arith in grind (arith, nat_tests))
    | inr four ↦ rw four (let at : m ≡ 0xE0 + n = rw four at e in let rest : m % 16 ≡ n = omega arith in grind (arith, nat_tests))
  ]
]

displaced_deferred_form : (width n m : ℕ) → IsDisplacement width → n < 16 → m ≡ displacement_mode width + 0x10 + n → form_of m ≡ form.DisplacementDeferred width n
unfolding form_of
displaced_deferred_form width n m w h e = elim w [
  | inl one ↦ rw one (let at : m ≡ 0xB0 + n = rw one at e in let rest : m % 16 ≡ n = omega arith in grind (arith, nat_tests))
  | inr other ↦ elim other [
    | inl two ↦ rw two (let at : m ≡ 0xD0 + n = rw two at e in let rest : m % 16 ≡ n = omega arith in grind (arith, nat_tests))
    | inr four ↦ rw four (let at : m ≡ 0xF0 + n = rw four at e in let rest : m % 16 ≡ n = omega arith in grind (arith, nat_tests))
  ]
]

pub place_back : (kind : OperandKind) (place : Place) (rest : List ℕ) → PlaceFits place → read_specifier kind (place_bytes place ++ rest) ≡ Some (Reads (InMemory place) (length (place_bytes place)))
unfolding read_specifier read_form unindexed is_reserved placed incremented
place_back kind (Deferred n) rest h = rw (deferred_form n _ (omega arith) refl, not_pc n h) refl
place_back kind (Decrement n) rest h = rw (decrement_form n _ (omega arith) refl, not_pc n h) refl
place_back kind (Increment n) rest h = rw (increment_form n _ (omega arith) refl, not_pc n h) refl
place_back kind (IncrementDeferred n) rest h = rw (increment_deferred_form n _ (omega arith) refl, not_pc n h) refl
place_back kind (Absolute addr) rest h = rw (increment_deferred_form 15 0x9F (omega arith) refl, piece_low 4 addr rest _, whole 4 addr h, length_low 4 addr) refl
place_back kind (Displaced width displacement n) rest h =
    rw (displaced_form width n _ h.0 h.1 refl, piece_low width displacement rest _, length_low width displacement, h.2, one_and width) refl
place_back kind (DisplacedDeferred width displacement n) rest h =
    rw (displaced_deferred_form width n _ h.0 h.1 refl, piece_low width displacement rest _, length_low width displacement, h.2, one_and width) refl

index_form : (n m : ℕ) → n < 16 → m ≡ 0x40 + n → form_of m ≡ form.Index n
unfolding form_of
index_form n m h e = let rest : m % 16 ≡ n = omega arith in grind (arith, nat_tests)

based_back : (x : ℕ) (place : Place) (rest : List ℕ) → PlaceFits place → is_no_base x (base_form place) ≡ false → based x (place_bytes place ++ rest) ≡ Some (Reads (Indexed place x) (suc (length (place_bytes place))))
unfolding based placed
based_back x (Deferred n) rest h b = rw (deferred_form n _ (omega arith) refl, b) refl
based_back x (Decrement n) rest h b = rw (decrement_form n _ (omega arith) refl, b) refl
based_back x (Increment n) rest h b = rw (increment_form n _ (omega arith) refl, b) refl
based_back x (IncrementDeferred n) rest h b = rw (increment_deferred_form n _ (omega arith) refl, b, not_pc n h) refl
based_back x (Absolute addr) rest h b = rw (increment_deferred_form 15 0x9F (omega arith) refl, b, piece_low 4 addr rest _, whole 4 addr h, length_low 4 addr) refl
based_back x (Displaced width displacement n) rest h b =
    rw (displaced_form width n _ h.0 h.1 refl, b, piece_low width displacement rest _, length_low width displacement, h.2, two_and width) refl
based_back x (DisplacedDeferred width displacement n) rest h b =
    rw (displaced_deferred_form width n _ h.0 h.1 refl, b, piece_low width displacement rest _, length_low width displacement, h.2, two_and width) refl

pub back : (kind : OperandKind) (s : Specifier) (rest : List ℕ) → Fits kind s → is_branch s ≡ false → read_specifier kind (bytes_of kind s ++ rest) ≡ Some (Reads s (length (bytes_of kind s)))
unfolding bytes_of read_specifier read_form in_a_register incremented is_reserved
back kind (Literal value) rest h b = rw (literal_form value h.0, h.1) refl
back kind (Register n) rest h b = rw (register_form n _ h.0 refl, h.1, h.2) refl
back kind (Immediate value) rest h b =
    let count : 1 + kind.width ≡ suc kind.width = omega arith in
    rw (increment_form 15 0x8F (omega arith) refl, h.1, piece_low kind.width value rest _, whole kind.width value h.0, length_low kind.width value, count) refl
back kind (InMemory place) rest h b = place_back kind place rest h
back kind (Indexed place x) rest h b = let apart : (x == 15) ≡ false = not_pc x h.0 in rw (index_form x _ (omega arith) refl, apart) (based_back x place rest h.1 h.2)
back kind (BranchBy displacement) rest h b = absurd (cc)

branched : (kind : OperandKind) (displacement : ℕ) (rest : List ℕ) → Extends kind.width displacement → read_displacement kind.width (bytes_of kind (BranchBy displacement) ++ rest) ≡ Some (Reads (BranchBy displacement) (length (bytes_of kind (BranchBy displacement))))
unfolding read_displacement bytes_of
branched kind displacement rest h =
    rw (piece_low kind.width displacement rest _, length_low kind.width displacement, h) refl

as_specifier : (kind : OperandKind) (bytes : List ℕ) → takes_branch kind.letter ≡ false → read_operand kind bytes ≡ read_specifier kind bytes
unfolding read_operand
as_specifier kind bytes = elim kind.letter as (λ l. takes_branch l ≡ false → read_operand (record kind { letter = l }) bytes ≡ read_specifier (record kind { letter = l }) bytes) [
  | letter.Read ↦ λ h. refl
  | letter.Modify ↦ λ h. refl
  | letter.Write ↦ λ h. refl
  | letter.Address ↦ λ h. refl
  | letter.Field ↦ λ h. refl
  | letter.Branch ↦ λ h. cc
]

as_branch : (kind : OperandKind) (bytes : List ℕ) → takes_branch kind.letter ≡ true → read_operand kind bytes ≡ read_displacement kind.width bytes
unfolding read_operand
as_branch kind bytes = elim kind.letter as (λ l. takes_branch l ≡ true → read_operand (record kind { letter = l }) bytes ≡ read_displacement kind.width bytes) [
  | letter.Read ↦ λ h. cc
  | letter.Modify ↦ λ h. cc
  | letter.Write ↦ λ h. cc
  | letter.Address ↦ λ h. cc
  | letter.Field ↦ λ h. cc
  | letter.Branch ↦ λ h. refl
]

-- every operand
pub operand_back : (kind : OperandKind) (s : Specifier) (rest : List ℕ) → Fits kind s → takes_branch kind.letter ≡ is_branch s → read_operand kind (bytes_of kind s ++ rest) ≡ Some (Reads s (length (bytes_of kind s)))
operand_back kind (Literal value) rest h b = as_specifier kind _ b ∙ back kind (Literal value) rest h refl
operand_back kind (Register n) rest h b = as_specifier kind _ b ∙ back kind (Register n) rest h refl
operand_back kind (Immediate value) rest h b = as_specifier kind _ b ∙ back kind (Immediate value) rest h refl
operand_back kind (InMemory place) rest h b = as_specifier kind _ b ∙ back kind (InMemory place) rest h refl
operand_back kind (Indexed place x) rest h b = as_specifier kind _ b ∙ back kind (Indexed place x) rest h refl
operand_back kind (BranchBy displacement) rest h b = as_branch kind _ b ∙ branched kind displacement rest h
