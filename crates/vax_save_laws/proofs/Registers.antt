-- The registers, and the string instruction that is open.
use Rattle.std.proofs.Common.{◌≡◌, ℕ, ◌+◌, ◌*◌, ◌^◌, ◌<◌, Bool, true, false, List, [], ◌∷◌, ◌++◌, length, take, drop, Some, Ok, refl, sym, ap, subst, ◌∙◌, append_assoc, arith, inl, inr}
use Rattle.std.specs.Prelude.{nat_lt, ◌||◌, ◌&&◌, ◌==◌, ◌%◌}
use Rattle.std.specs.List.{flat_map, list_all, list_any}
use Rattle.std.proofs.lemmas.Bool.{cases_Bool, le-ltb, ltb-true, eqb-true, ne_eqb}
use Rattle.std.proofs.lemmas.List.{take_at, drop_at, length-append}
use Rattle.byteorder.specs.Endian.{little_bytes, little_number}
use Rattle.byteorder.specs.Numbers.{length-bytes_low_first}
use Rattle.vax_word.specs.declared.Core.{Core}
use Rattle.vax_save.specs.Restoring.{behind_at, control_at, core_at, longwords_at, has_wrong_bits, is_opcode_wrong, is_part_wrong, is_string, opcode_ahead, opcode_kind, Cursor, status_at}
use Rattle.vax_save.specs.Kinds.{wrong_core}
use Rattle.vax_save.specs.Saved.{core_field, longword, no_opcode, word}
use Rattle.vax_save_laws.specs.Saveable.{AreRegisters}
use Rattle.vax_save_laws.proofs.Fields.{at, past, longwords_again, number_again, number_back, sound_again}

-- which of the two kinds of registers is read
abbrev Domain : {A B : Type 0} → (A → B) → Type 0
Domain {A = A} f = A

abbrev pub Kind : Type 0
Kind = Domain opcode_kind

-- what stands between the status and the opcode
abbrev between : Core → List ℕ → List ℕ
between core rest = flat_map longword core.stacks ++ (word core.sisr ++ ((core.iccs ∷ 0 ∷ []) ++ (word core.clock ++ rest)))

pub behind_again : (role : Kind) (core : Core) (part : Bool) (opcode : ℕ) (rest : List ℕ) (place : ℕ) → AreRegisters core part → opcode < 256 ^ 2 → is_opcode_wrong role opcode ≡ false
    → behind_at role (at place (word core.sisr ++ ((core.iccs ∷ 0 ∷ []) ++ (word core.clock ++ (word opcode ++ rest))))) ≡ Ok (record { sisr = core.sisr; iccs = core.iccs; clock = core.clock; opcode = opcode }, at (place + 2 + 1 + 1 + 2 + 2) rest)
unfolding behind_at control_at
behind_again role core part opcode rest place are small sound =
    let sisr = are.requests_word in
    let iccs = are.control_byte in
    let clock = are.clock in
    let three : List ℕ = word core.clock ++ (word opcode ++ rest) in
    let byte : (core.iccs ∷ 0 ∷ []) ++ three ≡ little_bytes 1 core.iccs ++ (little_bytes 1 0 ++ three) =
    (let low : core.iccs ≡ core.iccs % 256 = omega (arith, iccs) in ap (λ (n : ℕ). n ∷ 0 ∷ three) low) in
    let one : (core.iccs % 64 == 0) ≡ true = rw are.control refl in
    rw (
      number_again 2 core.sisr ((core.iccs ∷ 0 ∷ []) ++ three) place (omega (arith, sisr)),
      are.requests,
      byte,
      number_again 1 core.iccs (little_bytes 1 0 ++ three) (place + 2) (omega (arith, iccs)),
      one,
      number_again 1 0 three (place + 2 + 1) (omega arith),
      number_again 2 core.clock (word opcode ++ rest) (place + 2 + 1 + 1) (omega (arith, clock)),
      le-ltb 999 core.clock clock,
      number_again 2 opcode rest (place + 2 + 1 + 1 + 2) small,
      sound,
    ) refl

length_longwords : (xs : List ℕ) → length (flat_map longword xs) ≡ 4 * length xs
length_longwords [] = refl
length_longwords (x ∷ xs) = omega (arith, length_longwords xs, length-append (longword x) (flat_map longword xs), length-bytes_low_first 0 4 x)

ahead_is : (front : List ℕ) (opcode : ℕ) (rest : List ℕ) (place : ℕ) → length front ≡ 30 → opcode < 256 ^ 2 → opcode_ahead (at place (front ++ (word opcode ++ rest))) ≡ Some opcode
unfolding opcode_ahead
ahead_is front opcode rest place len small =
    let two : length (word opcode) ≡ 2 = length-bytes_low_first 0 2 opcode in
    let long : nat_lt (length (front ++ (word opcode ++ rest))) 32 ≡ false = le-ltb _ _ (omega (arith, len, two, length-append front (word opcode ++ rest), length-append (word opcode) rest)) in
    let here : take 2 (drop 30 (front ++ (word opcode ++ rest))) ≡ word opcode = ap (take 2) (drop_at front (word opcode ++ rest) 30 len) ∙ take_at (word opcode) rest 2 two in
    let is : little_number 2 (take 2 (drop 30 (front ++ (word opcode ++ rest)))) ≡ opcode = ap (little_number 2) here ∙ number_back 2 opcode small in
    rw long (ap (λ (n : ℕ). Some n) is)

-- from the status on
abbrev from_status : Core → ℕ → List ℕ → List ℕ
from_status core opcode rest = longword core.psl.0 ++ between core (word opcode ++ rest)

ahead_again : (core : Core) (part : Bool) (opcode : ℕ) (rest : List ℕ) (place : ℕ) → AreRegisters core part → opcode < 256 ^ 2 → opcode_ahead (at place (from_status core opcode rest)) ≡ Some opcode
ahead_again core part opcode rest place are small =
    let front : List ℕ = longword core.psl.0 ++ (flat_map longword core.stacks ++ (word core.sisr ++ ((core.iccs ∷ 0 ∷ []) ++ word core.clock))) in
    let parts : from_status core opcode rest ≡ front ++ (word opcode ++ rest) = simp append_assoc refl in
    let stacks : length (flat_map longword core.stacks) ≡ 20 = omega (arith, length_longwords core.stacks, are.stack_count) in
    let len : length front ≡ 30 =
    omega (
      arith,
      stacks,
      length-append (longword core.psl.0) (flat_map longword core.stacks ++ (word core.sisr ++ ((core.iccs ∷ 0 ∷ []) ++ word core.clock))),
      length-bytes_low_first 0 4 core.psl.0,
      length-append (flat_map longword core.stacks) (word core.sisr ++ ((core.iccs ∷ 0 ∷ []) ++ word core.clock)),
      length-append (word core.sisr) ((core.iccs ∷ 0 ∷ []) ++ word core.clock),
      length-bytes_low_first 0 2 core.sisr,
      length-bytes_low_first 0 2 core.clock,
    ) in
    ap (λ (t : List ℕ). opcode_ahead (at place t)) parts ∙ ahead_is front opcode rest place len small

-- where the opcode that is ahead is this one, first part done is set as it must be
abbrev pub IsPartRight : Kind → ℕ → ℕ → Type 0
IsPartRight role opcode psl = (c : Cursor) → opcode_ahead c ≡ Some opcode → is_part_wrong role c psl ≡ false

status_again : (role : Kind) (core : Core) (part : Bool) (opcode : ℕ) (rest : List ℕ) (place : ℕ) → AreRegisters core part → opcode < 256 ^ 2 → IsPartRight role opcode core.psl.0
    → status_at role (at place (from_status core opcode rest)) ≡ Ok (core.psl.0, at (place + 4) (between core (word opcode ++ rest)))
unfolding status_at
status_again role core part opcode rest place are small sound =
    let long : core.psl.0 < 256 ^ 4 = let l : core.psl.0 < 2 ^ 32 = are.status_long in omega (arith, l) in
    let fine : (has_wrong_bits core.psl.0 || is_part_wrong role (at place (from_status core opcode rest)) core.psl.0) ≡ false = ap (λ (b : Bool). b || is_part_wrong role (at place (from_status core opcode rest)) core.psl.0) are.status ∙ sound (at place (from_status core opcode rest)) (ahead_again core part opcode rest place are small) in
    sound_again 4 wrong_core (λ psl. has_wrong_bits psl || is_part_wrong role (at place (from_status core opcode rest)) psl) core.psl.0 (between core (word opcode ++ rest)) place long fine

-- the place behind the registers
abbrev pub past_core : ℕ → ℕ
past_core place = past (past place 16 + 4) 5 + 2 + 1 + 1 + 2 + 2

pub core_again : (role : Kind) (core : Core) (part : Bool) (opcode : ℕ) (rest : List ℕ) (place : ℕ) → AreRegisters core part → opcode < 256 ^ 2 → is_opcode_wrong role opcode ≡ false → IsPartRight role opcode core.psl.0
    → core_at role (at place (core_field core opcode ++ rest)) ≡ Ok ((core, opcode), at (past_core place) rest)
unfolding core_at core_field
core_again role core part opcode rest place are small sound done =
    let parts : core_field core opcode ++ rest ≡ flat_map longword core.regs ++ from_status core opcode rest = simp append_assoc refl in
    let count : length core.regs ≡ 16 = are.count in
    let regs = subst (λ (n : ℕ). longwords_at n (at place (flat_map longword core.regs ++ from_status core opcode rest)) ≡ Ok (core.regs, at (past place n) (from_status core opcode rest))) count (longwords_again core.regs (from_status core opcode rest) place are.longs) in
    let status = status_again role core part opcode rest (past place 16) are small done in
    let last : List ℕ = word core.sisr ++ ((core.iccs ∷ 0 ∷ []) ++ (word core.clock ++ (word opcode ++ rest))) in
    let stack_count : length core.stacks ≡ 5 = are.stack_count in
    let stacks = subst (λ (n : ℕ). longwords_at n (at (past place 16 + 4) (flat_map longword core.stacks ++ last)) ≡ Ok (core.stacks, at (past (past place 16 + 4) n) last)) stack_count (longwords_again core.stacks last (past place 16 + 4) are.stack_longs) in
    rw (parts, regs, status, stacks, behind_again role core part opcode rest (past (past place 16 + 4) 5) are small sound) refl

-- the opcode of a string instruction

any_low : (opcode : ℕ) (codes : List ℕ) → list_any (λ code. code == opcode) codes ≡ true → list_all (λ code. nat_lt code 256) codes ≡ true → opcode < 256
any_low opcode [] any all = absurd cc
any_low opcode (code ∷ codes) any all = elim (cases_Bool (code == opcode)) [
  | inl same ↦
      let is : code ≡ opcode = eqb-true code opcode same in
      let low : code < 256 = ltb-true code 256 (first_true (nat_lt code 256) (list_all (λ c. nat_lt c 256) codes) all) in
      subst (λ (n : ℕ). n < 256) is low
  | inr other ↦
      any_low opcode codes (sym (ap (λ (b : Bool). b || list_any (λ c. c == opcode) codes) other) ∙ any) (second_true (nat_lt code 256) (list_all (λ c. nat_lt c 256) codes) all)
]
  where
    first_true : (a b : Bool) → (a && b) ≡ true → a ≡ true
    first_true true b e = refl
    first_true false b e = absurd cc

    second_true : (a b : Bool) → (a && b) ≡ true → b ≡ true
    second_true true b e = e
    second_true false b e = absurd cc

string_low : (opcode : ℕ) → is_string opcode ≡ true → opcode < 256
string_low opcode is = any_low opcode (0x28 ∷ 0x29 ∷ 0x2A ∷ 0x2B ∷ 0x2C ∷ 0x2D ∷ 0x2E ∷ 0x2F ∷ 0x39 ∷ 0x3A ∷ 0x3B ∷ []) is refl

pub opcode_low : (opcode : ℕ) → is_string opcode ≡ true → opcode < 256 ^ 2
opcode_low opcode is = omega (arith, string_low opcode is)

pub string_opcode : (opcode : ℕ) → is_string opcode ≡ true → (opcode == no_opcode) ≡ false
string_opcode opcode is = ne_eqb opcode no_opcode (λ e. omega (arith, e, string_low opcode is))
