-- The names of registers are words, and are read as the registers.
use Rattle.std.proofs.Common.{◌≡◌, ℕ, zero, suc, ◌<◌, ◌≤◌, true, false, List, [], ◌∷◌, length, Some, refl, arith}
use Rattle.std.specs.Fmt.{digits}
use Rattle.std.specs.List.{list_all}
use Rattle.vax_lex.specs.Characters.{is_name_character}
use Rattle.vax_lex.specs.Statements.{is_size_letter}
use Rattle.vax_asm_statement.specs.Registers.{register_of}
use Rattle.vax_disasm.specs.Text.{register_name}
use Rattle.vax_disasm_laws.proofs.Heads.{BeginsName}

pub record IsRegister (text : List ℕ) (n : ℕ) : Type 0 where
  pub first : ℕ
  pub more : List ℕ
  pub spelled : text ≡ first ∷ more
  pub begins : BeginsName first
  pub characters : list_all is_name_character (first ∷ more) ≡ true
  pub short : length (first ∷ more) ≤ 31
  pub no_size : is_size_letter text ≡ false
  pub number : register_of text ≡ Some n

register_0 : IsRegister (register_name 0) 0
unfolding register_name digits
register_0 = record { first = 82; more = 48 ∷ []; spelled = refl; begins = record { no_blank = refl; no_comment = refl; no_digit = refl }; characters = refl; short = omega arith; no_size = refl; number = refl }

register_1 : IsRegister (register_name 1) 1
unfolding register_name digits
register_1 = record { first = 82; more = 49 ∷ []; spelled = refl; begins = record { no_blank = refl; no_comment = refl; no_digit = refl }; characters = refl; short = omega arith; no_size = refl; number = refl }

register_2 : IsRegister (register_name 2) 2
unfolding register_name digits
register_2 = record { first = 82; more = 50 ∷ []; spelled = refl; begins = record { no_blank = refl; no_comment = refl; no_digit = refl }; characters = refl; short = omega arith; no_size = refl; number = refl }

register_3 : IsRegister (register_name 3) 3
unfolding register_name digits
register_3 = record { first = 82; more = 51 ∷ []; spelled = refl; begins = record { no_blank = refl; no_comment = refl; no_digit = refl }; characters = refl; short = omega arith; no_size = refl; number = refl }

register_4 : IsRegister (register_name 4) 4
unfolding register_name digits
register_4 = record { first = 82; more = 52 ∷ []; spelled = refl; begins = record { no_blank = refl; no_comment = refl; no_digit = refl }; characters = refl; short = omega arith; no_size = refl; number = refl }

register_5 : IsRegister (register_name 5) 5
unfolding register_name digits
register_5 = record { first = 82; more = 53 ∷ []; spelled = refl; begins = record { no_blank = refl; no_comment = refl; no_digit = refl }; characters = refl; short = omega arith; no_size = refl; number = refl }

register_6 : IsRegister (register_name 6) 6
unfolding register_name digits
register_6 = record { first = 82; more = 54 ∷ []; spelled = refl; begins = record { no_blank = refl; no_comment = refl; no_digit = refl }; characters = refl; short = omega arith; no_size = refl; number = refl }

register_7 : IsRegister (register_name 7) 7
unfolding register_name digits
register_7 = record { first = 82; more = 55 ∷ []; spelled = refl; begins = record { no_blank = refl; no_comment = refl; no_digit = refl }; characters = refl; short = omega arith; no_size = refl; number = refl }

register_8 : IsRegister (register_name 8) 8
unfolding register_name digits
register_8 = record { first = 82; more = 56 ∷ []; spelled = refl; begins = record { no_blank = refl; no_comment = refl; no_digit = refl }; characters = refl; short = omega arith; no_size = refl; number = refl }

register_9 : IsRegister (register_name 9) 9
unfolding register_name digits
register_9 = record { first = 82; more = 57 ∷ []; spelled = refl; begins = record { no_blank = refl; no_comment = refl; no_digit = refl }; characters = refl; short = omega arith; no_size = refl; number = refl }

register_10 : IsRegister (register_name 10) 10
unfolding register_name digits
register_10 = record { first = 82; more = 49 ∷ 48 ∷ []; spelled = refl; begins = record { no_blank = refl; no_comment = refl; no_digit = refl }; characters = refl; short = omega arith; no_size = refl; number = refl }

register_11 : IsRegister (register_name 11) 11
unfolding register_name digits
register_11 = record { first = 82; more = 49 ∷ 49 ∷ []; spelled = refl; begins = record { no_blank = refl; no_comment = refl; no_digit = refl }; characters = refl; short = omega arith; no_size = refl; number = refl }

register_12 : IsRegister (register_name 12) 12
unfolding register_name digits
register_12 = record { first = 65; more = 80 ∷ []; spelled = refl; begins = record { no_blank = refl; no_comment = refl; no_digit = refl }; characters = refl; short = omega arith; no_size = refl; number = refl }

register_13 : IsRegister (register_name 13) 13
unfolding register_name digits
register_13 = record { first = 70; more = 80 ∷ []; spelled = refl; begins = record { no_blank = refl; no_comment = refl; no_digit = refl }; characters = refl; short = omega arith; no_size = refl; number = refl }

register_14 : IsRegister (register_name 14) 14
unfolding register_name digits
register_14 = record { first = 83; more = 80 ∷ []; spelled = refl; begins = record { no_blank = refl; no_comment = refl; no_digit = refl }; characters = refl; short = omega arith; no_size = refl; number = refl }

register_15 : IsRegister (register_name 15) 15
unfolding register_name digits
register_15 = record { first = 80; more = 67 ∷ []; spelled = refl; begins = record { no_blank = refl; no_comment = refl; no_digit = refl }; characters = refl; short = omega arith; no_size = refl; number = refl }

pub register_is : (n : ℕ) → n < 16 → IsRegister (register_name n) n
register_is zero h = register_0
register_is (suc zero) h = register_1
register_is (suc (suc zero)) h = register_2
register_is (suc (suc (suc zero))) h = register_3
register_is (suc (suc (suc (suc zero)))) h = register_4
register_is (suc (suc (suc (suc (suc zero))))) h = register_5
register_is (suc (suc (suc (suc (suc (suc zero)))))) h = register_6
register_is (suc (suc (suc (suc (suc (suc (suc zero))))))) h = register_7
register_is (suc (suc (suc (suc (suc (suc (suc (suc zero)))))))) h = register_8
register_is (suc (suc (suc (suc (suc (suc (suc (suc (suc zero))))))))) h = register_9
register_is (suc (suc (suc (suc (suc (suc (suc (suc (suc (suc zero)))))))))) h = register_10
register_is (suc (suc (suc (suc (suc (suc (suc (suc (suc (suc (suc zero))))))))))) h = register_11
register_is (suc (suc (suc (suc (suc (suc (suc (suc (suc (suc (suc (suc zero)))))))))))) h = register_12
register_is (suc (suc (suc (suc (suc (suc (suc (suc (suc (suc (suc (suc (suc zero))))))))))))) h = register_13
register_is (suc (suc (suc (suc (suc (suc (suc (suc (suc (suc (suc (suc (suc (suc zero)))))))))))))) h = register_14
register_is (suc (suc (suc (suc (suc (suc (suc (suc (suc (suc (suc (suc (suc (suc (suc zero))))))))))))))) h = register_15
register_is (suc (suc (suc (suc (suc (suc (suc (suc (suc (suc (suc (suc (suc (suc (suc (suc n)))))))))))))))) h = absurd (omega arith)
