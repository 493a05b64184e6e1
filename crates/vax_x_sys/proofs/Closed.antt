-- Every status that an instruction or a delivery sets leaves no instruction open.
use Rattle.std.proofs.Common.{Bool, true, false, ◌≡◌, ℕ, ◌+◌, ◌-◌, ◌*◌, ◌/◌, ◌%◌, ◌^◌, ◌<◌, ◌≤◌, arith}
use Rattle.std.proofs.lemmas.Bool.{eqb-false}
use Rattle.std.specs.Prelude.{not, ◌&&◌, ◌||◌, ◌==◌, nat_lt}
use Rattle.vax_word.specs.declared.Psl.{Psl}
use Rattle.vax_word.specs.Status.{field, is_one, ipl_of, mode_of, prev_of}
use Rattle.vax_flat.specs.Delivery.{on_interrupt_stack}
use Rattle.vax_flat.specs.System.{is_refused, has_reserved_bits}
use Rattle.vax_undo.specs.FirstPart.{NothingOpen, first_part_done}

pub below_first_part : (p : Psl) → p.0 < 2 ^ 27 → NothingOpen p
unfolding first_part_done
below_first_part p h = omega arith

level_bit : (bits level : ℕ) → level < 32 → (bits - bits / 65536 % 32 * 65536 + level * 65536) / 134217728 % 2 ≤ bits / 134217728 % 2
level_bit bits level h = omega arith

pub level_closed : (bits level : ℕ) → level < 32 → first_part_done (record { 0 = bits - bits / 65536 % 32 * 65536 + level * 65536 }) ≤ first_part_done (record { 0 = bits })
unfolding first_part_done
level_closed bits level h = level_bit bits level h

second : (a b : Bool) → a || b ≡ false → b ≡ false
second true b h = cc
second false b h = h

clear_bit : (x : ℕ) → (x % 2 == 1) ≡ false → x % 2 ≡ 0
clear_bit x h = let no : x % 2 ≡ 1 → ⊥ = eqb-false (x % 2) 1 h in omega arith

reserved_closed : (bits : ℕ) → has_reserved_bits bits ≡ false → bits / 134217728 % 2 ≡ 0
reserved_closed bits h =
    let above : is_one bits 21 || (not (field bits 28 4 == 0) || (is_one bits 4 || is_one bits 27)) ≡ false = second (not (field bits 8 8 == 0)) _ h in
    let most : not (field bits 28 4 == 0) || (is_one bits 4 || is_one bits 27) ≡ false = second (is_one bits 21) _ above in
    let few : is_one bits 4 || is_one bits 27 ≡ false = second (not (field bits 28 4 == 0)) _ most in
    clear_bit (bits / 134217728) (second (is_one bits 4) (is_one bits 27) few)

-- what REI doesn't refuse
pub refused_closed : (old new : Psl) → is_refused old new ≡ false → NothingOpen new
unfolding is_refused first_part_done
refused_closed old new h =
    let six : (on_interrupt_stack new && not (on_interrupt_stack old))
    || ((on_interrupt_stack new && (not (mode_of new == 0) || ipl_of new == 0))
    || ((nat_lt 0 (ipl_of new) && not (mode_of new == 0))
    || (nat_lt (prev_of new) (mode_of new)
    || (nat_lt (ipl_of old) (ipl_of new)
    || has_reserved_bits new.0)))) ≡ false = second (nat_lt (mode_of new) (mode_of old)) _ h in
    let five : (on_interrupt_stack new && (not (mode_of new == 0) || ipl_of new == 0))
    || ((nat_lt 0 (ipl_of new) && not (mode_of new == 0))
    || (nat_lt (prev_of new) (mode_of new)
    || (nat_lt (ipl_of old) (ipl_of new)
    || has_reserved_bits new.0))) ≡ false = second (on_interrupt_stack new && not (on_interrupt_stack old)) _ six in
    let four : (nat_lt 0 (ipl_of new) && not (mode_of new == 0))
    || (nat_lt (prev_of new) (mode_of new)
    || (nat_lt (ipl_of old) (ipl_of new)
    || has_reserved_bits new.0)) ≡ false = second (on_interrupt_stack new && (not (mode_of new == 0) || ipl_of new == 0)) _ five in
    let three : nat_lt (prev_of new) (mode_of new)
    || (nat_lt (ipl_of old) (ipl_of new)
    || has_reserved_bits new.0) ≡ false = second (nat_lt 0 (ipl_of new) && not (mode_of new == 0)) _ four in
    let two : nat_lt (ipl_of old) (ipl_of new) || has_reserved_bits new.0 ≡ false = second (nat_lt (prev_of new) (mode_of new)) _ three in
    reserved_closed new.0 (second (nat_lt (ipl_of old) (ipl_of new)) (has_reserved_bits new.0) two)
