-- The highest requested level.
use Rattle.std.proofs.Common.{◌≡◌, ℕ, zero, suc, ◌-◌, ◌/◌, ◌%◌, ◌^◌, ◌<◌, true, false, refl, sub-one, arith}
use Rattle.std.proofs.lemmas.Bool.{ne_eqb}
use Rattle.vax_word.specs.Status.{is_one}
use Rattle.vax_flat.specs.Step.{highest}

none_set : (place : ℕ) → is_one 0 place ≡ false
none_set place = ne_eqb (0 / 2 ^ place % 2 ^ 1) 1 (omega arith)

pub highest_none : (level : ℕ) → highest level 0 ≡ 0
unfolding highest
highest_none zero = refl
highest_none (suc level) = rw (none_set (suc level)) (highest_none level)

-- a level that isn't requested is passed over
pub highest_step : (level requests : ℕ) → 0 < level → is_one requests level ≡ false → highest level requests ≡ highest (level - 1) requests
unfolding highest
highest_step zero requests l h = absurd (omega arith)
highest_step (suc level) requests l h = rw (h, sub-one) refl

pub highest_here : (level requests : ℕ) → 0 < level → is_one requests level ≡ true → highest level requests ≡ level
unfolding highest
highest_here zero requests l h = absurd (omega arith)
highest_here (suc level) requests l h = rw h refl
