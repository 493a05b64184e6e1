-- Laws of the table of protection codes.
use Rattle.std.proofs.Common.{◌≡◌, ℕ, zero, suc, true, false, refl, ap}
use Rattle.vax_space.specs.declared.Access.{Access}
use Rattle.vax_space.specs.declared.Access.TheVariants.{Read, Write}
use Rattle.vax_space.specs.declared.Right.{Right}
use Rattle.vax_space.specs.declared.Right.TheVariants.{Nothing, ReadOnly, ReadWrite}
use Rattle.vax_space.specs.Protection.{allows, right_of, permits}

permits_read : (right : Right) → permits right Write ≡ true → permits right Read ≡ true
permits_read Nothing h = h
permits_read ReadOnly h = refl
permits_read ReadWrite h = refl

-- what may be written may be read
pub allows_read : (code mode : ℕ) → allows code mode Write ≡ true → allows code mode Read ≡ true
unfolding allows
allows_read code mode h = permits_read (right_of code mode) h

right_reserved : (mode : ℕ) → right_of 1 mode ≡ Nothing
unfolding right_of
right_reserved zero = refl
right_reserved (suc zero) = refl
right_reserved (suc (suc zero)) = refl
right_reserved (suc (suc (suc zero))) = refl
right_reserved (suc (suc (suc (suc mode)))) = refl

pub allows_reserved : (mode : ℕ) (access : Access) → allows 1 mode access ≡ false
unfolding allows
allows_reserved mode access = ap (λ right. permits right access) (right_reserved mode)
