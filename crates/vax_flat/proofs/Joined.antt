-- The first absent page of two lists of ranges.
use Rattle.std.proofs.Common.{◌≡◌, ℕ, Bool, Option, Some, None, List, [], ◌∷◌, ◌++◌, refl}
use Rattle.vax_flat.specs.Port.{first_absent}
use Rattle.vax_flat.specs.Outcome.{Range, first_missing, or_else}

or_else-assoc : (a b c d : Option ℕ) → d ≡ or_else b c → or_else a d ≡ or_else (or_else a b) c
or_else-assoc (Some page) b c d e = refl
or_else-assoc None b c d e = e

pub first_missing-append : (resident : ℕ → Bool) (xs ys : List Range) → first_missing resident (xs ++ ys) ≡ or_else (first_missing resident xs) (first_missing resident ys)
unfolding first_missing
first_missing-append resident [] ys = refl
first_missing-append resident (x ∷ xs) ys = or_else-assoc (first_absent resident x.addr x.len) _ _ _ (first_missing-append resident xs ys)
