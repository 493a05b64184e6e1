use Rattle.std.proofs.Common.{refl}
use Rattle.vax_flat_units.proofs.Places.{few, interrupted_has_none, none_violated}
use Rattle.vax_flat_units.proofs.Sums.{made, sums}
use Rattle.vax_flat_units.proofs.places_count_units.Goals as goal

pub returns : goal.returns
returns c = record {
  sum = λ m place by. sums m place by;
  made = λ m place next by is. made m place next by is;
  few = λ m. few m;
  interrupted = λ m so. interrupted_has_none m so;
  reserved = λ p in_mode memory so. rw so refl;
  violated = λ p in_mode memory so. none_violated p in_mode memory so;
}
