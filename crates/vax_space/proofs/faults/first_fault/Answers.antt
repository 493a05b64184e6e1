use Rattle.std.proofs.Common.{length, arith, sym, ◌∙◌, refl, add-one, inl, inr, below_more}
use Rattle.std.proofs.lemmas.Bool.{cases_lt}
use Rattle.std.proofs.lemmas.Option.{slice_get_read}
use Rattle.vax_space.proofs.AreaFaults.{fits_from, fault_here, end_here, fault_past, placed_end, placed_some}
use Rattle.vax_space.proofs.faults.first_fault.Goals as goal

pub returns-in-Some-clause-some : goal.returns-in-Some-clause-some
returns-in-Some-clause-some c =
    let here = slice_get_read _ _ _ _ refl c.loop-place-test.true c.index-areas-place.is in
    record {
      place = c.loop-place.place;
      here = fault_here _ _ _ here ∙ rw (← c.loop-place.invariant.low_is) (sym c.fault_of.ensures ∙ c.in-Some.is);
      before = c.loop-place.invariant.before;
    }

pub overflow_add-low : goal.overflow_add-low
overflow_add-low c =
    let fits = fits_from _ _ _ (sym c.fault_of.ensures ∙ c.in_default.is) in
    omega (arith, placed_end _ fits.placed)

pub loop-place-preserved : goal.loop-place-preserved
loop-place-preserved c =
    let here = slice_get_read _ _ _ _ refl c.loop-place-test.true c.index-areas-place.is in
    let none = sym c.fault_of.ensures ∙ c.in_default.is in
    let fits = fits_from _ _ _ none in
    let order = fits.order in
    let some = placed_some _ fits.placed in
    let counted = c.loop-place.invariant.counted in
    record {
      low_is = rw add-one (sym (end_here c.args.areas.now c.loop-place.place _ here));
      counted = omega arith;
      within = placed_end _ fits.placed;
      before = below_more _ _ c.loop-place.invariant.before (fault_here _ _ _ here ∙ rw (← c.loop-place.invariant.low_is) none);
    }

pub returns-clause-none : goal.returns-clause-none
returns-clause-none c = record {
  sound = λ place. elim (cases_lt place (length c.args.areas.now)) [
    | inl below ↦ c.loop-place.invariant.before place (omega (arith, c.loop-place-test.false))
    | inr past ↦ fault_past _ place past
  ];
}
