use Rattle.std.proofs.Common.{◌≡◌, ◌<◌, ◌-◌, arith, length, refl, sym, ap, ◌∙◌}
use Rattle.std.proofs.lemmas.List.{drop_all}
use Rattle.std.proofs.lemmas.Option.{slice_get_read}
use Rattle.vax_space.proofs.AreaFaults.{fits_here}
use Rattle.vax_space.proofs.Tables.{maps_none, maps_more, written_back}
use Rattle.vax_space.proofs.codes.code_table.Goals as goal

pub loop-i-init : goal.loop-i-init
loop-i-init c =
    rw (drop_all (length c.args.areas.now) c.args.areas.now (omega arith)) (maps_none _ _ refl (c.in_ok-codes.ensures.items_if_clones_equal (λ y e. e)))

pub paint-requires-clause-placed : goal.paint-requires-clause-placed
paint-requires-clause-placed c =
    let below : c.loop-i.i - 1 < length c.args.areas.now = omega arith in
    (fits_here c.args.areas.now _ _ c.requires (slice_get_read _ _ _ _ refl below c.index-areas-i.is)).placed

pub loop-i-preserved : goal.loop-i-preserved
loop-i-preserved c =
    let size : length c.paint.new.codes ≡ c.loop-i.codes.len =
    c.paint.ensures.size ∙ sym c.loop-i.invariant.size ∙ sym (ap length c.deref_mut.ensures.value) ∙ c.deref_mut.ensures.len in
    rw (written_back _ _ _ size) (maps_more _ _ _ _ _ c.loop-i-test.true c.loop-i.auto.i c.index-areas-i.is c.requires c.paint.ensures.size (rw c.deref_mut.ensures.value at c.paint.ensures.codes) c.loop-i.invariant)

pub returns : goal.returns
returns c = let e : c.loop-i.i ≡ 0 = omega arith in rw e at c.loop-i.invariant
