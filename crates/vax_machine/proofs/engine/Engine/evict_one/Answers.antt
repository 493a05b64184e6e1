use Rattle.std.proofs.Common.{◌≡◌, ℕ, Some, arith, refl, subst, true}
use Rattle.std.specs.Prelude.{is_some}
use Rattle.vax_space.specs.Areas.{area_of}
use Rattle.vax_pager.specs.Meaning.{pages}
use Rattle.vax_pager.proofs.Told.{pager_is, space_is}
use Rattle.vax_machine.proofs.Delivering.{delivers_again}
use Rattle.vax_machine.proofs.Following.{evict_follows}
use Rattle.vax_machine.proofs.Listing.{evict_away, evict_cut, evict_listed}
use Rattle.vax_outside.proofs.Counting.{counts_still, still_on}
use Rattle.vax_machine.proofs.Attempts.{not_failed}
use Rattle.vax_machine.proofs.Outputs.{counts_none, then_counts, writes_nothing}
use Rattle.vax_machine.proofs.Tracking.{still_evict}
use Rattle.vax_machine.proofs.engine.Engine.evict_one.Goals as goal

pub returns-in-Failed-clause-done : goal.returns-in-Failed-clause-done
returns-in-Failed-clause-done g c = λ o p f. evict_cut o p c.args.self.now c.evict.new.self _ _ _ _ c.args.page f c.in-Failed.ensures.applies c.in-Failed.ensures.moves

pub returns-in-Failed-clause-still : goal.returns-in-Failed-clause-still
returns-in-Failed-clause-still g c = still_evict c.args.self.now c.evict.new.self _ _ _ c.evict.ensures.applies.0

pub returns-in-Failed-clause-writes : goal.returns-in-Failed-clause-writes
returns-in-Failed-clause-writes g c = writes_nothing _ _

pub returns-in-Failed-clause-counts : goal.returns-in-Failed-clause-counts
returns-in-Failed-clause-counts g c = record { file = c.in-Failed.ensures.counts; sink = counts_still refl refl }

pub list-requires-clause-turns : goal.list-requires-clause-turns
list-requires-clause-turns g c =
    let t = (still_evict c.args.self.now c.evict.new.self _ _ _ c.evict.ensures.applies.0).turns in
    let r = c.requires.turns in
    omega (arith, t, r)

pub list-requires-clause-inside : goal.list-requires-clause-inside
list-requires-clause-inside g c = λ page is.
    let k : Some c.args.page ≡ Some page = is in
    let e : c.args.page ≡ page = cc in
    subst (λ (z : ℕ). is_some (area_of (pages c.evict.new.self.pager).areas z) ≡ true) e (c.in-Evicted.ensures.inside refl)

pub returns-in-Evicted-clause-done : goal.returns-in-Evicted-clause-done
returns-in-Evicted-clause-done g c = λ o p f.
    let still = still_evict c.args.self.now c.evict.new.self _ _ _ c.evict.ensures.applies.0 in
    evict_listed o p c.args.self.now c.evict.new.self _ _ _ _ c.args.page f c.in-Evicted.ensures.applies c.in-Evicted.ensures.moves (pager_is c.args.self.now.pager) (space_is c.args.self.now.pager) _ _ c.evict.new.self.turns _ still.turns c.list.ensures.passes c.list.ensures.writes.listed

pub returns-in-Evicted-clause-still : goal.returns-in-Evicted-clause-still
returns-in-Evicted-clause-still g c = still_evict c.args.self.now c.evict.new.self _ _ _ c.evict.ensures.applies.0

pub returns-in-Evicted-clause-counts : goal.returns-in-Evicted-clause-counts
returns-in-Evicted-clause-counts g c = then_counts c.list.result _ _ _ _ _ _ c.in-Evicted.ensures.counts.quiet refl (c.list.ensures.counts (g.F.PageFile.faults c.evict.new.file))

pub returns-in_default : goal.returns-in_default
returns-in_default g c = record {
  sound = c.evict.ensures.sound;
  done = λ o p f. evict_away o p c.args.self.now c.evict.new.self _ _ _ _ c.args.page f _ c.evict.ensures.applies c.evict.ensures.moves c.in_default.not-Failed c.in_default.not-Evicted;
  still = still_evict c.args.self.now c.evict.new.self _ _ _ c.evict.ensures.applies.0;
  follows = evict_follows c.args.page c.args.self.now c.evict.new.self _ _ c.evict.result c.evict.ensures.applies;
  writes = writes_nothing _ _;
  delivers = delivers_again (still_evict c.args.self.now c.evict.new.self _ _ _ c.evict.ensures.applies.0).steps _ _;
  counts = counts_none (still_on (not_failed c.evict.result c.in_default.not-Failed) c.evict.ensures.counts) refl;
}

pub returns-in-Failed-clause-follows : goal.returns-in-Failed-clause-follows
returns-in-Failed-clause-follows g c = evict_follows c.args.page c.args.self.now c.evict.new.self _ _ c.evict.result c.evict.ensures.applies

pub returns-in-Evicted-clause-follows : goal.returns-in-Evicted-clause-follows
returns-in-Evicted-clause-follows g c = evict_follows c.args.page c.args.self.now c.evict.new.self _ _ c.evict.result c.evict.ensures.applies

pub returns-in-Evicted-clause-delivers : goal.returns-in-Evicted-clause-delivers
returns-in-Evicted-clause-delivers g c =
    let e = (still_evict c.args.self.now c.evict.new.self _ _ _ c.evict.ensures.applies.0).steps in
    c.list.ensures.delivers c.args.self.now.steps (omega (arith, e))
