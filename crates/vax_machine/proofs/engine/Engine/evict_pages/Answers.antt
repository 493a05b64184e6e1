use Rattle.std.proofs.Common.{refl, arith, ◌∙◌}
use Rattle.vax_machine.proofs.Delivering.{delivers_nothing, then_delivers}
use Rattle.vax_machine.proofs.Evicting.{none_yet}
use Rattle.vax_machine.proofs.Outputs.{counts_like, counts_none, err_like, then_counts, then_writes, writes_nothing}
use Rattle.vax_machine.proofs.Skipping.{last_done, next_done, next_failed}
use Rattle.vax_machine.proofs.Tracking.{still_itself, then_still}
use Rattle.vax_machine.proofs.engine.Engine.evict_pages.Goals as goal

pub loop-page-init : goal.loop-page-init
loop-page-init g c = record {
  follows = λ first start f. f;
  sound = c.requires.sound;
  still = still_itself c.args.self.now;
  writes = writes_nothing _ _;
  delivers = delivers_nothing _ _ _;
  at = λ o p f. none_yet o p _ _ _ _ f;
  quiet = refl;
  written = refl;
}

pub evict_one-requires : goal.evict_one-requires
evict_one-requires g c = record { sound = c.loop-page.invariant.sound; turns = let s = c.loop-page.invariant.still.turns in let r = c.requires.turns in omega (arith, s, r) }

pub returns-in_err-evict_one-clause-done : goal.returns-in_err-evict_one-clause-done
returns-in_err-evict_one-clause-done g c = λ o p f.
    next_failed c.args.pages.now c.loop-page.page-index o p c.evict_one.new.self _ _ _ c.from_residual.result c.evict_one.result c.loop-page-test.true (err_like c.from_residual.result c.evict_one.result _ c.from_residual.ensures.1 c.in_err-evict_one.was) (c.evict_one.ensures.done o _ (c.loop-page.invariant.at o p f))

pub returns-in_err-evict_one-clause-still : goal.returns-in_err-evict_one-clause-still
returns-in_err-evict_one-clause-still g c = then_still _ _ _ c.loop-page.invariant.still c.evict_one.ensures.still

pub returns-in_err-evict_one-clause-writes : goal.returns-in_err-evict_one-clause-writes
returns-in_err-evict_one-clause-writes g c = then_writes _ _ _ _ _ _ c.loop-page.invariant.writes c.evict_one.ensures.writes

pub returns-in_err-evict_one-clause-counts : goal.returns-in_err-evict_one-clause-counts
returns-in_err-evict_one-clause-counts g c = then_counts c.from_residual.result _ _ _ _ _ _ c.loop-page.invariant.quiet c.loop-page.invariant.written (counts_like _ c.evict_one.result _ _ _ _ (err_like c.from_residual.result c.evict_one.result _ c.from_residual.ensures.1 c.in_err-evict_one.was) c.evict_one.ensures.counts)

pub loop-page-preserved : goal.loop-page-preserved
loop-page-preserved g c = record {
  follows = λ first start f. c.evict_one.ensures.follows first start (c.loop-page.invariant.follows first start f);
  sound = c.evict_one.ensures.sound;
  still = then_still _ _ _ c.loop-page.invariant.still c.evict_one.ensures.still;
  writes = then_writes _ _ _ _ _ _ c.loop-page.invariant.writes c.evict_one.ensures.writes;
  at = λ o p f. next_done c.args.pages.now c.loop-page.page-index o p _ _ _ _ c.loop-page-test.true (c.in_ok-evict_one.ensures.done o _ (c.loop-page.invariant.at o p f));
  delivers = then_delivers _ _ _ _ _ _ _ _ _ c.loop-page.invariant.delivers c.in_ok-evict_one.ensures.delivers;
  quiet = c.in_ok-evict_one.ensures.counts.file.quiet ∙ c.loop-page.invariant.quiet;
  written = c.in_ok-evict_one.ensures.counts.sink.quiet ∙ c.loop-page.invariant.written;
}

pub returns-clause-sound : goal.returns-clause-sound
returns-clause-sound g c = c.loop-page.invariant.sound

pub returns-clause-done : goal.returns-clause-done
returns-clause-done g c = λ o p f. last_done c.args.pages.now c.loop-page.page-index o p _ _ _ _ c.loop-page-test.false (c.loop-page.invariant.at o p f)

pub returns-clause-still : goal.returns-clause-still
returns-clause-still g c = c.loop-page.invariant.still

pub returns-clause-writes : goal.returns-clause-writes
returns-clause-writes g c = c.loop-page.invariant.writes

pub returns-clause-counts : goal.returns-clause-counts
returns-clause-counts g c = counts_none c.loop-page.invariant.quiet c.loop-page.invariant.written

pub returns-in_err-evict_one-clause-follows : goal.returns-in_err-evict_one-clause-follows
returns-in_err-evict_one-clause-follows g c = λ first start f. c.evict_one.ensures.follows first start (c.loop-page.invariant.follows first start f)

pub returns-clause-follows : goal.returns-clause-follows
returns-clause-follows g c = c.loop-page.invariant.follows

pub returns-clause-delivers : goal.returns-clause-delivers
returns-clause-delivers g c = c.loop-page.invariant.delivers
