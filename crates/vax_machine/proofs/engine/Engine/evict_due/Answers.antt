use Rattle.std.proofs.Common.{◌+◌, refl, arith, subst, ◌∙◌, ℕ, List, length, take}
use Rattle.std.proofs.lemmas.Iterator.Consumers.{YieldsList-end, YieldsList-from_first, YieldsList-turn}
use Rattle.vax_space.specs.declared.Area.{Area}
use Rattle.vax_pager.specs.Meaning.{pages}
use Rattle.vax_sched.specs.Due.{due}
use Rattle.vax_sched.specs.declared.rule.Target.{Target}
use Rattle.vax_machine.proofs.Delivering.{delivers_nothing, then_delivers}
use Rattle.vax_machine.specs.Paged.{all_evicted, all_named, named}
use Rattle.vax_machine.specs.Turn.{EvictedAll, Follows}
use Rattle.vax_machine.proofs.Evicting.{all_lists, failed_list, next_list, none_yet, one_more, told}
use Rattle.vax_machine.proofs.Outputs.{counts_like, counts_none, err_like, then_counts, then_writes, writes_nothing}
use Rattle.vax_machine.proofs.Tracking.{still_itself, then_still}
use Rattle.vax_machine.proofs.engine.Engine.evict_due.Goals as goal

pub loop-target-init : goal.loop-target-init
loop-target-init g c = record {
  follows = λ first start f. f;
  sound = c.requires.sound;
  still = still_itself c.args.self.now;
  writes = writes_nothing _ _;
  delivers = delivers_nothing _ _ _;
  at = λ o p f. none_yet o p _ _ _ _ f;
  quiet = refl;
  written = refl;
}

pub evict_target-requires : goal.evict_target-requires
evict_target-requires g c = record { sound = c.loop-target.invariant.sound; turns = let s = c.loop-target.invariant.still.turns in let r = c.requires.turns in omega (arith, s, r); room = c.loop-target.auto.found ∙ c.requires.room }

pub returns-in_err-evict_target-clause-done : goal.returns-in_err-evict_target-clause-done
returns-in_err-evict_target-clause-done g c = λ o p f.
    let b = c.evict_target.ensures.done o _ (c.loop-target.invariant.at o p f) in
    failed_list (named (pages c.args.self.now.pager).areas) (due c.args.schedule.now (c.args.self.now.turns + 1)) (length c.loop-target.yielded) c.in-Some.target (told (due c.args.schedule.now (c.args.self.now.turns + 1)) (length c.loop-target.yielded) c.in-Some.target (YieldsList-turn (YieldsList-from_first (λ (x : Target). x) (λ (t : List Target). t) (due c.args.schedule.now (c.args.self.now.turns + 1)) (cc (c.into_iter-target-iterator.ensures.into_iter_gives, c.targets-target-items.ensures))) c.loop-target.yielded _ c.loop-target.yielded_by _ _ c.in-Some.target c.in-Some.is c.next.ensures.steps)) o p _ _ _ _ c.from_residual.result c.evict_target.result (err_like c.from_residual.result c.evict_target.result _ c.from_residual.ensures.1 c.in_err-evict_target.was)
    (subst (λ (z : List Area). EvictedAll c.evict_target.result o (named z c.in-Some.target) (all_evicted (all_named (pages c.args.self.now.pager).areas (take (length c.loop-target.yielded) (due c.args.schedule.now (c.args.self.now.turns + 1)))) p) c.evict_target.new.self (g.F.PageFile.contents c.evict_target.new.file) (g.K.Sink.contents c.evict_target.new.sink) c.evict_target.new.held) c.loop-target.invariant.still.areas b)

pub returns-in_err-evict_target-clause-still : goal.returns-in_err-evict_target-clause-still
returns-in_err-evict_target-clause-still g c = then_still _ _ _ c.loop-target.invariant.still c.evict_target.ensures.still

pub returns-in_err-evict_target-clause-writes : goal.returns-in_err-evict_target-clause-writes
returns-in_err-evict_target-clause-writes g c = then_writes _ _ _ _ _ _ c.loop-target.invariant.writes c.evict_target.ensures.writes

pub returns-in_err-evict_target-clause-counts : goal.returns-in_err-evict_target-clause-counts
returns-in_err-evict_target-clause-counts g c = then_counts c.from_residual.result _ _ _ _ _ _ c.loop-target.invariant.quiet c.loop-target.invariant.written (counts_like _ c.evict_target.result _ _ _ _ (err_like c.from_residual.result c.evict_target.result _ c.from_residual.ensures.1 c.in_err-evict_target.was) c.evict_target.ensures.counts)

pub loop-target-preserved : goal.loop-target-preserved
loop-target-preserved g c = record {
  follows = λ first start f. c.evict_target.ensures.follows first start (c.loop-target.invariant.follows first start f);
  sound = c.evict_target.ensures.sound;
  still = then_still _ _ _ c.loop-target.invariant.still c.evict_target.ensures.still;
  writes = then_writes _ _ _ _ _ _ c.loop-target.invariant.writes c.evict_target.ensures.writes;
  at = λ o p f.
      let b = c.in_ok-evict_target.ensures.done o _ (c.loop-target.invariant.at o p f) in
      subst (λ (n : ℕ). Follows o (all_evicted (all_named (pages c.args.self.now.pager).areas (take n (due c.args.schedule.now (c.args.self.now.turns + 1)))) p) c.evict_target.new.self (g.F.PageFile.contents c.evict_target.new.file) (g.K.Sink.contents c.evict_target.new.sink) c.evict_target.new.held) (one_more c.loop-target.yielded c.in-Some.target)
      (next_list (named (pages c.args.self.now.pager).areas) (due c.args.schedule.now (c.args.self.now.turns + 1)) (length c.loop-target.yielded) c.in-Some.target (told (due c.args.schedule.now (c.args.self.now.turns + 1)) (length c.loop-target.yielded) c.in-Some.target (YieldsList-turn (YieldsList-from_first (λ (x : Target). x) (λ (t : List Target). t) (due c.args.schedule.now (c.args.self.now.turns + 1)) (cc (c.into_iter-target-iterator.ensures.into_iter_gives, c.targets-target-items.ensures))) c.loop-target.yielded _ c.loop-target.yielded_by _ _ c.in-Some.target c.in-Some.is c.next.ensures.steps)) o p _ _ _ _
      (subst (λ (z : List Area). Follows o (all_evicted (named z c.in-Some.target) (all_evicted (all_named (pages c.args.self.now.pager).areas (take (length c.loop-target.yielded) (due c.args.schedule.now (c.args.self.now.turns + 1)))) p)) c.evict_target.new.self (g.F.PageFile.contents c.evict_target.new.file) (g.K.Sink.contents c.evict_target.new.sink) c.evict_target.new.held) c.loop-target.invariant.still.areas b));
  delivers = then_delivers _ _ _ _ _ _ _ _ _ c.loop-target.invariant.delivers c.in_ok-evict_target.ensures.delivers;
  quiet = c.in_ok-evict_target.ensures.counts.file.quiet ∙ c.loop-target.invariant.quiet;
  written = c.in_ok-evict_target.ensures.counts.sink.quiet ∙ c.loop-target.invariant.written;
}

pub returns-clause-sound : goal.returns-clause-sound
returns-clause-sound g c = c.loop-target.invariant.sound

pub returns-clause-done : goal.returns-clause-done
returns-clause-done g c = λ o p f.
    all_lists (named (pages c.args.self.now.pager).areas) (due c.args.schedule.now (c.args.self.now.turns + 1)) (length c.loop-target.yielded) o p _ _ _ _
    (let e = YieldsList-end (YieldsList-from_first (λ (x : Target). x) (λ (t : List Target). t) (due c.args.schedule.now (c.args.self.now.turns + 1)) (cc (c.into_iter-target-iterator.ensures.into_iter_gives, c.targets-target-items.ensures))) c.loop-target.yielded _ c.loop-target.yielded_by _ _ c.in-None.is c.next.ensures.steps in let k = e.1 in omega (arith, k)) (c.loop-target.invariant.at o p f)

pub returns-clause-still : goal.returns-clause-still
returns-clause-still g c = c.loop-target.invariant.still

pub returns-clause-writes : goal.returns-clause-writes
returns-clause-writes g c = c.loop-target.invariant.writes

pub returns-clause-counts : goal.returns-clause-counts
returns-clause-counts g c = counts_none c.loop-target.invariant.quiet c.loop-target.invariant.written

pub returns-in_err-evict_target-clause-follows : goal.returns-in_err-evict_target-clause-follows
returns-in_err-evict_target-clause-follows g c = λ first start f. c.evict_target.ensures.follows first start (c.loop-target.invariant.follows first start f)

pub returns-clause-follows : goal.returns-clause-follows
returns-clause-follows g c = c.loop-target.invariant.follows

pub returns-clause-delivers : goal.returns-clause-delivers
returns-clause-delivers g c = c.loop-target.invariant.delivers
