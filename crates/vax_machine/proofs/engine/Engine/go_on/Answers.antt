use Rattle.std.proofs.Common.{◌≡◌, arith, inl, refl, ap, subst, ◌∙◌, List, Result, Err}
use Rattle.vax_space.specs.declared.Area.{Area}
use Rattle.vax_pager.specs.Meaning.{pages}
use Rattle.vax_sched.specs.Due.{due}
use Rattle.vax_machine.proofs.Delivering.{delivers_nothing, then_delivers}
use Rattle.vax_machine.specs.Paged.{paged}
use Rattle.vax_machine.specs.Turn.{AreMade, TurnsMade}
use Rattle.vax_machine.specs.declared.event.Fault.{Fault}
use Rattle.vax_machine.specs.declared.event.Fault.TheVariants.{Page, Write}
use Rattle.vax_machine.proofs.Ending.{counts_page, counts_stop, counts_write}
use Rattle.vax_machine.proofs.Outputs.{then_writes, writes_nothing}
use Rattle.vax_machine.proofs.Running.{at_here, cut_further, goes_further, lost_further, pins_paged, stopped_here}
use Rattle.vax_machine.proofs.engine.Engine.go_on.Goals as goal

pub loop-end-init : goal.loop-end-init
loop-end-init g c = record {
  sound = c.requires.sound;
  areas = refl;
  at = λ o p f pins. at_here c.args.limits.now o _ c.args.schedule.now p c.args.self.now _ _ _ f;
  follows = λ first start f. f;
  goes_on = λ b. b;
  turns = omega arith;
  low = λ low. low;
  few = λ low. low;
  quiet = refl;
  written = refl;
  writes = writes_nothing _ _;
  delivers = delivers_nothing _ _ _;
}

pub returns-in-Some-clause-sound : goal.returns-in-Some-clause-sound
returns-in-Some-clause-sound g c = c.loop-end.invariant.sound

pub returns-in-Some-clause-goes : goal.returns-in-Some-clause-goes
returns-in-Some-clause-goes g c = λ o p f pins.
    stopped_here c.args.limits.now o _ c.args.schedule.now p c.loop-end.self _ _ _ (c.loop-end.invariant.at o p f pins) c.in-Some.end c.in-Some.ensures.whole (λ q t. c.in-Some.ensures.stops _ q t)

pub returns-in-Some-clause-follows : goal.returns-in-Some-clause-follows
returns-in-Some-clause-follows g c = c.loop-end.invariant.follows

pub returns-in-Some-clause-between : goal.returns-in-Some-clause-between
returns-in-Some-clause-between g c = λ s b. c.in-Some.ensures.between (c.loop-end.invariant.goes_on (inl b)) s

pub returns-in-Some-clause-reaches : goal.returns-in-Some-clause-reaches
returns-in-Some-clause-reaches g c = λ s b. c.in-Some.ensures.between (c.loop-end.invariant.goes_on b) s

pub returns-in-Some-clause-steps : goal.returns-in-Some-clause-steps
returns-in-Some-clause-steps g c = λ s. c.loop-end.invariant.few

pub returns-in-Some-clause-turns : goal.returns-in-Some-clause-turns
returns-in-Some-clause-turns g c = c.loop-end.invariant.turns

pub returns-in-Some-clause-few : goal.returns-in-Some-clause-few
returns-in-Some-clause-few g c = c.loop-end.invariant.low

pub returns-in-Err-Page-clause-turns : goal.returns-in-Err-Page-clause-turns
returns-in-Err-Page-clause-turns g c = let a = c.loop-end.invariant.turns in let b = c.several_turns.ensures.later in omega (arith, a, b)

pub returns-in-Err-Page-clause-few : goal.returns-in-Err-Page-clause-few
returns-in-Err-Page-clause-few g c = λ low. c.several_turns.ensures.turns

pub returns-in-Err-Write-clause-turns : goal.returns-in-Err-Write-clause-turns
returns-in-Err-Write-clause-turns g c = let a = c.loop-end.invariant.turns in let b = c.several_turns.ensures.later in omega (arith, a, b)

pub returns-in-Err-Write-clause-few : goal.returns-in-Err-Write-clause-few
returns-in-Err-Write-clause-few g c = λ low. c.several_turns.ensures.turns

pub returns-in-Some-clause-areas : goal.returns-in-Some-clause-areas
returns-in-Some-clause-areas g c = λ s. c.loop-end.invariant.areas

pub returns-in-Some-clause-writes : goal.returns-in-Some-clause-writes
returns-in-Some-clause-writes g c = c.loop-end.invariant.writes

pub returns-in-Some-clause-counts : goal.returns-in-Some-clause-counts
returns-in-Some-clause-counts g c = counts_stop c.in-Some.end c.in-Some.ensures.whole _ _ _ _ c.loop-end.invariant.quiet c.loop-end.invariant.written

pub several_turns-requires-clause-sound : goal.several_turns-requires-clause-sound
several_turns-requires-clause-sound g c = c.loop-end.invariant.sound

pub several_turns-requires-clause-going : goal.several_turns-requires-clause-going
several_turns-requires-clause-going g c = (c.stopped.ensures.none c.in_default.is).0

pub several_turns-requires-clause-steps : goal.several_turns-requires-clause-steps
several_turns-requires-clause-steps g c = (c.stopped.ensures.none c.in_default.is).1

pub several_turns-requires-clause-turns : goal.several_turns-requires-clause-turns
several_turns-requires-clause-turns g c = (c.stopped.ensures.none c.in_default.is).2

pub loop-end-preserved : goal.loop-end-preserved
loop-end-preserved g c = record {
  sound = c.several_turns.ensures.sound;
  areas = c.in-Ok.ensures.areas ∙ c.loop-end.invariant.areas;
  at = λ o p f pins.
      let r = c.loop-end.invariant.at o p f pins in
      let here = pins_paged _ (due c.args.schedule.now) r.made p pins in
      let q = paged (pages c.args.self.now.pager).areas (due c.args.schedule.now) r.made p in
      goes_further c.args.limits.now o _ c.args.schedule.now p c.loop-end.self _ _ _ r c.several_turns.new.self _ _ _
      (subst (λ (z : List Area). AreMade c.args.limits.now o z c.args.schedule.now q c.several_turns.new.self (g.F.PageFile.contents c.several_turns.new.file) (g.K.Sink.contents c.several_turns.new.sink) c.several_turns.new.held) c.loop-end.invariant.areas (c.in-Ok.ensures.done o q r.follows here));
  follows = λ first start f. c.several_turns.ensures.follows first start (c.loop-end.invariant.follows first start f);
  goes_on = λ b. c.in-Ok.ensures.goes_on;
  turns = let a = c.loop-end.invariant.turns in let b = c.several_turns.ensures.later in omega (arith, a, b);
  low = λ low. c.several_turns.ensures.turns;
  few = λ low. c.in-Ok.ensures.steps;
  delivers = then_delivers _ _ _ _ _ _ _ _ _ c.loop-end.invariant.delivers c.in-Ok.ensures.delivers;
  quiet = c.in-Ok.ensures.counts.file.quiet ∙ c.loop-end.invariant.quiet;
  written = c.in-Ok.ensures.counts.sink.quiet ∙ c.loop-end.invariant.written;
  writes = then_writes _ _ _ _ _ _ c.loop-end.invariant.writes c.several_turns.ensures.writes;
}

pub returns-in-Err-Page-clause-goes : goal.returns-in-Err-Page-clause-goes
returns-in-Err-Page-clause-goes g c = λ o p f pins.
    let r = c.loop-end.invariant.at o p f pins in
    let here = pins_paged _ (due c.args.schedule.now) r.made p pins in
    let q = paged (pages c.args.self.now.pager).areas (due c.args.schedule.now) r.made p in
    let e : c.several_turns.result ≡ Err Page = c.in-Err-Page.is ∙ ap (λ x. Err x) c.in-Err-Page.field-0-is in
    let cut = subst (λ (z : List Area). TurnsMade c.several_turns.result c.args.limits.now o z c.args.schedule.now q c.several_turns.new.self (g.F.PageFile.contents c.several_turns.new.file) (g.K.Sink.contents c.several_turns.new.sink) c.several_turns.new.held) c.loop-end.invariant.areas (c.several_turns.ensures.done o q r.follows here) in
    cut_further c.args.limits.now o _ c.args.schedule.now p c.loop-end.self _ _ _ r c.several_turns.new.self _ _ _
    (subst (λ (z : Result (Unit {0}) Fault). TurnsMade z c.args.limits.now o (pages c.args.self.now.pager).areas c.args.schedule.now q c.several_turns.new.self (g.F.PageFile.contents c.several_turns.new.file) (g.K.Sink.contents c.several_turns.new.sink) c.several_turns.new.held) e cut)

pub returns-in-Err-Page-clause-follows : goal.returns-in-Err-Page-clause-follows
returns-in-Err-Page-clause-follows g c = λ first start f. c.several_turns.ensures.follows first start (c.loop-end.invariant.follows first start f)

pub returns-in-Err-Page-clause-writes : goal.returns-in-Err-Page-clause-writes
returns-in-Err-Page-clause-writes g c = then_writes _ _ _ _ _ _ c.loop-end.invariant.writes c.several_turns.ensures.writes

pub returns-in-Err-Page-clause-counts : goal.returns-in-Err-Page-clause-counts
returns-in-Err-Page-clause-counts g c =
    let e : c.several_turns.result ≡ Err Page = c.in-Err-Page.is ∙ ap (λ x. Err x) c.in-Err-Page.field-0-is in
    counts_page c.several_turns.result e _ _ _ _ _ _ c.loop-end.invariant.quiet c.loop-end.invariant.written c.several_turns.ensures.counts

pub returns-in-Err-Write-clause-goes : goal.returns-in-Err-Write-clause-goes
returns-in-Err-Write-clause-goes g c = λ o p f pins.
    let r = c.loop-end.invariant.at o p f pins in
    let here = pins_paged _ (due c.args.schedule.now) r.made p pins in
    let q = paged (pages c.args.self.now.pager).areas (due c.args.schedule.now) r.made p in
    let e : c.several_turns.result ≡ Err Write = c.in-Err-Write.is ∙ ap (λ x. Err x) c.in-Err-Write.field-0-is in
    let lost = subst (λ (z : List Area). TurnsMade c.several_turns.result c.args.limits.now o z c.args.schedule.now q c.several_turns.new.self (g.F.PageFile.contents c.several_turns.new.file) (g.K.Sink.contents c.several_turns.new.sink) c.several_turns.new.held) c.loop-end.invariant.areas (c.several_turns.ensures.done o q r.follows here) in
    lost_further c.args.limits.now o _ c.args.schedule.now p c.loop-end.self _ _ _ r _ _
    (subst (λ (z : Result (Unit {0}) Fault). TurnsMade z c.args.limits.now o (pages c.args.self.now.pager).areas c.args.schedule.now q c.several_turns.new.self (g.F.PageFile.contents c.several_turns.new.file) (g.K.Sink.contents c.several_turns.new.sink) c.several_turns.new.held) e lost)

pub returns-in-Err-Write-clause-follows : goal.returns-in-Err-Write-clause-follows
returns-in-Err-Write-clause-follows g c = λ first start f. c.several_turns.ensures.follows first start (c.loop-end.invariant.follows first start f)

pub returns-in-Err-Write-clause-writes : goal.returns-in-Err-Write-clause-writes
returns-in-Err-Write-clause-writes g c = then_writes _ _ _ _ _ _ c.loop-end.invariant.writes c.several_turns.ensures.writes

pub returns-in-Err-Write-clause-counts : goal.returns-in-Err-Write-clause-counts
returns-in-Err-Write-clause-counts g c =
    let e : c.several_turns.result ≡ Err Write = c.in-Err-Write.is ∙ ap (λ x. Err x) c.in-Err-Write.field-0-is in
    counts_write c.several_turns.result e _ _ _ _ _ _ c.loop-end.invariant.quiet c.loop-end.invariant.written c.several_turns.ensures.counts

pub returns-in-Some-clause-reason : goal.returns-in-Some-clause-reason
returns-in-Some-clause-reason g c = c.in-Some.ensures.reason

pub returns-in-Some-clause-delivers : goal.returns-in-Some-clause-delivers
returns-in-Some-clause-delivers g c = λ s. c.loop-end.invariant.delivers

pub returns-in-Err-Page-clause-delivers : goal.returns-in-Err-Page-clause-delivers
returns-in-Err-Page-clause-delivers g c = λ s. absurd s

pub returns-in-Err-Write-clause-delivers : goal.returns-in-Err-Write-clause-delivers
returns-in-Err-Write-clause-delivers g c = λ s. absurd s
