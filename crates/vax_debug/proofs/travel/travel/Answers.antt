use Rattle.std.proofs.Common.{◌≤◌, ◌<◌, ◌+◌, ◌∙◌, Err, refl, arith}
use Rattle.vax_machine.specs.Meaning.{engine}
use Rattle.vax_console.specs.Ends.{scene}
use Rattle.vax_console.specs.Transcript.{advanced, stepped}
use Rattle.vax_debug.specs.Travel.{stops_at, travelled}
use Rattle.vax_debug.proofs.Arriving.{comes_first, comes_on, comes_to_end, comes_to_stop, counts_then, fails_behind, has_number}
use Rattle.vax_console.proofs.Only.{only_none, only_then}
use Rattle.vax_debug.proofs.travel.travel.Goals as goal

pub loop-init : goal.loop-init
loop-init g c = record {
  comes = λ o s replies h few. comes_first c.args.course.count (stops_at c.args.marks.now.breaks.now c.args.marks.now.seen.now c.args.course.goal) o s replies _ h;
  quiet = refl;
  written = refl;
  only = only_none _;
}

pub returns-in-Err-clause-goes : goal.returns-in-Err-clause-goes
returns-in-Err-clause-goes g c = λ o s replies h few.
    let k = c.loop.invariant.comes o s replies h few in
    let i = c.loop.counter in
    let w = scene (engine c.step_on.new.machine) (g.F.PageFile.contents c.step_on.new.file) (g.K.Sink.contents c.step_on.new.sink) in
    let next : i + 1 ≤ c.args.course.count = omega arith in
    let below : i < c.args.course.count = omega arith in
    fails_behind c.in-Err.failure c.args.limits.now.turns c.args.course.count i (stepped (advanced i s)) (travelled c.args.course.count (stops_at c.args.marks.now.breaks.now c.args.marks.now.seen.now c.args.course.goal) s) o s replies w next
    (c.in-Err.ensures.goes o (advanced i s) replies k.here (has_number c.args.course.count i s below few))

pub returns-in-Ok-true-clause-goes : goal.returns-in-Ok-true-clause-goes
returns-in-Ok-true-clause-goes g c = λ o s replies h few.
    let k = c.loop.invariant.comes o s replies h few in
    let i = c.loop.counter in
    let w = scene (engine c.step_on.new.machine) (g.F.PageFile.contents c.step_on.new.file) (g.K.Sink.contents c.step_on.new.sink) in
    let below : i < c.args.course.count = omega arith in
    let a = c.in-Ok-true.ensures.goes o (advanced i s) replies k.here (has_number c.args.course.count i s below few) in
    comes_to_stop c.args.course.count i (stops_at c.args.marks.now.breaks.now c.args.marks.now.seen.now c.args.course.goal) o s replies w _ below k.rest a.1 a.0 c.in-Ok-true.field-0-test

pub loop-preserved : goal.loop-preserved
loop-preserved g c = record {
  comes = λ o s replies h few.
      let k = c.loop.invariant.comes o s replies h few in
      let i = c.loop.counter in
      let w = scene (engine c.step_on.new.machine) (g.F.PageFile.contents c.step_on.new.file) (g.K.Sink.contents c.step_on.new.sink) in
      let below : i < c.args.course.count = omega arith in
      let a = c.in-Ok-false.ensures.goes o (advanced i s) replies k.here (has_number c.args.course.count i s below few) in
      comes_on c.args.course.count i (stops_at c.args.marks.now.breaks.now c.args.marks.now.seen.now c.args.course.goal) o s replies w _ below k.rest a.1 a.0 c.in-Ok-false.field-0-test;
  quiet = c.in-Ok-false.ensures.counts.0 ∙ c.loop.invariant.quiet;
  written = c.in-Ok-false.ensures.counts.1 ∙ c.loop.invariant.written;
  only = only_then _ _ _ c.loop.invariant.only c.step_on.ensures.only;
}

pub returns-clause-goes : goal.returns-clause-goes
returns-clause-goes g c = λ o s replies h few.
    let k = c.loop.invariant.comes o s replies h few in
    let all : c.args.course.count ≤ c.loop.counter = omega arith in
    comes_to_end c.args.course.count c.loop.counter (stops_at c.args.marks.now.breaks.now c.args.marks.now.seen.now c.args.course.goal) o s replies _ all k

pub returns-in-Err-clause-counts : goal.returns-in-Err-clause-counts
returns-in-Err-clause-counts g c = counts_then (Err c.in-Err.failure) (g.F.PageFile.faults c.args.file.now) (g.F.PageFile.faults c.loop.file) (g.F.PageFile.faults c.step_on.new.file) (g.K.Sink.faults c.args.sink.now) (g.K.Sink.faults c.loop.sink) (g.K.Sink.faults c.step_on.new.sink) c.loop.invariant.quiet c.loop.invariant.written c.in-Err.ensures.counts

pub returns-in-Err-clause-only : goal.returns-in-Err-clause-only
returns-in-Err-clause-only g c = only_then _ _ _ c.loop.invariant.only c.step_on.ensures.only

pub returns-in-Ok-true-clause-only : goal.returns-in-Ok-true-clause-only
returns-in-Ok-true-clause-only g c = only_then _ _ _ c.loop.invariant.only c.step_on.ensures.only
