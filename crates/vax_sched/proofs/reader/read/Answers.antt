use Rattle.std.proofs.Common.{◌≡◌, ◌∙◌, sym, None, arith}
use Rattle.vax_sched.specs.Faults.{fault_of}
use Rattle.vax_sched.specs.Rules.{readings}
use Rattle.vax_sched.specs.Views.{reading}
use Rattle.vax_sched.proofs.ReadLaws.{next_reading, one_longer, passes_more, keeps_more, placed_more, all_read}
use Rattle.vax_sched.proofs.reader.read.Goals as goal

pub loop-line-preserved : goal.loop-line-preserved
loop-line-preserved c =
    let read = readings c.args.bytes.now in
    let k = c.loop-line.number in
    let x = reading c.line_of-line.result in
    let said = c.loop-line.schedule in
    let more = c.in_ok-schedule.schedule in
    let next = next_reading c.args.bytes.now c.loop-line.rest.now c.in-Some.line.now c.in-Some.behind.now k x c.loop-line.invariant.left c.in-Some.ensures.lines c.line_of-line.ensures.reads in
    let f : fault_of c.args.space.now said x ≡ None = sym c.fault.ensures ∙ c.in_default-fault.is in
    record {
      left = sym next.left;
      passed = passes_more c.args.space.now read k x (readings c.in-Some.behind.now) said next c.loop-line.invariant.passed c.loop-line.invariant.kept f;
      kept = keeps_more read k x (readings c.in-Some.behind.now) said more next c.loop-line.invariant.kept c.in_ok-schedule.ensures;
      placed = placed_more c.args.space.now said more x c.loop-line.invariant.placed f c.in_ok-schedule.ensures;
      few = omega (arith, c.in-Some.ensures.shorter, c.loop-line.invariant.few);
      short = let n = one_longer said more x c.in_ok-schedule.ensures in omega (arith, n, c.loop-line.invariant.short);
    }

pub returns-clause-means : goal.returns-clause-means
returns-clause-means c =
    all_read c.args.space.now c.args.bytes.now c.loop-line.rest.now c.loop-line.number c.loop-line.schedule c.loop-line.invariant.left c.in_default.ensures.lines c.loop-line.invariant.passed c.loop-line.invariant.kept
