use Rattle.std.proofs.Common.{refl}
use Rattle.vax_outside.specs.Channels.{append, only}
use Rattle.vax_outside.specs.declared.traits.Chan.TheVariants.{Record}
use Rattle.vax_machine.specs.Meaning.{engine}
use Rattle.vax_machine.specs.Run.{system_of}
use Rattle.vax_machine.specs.Writing.{held_in}
use Rattle.vax_watch.specs.Traced.{trace_of}
use Rattle.vax_watch.specs.Tracing.{stage_of}
use Rattle.vax_watch.proofs.Counted.{finished_counts, lost_counts}
use Rattle.vax_watch.proofs.Stopping.{finished_traces, starts_here}
use Rattle.vax_watch.proofs.Writing.{finished_only}
use Rattle.vax_watch.proofs.steps.traced.Goals as goal

pub returns-in-WriteFault-clause-traces : goal.returns-in-WriteFault-clause-traces
returns-in-WriteFault-clause-traces g c = λ start means steps.
    let m = engine c.args.machine.now in
    let old = g.K.Sink.contents c.args.sink.now in
    let t = trace_of c.args.limits.now c.args.schedule.now c.args.plan.now m (g.F.PageFile.contents c.args.file.now) start in
    let s = stage_of (system_of m (g.F.PageFile.contents c.args.file.now) old) (record { held = c.new-held.result; lines = c.new-lines.result }) c.args.plan.now in
    let starts = starts_here t old s refl (record { steps = refl; turns = refl; residence = refl; modified = refl; blocked = refl; means = means }) refl refl c.requires.between steps refl c.new-held.ensures.nothing c.new-held.ensures.listed c.new-lines.ensures refl in
    c.in-WriteFault.ensures.begins t old (record { begun = record { place = refl; steps = steps }; same_limits = refl; same_rules = refl; same_breaks = refl; same_texts = refl }) starts

pub returns-in-WriteFault-clause-counts : goal.returns-in-WriteFault-clause-counts
returns-in-WriteFault-clause-counts g c = lost_counts _ _ _ _ c.in-WriteFault.ensures.counts

pub returns-in_default-clause-traces : goal.returns-in_default-clause-traces
returns-in_default-clause-traces g c = λ start means steps.
    let m = engine c.args.machine.now in
    let old = g.K.Sink.contents c.args.sink.now in
    let t = trace_of c.args.limits.now c.args.schedule.now c.args.plan.now m (g.F.PageFile.contents c.args.file.now) start in
    let s = stage_of (system_of m (g.F.PageFile.contents c.args.file.now) old) (record { held = c.new-held.result; lines = c.new-lines.result }) c.args.plan.now in
    let starts = starts_here t old s refl (record { steps = refl; turns = refl; residence = refl; modified = refl; blocked = refl; means = means }) refl refl c.requires.between steps refl c.new-held.ensures.nothing c.new-held.ensures.listed c.new-lines.ensures refl in
    let gone = c.begin.ensures.begins t old (record { begun = record { place = refl; steps = steps }; same_limits = refl; same_rules = refl; same_breaks = refl; same_texts = refl }) starts in
    let u = stage_of (system_of (engine c.begin.new.machine) (g.F.PageFile.contents c.begin.new.file) (g.K.Sink.contents c.begin.new.sink)) c.begin.new.notes c.begin.new.plan in
    finished_traces t old u (record { place = refl; steps = steps }) (g.K.Sink.contents c.finish.new.sink) c.begin.result c.finish.result gone c.in_default.not-WriteFault c.finish.ensures.done

pub returns-in_default-clause-counts : goal.returns-in_default-clause-counts
returns-in_default-clause-counts g c = finished_counts c.begin.result c.finish.result (append (held_in c.begin.new.notes.held) (only Record c.begin.new.notes.lines.items)) _ _ _ _ _ _ _ c.in_default.not-WriteFault c.finish.ensures.done c.begin.ensures.counts c.finish.ensures.counts

pub returns-in_default-clause-only : goal.returns-in_default-clause-only
returns-in_default-clause-only g c = finished_only c.begin.result c.finish.result c.begin.new.notes.held c.begin.new.notes.lines.items _ _ _ c.begin.ensures.only c.finish.ensures.done

pub finish-requires : goal.finish-requires
finish-requires g c = c.in_default.not-WriteFault
