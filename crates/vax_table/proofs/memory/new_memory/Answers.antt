use Rattle.vax_table.proofs.Filled.{sound_new, walked_new, kept_new}
use Rattle.vax_table.proofs.memory.new_memory.Goals as goal

pub returns-clause-sound : goal.returns-clause-sound
returns-clause-sound c =
    sound_new c.args.space.now (record { bytes = c.in_ok-bytes.bytes; p0_end = c.p0_end-p0_end.result; p1_start = c.p1_start-p1_start.result })
    c.p0_end-p0_end.ensures.within c.p1_start-p1_start.ensures.low c.p1_start-p1_start.ensures.high c.in_ok-bytes.ensures

pub returns-clause-walked : goal.returns-clause-walked
returns-clause-walked c =
    walked_new c.args.space.now (record { bytes = c.in_ok-bytes.bytes; p0_end = c.p0_end-p0_end.result; p1_start = c.p1_start-p1_start.result })
    c.p0_end-p0_end.ensures.sound c.p0_end-p0_end.ensures.end c.p1_start-p1_start.ensures.start
    c.p0_end-p0_end.ensures.within c.p1_start-p1_start.ensures.low c.p1_start-p1_start.ensures.high c.in_ok-bytes.ensures

pub returns-clause-kept : goal.returns-clause-kept
returns-clause-kept c =
    kept_new c.args.space.now (record { bytes = c.in_ok-bytes.bytes; p0_end = c.p0_end-p0_end.result; p1_start = c.p1_start-p1_start.result })
    c.p0_end-p0_end.ensures.sound
    c.p0_end-p0_end.ensures.within c.p1_start-p1_start.ensures.low c.p1_start-p1_start.ensures.high c.in_ok-bytes.ensures
