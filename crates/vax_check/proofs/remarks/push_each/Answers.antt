use Rattle.vax_asm_causes.specs.View.{asked_by}
use Rattle.vax_check.proofs.Telling.{remarks_done}
use Rattle.vax_prelude.specs.View.{preludes_seen}
use Rattle.vax_check.proofs.remarks.push_each.Goals as goal

pub returns : goal.returns
returns c = remarks_done c.args.files.dialect (asked_by c.args.wanted) (preludes_seen c.args.files.preludes.now) c.args.files.names.now c.args.files.texts.now c.loop-i.i c.min-i-end.result c.loop-i.out.items c.min-i-end.ensures c.loop-i-test.false c.loop-i.invariant
