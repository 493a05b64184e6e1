use Rattle.vax_asm_causes.proofs.Counting.{key_put}
use Rattle.vax_asm_causes.proofs.counts.put.Goals.{in-Ok, in-Err}
use Rattle.vax_asm_causes.proofs.counts.put.Goals as goal

pub returns : goal.returns
returns c = elim c.match-insert.branch [
  | in-Ok w ↦ rw w.result-is (key_put c.args.key.items c.args.counts.now c.insert.new.self _ w.in-Ok.ensures.updates)
  | in-Err w ↦ rw w.result-is tt
]
