use Rattle.std.proofs.Common.{arith, rules}
use Rattle.vax_outside.proofs.BlockLaws.{written}
use Rattle.vax_outside.proofs.mem_pages.MemPagesPageFile.write_block.Goals as goal

pub returns-clause-ok : goal.returns-clause-ok
returns-clause-ok c = written c.args.self.now.blocks.items c.args.n c.args.from.now c.args.self.now.writes.items c.push.new.self.items c.args.self.now.reads (omega arith) (search rules)
