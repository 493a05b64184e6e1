use Rattle.std.proofs.Common.{arith}
use Rattle.vax_outside.proofs.BlockLaws.{gives_block}
use Rattle.vax_outside.proofs.mem_pages.MemPagesPageFile.read_block.Goals as goal

pub returns-clause-bytes : goal.returns-clause-bytes
returns-clause-bytes c = gives_block c.args.self.now.blocks.items c.args.n c.index.result.now (omega arith) c.index.ensures
