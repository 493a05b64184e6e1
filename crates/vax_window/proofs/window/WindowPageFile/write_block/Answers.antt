use Rattle.std.proofs.Common.{refl}
use Rattle.vax_window.proofs.Seen.{on_ok, writes_seen}
use Rattle.vax_window.proofs.window.WindowPageFile.write_block.Goals as goal

pub returns-clause-ok : goal.returns-clause-ok
returns-clause-ok g c = on_ok c.write_block.result (writes_seen c.args.self.now.first c.args.n _ c.args.from.now (g.F.PageFile.contents c.args.self.now.file.now) (g.F.PageFile.contents c.write_block.new.self) c.ranges.n.fits refl) c.write_block.ensures.ok
