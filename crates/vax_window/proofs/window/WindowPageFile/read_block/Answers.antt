use Rattle.std.proofs.Common.{refl}
use Rattle.vax_window.proofs.Seen.{gives_seen, on_ok}
use Rattle.vax_window.proofs.window.WindowPageFile.read_block.Goals as goal

pub returns-clause-bytes : goal.returns-clause-bytes
returns-clause-bytes g c = on_ok c.read_block.result (gives_seen c.args.self.now.first c.args.n _ c.read_block.new.into (g.F.PageFile.contents c.args.self.now.file.now) c.ranges.n.fits refl) c.read_block.ensures.bytes
