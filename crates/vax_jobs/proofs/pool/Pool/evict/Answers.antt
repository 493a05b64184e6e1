use Rattle.vax_jobs.specs.Pool.{pooling_of}
use Rattle.vax_jobs.specs.declared.turn.Turned.TheVariants.{Moved, Failed}
use Rattle.vax_jobs.proofs.Moving.{out_moved, out_turned, out_unmoved}
use Rattle.vax_jobs.proofs.pool.Pool.evict.Goals as goal

pub returns-in-Ok-clause-turned : goal.returns-in-Ok-clause-turned
returns-in-Ok-clause-turned g c = out_moved (pooling_of c.args.self.now) (pooling_of c.take_out.new.self) c.in-Some.place c.args.job c.args.page c.in-Some.ensures c.in-Ok.ensures.ok

pub returns-in-Ok-clause-goes : goal.returns-in-Ok-clause-goes
returns-in-Ok-clause-goes g c = out_turned c.args.job c.args.page Moved (pooling_of c.args.self.now) c.args.self.now.machines.items (g.F.PageFile.contents c.args.file.now) c.take_out.new.self.machines.items (g.F.PageFile.contents c.take_out.new.file) c.take_out.ensures.keeps

pub returns-in-Err-clause-turned : goal.returns-in-Err-clause-turned
returns-in-Err-clause-turned g c = out_unmoved (pooling_of c.args.self.now) (pooling_of c.take_out.new.self) c.in-Some.place c.args.job c.args.page c.in-Some.ensures c.in-Err.ensures.err

pub returns-in-Err-clause-goes : goal.returns-in-Err-clause-goes
returns-in-Err-clause-goes g c = out_turned c.args.job c.args.page Failed (pooling_of c.args.self.now) c.args.self.now.machines.items (g.F.PageFile.contents c.args.file.now) c.take_out.new.self.machines.items (g.F.PageFile.contents c.take_out.new.file) c.take_out.ensures.keeps
