use Rattle.std.proofs.Common.{◌≡◌, ◌<◌, ◌-◌, length}
use Rattle.vax_jobs.proofs.Rounds.{IsUnder}
use Rattle.vax_jobs.specs.Pool.{IsPool, pooling_of}
use Rattle.vax_jobs.specs.Running.{IsReady, setting_of, system_of}
use Rattle.vax_jobs.specs.Sending.{HasSent}
use Rattle.vax_jobs.specs.Shared.{Shared}
use Rattle.vax_jobs.proofs.pool.Pool.run.Given as goal

-- the turns so far were made, and no call of the page file or the sink failed
abbrev pub invariant-loop-next : goal.invariant-loop-next
invariant-loop-next g l = record {
  sound : IsPool l.self;
  count : length l.self.machines.items ≡ length l.fn.self.machines.items;
  most : l.self.most ≡ l.fn.self.most;
  within : l.at.line < length l.order;
  room : length l.held.items < 512;
  quiet : (g.F.PageFile.faults l.file).count ≡ (g.F.PageFile.faults l.fn.file).count;
  written : (g.K.Sink.faults l.sink).count ≡ (g.K.Sink.faults l.fn.sink).count;
  sends : HasSent (g.K.Sink.contents l.fn.sink) l.held.items (g.K.Sink.contents l.sink);
  made : (s : Shared) → IsReady (setting_of l.order l.steps l.turns (pooling_of l.fn.self)) (system_of (pooling_of l.fn.self) l.fn.self.machines.items (g.F.PageFile.contents l.fn.file)) s →
      IsUnder (setting_of l.order l.steps l.turns (pooling_of l.fn.self)) s l.made l.at (system_of (pooling_of l.self) l.self.machines.items (g.F.PageFile.contents l.file)) l.held.items (g.K.Sink.contents l.fn.sink) (g.K.Sink.contents l.sink);
}

abbrev pub decreases-loop-next : goal.decreases-loop-next
decreases-loop-next g l = l.turns - l.made
