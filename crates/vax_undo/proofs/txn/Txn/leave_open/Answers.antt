use Rattle.std.proofs.Common.{ap, arith, refl}
use Rattle.vax_flat.specs.OverPort.{Present}
use Rattle.vax_undo.proofs.Undo.{undone_alike}
use Rattle.vax_undo.proofs.txn.Txn.leave_open.Goals as goal

pub returns-clause-left : goal.returns-clause-left
returns-clause-left g c = record {
  state = ap (λ (p : Present). p.state) (undone_alike c.args.self.now.origin c.args.self.now.log.now.entries.items _ _ refl);
  ready = λ ready. ready;
  room = omega arith;
  same = record { core = refl; term = refl; port = refl; input = refl; clock = λ h. h; since = λ start h. h };
}
