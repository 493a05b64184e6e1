use Rattle.std.proofs.Common.{arith, refl}
use Rattle.vax_undo.proofs.Undo.{undone_alike}
use Rattle.vax_undo.proofs.txn.Txn.set_psl.Goals as goal

pub returns-clause-keeps : goal.returns-clause-keeps
returns-clause-keeps g c = record {
  undone = undone_alike c.args.self.now.origin c.args.self.now.log.now.entries.items _ _ refl;
  ready = λ ready. ready;
  room = omega arith;
  closed = c.requires.closed;
  same = record { core = refl; term = refl; port = refl; input = refl; clock = λ h. h; since = λ start h. h };
}
