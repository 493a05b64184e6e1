use Rattle.std.proofs.Common.{arith, refl}
use Rattle.vax_undo.specs.Transaction.{bare, present}
use Rattle.vax_undo.specs.declared.entry.Kept.TheVariants as kept
use Rattle.vax_undo.proofs.Undo.{logged, set_back, undone_alike, pc_set}
use Rattle.vax_undo.proofs.txn.Txn.set_reg.Goals as goal

pub returns-clause-keeps : goal.returns-clause-keeps
returns-clause-keeps g c =
    logged g.P.Port.view g.P.Port.since c.args.self.now _ (record { old = c.register_of-old.result; addr = 0; number = c.args.n; mode = 0; kept = kept.Register; spare = 0 })
    (rw c.of.ensures at c.push.ensures.items) refl refl (record { core = refl; term = refl; port = refl; input = refl; clock = λ h. h; since = λ start h. h })
    (rw (c.register_of-old.ensures, set_back) refl) refl refl (c.requires.of_core, omega arith)

pub returns-then-n-eq15-clause-keeps : goal.returns-then-n-eq15-clause-keeps
returns-then-n-eq15-clause-keeps g c = record {
  undone = undone_alike c.args.self.now.origin c.args.self.now.log.now.entries.items _ _ (pc_set c.args.self.now.origin (bare (present g.P.Port.view c.args.self.now)) c.args.v);
  ready = λ ready. ready;
  room = omega arith;
  closed = omega arith;
  same = record { core = refl; term = refl; port = refl; input = refl; clock = λ h. h; since = λ start h. h };
}
