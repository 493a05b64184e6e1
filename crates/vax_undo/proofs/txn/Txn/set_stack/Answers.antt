use Rattle.std.proofs.Common.{arith, refl}
use Rattle.vax_undo.specs.declared.entry.Kept.TheVariants as kept
use Rattle.vax_undo.proofs.Undo.{logged, set_back}
use Rattle.vax_undo.proofs.txn.Txn.set_stack.Goals as goal

pub returns-clause-keeps : goal.returns-clause-keeps
returns-clause-keeps g c =
    logged g.P.Port.view g.P.Port.since c.args.self.now _ (record { old = c.stack_of-old.result; addr = 0; number = c.args.i; mode = 0; kept = kept.Stack; spare = 0 })
    (rw c.of.ensures at c.push.ensures.items) refl refl (record { core = refl; term = refl; port = refl; input = refl; clock = λ h. h; since = λ start h. h })
    (rw (c.stack_of-old.ensures, set_back) refl) refl refl (c.requires.of_core, omega arith)
