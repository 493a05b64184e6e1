use Rattle.std.proofs.Common.{rules, refl}
use Rattle.vax_undo.specs.declared.entry.Kept.TheVariants as kept
use Rattle.vax_undo.proofs.Undo.{logged}
use Rattle.vax_undo.proofs.txn.Txn.set_sisr.Goals as goal

pub returns-clause-keeps : goal.returns-clause-keeps
returns-clause-keeps g c =
    logged g.P.Port.view g.P.Port.since c.args.self.now _ (record { old = c.args.self.now.core.now.sisr; addr = 0; number = 0; mode = 0; kept = kept.Requests; spare = 0 })
    (rw c.of.ensures at c.push.ensures.items) refl refl (record { core = refl; term = refl; port = refl; input = refl; clock = λ h. h; since = λ start h. h })
    (refl) refl refl (search rules)
