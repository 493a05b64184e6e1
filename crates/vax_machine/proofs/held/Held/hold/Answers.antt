use Rattle.std.proofs.Common.{List, [], ap, if◌then◌else◌, refl, ℕ}
use Rattle.vax_machine.proofs.Holding.{byte_behind, only_passes, stuck, through}
use Rattle.vax_machine.proofs.Outputs.{counts_like, err_like}
use Rattle.vax_machine.specs.Writing.{both}
use Rattle.vax_machine.proofs.held.Held.hold.Goals as goal

pub returns-in_err-make_space-clause-passes : goal.returns-in_err-make_space-clause-passes
returns-in_err-make_space-clause-passes g c = stuck _ _ _ _ _ _ _ _ (byte_behind _ _ c.args.byte) c.from_residual.result c.make_space.result (err_like c.from_residual.result c.make_space.result _ c.from_residual.ensures.1 c.in_err-make_space.was) c.make_space.ensures.passes

pub returns-in_err-make_space-clause-still : goal.returns-in_err-make_space-clause-still
returns-in_err-make_space-clause-still g c = record { listed = refl; only = only_passes _ _ _ c.make_space.result _ _ refl (λ e. refl) refl c.make_space.ensures.passes }

pub returns-clause-passes : goal.returns-clause-passes
returns-clause-passes g c =
    let e = ap (λ (bytes : List ℕ). both bytes (if c.args.self.now.listed then c.args.self.now.lines else [])) c.push.ensures.items in
    through _ _ _ _ _ _ _ _ e (byte_behind _ _ c.args.byte) c.in_ok-make_space.ensures.passes

pub returns-clause-still : goal.returns-clause-still
returns-clause-still g c = record { listed = refl; only = only_passes _ _ _ c.make_space.result _ _ refl (λ e. refl) refl c.make_space.ensures.passes }

pub returns-in_err-make_space-clause-counts : goal.returns-in_err-make_space-clause-counts
returns-in_err-make_space-clause-counts g c = λ file.
    counts_like c.from_residual.result c.make_space.result _ _ _ _ (err_like c.from_residual.result c.make_space.result _ c.from_residual.ensures.1 c.in_err-make_space.was) (c.make_space.ensures.counts file)
