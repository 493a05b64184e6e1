use Rattle.std.proofs.Common.{List, [], if◌then◌else◌, refl, subst, ℕ}
use Rattle.vax_outside.specs.Channels.{Grew, only}
use Rattle.vax_outside.specs.declared.traits.Chan.TheVariants.{Out}
use Rattle.vax_machine.proofs.Holding.{only_puts, write_still, writes_both, writes_first}
use Rattle.vax_machine.proofs.Outputs.{counts_like, err_like, then_counts}
use Rattle.vax_machine.specs.Writing.{Puts, both}
use Rattle.vax_machine.proofs.held.Held.write.Goals as goal

pub returns-in_err-put-clause-puts : goal.returns-in_err-put-clause-puts
returns-in_err-put-clause-puts g c =
    let lines = if c.args.self.now.listed then c.args.self.now.lines else [] in
    subst (λ (bytes : List ℕ). Puts c.from_residual.result (both bytes lines) (g.K.Sink.contents c.args.sink.now) (g.K.Sink.contents c.put.new.sink)) c.deref.ensures.0
    (writes_first c.deref.result.now lines c.from_residual.result c.put.result _ _ (err_like c.from_residual.result c.put.result _ c.from_residual.ensures.1 c.in_err-put.was) c.put.ensures.puts)

pub returns-in_err-put-clause-still : goal.returns-in_err-put-clause-still
returns-in_err-put-clause-still g c = record { listed = refl; only = only_puts _ _ _ c.put.result (only Out c.deref.result.now) refl (λ e. refl) refl c.put.ensures.puts }

pub returns-clause-puts : goal.returns-clause-puts
returns-clause-puts g c =
    let wrote = subst (λ (bytes : List ℕ). Grew (g.K.Sink.contents c.args.sink.now) (g.K.Sink.contents c.put.new.sink) (only Out bytes)) c.deref.ensures.0 c.in_ok-put.ensures.puts in
    writes_both c.args.self.now.bytes.items _ c.write_lines.result _ _ _ wrote c.write_lines.ensures.puts

pub returns-clause-still : goal.returns-clause-still
returns-clause-still g c =
    let wrote = subst (λ (bytes : List ℕ). Grew (g.K.Sink.contents c.args.sink.now) (g.K.Sink.contents c.put.new.sink) (only Out bytes)) c.deref.ensures.0 c.in_ok-put.ensures.puts in
    write_still c.args.self.now c.write_lines.result _ _ _ wrote c.write_lines.ensures.puts

pub returns-clause-counts : goal.returns-clause-counts
returns-clause-counts g c = λ file. then_counts c.write_lines.result file file file _ _ _ refl (c.in_ok-put.ensures.counts file).sink.quiet (c.write_lines.ensures.counts file)

pub returns-in_err-put-clause-counts : goal.returns-in_err-put-clause-counts
returns-in_err-put-clause-counts g c = λ file.
    counts_like c.from_residual.result c.put.result _ _ _ _ (err_like c.from_residual.result c.put.result _ c.from_residual.ensures.1 c.in_err-put.was) (c.put.ensures.counts file)
