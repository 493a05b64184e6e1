use Rattle.std.proofs.Common.{refl, subst, sym, ap, ◌∙◌, length}
use Rattle.std.proofs.lemmas.Option.{slice_get_read}
use Rattle.vax_outside.specs.Faults.{CountsFailure}
use Rattle.vax_machine.specs.Machine.{has_failed}
use Rattle.vax_jobs.proofs.Applying.{applied_by}
use Rattle.vax_jobs.proofs.pool.Pool.apply_to.Goals as goal

pub returns-clause-applied : goal.returns-clause-applied
returns-clause-applied g c =
    let same = c.apply-applied.ensures.since c.new-window.result (refl, refl, λ begin h. h) in
    let back = c.file-1.given.1 (sym (same.0 ∙ c.new-window.ensures.lent)) ∙ c.close.ensures in
    applied_by c.args.job c.new-window.result.first c.apply-applied.new.file.first (g.F.PageFile.contents c.args.file.now) (g.F.PageFile.contents c.new-window.result.file.now) (g.F.PageFile.contents c.apply-applied.new.file.file.now) (g.F.PageFile.contents c.file-1.given.0)
    (record { first_is = c.new-window.ensures.first ∙ c.first_block.ensures; last_is = same.1; seen_is = ap g.F.PageFile.contents c.new-window.ensures.now; after_is = ap g.F.PageFile.contents back })
    c.args.event c.apply-applied.result c.args.self.now.machines.items c.index_mut.result.now c.apply-applied.new.self c.requires.few
    (slice_get_read c.args.self.now.machines.items (length c.args.self.now.machines.items) c.args.job c.index_mut.result.now refl c.requires.there c.index_mut.ensures.value)
    c.apply-applied.ensures.applies c.apply-applied.ensures.moves c.apply-applied.ensures.spends c.apply-applied.ensures.unsettled

pub returns-clause-counts : goal.returns-clause-counts
returns-clause-counts g c =
    let same = c.apply-applied.ensures.since c.new-window.result (refl, refl, λ begin h. h) in
    let back = c.file-1.given.1 (sym (same.0 ∙ c.new-window.ensures.lent)) ∙ c.close.ensures in
    subst (λ x. CountsFailure (has_failed c.apply-applied.result) (g.F.PageFile.faults c.args.file.now) (g.F.PageFile.faults x)) (sym back)
    (subst (λ x. CountsFailure (has_failed c.apply-applied.result) (g.F.PageFile.faults x) (g.F.PageFile.faults c.apply-applied.new.file.file.now)) c.new-window.ensures.now c.apply-applied.ensures.counts)

pub returns-clause-since : goal.returns-clause-since
returns-clause-since g c = λ start h.
    let same = c.apply-applied.ensures.since c.new-window.result (refl, refl, λ begin k. k) in
    let back = c.file-1.given.1 (sym (same.0 ∙ c.new-window.ensures.lent)) ∙ c.close.ensures in
    subst (λ x. g.F.PageFile.since start x) (sym back) (same.2 start (subst (λ x. g.F.PageFile.since start x) (sym c.new-window.ensures.now) h))
