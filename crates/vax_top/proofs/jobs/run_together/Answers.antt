use Rattle.std.proofs.Common.{ap, sym, subst, ℕ, length, ◌≡◌, ◌∙◌}
use Rattle.std.proofs.lemmas.List.{length-map}
use Rattle.vax_cli.specs.Said.{AreShared, jobs_options, names_of}
use Rattle.vax_command.specs.Around.{around, change, outside_of, with_preludes}
use Rattle.vax_command.specs.Jobs.{JobsRan, order_text}
use Rattle.vax_command.specs.JobsView.{jobs_texts_seen, together_seen}
use Rattle.vax_command.specs.ReadingView.{texts}
use Rattle.vax_prelude.specs.View.{preludes_seen}
use Rattle.vax_top.specs.Together.{together_for}
use Rattle.vax_top.proofs.JobsLaws.{jobs_carries, jobs_made}
use Rattle.vax_top.proofs.jobs.run_together.Goals as goal

pub run_jobs-requires-clause-shared : goal.run_jobs-requires-clause-shared
run_jobs-requires-clause-shared g c =
    subst (λ (n : ℕ). AreShared n (jobs_options c.args.options.now)) (sym (c.in-Ok-load_together_for.ensures.count ∙ ap length c.deref.ensures.value ∙ c.in-Ok.ensures.count)) c.requires.within

pub returns-in-Ok-load_together_for-clause-carries : goal.returns-in-Ok-load_together_for-clause-carries
returns-in-Ok-load_together_for-clause-carries g c =
    let names = names_of c.args.names.now in
    let options = jobs_options c.args.options.now in
    let files = jobs_texts_seen (texts c.in-Ok.loaded.0.items) c.in-Ok.loaded.1 in
    let programs = together_seen c.in-Ok-load_together_for.programs in
    let seen = with_preludes (preludes_seen c.args.preludes.now) (around (change g.S.Files.faults g.S.Files.contents c.args.files.now c.load_jobs.new.files) (change g.K.Sink.faults g.K.Sink.contents c.args.sink.now c.run_jobs.new.sink) (change g.F.PageFile.faults g.F.PageFile.contents c.args.pages.now c.run_jobs.new.pages)) in
    let count : length programs.users ≡ length files.programs = simp length-map (c.in-Ok-load_together_for.ensures.count ∙ ap length c.deref.ensures.value) in
    let made = subst (λ (n : ℕ). JobsRan (outside_of seen) programs files.input (order_text n files.order) options c.run_jobs.result) count c.run_jobs.ensures.ran in
    jobs_carries seen c.run_jobs.result names options files c.in-Ok.ensures.ok
    (jobs_made (outside_of seen) (together_for seen.preludes options.dialect files.programs) files options c.run_jobs.result programs
    (ap (λ read. together_for seen.preludes options.dialect (texts read)) (sym c.deref.ensures.value) ∙ c.in-Ok-load_together_for.ensures.loads) made)
