use Rattle.std.proofs.Common.{◌≡◌, ℕ, ap, length, refl, subst, sym, ◌∙◌}
use Rattle.std.proofs.lemmas.List.{length-map}
use Rattle.std.specs.Option.{option_copied}
use Rattle.vax_cli.specs.declared.command.Command.{Command}
use Rattle.vax_cli.specs.Said.{AreShared, IsWithin, jobs_options, names_of, options as said_options, said, tracing as said_tracing}
use Rattle.vax_cli.specs.Words.{Said, about, bare, build, check, console, debug, jobs, list, listing, resume, save, run, trace, work}
use Rattle.vax_command.specs.Around.{around, beside, change, with_preludes}
use Rattle.vax_prelude.specs.View.{preludes_seen}
use Rattle.vax_top.specs.Top.{Carries}
use Rattle.vax_top.proofs.CheckLaws.{check_kept}
use Rattle.vax_top.proofs.BesideLaws.{beside_carries, none_carry}
use Rattle.vax_top.proofs.TopLaws.{about_carries, build_kept, list_kept, listing_kept, vectors_carries}
use Rattle.vax_top.proofs.top.carry_out.Goals as goal

pub returns-in-Resume-clause-carries : goal.returns-in-Resume-clause-carries
returns-in-Resume-clause-carries g c =
    let plain = around (change g.S.Files.faults g.S.Files.contents c.args.files.now c.run_resume.new.files) (change g.K.Sink.faults g.K.Sink.contents c.args.sink.now c.run_resume.new.sink) (change g.F.PageFile.faults g.F.PageFile.contents c.args.pages.now c.run_resume.new.pages) in
    let lines = change g.L.Lines.faults g.L.Lines.rest c.args.lines.now c.args.lines.now in
    let seen = with_preludes (preludes_seen c.args.preludes.now) plain in
    subst (λ (s : Said). Carries (beside lines seen) s c.run_resume.result) (ap said (sym c.in-Resume.is))
    (beside_carries lines seen (resume c.in-Resume.name.now (said_options c.in-Resume.options)) c.run_resume.result refl (none_carry (preludes_seen c.args.preludes.now) plain _ c.run_resume.result refl c.run_resume.ensures.carries))

pub returns-in-Bare-clause-carries : goal.returns-in-Bare-clause-carries
returns-in-Bare-clause-carries g c =
    let seen = with_preludes (preludes_seen c.args.preludes.now) (around (change g.S.Files.faults g.S.Files.contents c.args.files.now c.run_bare.new.files) (change g.K.Sink.faults g.K.Sink.contents c.args.sink.now c.run_bare.new.sink) (change g.F.PageFile.faults g.F.PageFile.contents c.args.pages.now c.run_bare.new.pages)) in
    let lines = change g.L.Lines.faults g.L.Lines.rest c.args.lines.now c.args.lines.now in
    let same = ap (λ names. bare (names_of names) (said_options c.in-Bare.options)) c.as_slice.ensures.value ∙ ap said (sym c.in-Bare.is) in
    subst (λ (s : Said). Carries (beside lines seen) s c.run_bare.result) same (beside_carries lines seen _ c.run_bare.result refl c.run_bare.ensures.carries)

pub returns-in-Run-clause-carries : goal.returns-in-Run-clause-carries
returns-in-Run-clause-carries g c =
    let seen = with_preludes (preludes_seen c.args.preludes.now) (around (change g.S.Files.faults g.S.Files.contents c.args.files.now c.run_user.new.files) (change g.K.Sink.faults g.K.Sink.contents c.args.sink.now c.run_user.new.sink) (change g.F.PageFile.faults g.F.PageFile.contents c.args.pages.now c.run_user.new.pages)) in
    let lines = change g.L.Lines.faults g.L.Lines.rest c.args.lines.now c.args.lines.now in
    let same = ap (λ names. run (names_of names) (said_options c.in-Run.options)) c.as_slice-in-Run.ensures.value ∙ ap said (sym c.in-Run.is) in
    subst (λ (s : Said). Carries (beside lines seen) s c.run_user.result) same (beside_carries lines seen _ c.run_user.result refl c.run_user.ensures.carries)

pub returns-in-Build-clause-carries : goal.returns-in-Build-clause-carries
returns-in-Build-clause-carries g c =
    let files = change g.S.Files.faults g.S.Files.contents c.args.files.now c.build.new.files in
    let sink = change g.K.Sink.faults g.K.Sink.contents c.args.sink.now c.build.new.sink in
    let pages = change g.F.PageFile.faults g.F.PageFile.contents c.args.pages.now c.args.pages.now in
    let kept = build_kept (preludes_seen c.args.preludes.now) files sink pages (names_of c.as_slice-in-Build.result.now) c.in-Build.target c.build.result c.in-Build.format refl c.build.ensures.carries in
    let lines = change g.L.Lines.faults g.L.Lines.rest c.args.lines.now c.args.lines.now in
    let same = ap (λ names. build (names_of names) c.in-Build.target c.in-Build.format) c.as_slice-in-Build.ensures.value ∙ ap said (sym c.in-Build.is) in
    subst (λ (s : Said). Carries (beside lines (with_preludes (preludes_seen c.args.preludes.now) (around files sink pages))) s c.build.result) same (beside_carries lines (with_preludes (preludes_seen c.args.preludes.now) (around files sink pages)) _ c.build.result refl kept)

pub returns-in-List-clause-carries : goal.returns-in-List-clause-carries
returns-in-List-clause-carries g c =
    let files = change g.S.Files.faults g.S.Files.contents c.args.files.now c.list.new.files in
    let sink = change g.K.Sink.faults g.K.Sink.contents c.args.sink.now c.list.new.sink in
    let pages = change g.F.PageFile.faults g.F.PageFile.contents c.args.pages.now c.args.pages.now in
    let kept = list_kept (preludes_seen c.args.preludes.now) files sink pages (names_of c.as_slice-in-List.result.now) c.in-List.target c.list.result refl c.list.ensures.carries in
    let lines = change g.L.Lines.faults g.L.Lines.rest c.args.lines.now c.args.lines.now in
    let same = ap (λ names. list (names_of names) c.in-List.target) c.as_slice-in-List.ensures.value ∙ ap said (sym c.in-List.is) in
    subst (λ (s : Said). Carries (beside lines (with_preludes (preludes_seen c.args.preludes.now) (around files sink pages))) s c.list.result) same (beside_carries lines (with_preludes (preludes_seen c.args.preludes.now) (around files sink pages)) _ c.list.result refl kept)

pub returns-in-Listing-clause-carries : goal.returns-in-Listing-clause-carries
returns-in-Listing-clause-carries g c =
    let files = change g.S.Files.faults g.S.Files.contents c.args.files.now c.list_sources.new.files in
    let sink = change g.K.Sink.faults g.K.Sink.contents c.args.sink.now c.list_sources.new.sink in
    let pages = change g.F.PageFile.faults g.F.PageFile.contents c.args.pages.now c.args.pages.now in
    let kept = listing_kept (preludes_seen c.args.preludes.now) files sink pages (names_of c.as_slice-in-Listing.result.now) c.in-Listing.target c.list_sources.result refl c.list_sources.ensures.carries in
    let lines = change g.L.Lines.faults g.L.Lines.rest c.args.lines.now c.args.lines.now in
    let same = ap (λ names. listing (names_of names) c.in-Listing.target) c.as_slice-in-Listing.ensures.value ∙ ap said (sym c.in-Listing.is) in
    subst (λ (s : Said). Carries (beside lines (with_preludes (preludes_seen c.args.preludes.now) (around files sink pages))) s c.list_sources.result) same (beside_carries lines (with_preludes (preludes_seen c.args.preludes.now) (around files sink pages)) _ c.list_sources.result refl kept)

pub returns-in-Work-clause-carries : goal.returns-in-Work-clause-carries
returns-in-Work-clause-carries g c =
    let seen = with_preludes (preludes_seen c.args.preludes.now) (around (change g.S.Files.faults g.S.Files.contents c.args.files.now c.run_work.new.files) (change g.K.Sink.faults g.K.Sink.contents c.args.sink.now c.run_work.new.sink) (change g.F.PageFile.faults g.F.PageFile.contents c.args.pages.now c.run_work.new.pages)) in
    let lines = change g.L.Lines.faults g.L.Lines.rest c.args.lines.now c.args.lines.now in
    subst (λ (s : Said). Carries (beside lines seen) s c.run_work.result) (ap said (sym c.in-Work.is)) (beside_carries lines seen (work c.in-Work.seed c.in-Work.size (said_options c.in-Work.options)) c.run_work.result refl (none_carry (preludes_seen c.args.preludes.now) (around (change g.S.Files.faults g.S.Files.contents c.args.files.now c.run_work.new.files) (change g.K.Sink.faults g.K.Sink.contents c.args.sink.now c.run_work.new.sink) (change g.F.PageFile.faults g.F.PageFile.contents c.args.pages.now c.run_work.new.pages)) _ c.run_work.result refl c.run_work.ensures.carries))

pub returns-in-About-clause-carries : goal.returns-in-About-clause-carries
returns-in-About-clause-carries g c =
    let seen = with_preludes (preludes_seen c.args.preludes.now) (around (change g.S.Files.faults g.S.Files.contents c.args.files.now c.args.files.now) (change g.K.Sink.faults g.K.Sink.contents c.args.sink.now c.tell.new.sink) (change g.F.PageFile.faults g.F.PageFile.contents c.args.pages.now c.args.pages.now)) in
    let lines = change g.L.Lines.faults g.L.Lines.rest c.args.lines.now c.args.lines.now in
    subst (λ (s : Said). Carries (beside lines seen) s c.tell.result) (ap said (sym c.in-About.is)) (beside_carries lines seen about c.tell.result refl (about_carries seen c.tell.result c.tell.ensures refl))

pub returns-in-Check-clause-carries : goal.returns-in-Check-clause-carries
returns-in-Check-clause-carries g c =
    let files = change g.S.Files.faults g.S.Files.contents c.args.files.now c.check.new.files in
    let sink = change g.K.Sink.faults g.K.Sink.contents c.args.sink.now c.check.new.sink in
    let pages = change g.F.PageFile.faults g.F.PageFile.contents c.args.pages.now c.args.pages.now in
    let kept = check_kept (preludes_seen c.args.preludes.now) files sink pages (names_of c.as_slice-in-Check.result.now) c.in-Check.target (option_copied c.in-Check.system) c.check.result refl c.check.ensures.carries in
    let lines = change g.L.Lines.faults g.L.Lines.rest c.args.lines.now c.args.lines.now in
    let same = ap (λ names. check (names_of names) c.in-Check.target (option_copied c.in-Check.system)) c.as_slice-in-Check.ensures.value ∙ ap said (sym c.in-Check.is) in
    subst (λ (s : Said). Carries (beside lines (with_preludes (preludes_seen c.args.preludes.now) (around files sink pages))) s c.check.result) same (beside_carries lines (with_preludes (preludes_seen c.args.preludes.now) (around files sink pages)) _ c.check.result refl kept)

pub returns-in-Console-clause-carries : goal.returns-in-Console-clause-carries
returns-in-Console-clause-carries g c =
    let seen = with_preludes (preludes_seen c.args.preludes.now) (around (change g.S.Files.faults g.S.Files.contents c.args.files.now c.run_console.new.files) (change g.K.Sink.faults g.K.Sink.contents c.args.sink.now c.run_console.new.sink) (change g.F.PageFile.faults g.F.PageFile.contents c.args.pages.now c.run_console.new.pages)) in
    let lines = change g.L.Lines.faults g.L.Lines.rest c.args.lines.now c.args.lines.now in
    let same = ap (λ names. console (names_of names) c.in-Console.base c.in-Console.script.now (said_options c.in-Console.options)) c.as_slice-in-Console.ensures.value ∙ ap said (sym c.in-Console.is) in
    subst (λ (s : Said). Carries (beside lines seen) s c.run_console.result) same (beside_carries lines seen _ c.run_console.result refl c.run_console.ensures.carries)

pub returns-in-Trace-clause-carries : goal.returns-in-Trace-clause-carries
returns-in-Trace-clause-carries g c =
    let seen = with_preludes (preludes_seen c.args.preludes.now) (around (change g.S.Files.faults g.S.Files.contents c.args.files.now c.run_trace.new.files) (change g.K.Sink.faults g.K.Sink.contents c.args.sink.now c.run_trace.new.sink) (change g.F.PageFile.faults g.F.PageFile.contents c.args.pages.now c.run_trace.new.pages)) in
    let lines = change g.L.Lines.faults g.L.Lines.rest c.args.lines.now c.args.lines.now in
    let same = ap (λ names. trace (names_of names) c.in-Trace.base (said_tracing c.in-Trace.tracing) (said_options c.in-Trace.options)) c.as_slice-in-Trace.ensures.value ∙ ap said (sym c.in-Trace.is) in
    subst (λ (s : Said). Carries (beside lines seen) s c.run_trace.result) same (beside_carries lines seen _ c.run_trace.result refl c.run_trace.ensures.carries)

pub returns-in-Debug-clause-carries : goal.returns-in-Debug-clause-carries
returns-in-Debug-clause-carries g c =
    let seen = with_preludes (preludes_seen c.args.preludes.now) (around (change g.S.Files.faults g.S.Files.contents c.args.files.now c.run_debug.new.files) (change g.K.Sink.faults g.K.Sink.contents c.args.sink.now c.run_debug.new.sink) (change g.F.PageFile.faults g.F.PageFile.contents c.args.pages.now c.run_debug.new.pages)) in
    let lines = change g.L.Lines.faults g.L.Lines.rest c.args.lines.now c.run_debug.new.lines in
    let same = ap (λ names. debug (names_of names) c.in-Debug.base c.in-Debug.prompt (said_options c.in-Debug.options)) c.as_slice-in-Debug.ensures.value ∙ ap said (sym c.in-Debug.is) in
    subst (λ (s : Said). Carries (beside lines seen) s c.run_debug.result) same c.run_debug.ensures.carries

pub returns-in-Vectors-clause-carries : goal.returns-in-Vectors-clause-carries
returns-in-Vectors-clause-carries g c =
    let seen = with_preludes (preludes_seen c.args.preludes.now) (around (change g.S.Files.faults g.S.Files.contents c.args.files.now c.args.files.now) (change g.K.Sink.faults g.K.Sink.contents c.args.sink.now c.write_vectors.new.sink) (change g.F.PageFile.faults g.F.PageFile.contents c.args.pages.now c.args.pages.now)) in
    let lines = change g.L.Lines.faults g.L.Lines.rest c.args.lines.now c.args.lines.now in
    subst (λ (s : Said). Carries (beside lines seen) s c.write_vectors.result) (ap said (sym c.in-Vectors.is)) (beside_carries lines seen _ c.write_vectors.result refl (vectors_carries seen c.write_vectors.result c.in-Vectors.request c.write_vectors.ensures refl))

pub returns-in-Save-clause-carries : goal.returns-in-Save-clause-carries
returns-in-Save-clause-carries g c =
    let seen = with_preludes (preludes_seen c.args.preludes.now) (around (change g.S.Files.faults g.S.Files.contents c.args.files.now c.run_save.new.files) (change g.K.Sink.faults g.K.Sink.contents c.args.sink.now c.run_save.new.sink) (change g.F.PageFile.faults g.F.PageFile.contents c.args.pages.now c.run_save.new.pages)) in
    let lines = change g.L.Lines.faults g.L.Lines.rest c.args.lines.now c.args.lines.now in
    let same = ap (λ names. save (names_of names) c.in-Save.base (said_options c.in-Save.options)) c.as_slice-in-Save.ensures.value ∙ ap said (sym c.in-Save.is) in
    subst (λ (s : Said). Carries (beside lines seen) s c.run_save.result) same (beside_carries lines seen _ c.run_save.result refl c.run_save.ensures.carries)

pub returns-in-Jobs-clause-carries : goal.returns-in-Jobs-clause-carries
returns-in-Jobs-clause-carries g c =
    let seen = with_preludes (preludes_seen c.args.preludes.now) (around (change g.S.Files.faults g.S.Files.contents c.args.files.now c.run_together.new.files) (change g.K.Sink.faults g.K.Sink.contents c.args.sink.now c.run_together.new.sink) (change g.F.PageFile.faults g.F.PageFile.contents c.args.pages.now c.run_together.new.pages)) in
    let lines = change g.L.Lines.faults g.L.Lines.rest c.args.lines.now c.args.lines.now in
    let same = ap (λ names. jobs (names_of names) (jobs_options c.in-Jobs.options)) c.as_slice-in-Jobs.ensures.value ∙ ap said (sym c.in-Jobs.is) in
    subst (λ (s : Said). Carries (beside lines seen) s c.run_together.result) same (beside_carries lines seen _ c.run_together.result refl c.run_together.ensures.carries)

pub run_together-requires-clause-within : goal.run_together-requires-clause-within
run_together-requires-clause-within g c =
    let within = subst (λ (k : Command). IsWithin (said k)) c.in-Jobs.is c.requires.within in
    let count : length (names_of c.in-Jobs.names.items) ≡ length c.as_slice-in-Jobs.result.now = simp length-map (ap length (sym c.as_slice-in-Jobs.ensures.value)) in
    subst (λ (n : ℕ). AreShared n (jobs_options c.in-Jobs.options)) count within.1
