use Rattle.std.proofs.Common.{◌++◌, Ok, is_some, ◌≡◌, rules, subst}
use Rattle.std.proofs.lemmas.List.{length-map}
use Rattle.vax_outside.specs.Faults.{Rose}
use Rattle.vax_cli.specs.Said.{jobs_options, names_of}
use Rattle.vax_command.specs.Jobs.{jobs_files}
use Rattle.vax_command.specs.Reading.{Reads, given, of_programs}
use Rattle.vax_command.specs.ReadingView.{bytes_of, texts}
use Rattle.vax_command.proofs.JobsLaws.{has_jobs}
use Rattle.vax_command.proofs.LoadLaws.{ends_first, ends_then, err_has, rose_from}
use Rattle.vax_command.proofs.jobs.load_jobs.Goals as goal

pub returns-in_err-programs-clause-ends : goal.returns-in_err-programs-clause-ends
returns-in_err-programs-clause-ends g c =
    err_has c.from_residual.result _ _ c.from_residual.ensures.1
    (ends_first (Rose (g.S.Files.faults c.args.files.now) (g.S.Files.faults c.load_files.new.files)) _ (g.S.Files.contents c.args.files.now) (of_programs (names_of c.args.names.now)) (jobs_files (jobs_options c.args.options.now)) c.in_err-programs.field-0.0 (λ r. r) c.in_err-programs.ensures.ends)

pub returns-in_err-input-clause-ends : goal.returns-in_err-input-clause-ends
returns-in_err-input-clause-ends g c =
    err_has c.from_residual-in_err-input.result _ _ c.from_residual-in_err-input.ensures.1
    (ends_then _ _ _ _ (of_programs (names_of c.args.names.now)) (jobs_files (jobs_options c.args.options.now)) (texts c.in_ok-programs.programs.items) _ c.in_ok-programs.ensures.only.same
    (λ r. rose_from _ _ _ c.in_ok-programs.ensures.only.quiet r) c.in_ok-programs.ensures.ok c.in_err-input.ensures.ends)

pub returns-clause-ok : goal.returns-clause-ok
returns-clause-ok g c =
    let o = jobs_options c.args.options.now in
    let input = bytes_of c.in_ok-input.input in
    let order = bytes_of c.in_ok-input.order in
    let i : is_some input ≡ is_some o.input = search rules in
    let k : is_some order ≡ is_some o.order = search rules in
    let others = subst (λ d. Reads d (jobs_files o) (Ok (given input ++ given order))) c.in_ok-programs.ensures.only.same c.in_ok-input.ensures.ok in
    rw c.or_empty-input.ensures.bytes
    (has_jobs (g.S.Files.contents c.args.files.now) (names_of c.args.names.now) (texts c.in_ok-programs.programs.items) o input order
    (simp length-map c.in_ok-programs.ensures.count) i k c.in_ok-programs.ensures.ok others)
