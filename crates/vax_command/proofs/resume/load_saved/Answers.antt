use Rattle.std.proofs.Common.{[], None}
use Rattle.vax_outside.specs.Faults.{Rose}
use Rattle.vax_cli.specs.Said.{options as said_options}
use Rattle.vax_command.specs.Reading.{of_options}
use Rattle.vax_command.specs.ReadingView.{given_seen}
use Rattle.vax_command.proofs.LoadLaws.{err_has, rose_from}
use Rattle.vax_command.proofs.ResumeLaws.{ends_behind, ends_saved, has_saved}
use Rattle.vax_command.proofs.resume.load_saved.Goals as goal

pub returns-in_err-saved-clause-ends : goal.returns-in_err-saved-clause-ends
returns-in_err-saved-clause-ends g c =
    err_has c.from_residual.result _ _ c.from_residual.ensures.1
    (ends_saved (Rose (g.S.Files.faults c.args.files.now) (g.S.Files.faults c.load_within.new.files)) _ (g.S.Files.contents c.args.files.now) c.args.name.now (of_options (said_options c.args.options.now) None) c.in_err-saved.field-0.0 (λ r. r) c.in_err-saved.ensures.ends)

pub returns-in_err-given-clause-ends : goal.returns-in_err-given-clause-ends
returns-in_err-given-clause-ends g c =
    err_has c.from_residual-in_err-given.result _ _ c.from_residual-in_err-given.ensures.1
    (ends_behind _ _ (g.S.Files.contents c.args.files.now) _ c.args.name.now (of_options (said_options c.args.options.now) None) c.in_ok-saved.saved.items _ c.in_ok-saved.ensures.only.same
    (λ r. rose_from _ _ _ c.in_ok-saved.ensures.only.quiet r) c.in_ok-saved.ensures.ok c.in_err-given.ensures.ends)

pub returns-clause-ok : goal.returns-clause-ok
returns-clause-ok g c =
    has_saved (g.S.Files.contents c.args.files.now) _ c.args.name.now (said_options c.args.options.now) c.in_ok-saved.saved.items (given_seen [] c.in_ok-given.given) c.in_ok-saved.ensures.only.same c.in_ok-saved.ensures.ok c.in_ok-given.ensures.ok
