use Rattle.std.proofs.Common.{[], subst}
use Rattle.std.proofs.lemmas.List.{length-map}
use Rattle.std.specs.Option.{option_copied}
use Rattle.vax_outside.specs.Faults.{Rose}
use Rattle.vax_cli.specs.Said.{names_of, options as said_options}
use Rattle.vax_command.specs.Reading.{HasTexts, of_options, of_programs}
use Rattle.vax_command.specs.ReadingView.{given_seen, texts}
use Rattle.vax_command.proofs.LoadLaws.{ends_first, ends_then, err_has, has_all, rose_from}
use Rattle.vax_command.proofs.load.load_run.Goals as goal

pub returns-in_err-programs-clause-ends : goal.returns-in_err-programs-clause-ends
returns-in_err-programs-clause-ends g c =
    err_has c.from_residual.result _ _ c.from_residual.ensures.1
    (ends_first (Rose (g.S.Files.faults c.args.files.now) (g.S.Files.faults c.load_files.new.files)) _ (g.S.Files.contents c.args.files.now) (of_programs (names_of c.args.names.now)) (of_options (said_options c.args.options.now) (option_copied c.args.script)) c.in_err-programs.field-0.0 (λ r. r) c.in_err-programs.ensures.ends)

pub returns-in_err-given-clause-ends : goal.returns-in_err-given-clause-ends
returns-in_err-given-clause-ends g c =
    err_has c.from_residual-in_err-given.result _ _ c.from_residual-in_err-given.ensures.1
    (ends_then _ _ _ _ (of_programs (names_of c.args.names.now)) (of_options (said_options c.args.options.now) (option_copied c.args.script)) (texts c.in_ok-programs.programs.items) _ c.in_ok-programs.ensures.only.same
    (λ r. rose_from _ _ _ c.in_ok-programs.ensures.only.quiet r) c.in_ok-programs.ensures.ok c.in_err-given.ensures.ends)

pub returns-clause-ok : goal.returns-clause-ok
returns-clause-ok g c =
    has_all _ (names_of c.args.names.now) (texts c.in_ok-programs.programs.items) (said_options c.args.options.now) (option_copied c.args.script) (given_seen [] c.in_ok-given.given)
    (simp length-map c.in_ok-programs.ensures.count) c.in_ok-programs.ensures.ok
    (subst (λ d. HasTexts d [] (said_options c.args.options.now) (option_copied c.args.script) (given_seen [] c.in_ok-given.given)) c.in_ok-programs.ensures.only.same c.in_ok-given.ensures.ok)
