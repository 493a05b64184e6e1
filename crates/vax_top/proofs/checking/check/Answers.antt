use Rattle.std.proofs.Common.{ap, refl, subst, List, Ok, length, ◌≡◌, ◌∙◌}
use Rattle.std.specs.Borrow.{Bor}
use Rattle.std.specs.Option.{option_copied}
use Rattle.vax_cli.specs.Said.{names_of}
use Rattle.vax_cli.specs.Words.{Text}
use Rattle.vax_command.specs.Around.{around, change, untouched, with_preludes}
use Rattle.vax_command.specs.Reading.{Reads, of_programs}
use Rattle.vax_command.specs.ReadingView.{texts}
use Rattle.vax_prelude.specs.View.{preludes_seen}
use Rattle.vax_top.specs.Checked.{checked_names}
use Rattle.vax_top.proofs.CheckLaws.{all_told, check_carries}
use Rattle.vax_top.proofs.checking.check.Goals as goal

pub returns-in-Ok-load_files-clause-carries : goal.returns-in-Ok-load_files-clause-carries
returns-in-Ok-load_files-clause-carries g c =
    let names = names_of c.args.names.now in
    let system = option_copied c.args.system in
    let all = checked_names names system in
    let files = texts c.in-Ok-load_files.texts.items in
    let seen = with_preludes (preludes_seen c.args.preludes.now) (around (change g.S.Files.faults g.S.Files.contents c.args.files.now c.load_files.new.files) (change g.K.Sink.faults g.K.Sink.contents c.args.sink.now c.check_read.new.sink) untouched) in
    let named : names_of c.deref.result.now ≡ all = ap (λ (list : List (Bor Text)). names_of list) c.deref.ensures.value ∙ c.in-Ok.ensures in
    let shown : names_of c.deref-in-Ok-load_files.result.now ≡ all = ap (λ (list : List (Bor Text)). names_of list) c.deref-in-Ok-load_files.ensures.value ∙ c.in-Ok.ensures in
    let read : texts c.deref-in-Ok-load_files-2.result.now ≡ files = ap texts c.deref-in-Ok-load_files-2.ensures.value in
    check_carries seen names c.args.target system c.check_read.result files
    (subst (λ (list : List Text). Reads seen.files.before.told (of_programs list) (Ok files)) named c.in-Ok-load_files.ensures.ok)
    (all_told seen.sink seen.preludes c.args.names.now c.args.target all files c.check_read.result (length c.args.names.now)
    (names_of c.deref-in-Ok-load_files.result.now) (texts c.deref-in-Ok-load_files-2.result.now) refl shown read c.check_read.ensures)
