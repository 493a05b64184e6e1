use Rattle.std.proofs.Common.{◌≡◌, List, Ok, ap, refl, subst, ◌∙◌}
use Rattle.std.specs.Borrow.{Bor}
use Rattle.vax_cli.specs.Said.{asked as asked_seen, names_of}
use Rattle.vax_cli.specs.Words.{Text}
use Rattle.vax_command.proofs.LoadLaws.{rose_from}
use Rattle.vax_command.specs.Around.{change}
use Rattle.vax_command.specs.Reading.{ReadEnds, Reads, of_macros}
use Rattle.vax_command.specs.ReadingView.{texts}
use Rattle.vax_command.specs.declared.status.Status.TheVariants.{ReadFault}
use Rattle.vax_prelude.specs.Preludes.{preludes_of}
use Rattle.vax_prelude.specs.View.{preludes_seen}
use Rattle.vax_top.proofs.TopLaws.{admits_behind, macros_lacking, macros_read, macros_unread}
use Rattle.vax_top.proofs.top.carry_asked.Goals as goal

pub returns-in-Err-clause-carries : goal.returns-in-Err-clause-carries
returns-in-Err-clause-carries g c =
    let files = change g.S.Files.faults g.S.Files.contents c.args.files.now c.load_files.new.files in
    let sink = change g.K.Sink.faults g.K.Sink.contents c.args.sink.now c.refuse.new.sink in
    let pages = change g.F.PageFile.faults g.F.PageFile.contents c.args.pages.now c.args.pages.now in
    let lines = change g.L.Lines.faults g.L.Lines.rest c.args.lines.now c.args.lines.now in
    let ends = subst (λ (l : List (Bor Text)). ReadEnds files (of_macros (names_of l)) c.in-Err.status) c.as_slice.ensures.value c.in-Err.ensures.ends in
    macros_unread files files sink pages lines (asked_seen c.args.asked) c.refuse.result c.in-Err.status ends refl c.refuse.ensures

pub returns-in_default-clause-carries : goal.returns-in_default-clause-carries
returns-in_default-clause-carries g c =
    let files = change g.S.Files.faults g.S.Files.contents c.args.files.now c.load_files.new.files in
    let sink = change g.K.Sink.faults g.K.Sink.contents c.args.sink.now c.refuse-in_default.new.sink in
    let pages = change g.F.PageFile.faults g.F.PageFile.contents c.args.pages.now c.args.pages.now in
    let lines = change g.L.Lines.faults g.L.Lines.rest c.args.lines.now c.args.lines.now in
    macros_lacking files files sink pages lines (asked_seen c.args.asked) c.refuse-in_default.result refl c.refuse-in_default.ensures

pub returns-clause-carries : goal.returns-clause-carries
returns-clause-carries g c =
    let files = change g.S.Files.faults g.S.Files.contents c.args.files.now c.carry_out.new.files in
    let later = change g.S.Files.faults g.S.Files.contents c.load_files.new.files c.carry_out.new.files in
    let sink = change g.K.Sink.faults g.K.Sink.contents c.args.sink.now c.carry_out.new.sink in
    let pages = change g.F.PageFile.faults g.F.PageFile.contents c.args.pages.now c.carry_out.new.pages in
    let lines = change g.L.Lines.faults g.L.Lines.rest c.args.lines.now c.carry_out.new.lines in
    let asked = asked_seen c.args.asked in
    let read = texts c.in-Ok.texts.items in
    let reads = subst (λ (l : List (Bor Text)). Reads files.before.told (of_macros (names_of l)) (Ok read)) c.as_slice.ensures.value c.in-Ok.ensures.ok in
    let are : preludes_seen c.deref-2.result.now ≡ preludes_of asked.macros read =
    ap preludes_seen c.deref-2.ensures.value ∙ c.in-Ok-preludes_of.ensures
    ∙ ap (λ (l : List (Bor Text)). preludes_of (names_of l) (texts c.deref.result.now)) c.as_slice-2.ensures.value
    ∙ ap (λ (l : List Text). preludes_of asked.macros l) (ap texts c.deref.ensures.value) in
    macros_read files later sink pages lines asked c.carry_out.result read (preludes_seen c.deref-2.result.now) are c.in-Ok.ensures.only.same (λ r. rose_from files.before.faults later.before.faults later.after.faults c.in-Ok.ensures.only.quiet r) reads c.carry_out.ensures.carries

pub returns-clause-read_failed : goal.returns-clause-read_failed
returns-clause-read_failed g c =
    admits_behind (g.S.Files.faults c.args.files.now) (g.S.Files.faults c.load_files.new.files) (g.S.Files.faults c.carry_out.new.files) ReadFault c.carry_out.result c.in-Ok.ensures.only.quiet c.carry_out.ensures.read_failed
