use Rattle.std.proofs.Common.{◌≡◌, ◌⊎◌, List, ap, refl, subst, sym, ◌∙◌}
use Rattle.std.specs.Borrow.{Bor}
use Rattle.std.specs.Global.{Vec}
use Rattle.std.specs.Prelude.{ℕ}
use Rattle.vax_cli.specs.Said.{names_of, options as said_options}
use Rattle.vax_cli.specs.Words.{Text, debug}
use Rattle.vax_command.specs.Around.{around, beside, change, outside_of, with_preludes}
use Rattle.vax_command.specs.ReadingView.{bytes_of, given_seen, texts}
use Rattle.vax_command.specs.Loaded.{loaded_seen}
use Rattle.vax_command.specs.declared.status.Status.TheVariants.{NoMemory}
use Rattle.vax_command_debug.specs.Debugging.{Debugged, given}
use Rattle.vax_debug_symbols.specs.Symbols.{IsTable}
use Rattle.vax_prelude.specs.View.{preludes_seen}
use Rattle.vax_top.specs.Loaded.{IsRefused, joined_files}
use Rattle.vax_top.specs.Top.{IsLegend, base_for, session_loaded, session_programs}
use Rattle.vax_top.proofs.TopLaws.{debug_carries, debug_held, debug_refused, unread}
use Rattle.vax_top.proofs.debugging.run_debug.Goals as goal

pub returns-in-Err-clause-carries : goal.returns-in-Err-clause-carries
returns-in-Err-clause-carries g c =
    let seen = with_preludes (preludes_seen c.args.preludes.now) (around (change g.S.Files.faults g.S.Files.contents c.args.files.now c.load_run.new.files) (change g.K.Sink.faults g.K.Sink.contents c.args.sink.now c.refuse.new.sink) (change g.F.PageFile.faults g.F.PageFile.contents c.args.pages.now c.args.pages.now)) in
    let lines = change g.L.Lines.faults g.L.Lines.rest c.args.lines.now c.args.lines.now in
    unread (beside lines seen) c.refuse.result (debug (names_of c.args.names.now) c.args.base c.args.prompts (said_options c.args.options.now)) c.in-Err.status c.in-Err.ensures.ends refl c.refuse.ensures

pub returns-in-Ok-load_named-clause-carries : goal.returns-in-Ok-load_named-clause-carries
returns-in-Ok-load_named-clause-carries g c =
    let options = said_options c.args.options.now in
    let files = given_seen (texts c.in-Ok.loaded.0.items) c.in-Ok.loaded.1 in
    let program = loaded_seen c.in-Ok-load_named.programs in
    let table = c.in-Ok-load_named.table in
    let legend = c.legend_of-legend.result in
    let lines = change g.L.Lines.faults g.L.Lines.rest c.args.lines.now c.debug_programs.new.lines in
    let seen = with_preludes (preludes_seen c.args.preludes.now) (beside lines (around (change g.S.Files.faults g.S.Files.contents c.args.files.now c.load_run.new.files) (change g.K.Sink.faults g.K.Sink.contents c.args.sink.now c.debug_programs.new.sink) (change g.F.PageFile.faults g.F.PageFile.contents c.args.pages.now c.debug_programs.new.pages))) in
    let debugged = subst (λ (schedule : Text). Debugged (outside_of seen) lines program (given files.input schedule legend c.args.prompts) options c.debug_programs.result) c.deref-in-Ok-load_named.ensures.value c.debug_programs.ensures.debugged in
    let loads = ap (λ (read : List (Vec ℕ)). session_loaded seen.preludes options.dialect c.args.base (texts read) (bytes_of c.in-Ok.loaded.1.system)) (sym c.deref.ensures.value) ∙ c.in-Ok-load_named.ensures.loads in
    let is = subst (λ (read : List (Vec ℕ)). IsTable options.dialect (base_for c.args.base) (joined_files seen.preludes (texts read)) table) c.deref.ensures.value c.in-Ok-load_named.ensures.named in
    let told : IsLegend options.dialect (base_for c.args.base) seen.preludes (names_of c.args.names.now) files.programs legend = record {
      table = table;
      is = is;
      symbols = c.legend_of-legend.ensures.symbols;
      lines = c.legend_of-legend.ensures.lines;
      named = ap (λ (names : List (Bor Text)). names_of names) c.legend_of-legend.ensures.names;
      behind = ap preludes_seen c.legend_of-legend.ensures.preludes;
    } in
    debug_carries seen c.debug_programs.result (names_of c.args.names.now) c.args.base c.args.prompts options files c.in-Ok.ensures.ok
    (debug_held (outside_of seen) lines (session_programs seen.preludes options.dialect c.args.base files) (IsLegend options.dialect (base_for c.args.base) seen.preludes (names_of c.args.names.now) files.programs) files c.args.prompts options c.debug_programs.result program legend loads told debugged)

pub returns-clause-carries : goal.returns-clause-carries
returns-clause-carries g c =
    let options = said_options c.args.options.now in
    let files = given_seen (texts c.in-Ok.loaded.0.items) c.in-Ok.loaded.1 in
    let status = c.in-Err-load_named.status in
    let lines = change g.L.Lines.faults g.L.Lines.rest c.args.lines.now c.args.lines.now in
    let seen = with_preludes (preludes_seen c.args.preludes.now) (beside lines (around (change g.S.Files.faults g.S.Files.contents c.args.files.now c.load_run.new.files) (change g.K.Sink.faults g.K.Sink.contents c.args.sink.now c.refuse-in-Err-load_named.new.sink) (change g.F.PageFile.faults g.F.PageFile.contents c.args.pages.now c.args.pages.now))) in
    let why = subst (λ (read : List (Vec ℕ)). IsRefused (session_loaded seen.preludes options.dialect c.args.base (texts read) (bytes_of c.in-Ok.loaded.1.system)) status ⊎ (status ≡ NoMemory)) c.deref.ensures.value c.in-Err-load_named.ensures.loads in
    debug_carries seen c.refuse-in-Err-load_named.result (names_of c.args.names.now) c.args.base c.args.prompts options files c.in-Ok.ensures.ok
    (debug_refused (outside_of seen) lines (session_programs seen.preludes options.dialect c.args.base files) (IsLegend options.dialect (base_for c.args.base) seen.preludes (names_of c.args.names.now) files.programs) files c.args.prompts options c.refuse-in-Err-load_named.result status why refl refl c.refuse-in-Err-load_named.ensures)
