use Rattle.std.proofs.Common.{inl, refl, sym}
use Rattle.vax_machine.specs.Meaning.{engine}
use Rattle.vax_command.specs.Around.{change}
use Rattle.vax_command.specs.declared.status.Status.TheVariants.{Done}
use Rattle.vax_command_debug.proofs.DebugLaws.{saves_none, saves_open}
use Rattle.vax_command_debug.proofs.session.save_here.Goals as goal

pub returns-in-None-clause-saves : goal.returns-in-None-clause-saves
returns-in-None-clause-saves g c = λ place means.
    let e = c.save_and_report.ensures.saves place means in
    let pages = change g.F.PageFile.faults g.F.PageFile.contents c.args.pages.now c.save_and_report.new.pages in
    record { meant = e.meant; grown = e.grown; so = saves_open (engine c.args.machine).ended pages (engine c.args.machine) place e.meant e.grown (sym c.in-None.ensures) e.so; ends = e.ends }

pub returns-in-Some-clause-saves : goal.returns-in-Some-clause-saves
returns-in-Some-clause-saves g c = λ place means.
    let pages = change g.F.PageFile.faults g.F.PageFile.contents c.args.pages.now c.args.pages.now in
    record { meant = Done; grown = _; so = saves_none (engine c.args.machine).ended _ pages (engine c.args.machine) place (sym c.in-Some.ensures); ends = c.remove_here.ensures }

pub returns-in-Some-clause-answers : goal.returns-in-Some-clause-answers
returns-in-Some-clause-answers g c = record { meant = Done; grown = _; so = inl refl; ends = c.remove_here.ensures }
