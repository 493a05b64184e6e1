use Rattle.vax_command.specs.ReadingView.{texts}
use Rattle.vax_top.specs.Loaded.{sources_image}
use Rattle.vax_top.proofs.SourceLaws.{answered}
use Rattle.vax_top.proofs.sources.load_listing.Goals as goal

pub returns-in-Err-clause-refused : goal.returns-in-Err-clause-refused
returns-in-Err-clause-refused c =
    let sources = texts c.args.files.now in
    answered (sources_image c.args.dialect c.args.base sources) c.program_error.result c.answer_to.result
    (c.program_error.ensures.answers c.args.dialect c.args.base sources c.in-Err.ensures.refused) c.answer_to.ensures
