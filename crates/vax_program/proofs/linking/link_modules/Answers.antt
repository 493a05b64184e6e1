use Rattle.vax_link.specs.Linked.{linked}
use Rattle.vax_program.proofs.LinkerLaws.{link_answers}
use Rattle.vax_program.proofs.linking.link_modules.Goals as goal

pub returns-in-Err-clause-image : goal.returns-in-Err-clause-image
returns-in-Err-clause-image c =
    link_answers c.link_refusal.result (linked c.args.base c.args.modules.now) c.in-Err.error c.in-Err.ensures.linked c.link_refusal.ensures.refusal c.link_refusal.ensures.memory
