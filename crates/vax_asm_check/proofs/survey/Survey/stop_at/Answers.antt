use Rattle.vax_asm_check.proofs.Surveying.{stopped_all}
use Rattle.vax_asm_check.specs.View.{left_of}
use Rattle.vax_asm_check.proofs.survey.Survey.stop_at.Goals as goal

pub returns : goal.returns
returns c =
    let self = c.args.self in
    stopped_all self.faults.items c.add_unless.new.faults.items c.args.origin.line c.args.origin.place c.args.kind (left_of self.left) self.ended c.in_ok-add_unless.ensures
