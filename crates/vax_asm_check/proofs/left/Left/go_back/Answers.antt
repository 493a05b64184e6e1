use Rattle.std.proofs.Common.{map, refl}
use Rattle.vax_asm.specs.Walk.{nothing}
use Rattle.vax_asm_first.specs.View.{assignment_of, standing_of}
use Rattle.vax_asm_check.specs.Restating.{restated}
use Rattle.vax_asm_check.specs.View.{said_of}
use Rattle.vax_asm_check.proofs.Back.{went_back}
use Rattle.vax_asm_check.proofs.left.Left.go_back.Goals as goal

pub returns-then-go_back : goal.returns-then-go_back
returns-then-go_back c =
    went_back assignment_of c.args.self.now.standing (standing_of c.go_back.new.self) c.args.many c.args.self.now.assignments.items c.truncate.new.self.items
    (restated (map said_of c.args.stood.now) (nothing c.args.dialect)) c.truncate.ensures.items (c.if-go_back.ensures.back refl) c.requires.0 c.requires.1
