use Rattle.std.proofs.Common.{rules}
use Rattle.vax_asm_check.proofs.Telling.{stands_on}
use Rattle.vax_asm_check.specs.View.{left_of}
use Rattle.vax_asm_check.proofs.notes.stands.Goals as goal

pub returns-then-goes-clause-stands : goal.returns-then-goes-clause-stands
returns-then-goes-clause-stands c =
    let old = c.args.survey.now in
    let new = c.state.new.self in
    stands_on c.args.origin c.args.said.text.items (left_of old.left) (left_of new.left) old.ended new.ended old.faults.items new.faults.items _ c.in_ok-state.ensures.goes (search rules)

pub returns-else-goes-clause-stands : goal.returns-else-goes-clause-stands
returns-else-goes-clause-stands c =
    let old = c.args.survey.now in
    let new = c.state.new.self in
    stands_on c.args.origin c.args.said.text.items (left_of old.left) (left_of new.left) old.ended new.ended old.faults.items new.faults.items _ c.in_ok-state.ensures.goes (search rules)
