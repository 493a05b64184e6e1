use Rattle.vax_asm_first.specs.View.{site_seen, standing_of}
use Rattle.vax_asm_instruction.proofs.Stepping.{behind_front}
use Rattle.vax_asm_instruction.proofs.references.state.Goals as goal
use Rattle.vax_asm_instruction.specs.Stating.{front_stated, referred_kind}
use Rattle.vax_asm_instruction.specs.View.{reached_seen}

pub returns-clause-stated : goal.returns-clause-stated
returns-clause-stated c =
    behind_front (site_seen c.args.site) c.args.one.now (referred_kind c.args.referring) c.referred_kind-kind.result
    (reached_seen c.in_ok-front.front c.state_front.new.standing) (front_stated c.args.referring (standing_of c.args.standing.now)) (reached_seen c.in_ok-next.next c.state_operand.new.standing) c.lowest.result
    c.in_ok-front.ensures.reached c.referred_kind-kind.ensures.value c.in_ok-next.ensures.reached c.lowest.ensures
