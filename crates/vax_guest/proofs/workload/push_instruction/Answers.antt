use Rattle.std.proofs.Common.{◌≡◌, ◌/◌, ◌%◌, append_assoc, arith}
use Rattle.vax_guest.specs.Workload.{instruction}
use Rattle.vax_guest.proofs.workload.push_instruction.Goals as goal

pub returns-in_default : goal.returns-in_default
unfolding instruction
returns-in_default c =
    let seven : c.args.x / 0x1000000 % 8 ≡ 7 = omega arith in
    rw seven (simp append_assoc c.writeln-in_default.ensures.bytes)
