use Rattle.std.proofs.Common.{◌≡◌, ◌≤◌, ◌+◌, ◌*◌, drop, map}
use Rattle.vax_asm_instruction.specs.Stating.{operands_stated}
use Rattle.vax_asm_instruction.specs.View.{reached_seen}
use Rattle.vax_asm_instruction.proofs.statement.state_operands.Given as goal
use Rattle.vax_asm_first.specs.View.{progress_of, site_seen, KeepsMark}

abbrev pub invariant-loop-i : goal.invariant-loop-i
invariant-loop-i l = record {
  stated : operands_stated (site_seen l.site) (map (λ o. o.now) (drop l.i l.operands)) (drop l.i l.row.operands) (record { at = l.at; progress = progress_of l.fault l.standing })
      ≡ operands_stated (site_seen l.site) (map (λ o. o.now) l.operands) l.row.operands (reached_seen l.fn.before l.fn.standing);
  mark : KeepsMark l.fn.standing l.standing;
  near : l.at ≤ 1048577 + 9 * l.i;
}
