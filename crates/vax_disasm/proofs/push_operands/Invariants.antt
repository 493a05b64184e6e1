use Rattle.std.proofs.Common.{◌≡◌, ◌≤◌, ◌+◌, ◌*◌, length, drop}
use Rattle.std.specs.Prelude.{option_map}
use Rattle.vax_flat.specs.Grammar.{read_operands}
use Rattle.vax_disasm.specs.Listed.{unreserved, behind}
use Rattle.vax_disasm.proofs.push_operands.Given as goal

-- the text and the bytes so far
abbrev pub invariant-loop-kind : goal.invariant-loop-kind
invariant-loop-kind l = record {
  few : l.length ≤ 1 + 9 * l.kind-index;
  within : l.length ≤ length l.bytes;
  short : length l.text.bytes ≤ 6 + 25 * l.kind-index;
  ascii : l.separator ≤ 44;
  exact : option_map (behind l.length l.text.bytes l.separator l.addr) (unreserved (read_operands (drop l.kind-index l.kinds) (drop l.length l.bytes)))
      ≡ option_map (behind 1 l.fn.text.bytes 32 l.addr) (unreserved (read_operands l.kinds (drop 1 l.bytes)));
}
