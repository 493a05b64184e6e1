use Rattle.std.proofs.Common.{◌≡◌, ◌+◌, ◌*◌, ◌≤◌, ◌++◌, length, take}
use Rattle.std.specs.List.{flat_map}
use Rattle.vax_debug_replies.specs.Frames.{register_text}
use Rattle.vax_debug_replies.proofs.frames.push_registers.Given as goal

-- the registers so far
abbrev pub invariant-loop-register : goal.invariant-loop-register
invariant-loop-register l = record {
  exact : l.text ≡ l.fn.text ++ flat_map register_text (take l.register-index l.registers);
  short : length l.text ≤ length l.fn.text + 31 * l.register-index;
}
