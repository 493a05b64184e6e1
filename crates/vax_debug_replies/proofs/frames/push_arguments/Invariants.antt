use Rattle.std.proofs.Common.{◌≡◌, ◌+◌, ◌*◌, ◌≤◌, ◌++◌, length, take}
use Rattle.std.specs.List.{flat_map}
use Rattle.vax_debug_replies.specs.Frames.{argument_text}
use Rattle.vax_debug_replies.proofs.frames.push_arguments.Given as goal

-- the arguments so far
abbrev pub invariant-loop-argument : goal.invariant-loop-argument
invariant-loop-argument l = record {
  exact : l.text ≡ l.fn.text ++ flat_map argument_text (take l.argument-index l.arguments);
  short : length l.text ≤ length l.fn.text + 9 * l.argument-index;
}
