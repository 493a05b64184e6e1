use Rattle.std.proofs.Common.{◌≡◌, take}
use Rattle.std.specs.List.{flat_map}
use Rattle.vax_outside.specs.Channels.{Grew, only}
use Rattle.vax_outside.specs.declared.traits.Chan.TheVariants.{Report}
use Rattle.vax_debug_replies.specs.Help.{usage_line}
use Rattle.vax_debug_replies.proofs.help.write_all_usages.Given as goal

-- the lines so far were written
abbrev pub invariant-loop-command : goal.invariant-loop-command
invariant-loop-command g l = record {
  quiet : (g.K.Sink.faults l.sink).count ≡ (g.K.Sink.faults l.fn.sink).count;
  grew : Grew (g.K.Sink.contents l.fn.sink) (g.K.Sink.contents l.sink) (only Report (flat_map usage_line (take l.command-index l.commands)));
}
