use Rattle.std.proofs.Common.{◌≡◌, take}
use Rattle.std.specs.List.{flat_map}
use Rattle.vax_outside.specs.Channels.{Grew, only}
use Rattle.vax_outside.specs.declared.traits.Chan.TheVariants.{Report}
use Rattle.vax_debug_replies.specs.Stops.{break_line}
use Rattle.vax_debug_replies.proofs.help.write_each_break.Given as goal

-- the lines so far were written
abbrev pub invariant-loop-address : goal.invariant-loop-address
invariant-loop-address g l = record {
  quiet : (g.K.Sink.faults l.sink).count ≡ (g.K.Sink.faults l.fn.sink).count;
  grew : Grew (g.K.Sink.contents l.fn.sink) (g.K.Sink.contents l.sink) (only Report (flat_map (break_line l.legend) (take l.address-index l.breaks)));
}
