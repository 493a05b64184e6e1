use Rattle.std.proofs.Common.{◌≡◌, ◌<◌, ◌-◌}
use Rattle.vax_lex.specs.Values.{Sense}
use Rattle.vax_macro.specs.Expansion.{next_line_step}
use Rattle.vax_macro.specs.LineViews.{lines_of, reading_of}
use Rattle.vax_macro.specs.Readings.{Joins, IsWithin}
use Rattle.vax_macro.specs.Rest.{Rest}
use Rattle.vax_macro.proofs.reader.next_reading.Given as goal

abbrev pub invariant-lines : goal.invariant-lines
invariant-lines l = record {
  same : (names : Sense) (rest : Rest)
      → Joins names l.joined (lines_of l.lines) (reading_of l.begun) (record rest { dialect = l.fn.dialect; read = l.read }) (next_line_step names (lines_of l.fn.lines) (record rest { dialect = l.fn.dialect; read = l.fn.read }));
  dialect : l.begun.dialect ≡ l.fn.dialect;
  more : l.fn.read < l.read;
  within : IsWithin l.joined l.read;
}

abbrev pub decreases-lines : goal.decreases-lines
decreases-lines l = 100001 - l.read
