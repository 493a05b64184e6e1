-- A line as it was read.
use Rattle.vax_sched.specs.Rules.{Reading, silent, says, malformed}
use Rattle.vax_sched.specs.declared.line.Line.{Line}
use Rattle.vax_sched.specs.declared.line.Line.TheVariants.{Silent, Rule, Malformed}

abbrev pub reading : Line → Reading
reading Silent = silent
reading (Rule rule) = says rule
reading Malformed = malformed
