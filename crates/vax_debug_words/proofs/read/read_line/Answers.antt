use Rattle.std.proofs.Common.{rules}
use Rattle.vax_debug_words.specs.Requests.{line_of, said}
use Rattle.vax_debug_words.proofs.read.read_line.Goals as goal

pub returns-in-None-clause-says : goal.returns-in-None-clause-says
unfolding line_of said
returns-in-None-clause-says c = search rules
