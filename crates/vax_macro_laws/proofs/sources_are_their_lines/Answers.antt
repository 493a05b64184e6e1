use Rattle.vax_macro_laws.proofs.Numbers.{begun_of}
use Rattle.vax_macro_laws.proofs.sources_are_their_lines.Goals as goal

pub returns : goal.returns
returns c = λ dialect source. begun_of dialect source
