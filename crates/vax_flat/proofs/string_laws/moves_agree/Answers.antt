use Rattle.vax_flat.proofs.StringMove.{move_agrees}
use Rattle.vax_flat.proofs.StringStarts.{move_starts}
use Rattle.vax_flat.proofs.string_laws.moves_agree.Goals as goal

pub returns : goal.returns
returns c = record {
  rest = λ translate p s memory next behind ready proper is. move_agrees translate p s memory next behind ready proper is.move.is is.checked is.move.within;
  start = λ translate p s memory next behind ready proper is. move_starts translate p s memory next behind ready proper is.is is.within;
}
