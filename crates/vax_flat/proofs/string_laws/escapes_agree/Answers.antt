use Rattle.vax_flat.proofs.StringEscape.{escape_agrees}
use Rattle.vax_flat.proofs.StringStarts.{escape_starts}
use Rattle.vax_flat.proofs.string_laws.escapes_agree.Goals as goal

pub returns : goal.returns
returns c = record {
  rest = λ p s memory next behind ready proper is. escape_agrees p s memory next behind ready proper is.escape.is is.checked is.escape.within;
  start = λ p s memory next behind ready proper is. escape_starts p s memory next behind ready proper is.is is.within;
}
