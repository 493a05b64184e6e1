use Rattle.vax_flat.proofs.StringSearch.{search_agrees}
use Rattle.vax_flat.proofs.StringScan.{scan_agrees}
use Rattle.vax_flat.proofs.string_laws.searches_agree.Goals as goal

pub returns : goal.returns
returns c = record {
  search = λ equal p s memory next behind ready proper is. search_agrees equal p s memory next behind ready proper is.layout is.address is.delta;
  scan = λ some p s memory next behind ready proper is. scan_agrees some p s memory next behind ready proper is.layout is.address is.table is.delta;
}
