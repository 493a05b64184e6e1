use Rattle.vax_flat_laws.proofs.Fitting.{operand_same, value_fits, address_fits, target_fits, modified_fits, written_fits}
use Rattle.vax_flat_laws.proofs.operands.operands_fit.Goals as goal

pub returns : goal.returns
returns c = record {
  forms = operand_same;
  values = value_fits;
  addresses = address_fits;
  targets = target_fits;
  modified = modified_fits;
  written = written_fits;
}
