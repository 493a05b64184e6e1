use Rattle.vax_macro_laws.proofs.Moving.{once}
use Rattle.vax_macro_laws.proofs.labels_are_handed_out_once.Goals as goal

pub returns : goal.returns
returns c = λ names other before between after label st line first left second. once names other before between after label st line first left second
