use Rattle.vax_isa.specs.declared.Letter.TheVariants.{Field}
use Rattle.vax_flat.specs.declared.Operand.TheVariants.{Memory}
use Rattle.vax_flat.specs.Field.{base_kind}
use Rattle.vax_flat.specs.Operand.{form_of, formed}
use Rattle.vax_operand.specs.Addressed.{located}
use Rattle.vax_quick.specs.Made.{computer}
use Rattle.vax_quick.proofs.Trees.{base_located, gives_by}
use Rattle.vax_quick.proofs.bases.base_beyond.Goals as goal

pub returns-clause-exact : goal.returns-clause-exact
returns-clause-exact g c =
    let shape = form_of c.args.byte in
    let before = computer g.P.Port.view c.args.core.now c.args.port.now in
    gives_by (formed base_kind shape) (λ s next. located Field 1 shape s (λ addr s. next (Memory addr) s))
    c.base_there.result before _ (λ s next. base_located shape s next c.requires.memory) c.base_there.ensures.exact
