use Rattle.vax_isa.specs.declared.Letter.TheVariants.{Read}
use Rattle.vax_flat.specs.Operand.{form_of, formed, read_at}
use Rattle.vax_flat.specs.Rows.{read_of, value_of}
use Rattle.vax_operand.specs.Addressed.{located}
use Rattle.vax_operand.proofs.Addresses.{value_located}
use Rattle.vax_quick.specs.Made.{computer}
use Rattle.vax_quick.proofs.Trees.{gives_by}
use Rattle.vax_quick.proofs.access.value_beyond.Goals as goal

pub returns-clause-exact : goal.returns-clause-exact
returns-clause-exact g c =
    let width = c.args.width in
    let shape = form_of c.args.byte in
    let before = computer g.P.Port.view c.args.core.now c.args.port.now in
    gives_by (λ s next. formed (read_of width) shape s (λ o s. next (value_of o) s)) (λ s next. located Read width shape s (λ addr s. read_at addr width s next))
    c.value_there.result before _ (λ s next. value_located width shape s next c.requires.memory) c.value_there.ensures.exact
