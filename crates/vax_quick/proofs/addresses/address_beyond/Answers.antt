use Rattle.vax_isa.specs.declared.Letter.TheVariants.{Address}
use Rattle.vax_flat.specs.Operand.{form_of, formed}
use Rattle.vax_flat.specs.Rows.{address_of, address_in}
use Rattle.vax_operand.specs.Addressed.{located}
use Rattle.vax_quick.specs.Made.{computer}
use Rattle.vax_quick.proofs.Trees.{gives_by, address_located}
use Rattle.vax_quick.proofs.addresses.address_beyond.Goals as goal

pub returns-clause-exact : goal.returns-clause-exact
returns-clause-exact g c =
    let width = c.args.width in
    let shape = form_of c.args.byte in
    let before = computer g.P.Port.view c.args.core.now c.args.port.now in
    gives_by (λ s next. formed (address_of width) shape s (λ o s. next (address_in o) s)) (located Address width shape)
    c.address_by_form.result before _ (λ s next. address_located width shape s next c.requires.memory) c.address_by_form.ensures.exact
