use Rattle.std.proofs.Common.{rules, ◌≡◌, sym, subst}
use Rattle.vax_isa.specs.declared.Letter.TheVariants.{Read}
use Rattle.vax_flat.specs.Operand.{form_of, read_at}
use Rattle.vax_operand.specs.Addressed.{located}
use Rattle.vax_quick.specs.Made.{Gives, computer}
use Rattle.vax_quick.proofs.access.value_by_form.Goals as goal

pub returns-then-byte-eq143-clause-exact : goal.returns-then-byte-eq143-clause-exact
unfolding form_of
returns-then-byte-eq143-clause-exact g c =
    let width = c.args.width in
    let before = computer g.P.Port.view c.args.core.now c.args.port.now in
    let after = computer g.P.Port.view c.immediate.new.core c.immediate.new.port in
    let is : c.args.byte ≡ 143 = search rules in
    subst (λ b. Gives (λ s next. located Read width (form_of b) s (λ addr s. read_at addr width s next)) c.immediate.result before after) (sym is) c.immediate.ensures.exact
