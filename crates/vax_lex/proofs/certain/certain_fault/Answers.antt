use Rattle.std.proofs.Common.{◌≡◌, ◌∙◌, Ok, Err, refl, ap, sym, true}
use Rattle.vax_lex.specs.Certain.{certain_by, divides_by_zero}
use Rattle.vax_lex.specs.Grammar.{symbols_of}
use Rattle.vax_lex.specs.declared.value.ExprError.TheVariants.{Form, Unknown, Range}
use Rattle.vax_lex.proofs.Dividing.{certain_is}
use Rattle.vax_lex.proofs.Staying.{stays}
use Rattle.vax_lex.proofs.certain.certain_fault.Goals as goal

pub returns-in-Ok-clause-fault : goal.returns-in-Ok-clause-fault
returns-in-Ok-clause-fault g c =
    let names = g.N.Names.meaning c.args.names.now in
    let symbols = symbols_of c.args.line.now c.args.tokens.now in
    certain_is names symbols (Ok c.in-Ok.field-0) (divides_by_zero names symbols) (sym c.in-Ok.is ∙ c.evaluate.ensures.value) refl

pub returns-in-Err-Form-clause-fault : goal.returns-in-Err-Form-clause-fault
returns-in-Err-Form-clause-fault g c =
    let names = g.N.Names.meaning c.args.names.now in
    let symbols = symbols_of c.args.line.now c.args.tokens.now in
    certain_is names symbols (Err Form) (divides_by_zero names symbols) (ap Err (sym c.in-Err-Form.field-0-is) ∙ sym c.in-Err-Form.is ∙ c.evaluate.ensures.value) refl

pub returns-in-Err-Form-clause-stays : goal.returns-in-Err-Form-clause-stays
returns-in-Err-Form-clause-stays g c =
    let names = g.N.Names.meaning c.args.names.now in
    let symbols = symbols_of c.args.line.now c.args.tokens.now in
    stays names symbols c.evaluate.result Form c.evaluate.ensures.exact (ap (certain_by (divides_by_zero names symbols)) (c.in-Err-Form.is ∙ ap Err c.in-Err-Form.field-0-is))

pub returns-in-Err-Range-clause-fault : goal.returns-in-Err-Range-clause-fault
returns-in-Err-Range-clause-fault g c =
    let names = g.N.Names.meaning c.args.names.now in
    let symbols = symbols_of c.args.line.now c.args.tokens.now in
    certain_is names symbols (Err Range) (divides_by_zero names symbols) (ap Err (sym c.in-Err-Range.field-0-is) ∙ sym c.in-Err-Range.is ∙ c.evaluate.ensures.value) refl

pub returns-in-Err-Range-clause-stays : goal.returns-in-Err-Range-clause-stays
returns-in-Err-Range-clause-stays g c =
    let names = g.N.Names.meaning c.args.names.now in
    let symbols = symbols_of c.args.line.now c.args.tokens.now in
    stays names symbols c.evaluate.result Range c.evaluate.ensures.exact (ap (certain_by (divides_by_zero names symbols)) (c.in-Err-Range.is ∙ ap Err c.in-Err-Range.field-0-is))

pub returns-then-divides_by_zero-clause-fault : goal.returns-then-divides_by_zero-clause-fault
returns-then-divides_by_zero-clause-fault g c =
    let names = g.N.Names.meaning c.args.names.now in
    let symbols = symbols_of c.args.line.now c.args.tokens.now in
    certain_is names symbols (Err Unknown) _ (ap Err (sym c.in-Err-Unknown.field-0-is) ∙ sym c.in-Err-Unknown.is ∙ c.evaluate.ensures.value) (sym c.if-divides_by_zero.true ∙ c.divides_by_zero.ensures)

pub returns-else-divides_by_zero-clause-fault : goal.returns-else-divides_by_zero-clause-fault
returns-else-divides_by_zero-clause-fault g c =
    let names = g.N.Names.meaning c.args.names.now in
    let symbols = symbols_of c.args.line.now c.args.tokens.now in
    certain_is names symbols (Err Unknown) _ (ap Err (sym c.in-Err-Unknown.field-0-is) ∙ sym c.in-Err-Unknown.is ∙ c.evaluate.ensures.value) (sym c.if-divides_by_zero.false ∙ c.divides_by_zero.ensures)

pub returns-then-divides_by_zero-clause-stays : goal.returns-then-divides_by_zero-clause-stays
returns-then-divides_by_zero-clause-stays g c =
    let names = g.N.Names.meaning c.args.names.now in
    let symbols = symbols_of c.args.line.now c.args.tokens.now in
    let divides : divides_by_zero names symbols ≡ true = sym c.divides_by_zero.ensures ∙ c.if-divides_by_zero.true in
    stays names symbols c.evaluate.result Range c.evaluate.ensures.exact
    (ap (certain_by (divides_by_zero names symbols)) (c.in-Err-Unknown.is ∙ ap Err c.in-Err-Unknown.field-0-is) ∙ ap (λ b. certain_by b (Err Unknown)) divides)
