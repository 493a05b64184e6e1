use Rattle.std.proofs.Common.{◌≡◌, ◌<◌, ◌-◌, ◌∙◌, sym, subst, length, Option, None, arith}
use Rattle.vax_lex.specs.Grammar.{symbols_of}
use Rattle.vax_lex.specs.Nesting.{innermost_first}
use Rattle.vax_lex.specs.Reading.{ReadsTerm}
use Rattle.vax_lex.specs.declared.expression.Read.{Read}
use Rattle.vax_lex.proofs.Opened.{none_due, deeper}
use Rattle.vax_lex.proofs.nesting.+nested.Goals.{in-Opens+else-not-is_full, in-Whole}
use Rattle.vax_lex.proofs.nesting.+nested.Goals as goal

pub nested-term-requires : goal.nested-term-requires
nested-term-requires g t c κs within =
    let names = g.N.Names.meaning c.args.names.now in
    let less = deeper c.args.line.now c.args.tokens.now names c.args.at c.loop-opening.place c.in-Opens.next c.loop-opening.stack.items c.in-Opens.opening
    (sym c.is_full.ensures.value ∙ c.if-not-is_full.false) c.loop-opening.invariant c.in-Opens.ensures.0 in
    let here : length c.args.tokens.now - c.args.at ≡ t = c.decreases in
    let falls : length c.args.tokens.now - c.loop-opening.place < t = omega (arith, less, here) in
    (falls, (within, c.requires))

pub returns-in_default : goal.returns-in_default
returns-in_default g t c =
    let names = g.N.Names.meaning c.args.names.now in
    let P : Option Read → Type 0 = λ r. ReadsTerm names (symbols_of c.args.line.now c.args.tokens.now) c.loop-opening.place r in
    none_due c.args.line.now c.args.tokens.now names c.args.at (innermost_first c.loop-opening.stack) c.loop-opening.place c.loop-opening.invariant
    (elim c.match-begun.branch [
      | in-Opens+else-not-is_full w ↦ let same : w.nested-term.result ≡ None = sym w.term-is ∙ c.in_default.is in subst P same w.nested-term.ensures
      | in-Whole w ↦ let same : w.in-Whole.term ≡ None = sym w.term-is ∙ c.in_default.is in subst P same w.in-Whole.ensures
    ])
