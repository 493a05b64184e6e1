use Rattle.std.proofs.Common.{List, sym, ap, ◌∙◌}
use Rattle.vax_asm.proofs.Refused.{all_refused, of_line}
use Rattle.vax_asm.proofs.Within.{all_within}
use Rattle.vax_asm_statement.specs.Reading.{parsed, statement_seen}
use Rattle.vax_lex.specs.declared.token.Token.{Token}
use Rattle.vax_asm.proofs.refusing.refusal.Goals as goal

pub refusal_as-requires-clause-within : goal.refusal_as-requires-clause-within
refusal_as-requires-clause-within c =
    (c.statement_of-statement.ensures.within c.deref-2.result.now
    (all_within _ _ _ _ (sym c.deref-2.ensures.value) (sym c.deref.ensures.value) c.in_ok-tokens.ensures.within)).what

pub returns-clause-exact : goal.returns-clause-exact
returns-clause-exact c =
    let said = c.args.said.now in
    let tokens = c.deref.ensures.value ∙ c.in_ok-tokens.ensures.tokens in
    of_line c.refusal_as.result said.dialect said.text.items c.deref-2.result.now c.deref-3.result.now (statement_seen c.statement_of-statement.result)
    c.deref-2.ensures.value (c.deref-3.ensures.value ∙ said.cut)
    (c.statement_of-statement.ensures.statement ∙ ap (λ (l : List Token). parsed l) tokens)
    c.refusal_as.ensures

pub returns-clause-refused : goal.returns-clause-refused
returns-clause-refused c = all_refused c.refusal_as.result c.args.said.now.dialect c.args.said.now.text.items (returns-clause-exact c)
