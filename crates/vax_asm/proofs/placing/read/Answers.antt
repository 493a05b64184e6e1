use Rattle.std.proofs.Common.{All, List, map, sym, ap, subst, ◌∙◌}
use Rattle.vax_lex.specs.Tokens.{IsTokenOf}
use Rattle.vax_lex.specs.declared.token.Token.{Token}
use Rattle.vax_macro.proofs.Within.{cut_within_line}
use Rattle.vax_asm.specs.Placing.{token_of}
use Rattle.vax_asm.proofs.Within.{tokens_within}
use Rattle.vax_asm.proofs.placing.read.Goals as goal

pub returns-clause-within : goal.returns-clause-within
returns-clause-within c =
    let said = c.args.said.now in
    subst (λ (ts : List Token). All (IsTokenOf said.text.items) ts) (sym (c.in_ok-tokens.ensures ∙ ap (map token_of) c.deref.ensures.value))
    (tokens_within said.text.items said.pieces.items (cut_within_line said.dialect said.text.items said.pieces.items said.cut))
