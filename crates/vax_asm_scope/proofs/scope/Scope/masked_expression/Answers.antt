use Rattle.std.proofs.Common.{◌≡◌, ℕ, All, List, map, subst, sym}
use Rattle.vax_lex.specs.Grammar.{symbols_of}
use Rattle.vax_lex.specs.Tokens.{IsTokenOf}
use Rattle.vax_lex.specs.declared.token.Token.{Token}
use Rattle.vax_asm_scope.specs.Masks.{with_mask}
use Rattle.vax_asm_scope.specs.View.{scope_in}
use Rattle.vax_asm_values.specs.View.{meaning_of}
use Rattle.vax_asm_scope.proofs.Masking.{masked_within}
use Rattle.vax_asm_scope.proofs.Range.{bound_is_in}
use Rattle.vax_asm_scope.proofs.scope.Scope.masked_expression.Goals as goal

pub invariant_of-drop-clause-in_range : goal.invariant_of-drop-clause-in_range
invariant_of-drop-clause-in_range c =
    let before = c.replace-tables.result in
    bound_is_in c.args.here (symbols_of c.deref-2.result.now c.args.tokens.now) (scope_in before.tables) (scope_in c.bind_tokens.new.self) (map meaning_of c.in_ok-names.names.items) before.in_range c.in_ok-names.ensures.bound

pub new-requires-2 : goal.new-requires-2
new-requires-2 c =
    let line = c.args.line.now.value.items in
    let all : All (IsTokenOf line) (with_mask c.args.tokens.now c.args.key) = masked_within line c.args.tokens.now c.args.key c.requires.tokens c.requires.key in
    let own : All (IsTokenOf line) c.in_ok-own.own.items = subst (λ (l : List Token). All (IsTokenOf line) l) (sym c.in_ok-own.ensures) all in
    let same : c.in_ok-line.line.value.items ≡ line = c.in_ok-line.ensures in
    subst (λ (l : List ℕ). All (IsTokenOf l) c.in_ok-own.own.items) (sym same) own

pub invariant_of-drop-clause-mark_in_range : goal.invariant_of-drop-clause-mark_in_range
invariant_of-drop-clause-mark_in_range c = λ m h. c.replace-tables.result.mark_in_range m (c.bind_tokens.ensures.mark m h)
