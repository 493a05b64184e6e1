use Rattle.std.proofs.Common.{◌≡◌, ◌<◌, ◌∙◌, ℕ, All, List, ap, length, map, subst, sym}
use Rattle.vax_lex.specs.Grammar.{symbols_of}
use Rattle.vax_asm_scope.specs.Scope.{Bound}
use Rattle.vax_asm_scope.specs.View.{scope_in}
use Rattle.vax_asm_values.specs.Definitions.{sources_of}
use Rattle.vax_asm_values.specs.Values.{Meaning, Written}
use Rattle.vax_asm_values.specs.View.{meaning_of}
use Rattle.vax_asm_scope.proofs.Range.{bound_is_in, bound_means}
use Rattle.vax_asm_scope.proofs.Spelling.{tree_names}
use Rattle.vax_asm_scope.proofs.scope.Scope.expression.Goals as goal

pub invariant_of-drop-clause-in_range : goal.invariant_of-drop-clause-in_range
invariant_of-drop-clause-in_range c =
    let before = c.replace-tables.result in
    bound_is_in c.args.here (symbols_of c.deref-2.result.now c.args.tokens.now) (scope_in before.tables) (scope_in c.bind_tokens.new.self) (map meaning_of c.in_ok-names.names.items) before.in_range c.in_ok-names.ensures.bound

pub returns-clause-means : goal.returns-clause-means
returns-clause-means c =
    let before = c.replace-tables.result in
    let is : map meaning_of c.new-2.result.names.items ≡ map meaning_of c.in_ok-names.names.items = ap (λ (w : Written). w.names) c.new-2.ensures in
    let P : List Meaning → Type 0 = λ l. All (λ m. m.definition < length (sources_of c.bind_tokens.new.self.definitions)) l in
    subst P (sym is) (bound_means c.args.here (symbols_of c.deref-2.result.now c.args.tokens.now) (scope_in before.tables) (scope_in c.bind_tokens.new.self) (map meaning_of c.in_ok-names.names.items) before.in_range c.in_ok-names.ensures.bound)

pub invariant_of-drop-clause-mark_in_range : goal.invariant_of-drop-clause-mark_in_range
invariant_of-drop-clause-mark_in_range c = λ m h. c.replace-tables.result.mark_in_range m (c.bind_tokens.ensures.mark m h)

pub returns-clause-tree : goal.returns-clause-tree
returns-clause-tree c = λ e spelled.
    let before = c.replace-tables.result in
    let line : c.deref-2.result.now ≡ c.args.line.now.value.items = cc in
    let is : map meaning_of c.in_ok-names.names.items ≡ _ = ap (λ (b : Bound). b.names) c.in_ok-names.ensures.bound in
    ap (λ (w : Written). map (λ (m : Meaning). m.name) w.names) c.new-2.ensures
    ∙ tree_names c.args.here (symbols_of c.deref-2.result.now c.args.tokens.now) (scope_in before.tables) (map meaning_of c.in_ok-names.names.items) e is (ap (λ (l : List ℕ). symbols_of l c.args.tokens.now) line ∙ spelled)
