use Rattle.std.proofs.Common.{◌∙◌, ap}
use Rattle.vax_asm_names.specs.View.{names_of}
use Rattle.vax_asm_scope.specs.Scope.{Scope}
use Rattle.vax_asm_scope.specs.View.{scope_in}
use Rattle.vax_asm_scope.proofs.Naming.{definition_told}
use Rattle.vax_asm_scope.proofs.tables.Tables.assign.Goals as goal

pub returns-clause-definition : goal.returns-clause-definition
returns-clause-definition c =
    definition_told c.args.text.now (scope_in c.args.self.now) (scope_in c.entry.new.self) (scope_in c.keep.new.self) c.in-Ok.number c.definition_of-definition.result _ (names_of c.assign.new.self)
    c.in-Ok.ensures.number c.in-Ok.ensures.scope c.in-Ok-assign.ensures.names c.definition_of-definition.ensures
    (ap (λ (s : Scope). s.names) c.in-Ok-keep.ensures.scope ∙ ap (λ (s : Scope). s.names) c.in-Ok-open_if_fresh.ensures.scope)
