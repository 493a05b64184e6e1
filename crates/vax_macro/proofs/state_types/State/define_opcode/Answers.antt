use Rattle.std.proofs.Common.{◌≡◌, ℕ, List, ap, sym, ◌∙◌}
use Rattle.std.specs.Prelude.{Result, Ok}
use Rattle.vax_lex.specs.declared.token.Piece.{Piece}
use Rattle.vax_macro.specs.Directives.{Goes, define_opcode, opcode_defined}
use Rattle.vax_macro.specs.OpcodeViews.{opcode_view}
use Rattle.vax_macro.specs.Opcodes.{Opcode, opcode_in}
use Rattle.vax_macro.specs.Rest.{Rest}
use Rattle.vax_macro.specs.View.{head_in, line_in, rest_in}
use Rattle.vax_macro.specs.declared.error.FaultKind.{FaultKind}
use Rattle.vax_macro.proofs.state_types.State.define_opcode.Goals as goal

pub returns-in_ok-finish_opcode-in-Ok : goal.returns-in_ok-finish_opcode-in-Ok
unfolding define_opcode
returns-in_ok-finish_opcode-in-Ok g c =
    let names = g.N.Names.meaning c.args.names.now in
    let before = rest_in c.args.parsed.read c.args.self.now in
    let found : opcode_in names (line_in c.args.parsed).text (head_in c.args.parsed).operands ≡ Ok (opcode_view c.in-Ok.opcode) =
    ap (λ (text : List ℕ). opcode_in names text (head_in c.args.parsed).operands) (sym c.deref.ensures.value)
    ∙ ap (λ (pieces : List Piece). opcode_in names c.deref.result.now pieces) (sym c.operands.ensures)
    ∙ c.in-Ok.ensures in
    ap (λ (r : Result Opcode FaultKind). opcode_defined r before) found
    ∙ ap (λ (rest : Rest). Goes rest) (sym (c.in_ok-finish_opcode-in-Ok.ensures c.args.parsed.read))
