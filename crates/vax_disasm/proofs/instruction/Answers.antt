use Rattle.std.proofs.Common.{◌≡◌, None, ap}
use Rattle.vax_isa.specs.Rows.{Plain, with_opcode}
use Rattle.vax_disasm.proofs.Instructions.{has_row, no_row, kinds_are, all_kinds, listed_by, unlisted, nothing_listed}
use Rattle.vax_disasm.proofs.instruction.Goals as goal

pub returns-in_err-code-clause-exact : goal.returns-in_err-code-clause-exact
returns-in_err-code-clause-exact c = rw c.from_residual.ensures (nothing_listed c.args.bytes.now c.args.addr c.in_err-code.ensures.cases)

pub returns-in_err-row-clause-exact : goal.returns-in_err-row-clause-exact
returns-in_err-row-clause-exact c =
    let none : with_opcode c.in_ok-code.code.now ≡ None = no_row _ (rw c.in_err-row.was at c.by_code.ensures.row) in
    rw c.from_residual-in_err-row.ensures (unlisted c.args.bytes.now _ c.in_ok-code.code.now c.args.addr c.in_ok-code.ensures.cases.0 none)

pub push_operands-requires-clause-kinds : goal.push_operands-requires-clause-kinds
push_operands-requires-clause-kinds c = all_kinds c.in_ok-row.row c.in_ok-row.ensures.formed

pub returns-in_err-length-clause-exact : goal.returns-in_err-length-clause-exact
returns-in_err-length-clause-exact c =
    let r = has_row c.in_ok-row.row (with_opcode c.in_ok-code.code.now) c.in_ok-row.ensures.row in
    let kinds = kinds_are c.in_ok-row.row r.instruction r.same in
    let name = ap (λ (p : Plain). p.name) r.same in
    let text = c.push_str.ensures.bytes in
    let all = rw (c.in_err-length.was, text, c.new-text.ensures, name, kinds) at c.push_operands.ensures in
    rw c.from_residual-in_err-length.ensures (listed_by c.args.bytes.now _ c.in_ok-code.code.now c.args.addr r.instruction None c.in_ok-code.ensures.cases.0 r.there all)

pub returns-clause-exact : goal.returns-clause-exact
returns-clause-exact c =
    let r = has_row c.in_ok-row.row (with_opcode c.in_ok-code.code.now) c.in_ok-row.ensures.row in
    let kinds = kinds_are c.in_ok-row.row r.instruction r.same in
    let name = ap (λ (p : Plain). p.name) r.same in
    let text = c.push_str.ensures.bytes in
    let all = rw (c.in_ok-length.was, text, c.new-text.ensures, name, kinds) at c.push_operands.ensures in
    listed_by c.args.bytes.now _ c.in_ok-code.code.now c.args.addr r.instruction _ c.in_ok-code.ensures.cases.0 r.there all
