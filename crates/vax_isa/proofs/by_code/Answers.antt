use Rattle.std.proofs.Common.{◌≡◌, None, Some, option_map, arith}
use Rattle.vax_isa.specs.Entries.{entry_row, row_at}
use Rattle.vax_isa.specs.Rows.{plain, row_of, with_opcode, IsFormed}
use Rattle.vax_isa.proofs.Laws.{only_opcode, opcode_found, formed_with_opcode, slot_row}
use Rattle.vax_isa.proofs.Lists.{IfSome-alike}
use Rattle.vax_isa.proofs.by_code.Goals as goal

pub returns-in-Some : goal.returns-in-Some
returns-in-Some c =
    let listed : option_map entry_row (Some c.in-Some.entry) ≡ row_at c.args.code = slot_row c.slots.result.now c.slots.ensures.rows c.args.code (Some c.in-Some.entry) (omega arith) c.in-Some.is in
    record {
      row = listed;
      only = only_opcode c.args.code;
      opcode = IfSome-alike plain row_of (λ r. r.code ≡ c.args.code) (Some c.in-Some.entry.row) (with_opcode c.args.code) listed (opcode_found c.args.code);
      formed = IfSome-alike plain row_of IsFormed (Some c.in-Some.entry.row) (with_opcode c.args.code) listed (formed_with_opcode c.args.code);
    }

pub returns-in-None : goal.returns-in-None
returns-in-None c = record { row = slot_row c.slots.result.now c.slots.ensures.rows c.args.code None (omega arith) (cc); only = only_opcode c.args.code; opcode = tt; formed = tt }
