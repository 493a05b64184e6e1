use Rattle.std.proofs.Common.{◌%◌, arith}
use Rattle.vax_flat.proofs.Returned.{frame_returned, registers_returned, status_of_word}
use Rattle.vax_flat.proofs.Pushed.{frame_there}
use Rattle.vax_flat.proofs.laws.frames_are_returned.Goals as goal

pub returns : goal.returns
returns c = record {
  pushed = λ memory end procedure arguments f t is came. frame_there memory end procedure f.mask arguments f.top f.on_stack f.caller t is.areas is.registers is.words is.address came;
  frame = λ memory f s clear there. frame_returned memory f.caller s f.mask (f.top % 4) f.on_stack (omega arith) clear there;
  registers = λ mask n caller s full. registers_returned mask n caller s full;
  status = λ offset mask on_stack caller psl few. status_of_word offset mask caller few on_stack psl;
}
