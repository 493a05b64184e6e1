use Rattle.vax_flat_laws.proofs.Fielding.{field_read, memory_read, part_back, beside_part}
use Rattle.vax_flat_laws.proofs.fields.fields_are_read_back.Goals as goal

pub returns : goal.returns
returns c = record {
  registers = λ source position size n s next full few fine. field_read source position size n s next full few fine;
  memory = λ source position size addr s memory end x next whole some few came. (_, memory_read source position size addr s memory end x next whole some few came);
  part = λ first new bits room. part_back first new bits room;
  beside = λ first k new bits room where_is. beside_part first new bits k room where_is;
}
