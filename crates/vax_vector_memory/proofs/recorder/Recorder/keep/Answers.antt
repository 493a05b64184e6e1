use Rattle.vax_vector_memory.proofs.recorder.Recorder.keep.Goals as goal

pub returns-clause-kept : goal.returns-clause-kept
returns-clause-kept c = λ all. record {
  complete = all;
  touch = c.touch_of.result;
  more = c.in-Ok.ensures.items;
  access_is = c.touch_of.ensures.access;
  addr_is = c.touch_of.ensures.addr;
  bytes_are = c.touch_of.ensures.bytes;
}
