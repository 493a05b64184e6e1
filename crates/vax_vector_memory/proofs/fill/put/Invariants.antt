use Rattle.std.proofs.Common.{◌≡◌, drop}
use Rattle.vax_undo.specs.Plain.{view_of}
use Rattle.vax_vector_memory.specs.Pages.{HaveBytes}
use Rattle.vax_vector_memory.proofs.fill.put.Given as goal

-- the bytes of the cells from here on are put
abbrev pub invariant-loop-k : goal.invariant-loop-k
invariant-loop-k l = record {
  areas : (view_of l.memory).areas ≡ (view_of l.fn.memory).areas;
  bytes : HaveBytes l.pages (drop l.k l.ram) (view_of l.memory);
}
