use Rattle.std.proofs.Common.{◌≡◌, [], take}
use Rattle.vax_undo.specs.Plain.{view_of}
use Rattle.vax_vector_memory.specs.Pages.{HaveBytes}
use Rattle.vax_vector_memory.proofs.fill.clear.Given as goal

-- the pages so far have zeros
abbrev pub invariant-loop-page : goal.invariant-loop-page
invariant-loop-page l = record {
  areas : (view_of l.memory).areas ≡ (view_of l.fn.memory).areas;
  bytes : HaveBytes (take l.page-index l.pages) [] (view_of l.memory);
}
