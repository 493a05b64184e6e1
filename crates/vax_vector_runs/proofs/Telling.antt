-- What a vector tells, from the last attempt.
use Rattle.std.proofs.Common.{◌≡◌, ℕ, Some, None, List, [], ◌∷◌, map, refl, sym, ap, subst, ◌∙◌, arith}
use Rattle.std.specs.Prelude.{All}
use Rattle.vax_word.specs.declared.Core.{Core}
use Rattle.vax_space.specs.declared.Area.{Area}
use Rattle.vax_flat.specs.Port.{layout}
use Rattle.vax_flat.specs.Step.{Flat}
use Rattle.vax_cpu.specs.declared.cpu.Cpu.{Cpu}
use Rattle.vax_cpu.specs.Attempt.{flat_of}
use Rattle.vax_vectors.specs.declared.vector.Cell.{Cell}
use Rattle.vax_vectors.specs.declared.vector.End.{End}
use Rattle.vax_vectors.specs.declared.vector.Ends.{Ends}
use Rattle.vax_vectors.specs.declared.vector.Ends.TheVariants as told
use Rattle.vax_vector_memory.specs.Record.{made_of}
use Rattle.vax_vector_runs.specs.Exact.{ExactBy}
use Rattle.vax_vectors.specs.declared.vector.Page.{Page}
use Rattle.vax_vectors.specs.declared.vector.Start.{Start}
use Rattle.vax_vectors.specs.Truth.{AreTouchedInOrder, EndsBy, IsAsBefore, IsThere, TellsStep, first_out, machine_of, memory_of, page_missed, resident_of}
use Rattle.vax_vector_memory.specs.declared.recorder.Recorder.{Recorder}
use Rattle.vax_vector_runs.specs.Attempts.{IsReady}
use Rattle.vax_vector_runs.specs.Ends.{EndsWell, IsStart}
use Rattle.vax_vector_memory.specs.Pages.{guarded}
use Rattle.vax_vector_memory.specs.Record.{view_of}
use Rattle.vax_vector_memory.specs.Seen.{seen}
use Rattle.vax_vector_memory.proofs.Filling.{memory_areas, memory_whole}

-- the areas have no bytes
bare_areas : (pages : List Page) → layout (map guarded pages) ≡ map guarded pages
unfolding layout
bare_areas [] = refl
bare_areas (page ∷ pages) = ap (λ (areas : List Area). guarded page ∷ areas) (bare_areas pages)

-- a new processor is where the machine is
pub ready_first : (start : Start) (cpu : Cpu) (memory : Recorder) (pages : List Page) (ram : List Cell) → pages ≡ start.pages.items → ram ≡ start.ram.items
    → cpu.core ≡ start.core → cpu.term.input.items ≡ [] → cpu.term.place ≡ 0 → cpu.latch ≡ None
    → view_of memory ≡ seen (map guarded pages) (memory_of pages ram) []
    → IsReady (machine_of start) (map guarded start.pages.items) [] cpu memory
ready_first start cpu memory pages ram same_pages same_ram core input place closed view = record {
  machine =
      ap (λ (c : Core). record (flat_of cpu (machine_of start).memory []) { core = c }) core
      ∙ (ap (λ (i : List ℕ). record (machine_of start) { input = i; taken = cpu.term.place }) input
      ∙ ap (λ (t : ℕ). record (machine_of start) { taken = t }) place);
  closed = closed;
  view = view ∙ (ap (λ (r : List Cell). seen (map guarded pages) (memory_of pages r) []) same_ram
      ∙ ap (λ (ps : List Page). seen (map guarded ps) (memory_of ps start.ram.items) []) same_pages);
  areas = memory_areas start.pages.items start.ram.items;
  bare = bare_areas start.pages.items;
  whole = memory_whole start.pages.items start.ram.items;
}

pub start_of : (start : Start) → IsStart (machine_of start) start.core
start_of start = record { core_is = refl; input = refl; taken = refl; ending = refl }

-- a page is absent
pub absent_tells : (m : Flat) (absent touched : List ℕ) (end : End) (page : ℕ) → AreTouchedInOrder m touched → first_out (resident_of absent) touched ≡ Some page
    → end.core ≡ m.core → end.ram.items ≡ [] → end.touches.items ≡ [] → end.ends ≡ told.Absent page → TellsStep m absent touched end
absent_tells m absent touched end page order out core none quiet ends =
    let same : IsAsBefore m end = record { registers = core; touches = quiet; cells = subst (All (IsThere m.memory)) (sym none) (λ k d below. absurd (omega arith)) } in
    record {
      missed = order (resident_of absent) ∙ (out ∙ sym (ap page_missed ends));
      ends = subst (λ e. EndsBy m touched end e) (sym ends) same;
    }

-- none is
pub end_tells : (m : Flat) (absent touched : List ℕ) (end : End) → AreTouchedInOrder m touched → first_out (resident_of absent) touched ≡ None → EndsWell m touched end → TellsStep m absent touched end
end_tells m absent touched end order out well = record {
  missed = order (resident_of absent) ∙ (out ∙ sym well.found);
  ends = well.ends;
}

-- where a page is absent, there are no accesses
pub absent_exact : (m : Flat) (touched : List ℕ) (end : End) (page : ℕ) → end.touches.items ≡ [] → end.ends ≡ told.Absent page → ExactBy m touched end.ends (map made_of end.touches.items)
absent_exact m touched end page quiet ends = subst (λ (e : Ends). ExactBy m touched e (map made_of end.touches.items)) (sym ends) (ap (map made_of) quiet)
