use Rattle.std.proofs.Common.{◌≡◌, ℕ, List, [], map, ap, sym, subst, ◌∙◌}
use Rattle.vax_undo.specs.declared.term.Term.{Term}
use Rattle.vax_vectors.specs.declared.vector.End.{End}
use Rattle.vax_vectors.specs.declared.vector.Start.{Start}
use Rattle.vax_vectors.specs.Truth.{TellsStep, first_out, machine_of, resident_of}
use Rattle.vax_vector_memory.specs.Pages.{guarded}
use Rattle.vax_vector_runs.specs.Attempts.{IsReady}
use Rattle.vax_vector_memory.specs.Record.{made_of}
use Rattle.vax_vector_runs.specs.Exact.{ExactBy}
use Rattle.vax_vector_runs.proofs.Telling.{absent_exact, absent_tells, end_tells, ready_first, start_of}
use Rattle.vax_vector_runs.proofs.run.Workbench.vector_of.Goals.{in-Some, in-None+in_ok-end-in-None}
use Rattle.vax_vector_runs.proofs.run.Workbench.vector_of.Goals as goal

pub returns-clause-exact : goal.returns-clause-exact
returns-clause-exact c =
    let start : Start = c.args.start in
    let m = machine_of start in
    let space = map guarded start.pages.items in
    let touched : List ℕ = c.in_ok-settled.settled.touched.items in
    let absent : List ℕ = start.absent.items in
    let term = c.new-cpu.ensures.term in
    let input : c.new-cpu.result.term.input.items ≡ [] = ap (λ (t : Term). t.input.items) term ∙ (ap (λ v. v.items) c.new-2.ensures.input ∙ c.new.ensures.items) in
    let place : c.new-cpu.result.term.place ≡ 0 = ap (λ (t : Term). t.place) term ∙ c.new-2.ensures.place in
    let ready : IsReady m space [] c.new-cpu.result c.prepare.new.memory =
    ready_first start c.new-cpu.result c.prepare.new.memory c.deref.result.now c.deref-2.result.now c.deref.ensures.value c.deref-2.ensures.value
    c.new-cpu.ensures.core input place c.new-cpu.ensures.latch c.in_ok-prepare.ensures in
    let all = c.in_ok-settled.ensures.settled m space ready in
    let out : c.missed.result ≡ first_out (resident_of absent) touched =
    c.missed.ensures
    ∙ (ap (λ (a : List ℕ). first_out (resident_of a) c.deref-3.result.now) c.deref-4.ensures.value ∙ ap (λ (t : List ℕ). first_out (resident_of absent) t) c.deref-3.ensures.value) in
    let step : TellsStep m absent touched c.match-missed.end × ExactBy m touched c.match-missed.end.ends (map made_of c.match-missed.end.touches.items) = elim c.match-missed.branch [
      | in-Some w ↦
          let e = w.unchanged-end.ensures in
          subst (λ (end : End). TellsStep m absent touched end × ExactBy m touched end.ends (map made_of end.touches.items)) (sym w.end-is)
          (absent_tells m absent touched w.unchanged-end.result w.in-Some.page all.order (sym out ∙ w.in-Some.is) e.core e.ram e.touches e.ends, absent_exact m touched w.unchanged-end.result w.in-Some.page e.touches e.ends)
      | in-None+in_ok-end-in-None w ↦
          let well = w.in_ok-end-in-None.ensures m space all (start_of start) in
          subst (λ (end : End). TellsStep m absent touched end × ExactBy m touched end.ends (map made_of end.touches.items)) (sym w.end-is)
          (end_tells m absent touched w.in_ok-end-in-None.end all.order (sym out ∙ w.in-None.is) well, well.exact)
    ] in
    record { told = record { order = all.order; step = step.0 }; accesses = step.1 }
