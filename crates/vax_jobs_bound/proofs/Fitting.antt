-- Where turns begin, few pages are pinned.
use Rattle.std.proofs.Common.{◌≡◌, ℕ, List, Option, Some, None, map, refl, sym, ap, ◌∙◌, subst, arith}
use Rattle.std.specs.Prelude.{slice_get}
use Rattle.std.specs.Option.{option_map}
use Rattle.std.proofs.lemmas.Option.{slice_get-map, slice_get_within}
use Rattle.vax_space.specs.declared.Area.{Area}
use Rattle.vax_outside.specs.Blocks.{BlockFile}
use Rattle.vax_flat.specs.Parts.{machine_at}
use Rattle.vax_flat.specs.Port.{layout}
use Rattle.vax_pager.specs.Listing.{AreOnce, is_listed}
use Rattle.vax_pager.specs.Meaning.{pages}
use Rattle.vax_pager.specs.Paging.{Paging, StandsWith}
use Rattle.vax_pager.proofs.Told.{pager_is, space_is}
use Rattle.vax_machine.proofs.Touching.{page_small}
use Rattle.vax_machine.specs.Meaning.{engine}
use Rattle.vax_machine.specs.declared.machine.Machine.{Machine}
use Rattle.vax_window.specs.Windows.{its}
use Rattle.vax_jobs.proofs.Marks.{count_is, mark_at}
use Rattle.vax_jobs.proofs.Rooms.{found}
use Rattle.vax_jobs.proofs.Shares.{there_is}
use Rattle.vax_jobs.specs.Beginning.{machines, pooling}
use Rattle.vax_jobs.specs.Pool.{keeps_of}
use Rattle.vax_jobs.specs.Pooling.{pages_in}
use Rattle.vax_jobs.specs.Running.{IsReady, Mark, system_of}
use Rattle.vax_jobs.specs.Shared.{Process, Setting, Shared}
use Rattle.vax_jobs.specs.declared.jobs.Jobs.{Jobs}
use Rattle.vax_jobs_bound.proofs.Few.{AreFit, IsFit}

same_areas : (s : Paging) (file : Option BlockFile) (memory : List Area) → StandsWith s file memory → layout memory ≡ layout s.areas
same_areas s None memory h = absurd h
same_areas s (Some file) memory h = h.areas

module _ (x : Setting) (r : Jobs) (file : Option BlockFile) (s : Shared) (ready : IsReady x (system_of (pooling r) (machines r) file) s) where
  fit_at : (job : ℕ) (p : Process) (m : Machine) → slice_get (machines r) job ≡ Some m → slice_get s.processes job ≡ Some p → IsFit s.resident job p
  fit_at job p m there is =
      let y = system_of (pooling r) (machines r) file in
      let pager = pages (engine m).pager in
      let good = pager_is (engine m).pager in
      let kept : slice_get (map keeps_of (machines r)) job ≡ Some (keeps_of m) = slice_get-map keeps_of (machines r) job ∙ ap (option_map keeps_of) there in
      let mark = mark_at (map keeps_of (machines r)) s.processes job (keeps_of m) p ready.tracks.stands.marks kept is in
      let pinned : pager.pinned ≡ p.pinned = ap (λ (k : Mark). k.pinned) mark in
      let order : pager.order ≡ pages_in job s.resident = (r.sound.sound.shares job (keeps_of m) kept).order ∙ ap (pages_in job) ready.tracks.resident in
      let means = ready.tracks.stands.means job m p there is in
      record {
        space = record { areas = pager.areas; space = space_is (engine m).pager; memory = same_areas pager (its job file) (machine_at p.place).memory means.memory };
        touching = ready.touching.each job p is;
        once = subst AreOnce pinned good.pinned_once;
        held = λ page h.
            there_is job page s.resident
            ∙ (ap (is_listed page) (sym order) ∙ good.pinned page (ap (is_listed page) pinned ∙ h));
        small = λ page h.
            page_small pager.areas page (space_is (engine m).pager)
            (good.inside page (ap (is_listed page) order ∙ (sym (there_is job page s.resident) ∙ h)));
      }

  pub ready_fit : AreFit s
  ready_fit = record {
    each = λ job p is.
        let y = system_of (pooling r) (machines r) file in
        let within = slice_get_within s.processes job p is in
        let count = count_is y s.processes refl ready.tracks.stands in
        let m = found (machines r) job (omega (arith, within, count)) in
        fit_at job p m.0 m.1 is;
  }
