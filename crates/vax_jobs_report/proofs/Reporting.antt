-- The reports on machines that stand for flat machines.
use Rattle.std.proofs.Common.{◌≡◌, ◌<◌, ◌+◌, ℕ, zero, suc, List, [], ◌++◌, Option, Some, None, length, map, refl, sym, ap, ◌∙◌, arith}
use Rattle.std.specs.Prelude.{slice_get}
use Rattle.std.specs.List.{flat_map, range_with_len}
use Rattle.std.specs.Option.{option_map, option_map_or}
use Rattle.std.proofs.lemmas.Option.{slice_get-map}
use Rattle.vax_outside.specs.Blocks.{BlockFile}
use Rattle.vax_machine.specs.Attempt.{open_at}
use Rattle.vax_flat.specs.Parts.{Place, At, Within, units_done}
use Rattle.vax_jobs.proofs.Marks.{count_is, mark_at}
use Rattle.vax_jobs.proofs.Rooms.{found}
use Rattle.vax_jobs.specs.Pool.{keeps_of}
use Rattle.vax_jobs.specs.Running.{Mark, Stands, System, flat_mark, kept_mark}
use Rattle.vax_jobs.specs.Shared.{Process}
use Rattle.vax_machine.specs.Machine.{Means}
use Rattle.vax_machine.specs.Meaning.{engine, units_of}
use Rattle.vax_machine.specs.declared.machine.Machine.{Machine}
use Rattle.vax_report.specs.Report.{report}
use Rattle.vax_report.specs.declared.Last.{Last}
use Rattle.vax_jobs_report.specs.Reports.{job_label, last_in, machine_report, machine_reports, machine_text, process_report, process_reports, process_text}

-- the text of the machine with this number
pub text_of : (limit : ℕ) (other : Last) (ms : List Machine) (job : ℕ) (m : Machine) → slice_get ms job ≡ Some m → machine_text limit other ms job ≡ job_label job ++ machine_report limit other (engine m)
text_of limit other ms job m e = ap (λ o. job_label job ++ option_map_or (λ (k : Machine). machine_report limit other (engine k)) o []) e

open_units : (place : Place) → units_of (open_at place) ≡ units_done place
open_units (At m) = refl
open_units (Within p) = refl

report_at : (limit : ℕ) (other : Last) (m : Machine) (p : Process) (file : Option BlockFile) → kept_mark (keeps_of m) ≡ flat_mark p → Means (engine m) file p.place → machine_report limit other (engine m) ≡ process_report limit other p
report_at limit other m p file mark means =
    let k = means.processor.machine in
    let units : units_of m.engine.cpu.latch ≡ units_done p.place = ap units_of means.processor.open_one ∙ open_units p.place in
    let steps = ap (λ (x : Mark). x.steps) mark in
    let ended = ap (λ (x : Mark). x.ended) mark in
    λ i. report ((k i).core) (last_in limit other (ended i) (steps i)) (steps i) (units i) ((k i).taken) []

module _ (limit : ℕ) (other : Last) (y : System) (ps : List Process) (is : y.pooling.processes ≡ map keeps_of y.machines) (h : Stands y ps) where
  text_at : (job : ℕ) (o : Option Process) → slice_get ps job ≡ o → job < length ps → machine_text limit other y.machines job ≡ process_text limit other ps job
  text_at job None e l = absurd (let x = found ps job l in let no : None ≡ Some x.0 = sym e ∙ x.1 in cc)
  text_at job (Some p) e l =
      let count = count_is y ps is h in
      let m = found y.machines job (omega (arith, l, count)) in
      let here : slice_get y.pooling.processes job ≡ Some (keeps_of m.0) =
      ap (λ ks. slice_get ks job) is ∙ slice_get-map keeps_of y.machines job ∙ ap (option_map keeps_of) m.1 in
      let mark = mark_at y.pooling.processes ps job (keeps_of m.0) p h.marks here e in
      text_of limit other y.machines job m.0 m.1
      ∙ ap (λ text. job_label job ++ text) (report_at limit other m.0 p _ mark (h.means job m.0 p m.1 e))
      ∙ ap (λ o. job_label job ++ option_map_or (process_report limit other) o []) (sym e)

-- texts of the numbers below a bound
same_texts : (f g : ℕ → List ℕ) (first n bound : ℕ) → ((job : ℕ) → job < bound → f job ≡ g job) → bound ≡ first + n → flat_map f (range_with_len first n) ≡ flat_map g (range_with_len first n)
same_texts f g first zero bound same is = refl
same_texts f g first (suc n) bound same is =
    let head = same first (omega (arith, is)) in
    let tail = same_texts f g (first + 1) n bound same (omega (arith, is)) in
    λ i. head i ++ tail i

pub same_reports : (limit : ℕ) (other : Last) (y : System) (ps : List Process) → y.pooling.processes ≡ map keeps_of y.machines → Stands y ps → machine_reports limit other y.machines ≡ process_reports limit other ps
unfolding machine_reports process_reports
same_reports limit other y ps is h =
    let count = count_is y ps is h in
    ap (λ n. flat_map (machine_text limit other y.machines) (range_with_len 0 n)) count
    ∙ same_texts (machine_text limit other y.machines) (process_text limit other ps) 0 (length ps) (length ps)
    (λ job l. text_at limit other y ps is h job (slice_get ps job) refl l) (omega arith)
