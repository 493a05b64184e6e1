-- Several programs that run to their ends come to what each comes to alone.
use Rattle.std.proofs.Common.{◌≡◌, ◌<◌, ◌+◌, ℕ, zero, suc, false, List, [], ◌∷◌, ◌++◌, Option, Some, None, length, map, refl, sym, ap, ◌∙◌, subst, arith}
use Rattle.std.specs.Prelude.{◌&&◌, is_none, nat_lt, slice_get}
use Rattle.std.specs.List.{AllZip, All, flat_map, range_with_len}
use Rattle.std.specs.Option.{option_map, option_map_or}
use Rattle.std.proofs.lemmas.List.{length-map}
use Rattle.std.proofs.lemmas.Option.{none-some, slice_get-map, slice_get_within}
use Rattle.vax_outside.specs.Channels.{append, only}
use Rattle.vax_outside.specs.declared.traits.Chan.TheVariants as channel
use Rattle.vax_flat.specs.declared.Ending.{Ending}
use Rattle.vax_flat.specs.Parts.{machine_at, units_done}
use Rattle.vax_flat.specs.Step.{Flat}
use Rattle.vax_jobs.proofs.Rooms.{found}
use Rattle.vax_jobs.specs.Alone.{after_turns}
use Rattle.vax_jobs.specs.Shared.{AllDone, Process, Sent, Setting, Shared, Why, goes_on, stops}
use Rattle.vax_jobs_laws.proofs.Ended.{all_ended}
use Rattle.vax_jobs_laws.proofs.Outputs.{sent_all}
use Rattle.vax_jobs_laws.proofs.Whole.{none_goes, none_of}
use Rattle.vax_jobs_laws.specs.Ended.{End, HaveEnded, IsEnd, end_of, why_by}
use Rattle.vax_jobs_laws.specs.Outputs.{AreOutputs, bytes_of}
use Rattle.vax_jobs_report.specs.Reports.{job_label, last_in, process_report, process_reports, process_text}
use Rattle.vax_report.specs.Report.{report}
use Rattle.vax_report.specs.declared.Last.{Last}
use Rattle.vax_report.specs.declared.Last.TheVariants as last
use Rattle.vax_together.specs.Starting.{start_under, starts_of}
use Rattle.vax_together.specs.Together.{output_of}
use Rattle.vax_image.specs.declared.Image.{Image}
use Rattle.vax_command.specs.JobsAlone.{AreAlone, output_at, report_at, text_at, texts_at}
use Rattle.vax_command.specs.Went.{last_of, run_report}

-- machines that have sent nothing
pub record AreSilent (starts : List Flat) : Type 0 where
  pub each : (job : ℕ) → (start : Flat) → slice_get starts job ≡ Some start → start.output ≡ []

silent_at : (system : Image) (users : List Image) (input : List ℕ) (job : ℕ) (start : Flat) → slice_get (starts_of system users input) job ≡ Some start → start.output ≡ []
silent_at system [] input job start e = absurd (none-some start e)
silent_at system (u ∷ us) input zero start e = let same : start_under system input u ≡ start = cc in ap (λ (z : Flat). z.output) (sym same)
silent_at system (u ∷ us) input (suc job) start e = silent_at system us input job start e

pub are_silent : (system : Image) (users : List Image) (input : List ℕ) → AreSilent (starts_of system users input)
are_silent system users input = record { each = λ job start e. silent_at system users input job start e }

-- two lists whose elements go together place by place
zip_by : {A B : Type 0} (R : A → B → Type 0) (xs : List A) (ys : List B) → length ys ≡ length xs → ((n : ℕ) (x : A) (y : B) → slice_get xs n ≡ Some x → slice_get ys n ≡ Some y → R x y) → AllZip R xs ys
zip_by R [] [] e h = tt
zip_by R [] (y ∷ ys) e h = absurd (omega (arith, e))
zip_by R (x ∷ xs) [] e h = absurd (omega (arith, e))
zip_by R (x ∷ xs) (y ∷ ys) e h = (h 0 x y refl refl, zip_by R xs ys (omega (arith, e)) (λ n a b p q. h (suc n) a b p q))

-- a process with this end is where its process is
from_map : {A B : Type 0} (f : A → B) (xs : List A) (n : ℕ) (y : B) → slice_get (map f xs) n ≡ Some y → (x : A) × (slice_get xs n ≡ Some x) × (y ≡ f x)
from_map f [] n y e = absurd (none-some y e)
from_map f (x ∷ xs) zero y e = let same : f x ≡ y = cc in (x, refl, sym same)
from_map f (x ∷ xs) (suc n) y e = from_map f xs n y e

-- the report on one that doesn't go on

last_same : (limit : ℕ) (how : Option Ending) (steps : ℕ) → (is_none how && nat_lt steps limit) ≡ false → last_in limit last.Turns how steps ≡ last_of (why_by how)
last_same limit (Some e) steps h = refl
last_same limit None steps h = let over : nat_lt steps limit ≡ false = h in rw over refl

report_same : (limit : ℕ) (p : Process) → goes_on limit p ≡ false → process_report limit last.Turns p ≡ report_at (end_of p)
unfolding run_report
report_same limit p h =
    ap (λ (w : Last). report (machine_at p.place).core w p.steps (units_done p.place) (machine_at p.place).taken [])
    (last_same limit (machine_at p.place).ending p.steps h)

text_same : (limit : ℕ) (ps : List Process) → ((n : ℕ) (p : Process) → slice_get ps n ≡ Some p → goes_on limit p ≡ false) → (job : ℕ) (o : Option Process) → slice_get ps job ≡ o → process_text limit last.Turns ps job ≡ text_at (map end_of ps) job
text_same limit ps none job None e =
    ap (λ o. job_label job ++ option_map_or (process_report limit last.Turns) o []) e
    ∙ ap (λ o. job_label job ++ option_map_or report_at o []) (sym (slice_get-map end_of ps job ∙ ap (option_map end_of) e))
text_same limit ps none job (Some p) e =
    ap (λ o. job_label job ++ option_map_or (process_report limit last.Turns) o []) e
    ∙ ap (λ text. job_label job ++ text) (report_same limit p (none job p e))
    ∙ ap (λ o. job_label job ++ option_map_or report_at o []) (sym (slice_get-map end_of ps job ∙ ap (option_map end_of) e))

same_texts : (f g : ℕ → List ℕ) (first n : ℕ) → ((job : ℕ) → f job ≡ g job) → flat_map f (range_with_len first n) ≡ flat_map g (range_with_len first n)
same_texts f g first zero same = refl
same_texts f g first (suc n) same = let head = same first in let tail = same_texts f g (first + 1) n same in λ i. head i ++ tail i

texts_same : (limit : ℕ) (ps : List Process) → ((n : ℕ) (p : Process) → slice_get ps n ≡ Some p → goes_on limit p ≡ false) → process_reports limit last.Turns ps ≡ texts_at (map end_of ps)
unfolding process_reports
texts_same limit ps none =
    same_texts (process_text limit last.Turns ps) (text_at (map end_of ps)) 0 (length ps) (λ job. text_same limit ps none job (slice_get ps job) refl)
    ∙ ap (λ n. flat_map (text_at (map end_of ps)) (range_with_len 0 n)) (sym (length-map ps end_of))

module _ (x : Setting) (starts : List Flat) (count : ℕ) (silent : AreSilent starts) where
  abbrev s : Shared
  s = after_turns x starts count

  abbrev ends : List End
  ends = map end_of s.processes

  ends_count : length ends ≡ length starts
  ends_count = length-map s.processes end_of ∙ (sent_all x starts count).count

  are_ends : HaveEnded x.steps starts s.processes → AllZip (IsEnd x.steps) starts ends
  are_ends h = zip_by (IsEnd x.steps) starts ends ends_count (λ n start e a b.
      let p = from_map end_of s.processes n e b in
      subst (λ (z : End). IsEnd x.steps start z) (sym p.2) (h.each n start p.0 a p.1))

  output_is : (job : ℕ) (output : List ℕ) → slice_get (map output_at ends) job ≡ Some output → bytes_of job s.sent ≡ output
  output_is job output e =
      let k = from_map output_at ends job output e in
      let p = from_map end_of s.processes job k.0 k.1 in
      let h = sent_all x starts count in
      let same = h.count in
      let here = slice_get_within s.processes job p.0 p.1 in
      let m = found starts job (omega (arith, same, here)) in
      let sent : (machine_at p.0.place).output ≡ m.0.output ++ bytes_of job s.sent = h.each job m.0 p.0 m.1 p.1 in
      let whole : bytes_of job s.sent ≡ (machine_at p.0.place).output = sym (sent ∙ ap (λ l. l ++ bytes_of job s.sent) (silent.each job m.0 m.1)) in
      whole ∙ sym (k.2 ∙ ap output_at p.2)

  are_outputs : AreOutputs (map output_at ends) s.sent
  are_outputs = record {
    each = λ job output e. output_is job output e;
    only = subst (λ n. All (λ (z : Sent). z.job < n) s.sent) (sym (length-map ends output_at ∙ ends_count)) (sent_all x starts count).only;
  }

  pub all_alone : (why : Why) → stops x s ≡ Some why → why ≡ AllDone → AreAlone x.steps starts (output_of x.steps last.Turns s)
  all_alone why stopped is =
      let done : stops x s ≡ Some AllDone = stopped ∙ ap (λ (w : Why). Some w) is in
      record {
        ends = ends;
        are = are_ends (all_ended x starts count done);
        sent = s.sent;
        outputs = are_outputs;
        wrote =
            ap (λ text. append (only channel.Out (map (λ (z : Sent). z.byte) s.sent)) (only channel.Report text))
            (texts_same x.steps s.processes (λ n p e. none_of (goes_on x.steps) s.processes n p (none_goes x s done) e));
      }
