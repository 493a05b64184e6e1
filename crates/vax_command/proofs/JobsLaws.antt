-- What several programs come to, from what their processes did.
use Rattle.std.proofs.Common.{◌≡◌, ◌⊎◌, ◌++◌, ◌≤◌, ◌*◌, ℕ, zero, suc, arith, List, [], ◌∷◌, length, take, Option, Some, None, is_some, unwrap_or, Ok, refl, sym, ap, ◌∙◌, subst, append-nil, inl, inr}
use Rattle.std.specs.Prelude.{codes}
use Rattle.std.proofs.Math.Seq.{take-append_seam}
use Rattle.vax_outside.specs.Blocks.{BlockFile}
use Rattle.vax_outside.specs.Channels.{Channels}
use Rattle.vax_outside.specs.Directory.{Directory}
use Rattle.vax_outside.specs.declared.faults.Failures.{Failures}
use Rattle.vax_machine.specs.declared.machine.Machine.{Machine}
use Rattle.vax_order.specs.Orders.{default_order, order_of}
use Rattle.vax_order.specs.declared.line.Line.{Line}
use Rattle.vax_jobs.specs.Pooling.{Pooling}
use Rattle.vax_jobs.specs.Running.{CountsEnd, IsReady, setting_of, system_of}
use Rattle.vax_jobs.specs.Shared.{Setting, Why, AllDone, ByTurns, begun, shared}
use Rattle.vax_jobs.specs.declared.ends.JobsEnd.{JobsEnd}
use Rattle.vax_jobs.specs.declared.ends.JobsEnd.TheVariants as jobs_end
use Rattle.vax_report.specs.declared.Last.TheVariants as last
use Rattle.vax_together.specs.Starting.{starts_of}
use Rattle.vax_together.specs.Together.{EndsBy, OnlyReported, ReportsTo, output_of}
use Rattle.vax_cli.specs.Jobs.{JobsOptions}
use Rattle.vax_cli.specs.Words.{Text}
use Rattle.vax_command.specs.Around.{HasFailed, Outside}
use Rattle.vax_command.specs.Ends.{Admits, Ends}
use Rattle.vax_command.specs.Jobs.{HasJobsTexts, IsJobsAnswer, IsOrderFault, JobsRan, JobsSetup, JobsWent, Users, jobs_answer, jobs_answer_to, jobs_files, jobs_setup}
use Rattle.vax_command.specs.Reading.{Reads, file_limit, given, of_programs, option_of}
use Rattle.vax_command.specs.Status.{refusal_growth}
use Rattle.vax_command.specs.declared.status.Status.{Status}
use Rattle.vax_command.specs.declared.status.Status.TheVariants.{Done, Turns, PageFault, NoMemory}
use Rattle.vax_command.proofs.JobsAlone.{AreSilent, all_alone, are_silent}
use Rattle.vax_command.proofs.LoadLaws.{behind-given, drop-seam, first_of-given, option_of-given, reads_both}

-- the programs, and behind them the input and the order
pub has_jobs : (c : Option Directory) (names programs : List Text) (o : JobsOptions) (input order : Option Text) → length programs ≡ length names → is_some input ≡ is_some o.input → is_some order ≡ is_some o.order → Reads c (of_programs names) (Ok programs) → Reads c (jobs_files o) (Ok (given input ++ given order)) → HasJobsTexts c names o (record { programs = programs; input = unwrap_or input []; order = order })
has_jobs c names programs o input order e i k reads others = record {
  files = programs ++ (given input ++ given order);
  read = reads_both c (of_programs names) (jobs_files o) programs (given input ++ given order) reads others;
  are =
      let last : option_of o.order (given order) ≡ order = ap (option_of o.order) (sym (append-nil (given order))) ∙ option_of-given o.order order [] k in
      rw (
        ← e,
        take-append_seam programs (given input ++ given order),
        drop-seam programs (given input ++ given order),
        first_of-given o.input input (given order) i,
        behind-given o.input input (given order) i,
        last,
      ) refl;
}

-- the text of the order that goes for none is short

take_most : (n : ℕ) (xs : List ℕ) → length (take n xs) ≤ length xs
take_most zero xs = omega arith
take_most (suc n) [] = omega arith
take_most (suc n) (x ∷ xs) = let h = take_most n xs in omega (arith, h)

pub default_short : (jobs : ℕ) → length (default_order jobs) ≤ file_limit
unfolding default_order
default_short jobs = let h = take_most (4 * jobs) (codes "1 1\n2 1\n3 1\n4 1\n5 1\n6 1\n7 1\n8 1\n") in omega (arith, h)

-- the order has a fault, or memory was refused
pub misordered : (outside : Outside) (programs : Users) (input order : Text) (options : JobsOptions) (status result : Status) → outside.pages.same → IsOrderFault (length programs.users) order status ⊎ (status ≡ NoMemory) → Ends outside.sink status (refusal_growth status) result → JobsRan outside programs input order options result
misordered outside programs input order options status result same (inl f) ends = record {
  meant = status;
  grown = refusal_growth status;
  so = inr (inl (record { line = f.0; kind = f.1; fault = f.2; answer = f.3; wrote = refl; keeps = same }));
  ends = ends;
}
misordered outside programs input order options status result same (inr e) ends = record {
  meant = status;
  grown = refusal_growth status;
  so = inl (e, ap refusal_growth e, same);
  ends = ends;
}

-- an answer and a growth of the channels, of which this is what they went to
record HasEnded (told : Option BlockFile) (outside : Outside) (setup : JobsSetup) (result : Status) : Type 0 where
  meant : Status
  grown : Channels
  went : JobsWent told outside setup meant grown
  ends : Ends outside.sink meant grown result

-- of what is untold little is said
untold : (outside : Outside) (setup : JobsSetup) (result : JobsEnd) → OnlyReported result outside.sink.before.told outside.sink.after.told → CountsEnd result outside.pages.before.faults outside.pages.after.faults outside.sink.before.faults outside.sink.after.faults → HasEnded None outside setup (jobs_answer_to result)
untold outside setup jobs_end.Done g c = record { meant = Done; grown = g.grown; went = (tt, g.unrecorded, g.unsaved); ends = inl (record { answer = refl; grew = g.grew; quiet = c.written (λ e. cc) }) }
untold outside setup jobs_end.Turns g c = record { meant = Turns; grown = g.grown; went = (tt, g.unrecorded, g.unsaved); ends = inl (record { answer = refl; grew = g.grew; quiet = c.written (λ e. cc) }) }
untold outside setup jobs_end.PageFault g c = record { meant = PageFault; grown = g.grown; went = (c.fault refl, g.unrecorded, g.unsaved); ends = inl (record { answer = refl; grew = g.grew; quiet = c.written (λ e. cc) }) }
untold outside setup jobs_end.WriteFault g c = record { meant = Done; grown = g.grown; went = (tt, g.unrecorded, g.unsaved); ends = inr (record { answer = refl; prefix = g.grew; cause = c.cause refl }) }

module _ (outside : Outside) (setup : JobsSetup) (file : BlockFile) (silent : AreSilent setup.starts) where
  abbrev x : Setting
  x = setup.setting

  abbrev Ended : Status → Type 0
  Ended result = HasEnded (Some file) outside setup result

  -- they went so
  told : (result : JobsEnd) → EndsBy result (HasFailed outside.pages) x (begun x.order setup.starts) outside.sink.before.told outside.sink.after.told → CountsEnd result outside.pages.before.faults outside.pages.after.faults outside.sink.before.faults outside.sink.after.faults → Ended (jobs_answer_to result)
  told jobs_end.Done r c = record {
    meant = Done;
    grown = output_of x.steps last.Turns (shared x r.count (begun x.order setup.starts));
    went = inl (record { count = r.count; why = AllDone; runs = r.runs; stopped = r.stopped; answer = refl; wrote = refl; alone = λ e. all_alone x setup.starts r.count silent AllDone r.stopped e });
    ends = inl (record { answer = refl; grew = r.wrote; quiet = c.written (λ e. cc) });
  }
  told jobs_end.Turns r c = record {
    meant = Turns;
    grown = output_of x.steps last.Turns (shared x r.count (begun x.order setup.starts));
    went = inl (record { count = r.count; why = ByTurns; runs = r.runs; stopped = r.stopped; answer = refl; wrote = refl; alone = λ e. all_alone x setup.starts r.count silent ByTurns r.stopped e });
    ends = inl (record { answer = refl; grew = r.wrote; quiet = c.written (λ e. cc) });
  }
  told jobs_end.PageFault r c = record {
    meant = PageFault;
    grown = output_of x.steps last.PageFault (shared x r.count (begun x.order setup.starts));
    went = inr (c.fault refl, record { count = r.count; runs = r.runs; answer = refl; wrote = refl });
    ends = inl (record { answer = refl; grew = r.wrote; quiet = c.written (λ e. cc) });
  }
  told jobs_end.WriteFault (inl r) c = record {
    meant = jobs_answer r.why;
    grown = output_of x.steps last.Turns (shared x r.count (begun x.order setup.starts));
    went = inl (record { count = r.count; why = r.why; runs = r.runs; stopped = r.stopped; answer = refl; wrote = refl; alone = λ e. all_alone x setup.starts r.count silent r.why r.stopped e });
    ends = inr (record { answer = refl; prefix = r.wrote; cause = c.cause refl });
  }
  told jobs_end.WriteFault (inr (rose, r)) c = record {
    meant = PageFault;
    grown = output_of x.steps last.PageFault (shared x r.count (begun x.order setup.starts));
    went = inr (rose, record { count = r.count; runs = r.runs; answer = refl; wrote = refl });
    ends = inr (record { answer = refl; prefix = r.wrote; cause = c.cause refl });
  }

-- processes at the start of programs, which may have so many pages
pub record StartsSo (programs : Users) (input : Text) (options : JobsOptions) (p : Pooling) (ms : List Machine) : Type 0 where
  pub ready : (x : Setting) → (file : BlockFile) → IsReady x (system_of p ms (Some file)) (begun x.order (starts_of programs.system programs.users input))
  pub most : p.most ≡ options.pool

module _ (outside : Outside) (programs : Users) (input order : Text) (options : JobsOptions) (p : Pooling) (ms : List Machine) (lines : List Line) (starts : StartsSo programs input options p ms) where
  ended : (file : Option BlockFile) (result : JobsEnd) → ReportsTo result (HasFailed outside.pages) (setting_of lines options.steps options.turns p) (system_of p ms file) outside.sink.before.told outside.sink.after.told → OnlyReported result outside.sink.before.told outside.sink.after.told → CountsEnd result outside.pages.before.faults outside.pages.after.faults outside.sink.before.faults outside.sink.after.faults → HasEnded file outside (jobs_setup programs input lines options) (jobs_answer_to result)
  ended None result r g c = untold outside (jobs_setup programs input lines options) result g c
  ended (Some file) result r g c =
      let at : ℕ → Setting = λ most. record { order = lines; steps = options.steps; turns = options.turns; most = most } in
      let b = begun lines (starts_of programs.system programs.users input) in
      let run : EndsBy result (HasFailed outside.pages) (at p.most) b outside.sink.before.told outside.sink.after.told = r b (starts.ready (at p.most) file) in
      told outside (jobs_setup programs input lines options) file (are_silent programs.system programs.users input) result
      (subst (λ (n : ℕ). EndsBy result (HasFailed outside.pages) (at n) b outside.sink.before.told outside.sink.after.told) starts.most run) c

  -- they ran in their order
  pub jobs_ran : (result : JobsEnd) → order_of (length programs.users) order ≡ Ok lines → ReportsTo result (HasFailed outside.pages) (setting_of lines options.steps options.turns p) (system_of p ms outside.pages.before.told) outside.sink.before.told outside.sink.after.told → OnlyReported result outside.sink.before.told outside.sink.after.told → CountsEnd result outside.pages.before.faults outside.pages.after.faults outside.sink.before.faults outside.sink.after.faults → JobsRan outside programs input order options (jobs_answer_to result)
  jobs_ran result ordered r g c =
      let e = ended outside.pages.before.told result r g c in
      record { meant = e.meant; grown = e.grown; so = inr (inr (record { lines = lines; ordered = ordered; went = e.went })); ends = e.ends }

-- a fault of the page file is told
pub jobs_admit : (result : JobsEnd) (a b m n : Failures) → CountsEnd result a b m n → Admits a b PageFault (jobs_answer_to result)
jobs_admit jobs_end.Done a b m n c = λ d. absurd (d (c.unfailed (λ e. cc) (λ e. cc)))
jobs_admit jobs_end.Turns a b m n c = λ d. absurd (d (c.unfailed (λ e. cc) (λ e. cc)))
jobs_admit jobs_end.PageFault a b m n c = λ d. record { once = c.failed d; answer = inl refl }
jobs_admit jobs_end.WriteFault a b m n c = λ d. record { once = c.failed d; answer = inr refl }

pub jobs_answers : (failed : Type 0) (why : Why) → IsJobsAnswer failed (jobs_answer why)
jobs_answers failed AllDone = tt
jobs_answers failed ByTurns = tt
