-- What the command `jobs` comes to, from what its parts did.
use Rattle.std.proofs.Common.{◌≡◌, ◌⊎◌, inl, inr, List, length, Result, Ok, refl, sym, ap, subst}
use Rattle.vax_outside.specs.Channels.{Channels}
use Rattle.vax_program.specs.Program.{Refusal}
use Rattle.vax_cli.specs.Jobs.{JobsOptions}
use Rattle.vax_cli.specs.Words.{Text, jobs}
use Rattle.vax_command.specs.Around.{Around, Outside, outside_of}
use Rattle.vax_command.specs.Ends.{Ends, EndsSo}
use Rattle.vax_command.specs.Jobs.{AreRunning, HasJobsTexts, JobsRan, JobsTexts, Users, order_text}
use Rattle.vax_command.specs.Running.{LacksMemory}
use Rattle.vax_command.specs.Status.{refusal_growth}
use Rattle.vax_command.specs.declared.status.Status.{Status}
use Rattle.vax_command.specs.declared.status.Status.TheVariants.{NoMemory}
use Rattle.vax_top.specs.Loaded.{IsRefused}
use Rattle.vax_top.specs.Together.{together_for}
use Rattle.vax_top.specs.Top.{Carries, CommandComes, TogetherDo, jobs_of}
use Rattle.vax_top.proofs.TopLaws.{no_memory}

-- programs ran together so, or memory was refused before
abbrev pub AreTogetherOf : Outside → Result Users Refusal → JobsTexts → JobsOptions → Status → Channels → Type 0
AreTogetherOf outside loaded texts options status grown =
    LacksMemory outside.pages status grown ⊎ TogetherDo outside loaded texts options status grown

-- what the programs of files came to
abbrev pub TogetherOf : Outside → Result Users Refusal → JobsTexts → JobsOptions → Status → Type 0
TogetherOf outside loaded texts options result = EndsSo outside.sink (AreTogetherOf outside loaded texts options) result

module _ (outside : Outside) (loaded : Result Users Refusal) (texts : JobsTexts) (options : JobsOptions) (result : Status) where
  pub jobs_refused : (status : Status) → IsRefused loaded status ⊎ (status ≡ NoMemory) → outside.pages.same → Ends outside.sink status (refusal_growth status) result → TogetherOf outside loaded texts options result
  jobs_refused status (inl r) k ends = record { meant = status; grown = refusal_growth status; so = inr (inl (record { refused = r; wrote = refl; keeps = k })); ends = ends }
  jobs_refused status (inr e) k ends = record { meant = status; grown = refusal_growth status; so = inl (e, ap refusal_growth e, k); ends = ends }

  as_run : (programs : Users) (status : Status) (grown : Channels) → loaded ≡ Ok programs → AreRunning outside programs texts.input (order_text (length texts.programs) texts.order) options status grown → AreTogetherOf outside loaded texts options status grown
  as_run programs status grown is (inl e) = inl e
  as_run programs status grown is (inr r) = inr (inr (programs, is, r))

  pub jobs_made : (programs : Users) → loaded ≡ Ok programs → JobsRan outside programs texts.input (order_text (length texts.programs) texts.order) options result → TogetherOf outside loaded texts options result
  jobs_made programs is r = record { meant = r.meant; grown = r.grown; so = as_run programs r.meant r.grown is r.so; ends = r.ends }

module _ (seen : Around) (result : Status) (names : List Text) (options : JobsOptions) (texts : JobsTexts) where
  jobs_come : (status : Status) (grown : Channels) → HasJobsTexts seen.files.before.told names options texts → AreTogetherOf (outside_of seen) (together_for seen.preludes options.dialect texts.programs) texts options status grown → CommandComes seen (jobs names options) status grown
  jobs_come status grown h (inl e) = no_memory seen (jobs names options) status grown e
  jobs_come status grown h (inr d) = inr (h.files, h.read, subst (λ (t : JobsTexts). jobs_of seen.preludes (outside_of seen) t options status grown) (sym h.are) d)

  pub jobs_carries : HasJobsTexts seen.files.before.told names options texts → TogetherOf (outside_of seen) (together_for seen.preludes options.dialect texts.programs) texts options result → Carries seen (jobs names options) result
  jobs_carries h r = record { meant = r.meant; grown = r.grown; comes = jobs_come r.meant r.grown h r.so; ends = r.ends }
