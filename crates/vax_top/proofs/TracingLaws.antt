-- What the command `trace` comes to, from what its parts did.
use Rattle.std.proofs.Common.{◌≡◌, ◌⊎◌, inl, inr, List, None, Result, Ok, refl, sym, ap, subst}
use Rattle.vax_outside.specs.Channels.{Channels}
use Rattle.vax_program.specs.Program.{Refusal}
use Rattle.vax_cli.specs.Tracing.{Tracing}
use Rattle.vax_cli.specs.Words.{Text, Options, trace}
use Rattle.vax_cli.specs.declared.command.Base as words_base
use Rattle.vax_command.specs.Around.{Around, Outside, outside_of}
use Rattle.vax_command.specs.Ends.{Ends, EndsSo}
use Rattle.vax_command.specs.Loaded.{Loaded}
use Rattle.vax_command.specs.Reading.{HasTexts, Texts}
use Rattle.vax_command.specs.Status.{refusal_growth}
use Rattle.vax_command.specs.Tracing.{IsTracing, Traces}
use Rattle.vax_command.specs.declared.status.Status.{Status}
use Rattle.vax_command.specs.declared.status.Status.TheVariants.{NoMemory}
use Rattle.vax_top.specs.Loaded.{IsRefused}
use Rattle.vax_top.specs.Top.{Carries, CommandComes, IsTraceOf, session_programs, trace_of}
use Rattle.vax_top.proofs.TopLaws.{no_memory}

-- what a traced run of the programs of files came to

abbrev pub TracedOf : Outside → Result Loaded Refusal → Texts → Tracing → Options → Status → Type 0
TracedOf outside loaded texts tracing options result = EndsSo outside.sink (IsTraceOf outside loaded texts tracing options) result

module _ (outside : Outside) (loaded : Result Loaded Refusal) (texts : Texts) (tracing : Tracing) (options : Options) (result : Status) where
  pub trace_refused : (status : Status) → IsRefused loaded status ⊎ (status ≡ NoMemory) → outside.pages.same → Ends outside.sink status (refusal_growth status) result → TracedOf outside loaded texts tracing options result
  trace_refused status (inl r) k ends = record { meant = status; grown = refusal_growth status; so = inr (inl (record { refused = r; wrote = refl; keeps = k })); ends = ends }
  trace_refused status (inr e) k ends = record { meant = status; grown = refusal_growth status; so = inl (e, ap refusal_growth e, k); ends = ends }

  as_traced : (program : Loaded) (status : Status) (grown : Channels) → loaded ≡ Ok program → IsTracing outside program texts.input texts.schedule tracing options status grown → IsTraceOf outside loaded texts tracing options status grown
  as_traced program status grown is (inl e) = inl e
  as_traced program status grown is (inr r) = inr (inr (program, is, r))

  pub trace_made : (program : Loaded) → loaded ≡ Ok program → Traces outside program texts.input texts.schedule tracing options result → TracedOf outside loaded texts tracing options result
  trace_made program is r = record { meant = r.meant; grown = r.grown; so = as_traced program r.meant r.grown is r.so; ends = r.ends }

module _ (seen : Around) (result : Status) (names : List Text) (linked : words_base.Base) (tracing : Tracing) (options : Options) (texts : Texts) where
  trace_comes : (status : Status) (grown : Channels) → HasTexts seen.files.before.told names options None texts → IsTraceOf (outside_of seen) (session_programs seen.preludes options.dialect linked texts) texts tracing options status grown → CommandComes seen (trace names linked tracing options) status grown
  trace_comes status grown h (inl e) = no_memory seen (trace names linked tracing options) status grown e
  trace_comes status grown h (inr d) = inr (h.files, h.read, subst (λ (t : Texts). trace_of (outside_of seen) (session_programs seen.preludes options.dialect linked) t tracing options status grown) (sym h.are) d)

  pub trace_carries : HasTexts seen.files.before.told names options None texts → TracedOf (outside_of seen) (session_programs seen.preludes options.dialect linked texts) texts tracing options result → Carries seen (trace names linked tracing options) result
  trace_carries h r = record { meant = r.meant; grown = r.grown; comes = trace_comes r.meant r.grown h r.so; ends = r.ends }
