-- With what answer a session ends, and what failed then.
use Rattle.std.proofs.Common.{◌≡◌, ◌⊎◌, List, Option, Some, None, inl, inr}
use Rattle.vax_outside.specs.Blocks.{BlockFile}
use Rattle.vax_outside.specs.Channels.{Channels}
use Rattle.vax_flat.specs.Step.{Flat}
use Rattle.vax_debug_session.specs.Holding.{Terms}
use Rattle.vax_debug_session.specs.declared.SessionEnd.{SessionEnd}
use Rattle.vax_debug_session.specs.declared.SessionEnd.TheVariants as end
use Rattle.vax_cli.specs.Words.{Text}
use Rattle.vax_command.specs.Around.{Change, Outside}
use Rattle.vax_command.specs.Saving.{AnswersSave}
use Rattle.vax_command.specs.declared.status.Status.{Status}
use Rattle.vax_command.specs.declared.status.Status.TheVariants.{Done}
use Rattle.vax_command_debug.specs.Course.{Causes, WentFrom, answer_of, from}

module _ (outside : Outside) (lines : Change (List Text)) where
  causes_of : (now : Option (List Text)) (e : SessionEnd) → Causes e outside (from now lines) → Causes e outside lines
  causes_of now end.Quit c = c
  causes_of now end.Save c = absurd c
  causes_of now end.Restart c = c
  causes_of now end.Read c = c
  causes_of now end.Lines c = c
  causes_of now end.Turns c = c
  causes_of now end.PageFault c = c
  causes_of now end.WriteFault c = c
  causes_of now end.LineFault c = c

  -- so a session may end
  abbrev pub SessionEnds : Status → Channels → Type 0
  SessionEnds status grown = ((e : SessionEnd) × (status ≡ answer_of e) × Causes e outside lines) ⊎ AnswersSave outside.pages Done status grown

  pub session_ends : (told : Option BlockFile) (start : Flat) (g : Terms) (status : Status) (grown : Channels) → WentFrom told outside lines start g status grown → SessionEnds status grown
  session_ends None start g status grown w =
      elim w.2 [
        | inl run ↦ elim run [ inl r ↦ inl (r.0, r.1.answer, causes_of w.0 r.0 r.1.cause) | inr r ↦ inr r.answer ]
        | inr r ↦ inr (inl r.answer)
      ]
  session_ends (Some file) start g status grown w =
      elim w.3 [
        | inl run ↦ elim run [ inl r ↦ inl (r.0, r.1.answer, causes_of w.0 r.0 r.1.cause) | inr r ↦ elim r.saves [ inl s ↦ inr (inl s.0) | inr s ↦ inr (inr (s.0, s.1)) ] ]
        | inr r ↦ inr (inl r.answer)
      ]
