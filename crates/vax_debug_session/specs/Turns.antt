-- One line of a session, and lines behind which it goes on.
use Rattle.std.specs.Prelude.{ℕ, ◌≡◌, List, ◌++◌, length, Option, None, Some, Err}
use Rattle.vax_input.specs.Lines.{Takes}
use Rattle.vax_console.specs.Transcript.{Session}
use Rattle.vax_console.specs.Ends.{Scene}
use Rattle.vax_debug_acts.specs.Sessions.{IsHere, Origin}
use Rattle.vax_debug_acts.specs.Failure.{Failure}
use Rattle.vax_debug_acts.specs.Plan.{Plan}
use Rattle.vax_debug_acts.specs.Failure.TheVariants as failure
use Rattle.vax_debug_acts.specs.Acting.{Acts}
use Rattle.vax_debug_session.specs.Exchanges.{Exchange, lines_of}
use Rattle.vax_debug_session.specs.Requests.{held}
use Rattle.vax_debug_session.specs.Holding.{GoesOn, Holds, Restarts, Stage, Terms, act_of, after_line, end_by, held_after, transcript}
use Rattle.vax_debug_session.specs.declared.SessionEnd.{SessionEnd}
use Rattle.vax_debug_session.specs.declared.SessionEnd.TheVariants as end

abbrev pub end_of : Failure → SessionEnd
end_of failure.Turns = end.Turns
end_of failure.PageFault = end.PageFault
end_of failure.WriteFault = end.WriteFault

-- a line asks for an end, and nothing is done
pub record Closes (e : SessionEnd) (line : Exchange) (before after : Scene) : Type 0 where
  pub asks : end_by line ≡ Some e
  pub same : after ≡ before

-- a line was carried out
pub record CarriesOut (g : Terms) (breaks new : Plan) (line : Exchange) (before after : Scene) : Type 0 where
  pub going : end_by line ≡ None
  pub here : (o : Origin) (s : Session) (replies : List ℕ) → IsHere o s replies before →
      IsHere o (after_line g (held s breaks) line).session (replies ++ (act_of g (held s breaks) line).reply) after
  pub stops : (o : Origin) (s : Session) (replies : List ℕ) → IsHere o s replies before → new ≡ (after_line g (held s breaks) line).breaks

-- it was cut short by a failure
pub record CutsShort (e : Failure) (g : Terms) (breaks : Plan) (line : Exchange) (before after : Scene) : Type 0 where
  pub going : end_by line ≡ None
  pub acts : (o : Origin) (s : Session) (replies : List ℕ) → IsHere o s replies before →
      Acts (Err e) g.limits.turns (act_of g (held s breaks) line) o s replies after

-- what a line comes to behind its prompt
abbrev pub Answers : Option SessionEnd → Terms → (breaks new : Plan) → Exchange → (before after : Scene) → Type 0
Answers None g breaks new line before after = CarriesOut g breaks new line before after
Answers (Some end.Quit) g breaks new line before after = Closes end.Quit line before after
Answers (Some end.Save) g breaks new line before after = Closes end.Save line before after
Answers (Some end.Restart) g breaks new line before after = Closes end.Restart line before after × (new ≡ breaks)
Answers (Some end.Read) g breaks new line before after = ⊥
Answers (Some end.Lines) g breaks new line before after = ⊥
Answers (Some end.Turns) g breaks new line before after = CutsShort failure.Turns g breaks line before after
Answers (Some end.PageFault) g breaks new line before after = CutsShort failure.PageFault g breaks line before after
Answers (Some end.WriteFault) g breaks new line before after = CutsShort failure.WriteFault g breaks line before after
Answers (Some end.LineFault) g breaks new line before after = ⊥

-- so many lines were carried out, none of which asks for the end
pub record IsHolding (g : Terms) (breaks new : Plan) (count : ℕ) (v : Stage) : Type 0 where
  pub lines : List Exchange
  pub many : length lines ≡ count
  pub took : Takes v.coming v.left (lines_of lines)
  pub going : GoesOn lines
  pub here : (o : Origin) (s : Session) (replies : List ℕ) → IsHere o s replies v.before →
      IsHere o (held_after g (held s breaks) lines).session (replies ++ transcript g (held s breaks) lines) v.after
  pub stops : (o : Origin) (s : Session) (replies : List ℕ) → IsHere o s replies v.before → new ≡ (held_after g (held s breaks) lines).breaks

-- a line more was, or the session ended with it or before it
abbrev pub HoldsOn : Option SessionEnd → Terms → (breaks new : Plan) → Stage → Type 0
HoldsOn None g breaks new v = IsHolding g breaks new 1 v
HoldsOn (Some end.Quit) g breaks new v = Holds g breaks end.Quit v
HoldsOn (Some end.Save) g breaks new v = Holds g breaks end.Save v
HoldsOn (Some end.Restart) g breaks new v = Restarts g breaks new v
HoldsOn (Some end.Read) g breaks new v = Holds g breaks end.Read v
HoldsOn (Some end.Lines) g breaks new v = ⊥
HoldsOn (Some end.Turns) g breaks new v = Holds g breaks end.Turns v
HoldsOn (Some end.PageFault) g breaks new v = Holds g breaks end.PageFault v
HoldsOn (Some end.WriteFault) g breaks new v = Holds g breaks end.WriteFault v
HoldsOn (Some end.LineFault) g breaks new v = Holds g breaks end.LineFault v
