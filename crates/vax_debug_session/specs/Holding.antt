-- A session with a debugger: a fold over its lines, on the flat machine, and how it ends.
use Rattle.std.specs.Prelude.{ℕ, ◌≡◌, ◌-◌, ◌^◌, ◌⊎◌, Bool, false, if◌then◌else◌, List, [], ◌∷◌, ◌++◌, codes, length, Option, None, Some, is_some, Err}
use Rattle.std.specs.List.{list_any}
use Rattle.vax_input.specs.Lines.{IsAtEnd, Takes}
use Rattle.vax_machine.specs.declared.event.Limits.{Limits}
use Rattle.vax_console.specs.Transcript.{Session}
use Rattle.vax_console.specs.Ends.{Scene}
use Rattle.vax_debug_acts.specs.Sessions.{IsHere, Origin}
use Rattle.vax_debug_acts.specs.Failure.{Failure}
use Rattle.vax_debug_acts.specs.Plan.{Plan}
use Rattle.vax_debug_acts.specs.Failure.TheVariants as failure
use Rattle.vax_debug_words.specs.Requests.{line_of}
use Rattle.vax_debug_words.specs.declared.request.Line.{Line}
use Rattle.vax_debug_words.specs.declared.request.Line.TheVariants.{Blank, Request as Asks, Refused}
use Rattle.vax_debug_words.specs.declared.request.Request.TheVariants as request
use Rattle.vax_debug_names.specs.declared.Legend.{Legend}
use Rattle.vax_debug_replies.specs.Help.{refused}
use Rattle.vax_debug_acts.specs.Acting.{Act, Acts, IsToldInPart}
use Rattle.vax_debug_acts.specs.Acts.{only_told}
use Rattle.vax_debug_session.specs.Exchanges.{Exchange, lines_of}
use Rattle.vax_debug_session.specs.Requests.{Held, answered, breaks_after, held}
use Rattle.vax_debug_session.specs.declared.SessionEnd.{SessionEnd}
use Rattle.vax_debug_session.specs.declared.SessionEnd.TheVariants as end

-- what a session is held under: its limits, what its program is told by, and whether a prompt is written
pub record Terms : Type 0 where
  pub limits : Limits
  pub legend : Legend
  pub prompts : Bool

abbrev pub terms : Limits → Legend → Bool → Terms
terms limits legend prompts = record { limits = limits; legend = legend; prompts = prompts }

-- the fold

-- before each line is read
abbrev pub prompt : Bool → List ℕ
prompt prompts = if prompts then codes "vax> " else []

-- what a line comes to: a blank one to nothing, and one that isn't understood to what may have been meant
abbrev pub carried_out : (limit : ℕ) → Legend → Plan → Exchange → Line → Session → Act
carried_out limit legend breaks x Blank s = only_told s []
carried_out limit legend breaks x (Asks r) s = answered limit legend breaks x.pages r s
carried_out limit legend breaks x (Refused why) s = only_told s (refused why x.line)

abbrev pub breaks_behind : Legend → Plan → Line → Session → Plan
breaks_behind legend breaks Blank s = breaks
breaks_behind legend breaks (Asks r) s = breaks_after legend breaks r s
breaks_behind legend breaks (Refused why) s = breaks

abbrev pub act_of : Terms → Held → Exchange → Act
act_of g h x = carried_out g.limits.steps g.legend h.breaks x (line_of x.line) h.session

-- the reply to a line
abbrev pub replied : Terms → Held → Exchange → List ℕ
replied g h x = (act_of g h x).reply

-- and where it leaves the session
abbrev pub after_line : Terms → Held → Exchange → Held
after_line g h x = held (act_of g h x).session (breaks_behind g.legend h.breaks (line_of x.line) h.session)

-- the replies to lines, in order, each behind its prompt
unfoldable pub transcript : Terms → Held → List Exchange → List ℕ
transcript g h [] = []
transcript g h (x ∷ xs) = prompt g.prompts ++ replied g h x ++ transcript g (after_line g h x) xs

-- where they leave the session
unfoldable pub held_after : Terms → Held → List Exchange → Held
held_after g h [] = h
held_after g h (x ∷ xs) = held_after g (after_line g h x) xs

-- lines

-- what a line asks for that a session ends with
abbrev pub end_asked : Line → Option SessionEnd
end_asked (Asks request.Quit) = Some end.Quit
end_asked (Asks request.Save) = Some end.Save
end_asked (Asks request.Restart) = Some end.Restart
end_asked l = None

abbrev pub end_by : Exchange → Option SessionEnd
end_by x = end_asked (line_of x.line)

abbrev pub asks_end : Exchange → Bool
asks_end x = is_some (end_by x)

-- none of them asks for an end
abbrev pub GoesOn : List Exchange → Type 0
GoesOn lines = list_any asks_end lines ≡ false

-- the last one does, and it alone
pub record IsAskedAtLast (e : SessionEnd) (lines : List Exchange) : Type 0 where
  pub front : List Exchange
  pub last : Exchange
  pub splits : lines ≡ front ++ last ∷ []
  pub going : GoesOn front
  pub asks : end_by last ≡ Some e

-- which lines a session that ends so may have
abbrev pub Asked : SessionEnd → List Exchange → Type 0
Asked end.Quit lines = IsAskedAtLast end.Quit lines
Asked end.Save lines = IsAskedAtLast end.Save lines
Asked end.Restart lines = IsAskedAtLast end.Restart lines
Asked end.Read lines = GoesOn lines
Asked end.Lines lines = GoesOn lines × (length lines ≡ 2 ^ 64 - 1)
Asked end.Turns lines = GoesOn lines
Asked end.PageFault lines = GoesOn lines
Asked end.WriteFault lines = GoesOn lines
Asked end.LineFault lines = GoesOn lines

-- These lines were taken. Behind a line that couldn't be read it is open which are still to come.
abbrev pub Took : SessionEnd → (before now : Option (List (List ℕ))) → List (List ℕ) → Type 0
Took end.Quit before now lines = Takes before now lines
Took end.Save before now lines = Takes before now lines
Took end.Restart before now lines = Takes before now lines
Took end.Read before now lines = Takes before now lines × IsAtEnd now now
Took end.Lines before now lines = Takes before now lines
Took end.Turns before now lines = Takes before now lines
Took end.PageFault before now lines = Takes before now lines
Took end.WriteFault before now lines = Takes before now lines
Took end.LineFault before now lines = (mid : Option (List (List ℕ))) × Takes before mid lines

-- how a session ends

-- it is where lines have led it, behind their transcript and this
abbrev pub IsHeld : Terms → Held → List Exchange → (more : List ℕ) → Origin → (replies : List ℕ) → Scene → Type 0
IsHeld g h lines more o replies v = IsHere o (held_after g h lines).session ((replies ++ transcript g h lines) ++ more) v

-- the lines in front of the last were carried out, and the last was cut short by a failure
pub record IsCutShort (e : Failure) (g : Terms) (h : Held) (lines : List Exchange) (o : Origin) (replies : List ℕ) (v : Scene) : Type 0 where
  pub front : List Exchange
  pub last : Exchange
  pub splits : lines ≡ front ++ last ∷ []
  pub acts : Acts (Err e) g.limits.turns (act_of g (held_after g h front) last) o (held_after g h front).session ((replies ++ transcript g h front) ++ prompt g.prompts) v

-- all lines were carried out, and a prompt wasn't written whole
abbrev pub IsUnprompted : Terms → Held → List Exchange → Origin → (replies : List ℕ) → Scene → Type 0
IsUnprompted g h lines o replies v = IsToldInPart o (held_after g h lines).session (replies ++ transcript g h lines) (prompt g.prompts) v

abbrev pub Ends : SessionEnd → Terms → Held → List Exchange → Origin → (replies : List ℕ) → Scene → Type 0
Ends end.Quit g h lines o replies v = IsHeld g h lines [] o replies v
Ends end.Save g h lines o replies v = IsHeld g h lines [] o replies v
Ends end.Restart g h lines o replies v = IsHeld g h lines [] o replies v
Ends end.Read g h lines o replies v = IsHeld g h lines (prompt g.prompts) o replies v
Ends end.Lines g h lines o replies v = IsHeld g h lines [] o replies v
Ends end.Turns g h lines o replies v = IsCutShort failure.Turns g h lines o replies v
Ends end.PageFault g h lines o replies v = IsCutShort failure.PageFault g h lines o replies v
Ends end.WriteFault g h lines o replies v = IsCutShort failure.WriteFault g h lines o replies v ⊎ IsUnprompted g h lines o replies v
Ends end.LineFault g h lines o replies v = IsHeld g h lines (prompt g.prompts) o replies v

-- the scenes of a call that holds a session, and the lines that were and are still to come
pub record Stage : Type 0 where
  pub before : Scene
  pub after : Scene
  pub coming : Option (List (List ℕ))
  pub left : Option (List (List ℕ))

abbrev pub stage : (before after : Scene) → (coming left : Option (List (List ℕ))) → Stage
stage before after coming left = record { before = before; after = after; coming = coming; left = left }

-- Lines were taken, and the session ends so behind them, in each session that the machine makes.
pub record Holds (g : Terms) (breaks : Plan) (e : SessionEnd) (v : Stage) : Type 0 where
  pub lines : List Exchange
  pub took : Took e v.coming v.left (lines_of lines)
  pub asked : Asked e lines
  pub goes : (o : Origin) (s : Session) (replies : List ℕ) → IsHere o s replies v.before → Ends e g (held s breaks) lines o replies v.after

-- Lines were taken, and the last of them, and it alone, asks for the program at its start. The session is where they led it, and so are the addresses at which
-- steps stop and what is watched.
pub record Restarts (g : Terms) (breaks new : Plan) (v : Stage) : Type 0 where
  pub lines : List Exchange
  pub took : Takes v.coming v.left (lines_of lines)
  pub asked : IsAskedAtLast end.Restart lines
  pub goes : (o : Origin) (s : Session) (replies : List ℕ) → IsHere o s replies v.before → IsHeld g (held s breaks) lines [] o replies v.after
  pub stops : (o : Origin) (s : Session) (replies : List ℕ) → IsHere o s replies v.before → new ≡ (held_after g (held s breaks) lines).breaks
