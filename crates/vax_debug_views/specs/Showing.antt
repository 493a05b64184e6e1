-- What is shown of a session's machine, which stays where it is.
use Rattle.std.specs.Prelude.{ℕ, List, Option, Result, Ok, Err}
use Rattle.vax_outside.specs.Channels.{Channels, Grew, GrewByPrefix, only}
use Rattle.vax_outside.specs.declared.traits.Chan.TheVariants.{Report}
use Rattle.vax_flat.specs.Step.{Flat}
use Rattle.vax_console.specs.Ends.{Scene, scene}
use Rattle.vax_console.specs.Transcript.{Session}
use Rattle.vax_debug.specs.Sessions.{IsHere, Origin, StaysHere}
use Rattle.vax_debug.specs.declared.failure.Failure.{Failure}
use Rattle.vax_debug.specs.declared.failure.Failure.TheVariants as failure

-- Report grew by a reply, or by a prefix of it where a call failed, and nothing else grew. No turns are made, so their limit isn't reached.
abbrev pub Replied : Result (Unit {0}) Failure → (before after : Option Channels) → List ℕ → Type 0
Replied (Ok x) before after text = Grew before after (only Report text)
Replied (Err failure.Turns) before after text = ⊥
Replied (Err failure.PageFault) before after text = GrewByPrefix before after (only Report text)
Replied (Err failure.WriteFault) before after text = GrewByPrefix before after (only Report text)

-- a machine and its file, with other channels
abbrev pub with_sink : Option Channels → Scene → Scene
with_sink sink v = scene v.machine v.file sink

-- nothing but Report grew
pub record OnlyTold (before after : Option Channels) : Type 0 where
  pub told : List ℕ
  pub grew : Grew before after (only Report told)

-- In each session that the machine makes, it is where it was, and what is told of the session's flat machine was replied. The channels of the session may be
-- any: nothing is told of them. Also where the machine makes no session, nothing but Report grew.
pub record Shows (before after : Scene) (result : Result (Unit {0}) Failure) (told : Flat → List ℕ) : Type 0 where
  pub stays : (sink : Option Channels) → StaysHere (with_sink sink before) (with_sink sink after)
  pub replied : (sink : Option Channels) (o : Origin) (s : Session) (replies : List ℕ) → IsHere o s replies (with_sink sink before) →
      Replied result before.sink after.sink (told s.machine)
  pub only : OnlyTold before.sink after.sink
