-- The table of commands and their options.
use Rattle.std.specs.Prelude.{ℕ, Bool, nat_le, ◌==◌, ◌&&◌, List, [], ◌∷◌, codes, Option, find}
use Rattle.std.specs.Str.{bytes_eq}
use Rattle.vax_cli.specs.declared.table.Verb.{Verb}
use Rattle.vax_cli.specs.declared.table.Verb.TheVariants as verb
use Rattle.vax_cli.specs.declared.table.Key.{Key}
use Rattle.vax_cli.specs.declared.table.Key.TheVariants as key

abbrev pub Text : Type 0
Text = List ℕ

-- the commands
abbrev pub verbs : List Verb
verbs = verb.Bare ∷ verb.Run ∷ verb.Build ∷ verb.List ∷ verb.Listing ∷ verb.Check ∷ verb.Console ∷ verb.Debug ∷ verb.Trace ∷ verb.Save ∷ verb.Resume ∷ verb.Jobs ∷ verb.Work ∷ verb.Vectors ∷ []

abbrev pub verb_name : Verb → Text
verb_name verb.Bare = codes "bare"
verb_name verb.Run = codes "run"
verb_name verb.Build = codes "build"
verb_name verb.List = codes "list"
verb_name verb.Listing = codes "listing"
verb_name verb.Check = codes "check"
verb_name verb.Console = codes "console"
verb_name verb.Debug = codes "debug"
verb_name verb.Trace = codes "trace"
verb_name verb.Save = codes "save"
verb_name verb.Resume = codes "resume"
verb_name verb.Jobs = codes "jobs"
verb_name verb.Work = codes "work"
verb_name verb.Vectors = codes "vectors"

-- the options
abbrev pub key_name : Key → Text
key_name key.Input = codes "--input"
key_name key.System = codes "--system"
key_name key.Schedule = codes "--schedule"
key_name key.Frames = codes "--frames"
key_name key.Steps = codes "--steps"
key_name key.Turns = codes "--turns"
key_name key.Dump = codes "--dump"
key_name key.Record = codes "--record"
key_name key.Base = codes "--base"
key_name key.Dialect = codes "--dialect"
key_name key.Macros = codes "--macros"
key_name key.Format = codes "--format"
key_name key.Script = codes "--script"
key_name key.Seed = codes "--seed"
key_name key.Size = codes "--size"
key_name key.Strict = codes "--strict"
key_name key.Break = codes "--break"
key_name key.Watch = codes "--watch"
key_name key.Text = codes "--text"
key_name key.Opcode = codes "--opcode"
key_name key.Count = codes "--count"
key_name key.Absent = codes "--absent"
key_name key.Mode = codes "--mode"
key_name key.Order = codes "--order"
key_name key.Pool = codes "--pool"
key_name key.Prompt = codes "--prompt"

-- the options that a command takes
abbrev pub keys_of : Verb → List Key
keys_of verb.Bare = key.Dialect ∷ key.Macros ∷ key.Input ∷ key.Schedule ∷ key.Frames ∷ key.Steps ∷ key.Turns ∷ key.Dump ∷ key.Record ∷ key.Strict ∷ []
keys_of verb.Run = key.Dialect ∷ key.Macros ∷ key.Input ∷ key.System ∷ key.Schedule ∷ key.Frames ∷ key.Steps ∷ key.Turns ∷ key.Dump ∷ key.Record ∷ key.Strict ∷ []
keys_of verb.Build = key.Base ∷ key.Dialect ∷ key.Macros ∷ key.Format ∷ []
keys_of verb.List = key.Base ∷ key.Dialect ∷ key.Macros ∷ []
keys_of verb.Listing = key.Base ∷ key.Dialect ∷ []
keys_of verb.Check = key.Base ∷ key.Dialect ∷ key.Macros ∷ key.System ∷ []
keys_of verb.Console = key.Script ∷ key.Base ∷ key.Dialect ∷ key.Macros ∷ key.Input ∷ key.System ∷ key.Schedule ∷ key.Frames ∷ key.Steps ∷ key.Turns ∷ []
keys_of verb.Debug = key.Base ∷ key.Dialect ∷ key.Macros ∷ key.Input ∷ key.System ∷ key.Schedule ∷ key.Frames ∷ key.Steps ∷ key.Turns ∷ key.Prompt ∷ []
keys_of verb.Trace = key.Base ∷ key.Dialect ∷ key.Macros ∷ key.Input ∷ key.System ∷ key.Schedule ∷ key.Frames ∷ key.Steps ∷ key.Turns ∷ key.Dump ∷ key.Break ∷ key.Watch ∷ key.Text ∷ []
keys_of verb.Save = key.Base ∷ key.Dialect ∷ key.Macros ∷ key.Input ∷ key.System ∷ key.Schedule ∷ key.Frames ∷ key.Steps ∷ key.Turns ∷ []
keys_of verb.Resume = key.Schedule ∷ key.Frames ∷ key.Steps ∷ key.Turns ∷ key.Dump ∷ []
keys_of verb.Jobs = key.Dialect ∷ key.Macros ∷ key.Order ∷ key.Pool ∷ key.Steps ∷ key.Turns ∷ key.Input ∷ []
keys_of verb.Work = key.Dialect ∷ key.Seed ∷ key.Size ∷ key.Schedule ∷ key.Frames ∷ key.Steps ∷ key.Turns ∷ key.Dump ∷ key.Record ∷ key.Strict ∷ []
keys_of verb.Vectors = key.Opcode ∷ key.Count ∷ key.Seed ∷ key.Absent ∷ key.Mode ∷ []

-- it takes so many files: one to eight, `resume` one and `work` and `vectors` none
abbrev pub takes_files : Verb → ℕ → Bool
takes_files verb.Work count = count == 0
takes_files verb.Vectors count = count == 0
takes_files verb.Resume count = count == 1
takes_files _ count = nat_le 1 count && nat_le count 8

-- the command of this name
abbrev pub verb_of : Text → Option Verb
verb_of word = find (λ verb. bytes_eq (verb_name verb) word) verbs

-- the option of this name, among those that a command takes
abbrev pub key_of : List Key → Text → Option Key
key_of keys word = find (λ key. bytes_eq (key_name key) word) keys

-- the places of the options in the order above, by which they are told apart
abbrev pub place : Key → ℕ
place key.Input = 0
place key.System = 1
place key.Schedule = 2
place key.Frames = 3
place key.Steps = 4
place key.Turns = 5
place key.Dump = 6
place key.Record = 7
place key.Base = 8
place key.Format = 9
place key.Script = 10
place key.Seed = 11
place key.Size = 12
place key.Strict = 13
place key.Break = 14
place key.Watch = 15
place key.Text = 16
place key.Opcode = 17
place key.Count = 18
place key.Absent = 19
place key.Mode = 20
place key.Order = 21
place key.Pool = 22
place key.Dialect = 23
place key.Prompt = 24
place key.Macros = 25

abbrev pub is_same : Key → Key → Bool
is_same a b = place a == place b

-- one that may stand there several times
abbrev pub may_repeat : Key → Bool
may_repeat k = is_same k key.Macros
