-- Which words name a command, and what they say.
use Rattle.std.specs.Prelude.{ℕ, Bool, true, false, not, nat_le, ◌||◌, ◌&&◌, List, [], ◌∷◌, length, codes, Option, None, Some, is_some, if◌then◌else◌}
use Rattle.std.specs.Option.{option_map, option_and_then}
use Rattle.std.specs.Str.{bytes_eq}
use Rattle.vax_cli.specs.Table.{Text as Word, keys_of, takes_files, verb_of}
use Rattle.vax_cli.specs.Jobs.{JobsOptions, pool_of}
use Rattle.vax_cli.specs.Items.{Item, are_distinct, items_from, names, value, values}
use Rattle.vax_cli.specs.Tracing.{Tracing, breaks_of}
use Rattle.vax_cli.specs.Values.{base_of, dialect_of, dumps_of, format_of, frames_of, seed_of, size_of, steps_of, strictness, switch_of, turns_of}
use Rattle.vax_cli.specs.declared.command.Base.{Base}
use Rattle.vax_cli.specs.declared.command.Base.TheVariants as base
use Rattle.vax_cli.specs.declared.command.DumpItem.{DumpItem}
use Rattle.vax_cli.specs.declared.command.Format.{Format}
use Rattle.vax_cli.specs.declared.command.Strictness.{Strictness}
use Rattle.vax_cli.specs.declared.command.Strictness.TheVariants.{Halt, Success}
use Rattle.vax_cli.specs.declared.command.Target.{Target}
use Rattle.vax_cli.specs.declared.table.Verb.{Verb}
use Rattle.vax_dialect.specs.declared.Dialect.{Dialect}
use Rattle.vax_cli.specs.Vectors.{request_of}
use Rattle.vax_cli.specs.declared.vectors.VectorRequest.{VectorRequest}
use Rattle.vax_cli.specs.declared.table.Verb.TheVariants as verb
use Rattle.vax_cli.specs.declared.table.Key.TheVariants as key

abbrev pub Text : Type 0
Text = Word

-- what a run is given beside its files: the dialect of its sources; the files of the console's input, of the system and of the schedule; how many pages may be resident; the
-- most steps and turns; the memory to report; whether evictions are recorded; and what the exit status tells of the end
pub record Options : Type 0 where
  pub dialect : Dialect
  pub input : Option Text
  pub system : Option Text
  pub schedule : Option Text
  pub frames : ℕ
  pub steps : ℕ
  pub turns : ℕ
  pub dumps : List DumpItem
  pub recorded : Bool
  pub strict : Strictness

-- a command with its files and options, or a request for a text about the program itself
pub data Said : Type 0 where
  bare : List Text → Options → Said
  run : List Text → Options → Said
  build : List Text → Target → Format → Said
  list : List Text → Target → Said
  listing : List Text → Target → Said
  check : List Text → Target → Option Text → Said
  console : List Text → Base → Text → Options → Said
  debug : List Text → Base → Bool → Options → Said
  trace : List Text → Base → Tracing → Options → Said
  save : List Text → Base → Options → Said
  resume : Text → Options → Said
  jobs : List Text → JobsOptions → Said
  work : ℕ → ℕ → Options → Said
  vectors : VectorRequest → Said
  about : Said

-- a command, and the files of macros that are read before each of its sources
pub record Asked : Type 0 where
  pub macros : List Text
  pub said : Said

-- what the options of a run say, whose exit status may tell so much of its end
abbrev pub options_of : Strictness → List Item → Option Options
options_of most items =
    option_and_then (λ dialect.
    option_and_then (λ frames.
    option_and_then (λ steps.
    option_and_then (λ turns.
    option_and_then (λ dumps.
    option_and_then (λ recorded.
    option_map (λ strict. record {
      dialect = dialect;
      input = value key.Input items;
      system = value key.System items;
      schedule = value key.Schedule items;
      frames = frames;
      steps = steps;
      turns = turns;
      dumps = dumps;
      recorded = recorded;
      strict = strictness most strict;
    })
    (switch_of (value key.Strict items))) (switch_of (value key.Record items))) (dumps_of (value key.Dump items))) (turns_of (value key.Turns items)))
    (steps_of (value key.Steps items))) (frames_of (value key.Frames items))) (dialect_of (value key.Dialect items))

-- what sources are assembled as, and what for
abbrev pub target_of : List Item → Option Target
target_of items =
    option_and_then (λ dialect. option_map (λ base. record { dialect = dialect; base = base }) (base_of (value key.Base items))) (dialect_of (value key.Dialect items))

abbrev pub build_of : List Item → Option Said
build_of items =
    option_and_then (λ target. option_map (λ format. build (names items) target format) (format_of (value key.Format items))) (target_of items)

-- on the bare machine there is no system
abbrev pub may_have_system : Base → Option Text → Bool
may_have_system base.User system = true
may_have_system base.Bare system = not (is_some system)

abbrev pub check_of : List Item → Option Said
check_of items =
    option_and_then (λ target.
    if may_have_system target.base (value key.System items) then Some (check (names items) target (value key.System items)) else None)
    (target_of items)

-- a session has a script, and no other system on the bare machine
abbrev pub is_session : Base → Options → Bool
is_session base.User o = true
is_session base.Bare o = not (is_some o.system)

abbrev pub console_of : List Item → Option Said
console_of items =
    option_and_then (λ script.
    option_and_then (λ base.
    option_and_then (λ options. if is_session base options then Some (console (names items) base script options) else None)
    (options_of Halt items)) (base_of (value key.Base items))) (value key.Script items)

-- nor does a session whose lines come from standard input; before each of them a prompt stands or doesn't
abbrev pub debug_of : List Item → Option Said
debug_of items =
    option_and_then (λ base.
    option_and_then (λ prompt.
    option_and_then (λ options. if is_session base options then Some (debug (names items) base prompt options) else None)
    (options_of Halt items)) (switch_of (value key.Prompt items))) (base_of (value key.Base items))

-- a traced run takes no other system on the bare machine either
abbrev pub trace_of : List Item → Option Said
trace_of items =
    option_and_then (λ base.
    option_and_then (λ breaks.
    option_and_then (λ watches.
    option_and_then (λ texts.
    option_and_then (λ options. if is_session base options then Some (trace (names items) base (record { breaks = breaks; watches = watches; texts = texts }) options) else None)
    (options_of Halt items)) (switch_of (value key.Text items))) (dumps_of (value key.Watch items))) (breaks_of (value key.Break items))) (base_of (value key.Base items))

-- a run that is saved has no other system on the bare machine
abbrev pub save_of : List Item → Option Said
save_of items =
    option_and_then (λ base.
    option_and_then (λ options. if is_session base options then Some (save (names items) base options) else None)
    (options_of Halt items)) (base_of (value key.Base items))

-- one file
abbrev pub resume_of : List Text → Option Options → Option Said
resume_of (name ∷ []) options = option_map (λ o. resume name o) options
resume_of files options = None

abbrev pub jobs_of : List Item → Option Said
jobs_of items =
    option_and_then (λ dialect.
    option_and_then (λ pool.
    option_and_then (λ steps.
    option_map (λ turns. jobs (names items) (record { dialect = dialect; order = value key.Order items; pool = pool; steps = steps; turns = turns; input = value key.Input items }))
    (turns_of (value key.Turns items))) (steps_of (value key.Steps items))) (pool_of (length (names items)) (value key.Pool items))) (dialect_of (value key.Dialect items))

abbrev pub work_of : List Item → Option Said
work_of items =
    option_and_then (λ seed.
    option_and_then (λ size.
    option_map (λ options. work seed size options)
    (options_of Halt items)) (size_of (value key.Size items))) (seed_of (value key.Seed items))

abbrev pub vectors_of : List Item → Option Said
vectors_of items =
    option_map vectors
    (request_of (value key.Opcode items) (value key.Count items) (value key.Seed items) (value key.Absent items) (value key.Mode items))

-- what a command's names and options say
abbrev pub said_of : Verb → List Item → Option Said
said_of verb.Bare items = option_map (λ options. bare (names items) options) (options_of Halt items)
said_of verb.Run items = option_map (λ options. run (names items) options) (options_of Success items)
said_of verb.Build items = build_of items
said_of verb.List items = option_map (λ target. list (names items) target) (target_of items)
said_of verb.Listing items = option_map (λ target. listing (names items) target) (target_of items)
said_of verb.Check items = check_of items
said_of verb.Console items = console_of items
said_of verb.Debug items = debug_of items
said_of verb.Trace items = trace_of items
said_of verb.Save items = save_of items
said_of verb.Resume items = resume_of (names items) (options_of Halt items)
said_of verb.Jobs items = jobs_of items
said_of verb.Work items = work_of items
said_of verb.Vectors items = vectors_of items

-- a command takes so many files as it is given, each option at most once, and at most four files of macros
abbrev pub is_plain : Verb → List Item → Bool
is_plain verb items = (takes_files verb (length (names items)) && are_distinct items) && nat_le (length (values key.Macros items)) 4

abbrev pub checked : Verb → List Item → Option Asked
checked verb items =
    if is_plain verb items then option_map (λ said. record { macros = values key.Macros items; said = said }) (said_of verb items) else None

abbrev pub is_help : Text → Bool
is_help word = bytes_eq word (codes "--help")

abbrev pub is_version : Text → Bool
is_version word = bytes_eq word (codes "--version")

-- one word, `--help`
abbrev pub asks_help : List Text → Bool
asks_help (word ∷ []) = is_help word
asks_help words = false

-- one word, `--help` or `--version`
abbrev pub asks_about : List Text → Bool
asks_about (word ∷ []) = is_help word || is_version word
asks_about words = false

-- a text about the program itself
abbrev pub plain_about : Asked
plain_about = record { macros = []; said = about }

-- what stands behind a command: names and options in any order
abbrev pub behind : Verb → List Text → Option Asked
behind verb words = if asks_help words then Some plain_about else option_and_then (checked verb) (items_from (keys_of verb) None words)

abbrev pub named : List Text → Option Asked
named [] = None
named (word ∷ words) = option_and_then (λ verb. behind verb words) (verb_of word)

-- the command that words name
abbrev pub command_of : List Text → Option Asked
command_of words = if asks_about words then Some plain_about else named words
