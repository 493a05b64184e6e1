-- Words and commands, without where they lie in memory.
use Rattle.std.specs.Prelude.{ℕ, ◌≤◌, ◌*◌, ◌^◌, All, List, length, map, string_bytes}
use Rattle.std.specs.Option.{option_copied}
use Rattle.std.specs.Global.{Global}
use Rattle.std.specs.declared.string.String.{String}
use Rattle.std.specs.Borrow.{Bor}
use Rattle.vax_cli.specs.Words as words
use Rattle.vax_cli.specs.Words.{Text, Said, bare, run, build, list, listing, check, console, debug, trace, save, resume, jobs, work, vectors, about}
use Rattle.vax_cli.specs.Items as plain
use Rattle.vax_cli.specs.declared.command.DumpItem.{DumpItem}
use Rattle.vax_cli.specs.Tracing as tracing_words
use Rattle.vax_cli.specs.Jobs as jobs_words
use Rattle.vax_cli.specs.declared.jobs.JobsOptions.{JobsOptions}
use Rattle.vax_cli.specs.declared.command.Options.{Options}
use Rattle.vax_cli.specs.declared.command.Tracing.{Tracing}
use Rattle.vax_cli.specs.declared.command.Asked.{Asked}
use Rattle.vax_cli.specs.declared.command.Command.{Command}
use Rattle.vax_cli.specs.declared.command.Command.TheVariants as command
use Rattle.vax_cli.specs.declared.items.Item.{Item}
use Rattle.vax_cli.specs.declared.items.Item.TheVariants as item
use Rattle.vax_cli.specs.declared.items.Reading.{Reading}
use Rattle.vax_cli.specs.declared.items.Reading.TheVariants as reading

abbrev pub texts : List (String Global) → List Text
texts words = map (λ word. string_bytes word) words

abbrev pub names_of : List (Bor Text) → List Text
names_of names = map (λ name. name.now) names

abbrev pub item_of : Item → plain.Item
item_of (item.Name word) = plain.name word.now
item_of (item.Setting key value) = plain.setting key value.now

abbrev pub items_of : List Item → List plain.Item
items_of items = map item_of items

abbrev pub reading_of : Reading → plain.Reading
reading_of (reading.Whole item) = plain.whole (item_of item)
reading_of (reading.Opened key) = plain.opened key

abbrev pub options : Options → words.Options
options o = record {
  dialect = o.dialect;
  input = option_copied o.input;
  system = option_copied o.system;
  schedule = option_copied o.schedule;
  frames = o.frames;
  steps = o.steps;
  turns = o.turns;
  dumps = o.dumps.items;
  recorded = o.recorded;
  strict = o.strict;
}

abbrev pub tracing : Tracing → tracing_words.Tracing
tracing t = record { breaks = t.breaks.items; watches = t.watches.items; texts = t.texts }

abbrev pub jobs_options : JobsOptions → jobs_words.JobsOptions
jobs_options o = record { dialect = o.dialect; order = option_copied o.order; pool = o.pool; steps = o.steps; turns = o.turns; input = option_copied o.input }

abbrev pub said : Command → Said
said (command.Bare files o) = bare (names_of files.items) (options o)
said (command.Run files o) = run (names_of files.items) (options o)
said (command.Build files target format) = build (names_of files.items) target format
said (command.List files target) = list (names_of files.items) target
said (command.Listing files target) = listing (names_of files.items) target
said (command.Check files target system) = check (names_of files.items) target (option_copied system)
said (command.Console files base script o) = console (names_of files.items) base script.now (options o)
said (command.Debug files base prompt o) = debug (names_of files.items) base prompt (options o)
said (command.Trace files base t o) = trace (names_of files.items) base (tracing t) (options o)
said (command.Save files base o) = save (names_of files.items) base (options o)
said (command.Resume name o) = resume name.now (options o)
said (command.Jobs files o) = jobs (names_of files.items) (jobs_options o)
said (command.Work seed size o) = work seed size (options o)
said (command.Vectors request) = vectors request
said command.About = about

abbrev pub asked : Asked → words.Asked
asked a = record { macros = names_of a.macros.items; said = said a.command }

-- it has 1 to 4,096 bytes
pub record IsDump (d : DumpItem) : Type 0 where
  pub some : 1 ≤ d.count
  pub few : d.count ≤ 4096

-- the numbers of the options are within their bounds
pub record AreWithin (o : words.Options) : Type 0 where
  pub frames : 64 ≤ o.frames
  pub few : o.frames ≤ 32768
  pub steps : o.steps ≤ 10 ^ 15
  pub turns : o.turns ≤ 10 ^ 15
  pub dumps : All IsDump o.dumps

-- there are at most 16 addresses and watches, of 1 to 4,096 bytes each
pub record IsTracing (t : tracing_words.Tracing) : Type 0 where
  pub breaks : length t.breaks ≤ 16
  pub watches : length t.watches ≤ 16
  pub sized : All IsDump t.watches

-- there are 1 to 8 files
pub record AreFiles (files : List Text) : Type 0 where
  pub some : 1 ≤ length files
  pub few : length files ≤ 8

-- how many pages of so many programs may be resident, and their limits, are within their bounds
pub record AreShared (count : ℕ) (o : jobs_words.JobsOptions) : Type 0 where
  pub least : 64 * count ≤ o.pool
  pub most : o.pool ≤ 32768
  pub steps : o.steps ≤ 10 ^ 15
  pub turns : o.turns ≤ 10 ^ 15

abbrev pub IsWithin : Said → Type 0
IsWithin (bare files o) = AreFiles files × AreWithin o
IsWithin (run files o) = AreFiles files × AreWithin o
IsWithin (build files target format) = AreFiles files
IsWithin (list files target) = AreFiles files
IsWithin (listing files target) = AreFiles files
IsWithin (check files target system) = AreFiles files
IsWithin (console files linked script o) = AreFiles files × AreWithin o
IsWithin (debug files linked prompt o) = AreFiles files × AreWithin o
IsWithin (trace files linked t o) = AreFiles files × IsTracing t × AreWithin o
IsWithin (save files linked o) = AreFiles files × AreWithin o
IsWithin (resume name o) = AreWithin o
IsWithin (jobs files o) = AreFiles files × AreShared (length files) o
IsWithin (work seed size o) = (1 ≤ size) × (size ≤ 5000) × AreWithin o
IsWithin (vectors request) = Unit {0}
IsWithin about = Unit {0}

-- what a command says is within its bounds, and it has at most four files of macros
abbrev pub IsAskedWithin : words.Asked → Type 0
IsAskedWithin a = IsWithin a.said × (length a.macros ≤ 4)
