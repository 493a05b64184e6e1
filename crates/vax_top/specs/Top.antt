-- What a call of the program comes to.
use Rattle.std.specs.Prelude.{◌≡◌, ◌⊎◌, ℕ, Bool, true, false, List, [], ◌∷◌, ◌++◌, length, map, Option, None, Some, MatchOption, Result, Ok, Err}
use Rattle.std.specs.Option.{option_map}
use Rattle.vax_outside.specs.Channels.{Channels, only}
use Rattle.vax_outside.specs.Blocks.{BlockFile}
use Rattle.vax_outside.specs.declared.traits.Chan.TheVariants as channel
use Rattle.vax_cli.specs.Words.{Asked, Text, Options, Said, bare, run, build, list, listing as source_listing, check, console, debug, trace, save, resume, jobs, work, vectors, about, command_of}
use Rattle.vax_cli.specs.Tracing.{Tracing}
use Rattle.vax_cli.specs.declared.command.Base as words_base
use Rattle.vax_cli.specs.declared.command.Base.TheVariants as words_bases
use Rattle.vax_cli.specs.declared.command.Format.{Format}
use Rattle.vax_cli.specs.declared.command.Format.TheVariants.{First, Second}
use Rattle.vax_dialect.specs.declared.Dialect.{Dialect}
use Rattle.vax_guest.specs.Workload.{workload}
use Rattle.vax_image.specs.File.{File, File2}
use Rattle.vax_image.specs.declared.Base.{Base}
use Rattle.vax_image.specs.declared.Base.TheVariants as bases
use Rattle.vax_image.specs.declared.Image.{Image}
use Rattle.vax_outside.specs.Directory.{Directory}
use Rattle.vax_outside.specs.declared.traits.FilesFault.{FilesFault}
use Rattle.vax_prelude.specs.Preludes.{Prelude, preludes_of, titles_of}
use Rattle.vax_prelude.specs.View.{preludes_seen}
use Rattle.vax_program.specs.Program.{Refusal}
use Rattle.vax_listing.specs.Listing.{listing}
use Rattle.vax_asm_listing.specs.Listed as listed
use Rattle.vax_command.specs.Around.{Around, Change, Outside, outside_of, with_preludes}
use Rattle.vax_command.specs.Ends.{Ends, EndsSo}
use Rattle.vax_top.specs.Vectors.{VectorsDo}
use Rattle.vax_top.specs.Checked.{CheckDoes, checked_names, found_of, is_bare}
use Rattle.vax_top.specs.Loaded.{IsRefused, bare_loaded, image_for, joined_file, joined_files, sources_image, told_in, user_loaded}
use Rattle.vax_command.specs.Reading.{ReadEnds, Reads, Sought, Texts, of_macros, of_options, of_programs, texts_of}
use Rattle.vax_command.specs.Loaded.{Loaded}
use Rattle.vax_command.specs.Running.{LacksMemory, RunsSo}
use Rattle.vax_command.specs.Saving.{SavesSo}
use Rattle.vax_command.specs.Wanting.{ReadsWanted, Wanted, WantedEnds}
use Rattle.vax_top.specs.Resumed.{ResumeDoes}
use Rattle.vax_cli.specs.Jobs.{JobsOptions}
use Rattle.vax_command.specs.Jobs.{JobsRunSo, JobsTexts, Users, jobs_files, jobs_texts_of, order_text}
use Rattle.vax_top.specs.Together.{together_for}
use Rattle.vax_command.specs.Holding.{HeldSo}
use Rattle.vax_command.specs.Tracing.{TracesSo}
use Rattle.vax_debug_names.specs.declared.Legend.{Legend}
use Rattle.vax_debug_symbols.specs.Symbols.{IsTable}
use Rattle.vax_debug_symbols.specs.declared.Table.{Table}
use Rattle.vax_command_debug.specs.Debugging.{DebugsSo, given}
use Rattle.vax_command.specs.Status.{refusal_growth}
use Rattle.vax_command.specs.declared.status.Status.{Status}
use Rattle.vax_command.specs.declared.status.Status.TheVariants.{Done, NoMemory, Usage}

-- the files that a command reads, in order, but for that of a saved state
abbrev pub reads_of : Said → List Sought
reads_of (bare names options) = of_programs names ++ of_options options None
reads_of (run names options) = of_programs names ++ of_options options None
reads_of (build names target format) = of_programs names
reads_of (list names target) = of_programs names
reads_of (source_listing names target) = of_programs names
reads_of (check names target system) = of_programs (checked_names names system)
reads_of (console names linked script options) = of_programs names ++ of_options options (Some script)
reads_of (debug names linked prompts options) = of_programs names ++ of_options options None
reads_of (trace names linked tracing options) = of_programs names ++ of_options options None
reads_of (save names linked options) = of_programs names ++ of_options options None
reads_of (resume name options) = of_options options None
reads_of (jobs names options) = of_programs names ++ jobs_files options
reads_of (work seed size options) = of_options options None
reads_of (vectors request) = []
reads_of about = []

-- the saved state that a command goes on from, which is read first
abbrev pub saved_of : Said → Option Text
saved_of (resume name options) = Some name
saved_of said = None

-- all files that a command reads
abbrev pub wanted_of : Said → Wanted
wanted_of said = record { saved = saved_of said; names = reads_of said }

-- a file of those that the words have read can't be read, and why: one of macros, or one of the others
abbrev pub IsUnread : Option Directory → Option Asked → Text × FilesFault → Type 0
IsUnread contents None why = ⊥
IsUnread contents (Some asked) why =
    Reads contents (of_macros asked.macros) (Err why) ⊎ ((texts : List Text) × Reads contents (of_macros asked.macros) (Ok texts) × ReadsWanted contents (wanted_of asked.said) (Err why))

-- files with a fault are refused before any call of the page file
pub record IsTurnedAway {X : Type 0} (pages : Change BlockFile) (loaded : Result X Refusal) (status : Status) (grown : Channels) : Type 0 where
  pub refused : IsRefused loaded status
  pub wrote : grown ≡ refusal_growth status
  pub keeps : pages.same

-- a run: any other program is run with its input under its schedule, unless this has a fault
abbrev pub RunDoes : Outside → Result Loaded Refusal → (input schedule : Text) → Options → Status → Channels → Type 0
RunDoes outside loaded input schedule options status grown =
    IsTurnedAway outside.pages loaded status grown
    ⊎ ((program : Loaded) × (loaded ≡ Ok program) × RunsSo outside program input schedule options status grown)

-- a session: it is held on any other program, unless its schedule has a fault
abbrev pub SessionDoes : Outside → Result Loaded Refusal → Texts → Options → Status → Channels → Type 0
SessionDoes outside loaded texts options status grown =
    IsTurnedAway outside.pages loaded status grown
    ⊎ ((program : Loaded) × (loaded ≡ Ok program) × HeldSo outside program texts.input texts.schedule texts.script options status grown)

-- What a program is told by, of these files, before each of whose sources these preludes stand: the names of the files, and the symbols and the lines of the
-- sources, as they are assembled and linked.
pub record IsLegend (dialect : Dialect) (region : Base) (preludes : List Prelude) (names files : List Text) (legend : Legend) : Type 0 where
  pub table : Table
  pub is : IsTable dialect region (joined_files preludes files) table
  pub symbols : legend.symbols.now ≡ table.symbols.items
  pub lines : legend.lines.now ≡ table.lines.items
  pub named : map (λ name. name.now) legend.names.now ≡ names
  pub behind : preludes_seen legend.preludes.now ≡ preludes

-- a session with a debugger: it is held on any other program, which is told by such a legend, unless its schedule has a fault; no line is taken before
abbrev pub DebugDoes : Outside → Change (List Text) → Result Loaded Refusal → (Tells : Legend → Type 0) → Texts → Bool → Options → Status → Channels → Type 0
DebugDoes outside lines loaded Tells texts prompts options status grown =
    (IsTurnedAway outside.pages loaded status grown × lines.same)
    ⊎ ((program : Loaded) × (loaded ≡ Ok program) × (legend : Legend) × Tells legend
    × DebugsSo outside lines program (given texts.input texts.schedule legend prompts) options status grown)

-- a traced run: any other program is run and its steps are listed, unless its schedule has a fault
abbrev pub TraceDoes : Outside → Result Loaded Refusal → Texts → Tracing → Options → Status → Channels → Type 0
TraceDoes outside loaded texts tracing options status grown =
    IsTurnedAway outside.pages loaded status grown
    ⊎ ((program : Loaded) × (loaded ≡ Ok program) × TracesSo outside program texts.input texts.schedule tracing options status grown)

-- a run that is saved: so is that of any other program, unless its schedule has a fault
abbrev pub SaveDoes : Outside → Result Loaded Refusal → Texts → Options → Status → Channels → Type 0
SaveDoes outside loaded texts options status grown =
    IsTurnedAway outside.pages loaded status grown
    ⊎ ((program : Loaded) × (loaded ≡ Ok program) × SavesSo outside program texts.input texts.schedule options status grown)

-- several programs: any others are run together in their order, unless this has a fault
abbrev pub TogetherDo : Outside → Result Users Refusal → JobsTexts → JobsOptions → Status → Channels → Type 0
TogetherDo outside loaded texts options status grown =
    IsTurnedAway outside.pages loaded status grown
    ⊎ ((programs : Users) × (loaded ≡ Ok programs)
    × JobsRunSo outside programs texts.input (order_text (length texts.programs) texts.order) options status grown)

-- their texts come to these programs, and they ran so
abbrev pub jobs_of : List Prelude → Outside → JobsTexts → JobsOptions → Status → Channels → Type 0
jobs_of preludes outside texts options status grown = TogetherDo outside (together_for preludes options.dialect texts.programs) texts options status grown

-- the bytes of an image in a version of the format
abbrev pub IsFile : Format → Image → Text → Type 0
IsFile First image bytes = File image bytes
IsFile Second image bytes = File2 image bytes

-- the lines of its instructions
abbrev pub IsListing : Image → Text → Type 0
IsListing image text = text ≡ listing image.areas

-- the listing of sources, which goes with the image that they are linked to
abbrev pub IsSourceListing : Dialect → Base → List Text → Image → Text → Type 0
IsSourceListing dialect linked sources image text = listed.IsListing dialect linked sources text

-- the image of a program was written to Out, so
pub record IsWritten (built : Result Image Refusal) (Writes : Image → Text → Type 0) (status : Status) (grown : Channels) : Type 0 where
  pub image : Image
  pub is_built : built ≡ Ok image
  pub text : Text
  pub writes : Writes image text
  pub answer : status ≡ Done
  pub wrote : grown ≡ only channel.Out text

-- `build`, `list` and `listing`: a program with a fault is refused, and the image of any other is written
abbrev pub ImageDoes : Change BlockFile → Result Image Refusal → (Image → Text → Type 0) → Status → Channels → Type 0
ImageDoes pages built Writes status grown =
    IsTurnedAway pages built status grown ⊎ (IsWritten built Writes status grown × pages.same)

-- a text about the program was shown, or memory was refused before
abbrev pub IsAbout : Status → Channels → Type 0
IsAbout status grown = ((status ≡ NoMemory) × (grown ≡ refusal_growth NoMemory)) ⊎ ((text : Text) × (status ≡ Done) × (grown ≡ only channel.Out text))

-- a run went so, or memory was refused before it
abbrev pub IsRunOf : Outside → Result Loaded Refusal → (input schedule : Text) → Options → Status → Channels → Type 0
IsRunOf outside loaded input schedule options status grown =
    LacksMemory outside.pages status grown ⊎ RunDoes outside loaded input schedule options status grown

-- and this is its answer
abbrev pub RanOf : Outside → Result Loaded Refusal → (input schedule : Text) → Options → Status → Type 0
RanOf outside loaded input schedule options result = EndsSo outside.sink (IsRunOf outside loaded input schedule options) result

-- a session went so, or memory was refused before it
abbrev pub IsSessionOf : Outside → Result Loaded Refusal → Texts → Options → Status → Channels → Type 0
IsSessionOf outside loaded texts options status grown =
    LacksMemory outside.pages status grown ⊎ SessionDoes outside loaded texts options status grown

-- a session with a debugger went so, or memory was refused before it
abbrev pub IsDebugOf : Outside → Change (List Text) → Result Loaded Refusal → (Tells : Legend → Type 0) → Texts → Bool → Options → Status → Channels → Type 0
IsDebugOf outside lines loaded Tells texts prompts options status grown =
    LacksMemory outside.pages status grown ⊎ DebugDoes outside lines loaded Tells texts prompts options status grown

-- a traced run went so, or memory was refused before it
abbrev pub IsTraceOf : Outside → Result Loaded Refusal → Texts → Tracing → Options → Status → Channels → Type 0
IsTraceOf outside loaded texts tracing options status grown =
    LacksMemory outside.pages status grown ⊎ TraceDoes outside loaded texts tracing options status grown

-- a run that is saved went so, or memory was refused before it
abbrev pub IsSavedOf : Outside → Result Loaded Refusal → Texts → Options → Status → Channels → Type 0
IsSavedOf outside loaded texts options status grown =
    LacksMemory outside.pages status grown ⊎ SaveDoes outside loaded texts options status grown

-- an image was written so, or memory was refused before
abbrev pub IsWriting : Change BlockFile → Result Image Refusal → (Image → Text → Type 0) → Status → Channels → Type 0
IsWriting pages built Writes status grown = LacksMemory pages status grown ⊎ ImageDoes pages built Writes status grown

-- the texts of a run come to these programs, and it went so
abbrev pub run_of : Outside → (Texts → Result Loaded Refusal) → Texts → Options → Status → Channels → Type 0
run_of outside loaded texts options status grown = RunDoes outside (loaded texts) texts.input texts.schedule options status grown

-- a program under a system or alone on the machine
abbrev pub session_joined : Dialect → words_base.Base → List Text → Option Text → Result Loaded Refusal
session_joined dialect words_bases.User texts system = user_loaded dialect texts system
session_joined dialect words_bases.Bare texts system = bare_loaded dialect texts

-- the same of files whose sources have these preludes
abbrev pub session_loaded : List Prelude → Dialect → words_base.Base → List Text → Option Text → Result Loaded Refusal
session_loaded preludes dialect linked texts system =
    told_in preludes (session_joined dialect linked (joined_files preludes texts) (option_map (joined_file preludes) system))

abbrev pub session_programs : List Prelude → Dialect → words_base.Base → Texts → Result Loaded Refusal
session_programs preludes dialect linked texts = session_loaded preludes dialect linked texts.programs texts.system

abbrev pub bare_programs : List Prelude → Dialect → Texts → Result Loaded Refusal
bare_programs preludes dialect texts = session_programs preludes dialect words_bases.Bare texts

abbrev pub user_programs : List Prelude → Dialect → Texts → Result Loaded Refusal
user_programs preludes dialect texts = session_programs preludes dialect words_bases.User texts

-- a workload has no preludes
abbrev pub work_programs : Dialect → (seed size : ℕ) → Texts → Result Loaded Refusal
work_programs dialect seed size texts = session_loaded [] dialect words_bases.User (workload seed size ∷ []) None

-- the texts of a session come to these programs, and it went so
abbrev pub session_of : Outside → (Texts → Result Loaded Refusal) → Texts → Options → Status → Channels → Type 0
session_of outside loaded texts options status grown = SessionDoes outside (loaded texts) texts options status grown

-- the texts of a traced run come to these programs, and it went so
abbrev pub trace_of : Outside → (Texts → Result Loaded Refusal) → Texts → Tracing → Options → Status → Channels → Type 0
trace_of outside loaded texts tracing options status grown = TraceDoes outside (loaded texts) texts tracing options status grown

-- the base of a word
abbrev pub base_for : words_base.Base → Base
base_for words_bases.User = bases.User
base_for words_bases.Bare = bases.Bare

-- what a command does with its files: the table of commands
abbrev pub Does : List Prelude → Change (List Text) → Outside → Said → (files : List Text) → Status → Channels → Type 0
Does preludes lines outside (bare names options) files status grown =
    run_of outside (bare_programs preludes options.dialect) (texts_of (length names) options None files) options status grown
Does preludes lines outside (run names options) files status grown =
    run_of outside (user_programs preludes options.dialect) (texts_of (length names) options None files) options status grown
Does preludes lines outside (work seed size options) files status grown =
    run_of outside (work_programs options.dialect seed size) (texts_of 0 options None files) options status grown
Does preludes lines outside (build names target format) files status grown =
    ImageDoes outside.pages (image_for preludes target.dialect (base_for target.base) files) (IsFile format) status grown
Does preludes lines outside (list names target) files status grown =
    ImageDoes outside.pages (image_for preludes target.dialect (base_for target.base) files) IsListing status grown
Does preludes lines outside (source_listing names target) files status grown =
    ImageDoes outside.pages (sources_image target.dialect (base_for target.base) files) (IsSourceListing target.dialect (base_for target.base) files) status grown
Does preludes lines outside (check names target system) files status grown =
    let sources = joined_files preludes files in
    CheckDoes outside.pages target.dialect (is_bare (base_for target.base)) (found_of target.dialect (base_for target.base) names sources) (titles_of preludes (checked_names names system)) sources status grown
Does preludes lines outside (console names linked script options) files status grown =
    session_of outside (session_programs preludes options.dialect linked) (texts_of (length names) options (Some script) files) options status grown
Does preludes lines outside (debug names linked prompts options) files status grown =
    let texts = texts_of (length names) options None files in
    DebugDoes outside lines (session_programs preludes options.dialect linked texts) (IsLegend options.dialect (base_for linked) preludes names texts.programs) texts prompts options status grown
Does preludes lines outside (trace names linked tracing options) files status grown =
    trace_of outside (session_programs preludes options.dialect linked) (texts_of (length names) options None files) tracing options status grown
Does preludes lines outside (vectors request) files status grown = VectorsDo outside.pages request status grown
Does preludes lines outside (save names linked options) files status grown =
    let texts = texts_of (length names) options None files in SaveDoes outside (session_programs preludes options.dialect linked texts) texts options status grown
Does preludes lines outside (resume name options) files status grown = ResumeDoes outside files options status grown
Does preludes lines outside (jobs names options) files status grown = jobs_of preludes outside (jobs_texts_of (length names) options files) options status grown
Does preludes lines outside about files status grown =
    (text : Text) × (status ≡ Done) × (grown ≡ only channel.Out text) × outside.pages.same

-- The answer that a command is to give, and what it is to write: a read ended it, or it has done its work with what was read.
abbrev pub CommandComes : Around → Said → Status → Channels → Type 0
CommandComes seen said status grown =
    (WantedEnds seen.files (wanted_of said) status × (grown ≡ refusal_growth status) × seen.pages.same)
    ⊎ ((files : List Text) × ReadsWanted seen.files.before.told (wanted_of said) (Ok files) × Does seen.preludes seen.lines (outside_of seen) said files status grown)

-- The same with the files of macros, which are read first and stand before each of its sources.
abbrev pub AskedComes : Around → Asked → Status → Channels → Type 0
AskedComes seen asked status grown =
    (ReadEnds seen.files (of_macros asked.macros) status × (grown ≡ refusal_growth status) × seen.pages.same)
    ⊎ ((texts : List Text) × Reads seen.files.before.told (of_macros asked.macros) (Ok texts) × CommandComes (with_preludes (preludes_of asked.macros texts) seen) asked.said status grown)

-- the same for any words: those that aren't plain are refused
abbrev pub WordsCome : Around → (words : List Text) → Status → Channels → Type 0
WordsCome seen words status grown =
    MatchOption (command_of words) ((status ≡ Usage) × (grown ≡ refusal_growth Usage) × seen.pages.same) (λ asked. AskedComes seen asked status grown)

-- A command has its answer: an answer and a growth of the channels are meant by the table, and these it has given and written, but for a write that failed.
pub record Carries (seen : Around) (said : Said) (result : Status) : Type 0 where
  pub meant : Status
  pub grown : Channels
  pub comes : CommandComes seen said meant grown
  pub ends : Ends seen.sink meant grown result

-- the same with the files of macros
pub record CarriesAsked (seen : Around) (asked : Asked) (result : Status) : Type 0 where
  pub meant : Status
  pub grown : Channels
  pub comes : AskedComes seen asked meant grown
  pub ends : Ends seen.sink meant grown result

-- the same for any words
pub record Comes (seen : Around) (words : List Text) (result : Status) : Type 0 where
  pub meant : Status
  pub grown : Channels
  pub comes : WordsCome seen words meant grown
  pub ends : Ends seen.sink meant grown result

-- the words of a session with a debugger
abbrev pub is_debug : Said → Bool
is_debug (debug names linked prompts options) = true
is_debug _ = false

abbrev pub asks_debug : Option Asked → Bool
asks_debug (Some asked) = is_debug asked.said
asks_debug None = false
