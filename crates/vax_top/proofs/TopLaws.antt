-- What a command comes to, from what its parts did, and which answers that allows.
use Rattle.std.proofs.Common.{◌≡◌, ◌⊎◌, ◌++◌, inl, inr, Bool, true, List, [], ◌∷◌, length, Option, None, Some, is_some, IfSome, MatchOption, Result, Ok, Err, refl, sym, ap, subst, ◌∙◌}
use Rattle.vax_outside.specs.Blocks.{BlockFile}
use Rattle.vax_outside.specs.Channels.{Channels, Grew, only}
use Rattle.vax_outside.specs.declared.traits.Chan.TheVariants as channel
use Rattle.vax_outside.specs.Directory.{Directory}
use Rattle.vax_outside.specs.declared.traits.FilesFault.{FilesFault}
use Rattle.vax_outside.specs.declared.traits.FilesFault.TheVariants as faults
use Rattle.vax_prelude.specs.Preludes.{Prelude, Title, preludes_of, titles_of}
use Rattle.vax_space.specs.declared.Area.{Area}
use Rattle.vax_image.specs.Start.{Start}
use Rattle.vax_image.specs.declared.Image.{Image}
use Rattle.vax_asm_listing.specs.Listed as listed
use Rattle.vax_flat.specs.Parts.{machine_at}
use Rattle.vax_machine.specs.Paged.{Why, ByEnding, BySteps, ByTurns}
use Rattle.vax_program.specs.Program.{Refusal, Source, Link as FromLinker, InImage, InPrelude}
use Rattle.vax_cli.specs.Words.{Text, Options, Said, bare, run, build, list, listing, check, console, debug, trace, save, resume, jobs, work, vectors, about, command_of, Asked}
use Rattle.vax_cli.specs.declared.command.Base as words_base
use Rattle.vax_cli.specs.declared.command.Format.{Format}
use Rattle.vax_cli.specs.declared.command.Strictness.{Strictness}
use Rattle.vax_cli.specs.declared.command.Strictness.TheVariants.{Off}
use Rattle.vax_cli.specs.declared.command.Target.{Target}
use Rattle.vax_dialect.specs.declared.Dialect.{Dialect}
use Rattle.vax_command.specs.Answer.{status_of}
use Rattle.vax_command.specs.Around.{Around, Change, HasFailed, Outside, around, beside, outside_of, untouched, with_preludes}
use Rattle.vax_command.specs.Ends.{Admits, Ends, EndsSo, IsAdmitted}
use Rattle.vax_command.specs.Loaded.{Loaded}
use Rattle.vax_command.specs.Running.{IsFaulty, IsRunning, LacksMemory, Ran, RunsSo}
use Rattle.vax_top.specs.Checked.{IsTold, checked_names, found_of, is_bare}
use Rattle.vax_top.specs.Loaded.{IsRefused, image_for, joined_files, refused_as, sources_image}
use Rattle.vax_command.specs.Course.{Course, WentOnFrom}
use Rattle.vax_command.specs.Reading.{EndsBy, HasTexts, ReadEnds, Reads, Texts, of_macros, of_options, of_programs, texts_of}
use Rattle.vax_command.specs.Resuming.{HasResumed, IsResuming, IsUnfit, ResumesSo}
use Rattle.vax_command.specs.Saving.{AnswersSave, HasSavedRun, IsSaving, SaveWentFrom, SavesSo}
use Rattle.vax_command.specs.Wanting.{HasSaved, ReadsWanted, Wanted, WantedEnds, plain}
use Rattle.vax_command.specs.Status.{refusal, refusal_growth}
use Rattle.vax_top.specs.Resumed.{ResumeDoes}
use Rattle.vax_top.specs.Top.{AskedComes, Carries, CarriesAsked, Comes, CommandComes, DebugDoes, Does, ImageDoes, IsAbout, IsDebugOf, IsFile, IsLegend, IsListing, IsSourceListing, IsRunOf, IsSessionOf, IsWriting, IsSavedOf, IsUnread, RanOf, RunDoes, SaveDoes, SessionDoes, TogetherDo, TraceDoes, base_for, reads_of, run_of, saved_of, session_of, session_programs, wanted_of}
use Rattle.vax_top.specs.Vectors.{VectorsDo}
use Rattle.vax_top.proofs.VectorLaws.{vectors_kept}
use Rattle.vax_cli.specs.declared.vectors.VectorRequest.{VectorRequest}
use Rattle.vax_command.specs.Setup.{Setup}
use Rattle.vax_command.specs.Tracing.{Traced, TracesSo, answer_of}
use Rattle.vax_command.specs.Tracing as traced_run
use Rattle.vax_cli.specs.Tracing.{Tracing}
use Rattle.vax_command.specs.Went as plain_run
use Rattle.vax_command.specs.Went.{IsCut, IsRunAnswer, WentFrom}
use Rattle.vax_command.specs.declared.status.Status.{Status}
use Rattle.vax_command.specs.declared.status.Status.TheVariants.{Done, Usage, Missing, Large, Refused, Macros, Link, Schedule, Image as BadImage, Turns, PageFault, ReadFault, WriteFault, NoMemory, Saved, Order, NotHalted, Unsuccessful, Unfinished, LineFault, Told}
use Rattle.vax_cli.specs.Jobs.{JobsOptions}
use Rattle.vax_command.specs.Jobs.{IsJobsAnswer, JobsRunSo, JobsSetup, JobsTexts, JobsWent, Users, jobs_texts_of, order_text}
use Rattle.vax_top.specs.Together.{together_for}
use Rattle.vax_command.proofs.JobsLaws.{jobs_answers}
use Rattle.vax_command.proofs.LoadLaws.{ends_more, reads_none, rose_from}
use Rattle.vax_outside.specs.declared.faults.Failures.{Failures}
use Rattle.vax_command.proofs.RunLaws.{answers}
use Rattle.vax_word.specs.declared.Core.{Core}
use Rattle.vax_top.proofs.SourceLaws.{sources_built}
use Rattle.vax_command.specs.Holding.{Held, HeldSo, IsHolding}
use Rattle.vax_command.specs.SessionWent.{Opening, SessionFrom}
use Rattle.vax_debug_names.specs.declared.Legend.{Legend}
use Rattle.vax_command_debug.specs.SessionEnd.{SessionEnd}
use Rattle.vax_command_debug.specs.SessionEnd.TheVariants as end
use Rattle.vax_command_debug.specs.Course as debug_course
use Rattle.vax_command_debug.specs.Course.{Causes}
use Rattle.vax_command_debug.proofs.CauseLaws.{session_ends}
use Rattle.vax_command_debug.specs.Debugging.{Debugged, DebugsSo, Given, IsDebugging, given, terms_of}

-- what running the programs of files came to

module _ (outside : Outside) (loaded : Result Loaded Refusal) (input schedule : Text) (options : Options) (result : Status) where
  pub files_refused : (status : Status) → IsRefused loaded status ⊎ (status ≡ NoMemory) → outside.pages.same → Ends outside.sink status (refusal_growth status) result → RanOf outside loaded input schedule options result
  files_refused status (inl r) k ends = record { meant = status; grown = refusal_growth status; so = inr (inl (record { refused = r; wrote = refl; keeps = k })); ends = ends }
  files_refused status (inr e) k ends = record { meant = status; grown = refusal_growth status; so = inl (e, ap refusal_growth e, k); ends = ends }

  as_loaded : (program : Loaded) (status : Status) (grown : Channels) → loaded ≡ Ok program → IsRunning outside program input schedule options status grown → IsRunOf outside loaded input schedule options status grown
  as_loaded program status grown is (inl e) = inl e
  as_loaded program status grown is (inr r) = inr (inr (program, is, r))

  pub files_ran : (program : Loaded) → loaded ≡ Ok program → Ran outside program input schedule options result → RanOf outside loaded input schedule options result
  files_ran program is r = record { meant = r.meant; grown = r.grown; so = as_loaded program r.meant r.grown is r.so; ends = r.ends }

-- what a session on the programs of files came to

abbrev pub HeldOf : Outside → Result Loaded Refusal → Texts → Options → Status → Type 0
HeldOf outside loaded texts options result = EndsSo outside.sink (IsSessionOf outside loaded texts options) result

module _ (outside : Outside) (loaded : Result Loaded Refusal) (texts : Texts) (options : Options) (result : Status) where
  pub session_refused : (status : Status) → IsRefused loaded status ⊎ (status ≡ NoMemory) → outside.pages.same → Ends outside.sink status (refusal_growth status) result → HeldOf outside loaded texts options result
  session_refused status (inl r) k ends = record { meant = status; grown = refusal_growth status; so = inr (inl (record { refused = r; wrote = refl; keeps = k })); ends = ends }
  session_refused status (inr e) k ends = record { meant = status; grown = refusal_growth status; so = inl (e, ap refusal_growth e, k); ends = ends }

  as_held : (program : Loaded) (status : Status) (grown : Channels) → loaded ≡ Ok program → IsHolding outside program texts.input texts.schedule texts.script options status grown → IsSessionOf outside loaded texts options status grown
  as_held program status grown is (inl e) = inl e
  as_held program status grown is (inr r) = inr (inr (program, is, r))

  pub session_held : (program : Loaded) → loaded ≡ Ok program → Held outside program texts.input texts.schedule texts.script options result → HeldOf outside loaded texts options result
  session_held program is r = record { meant = r.meant; grown = r.grown; so = as_held program r.meant r.grown is r.so; ends = r.ends }

-- what a session with a debugger came to

abbrev pub DebuggedOf : Outside → Change (List Text) → Result Loaded Refusal → (Tells : Legend → Type 0) → Texts → Bool → Options → Status → Type 0
DebuggedOf outside lines loaded Tells texts prompts options result = EndsSo outside.sink (IsDebugOf outside lines loaded Tells texts prompts options) result

module _ (outside : Outside) (lines : Change (List Text)) (loaded : Result Loaded Refusal) (Tells : Legend → Type 0) (texts : Texts) (prompts : Bool) (options : Options) (result : Status) where
  pub debug_refused : (status : Status) → IsRefused loaded status ⊎ (status ≡ NoMemory) → outside.pages.same → lines.same → Ends outside.sink status (refusal_growth status) result → DebuggedOf outside lines loaded Tells texts prompts options result
  debug_refused status (inl r) k l ends = record { meant = status; grown = refusal_growth status; so = inr (inl (record { refused = r; wrote = refl; keeps = k }, l)); ends = ends }
  debug_refused status (inr e) k l ends = record { meant = status; grown = refusal_growth status; so = inl (e, ap refusal_growth e, k); ends = ends }

  as_debugged : (program : Loaded) (legend : Legend) (status : Status) (grown : Channels) → loaded ≡ Ok program → Tells legend → IsDebugging outside lines program (given texts.input texts.schedule legend prompts) options status grown
      → IsDebugOf outside lines loaded Tells texts prompts options status grown
  as_debugged program legend status grown is named (inl e) = inl e.0
  as_debugged program legend status grown is named (inr d) = inr (inr (program, is, legend, named, d))

  pub debug_held : (program : Loaded) (legend : Legend) → loaded ≡ Ok program → Tells legend → Debugged outside lines program (given texts.input texts.schedule legend prompts) options result → DebuggedOf outside lines loaded Tells texts prompts options result
  debug_held program legend is named r = record { meant = r.meant; grown = r.grown; so = as_debugged program legend r.meant r.grown is named r.so; ends = r.ends }

-- what a run that is saved came to

abbrev pub SavedOf : Outside → Result Loaded Refusal → Texts → Options → Status → Type 0
SavedOf outside loaded texts options result = EndsSo outside.sink (IsSavedOf outside loaded texts options) result

module _ (outside : Outside) (loaded : Result Loaded Refusal) (texts : Texts) (options : Options) (result : Status) where
  pub save_refused : (status : Status) → IsRefused loaded status ⊎ (status ≡ NoMemory) → outside.pages.same → Ends outside.sink status (refusal_growth status) result → SavedOf outside loaded texts options result
  save_refused status (inl r) k ends = record { meant = status; grown = refusal_growth status; so = inr (inl (record { refused = r; wrote = refl; keeps = k })); ends = ends }
  save_refused status (inr e) k ends = record { meant = status; grown = refusal_growth status; so = inl (e, ap refusal_growth e, k); ends = ends }

  as_saved : (program : Loaded) (status : Status) (grown : Channels) → loaded ≡ Ok program → IsSaving outside program texts.input texts.schedule options status grown → IsSavedOf outside loaded texts options status grown
  as_saved program status grown is (inl e) = inl e
  as_saved program status grown is (inr r) = inr (inr (program, is, r))

  pub run_saved : (program : Loaded) → loaded ≡ Ok program → HasSavedRun outside program texts.input texts.schedule options result → SavedOf outside loaded texts options result
  run_saved program is r = record { meant = r.meant; grown = r.grown; so = as_saved program r.meant r.grown is r.so; ends = r.ends }

module _ (seen : Around) where
  pub no_memory : (said : Said) (status : Status) (grown : Channels) → LacksMemory seen.pages status grown → CommandComes seen said status grown
  no_memory said status grown e = let is : status ≡ NoMemory = e.0 in rw is (inl (tt, e.1, e.2))

  run_comes : (said : Said) (names : List Text) (options : Options) (script : Option Text) (loaded : Texts → Result Loaded Refusal) (texts : Texts) (status : Status) (grown : Channels) → wanted_of said ≡ plain (of_programs names ++ of_options options script)
      → ((files : List Text) → run_of (outside_of seen) loaded (texts_of (length names) options script files) options status grown → Does seen.preludes seen.lines (outside_of seen) said files status grown)
      → HasTexts seen.files.before.told names options script texts → IsRunOf (outside_of seen) (loaded texts) texts.input texts.schedule options status grown → CommandComes seen said status grown
  run_comes said names options script loaded texts status grown is does h (inl e) = no_memory said status grown e
  run_comes said names options script loaded texts status grown is does h (inr d) = inr (h.files, subst (λ (w : Wanted). ReadsWanted seen.files.before.told w (Ok h.files)) (sym is) h.read, does h.files (subst (λ (t : Texts). run_of (outside_of seen) loaded t options status grown) (sym h.are) d))

  module _ (result : Status) where
    -- reading the files ended the call
    pub unread : (said : Said) (status : Status) → WantedEnds seen.files (wanted_of said) status → seen.pages.same → Ends seen.sink status (refusal_growth status) result → Carries seen said result
    unread said status e k ends = record { meant = status; grown = refusal_growth status; comes = inl (e, refl, k); ends = ends }

    -- a program was run, or refused
    pub run_carries : (said : Said) (names : List Text) (options : Options) (script : Option Text) (loaded : Texts → Result Loaded Refusal) (texts : Texts) → wanted_of said ≡ plain (of_programs names ++ of_options options script)
        → ((files : List Text) (status : Status) (grown : Channels) → run_of (outside_of seen) loaded (texts_of (length names) options script files) options status grown → Does seen.preludes seen.lines (outside_of seen) said files status grown)
        → HasTexts seen.files.before.told names options script texts → RanOf (outside_of seen) (loaded texts) texts.input texts.schedule options result → Carries seen said result
    run_carries said names options script loaded texts is does h r = record {
      meant = r.meant;
      grown = r.grown;
      comes = run_comes said names options script loaded texts r.meant r.grown is (λ files. does files r.meant r.grown) h r.so;
      ends = r.ends;
    }

    -- a session was held, or refused
    session_comes : (names : List Text) (linked : words_base.Base) (script : Text) (options : Options) (texts : Texts) (status : Status) (grown : Channels) → HasTexts seen.files.before.told names options (Some script) texts → IsSessionOf (outside_of seen) (session_programs seen.preludes options.dialect linked texts) texts options status grown
        → CommandComes seen (console names linked script options) status grown
    session_comes names linked script options texts status grown h (inl e) = no_memory (console names linked script options) status grown e
    session_comes names linked script options texts status grown h (inr d) = inr (h.files, h.read, subst (λ (t : Texts). session_of (outside_of seen) (session_programs seen.preludes options.dialect linked) t options status grown) (sym h.are) d)

    pub session_carries : (names : List Text) (linked : words_base.Base) (script : Text) (options : Options) (texts : Texts) → HasTexts seen.files.before.told names options (Some script) texts → HeldOf (outside_of seen) (session_programs seen.preludes options.dialect linked texts) texts options result
        → Carries seen (console names linked script options) result
    session_carries names linked script options texts h r = record { meant = r.meant; grown = r.grown; comes = session_comes names linked script options texts r.meant r.grown h r.so; ends = r.ends }

    -- a session with a debugger was held, or refused
    debug_comes : (names : List Text) (linked : words_base.Base) (prompts : Bool) (options : Options) (texts : Texts) (status : Status) (grown : Channels) → HasTexts seen.files.before.told names options None texts
        → IsDebugOf (outside_of seen) seen.lines (session_programs seen.preludes options.dialect linked texts) (IsLegend options.dialect (base_for linked) seen.preludes names texts.programs) texts prompts options status grown
        → CommandComes seen (debug names linked prompts options) status grown
    debug_comes names linked prompts options texts status grown h (inl e) = no_memory (debug names linked prompts options) status grown e
    debug_comes names linked prompts options texts status grown h (inr d) =
        inr (h.files, h.read, subst (λ (t : Texts). DebugDoes (outside_of seen) seen.lines (session_programs seen.preludes options.dialect linked t) (IsLegend options.dialect (base_for linked) seen.preludes names t.programs) t prompts options status grown) (sym h.are) d)

    pub debug_carries : (names : List Text) (linked : words_base.Base) (prompts : Bool) (options : Options) (texts : Texts) → HasTexts seen.files.before.told names options None texts
        → DebuggedOf (outside_of seen) seen.lines (session_programs seen.preludes options.dialect linked texts) (IsLegend options.dialect (base_for linked) seen.preludes names texts.programs) texts prompts options result
        → Carries seen (debug names linked prompts options) result
    debug_carries names linked prompts options texts h r = record { meant = r.meant; grown = r.grown; comes = debug_comes names linked prompts options texts r.meant r.grown h r.so; ends = r.ends }

    -- a run was saved, or refused
    save_comes : (names : List Text) (linked : words_base.Base) (options : Options) (texts : Texts) (status : Status) (grown : Channels) → HasTexts seen.files.before.told names options None texts → IsSavedOf (outside_of seen) (session_programs seen.preludes options.dialect linked texts) texts options status grown
        → CommandComes seen (save names linked options) status grown
    save_comes names linked options texts status grown h (inl e) = no_memory (save names linked options) status grown e
    save_comes names linked options texts status grown h (inr d) = inr (h.files, h.read, subst (λ (t : Texts). SaveDoes (outside_of seen) (session_programs seen.preludes options.dialect linked t) t options status grown) (sym h.are) d)

    pub save_carries : (names : List Text) (linked : words_base.Base) (options : Options) (texts : Texts) → HasTexts seen.files.before.told names options None texts → SavedOf (outside_of seen) (session_programs seen.preludes options.dialect linked texts) texts options result
        → Carries seen (save names linked options) result
    save_carries names linked options texts h r = record { meant = r.meant; grown = r.grown; comes = save_comes names linked options texts r.meant r.grown h r.so; ends = r.ends }

    -- a run went on from a saved state, or was refused
    resume_comes : (name : Text) (options : Options) (bytes : Text) (texts : Texts) (status : Status) (grown : Channels) → HasSaved seen.files.before.told name options bytes texts → IsResuming (outside_of seen) bytes texts.schedule options status grown
        → CommandComes seen (resume name options) status grown
    resume_comes name options bytes texts status grown h (inl e) = no_memory (resume name options) status grown e
    resume_comes name options bytes texts status grown h (inr d) = inr (bytes ∷ h.files, h.read, subst (λ (t : Texts). ResumesSo (outside_of seen) bytes t.schedule options status grown) (sym h.are) d)

    pub resume_carries : (name : Text) (options : Options) (bytes : Text) (texts : Texts) → HasSaved seen.files.before.told name options bytes texts → HasResumed (outside_of seen) bytes texts.schedule options result → Carries seen (resume name options) result
    resume_carries name options bytes texts h r = record { meant = r.meant; grown = r.grown; comes = resume_comes name options bytes texts r.meant r.grown h r.so; ends = r.ends }

    -- an image was written, or refused
    abbrev pub Written : Result Image Refusal → (Image → Text → Type 0) → Type 0
    Written built Writes = EndsSo seen.sink (IsWriting seen.pages built Writes) result

    image_comes : (said : Said) (files : List Text) (built : Result Image Refusal) (Writes : Image → Text → Type 0) (status : Status) (grown : Channels) → (ImageDoes seen.pages built Writes status grown → Does seen.preludes seen.lines (outside_of seen) said files status grown) → saved_of said ≡ None → Reads seen.files.before.told (reads_of said) (Ok files) → IsWriting seen.pages built Writes status grown
        → CommandComes seen said status grown
    image_comes said files built Writes status grown does none h (inl e) = no_memory said status grown e
    image_comes said files built Writes status grown does none h (inr d) = inr (files, subst (λ (o : Option Text). ReadsWanted seen.files.before.told (record { saved = o; names = reads_of said }) (Ok files)) (sym none) h, does d)

    pub image_carries : (said : Said) (files : List Text) (built : Result Image Refusal) (Writes : Image → Text → Type 0) → ((status : Status) (grown : Channels) → ImageDoes seen.pages built Writes status grown → Does seen.preludes seen.lines (outside_of seen) said files status grown) → saved_of said ≡ None → Reads seen.files.before.told (reads_of said) (Ok files) → Written built Writes
        → Carries seen said result
    image_carries said files built Writes does none h b = record { meant = b.meant; grown = b.grown; comes = image_comes said files built Writes b.meant b.grown (does b.meant b.grown) none h b.so; ends = b.ends }

    pub image_refused : (built : Result Image Refusal) (Writes : Image → Text → Type 0) (status : Status) → IsRefused built status ⊎ (status ≡ NoMemory) → seen.pages.same → Ends seen.sink status (refusal_growth status) result → Written built Writes
    image_refused built Writes status (inl r) k ends = record { meant = status; grown = refusal_growth status; so = inr (inl (record { refused = r; wrote = refl; keeps = k })); ends = ends }
    image_refused built Writes status (inr e) k ends = record { meant = status; grown = refusal_growth status; so = inl (e, ap refusal_growth e, k); ends = ends }

    -- an image, its instructions, or the listing of sources was written, or these were refused
    module _ (names : List Text) (target : Target) (files : List Text) (h : Reads seen.files.before.told (of_programs names) (Ok files)) (k : seen.pages.same) where
      pub image_built : (format : Format) (image : Image) (bytes : Text) → image_for seen.preludes target.dialect (base_for target.base) files ≡ Ok image → IsFile format image bytes → Ends seen.sink Done (only channel.Out bytes) result → Carries seen (build names target format) result
      image_built format image bytes is writes ends = record {
        meant = Done;
        grown = only channel.Out bytes;
        comes = inr (files, h, inr (record { image = image; is_built = is; text = bytes; writes = writes; answer = refl; wrote = refl }, k));
        ends = ends;
      }

      pub image_listed : (image : Image) (text : Text) → image_for seen.preludes target.dialect (base_for target.base) files ≡ Ok image → IsListing image text → Ends seen.sink Done (only channel.Out text) result → Carries seen (list names target) result
      image_listed image text is writes ends = record {
        meant = Done;
        grown = only channel.Out text;
        comes = inr (files, h, inr (record { image = image; is_built = is; text = text; writes = writes; answer = refl; wrote = refl }, k));
        ends = ends;
      }

      pub sources_listed : (text : Text) → listed.IsListing target.dialect (base_for target.base) files text → Ends seen.sink Done (only channel.Out text) result → Carries seen (listing names target) result
      sources_listed text l ends = record {
        meant = Done;
        grown = only channel.Out text;
        comes = inr (files, h, inr (record { image = l.image; is_built = sources_built target.dialect (base_for target.base) files text l; text = text; writes = l; answer = refl; wrote = refl }, k));
        ends = ends;
      }

      pub sources_refused : (status : Status) → IsRefused (sources_image target.dialect (base_for target.base) files) status ⊎ (status ≡ NoMemory) → Ends seen.sink status (refusal_growth status) result → Carries seen (listing names target) result
      sources_refused status (inl r) ends = record { meant = status; grown = refusal_growth status; comes = inr (files, h, inl (record { refused = r; wrote = refl; keeps = k })); ends = ends }
      sources_refused status (inr e) ends = record { meant = status; grown = refusal_growth status; comes = no_memory (listing names target) status (refusal_growth status) (e, ap refusal_growth e, k); ends = ends }

    -- a text about the program was shown
    about_comes : (status : Status) (grown : Channels) → IsAbout status grown → seen.pages.same → CommandComes seen about status grown
    about_comes status grown (inl e) k = no_memory about status grown (e.0, e.1, k)
    about_comes status grown (inr d) k = inr ([], reads_none seen.files.before.told, (d.0, d.1, d.2, k))

    pub about_carries : EndsSo seen.sink IsAbout result → seen.pages.same → Carries seen about result
    about_carries t k = record { meant = t.meant; grown = t.grown; comes = about_comes t.meant t.grown t.so k; ends = t.ends }

    -- vectors were written
    vectors_comes : (request : VectorRequest) (status : Status) (grown : Channels) → VectorsDo untouched request status grown → seen.pages.same → CommandComes seen (vectors request) status grown
    vectors_comes request status grown d k = inr ([], reads_none seen.files.before.told, vectors_kept seen.pages request status grown k d)

    pub vectors_carries : (request : VectorRequest) → EndsSo seen.sink (VectorsDo untouched request) result → seen.pages.same → Carries seen (vectors request) result
    vectors_carries request t k = record { meant = t.meant; grown = t.grown; comes = vectors_comes request t.meant t.grown t.so k; ends = t.ends }

-- what `build`, `list` and `listing` come to, beside a page file that they leave alone

does_beside : (pages : Change BlockFile) (built : Result Image Refusal) (Writes : Image → Text → Type 0) (status : Status) (grown : Channels) → pages.same → ImageDoes untouched built Writes status grown → ImageDoes pages built Writes status grown
does_beside pages built Writes status grown k (inl r) = inl (record { refused = r.refused; wrote = r.wrote; keeps = k })
does_beside pages built Writes status grown k (inr w) = inr (w.0, k)

module _ (preludes : List Prelude) (files : Change Directory) (sink : Change Channels) (pages : Change BlockFile) (names : List Text) (target : Target) (result : Status) where
  build_beside : (format : Format) (status : Status) (grown : Channels) → pages.same → CommandComes (with_preludes preludes (around files sink untouched)) (build names target format) status grown → CommandComes (with_preludes preludes (around files sink pages)) (build names target format) status grown
  build_beside format status grown k (inl e) = inl (e.0, e.1, k)
  build_beside format status grown k (inr d) = inr (d.0, d.1, does_beside pages (image_for preludes target.dialect (base_for target.base) d.0) (IsFile format) status grown k d.2)

  pub build_kept : (format : Format) → pages.same → Carries (with_preludes preludes (around files sink untouched)) (build names target format) result → Carries (with_preludes preludes (around files sink pages)) (build names target format) result
  build_kept format k c = record { meant = c.meant; grown = c.grown; comes = build_beside format c.meant c.grown k c.comes; ends = c.ends }

  list_beside : (status : Status) (grown : Channels) → pages.same → CommandComes (with_preludes preludes (around files sink untouched)) (list names target) status grown → CommandComes (with_preludes preludes (around files sink pages)) (list names target) status grown
  list_beside status grown k (inl e) = inl (e.0, e.1, k)
  list_beside status grown k (inr d) = inr (d.0, d.1, does_beside pages (image_for preludes target.dialect (base_for target.base) d.0) IsListing status grown k d.2)

  pub list_kept : pages.same → Carries (with_preludes preludes (around files sink untouched)) (list names target) result → Carries (with_preludes preludes (around files sink pages)) (list names target) result
  list_kept k c = record { meant = c.meant; grown = c.grown; comes = list_beside c.meant c.grown k c.comes; ends = c.ends }

  listing_beside : (status : Status) (grown : Channels) → pages.same → CommandComes (around files sink untouched) (listing names target) status grown → CommandComes (with_preludes preludes (around files sink pages)) (listing names target) status grown
  listing_beside status grown k (inl e) = inl (e.0, e.1, k)
  listing_beside status grown k (inr d) = inr (d.0, d.1, does_beside pages (sources_image target.dialect (base_for target.base) d.0) (IsSourceListing target.dialect (base_for target.base) d.0) status grown k d.2)

  pub listing_kept : pages.same → Carries (around files sink untouched) (listing names target) result → Carries (with_preludes preludes (around files sink pages)) (listing names target) result
  listing_kept k c = record { meant = c.meant; grown = c.grown; comes = listing_beside c.meant c.grown k c.comes; ends = c.ends }

-- these files can't be read
abbrev Unread : Around → Wanted → Text × FilesFault → Type 0
Unread seen wanted why = ReadsWanted seen.files.before.told wanted (Err why)

-- Which answers a command may give whose files can't be read for such causes, and what it writes where it refuses.
abbrev Allowed : Around → (Text × FilesFault → Type 0) → Channels → Status → Type 0
Allowed seen names grown Done = Unit {0}
Allowed seen names grown Usage = ⊥
Allowed seen names grown (Missing name) = names (name, faults.Missing) × (grown ≡ refusal_growth (Missing name))
Allowed seen names grown (Large name) = names (name, faults.Large) × (grown ≡ refusal_growth (Large name))
Allowed seen names grown (Refused file line kind) = grown ≡ refusal_growth (Refused file line kind)
Allowed seen names grown (Macros file line kind) = grown ≡ refusal_growth (Macros file line kind)
Allowed seen names grown (Link kind name place) = grown ≡ refusal_growth (Link kind name place)
Allowed seen names grown (Schedule line kind) = grown ≡ refusal_growth (Schedule line kind)
Allowed seen names grown (BadImage place kind) = grown ≡ refusal_growth (BadImage place kind)
Allowed seen names grown Turns = Unit {0}
Allowed seen names grown PageFault = HasFailed seen.pages
Allowed seen names grown ReadFault = HasFailed seen.files × (grown ≡ refusal_growth ReadFault)
Allowed seen names grown WriteFault = ⊥
Allowed seen names grown NoMemory = grown ≡ refusal_growth NoMemory
Allowed seen names grown (Order line kind) = grown ≡ refusal_growth (Order line kind)
Allowed seen names grown (Saved place kind) = grown ≡ refusal_growth (Saved place kind)
Allowed seen names grown (Told which) = Unit {0}
Allowed seen names grown NotHalted = Unit {0}
Allowed seen names grown Unsuccessful = Unit {0}
Allowed seen names grown Unfinished = Unit {0}
Allowed seen names grown LineFault = HasFailed seen.lines

module _ (seen : Around) (names : Text × FilesFault → Type 0) (grown : Channels) where
  read_allowed : (status : Status) → EndsBy (HasFailed seen.files) names status → grown ≡ refusal_growth status → Allowed seen names grown status
  read_allowed Done e g = absurd e
  read_allowed Usage e g = absurd e
  read_allowed (Missing name) e g = (e, g)
  read_allowed (Large name) e g = (e, g)
  read_allowed (Refused file line kind) e g = absurd e
  read_allowed (Macros file line kind) e g = absurd e
  read_allowed (Link kind name place) e g = absurd e
  read_allowed (Schedule line kind) e g = absurd e
  read_allowed (BadImage place kind) e g = absurd e
  read_allowed Turns e g = absurd e
  read_allowed PageFault e g = absurd e
  read_allowed ReadFault e g = (e, g)
  read_allowed WriteFault e g = absurd e
  read_allowed NoMemory e g = g
  read_allowed (Saved place kind) e g = absurd e
  read_allowed (Order line kind) e g = absurd e
  read_allowed (Told which) e g = absurd e
  read_allowed NotHalted e g = absurd e
  read_allowed Unsuccessful e g = absurd e
  read_allowed Unfinished e g = absurd e
  read_allowed LineFault e g = absurd e

  vectors_allowed : (request : VectorRequest) (status : Status) → VectorsDo seen.pages request status grown → Allowed seen names grown status
  vectors_allowed request status (inl d) = subst (Allowed seen names grown) (sym d.answers) tt
  vectors_allowed request status (inr d) = subst (Allowed seen names grown) (sym d.answers) tt

  refusal_allowed : (why : Refusal) → grown ≡ refusal_growth (refused_as why) → Allowed seen names grown (refused_as why)
  refusal_allowed (Source file line kind) g = g
  refusal_allowed (FromLinker kind name address) g = g
  refusal_allowed (InImage place kind) g = g
  refusal_allowed (InPrelude file line kind) g = g

  refused_allowed : {X : Type 0} (loaded : Result X Refusal) (status : Status) → IsRefused loaded status → grown ≡ refusal_growth status → Allowed seen names grown status
  refused_allowed loaded status r g = subst (Allowed seen names grown) (sym r.answer) (refusal_allowed r.refusal (g ∙ ap refusal_growth r.answer))

  run_allowed : (strict : Strictness) (status : Status) → IsRunAnswer strict (HasFailed seen.pages) status → Allowed seen names grown status
  run_allowed strict Done h = tt
  run_allowed strict Usage h = absurd h
  run_allowed strict (Missing name) h = absurd h
  run_allowed strict (Large name) h = absurd h
  run_allowed strict (Refused file line kind) h = absurd h
  run_allowed strict (Macros file line kind) h = absurd h
  run_allowed strict (Link kind name place) h = absurd h
  run_allowed strict (Schedule line kind) h = absurd h
  run_allowed strict (BadImage place kind) h = absurd h
  run_allowed strict Turns h = tt
  run_allowed strict PageFault h = h
  run_allowed strict ReadFault h = absurd h
  run_allowed strict WriteFault h = absurd h
  run_allowed strict NoMemory h = absurd h
  run_allowed strict (Saved place kind) h = absurd h
  run_allowed strict (Order line kind) h = absurd h
  run_allowed strict (Told which) h = absurd h
  run_allowed strict NotHalted h = tt
  run_allowed strict Unsuccessful h = tt
  run_allowed strict Unfinished h = absurd h
  run_allowed strict LineFault h = absurd h

  why_allowed : (strict : Strictness) (core : Core) (why : Why) → Allowed seen names grown (status_of strict core why)
  why_allowed strict core why = run_allowed strict (status_of strict core why) (answers (HasFailed seen.pages) strict core why)

  module _ (setup : Setup) (status : Status) where
    cut_allowed : (file : BlockFile) → HasFailed seen.pages → plain_run.IsUnread setup file (outside_of seen) status grown ⊎ IsCut setup file (outside_of seen) status grown → Allowed seen names grown status
    cut_allowed file r (inl u) = subst (Allowed seen names grown) (sym u.answer) r
    cut_allowed file r (inr u) = subst (Allowed seen names grown) (sym u.answer) r

    went_allowed : (told : Option BlockFile) → WentFrom told (outside_of seen) setup status grown → Allowed seen names grown status
    went_allowed None h = run_allowed setup.strict status h.answer
    went_allowed (Some file) (inl s) = subst (Allowed seen names grown) (sym s.answer) (why_allowed setup.strict (machine_at s.stop.at.place).core s.stop.why)
    went_allowed (Some file) (inr c) = cut_allowed file c.0 c.1

  planned_allowed : (areas : List Area) (schedule : Text) (status : Status) → IsFaulty areas schedule status → grown ≡ refusal_growth status → Allowed seen names grown status
  planned_allowed areas schedule status f g = let h : grown ≡ refusal_growth (Schedule f.0 f.1) = g ∙ ap refusal_growth f.2 in subst (Allowed seen names grown) (sym f.2) h

  runs_allowed : (program : Loaded) (input schedule : Text) (options : Options) (status : Status) → RunsSo (outside_of seen) program input schedule options status grown → Allowed seen names grown status
  runs_allowed program input schedule options status (inl m) = planned_allowed _ schedule status m.fault m.wrote
  runs_allowed program input schedule options status (inr r) = went_allowed _ status seen.pages.before.told r.went

  does_allowed : (loaded : Result Loaded Refusal) (input schedule : Text) (options : Options) (status : Status) → RunDoes (outside_of seen) loaded input schedule options status grown → Allowed seen names grown status
  does_allowed loaded input schedule options status (inl r) = refused_allowed loaded status r.refused r.wrote
  does_allowed loaded input schedule options status (inr d) = runs_allowed d.0 input schedule options status d.2

  session_allowed : (told : Option BlockFile) (o : Opening) (status : Status) → SessionFrom told (outside_of seen) o status grown → Allowed seen names grown status
  session_allowed None o status h = run_allowed Off status h
  session_allowed (Some file) o status (inl w) = subst (Allowed seen names grown) (sym w.answer) tt
  session_allowed (Some file) o status (inr (inl w)) = subst (Allowed seen names grown) (sym w.answer) tt
  session_allowed (Some file) o status (inr (inr w)) = subst (Allowed seen names grown) (sym w.1.answer) w.0

  held_allowed : (program : Loaded) (texts : Texts) (options : Options) (status : Status) → HeldSo (outside_of seen) program texts.input texts.schedule texts.script options status grown → Allowed seen names grown status
  held_allowed program texts options status (inl m) = planned_allowed _ texts.schedule status m.fault m.wrote
  held_allowed program texts options status (inr r) = session_allowed seen.pages.before.told _ status r.went

  console_allowed : (loaded : Result Loaded Refusal) (texts : Texts) (options : Options) (status : Status) → SessionDoes (outside_of seen) loaded texts options status grown → Allowed seen names grown status
  console_allowed loaded texts options status (inl r) = refused_allowed loaded status r.refused r.wrote
  console_allowed loaded texts options status (inr d) = held_allowed d.0 texts options status d.2

  ended_allowed : (e : SessionEnd) (status : Status) → status ≡ debug_course.answer_of e → Causes e (outside_of seen) seen.lines → Allowed seen names grown status
  ended_allowed end.Quit status is cause = subst (Allowed seen names grown) (sym is) tt
  ended_allowed end.Save status is cause = absurd cause
  ended_allowed end.Restart status is cause = subst (Allowed seen names grown) (sym is) tt
  ended_allowed end.Read status is cause = subst (Allowed seen names grown) (sym is) tt
  ended_allowed end.Lines status is cause = subst (Allowed seen names grown) (sym is) tt
  ended_allowed end.Turns status is cause = subst (Allowed seen names grown) (sym is) tt
  ended_allowed end.PageFault status is cause = subst (Allowed seen names grown) (sym is) cause
  ended_allowed end.WriteFault status is cause = subst (Allowed seen names grown) (sym is) tt
  ended_allowed end.LineFault status is cause = subst (Allowed seen names grown) (sym is) cause

  saved_allowed : (status : Status) → AnswersSave seen.pages Done status grown → Allowed seen names grown status
  saved_allowed status (inl is) = subst (Allowed seen names grown) (sym is) tt
  saved_allowed status (inr w) = subst (Allowed seen names grown) (sym w.1) w.0

  session_ended_allowed : (status : Status) → ((e : SessionEnd) × (status ≡ debug_course.answer_of e) × Causes e (outside_of seen) seen.lines) ⊎ AnswersSave seen.pages Done status grown → Allowed seen names grown status
  session_ended_allowed status (inl w) = ended_allowed w.0 status w.1 w.2
  session_ended_allowed status (inr w) = saved_allowed status w

  debug_went_allowed : (told : Option BlockFile) (program : Loaded) (g : Given) (options : Options) (status : Status) → debug_course.WentFrom told (outside_of seen) seen.lines (Start program.system program.user g.input) (terms_of g options) status grown → Allowed seen names grown status
  debug_went_allowed told program g options status w =
      session_ended_allowed status (session_ends (outside_of seen) seen.lines told (Start program.system program.user g.input) (terms_of g options) status grown w)

  debugs_allowed : (program : Loaded) (given : Given) (options : Options) (status : Status) → DebugsSo (outside_of seen) seen.lines program given options status grown → Allowed seen names grown status
  debugs_allowed program given options status (inl m) = let fault = m.0 in planned_allowed _ given.schedule status fault.fault fault.wrote
  debugs_allowed program given options status (inr r) = debug_went_allowed seen.pages.before.told program given options status r.went

  debug_allowed : (loaded : Result Loaded Refusal) (Tells : Legend → Type 0) (texts : Texts) (prompts : Bool) (options : Options) (status : Status) → DebugDoes (outside_of seen) seen.lines loaded Tells texts prompts options status grown → Allowed seen names grown status
  debug_allowed loaded Tells texts prompts options status (inl r) = let turned = r.0 in refused_allowed loaded status turned.refused turned.wrote
  debug_allowed loaded Tells texts prompts options status (inr d) = debugs_allowed d.0 (given texts.input texts.schedule d.2 prompts) options status d.4

  answer_allowed : (why : Why) → Allowed seen names grown (answer_of why)
  answer_allowed (ByEnding ending) = tt
  answer_allowed BySteps = tt
  answer_allowed ByTurns = tt

  traced_cut_allowed : (file : BlockFile) (s : Traced) (status : Status) → HasFailed seen.pages → traced_run.IsUnread s file (outside_of seen) status grown ⊎ traced_run.IsCut s file (outside_of seen) status grown → Allowed seen names grown status
  traced_cut_allowed file s status r (inl u) = subst (Allowed seen names grown) (sym u.answer) r
  traced_cut_allowed file s status r (inr u) = subst (Allowed seen names grown) (sym u.answer) r

  traced_allowed : (told : Option BlockFile) (s : Traced) (status : Status) → traced_run.WentFrom told (outside_of seen) s status grown → Allowed seen names grown status
  traced_allowed None s status h = run_allowed Off status h
  traced_allowed (Some file) s status (inl w) = subst (Allowed seen names grown) (sym w.answer) (answer_allowed w.stop.why)
  traced_allowed (Some file) s status (inr (inl w)) = traced_cut_allowed file s status w.0 w.1
  traced_allowed (Some file) s status (inr (inr w)) = subst (Allowed seen names grown) (sym w.1.answer) tt

  traces_allowed : (program : Loaded) (texts : Texts) (tracing : Tracing) (options : Options) (status : Status) → TracesSo (outside_of seen) program texts.input texts.schedule tracing options status grown → Allowed seen names grown status
  traces_allowed program texts tracing options status (inl m) = planned_allowed _ texts.schedule status m.fault m.wrote
  traces_allowed program texts tracing options status (inr r) = traced_allowed seen.pages.before.told _ status r.went

  trace_allowed : (loaded : Result Loaded Refusal) (texts : Texts) (tracing : Tracing) (options : Options) (status : Status) → TraceDoes (outside_of seen) loaded texts tracing options status grown → Allowed seen names grown status
  trace_allowed loaded texts tracing options status (inl r) = refused_allowed loaded status r.refused r.wrote
  trace_allowed loaded texts tracing options status (inr d) = traces_allowed d.0 texts tracing options status d.2

  save_from_allowed : (told : Option BlockFile) (setup : Setup) (status : Status) → SaveWentFrom told (outside_of seen) setup status grown → Allowed seen names grown status
  save_from_allowed None setup status h = run_allowed setup.strict status h
  save_from_allowed (Some file) setup status (inl s) = subst (Allowed seen names grown) (sym s.answer) (why_allowed setup.strict (machine_at s.stop.at.place).core s.stop.why)
  save_from_allowed (Some file) setup status (inr (r, inl u)) = subst (Allowed seen names grown) (sym u.answer) r
  save_from_allowed (Some file) setup status (inr (r, inr u)) = subst (Allowed seen names grown) (sym u.answer) r

  saves_allowed : (program : Loaded) (input schedule : Text) (options : Options) (status : Status) → SavesSo (outside_of seen) program input schedule options status grown → Allowed seen names grown status
  saves_allowed program input schedule options status (inl m) = planned_allowed _ schedule status m.fault m.wrote
  saves_allowed program input schedule options status (inr r) = save_from_allowed seen.pages.before.told _ status r.went

  save_allowed : (loaded : Result Loaded Refusal) (texts : Texts) (options : Options) (status : Status) → SaveDoes (outside_of seen) loaded texts options status grown → Allowed seen names grown status
  save_allowed loaded texts options status (inl r) = refused_allowed loaded status r.refused r.wrote
  save_allowed loaded texts options status (inr d) = saves_allowed d.0 texts.input texts.schedule options status d.2

  went_on_allowed : (told : Option BlockFile) (c : Course) (status : Status) → WentOnFrom told (outside_of seen) c status grown → Allowed seen names grown status
  went_on_allowed None c status h = run_allowed c.strict status h.answer
  went_on_allowed (Some file) c status (inl s) = subst (Allowed seen names grown) (sym s.answer) (why_allowed c.strict _ s.halt.why)
  went_on_allowed (Some file) c status (inr (r, inl u)) = subst (Allowed seen names grown) (sym u.answer) r
  went_on_allowed (Some file) c status (inr (r, inr u)) = subst (Allowed seen names grown) (sym u.answer) r

  unfit_allowed : (bytes schedule : Text) (status : Status) → IsUnfit bytes schedule status → grown ≡ refusal_growth status → Allowed seen names grown status
  unfit_allowed bytes schedule status (inl u) g = let h : grown ≡ refusal_growth (Saved u.0 u.1) = g ∙ ap refusal_growth u.2 in subst (Allowed seen names grown) (sym u.2) h
  unfit_allowed bytes schedule status (inr m) g = planned_allowed m.areas schedule status m.fault g

  resumes_allowed : (bytes schedule : Text) (options : Options) (status : Status) → ResumesSo (outside_of seen) bytes schedule options status grown → Allowed seen names grown status
  resumes_allowed bytes schedule options status (inl n) = unfit_allowed bytes schedule status n.cause n.wrote
  resumes_allowed bytes schedule options status (inr r) = went_on_allowed seen.pages.before.told _ status r.went

  resume_allowed : (files : List Text) (options : Options) (status : Status) → ResumeDoes (outside_of seen) files options status grown → Allowed seen names grown status
  resume_allowed [] options status d = absurd d
  resume_allowed (bytes ∷ files) options status d = resumes_allowed bytes _ options status d

  jobs_answer_allowed : (status : Status) → IsJobsAnswer (HasFailed seen.pages) status → Allowed seen names grown status
  jobs_answer_allowed Done h = tt
  jobs_answer_allowed Usage h = absurd h
  jobs_answer_allowed (Missing name) h = absurd h
  jobs_answer_allowed (Large name) h = absurd h
  jobs_answer_allowed (Refused file line kind) h = absurd h
  jobs_answer_allowed (Macros file line kind) h = absurd h
  jobs_answer_allowed (Link kind name place) h = absurd h
  jobs_answer_allowed (Schedule line kind) h = absurd h
  jobs_answer_allowed (BadImage place kind) h = absurd h
  jobs_answer_allowed Turns h = tt
  jobs_answer_allowed PageFault h = h
  jobs_answer_allowed ReadFault h = absurd h
  jobs_answer_allowed WriteFault h = absurd h
  jobs_answer_allowed NoMemory h = absurd h
  jobs_answer_allowed (Saved place kind) h = absurd h
  jobs_answer_allowed (Order line kind) h = absurd h
  jobs_answer_allowed (Told which) h = absurd h
  jobs_answer_allowed NotHalted h = absurd h
  jobs_answer_allowed Unsuccessful h = absurd h
  jobs_answer_allowed Unfinished h = absurd h
  jobs_answer_allowed LineFault h = absurd h

  jobs_went_allowed : (told : Option BlockFile) (setup : JobsSetup) (status : Status) → JobsWent told (outside_of seen) setup status grown → Allowed seen names grown status
  jobs_went_allowed None setup status h = jobs_answer_allowed status h.0
  jobs_went_allowed (Some file) setup status (inl s) = subst (Allowed seen names grown) (sym s.answer) (jobs_answer_allowed _ (jobs_answers (HasFailed seen.pages) s.why))
  jobs_went_allowed (Some file) setup status (inr (r, c)) = subst (Allowed seen names grown) (sym c.answer) r

  jobs_so_allowed : (programs : Users) (input order : Text) (options : JobsOptions) (status : Status) → JobsRunSo (outside_of seen) programs input order options status grown → Allowed seen names grown status
  jobs_so_allowed programs input order options status (inl m) = let h : grown ≡ refusal_growth (Order m.line m.kind) = m.wrote ∙ ap refusal_growth m.answer in subst (Allowed seen names grown) (sym m.answer) h
  jobs_so_allowed programs input order options status (inr r) = jobs_went_allowed seen.pages.before.told _ status r.went

  jobs_allowed : (loaded : Result Users Refusal) (texts : JobsTexts) (options : JobsOptions) (status : Status) → TogetherDo (outside_of seen) loaded texts options status grown → Allowed seen names grown status
  jobs_allowed loaded texts options status (inl r) = refused_allowed loaded status r.refused r.wrote
  jobs_allowed loaded texts options status (inr d) = jobs_so_allowed d.0 texts.input (order_text (length texts.programs) texts.order) options status d.2

  image_allowed : (built : Result Image Refusal) (Writes : Image → Text → Type 0) (status : Status) → ImageDoes seen.pages built Writes status grown → Allowed seen names grown status
  image_allowed built Writes status (inl r) = refused_allowed built status r.refused r.wrote
  image_allowed built Writes status (inr b) = subst (Allowed seen names grown) (sym b.0.answer) tt

  told_allowed : (dialect : Dialect) (alone : Bool) (found : Option Refusal) (titles : List Title) (files : List Text) (status : Status) → IsTold dialect alone found titles files status grown → Allowed seen names grown status
  told_allowed dialect alone None titles files status t = subst (Allowed seen names grown) (sym t.answer) tt
  told_allowed dialect alone (Some refusal) titles files status t = subst (Allowed seen names grown) (sym t.answer) tt

module _ (seen : Around) (grown : Channels) where
  carried_allowed : (said : Said) (files : List Text) (status : Status) → Does seen.preludes seen.lines (outside_of seen) said files status grown → Allowed seen (Unread seen (wanted_of said)) grown status
  carried_allowed (bare names options) files status d = does_allowed seen (Unread seen (wanted_of (bare names options))) grown _ _ _ options status d
  carried_allowed (run names options) files status d = does_allowed seen (Unread seen (wanted_of (run names options))) grown _ _ _ options status d
  carried_allowed (build names target format) files status d = image_allowed seen (Unread seen (plain (of_programs names))) grown _ (IsFile format) status d
  carried_allowed (list names target) files status d = image_allowed seen (Unread seen (plain (of_programs names))) grown _ IsListing status d
  carried_allowed (listing names target) files status d = image_allowed seen (Unread seen (plain (of_programs names))) grown _ (IsSourceListing target.dialect (base_for target.base) files) status d
  carried_allowed (check names target system) files status d = told_allowed seen (Unread seen (plain (of_programs (checked_names names system)))) grown target.dialect (is_bare (base_for target.base)) (found_of target.dialect (base_for target.base) names (joined_files seen.preludes files)) (titles_of seen.preludes (checked_names names system)) (joined_files seen.preludes files) status d.0
  carried_allowed (console names linked script options) files status d =
      let texts = texts_of (length names) options (Some script) files in console_allowed seen (Unread seen (wanted_of (console names linked script options))) grown (session_programs seen.preludes options.dialect linked texts) texts options status d
  carried_allowed (debug names linked prompts options) files status d =
      let texts = texts_of (length names) options None files in
      debug_allowed seen (Unread seen (wanted_of (debug names linked prompts options))) grown (session_programs seen.preludes options.dialect linked texts) (IsLegend options.dialect (base_for linked) seen.preludes names texts.programs) texts prompts options status d
  carried_allowed (trace names linked tracing options) files status d =
      let texts = texts_of (length names) options None files in trace_allowed seen (Unread seen (wanted_of (trace names linked tracing options))) grown (session_programs seen.preludes options.dialect linked texts) texts tracing options status d
  carried_allowed (work seed size options) files status d = does_allowed seen (Unread seen (plain (of_options options None))) grown _ _ _ options status d
  carried_allowed (save names linked options) files status d =
      let texts = texts_of (length names) options None files in save_allowed seen (Unread seen (wanted_of (save names linked options))) grown (session_programs seen.preludes options.dialect linked texts) texts options status d
  carried_allowed (resume name options) files status d = resume_allowed seen (Unread seen (wanted_of (resume name options))) grown files options status d
  carried_allowed (jobs names options) files status d =
      let texts = jobs_texts_of (length names) options files in jobs_allowed seen (Unread seen (wanted_of (jobs names options))) grown (together_for seen.preludes options.dialect texts.programs) texts options status d
  carried_allowed (vectors request) files status d = vectors_allowed seen (Unread seen (plain [])) grown request status d
  carried_allowed about files status d = subst (Allowed seen (Unread seen (plain [])) grown) (sym d.1) tt

  allowed : (said : Said) (status : Status) → CommandComes seen said status grown → Allowed seen (Unread seen (wanted_of said)) grown status
  allowed said status (inl e) = read_allowed seen (Unread seen (wanted_of said)) grown status e.0 e.1
  allowed said status (inr d) = carried_allowed said d.0 status d.2

  -- the same for more causes
  abbrev Widens : (P Q : Text × FilesFault → Type 0) → Type 0
  Widens P Q = (why : Text × FilesFault) → P why → Q why

  more_allowed : (P Q : Text × FilesFault → Type 0) → Widens P Q → (status : Status) → Allowed seen P grown status → Allowed seen Q grown status
  more_allowed P Q up Done h = h
  more_allowed P Q up Usage h = h
  more_allowed P Q up (Missing name) h = (up _ h.0, h.1)
  more_allowed P Q up (Large name) h = (up _ h.0, h.1)
  more_allowed P Q up (Refused file line kind) h = h
  more_allowed P Q up (Macros file line kind) h = h
  more_allowed P Q up (Link kind name place) h = h
  more_allowed P Q up (Schedule line kind) h = h
  more_allowed P Q up (BadImage place kind) h = h
  more_allowed P Q up Turns h = h
  more_allowed P Q up PageFault h = h
  more_allowed P Q up ReadFault h = h
  more_allowed P Q up WriteFault h = h
  more_allowed P Q up NoMemory h = h
  more_allowed P Q up (Saved place kind) h = h
  more_allowed P Q up (Order line kind) h = h
  more_allowed P Q up (Told which) h = h
  more_allowed P Q up NotHalted h = h
  more_allowed P Q up Unsuccessful h = h
  more_allowed P Q up Unfinished h = h
  more_allowed P Q up LineFault h = h

kept_allowed : (seen : Around) (grown : Channels) (preludes : List Prelude) (P : Text × FilesFault → Type 0) (status : Status) → Allowed (with_preludes preludes seen) P grown status → Allowed seen P grown status
kept_allowed seen grown preludes P Done h = h
kept_allowed seen grown preludes P Usage h = h
kept_allowed seen grown preludes P (Missing name) h = h
kept_allowed seen grown preludes P (Large name) h = h
kept_allowed seen grown preludes P (Refused file line kind) h = h
kept_allowed seen grown preludes P (Macros file line kind) h = h
kept_allowed seen grown preludes P (Link kind name place) h = h
kept_allowed seen grown preludes P (Schedule line kind) h = h
kept_allowed seen grown preludes P (BadImage place kind) h = h
kept_allowed seen grown preludes P Turns h = h
kept_allowed seen grown preludes P PageFault h = h
kept_allowed seen grown preludes P ReadFault h = h
kept_allowed seen grown preludes P WriteFault h = h
kept_allowed seen grown preludes P NoMemory h = h
kept_allowed seen grown preludes P (Saved place kind) h = h
kept_allowed seen grown preludes P (Order line kind) h = h
kept_allowed seen grown preludes P (Told which) h = h
kept_allowed seen grown preludes P NotHalted h = h
kept_allowed seen grown preludes P Unsuccessful h = h
kept_allowed seen grown preludes P Unfinished h = h
kept_allowed seen grown preludes P LineFault h = h

behind_allowed : (seen : Around) (grown : Channels) (preludes : List Prelude) (said : Said) (status : Status) → CommandComes (with_preludes preludes seen) said status grown → Allowed seen (Unread seen (wanted_of said)) grown status
behind_allowed seen grown preludes said status c = kept_allowed seen grown preludes (Unread seen (wanted_of said)) status (allowed (with_preludes preludes seen) grown said status c)

module _ (seen : Around) (grown : Channels) where
  -- what the words ask for allows
  abbrev AllowedBy : Option Asked → Status → Type 0
  AllowedBy None status = (status ≡ Usage) × (grown ≡ refusal_growth Usage)
  AllowedBy (Some asked) status = Allowed seen (IsUnread seen.files.before.told (Some asked)) grown status

  comes_allowed : (asked : Asked) (status : Status) → AskedComes seen asked status grown → AllowedBy (Some asked) status
  comes_allowed asked status (inl e) =
      more_allowed seen grown (λ why. Reads seen.files.before.told (of_macros asked.macros) (Err why)) (IsUnread seen.files.before.told (Some asked)) (λ why h. inl h) status
      (read_allowed seen (λ why. Reads seen.files.before.told (of_macros asked.macros) (Err why)) grown status e.0 e.1)
  comes_allowed asked status (inr d) =
      more_allowed seen grown (Unread seen (wanted_of asked.said)) (IsUnread seen.files.before.told (Some asked)) (λ why h. inr (d.0, d.1, h)) status
      (behind_allowed seen grown (preludes_of asked.macros d.0) asked.said status d.2)

  asked_allowed : (o : Option Asked) (status : Status) → MatchOption o ((status ≡ Usage) × (grown ≡ refusal_growth Usage) × seen.pages.same) (λ asked. AskedComes seen asked status grown) → AllowedBy o status
  asked_allowed None status h = (h.0, h.1)
  asked_allowed (Some asked) status h = comes_allowed asked status h

  no_usage : (o : Option Asked) → AllowedBy o Usage → o ≡ None
  no_usage None h = refl
  no_usage (Some asked) h = absurd h

  is_missing : (o : Option Asked) (name : Text) → AllowedBy o (Missing name) → IsUnread seen.files.before.told o (name, faults.Missing)
  is_missing None name h = let e : Missing name ≡ Usage = h.0 in absurd (cc e)
  is_missing (Some asked) name h = h.0

  is_large : (o : Option Asked) (name : Text) → AllowedBy o (Large name) → IsUnread seen.files.before.told o (name, faults.Large)
  is_large None name h = let e : Large name ≡ Usage = h.0 in absurd (cc e)
  is_large (Some asked) name h = h.0

  has_risen : (o : Option Asked) → AllowedBy o ReadFault → HasFailed seen.files
  has_risen None h = let e : ReadFault ≡ Usage = h.0 in absurd (cc e)
  has_risen (Some asked) h = h.0

  has_failed : (o : Option Asked) → AllowedBy o PageFault → HasFailed seen.pages
  has_failed None h = let e : PageFault ≡ Usage = h.0 in absurd (cc e)
  has_failed (Some asked) h = h

  has_broken : (o : Option Asked) → AllowedBy o LineFault → HasFailed seen.lines
  has_broken None h = let e : LineFault ≡ Usage = h.0 in absurd (cc e)
  has_broken (Some asked) h = h

  never_write : (o : Option Asked) → AllowedBy o WriteFault → ⊥
  never_write None h = let e : WriteFault ≡ Usage = h.0 in cc e
  never_write (Some asked) h = h

  lines : (names : Text × FilesFault → Type 0) (status : Status) → Allowed seen names grown status → IfSome (refusal status) (λ text. grown ≡ only channel.Report text)
  lines names Done h = tt
  lines names Usage h = absurd h
  lines names (Missing name) h = h.1
  lines names (Large name) h = h.1
  lines names (Refused file line kind) h = h
  lines names (Macros file line kind) h = h
  lines names (Link kind name place) h = h
  lines names (Schedule line kind) h = h
  lines names (BadImage place kind) h = h
  lines names Turns h = tt
  lines names PageFault h = tt
  lines names ReadFault h = h.1
  lines names WriteFault h = tt
  lines names NoMemory h = h
  lines names (Saved place kind) h = h
  lines names (Order line kind) h = h
  lines names (Told which) h = tt
  lines names NotHalted h = tt
  lines names Unsuccessful h = tt
  lines names Unfinished h = tt
  lines names LineFault h = tt

  line_by : (o : Option Asked) (status : Status) → AllowedBy o status → IfSome (refusal status) (λ text. grown ≡ only channel.Report text)
  line_by None status h = rw h.0 h.1
  line_by (Some asked) status h = lines (IsUnread seen.files.before.told (Some asked)) status h

grown_line : (text : Option Text) (old new : Option Channels) (grown : Channels) → IfSome text (λ t. grown ≡ only channel.Report t) → Grew old new grown → IfSome text (λ t. Grew old new (only channel.Report t))
grown_line None old new grown e w = tt
grown_line (Some t) old new grown e w = subst (λ (g : Channels). Grew old new g) e w

-- how a call ends, by the answer that it meant
module _ (sink : Change Channels) (grown : Channels) (result : Status) where
  -- the answer is the one that was meant, but for a failed write
  meant_is : (meant status : Status) → Ends sink meant grown result → result ≡ status → (status ≡ WriteFault → ⊥) → meant ≡ status
  meant_is meant status (inl w) e other = sym w.answer ∙ e
  meant_is meant status (inr c) e other = absurd (other (sym e ∙ c.answer))

  ends_usage : (meant : Status) → meant ≡ Usage → Ends sink meant grown result → (result ≡ Usage) ⊎ (result ≡ WriteFault)
  ends_usage meant e (inl w) = inl (w.answer ∙ e)
  ends_usage meant e (inr c) = inr c.answer

  wrote : (meant : Status) → (meant ≡ WriteFault → ⊥) → Ends sink meant grown result → result ≡ WriteFault → HasFailed sink
  wrote meant never (inl w) e = absurd (never (sym w.answer ∙ e))
  wrote meant never (inr c) e = c.cause

  unhidden : (meant : Status) → Ends sink meant grown result → (sink.after.faults.count ≡ sink.before.faults.count → ⊥) → result ≡ WriteFault
  unhidden meant (inl w) changed = absurd (changed w.quiet)
  unhidden meant (inr c) changed = c.answer

  told_line : (meant : Status) → IfSome (refusal meant) (λ text. grown ≡ only channel.Report text) → Ends sink meant grown result → IfSome (refusal result) (λ text. Grew sink.before.told sink.after.told (only channel.Report text))
  told_line meant line (inl w) = subst (λ (s : Status). IfSome (refusal s) (λ text. Grew sink.before.told sink.after.told (only channel.Report text))) (sym w.answer) (grown_line (refusal meant) sink.before.told sink.after.told grown line w.grew)
  told_line meant line (inr c) = rw c.answer tt

-- what the headline says of the answers
module _ (seen : Around) (words : List Text) (result : Status) (h : Comes seen words result) where
  abbrev By : Status → Type 0
  By status = AllowedBy seen h.grown (command_of words) status

  allows : By h.meant
  allows = asked_allowed seen h.grown (command_of words) h.meant h.comes

  by_answer : (status : Status) → result ≡ status → (status ≡ WriteFault → ⊥) → By status
  by_answer status e other = subst By (meant_is seen.sink h.grown result h.meant status h.ends e other) allows

  pub usage : result ≡ Usage → command_of words ≡ None
  usage e = no_usage seen h.grown (command_of words) (by_answer Usage e (λ w. cc w))

  pub missing : (name : Text) → result ≡ Missing name → IsUnread seen.files.before.told (command_of words) (name, faults.Missing)
  missing name e = is_missing seen h.grown (command_of words) name (by_answer (Missing name) e (λ w. cc w))

  pub large : (name : Text) → result ≡ Large name → IsUnread seen.files.before.told (command_of words) (name, faults.Large)
  large name e = is_large seen h.grown (command_of words) name (by_answer (Large name) e (λ w. cc w))

  pub read_fault : result ≡ ReadFault → HasFailed seen.files
  read_fault e = has_risen seen h.grown (command_of words) (by_answer ReadFault e (λ w. cc w))

  pub page_fault : result ≡ PageFault → HasFailed seen.pages
  page_fault e = has_failed seen h.grown (command_of words) (by_answer PageFault e (λ w. cc w))

  pub line_fault : result ≡ LineFault → HasFailed seen.lines
  line_fault e = has_broken seen h.grown (command_of words) (by_answer LineFault e (λ w. cc w))

  not_asked : (o : Option Asked) (meant : Status) → o ≡ None → AllowedBy seen h.grown o meant → meant ≡ Usage
  not_asked None meant e a = a.0
  not_asked (Some asked) meant e a = absurd (cc e)

  pub not_plain : command_of words ≡ None → (result ≡ Usage) ⊎ (result ≡ WriteFault)
  not_plain e = ends_usage seen.sink h.grown result h.meant (not_asked (command_of words) h.meant e allows) h.ends

  pub write_fault : result ≡ WriteFault → HasFailed seen.sink
  write_fault e = wrote seen.sink h.grown result h.meant (λ w. never_write seen h.grown (command_of words) (subst By w allows)) h.ends e

  pub write_failed : (seen.sink.after.faults.count ≡ seen.sink.before.faults.count → ⊥) → result ≡ WriteFault
  write_failed changed = unhidden seen.sink h.grown result h.meant h.ends changed

  pub refused : IfSome (refusal result) (λ text. Grew seen.sink.before.told seen.sink.after.told (only channel.Report text))
  refused = told_line seen.sink h.grown result h.meant (line_by seen h.grown (command_of words) h.meant allows) h.ends

-- what the words ask for

pub words_asked : (seen : Around) (words : List Text) (asked : Asked) (result : Status) → command_of words ≡ Some asked → CarriesAsked seen asked result → Comes seen words result
words_asked seen words asked result is c = record { meant = c.meant; grown = c.grown; comes = rw is c.comes; ends = c.ends }

pub plain_words : (asked : Option Asked) → (asked ≡ None → ⊥) → is_some asked ≡ true
plain_words None other = absurd (other refl)
plain_words (Some asked) other = refl

-- memory was refused to words that name a command
module _ (seen : Around) (words : List Text) (result : Status) where
  lacking : (o : Option Asked) → is_some o ≡ true → seen.pages.same → MatchOption o ((NoMemory ≡ Usage) × (refusal_growth NoMemory ≡ refusal_growth Usage) × seen.pages.same) (λ asked. AskedComes seen asked NoMemory (refusal_growth NoMemory))
  lacking None plain k = absurd (cc plain)
  lacking (Some asked) plain k = inl (tt, refl, k)

  pub words_unread : is_some (command_of words) ≡ true → seen.pages.same → Ends seen.sink NoMemory (refusal_growth NoMemory) result → Comes seen words result
  words_unread plain k ends = record { meant = NoMemory; grown = refusal_growth NoMemory; comes = lacking (command_of words) plain k; ends = ends }

-- a failed call behind calls that didn't fail isn't hidden
pub admits_behind : (before mid now : Failures) (fault result : Status) → mid.count ≡ before.count → Admits mid now fault result → Admits before now fault result
admits_behind before mid now fault result same later =
    λ changed.
    let admitted : IsAdmitted mid now fault result = later (λ e. changed (e ∙ same)) in record { once = rose_from before mid now same admitted.once; answer = admitted.answer }

-- the files of macros were read, and a command was carried out behind them, or their read ended the call
module _ (files later : Change Directory) (sink : Change Channels) (pages : Change BlockFile) (lines : Change (List Text)) (asked : Asked) (result : Status) where
  abbrev Here : Around
  Here = beside lines (around files sink pages)

  pub macros_unread : (status : Status) → ReadEnds files (of_macros asked.macros) status → pages.same → Ends sink status (refusal_growth status) result → CarriesAsked Here asked result
  macros_unread status e k ends = record { meant = status; grown = refusal_growth status; comes = inl (e, refl, k); ends = ends }

  pub macros_lacking : pages.same → Ends sink NoMemory (refusal_growth NoMemory) result → CarriesAsked Here asked result
  macros_lacking k ends = macros_unread NoMemory tt k ends

  -- files are read behind those of macros
  behind_comes : (preludes : List Prelude) (status : Status) (grown : Channels) → later.before.told ≡ files.before.told → (HasFailed later → HasFailed files)
      → CommandComes (with_preludes preludes (beside lines (around later sink pages))) asked.said status grown → CommandComes (with_preludes preludes Here) asked.said status grown
  behind_comes preludes status grown same up (inl e) =
      inl (
        ends_more (HasFailed later) (HasFailed files) (λ why. ReadsWanted later.before.told (wanted_of asked.said) (Err why)) (λ why. ReadsWanted files.before.told (wanted_of asked.said) (Err why)) status up
            (λ why h. subst (λ (c : Option Directory). ReadsWanted c (wanted_of asked.said) (Err why)) same h) e.0,
        e.1,
        e.2,
      )
  behind_comes preludes status grown same up (inr d) = inr (d.0, subst (λ (c : Option Directory). ReadsWanted c (wanted_of asked.said) (Ok d.0)) same d.1, d.2)

  pub macros_read : (texts : List Text) (preludes : List Prelude) → preludes ≡ preludes_of asked.macros texts → later.before.told ≡ files.before.told → (HasFailed later → HasFailed files) → Reads files.before.told (of_macros asked.macros) (Ok texts)
      → Carries (with_preludes preludes (beside lines (around later sink pages))) asked.said result → CarriesAsked Here asked result
  macros_read texts preludes are same up reads c = record {
    meant = c.meant;
    grown = c.grown;
    comes = inr (texts, reads, subst (λ (p : List Prelude). CommandComes (with_preludes p Here) asked.said c.meant c.grown) are (behind_comes preludes c.meant c.grown same up c.comes));
    ends = c.ends;
  }
