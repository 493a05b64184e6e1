-- What resuming a saved state comes to, from what its parts did.
use Rattle.std.proofs.Common.{◌≡◌, ◌⊎◌, ◌<◌, ◌-◌, ◌^◌, ℕ, List, [], ◌∷◌, Option, None, Some, Result, Ok, Err, refl, sym, ap, subst, ◌∙◌, inl, inr}
use Rattle.vax_outside.specs.Blocks.{BlockFile, numbered}
use Rattle.vax_outside.specs.Directory.{Directory, read_result}
use Rattle.vax_outside.specs.declared.traits.FilesFault.{FilesFault}
use Rattle.vax_space.specs.Faults.{IsSpace}
use Rattle.vax_flat.specs.Parts.{machine_at}
use Rattle.vax_flat.specs.Port.{layout}
use Rattle.vax_machine.specs.Open.{Open}
use Rattle.vax_flat.specs.Step.{Flat}
use Rattle.vax_machine.specs.Machine.{keeping}
use Rattle.vax_machine.specs.Meaning.{resumed_at}
use Rattle.vax_machine.specs.Paged.{begun_at}
use Rattle.vax_machine.specs.declared.engine.Engine.{Engine}
use Rattle.vax_sched.specs.Faults.{Denotes}
use Rattle.vax_sched.specs.declared.rule.Rule.{Rule}
use Rattle.vax_save.specs.Restored.{HasRestored, IsRestored, restored_place}
use Rattle.vax_save.specs.Restoring.{Restored}
use Rattle.vax_cli.specs.Words.{Options, Text}
use Rattle.vax_command.specs.Around.{Outside}
use Rattle.vax_command.specs.Course.{IsReady, WentOn}
use Rattle.vax_command.specs.Ends.{Ends, EndsSo}
use Rattle.vax_command.specs.Reading.{EndsBy, HasTexts, Reads, Sought, Texts, joined_reads, of_options, read_files}
use Rattle.vax_command.specs.Resuming.{AreAreas, HasResumed, IsUnfit, resumed_course}
use Rattle.vax_command.specs.Running.{IsFaulty}
use Rattle.vax_command.specs.Status.{refusal_growth}
use Rattle.vax_command.specs.Wanting.{HasSaved, ReadsOne, ReadsWanted, saved_limit}
use Rattle.vax_command.specs.declared.status.Status.{Status}
use Rattle.vax_command.specs.declared.status.Status.TheVariants.{NoMemory}
use Rattle.vax_command.proofs.LoadLaws.{ends_more}
use Rattle.vax_command.proofs.OnwardLaws.{goes_by_flat}
use Rattle.vax_command.proofs.OnwardTurns.{too_low}

-- files

-- the first is there
first_there : (name : Text) (r : Result Text FilesFault) (bytes : Text) (rest : Result (List Text) (Text × FilesFault)) → joined_reads name r (Ok []) ≡ Ok (bytes ∷ []) → joined_reads name r rest ≡ joined_reads name (Ok bytes) rest
first_there name (Err fault) bytes rest e = cc
first_there name (Ok found) bytes rest e = let same : found ≡ bytes = cc in ap (λ (b : Text). joined_reads name (Ok b) rest) same

-- the first can't be read
first_missing : (name : Text) (r : Result Text FilesFault) (why : Text × FilesFault) (rest : Result (List Text) (Text × FilesFault)) → joined_reads name r (Ok []) ≡ Err why → joined_reads name r rest ≡ Err why
first_missing name (Err fault) why rest e = e
first_missing name (Ok found) why rest e = cc

reads_saved : (c : Option Directory) (name : Text) (names : List Sought) (bytes : Text) (files : List Text) → ReadsOne c name saved_limit (Ok (bytes ∷ [])) → Reads c names (Ok files) → ReadsWanted c (record { saved = Some name; names = names }) (Ok (bytes ∷ files))
reads_saved None name names bytes files one others = tt
reads_saved (Some d) name names bytes files one others =
    ap (joined_reads name (read_result d name saved_limit)) others ∙ first_there name (read_result d name saved_limit) bytes (Ok files) one

stops_first : (c : Option Directory) (name : Text) (names : List Sought) (why : Text × FilesFault) → ReadsOne c name saved_limit (Err why) → ReadsWanted c (record { saved = Some name; names = names }) (Err why)
stops_first None name names why one = tt
stops_first (Some d) name names why one = first_missing name (read_result d name saved_limit) why (read_files d names) one

stops_then : (c : Option Directory) (name : Text) (names : List Sought) (bytes : Text) (why : Text × FilesFault) → ReadsOne c name saved_limit (Ok (bytes ∷ [])) → Reads c names (Err why) → ReadsWanted c (record { saved = Some name; names = names }) (Err why)
stops_then None name names bytes why one others = tt
stops_then (Some d) name names bytes why one others =
    ap (joined_reads name (read_result d name saved_limit)) others ∙ first_there name (read_result d name saved_limit) bytes (Err why) one

pub has_saved : (c d : Option Directory) (name : Text) (options : Options) (bytes : Text) (texts : Texts) → d ≡ c → ReadsOne c name saved_limit (Ok (bytes ∷ [])) → HasTexts d [] options None texts → HasSaved c name options bytes texts
has_saved c d name options bytes texts same one h = record {
  files = h.files;
  read = reads_saved c name (of_options options None) bytes h.files one (subst (λ (k : Option Directory). Reads k (of_options options None) (Ok h.files)) same h.read);
  are = h.are;
}

pub ends_saved : (rose later : Type 0) (c : Option Directory) (name : Text) (names : List Sought) (status : Status) → (rose → later) → EndsBy rose (λ why. ReadsOne c name saved_limit (Err why)) status
    → EndsBy later (λ why. ReadsWanted c (record { saved = Some name; names = names }) (Err why)) status
ends_saved rose later c name names status up e =
    ends_more rose later (λ why. ReadsOne c name saved_limit (Err why)) (λ why. ReadsWanted c (record { saved = Some name; names = names }) (Err why)) status up (λ why. stops_first c name names why) e

pub ends_behind : (rose later : Type 0) (c d : Option Directory) (name : Text) (names : List Sought) (bytes : Text) (status : Status) → d ≡ c → (rose → later) → ReadsOne c name saved_limit (Ok (bytes ∷ [])) → EndsBy rose (λ why. Reads d names (Err why)) status
    → EndsBy later (λ why. ReadsWanted c (record { saved = Some name; names = names }) (Err why)) status
ends_behind rose later c d name names bytes status same up one e =
    ends_more rose later (λ why. Reads c names (Err why)) (λ why. ReadsWanted c (record { saved = Some name; names = names }) (Err why)) status up (λ why. stops_then c name names bytes why one)
    (subst (λ (k : Option Directory). EndsBy rose (λ why. Reads k names (Err why)) status) same e)

-- a machine at a saved state

-- a page file that tells that it is empty
empty : BlockFile
empty = record { blocks = numbered []; writes = []; reads = 0 }

placed_memory : (m : Flat) (latch : Option Open) → (machine_at (resumed_at m latch)).memory ≡ m.memory
placed_memory m None = refl
placed_memory m (Some latched) = refl

placed_silent : (m : Flat) (latch : Option Open) → (machine_at (resumed_at m latch)).output ≡ m.output
placed_silent m None = refl
placed_silent m (Some latched) = refl

pub placed : (m : Engine) (frames : ℕ) (r : Restored) → IsRestored m frames r → AreAreas (keeping m).areas r
placed m frames r is =
    sym ((is.means empty []).memory.areas) ∙ ap layout (placed_memory (record r.machine { output = [] }) r.latch)

pub restored_ready : (m : Engine) (frames : ℕ) (r : Restored) → IsRestored m frames r → IsReady m (begun_at frames r.steps (restored_place r []))
restored_ready m frames r is = record {
  means = λ file. is.means file [];
  begins = is.begun (restored_place r []);
  silent = placed_silent (record r.machine { output = [] }) r.latch;
  unpinned = refl;
}

-- why a run isn't resumed
pub misfit : (bytes schedule : Text) (frames : ℕ) (m : Engine) (status : Status) → HasRestored bytes frames m → IsFaulty (keeping m).areas schedule status ⊎ (status ≡ NoMemory) → IsUnfit bytes schedule status ⊎ (status ≡ NoMemory)
misfit bytes schedule frames m status h (inl fault) = inl (inr (record { state = h.0; is = h.1; areas = (keeping m).areas; placed = placed m frames h.0 h.2; fault = fault }))
misfit bytes schedule frames m status h (inr e) = inr e

module _ (outside : Outside) (bytes schedule : Text) (options : Options) (result : Status) where
  pub not_resumed : (status : Status) → IsUnfit bytes schedule status ⊎ (status ≡ NoMemory) → outside.pages.same → Ends outside.sink status (refusal_growth status) result → HasResumed outside bytes schedule options result
  not_resumed status (inl cause) k ends = record { meant = status; grown = refusal_growth status; so = inr (inl (record { cause = cause; wrote = refl; keeps = k })); ends = ends }
  not_resumed status (inr e) k ends = record { meant = status; grown = refusal_growth status; so = inl (e, ap refusal_growth e, k); ends = ends }

  pub has_resumed : (m : Engine) (h : HasRestored bytes options.frames m) (rules : List Rule) → IsSpace (keeping m).areas → options.turns < 2 ^ 64 - 1 → Denotes (keeping m).areas schedule rules → EndsSo outside.sink (WentOn outside (resumed_course h.0 (keeping m).areas rules options)) result → HasResumed outside bytes schedule options result
  has_resumed m h rules space low planned went = record {
    meant = went.meant;
    grown = went.grown;
    so = inr (inr (record {
      state = h.0;
      is = h.1;
      areas = (keeping m).areas;
      placed = placed m options.frames h.0 h.2;
      rules = rules;
      planned = planned;
      went = went.so;
      flat = λ start going goes. goes_by_flat (resumed_course h.0 (keeping m).areas rules options) h.0.steps options.steps start refl refl going goes;
      short = λ halt why. too_low (resumed_course h.0 (keeping m).areas rules options) options.frames h.0.steps (restored_place h.0 []) refl space (ap layout (placed_memory (record h.0.machine { output = [] }) h.0.latch) ∙ sym (placed m options.frames h.0 h.2)) low halt why;
    }));
    ends = went.ends;
  }
