-- What each of several processes sent, among the bytes of all in the order in which they were sent.
use Rattle.std.specs.Prelude.{ℕ, ◌≡◌, ◌<◌, ◌==◌, List, ◌++◌, Some, length, map, slice_get}
use Rattle.std.specs.List.{All, filter}
use Rattle.vax_flat.specs.Parts.{machine_at}
use Rattle.vax_flat.specs.Step.{Flat}
use Rattle.vax_jobs.specs.Shared.{Process, Sent, Shared}

-- the bytes of one process
abbrev pub bytes_of : ℕ → List Sent → List ℕ
bytes_of job sent = map (λ (x : Sent). x.byte) (filter (λ (x : Sent). x.job == job) sent)

-- these bytes are several outputs, taken in turns: those of each process are its output, and none are of another
pub record AreOutputs (outputs : List (List ℕ)) (sent : List Sent) : Type 0 where
  pub each : (job : ℕ) → (output : List ℕ) → slice_get outputs job ≡ Some output → bytes_of job sent ≡ output
  pub only : All (λ (x : Sent). x.job < length outputs) sent

-- each process has sent what the output of its flat machine has behind that of the start
pub record HaveSent (starts : List Flat) (s : Shared) : Type 0 where
  pub count : length s.processes ≡ length starts
  pub each : (job : ℕ) → (start : Flat) → (p : Process) → slice_get starts job ≡ Some start → slice_get s.processes job ≡ Some p →
      (machine_at p.place).output ≡ start.output ++ bytes_of job s.sent
  pub only : All (λ (x : Sent). x.job < length starts) s.sent
