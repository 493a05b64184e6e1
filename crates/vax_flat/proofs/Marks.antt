-- The pages that are marked after a tree are those of the written ranges of its touches.
use Rattle.std.proofs.Common.{◌≡◌, ℕ, Bool, true, false, Option, Some, None, List, [], ◌∷◌, ◌++◌, length, refl, sym}
use Rattle.vax_space.specs.declared.Access.TheVariants.{Read, Write}
use Rattle.vax_space.specs.declared.Area.{Area}
use Rattle.vax_space.specs.declared.Violation.{Violation}
use Rattle.vax_space.specs.Reference.{violation}
use Rattle.vax_flat.specs.Memory.{byte_at, number, bytes_from, written, written_run}
use Rattle.vax_flat.specs.Port.{View, StandsFor, first_absent, stop_of, with_number, with_run}
use Rattle.vax_flat.specs.Accesses.{Accesses, Done, Raises, Checks, Asks, Reads, Writes, ReadsRun, WritesRun}
use Rattle.vax_flat.specs.Outcome.{Range, touches_of, first_missing, unless_stopped, is_allowed, or_else, marked_after, unless_absent, marked_by}
use Rattle.vax_flat.specs.OverPort.{Arrival, marks_of, over_port, unless_hindered, unless_forbidden}
use Rattle.vax_flat.proofs.Alike.{violation-alike}
use Rattle.vax_flat.proofs.Standing.{same_number, same_bytes, stands_written, stands_written_run}

module _ {A : Type 0} (resident marked : ℕ → Bool) where
  allowed : (arrival : Arrival A) (v : Option Violation) (ranges : List Range) → marks_of arrival ≡ marked_by resident marked ranges → marks_of (unless_forbidden v marked arrival) ≡ marked_by resident marked (unless_stopped v ranges)
  unfolding marked_by
  allowed arrival (Some v) ranges next = refl
  allowed arrival None ranges next = next

  used : (arrival : Arrival A) (v : Option Violation) (p : Option ℕ) (range : Range) (ranges : List Range) → first_absent resident range.addr range.len ≡ p → (v ≡ None → p ≡ None → marks_of arrival ≡ marked_by resident (marked_after marked range) ranges) →
      marks_of (unless_hindered (stop_of v p) marked arrival) ≡ marked_by resident marked (unless_stopped v (range ∷ ranges))
  unfolding marked_by
  used arrival (Some v) p range ranges e next = refl
  used arrival None (Some page) range ranges e next = rw e refl
  used arrival None None range ranges e next = rw e (next refl refl)

pub marks_are : {A : Type 0} (tree : Accesses A) (view : View) (memory : List Area) → StandsFor view memory → marks_of (over_port tree view) ≡ marked_by view.resident view.marked (touches_of tree memory)
unfolding over_port touches_of marked_by
marks_are (Done x) view memory st = refl
marks_are (Raises e) view memory st = refl
marks_are (Checks addr len mode access next) view memory st =
    rw (violation-alike view.areas memory addr len mode access (sym st.areas))
    (allowed view.resident view.marked _ (violation memory addr len mode access) _ (marks_are next view memory st))
marks_are (Asks addr len mode access next) view memory st =
    rw (violation-alike view.areas memory addr len mode access (sym st.areas))
    (marks_are (next (is_allowed (violation memory addr len mode access))) view memory st)
marks_are (Reads addr len mode next) view memory st =
    rw (violation-alike view.areas memory addr len mode Read (sym st.areas))
    (used view.resident view.marked _ (violation memory addr len mode Read) (first_absent view.resident addr len) (record { addr = addr; len = len; writes = false }) _ refl
    (λ fine here. rw (same_number view memory addr len st here) (marks_are (next (number (byte_at memory) addr len)) view memory st)))
marks_are (Writes addr len value mode next) view memory st =
    rw (violation-alike view.areas memory addr len mode Write (sym st.areas))
    (used view.resident view.marked _ (violation memory addr len mode Write) (first_absent view.resident addr len) (record { addr = addr; len = len; writes = true }) _ refl
    (λ fine here. marks_are next (with_number view addr len value) (written memory addr len value) (stands_written view memory addr len value mode st fine)))
marks_are (ReadsRun addr len mode next) view memory st =
    rw (violation-alike view.areas memory addr len mode Read (sym st.areas))
    (used view.resident view.marked _ (violation memory addr len mode Read) (first_absent view.resident addr len) (record { addr = addr; len = len; writes = false }) _ refl
    (λ fine here. rw (same_bytes view memory addr len st here) (marks_are (next (bytes_from (byte_at memory) addr len)) view memory st)))
marks_are (WritesRun addr bytes mode next) view memory st =
    rw (violation-alike view.areas memory addr (length bytes) mode Write (sym st.areas))
    (used view.resident view.marked _ (violation memory addr (length bytes) mode Write) (first_absent view.resident addr (length bytes)) (record { addr = addr; len = length bytes; writes = true }) _ refl
    (λ fine here. marks_are next (with_run view addr bytes) (written_run memory addr bytes) (stands_written_run view memory addr bytes mode st fine)))

append_more : (resident : ℕ → Bool) (p first : Option ℕ) (marked all here : ℕ → Bool) (ys : List Range) → all ≡ unless_absent first here (marked_by resident here ys) →
    unless_absent p marked all ≡ unless_absent (or_else p first) (unless_absent p marked here) (marked_by resident (unless_absent p marked here) ys)
append_more resident (Some page) first marked all here ys e = refl
append_more resident None first marked all here ys e = e

pub marked_by-append : (resident marked : ℕ → Bool) (xs ys : List Range) → marked_by resident marked (xs ++ ys) ≡ unless_absent (first_missing resident xs) (marked_by resident marked xs) (marked_by resident (marked_by resident marked xs) ys)
unfolding marked_by first_missing
marked_by-append resident marked [] ys = refl
marked_by-append resident marked (x ∷ xs) ys =
    append_more resident (first_absent resident x.addr x.len) (first_missing resident xs) marked _ (marked_by resident (marked_after marked x) xs) ys
    (marked_by-append resident (marked_after marked x) xs ys)
