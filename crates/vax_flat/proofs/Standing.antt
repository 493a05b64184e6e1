-- What a tree of accesses comes to over a port is what it comes to on each memory that the port stands for, up to the first absent page.
use Rattle.std.proofs.Common.{◌≡◌, ℕ, suc, zero, Bool, true, false, cond, eqb, Option, Some, None, List, [], ◌∷◌, length, refl, sym, ap, ◌∙◌, inl, inr}
use Rattle.std.proofs.lemmas.Bool.{cases_Bool}
use Rattle.vax_space.specs.declared.Access.TheVariants.{Read, Write}
use Rattle.vax_space.specs.declared.Area.{Area}
use Rattle.vax_space.specs.declared.Violation.{Violation}
use Rattle.vax_space.specs.Reference.{page_of, violation}
use Rattle.vax_flat.specs.declared.Cut.TheVariants.{Absent, Event}
use Rattle.vax_flat.specs.Memory.{after, byte_at, number, bytes_from, written, written_run}
use Rattle.vax_flat.specs.Port.{View, StandsFor, first_absent, stop_of, put, put_run, with_number, with_run}
use Rattle.vax_flat.specs.Accesses.{Accesses, Done, Raises, Checks, Asks, Reads, Writes, ReadsRun, WritesRun}
use Rattle.vax_flat.specs.Outcome.{Outcome, Range, outcome_of, touches_of, first_missing, unless_stopped, unless_violated, is_allowed}
use Rattle.vax_flat.specs.OverPort.{Arrival, Comes, Stops, Agrees, over_port, unless_hindered, unless_forbidden}
use Rattle.vax_flat.proofs.Bytes.{put-absent, put_run-absent}
use Rattle.vax_flat.proofs.Alike.{violation-alike}
use Rattle.vax_flat.proofs.Memory.{layout-written, whole_written, byte_at-written, layout-written_run, whole_written_run, byte_at-written_run}

pub present_first : (resident : ℕ → Bool) (addr len : ℕ) → first_absent resident addr (suc len) ≡ None → (resident (page_of addr) ≡ true) × (first_absent resident (after addr) len ≡ None)
unfolding first_absent
present_first resident addr len h =
    elim (cases_Bool (resident (page_of addr))) [
      | inl here ↦ let rest : first_absent resident (after addr) len ≡ None = rw here at h in (here, rest)
      | inr gone ↦ let no : Some (page_of addr) ≡ None = rw gone at h in cc
    ]

-- what is read of resident pages is the memory's
pub same_number : (view : View) (memory : List Area) (addr len : ℕ) → StandsFor view memory → first_absent view.resident addr len ≡ None → number view.byte addr len ≡ number (byte_at memory) addr len
unfolding number
same_number view memory addr zero st h = refl
same_number view memory addr (suc len) st h =
    let p = present_first view.resident addr len h in
    let e : view.byte addr ≡ byte_at memory addr = st.bytes addr p.0 in
    rw (e, same_number view memory (after addr) len st p.1) refl

pub same_bytes : (view : View) (memory : List Area) (addr len : ℕ) → StandsFor view memory → first_absent view.resident addr len ≡ None → bytes_from view.byte addr len ≡ bytes_from (byte_at memory) addr len
unfolding bytes_from
same_bytes view memory addr zero st h = refl
same_bytes view memory addr (suc len) st h =
    let p = present_first view.resident addr len h in
    let e : view.byte addr ≡ byte_at memory addr = st.bytes addr p.0 in
    rw (e, same_bytes view memory (after addr) len st p.1) refl

same_put : (f g : ℕ → ℕ) (addr len value place : ℕ) → f place ≡ g place → put f addr len value place ≡ put g addr len value place
unfolding put
same_put f g addr zero value place e = e
same_put f g addr (suc len) value place e = ap (cond (eqb place addr) _) (same_put f g (after addr) len _ place e)

same_put_run : (f g : ℕ → ℕ) (addr : ℕ) (bytes : List ℕ) (place : ℕ) → f place ≡ g place → put_run f addr bytes place ≡ put_run g addr bytes place
unfolding put_run
same_put_run f g addr [] place e = e
same_put_run f g addr (b ∷ bs) place e = ap (cond (eqb place addr) b) (same_put_run f g (after addr) bs place e)

-- after a write the port stands for the memory with the bytes written
pub stands_written : (view : View) (memory : List Area) (addr len value mode : ℕ) → StandsFor view memory → violation memory addr len mode Write ≡ None → StandsFor (with_number view addr len value) (written memory addr len value)
stands_written view memory addr len value mode st allowed = record {
  areas = layout-written memory addr len value ∙ st.areas;
  bytes = λ place here. same_put view.byte (byte_at memory) addr len value place (st.bytes place here) ∙ sym (byte_at-written memory addr len value place mode Write st.whole allowed);
  whole = whole_written memory addr len value st.whole;
}

pub stands_written_run : (view : View) (memory : List Area) (addr : ℕ) (bytes : List ℕ) (mode : ℕ) → StandsFor view memory → violation memory addr (length bytes) mode Write ≡ None → StandsFor (with_run view addr bytes) (written_run memory addr bytes)
stands_written_run view memory addr bytes mode st allowed = record {
  areas = layout-written_run memory addr bytes ∙ st.areas;
  bytes = λ place here. same_put_run view.byte (byte_at memory) addr bytes place (st.bytes place here) ∙ sym (byte_at-written_run memory addr bytes place mode Write st.whole allowed);
  whole = whole_written_run memory addr bytes st.whole;
}

module _ {A : Type 0} (view : View) (memory : List Area) where
  allowed : (arrival : Arrival A) (outcome : Outcome A) (v : Option Violation) (ranges : List Range) → Agrees view memory arrival (first_missing view.resident ranges) outcome → Agrees view memory (unless_forbidden v view.marked arrival) (first_missing view.resident (unless_stopped v ranges)) (unless_violated v outcome)
  unfolding first_missing
  allowed arrival outcome (Some v) ranges next = (refl, refl)
  allowed arrival outcome None ranges next = next

  used : (arrival : Arrival A) (outcome : Outcome A) (v : Option Violation) (p : Option ℕ) (range : Range) (ranges : List Range) → first_absent view.resident range.addr range.len ≡ p → (v ≡ None → p ≡ None → Agrees view memory arrival (first_missing view.resident ranges) outcome) → Agrees view memory (unless_hindered (stop_of v p) view.marked arrival) (first_missing view.resident (unless_stopped v (range ∷ ranges))) (unless_violated v outcome)
  unfolding first_missing
  used arrival outcome (Some v) p range ranges e next = (refl, refl)
  used arrival outcome None (Some page) range ranges e next = rw e refl
  used arrival outcome None None range ranges e next = rw e (next refl refl)

  -- what agrees from a state later on agrees from here, where only bytes of resident pages were written between
  agrees_before : (later : View) (written : List Area) (arrival : Arrival A) (outcome : Outcome A) (first : Option ℕ) → later.resident ≡ view.resident → later.areas ≡ view.areas → ((addr : ℕ) → view.resident (page_of addr) ≡ false → byte_at written addr ≡ byte_at memory addr) → Agrees later written arrival first outcome → Agrees view memory arrival first outcome
  agrees_before later written (Comes x now) outcome first r s kept a =
      (a.0, a.1 ∙ r, a.2 ∙ s, (a.3.0, a.3.1, a.3.2, λ addr gone. a.3.3 addr (ap (λ f. f (page_of addr)) r ∙ gone) ∙ kept addr gone))
  agrees_before later written (Stops (Absent page) marked) outcome first r s kept a = a
  agrees_before later written (Stops (Event e) marked) outcome first r s kept a = a

pub standing : {A : Type 0} (tree : Accesses A) (view : View) (memory : List Area) → StandsFor view memory → Agrees view memory (over_port tree view) (first_missing view.resident (touches_of tree memory)) (outcome_of tree memory)
unfolding over_port touches_of outcome_of first_missing
standing (Done x) view memory st = (refl, refl, refl, (memory, refl, st, λ addr gone. refl))
standing (Raises e) view memory st = (refl, refl)
standing (Checks addr len mode access next) view memory st =
    rw (violation-alike view.areas memory addr len mode access (sym st.areas))
    (allowed view memory _ _ (violation memory addr len mode access) _ (standing next view memory st))
standing (Asks addr len mode access next) view memory st =
    rw (violation-alike view.areas memory addr len mode access (sym st.areas))
    (standing (next (is_allowed (violation memory addr len mode access))) view memory st)
standing (Reads addr len mode next) view memory st =
    rw (violation-alike view.areas memory addr len mode Read (sym st.areas))
    (used view memory _ _ (violation memory addr len mode Read) (first_absent view.resident addr len) (record { addr = addr; len = len; writes = false }) _ refl
    (λ fine here. rw (same_number view memory addr len st here) (standing (next (number (byte_at memory) addr len)) view memory st)))
standing (Writes addr len value mode next) view memory st =
    rw (violation-alike view.areas memory addr len mode Write (sym st.areas))
    (used view memory _ _ (violation memory addr len mode Write) (first_absent view.resident addr len) (record { addr = addr; len = len; writes = true }) _ refl
    (λ fine here. agrees_before view memory (with_number view addr len value) (written memory addr len value) _ _ _ refl refl
    (λ place gone. byte_at-written memory addr len value place mode Write st.whole fine ∙ put-absent view.resident (byte_at memory) addr len value place here gone)
    (standing next (with_number view addr len value) (written memory addr len value) (stands_written view memory addr len value mode st fine))))
standing (ReadsRun addr len mode next) view memory st =
    rw (violation-alike view.areas memory addr len mode Read (sym st.areas))
    (used view memory _ _ (violation memory addr len mode Read) (first_absent view.resident addr len) (record { addr = addr; len = len; writes = false }) _ refl
    (λ fine here. rw (same_bytes view memory addr len st here) (standing (next (bytes_from (byte_at memory) addr len)) view memory st)))
standing (WritesRun addr bytes mode next) view memory st =
    rw (violation-alike view.areas memory addr (length bytes) mode Write (sym st.areas))
    (used view memory _ _ (violation memory addr (length bytes) mode Write) (first_absent view.resident addr (length bytes)) (record { addr = addr; len = length bytes; writes = true }) _ refl
    (λ fine here. agrees_before view memory (with_run view addr bytes) (written_run memory addr bytes) _ _ _ refl refl
    (λ place gone. byte_at-written_run memory addr bytes place mode Write st.whole fine ∙ put_run-absent view.resident (byte_at memory) addr bytes place here gone)
    (standing next (with_run view addr bytes) (written_run memory addr bytes) (stands_written_run view memory addr bytes mode st fine))))
