-- An entry that is put into a queue and removed again.
use Rattle.std.proofs.Common.{◌≡◌, ℕ, suc, zero, ◌/◌, ◌^◌, ◌==◌, Bool, None, List, refl, ap, sym, ◌∙◌, arith, inl, inr}
use Rattle.std.proofs.lemmas.Bool.{cases_eq, eq-eqb, ne_eqb}
use Rattle.vax_space.specs.declared.Access.TheVariants.{Read, Write}
use Rattle.vax_space.specs.declared.Area.{Area}
use Rattle.vax_space.specs.Reference.{violation}
use Rattle.vax_word.specs.declared.Codes.{Codes}
use Rattle.vax_word.specs.declared.Psl.{Psl}
use Rattle.vax_word.specs.declared.Size.TheVariants.{L}
use Rattle.vax_word.specs.Arithmetic.{compared}
use Rattle.vax_word.specs.Status.{codes_of, with_codes}
use Rattle.vax_word.proofs.StatusLemmas.{codes_of-packed}
use Rattle.vax_flat.specs.declared.Flow.TheVariants as flow
use Rattle.vax_flat.specs.declared.Operand.TheVariants.{Register}
use Rattle.vax_flat.specs.Memory.{after, byte_at, number, written, IsWhole}
use Rattle.vax_flat.specs.Port.{put, AreBytes}
use Rattle.vax_flat.specs.State.{State, with_conditions, mode}
use Rattle.vax_flat.specs.Accesses.{Leaf, Went}
use Rattle.vax_flat.specs.Outcome.{Outcome, Ends, outcome_of, unless_violated}
use Rattle.vax_flat.specs.Operand.{plus, asked, read_at, write_at}
use Rattle.vax_flat.specs.Queue.{inserted, removed}
use Rattle.vax_flat.specs.Rows.{stored, with_value}
use Rattle.vax_flat.specs.System.{probed}
use Rattle.vax_flat.specs.Step.{leaf}
use Rattle.vax_flat.proofs.Bytes.{put_back}
use Rattle.vax_flat.proofs.Memory.{whole_written}
use Rattle.vax_flat_laws.specs.Machines.{longword_at, AreApart}
use Rattle.vax_flat_laws.specs.Places.{put_and_removed, IsOutside, with_links, probe_codes}
use Rattle.vax_flat.proofs.Longwords.{allowed, bytes_are, read_back}
use Rattle.vax_flat_laws.proofs.Longwords.{stays_apart}

-- codes that are set are there
pub codes_set : (p : Psl) (k : Codes) → codes_of (with_codes p k) ≡ k
unfolding with_codes
codes_set p k = codes_of-packed (p.0 / 2 ^ 4) k

turned : (a b : ℕ) → AreApart a b → AreApart b a
turned a b apart =
    let one = apart.first in
    let two = apart.second in
    let near = apart.near in
    let far = apart.far in
    record { first = two; second = one; near = omega arith; far = omega arith }

bytes_put : (f : ℕ → ℕ) (a len v : ℕ) → AreBytes f → AreBytes (put f a len v)
unfolding put
bytes_put f a zero v bytes = bytes
bytes_put f a (suc len) v bytes = record {
  below = λ place.
      elim (cases_eq place a) [
        | inl e ↦ rw (eq-eqb place a e) (omega arith)
        | inr other ↦ rw (ne_eqb place a other) ((bytes_put f (after a) len (v / 256) bytes).below place)
      ];
}

module _ (entry predecessor : ℕ) (memory : List Area) (o : IsOutside entry predecessor memory) where
  abbrev successor : ℕ
  successor = longword_at memory predecessor

  abbrev f0 : ℕ → ℕ
  f0 = byte_at memory

  abbrev f1 : ℕ → ℕ
  f1 = put f0 entry 4 successor

  abbrev f2 : ℕ → ℕ
  f2 = put f1 (plus entry 4) 4 predecessor

  abbrev f3 : ℕ → ℕ
  f3 = put f2 (plus successor 4) 4 entry

  abbrev f4 : ℕ → ℕ
  f4 = put f3 predecessor 4 entry

  bytes2 : AreBytes f2
  bytes2 = bytes_put f1 (plus entry 4) 4 predecessor (bytes_put f0 entry 4 successor o.bytes)

  bytes3 : AreBytes f3
  bytes3 = bytes_put f2 (plus successor 4) 4 entry bytes2

  -- the entry's links are read back
  forward_link : number f4 entry 4 ≡ successor
  forward_link =
      stays_apart f3 predecessor entry entry (turned entry predecessor o.forward)
      ∙ (stays_apart f2 (plus successor 4) entry entry (turned entry (plus successor 4) o.backward)
      ∙ (stays_apart f1 (plus entry 4) predecessor entry o.links
      ∙ read_back f0 entry successor o.first o.successor))

  backward_link : number f4 (plus entry 4) 4 ≡ predecessor
  backward_link =
      stays_apart f3 predecessor entry (plus entry 4) (turned (plus entry 4) predecessor o.forward_back)
      ∙ (stays_apart f2 (plus successor 4) entry (plus entry 4) (turned (plus entry 4) (plus successor 4) o.backward_back)
      ∙ read_back f1 (plus entry 4) predecessor (let h = o.links.first in h) (o.forward.second))

  -- the neighbours' links come back
  predecessor_link : number f3 predecessor 4 ≡ successor
  predecessor_link =
      stays_apart f2 (plus successor 4) entry predecessor o.neighbours
      ∙ (stays_apart f1 (plus entry 4) predecessor predecessor o.forward_back
      ∙ stays_apart f0 entry successor predecessor o.forward)

  successor_link : number f2 (plus successor 4) 4 ≡ predecessor
  successor_link =
      stays_apart f1 (plus entry 4) predecessor (plus successor 4) o.backward_back
      ∙ (stays_apart f0 entry successor (plus successor 4) o.backward
      ∙ o.before)

  forward_put : put f4 predecessor 4 successor ≡ f3
  forward_put = ap (put f4 predecessor 4) (sym predecessor_link) ∙ put_back f3 predecessor 4 entry bytes3

  backward_put : put f3 (plus successor 4) 4 predecessor ≡ f2
  backward_put = ap (put f3 (plus successor 4) 4) (sym successor_link) ∙ put_back f2 (plus successor 4) 4 entry bytes2

-- what INSQUE writes
module _ (entry predecessor n : ℕ) (s u : State) (memory end : List Area) (o : IsOutside entry predecessor memory) (came : outcome_of (put_and_removed entry predecessor (Register n) s) memory ≡ Ends (Went flow.Done u) end) where
  abbrev next_entry : ℕ
  next_entry = longword_at memory predecessor

  abbrev m1 : List Area
  m1 = written memory entry 4 next_entry

  abbrev m2 : List Area
  m2 = written m1 (plus entry 4) 4 predecessor

  abbrev m3 : List Area
  m3 = written m2 (plus next_entry 4) 4 entry

  abbrev m4 : List Area
  m4 = written m3 predecessor 4 entry

  abbrev inserted_state : State
  inserted_state = with_conditions s (compared L next_entry predecessor)

  abbrev removing : Outcome Leaf
  removing = outcome_of (removed entry (Register n) inserted_state leaf) m4

  abbrev m : ℕ
  m = mode s

  abbrev last : Leaf
  last = Went flow.Done u

  inserts : unless_violated (violation memory predecessor 4 m Read)
      (unless_violated (violation memory entry 4 m Write)
      (unless_violated (violation m1 (plus entry 4) 4 m Write)
      (unless_violated (violation m2 (plus next_entry 4) 4 m Write)
      (unless_violated (violation m3 predecessor 4 m Write) removing)))) ≡ Ends last end
  unfolding inserted read_at write_at outcome_of
  inserts = came

  a0 : (violation memory predecessor 4 m Read ≡ None) × (unless_violated (violation memory entry 4 m Write) (unless_violated (violation m1 (plus entry 4) 4 m Write) (unless_violated (violation m2 (plus next_entry 4) 4 m Write) (unless_violated (violation m3 predecessor 4 m Write) removing))) ≡ Ends last end)
  a0 = allowed (violation memory predecessor 4 m Read) _ last end inserts

  a1 : (violation memory entry 4 m Write ≡ None) × (unless_violated (violation m1 (plus entry 4) 4 m Write) (unless_violated (violation m2 (plus next_entry 4) 4 m Write) (unless_violated (violation m3 predecessor 4 m Write) removing)) ≡ Ends last end)
  a1 = allowed (violation memory entry 4 m Write) _ last end a0.1

  a2 : (violation m1 (plus entry 4) 4 m Write ≡ None) × (unless_violated (violation m2 (plus next_entry 4) 4 m Write) (unless_violated (violation m3 predecessor 4 m Write) removing) ≡ Ends last end)
  a2 = allowed (violation m1 (plus entry 4) 4 m Write) _ last end a1.1

  a3 : (violation m2 (plus next_entry 4) 4 m Write ≡ None) × (unless_violated (violation m3 predecessor 4 m Write) removing ≡ Ends last end)
  a3 = allowed (violation m2 (plus next_entry 4) 4 m Write) _ last end a2.1

  a4 : (violation m3 predecessor 4 m Write ≡ None) × (removing ≡ Ends last end)
  a4 = allowed (violation m3 predecessor 4 m Write) _ last end a3.1

  whole1 : IsWhole m1
  whole1 = whole_written memory entry 4 next_entry o.whole

  whole2 : IsWhole m2
  whole2 = whole_written m1 (plus entry 4) 4 predecessor whole1

  whole3 : IsWhole m3
  whole3 = whole_written m2 (plus next_entry 4) 4 entry whole2

  whole4 : IsWhole m4
  whole4 = whole_written m3 predecessor 4 entry whole3

  are1 : byte_at m1 ≡ f1 entry predecessor memory o
  are1 = bytes_are memory m entry next_entry o.whole o.first a1.0

  are2 : byte_at m2 ≡ f2 entry predecessor memory o
  are2 = bytes_are m1 m (plus entry 4) predecessor whole1 o.links.first a2.0 ∙ ap (λ f. put f (plus entry 4) 4 predecessor) are1

  are3 : byte_at m3 ≡ f3 entry predecessor memory o
  are3 = bytes_are m2 m (plus next_entry 4) entry whole2 o.backward.second a3.0 ∙ ap (λ f. put f (plus next_entry 4) 4 entry) are2

  are4 : byte_at m4 ≡ f4 entry predecessor memory o
  are4 = bytes_are m3 m predecessor entry whole3 o.forward.second a4.0 ∙ ap (λ f. put f predecessor 4 entry) are3

  forward_is : longword_at m4 entry ≡ next_entry
  forward_is = ap (λ f. number f entry 4) are4 ∙ forward_link entry predecessor memory o

  backward_is : longword_at m4 (plus entry 4) ≡ predecessor
  backward_is = ap (λ f. number f (plus entry 4) 4) are4 ∙ backward_link entry predecessor memory o

  abbrev m5 : List Area
  m5 = written m4 predecessor 4 next_entry

  abbrev m6 : List Area
  m6 = written m5 (plus next_entry 4) 4 predecessor

  abbrev removed_state : State
  removed_state = with_conditions (with_value 4 n entry inserted_state) (record (compared L next_entry predecessor) { v = predecessor == entry })

  abbrev later : ℕ
  later = mode inserted_state

  abbrev removal : Outcome Leaf
  removal =
      unless_violated (violation m4 entry 4 later Read)
      (unless_violated (violation m4 (plus entry 4) 4 later Read)
      (unless_violated (violation m4 predecessor 4 later Write)
      (unless_violated (violation m5 (plus next_entry 4) 4 later Write) (outcome_of (leaf flow.Done removed_state) m6))))

  removing_is : removing ≡ removal
  unfolding removed read_at write_at stored outcome_of
  removing_is = rw (forward_is, backward_is) refl

  removes : removal ≡ Ends last end
  removes = sym removing_is ∙ a4.1

  b0 : (violation m4 entry 4 later Read ≡ None) × (unless_violated (violation m4 (plus entry 4) 4 later Read) (unless_violated (violation m4 predecessor 4 later Write) (unless_violated (violation m5 (plus next_entry 4) 4 later Write) (outcome_of (leaf flow.Done removed_state) m6))) ≡ Ends last end)
  b0 = allowed (violation m4 entry 4 later Read) _ last end removes

  b1 : (violation m4 (plus entry 4) 4 later Read ≡ None) × (unless_violated (violation m4 predecessor 4 later Write) (unless_violated (violation m5 (plus next_entry 4) 4 later Write) (outcome_of (leaf flow.Done removed_state) m6)) ≡ Ends last end)
  b1 = allowed (violation m4 (plus entry 4) 4 later Read) _ last end b0.1

  b2 : (violation m4 predecessor 4 later Write ≡ None) × (unless_violated (violation m5 (plus next_entry 4) 4 later Write) (outcome_of (leaf flow.Done removed_state) m6) ≡ Ends last end)
  b2 = allowed (violation m4 predecessor 4 later Write) _ last end b1.1

  b3 : (violation m5 (plus next_entry 4) 4 later Write ≡ None) × (outcome_of (leaf flow.Done removed_state) m6 ≡ Ends last end)
  b3 = allowed (violation m5 (plus next_entry 4) 4 later Write) _ last end b2.1

  are5 : byte_at m5 ≡ f3 entry predecessor memory o
  are5 =
      bytes_are m4 later predecessor next_entry whole4 o.forward.second b2.0
      ∙ (ap (λ f. put f predecessor 4 next_entry) are4 ∙ forward_put entry predecessor memory o)

  are6 : byte_at m6 ≡ f2 entry predecessor memory o
  are6 =
      bytes_are m5 later (plus next_entry 4) predecessor (whole_written m4 predecessor 4 next_entry whole4) o.backward.second b3.0
      ∙ (ap (λ f. put f (plus next_entry 4) 4 predecessor) are5 ∙ backward_put entry predecessor memory o)

  memory_last : m6 ≡ end
  unfolding outcome_of
  memory_last = let e = b3.1 in cc

  pub links_alone : byte_at end ≡ with_links entry predecessor memory
  links_alone = ap byte_at (sym memory_last) ∙ are6

-- ---- REMQUE's V

pub emptiness : (entry n : ℕ) (s t : State) (memory end : List Area) → outcome_of (removed entry (Register n) s leaf) memory ≡ Ends (Went flow.Done t) end → (codes_of t.core.psl).v ≡ (longword_at memory (plus entry 4) == entry)
unfolding removed read_at write_at stored outcome_of
emptiness entry n s t memory end came =
    let f = longword_at memory entry in
    let b = longword_at memory (plus entry 4) in
    let h0 = allowed (violation memory entry 4 (mode s) Read) _ (Went flow.Done t) end came in
    let h1 = allowed (violation memory (plus entry 4) 4 (mode s) Read) _ (Went flow.Done t) end h0.1 in
    let h2 = allowed (violation memory b 4 (mode s) Write) _ (Went flow.Done t) end h1.1 in
    let h3 = allowed (violation (written memory b 4 f) (plus f 4) 4 (mode s) Write) _ (Went flow.Done t) end h2.1 in
    let k : Codes = record (compared L f b) { v = b == entry } in
    let same : with_conditions (with_value 4 n entry s) k ≡ t = let e = h3.1 in cc in
    ap (λ u. (codes_of u.core.psl).v) (sym same) ∙ ap (λ c. c.v) (codes_set (with_value 4 n entry s).core.psl k)

-- ---- PROBE's codes

pub probed_codes : (writing : Bool) (m length base : ℕ) (s t : State) (memory end : List Area) → outcome_of (probed writing m length base s leaf) memory ≡ Ends (Went flow.Done t) end →
    codes_of t.core.psl ≡ probe_codes writing m length base memory (codes_of s.core.psl).c
unfolding probed asked outcome_of
probed_codes writing m length base s t memory end came =
    let k : Codes = probe_codes writing m length base memory (codes_of s.core.psl).c in
    let same : with_conditions s k ≡ t = cc in
    ap (λ u. codes_of u.core.psl) (sym same) ∙ codes_set s.core.psl k
