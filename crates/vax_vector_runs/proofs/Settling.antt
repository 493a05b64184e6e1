-- Attempts at a step while more and more pages are resident, and what the last of them came to.
use Rattle.std.proofs.Common.{◌≡◌, ◌≤◌, ◌⊎◌, inl, inr, ℕ, Bool, true, Option, Some, None, Result, Ok, Err, List, [], ◌∷◌, ◌++◌, get_or, length, map, false, refl, sym, ap, subst, ◌∙◌, arith, IsTrue}
use Rattle.std.specs.Prelude.{is_some, All, IfOk, vec_len}
use Rattle.vax_word.specs.declared.Core.{Core}
use Rattle.vax_space.specs.declared.Area.{Area}
use Rattle.vax_space.specs.Areas.{area_of as area_with}
use Rattle.vax_space.specs.Reference.{page_of}
use Rattle.vax_flat.specs.declared.Ending.{Ending}
use Rattle.vax_flat.specs.declared.Flow.TheVariants as flow
use Rattle.vax_flat.specs.Accesses.{Leaf, Went, Found}
use Rattle.vax_flat.specs.Memory.{byte_at}
use Rattle.vax_flat.specs.Outcome.{Outcome, Ends, Raised, first_missing}
use Rattle.vax_flat.specs.Parts.{At, part_step, Partway, Leaves, outcome_at, touches_at, turn_from, units_after}
use Rattle.vax_flat.specs.Port.{View, StandsFor, layout, with_marks}
use Rattle.vax_flat.specs.Step.{Flat, with_byte_sent}
use Rattle.vax_undo.specs.Plain.{with_page}
use Rattle.vax_undo.specs.declared.term.Term.{Term}
use Rattle.vax_undo.specs.Trail.{Traced, Trail, KeptUpTo}
use Rattle.vax_cpu.specs.declared.cpu.Attempt.{Attempt}
use Rattle.vax_cpu.specs.declared.cpu.Attempt.TheVariants as attempt
use Rattle.vax_cpu.specs.declared.cpu.Cpu.{Cpu}
use Rattle.vax_cpu.specs.declared.cpu.Open.{Open}
use Rattle.vax_cpu.specs.Tried.{start_by, tree_of}
use Rattle.vax_cpu.specs.Trail.{Trailed, traced_of}
use Rattle.vax_cpu.specs.Attempt.{Attempted, IsAsBefore, IsAt, LeavesMemory, flat_of}
use Rattle.vax_vectors.specs.declared.vector.Cell.{Cell}
use Rattle.vax_vectors.specs.declared.vector.End.{End}
use Rattle.vax_vectors.specs.declared.vector.Ends.TheVariants as told
use Rattle.vax_vectors.specs.Truth.{AreInOrder, EndsBy, IsAsBefore as IsUnchanged, IsLeft, IsThere, bytes_after, first_out, is_among, page_missed, pages_after}
use Rattle.vax_vector_memory.specs.declared.recorder.Recorder.{Recorder}
use Rattle.vax_vector_runs.specs.declared.settle.Settled.{Settled}
use Rattle.vax_vector_runs.specs.Attempts.{IsReady, IsRecord, IsSettled, IsSettling}
use Rattle.vax_vector_runs.specs.Ends.{EndsWell, IsCell, IsStart}
use Rattle.vax_vectors.specs.declared.vector.Ends.{Ends as HowEnded}
use Rattle.vax_vectors.specs.declared.vector.Touch.{Touch}
use Rattle.vax_vector_memory.specs.Record.{IsKept, Since, made_of, most_kept, trail_by, trail_of, view_of}
use Rattle.vax_vector_runs.specs.Exact.{ExactBy, begin_at}
use Rattle.vax_vector_memory.specs.Seen.{seen}
use Rattle.vax_vector_memory.proofs.Keeping.{since_refl}
use Rattle.vax_vector_runs.proofs.Order.{IsBegun, among-push, begun_all, begun_more, begun_none}

-- the step's first pages are found, and the processor is still at its start
pub record IsGoing (m : Flat) (space : List Area) (touched : List ℕ) (cpu : Cpu) (memory : Recorder) : Type 0 where
  pub ready : IsReady m space touched cpu memory
  pub begun : IsBegun (touches_at (At m)) touched

pub going_first : {m : Flat} {space : List Area} {cpu : Cpu} {memory : Recorder} (touched : List ℕ) → touched ≡ [] → IsReady m space [] cpu memory → IsGoing m space touched cpu memory
going_first {m} {space} {cpu} {memory} touched none ready =
    subst (λ (ps : List ℕ). IsGoing m space ps cpu memory) (sym none) (record { ready = ready; begun = begun_none (touches_at (At m)) })

seen_more : (space memory : List Area) (touched : List ℕ) (page : ℕ) (v0 v1 v2 : View) → v0 ≡ seen space memory touched → v1 ≡ with_marks v0 v1.marked → v1.marked ≡ (λ p. true)
    → is_some (area_with v0.areas page) ≡ true → v2 ≡ with_page v1 page (is_some (area_with v1.areas page)) → v2 ≡ seen space memory (touched ++ page ∷ [])
seen_more space memory touched page v0 v1 v2 was marks all there now =
    let same : v1 ≡ seen space memory touched =
    marks ∙ (ap (λ (k : ℕ → Bool). with_marks v0 k) all ∙ ap (λ (v : View). with_marks v (λ p. true)) was) in
    let some : is_some (area_with v1.areas page) ≡ true = ap (λ (v : View). is_some (area_with v.areas page)) marks ∙ there in
    now
    ∙ (ap (λ (b : Bool). with_page v1 page b) some
    ∙ (ap (λ (v : View). with_page v page true) same
    ∙ ap (λ (r : ℕ → Bool). record (seen space memory touched) { resident = r }) (sym (among-push touched page))))

-- the memory for which it stands
pub stands_seen : {m : Flat} {space : List Area} {touched : List ℕ} {cpu : Cpu} {memory : Recorder} → IsReady m space touched cpu memory → StandsFor (seen space m.memory touched) m.memory
stands_seen ready = record { areas = ready.areas; bytes = λ addr here. refl; whole = ready.whole }

pub at_start : {m : Flat} {space : List Area} {touched : List ℕ} {cpu : Cpu} {memory : Recorder} → IsReady m space touched cpu memory → IsAt cpu (At m)
at_start {m} {space} {touched} {cpu} {memory} ready = record {
  open_one = ready.closed;
  machine = ap (λ (o : List ℕ). flat_of cpu m.memory o) (sym (ap (λ (x : Flat). x.output) ready.machine)) ∙ ready.machine;
}

-- the memory forgets what it kept
pub ready_again : {m : Flat} {space : List Area} {touched : List ℕ} {cpu : Cpu} {memory : Recorder} (fresh : Recorder) → view_of fresh ≡ view_of memory → IsReady m space touched cpu memory → IsReady m space touched cpu fresh
ready_again fresh same ready = record { machine = ready.machine; closed = ready.closed; view = same ∙ ready.view; areas = ready.areas; bare = ready.bare; whole = ready.whole }

pub tried : {m : Flat} {space : List Area} {touched : List ℕ} {cpu : Cpu} {memory : Recorder} (a : Attempt) (next : Cpu) (after : View) (ready : IsReady m space touched cpu memory)
    → (StandsFor (view_of memory) m.memory → Attempted (view_of memory) (At m) a next after) → Attempted (seen space m.memory touched) (At m) a next after
tried {m} {space} {touched} {cpu} {memory} a next after ready so =
    subst (λ (v : View). Attempted v (At m) a next after) ready.view (so (subst (λ (v : View). StandsFor v m.memory) (sym ready.view) (stands_seen ready)))

-- a page more
pub going_on : {m : Flat} {space : List Area} {touched : List ℕ} {cpu : Cpu} {memory : Recorder} (page : ℕ) (next : Cpu) (after shown : Recorder) (more : List ℕ)
    (ready : IsReady m space touched cpu memory) → IsBegun (touches_at (At m)) touched
    → Attempted (seen space m.memory touched) (At m) (attempt.Absent page) next (view_of after)
    → IsAsBefore (attempt.Absent page) cpu (view_of memory) next (view_of after)
    → is_some (area_with (view_of memory).areas page) ≡ true
    → next.latch ≡ cpu.latch
    → view_of shown ≡ with_page (view_of after) page (is_some (area_with (view_of after).areas page))
    → more ≡ touched ++ page ∷ []
    → IsGoing m space more next shown
going_on {m} {space} {touched} {cpu} {memory} page next after shown more ready begun attempted before there latch now is =
    subst (λ (ps : List ℕ). IsGoing m space ps next shown) (sym is) (record {
      ready = record {
        machine = ap (λ (x : Flat). record x { memory = m.memory }) before.0 ∙ ready.machine;
        closed = latch ∙ ready.closed;
        view = seen_more space m.memory touched page (view_of memory) (view_of after) (view_of shown) ready.view before.1 refl there now;
        areas = ready.areas;
        bare = ready.bare;
        whole = ready.whole;
      };
      begun = begun_more (touches_at (At m)) touched page begun attempted.0;
    })

pub is_settling : (a : Attempt) → ((sent : Option ℕ) × (a ≡ attempt.Step sent)) ⊎ ((a ≡ attempt.Part) ⊎ ((e : Ending) × (a ≡ attempt.Ended e))) → IsSettling a
is_settling a (inl step) = subst IsSettling (sym step.1) tt
is_settling a (inr (inl part)) = subst IsSettling (sym part) tt
is_settling a (inr (inr ended)) = subst IsSettling (sym ended.1) tt

none_missed : (before : View) (m : Flat) (a : Attempt) (next : Cpu) (after : View) → IsSettling a → Attempted before (At m) a next after → first_missing before.resident (touches_at (At m)) ≡ None
none_missed before m (attempt.Step sent) next after so attempted = attempted.0
none_missed before m attempt.Part next after so attempted = attempted.0
none_missed before m (attempt.Absent page) next after so attempted = absurd so
none_missed before m (attempt.Ended e) next after so attempted = attempted.0

recorded : (m : Flat) (fresh after : Recorder) → fresh.touches.items ≡ [] → (view_of fresh).byte ≡ byte_at m.memory → IsKept fresh after → IsRecord m after
recorded m fresh after none bytes kept =
    let all : kept.touches ≡ after.touches.items = sym (kept.more ∙ ap (λ ts. ts ++ kept.touches) none) in record {
      order = subst (λ ts. AreInOrder (byte_at m.memory) ts) all (subst (λ (f : ℕ → ℕ). AreInOrder f kept.touches) bytes kept.order);
      bytes = kept.bytes ∙ (ap (λ (f : ℕ → ℕ). bytes_after f kept.touches) bytes ∙ ap (λ ts. bytes_after (byte_at m.memory) ts) all);
    }

all_kept : (complete : Bool) (touches : List Touch) → IsTrue complete → touches ≡ [] → trail_by complete touches ≡ KeptUpTo most_kept []
all_kept true touches all none = ap (λ ts. KeptUpTo most_kept (map made_of ts)) none
all_kept false touches all none = let no : false ≡ true = all in cc

-- where an attempt begins
begun_at : {m : Flat} {space : List Area} {touched : List ℕ} {cpu : Cpu} (fresh : Recorder) → IsReady m space touched cpu fresh → cpu.term.out ≡ None → fresh.touches.items ≡ [] → IsTrue fresh.complete
    → traced_of view_of trail_of cpu.core cpu.term fresh ≡ begin_at m space touched
begun_at {m} {space} {touched} {cpu} fresh ready unsent none all =
    ap (λ (x : Flat). record { state = record { core = x.core; input = x.input; taken = x.taken; sent = cpu.term.out }; view = view_of fresh; trail = trail_of fresh }) ready.machine
    ∙ (ap (λ (o : Option ℕ). record { state = record { core = m.core; input = m.input; taken = m.taken; sent = o }; view = view_of fresh; trail = trail_of fresh }) unsent
    ∙ (ap (λ (v : View). record { state = (begin_at m space touched).state; view = v; trail = trail_of fresh }) ready.view
    ∙ ap (λ (t : Trail). record { state = (begin_at m space touched).state; view = seen space m.memory touched; trail = t }) (all_kept fresh.complete fresh.touches.items all none)))

trailed_at : {m : Flat} {space : List Area} {touched : List ℕ} {cpu : Cpu} (fresh : Recorder) (a : Attempt) (trail : Trail) → IsReady m space touched cpu fresh → cpu.term.out ≡ None → fresh.touches.items ≡ [] → IsTrue fresh.complete
    → Trailed (tree_of cpu.latch) (start_by cpu.latch cpu.core) (traced_of view_of trail_of cpu.core cpu.term fresh) a trail → Trailed part_step m.core (begin_at m space touched) a trail
trailed_at {m} {space} {touched} {cpu} fresh a trail ready unsent none all made =
    subst (λ (t : Traced). Trailed part_step m.core t a trail) (begun_at fresh ready unsent none all)
    (subst (λ (x : Flat). Trailed part_step x.core (traced_of view_of trail_of cpu.core cpu.term fresh) a trail) ready.machine
    (subst (λ (l : Option Open). Trailed (tree_of l) (start_by l cpu.core) (traced_of view_of trail_of cpu.core cpu.term fresh) a trail) ready.closed made))

-- the attempt that doesn't stop
pub settled : {m : Flat} {space : List Area} {touched : List ℕ} {cpu : Cpu} {fresh : Recorder} (s : Settled) (next : Cpu) (after : Recorder)
    (ready : IsReady m space touched cpu fresh) → IsBegun (touches_at (At m)) touched → fresh.touches.items ≡ [] → IsTrue fresh.complete
    → s.touched.items ≡ touched → IsSettling s.attempt
    → Attempted (seen space m.memory touched) (At m) s.attempt next (view_of after)
    → (Since fresh fresh → Since fresh after)
    → cpu.term.out ≡ None
    → Trailed (tree_of cpu.latch) (start_by cpu.latch cpu.core) (traced_of view_of trail_of cpu.core cpu.term fresh) s.attempt (trail_of after)
    → IsSettled m space s next after
settled {m} {space} {touched} {cpu} {fresh} s next after ready begun none all is so attempted since unsent made = record {
  order = subst (λ ps. (resident : ℕ → Bool) → first_missing resident (touches_at (At m)) ≡ first_out resident ps) (sym is)
      (begun_all (touches_at (At m)) touched begun (none_missed (seen space m.memory touched) m s.attempt next (view_of after) so attempted));
  settling = so;
  attempted = subst (λ ps. Attempted (seen space m.memory ps) (At m) s.attempt next (view_of after)) (sym is) attempted;
  kept = λ complete. recorded m fresh after none (ap (λ (v : View). v.byte) ready.view) (since (λ _. since_refl fresh all) complete);
  trail = subst (λ ps. Trailed part_step m.core (begin_at m space ps) s.attempt (trail_of after)) (sym is) (trailed_at fresh s.attempt (trail_of after) ready unsent none all made);
  areas = ready.areas;
  bare = ready.bare;
}

-- what a part leaves of a machine
left_so : (m : Flat) (units : ℕ) (o : Outcome Leaf) (q : Partway) → turn_from m units o ≡ Leaves q
    → q ≡ record { opcode = q.opcode; start = m.core; units = q.units; now = record m { core = q.now.core; memory = q.now.memory; taken = q.now.taken } }
left_so m units (Ends (Went flow.Done s) memory) q e = absurd (cc)
left_so m units (Ends (Went flow.Clocked s) memory) q e = absurd (cc)
left_so m units (Ends (Went (flow.Trap kind) s) memory) q e = absurd (cc)
left_so m units (Ends (Went (flow.More opcode more) s) memory) q e =
    let k : record { opcode = opcode; start = m.core; units = units_after units more; now = record m { core = s.core; memory = memory; taken = s.taken } } ≡ q = cc in
    subst (λ (z : Partway). z ≡ record { opcode = z.opcode; start = m.core; units = z.units; now = record m { core = z.now.core; memory = z.now.memory; taken = z.now.taken } }) k refl
left_so m units (Ends (Went (flow.Ended x) s) memory) q e = absurd (cc)
left_so m units (Ends (Found operand s) memory) q e = absurd (cc)
left_so m units (Raised x) q e = absurd (cc)

every : {A : Type 0} (P Q : A → Type 0) → ((x : A) → P x → Q x) → (xs : List A) → All P xs → All Q xs
every P Q f xs all = λ k d below. f (get_or xs k d) (all k d below)

all_there : (touched : List ℕ) (byte : ℕ → ℕ) (memory : List Area) → ((addr : ℕ) → is_among touched (page_of addr) ≡ true → byte addr ≡ byte_at memory addr) → (cells : List Cell) → All (IsCell touched byte) cells → All (IsThere memory) cells
all_there touched byte memory same cells all = every (IsCell touched byte) (IsThere memory) (λ cell is. sym (same cell.addr is.inside) ∙ is.is) cells all

-- the memory that a step or a part leaves
left : {m : Flat} {space : List Area} {touched : List ℕ} {memory : Recorder} (end : End) (now : List Area) → LeavesMemory (seen space m.memory touched) (At m) now (view_of memory)
    → IsRecord m memory → layout m.memory ≡ layout space → end.touches.items ≡ memory.touches.items → pages_after [] end.touches.items ≡ touched
    → All (IsCell touched (view_of memory).byte) end.ram.items → IsLeft m touched end now
left {m} {space} {touched} {memory} end now leaves record_of areas same pages cells =
    let there : (addr : ℕ) → is_among touched (page_of addr) ≡ true → (view_of memory).byte addr ≡ byte_at now addr =
    λ addr here. leaves.stands.bytes addr (ap (λ (r : ℕ → Bool). r (page_of addr)) leaves.resident ∙ here) in record {
      areas = leaves.stands.areas ∙ (ap layout leaves.areas ∙ sym areas);
      inside = λ addr here. sym (there addr here) ∙ (ap (λ (f : ℕ → ℕ). f addr) record_of.bytes ∙ ap (λ ts. bytes_after (byte_at m.memory) ts addr) (sym same));
      outside = leaves.absent;
      accesses = subst (λ ts. AreInOrder (byte_at m.memory) ts) (sym same) record_of.order;
      pages = pages;
      cells = all_there touched (view_of memory).byte now there end.ram.items cells;
    }

kept_are : (complete : Bool) (kept touches : List Touch) → IsTrue complete → touches ≡ kept → trail_by complete kept ≡ KeptUpTo most_kept (map made_of touches)
kept_are true kept touches all same = ap (λ ts. KeptUpTo most_kept (map made_of ts)) (sym same)
kept_are false kept touches all same = let no : false ≡ true = all in cc

module _ {m : Flat} {space : List Area} {s : Settled} {cpu : Cpu} {memory : Recorder} (all : IsSettled m space s cpu memory) (core : Core) (start : IsStart m core)
    (input : cpu.term.input.items ≡ []) (taken : cpu.term.place ≡ 0) where
  same_flat : (now : List Area) (output : List ℕ) → flat_of cpu now output ≡ record m { core = cpu.core; memory = now; output = output }
  same_flat now output =
      ap (λ (i : List ℕ). record (flat_of cpu now output) { input = i }) (input ∙ sym start.input)
      ∙ (ap (λ (t : ℕ). record m { core = cpu.core; memory = now; taken = t; output = output; ending = None }) (taken ∙ sym start.taken)
      ∙ ap (λ (e : Option Ending). record m { core = cpu.core; memory = now; output = output; ending = e }) (sym start.ending))

  -- the accesses that are kept are all
  exact_at : (a : Attempt) (touches : List Touch) → s.attempt ≡ a → IsTrue memory.complete → touches ≡ memory.touches.items → Trailed part_step m.core (begin_at m (layout m.memory) s.touched.items) a (KeptUpTo most_kept (map made_of touches))
  exact_at a touches is complete same =
      subst (λ (t : Trail). Trailed part_step m.core (begin_at m (layout m.memory) s.touched.items) a t) (kept_are memory.complete memory.touches.items touches complete same)
      (subst (λ (areas : List Area). Trailed part_step m.core (begin_at m areas s.touched.items) a (trail_of memory)) (sym (all.areas ∙ all.bare))
      (subst (λ (x : Attempt). Trailed part_step m.core (begin_at m space s.touched.items) x (trail_of memory)) is all.trail))

  -- a step that was completed
  pub step_ends : (end : End) (sent : Option ℕ) → s.attempt ≡ attempt.Step sent → end.core ≡ cpu.core → end.ends ≡ told.Step sent → IsTrue memory.complete × (end.touches.items ≡ memory.touches.items)
      → pages_after [] end.touches.items ≡ s.touched.items → All (IsCell s.touched.items (view_of memory).byte) end.ram.items → EndsWell m s.touched.items end
  step_ends end sent is core_is ends kept pages cells =
      let a = subst (λ (x : Attempt). Attempted (seen space m.memory s.touched.items) (At m) x cpu (view_of memory)) is all.attempted in
      let goes = a.1.step m start.ending refl ∙ (same_flat a.1.memory (with_byte_sent m.output sent) ∙ ap (λ (c : Core). record m { core = c; memory = a.1.memory; output = with_byte_sent m.output sent }) (sym core_is)) in
      record {
        found = ap page_missed ends;
        ends = subst (λ e. EndsBy m s.touched.items end e) (sym ends) (a.1.memory, goes, left end a.1.memory a.1.leaves (all.kept kept.0) all.areas kept.1 pages cells);
        exact = subst (λ (e : HowEnded). ExactBy m s.touched.items e (map made_of end.touches.items)) (sym ends) (exact_at (attempt.Step sent) end.touches.items is kept.0 kept.1);
      }

  -- a part of a step
  pub part_ends : (end : End) (open_one : Open) → s.attempt ≡ attempt.Part → cpu.latch ≡ Some open_one → end.core ≡ cpu.core → end.ends ≡ told.Part open_one.opcode open_one.units
      → IsTrue memory.complete × (end.touches.items ≡ memory.touches.items) → pages_after [] end.touches.items ≡ s.touched.items
      → All (IsCell s.touched.items (view_of memory).byte) end.ram.items → EndsWell m s.touched.items end
  part_ends end open_one is latch core_is ends kept pages cells =
      let a = subst (λ (x : Attempt). Attempted (seen space m.memory s.touched.items) (At m) x cpu (view_of memory)) is all.attempted in
      let q = a.1.next in
      let held : Some open_one ≡ Some (record { opcode = q.opcode; start = q.start; units = q.units }) = sym latch ∙ a.1.at.open_one in
      let one : open_one ≡ record { opcode = q.opcode; start = q.start; units = q.units } = cc in
      let taken_is : q.now.taken ≡ m.taken = sym (ap (λ (x : Flat). x.taken) a.1.at.machine) ∙ (taken ∙ sym start.taken) in
      let core_there : q.now.core ≡ end.core = sym (ap (λ (x : Flat). x.core) a.1.at.machine) ∙ sym core_is in
      let shape = left_so m 0 (outcome_at (At m)) q a.1.turn in
      let goes = a.1.turn ∙ ap (λ (x : Partway). Leaves x) (shape
      ∙ (ap (λ (t : ℕ). record { opcode = q.opcode; start = m.core; units = q.units; now = record m { core = q.now.core; memory = q.now.memory; taken = t } }) taken_is
      ∙ (ap (λ (c : Core). record { opcode = q.opcode; start = m.core; units = q.units; now = record m { core = c; memory = q.now.memory } }) core_there
      ∙ ap (λ (o : Open). record { opcode = o.opcode; start = m.core; units = o.units; now = record m { core = end.core; memory = q.now.memory } }) (sym one)))) in
      record {
        found = ap page_missed ends;
        ends = subst (λ e. EndsBy m s.touched.items end e) (sym ends) (q.now.memory, goes, left end q.now.memory a.1.leaves (all.kept kept.0) all.areas kept.1 pages cells);
        exact = subst (λ (e : HowEnded). ExactBy m s.touched.items e (map made_of end.touches.items)) (sym ends) (exact_at attempt.Part end.touches.items is kept.0 kept.1);
      }

  -- a step that ends the run
  pub run_ends : (end : End) (e : Ending) → s.attempt ≡ attempt.Ended e → end.core ≡ core → end.ram.items ≡ [] → end.touches.items ≡ [] → end.ends ≡ told.Ended e → EndsWell m s.touched.items end
  run_ends end e is core_is none quiet ends =
      let a = subst (λ (x : Attempt). Attempted (seen space m.memory s.touched.items) (At m) x cpu (view_of memory)) is all.attempted in
      let same : IsUnchanged m end = record { registers = core_is ∙ sym start.core_is; touches = quiet; cells = subst (All (IsThere m.memory)) (sym none) (λ k d below. absurd (omega arith)) } in
      record {
        found = ap page_missed ends;
        ends = subst (λ x. EndsBy m s.touched.items end x) (sym ends) (a.1.step m start.ending refl, same);
        exact = subst (λ (x : HowEnded). ExactBy m s.touched.items x (map made_of end.touches.items)) (sym ends) (ap (map made_of) quiet);
      }

  -- what is told of these, where nothing fails
  pub step_told : {E : Type 0} (r : Result End E) (touched : List ℕ) (sent : Option ℕ) → touched ≡ s.touched.items → s.attempt ≡ attempt.Step sent
      → IfOk r (λ end. end.core ≡ cpu.core) → IfOk r (λ end. end.ends ≡ told.Step sent) → IfOk r (λ end. IsTrue memory.complete × (end.touches.items ≡ memory.touches.items))
      → IfOk r (λ end. pages_after [] end.touches.items ≡ touched) → IfOk r (λ end. All (IsCell touched (view_of memory).byte) end.ram.items) → IfOk r (EndsWell m s.touched.items)
  step_told (Ok end) touched sent same is core_is ends kept pages cells =
      step_ends end sent is core_is ends kept (pages ∙ same) (subst (λ (ts : List ℕ). All (IsCell ts (view_of memory).byte) end.ram.items) same cells)
  step_told (Err e) touched sent same is core_is ends kept pages cells = tt

  pub part_told : {E : Type 0} (r : Result End E) (touched : List ℕ) (open_one : Open) → touched ≡ s.touched.items → s.attempt ≡ attempt.Part → cpu.latch ≡ Some open_one
      → IfOk r (λ end. end.core ≡ cpu.core) → IfOk r (λ end. end.ends ≡ told.Part open_one.opcode open_one.units) → IfOk r (λ end. IsTrue memory.complete × (end.touches.items ≡ memory.touches.items))
      → IfOk r (λ end. pages_after [] end.touches.items ≡ touched) → IfOk r (λ end. All (IsCell touched (view_of memory).byte) end.ram.items) → IfOk r (EndsWell m s.touched.items)
  part_told (Ok end) touched open_one same is latch core_is ends kept pages cells =
      part_ends end open_one is latch core_is ends kept (pages ∙ same) (subst (λ (ts : List ℕ). All (IsCell ts (view_of memory).byte) end.ram.items) same cells)
  part_told (Err e) touched open_one same is latch core_is ends kept pages cells = tt

-- of no input nothing was taken
pub none_taken : (term : Term) → vec_len term.input ≡ length term.input.items → term.input.items ≡ [] → term.place ≡ 0
none_taken term counted none =
    let within : term.place ≤ vec_len term.input = term.within in
    let empty : length term.input.items ≡ 0 = ap length none in
    omega (arith, within, empty, counted)
