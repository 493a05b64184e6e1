-- What a log tells of the registers at the start.
use Rattle.std.proofs.Common.{Bool, true, ◌≡◌, ℕ, ◌≤◌, ◌<◌, ◌^◌, ◌+◌, Option, Some, None, List, [], ◌∷◌, ◌++◌, length, refl, ap, sym, ◌∙◌}
use Rattle.std.specs.Prelude.{slice_set, vec_len}
use Rattle.std.specs.Global.{Vec}
use Rattle.std.proofs.Math.Bridge.{le_prop}
use Rattle.vax_word.specs.declared.Core.{Core}
use Rattle.vax_space.specs.declared.Area.{Area}
use Rattle.vax_space.specs.declared.Access.TheVariants.{Write}
use Rattle.vax_flat.specs.declared.Stop.{Stop}
use Rattle.vax_flat.specs.Port.{View, stop, stored_run, unless_cut, with_run}
use Rattle.vax_flat.specs.OverPort.{Present}
use Rattle.vax_flat.specs.State.{State}
use Rattle.vax_undo.specs.declared.entry.Entry.{Entry}
use Rattle.vax_undo.specs.declared.entry.Kept.{Kept}
use Rattle.vax_undo.specs.declared.entry.Kept.TheVariants as kept
use Rattle.vax_undo.specs.declared.term.Term.{Term}
use Rattle.vax_undo.specs.declared.txn.Origin.{Origin}
use Rattle.vax_undo.specs.declared.txn.Txn.{Txn as Transaction}
use Rattle.vax_undo.specs.Transaction.{bare, put_back, restored_by, undo, undo_all, restart, present, room, Allows, FitsIn, IsLeftOpen, IsSame, with_view}
use Rattle.vax_undo.proofs.Undo.{all_marked, marks_stay, undo_all-append}

abbrev pub console : (input : Vec ℕ) (place : ℕ) → Option ℕ → vec_len input < 2 ^ 32 → place ≤ vec_len input → Term
console input place out short within = record { input = input; place = place; out = out; short = short; within = within }

put_back-core : (k : Kept) (e : Entry) (p : Present) → (put_back k e p).state.core ≡ restored_by k e p.state.core
put_back-core kept.Register e p = refl
put_back-core kept.Stack e p = refl
put_back-core kept.Requests e p = refl
put_back-core kept.Timer e p = refl
put_back-core kept.Taken e p = refl
put_back-core kept.Sent e p = refl
put_back-core kept.Bytes e p = refl

pub fits : (long : ℕ) (areas : List Area) (resident marked : ℕ → Bool) (k : Kept) (e : Entry) → Allows long areas resident marked k e → FitsIn k e
fits long areas resident marked kept.Register e a = a
fits long areas resident marked kept.Stack e a = a
fits long areas resident marked kept.Requests e a = a
fits long areas resident marked kept.Timer e a = a
fits long areas resident marked kept.Taken e a = tt
fits long areas resident marked kept.Sent e a = tt
fits long areas resident marked kept.Bytes e a = tt

-- the registers from which the rest of a log gives what the whole log gives
abbrev pub IsBackTo : Core → List Entry → Present → Type 0
IsBackTo core log start = (p : Present) × (p.state.core ≡ core) × (undo_all log p ≡ start)

pub one_back : (core new : Core) (log rest : List Entry) (e : Entry) (start : Present) → log ≡ rest ++ e ∷ [] → new ≡ restored_by e.kept e core → IsBackTo core log start → IsBackTo new rest start
one_back core new log rest e start items is back = (
  undo e back.0,
  put_back-core e.kept e back.0 ∙ (ap (restored_by e.kept e) back.1 ∙ sym is),
  sym (undo_all-append rest e back.0) ∙ (ap (λ l. undo_all l back.0) (sym items) ∙ back.2),
)

pub all_back : (core : Core) (log : List Entry) (start : Present) (o : Origin) → log ≡ [] → IsBackTo core log start →
    record core { regs = slice_set core.regs 15 o.pc; psl = o.psl; clock = o.clock } ≡ (restart o start).state.core
all_back core log start o empty back =
    let whole : back.0 ≡ start = ap (λ l. undo_all l back.0) (sym empty) ∙ back.2 in
    ap (λ (c : Core). record c { regs = slice_set c.regs 15 o.pc; psl = o.psl; clock = o.clock }) (sym back.1 ∙ ap (λ (p : Present). p.state.core) whole)

-- registers and console are put back alike whatever the port shows
put_back-state : (k : Kept) (e : Entry) (p q : Present) → p.state ≡ q.state → (put_back k e p).state ≡ (put_back k e q).state
put_back-state kept.Register e p q h = ap (λ (s : State). (put_back kept.Register e (record { state = s; view = p.view })).state) h
put_back-state kept.Stack e p q h = ap (λ (s : State). (put_back kept.Stack e (record { state = s; view = p.view })).state) h
put_back-state kept.Requests e p q h = ap (λ (s : State). (put_back kept.Requests e (record { state = s; view = p.view })).state) h
put_back-state kept.Timer e p q h = ap (λ (s : State). (put_back kept.Timer e (record { state = s; view = p.view })).state) h
put_back-state kept.Taken e p q h = ap (λ (s : State). (put_back kept.Taken e (record { state = s; view = p.view })).state) h
put_back-state kept.Sent e p q h = ap (λ (s : State). (put_back kept.Sent e (record { state = s; view = p.view })).state) h
put_back-state kept.Bytes e p q h = h

undo_all-state : (log : List Entry) (p q : Present) → p.state ≡ q.state → (undo_all log p).state ≡ (undo_all log q).state
undo_all-state [] p q h = h
undo_all-state (e ∷ es) p q h = put_back-state e.kept e (undo_all es p) (undo_all es q) (undo_all-state es p q h)

restart-state : (o : Origin) (p q : Present) → p.state ≡ q.state → (restart o p).state ≡ (restart o q).state
restart-state o p q h = ap (λ (s : State). (restart o (record { state = s; view = p.view })).state) h

-- a write that isn't logged
pub left_open : {P : Type 0} (view : P → View) (along : P → P → Type 0) (old new : Transaction P) →
    new.log.now.entries.items ≡ old.log.now.entries.items → new.origin ≡ old.origin → (present view new).state ≡ (present view old).state → IsSame along old new →
    (view new.port.now).areas ≡ (view old.port.now).areas → (view new.port.now).resident ≡ (view old.port.now).resident →
    ((page : ℕ) → (view old.port.now).marked page ≡ true → (view new.port.now).marked page ≡ true) → room old ≤ room new + 0 → IsLeftOpen view along 0 old new
left_open view along old new items origin state same areas resident more enough = record {
  state = ap (λ o. (restart o (undo_all new.log.now.entries.items (bare (present view new)))).state) origin
      ∙ (ap (λ log. (restart old.origin (undo_all log (bare (present view new)))).state) items
      ∙ restart-state old.origin (undo_all old.log.now.entries.items (bare (present view new))) (undo_all old.log.now.entries.items (bare (present view old)))
      (undo_all-state old.log.now.entries.items (bare (present view new)) (bare (present view old)) state));
  ready = λ ready. rw (items, areas, resident, same.input)
      (all_marked (vec_len old.term.now.input) (view old.port.now).areas (view old.port.now).resident (view old.port.now).marked (view new.port.now).marked more old.log.now.entries.items ready);
  room = enough;
  same = same;
}

-- a run leaves the areas and the resident pages, and the pages that are marked stay so
stored_alike : (stop : Option Stop) (view : View) (addr : ℕ) (bytes : List ℕ) →
    ((unless_cut stop view (with_run view addr bytes)).areas ≡ view.areas) × ((unless_cut stop view (with_run view addr bytes)).resident ≡ view.resident)
    × ((page : ℕ) → view.marked page ≡ true → (unless_cut stop view (with_run view addr bytes)).marked page ≡ true)
stored_alike (Some s) view addr bytes = (refl, refl, λ page h. h)
stored_alike None view addr bytes = (refl, refl, λ page h. marks_stay view.marked addr (length bytes) page h)

pub run_left : {P : Type 0} (view : P → View) (along : P → P → Type 0) (old new : Transaction P) (addr : ℕ) (bytes : List ℕ) (mode : ℕ) →
    new.log.now.entries.items ≡ old.log.now.entries.items → new.origin ≡ old.origin → present view new ≡ with_view (present view old) (stored_run (view old.port.now) addr bytes mode) → IsSame along old new →
    room old ≤ room new + 0 → IsLeftOpen view along 0 old new
run_left view along old new addr bytes mode items origin is same enough =
    let v : view new.port.now ≡ stored_run (view old.port.now) addr bytes mode = ap (λ (p : Present). p.view) is in
    let a = stored_alike (stop (view old.port.now) addr (length bytes) mode Write) (view old.port.now) addr bytes in
    left_open view along old new items origin (ap (λ (p : Present). p.state) is) same (ap (λ (x : View). x.areas) v ∙ a.0) (ap (λ (x : View). x.resident) v ∙ a.1)
    (λ page h. ap (λ (x : View). x.marked page) v ∙ a.2 page h) enough

-- a console is its input, its place and its byte
pub same_console : (input : Vec ℕ) (place : ℕ) (out : Option ℕ) (s t : vec_len input < 2 ^ 32) (v w : place ≤ vec_len input) → console input place out s v ≡ console input place out t w
same_console input place out s t v w k = console input place out (le_prop s t k) (le_prop v w k)
