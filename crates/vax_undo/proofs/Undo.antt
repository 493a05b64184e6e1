-- What keeps a transaction.
use Rattle.std.proofs.Common.{Bool, true, false, zero, suc, ◌≡◌, ℕ, ◌^◌, ◌<◌, Option, Some, None, Result, Ok, Err, List, [], ◌∷◌, ◌++◌, refl, ap, sym, subst, ◌∙◌, arith, length-append}
use Rattle.std.proofs.lemmas.List.{set-get_or, set-set}
use Rattle.std.proofs.Math.Path.{fun_ext}
use Rattle.std.specs.Prelude.{slice_index, slice_set, IfOk, ◌||◌, vec_len}
use Rattle.vax_undo.specs.FirstPart.{first_part_done}
use Rattle.vax_space.specs.declared.Access.TheVariants.{Read, Write}
use Rattle.vax_space.specs.declared.Area.{Area}
use Rattle.vax_space.specs.declared.Violation.{Violation}
use Rattle.vax_space.specs.Reference.{violation}
use Rattle.vax_flat.specs.declared.Stop.{Stop}
use Rattle.vax_flat.specs.Memory.{number}
use Rattle.vax_flat.specs.Port.{View, AreBytes, put, first_absent, stop, stop_of, loaded, loaded_by, stored, with_number, with_number_back, is_in, marking, unmarked}
use Rattle.vax_flat.specs.OverPort.{Present}
use Rattle.vax_flat.specs.State.{with_register}
use Rattle.vax_flat.proofs.Bytes.{put_back as put-put, number-below}
use Rattle.vax_undo.specs.declared.entry.Entry.{Entry}
use Rattle.vax_undo.specs.declared.entry.Kept.{Kept}
use Rattle.vax_undo.specs.declared.entry.Kept.TheVariants as kept
use Rattle.vax_undo.specs.declared.txn.Txn.{Txn as Transaction}
use Rattle.vax_undo.specs.declared.txn.Origin.{Origin}
use Rattle.vax_undo.specs.Answers.{replaced}
use Rattle.vax_undo.specs.Transaction.{bare, put_back, undo, undo_all, restart, with_state, Allows, AllowsAll, present, IsSame, Keeps}

pub undo_all-append : (log : List Entry) (e : Entry) (p : Present) → undo_all (log ++ e ∷ []) p ≡ undo_all log (undo e p)
undo_all-append [] e p = refl
undo_all-append (x ∷ xs) e p = ap (undo x) (undo_all-append xs e p)

-- a range that is marked stays as it is where it is marked again
module _ (marked : ℕ → Bool) (addr len : ℕ) (all : (page : ℕ) → is_in addr len page ≡ true → marked page ≡ true) where
  marks_here : (page : ℕ) (here there : Bool) → marked page ≡ here → is_in addr len page ≡ there → marking marked addr len page ≡ marked page
  marks_here page true there h t = rw h refl
  marks_here page false true h t = let no : false ≡ true = sym h ∙ all page t in cc
  marks_here page false false h t = rw (h, t) refl

  pub marked_again : marking marked addr len ≡ marked
  marked_again = fun_ext λ page. marks_here page (marked page) (is_in addr len page) refl refl

  -- an old number that is put back where the range is marked
  pub put_again : (view : View) (value mode : ℕ) → view.marked ≡ marked → violation view.areas addr len mode Write ≡ None → first_absent view.resident addr len ≡ None → stored view addr len value mode ≡ with_number_back view addr len value
  put_again view value mode is v p = rw (v, p) (ap (λ (m : ℕ → Bool). record view { byte = put view.byte addr len value; marked = m }) (ap (λ (m : ℕ → Bool). marking m addr len) is ∙ (marked_again ∙ sym is)))

pub allows_one_more : (long : ℕ) (areas : List Area) (resident marked : ℕ → Bool) (log : List Entry) (e : Entry) → AllowsAll long areas resident marked log → Allows long areas resident marked e.kept e → AllowsAll long areas resident marked (log ++ e ∷ [])
allows_one_more long areas resident marked [] e all one = (one, all)
allows_one_more long areas resident marked (x ∷ xs) e all one = (all.0, allows_one_more long areas resident marked xs e all.1 one)

-- more pages may be marked
module _ (long : ℕ) (areas : List Area) (resident old new : ℕ → Bool) (more : (page : ℕ) → old page ≡ true → new page ≡ true) where
  allows_marked : (k : Kept) (e : Entry) → Allows long areas resident old k e → Allows long areas resident new k e
  allows_marked kept.Register e a = a
  allows_marked kept.Stack e a = a
  allows_marked kept.Requests e a = a
  allows_marked kept.Timer e a = a
  allows_marked kept.Taken e a = a
  allows_marked kept.Sent e a = a
  allows_marked kept.Bytes e a = (a.0, a.1, a.2, a.3, a.4, a.5, λ page h. more page (a.6 page h))

  pub all_marked : (log : List Entry) → AllowsAll long areas resident old log → AllowsAll long areas resident new log
  all_marked [] all = all
  all_marked (e ∷ es) all = (allows_marked e.kept e all.0, all_marked es all.1)

-- undoing an entry leaves the marks
put_back-marked : (k : Kept) (e : Entry) (p : Present) → (put_back k e p).view.marked ≡ p.view.marked
put_back-marked kept.Register e p = refl
put_back-marked kept.Stack e p = refl
put_back-marked kept.Requests e p = refl
put_back-marked kept.Timer e p = refl
put_back-marked kept.Taken e p = refl
put_back-marked kept.Sent e p = refl
put_back-marked kept.Bytes e p = refl

put_back-bare : (k : Kept) (e : Entry) (p : Present) → bare (put_back k e p) ≡ put_back k e (bare p)
put_back-bare kept.Register e p = refl
put_back-bare kept.Stack e p = refl
put_back-bare kept.Requests e p = refl
put_back-bare kept.Timer e p = refl
put_back-bare kept.Taken e p = refl
put_back-bare kept.Sent e p = refl
put_back-bare kept.Bytes e p = refl

-- one more entry, which undoes what was done but for the marks
pub logged_marked : {P : Type 0} (view : P → View) (along : P → P → Type 0) (old new : Transaction P) (e : Entry) →
    new.log.now.entries.items ≡ old.log.now.entries.items ++ e ∷ [] → new.origin ≡ old.origin → new.core.now.psl ≡ old.core.now.psl → IsSame along old new → undo e (bare (present view new)) ≡ bare (present view old) →
    (view new.port.now).areas ≡ (view old.port.now).areas → (view new.port.now).resident ≡ (view old.port.now).resident →
    ((page : ℕ) → (view old.port.now).marked page ≡ true → (view new.port.now).marked page ≡ true) →
    Allows (vec_len old.term.now.input) (view old.port.now).areas (view old.port.now).resident (view new.port.now).marked e.kept e → Keeps view along 1 old new
logged_marked view along old new e items origin psl same back areas resident more one = record {
  undone = ap (λ o. restart o (undo_all new.log.now.entries.items (bare (present view new)))) origin
      ∙ ap (restart old.origin) (ap (λ log. undo_all log (bare (present view new))) items ∙ (undo_all-append old.log.now.entries.items e (bare (present view new)) ∙ ap (undo_all old.log.now.entries.items) back));
  ready = λ ready. rw (items, same.input, areas, resident)
      (allows_one_more (vec_len old.term.now.input) (view old.port.now).areas (view old.port.now).resident (view new.port.now).marked old.log.now.entries.items e
      (all_marked (vec_len old.term.now.input) (view old.port.now).areas (view old.port.now).resident (view old.port.now).marked (view new.port.now).marked more old.log.now.entries.items ready) one);
  room = rw items (simp length-append (omega arith));
  closed = let same : first_part_done new.core.now.psl ≡ first_part_done old.core.now.psl = ap first_part_done psl in omega (arith, same);
  same = same;
}

-- one more entry, which undoes what was done
pub logged : {P : Type 0} (view : P → View) (along : P → P → Type 0) (old new : Transaction P) (e : Entry) →
    new.log.now.entries.items ≡ old.log.now.entries.items ++ e ∷ [] → new.origin ≡ old.origin → new.core.now.psl ≡ old.core.now.psl → IsSame along old new → undo e (present view new) ≡ present view old →
    (view new.port.now).areas ≡ (view old.port.now).areas → (view new.port.now).resident ≡ (view old.port.now).resident →
    Allows (vec_len old.term.now.input) (view old.port.now).areas (view old.port.now).resident (view old.port.now).marked e.kept e → Keeps view along 1 old new
logged view along old new e items origin psl same back areas resident one =
    let marks : (view new.port.now).marked ≡ (view old.port.now).marked = sym (put_back-marked e.kept e (present view new)) ∙ ap (λ (p : Present). p.view.marked) back in
    logged_marked view along old new e items origin psl same (sym (put_back-bare e.kept e (present view new)) ∙ ap bare back) areas resident
    (λ page h. ap (λ (m : ℕ → Bool). m page) marks ∙ h)
    (subst (λ (m : ℕ → Bool). Allows (vec_len old.term.now.input) (view old.port.now).areas (view old.port.now).resident m e.kept e) (sym marks) one)

-- a register that is put back at the end may have been anything before
sets_over : (xs : List ℕ) (n m v w : ℕ) → slice_set (slice_set xs n v) m w ≡ slice_set (slice_set (slice_set xs m w) n v) m w
sets_over [] n m v w = refl
sets_over (x ∷ xs) zero zero v w = refl
sets_over (x ∷ xs) zero (suc m) v w = ap (λ ys. v ∷ ys) (sym (set-set xs m w w))
sets_over (x ∷ xs) (suc n) zero v w = refl
sets_over (x ∷ xs) (suc n) (suc m) v w = ap (λ ys. x ∷ ys) (sets_over xs n m v w)

abbrev with_registers : Present → List ℕ → Present
with_registers p regs = with_state p (record p.state { core = record p.state.core { regs = regs } })

restart_once : (o : Origin) (p : Present) → restart o p ≡ restart o (restart o p)
restart_once o p = sym (ap (λ regs. with_state p (record p.state { core = record p.state.core { regs = regs; psl = o.psl; clock = o.clock } })) (set-set p.state.core.regs 15 o.pc o.pc))

put_back-restart : (k : Kept) (e : Entry) (o : Origin) (p : Present) → restart o (put_back k e p) ≡ restart o (put_back k e (restart o p))
put_back-restart kept.Register e o p = ap (λ regs. with_state p (record p.state { core = record p.state.core { regs = regs; psl = o.psl; clock = o.clock } })) (sets_over p.state.core.regs e.number 15 e.old o.pc)
put_back-restart kept.Stack e o p = restart_once o (put_back kept.Stack e p)
put_back-restart kept.Requests e o p = restart_once o (put_back kept.Requests e p)
put_back-restart kept.Timer e o p = restart_once o (put_back kept.Timer e p)
put_back-restart kept.Taken e o p = restart_once o (put_back kept.Taken e p)
put_back-restart kept.Sent e o p = restart_once o (put_back kept.Sent e p)
put_back-restart kept.Bytes e o p = restart_once o (put_back kept.Bytes e p)

undo_all-restart : (o : Origin) (log : List Entry) (p : Present) → restart o (undo_all log p) ≡ restart o (undo_all log (restart o p))
undo_all-restart o [] p = restart_once o p
undo_all-restart o (e ∷ es) p =
    put_back-restart e.kept e o (undo_all es p)
    ∙ (ap (λ q. restart o (undo e q)) (undo_all-restart o es p) ∙ sym (put_back-restart e.kept e o (undo_all es (restart o p))))

-- what is alike but for what a restart puts back is undone alike
pub undone_alike : (o : Origin) (log : List Entry) (p q : Present) → restart o p ≡ restart o q → restart o (undo_all log p) ≡ restart o (undo_all log q)
undone_alike o log p q h = undo_all-restart o log p ∙ (ap (λ r. restart o (undo_all log r)) h ∙ sym (undo_all-restart o log q))

-- PC was set
pub pc_set : (o : Origin) (p : Present) (v : ℕ) → restart o (with_state p (with_register p.state 15 v)) ≡ restart o p
pc_set o p v = ap (λ regs. with_state p (record p.state { core = record p.state.core { regs = regs; psl = o.psl; clock = o.clock } })) (set-set p.state.core.regs 15 v o.pc)

-- where a transaction begins, nothing is left to put back
pub restart_here : (p : Present) → restart (record { pc = slice_index p.state.core.regs 15; psl = p.state.core.psl; clock = p.state.core.clock }) p ≡ p
restart_here p = ap (with_registers p) (set-get_or p.state.core.regs 15 0)

-- a value that was overwritten is put back
pub set_back : (xs : List ℕ) (n v : ℕ) → slice_set (slice_set xs n v) n (slice_index xs n) ≡ xs
set_back xs n v = set-set xs n v (slice_index xs n) ∙ set-get_or xs n 0

loaded_some : (o : Option Stop) (v : ℕ) (s : Stop) → loaded_by o v ≡ Err s → o ≡ Some s
loaded_some (Some x) v s h = cc
loaded_some None v s h = cc

loaded_none : (o : Option Stop) (v x : ℕ) → loaded_by o v ≡ Ok x → (o ≡ None) × (v ≡ x)
loaded_none (Some s) v x h = cc
loaded_none None v x h = (refl, cc)

stop_parts : (v : Option Violation) (p : Option ℕ) → stop_of v p ≡ None → (v ≡ None) × (p ≡ None)
stop_parts (Some v) p h = cc
stop_parts None (Some page) h = cc
stop_parts None None h = (refl, refl)

-- nothing stops a write: the range is allowed and resident
pub is_free : (view : View) (addr len mode : ℕ) → None ≡ stop view addr len mode Write → (violation view.areas addr len mode Write ≡ None) × (first_absent view.resident addr len ≡ None)
is_free view addr len mode h = stop_parts (violation view.areas addr len mode Write) (first_absent view.resident addr len) (sym h)

pub not_stopped : (view : View) (addr len mode : ℕ) → violation view.areas addr len mode Write ≡ None → first_absent view.resident addr len ≡ None → None ≡ stop view addr len mode Write
not_stopped view addr len mode v p = rw (v, p) refl

-- what a write answers
pub replaced_stop : (view : View) (addr len mode : ℕ) (s : Stop) → Err s ≡ replaced view addr len mode → Some s ≡ stop view addr len mode Write
replaced_stop view addr len mode s h = sym (loaded_some (stop view addr len mode Write) (number view.byte addr len) s (sym h))

pub replaced_old : (view : View) (addr len old mode : ℕ) → Ok old ≡ replaced view addr len mode → (None ≡ stop view addr len mode Write) × (number view.byte addr len ≡ old)
replaced_old view addr len old mode h =
    let e = loaded_none (stop view addr len mode Write) (number view.byte addr len) old (sym h) in
    (sym e.0, e.1)

pub full_store : (view : View) (addr len value mode : ℕ) → None ≡ stop view addr len mode Write → stored view addr len value mode ≡ with_number view addr len value
full_store view addr len value mode h = rw (← h) refl

-- the bytes before a write are put back
pub bytes_back : (view : View) (addr len value old : ℕ) → AreBytes view.byte → number view.byte addr len ≡ old → with_number_back (unmarked (with_number view addr len value)) addr len old ≡ unmarked view
bytes_back view addr len value old bytes is =
    rw (← is) (ap (λ (byte : ℕ → ℕ). unmarked (record view { byte = byte })) (put-put view.byte addr len value bytes))

-- a write leaves the marks, and marks its range
pub marks_stay : (marked : ℕ → Bool) (addr len page : ℕ) → marked page ≡ true → marking marked addr len page ≡ true
marks_stay marked addr len page h = rw h refl

either : (a b : Bool) → b ≡ true → a || b ≡ true
either true b h = refl
either false b h = h

pub marks_range : (marked : ℕ → Bool) (addr len page : ℕ) → is_in addr len page ≡ true → marking marked addr len page ≡ true
marks_range marked addr len page h = either (marked page) (is_in addr len page) h

pub old_fits : (view : View) (addr len old : ℕ) → AreBytes view.byte → number view.byte addr len ≡ old → old < 256 ^ len
old_fits view addr len old bytes is = rw (← is) (number-below view.byte addr len bytes)

pub loaded_fits : (view : View) (addr len mode : ℕ) (r : Result ℕ Stop) → AreBytes view.byte → r ≡ loaded view addr len mode → IfOk r (λ v. v < 256 ^ len)
loaded_fits view addr len mode (Ok v) bytes e = old_fits view addr len v bytes (loaded_none (stop view addr len mode Read) (number view.byte addr len) v (sym e)).1
loaded_fits view addr len mode (Err s) bytes e = tt

-- one turn of unwinding
pub unwound : (log rest : List Entry) (e : Entry) (p now start : Present) → log ≡ rest ++ e ∷ [] → now ≡ undo e p → undo_all log (bare p) ≡ start → undo_all rest (bare now) ≡ start
unwound log rest e p now start items back before =
    rw (back, put_back-bare e.kept e p) (sym (undo_all-append rest e (bare p)) ∙ (ap (λ l. undo_all l (bare p)) (sym items) ∙ before))

parts_of : (long : ℕ) (areas : List Area) (resident marked : ℕ → Bool) (rest : List Entry) (e : Entry) → AllowsAll long areas resident marked (rest ++ e ∷ []) → AllowsAll long areas resident marked rest × Allows long areas resident marked e.kept e
parts_of long areas resident marked [] e all = (tt, all.0)
parts_of long areas resident marked (x ∷ xs) e all = let p = parts_of long areas resident marked xs e all.1 in ((all.0, p.0), p.1)

pub last_allowed : (long : ℕ) (areas : List Area) (resident marked : ℕ → Bool) (log rest : List Entry) (e : Entry) → log ≡ rest ++ e ∷ [] → AllowsAll long areas resident marked log → AllowsAll long areas resident marked rest × Allows long areas resident marked e.kept e
last_allowed long areas resident marked log rest e items all = parts_of long areas resident marked rest e (subst (AllowsAll long areas resident marked) items all)

pub present_alike : (p q : Present) → p.state ≡ q.state → p.view ≡ q.view → p ≡ q
present_alike p q s v = ap (λ x. record { state = x; view = p.view }) s ∙ ap (λ x. record { state = q.state; view = x }) v

-- undoing an entry leaves the areas and the resident pages
put_back-areas : (k : Kept) (e : Entry) (p : Present) → (put_back k e p).view.areas ≡ p.view.areas
put_back-areas kept.Register e p = refl
put_back-areas kept.Stack e p = refl
put_back-areas kept.Requests e p = refl
put_back-areas kept.Timer e p = refl
put_back-areas kept.Taken e p = refl
put_back-areas kept.Sent e p = refl
put_back-areas kept.Bytes e p = refl

put_back-resident : (k : Kept) (e : Entry) (p : Present) → (put_back k e p).view.resident ≡ p.view.resident
put_back-resident kept.Register e p = refl
put_back-resident kept.Stack e p = refl
put_back-resident kept.Requests e p = refl
put_back-resident kept.Timer e p = refl
put_back-resident kept.Taken e p = refl
put_back-resident kept.Sent e p = refl
put_back-resident kept.Bytes e p = refl

pub still_allowed : (long : ℕ) (e : Entry) (p : Present) (now : View) (log : List Entry) → now ≡ (undo e p).view → AllowsAll long p.view.areas p.view.resident p.view.marked log → AllowsAll long now.areas now.resident now.marked log
still_allowed long e p now log is all = rw (is, put_back-areas e.kept e p, put_back-resident e.kept e p, put_back-marked e.kept e p) all

pub still_marked : (e : Entry) (p : Present) (now : View) → now ≡ (undo e p).view → now.marked ≡ p.view.marked
still_marked e p now is = ap (λ (v : View). v.marked) is ∙ put_back-marked e.kept e p
