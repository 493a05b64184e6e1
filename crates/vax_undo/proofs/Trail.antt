-- The accesses that are made, and what a tree comes to with them.
use Rattle.std.proofs.Common.{◌≡◌, ℕ, Bool, Option, Some, None, Result, Ok, Err, List, [], ◌∷◌, ◌++◌, refl, ap, sym, ◌∙◌}
use Rattle.vax_space.specs.declared.Access.TheVariants.{Read, Write}
use Rattle.vax_space.specs.declared.Violation.{Violation}
use Rattle.vax_space.specs.Reference.{violation}
use Rattle.vax_flat.specs.declared.Cut.{Cut}
use Rattle.vax_flat.specs.declared.Cut.TheVariants.{Event}
use Rattle.vax_flat.specs.declared.Exception.{Exception}
use Rattle.vax_flat.specs.declared.Stop.{Stop}
use Rattle.vax_flat.specs.Memory.{number, bytes_from}
use Rattle.vax_flat.specs.State.{State}
use Rattle.vax_flat.specs.Accesses.{Accesses, Done, Raises, Checks, Asks, Reads, Writes, ReadsRun, WritesRun, Leaf}
use Rattle.vax_flat.specs.Outcome.{is_allowed}
use Rattle.vax_flat.specs.OverPort.{Arrival, Comes, Stops, Present, Follows, over_port}
use Rattle.vax_flat.specs.OverPort as plain
use Rattle.vax_flat.specs.Port.{View, first_absent, stop, with_number, with_run}
use Rattle.vax_undo.specs.declared.entry.Entry.{Entry}
use Rattle.vax_undo.specs.Blocks.{low_bytes}
use Rattle.vax_undo.specs.Trail.{Made, NoneKept, Trail, Traced, Landing, Arrives, Breaks, FollowsTraced, after_writing, noted, over_trail, reading, unless_forbidden, unless_hindered, unless_stopped, writing}
use Rattle.vax_undo.specs.Transaction.{trail_back, trail_undone}

-- what the ends of a tree come to
pub over_trail_raises : (e : Exception) (view : View) (trail : Trail) → over_trail {A = Leaf} (Raises e) view trail ≡ Breaks (Event e) view.marked trail
unfolding over_trail
over_trail_raises e view trail = refl

-- a memory that keeps no accesses keeps none
pub unkept : (s : Option Stop) (made : Made) → NoneKept ≡ unless_stopped s NoneKept (noted NoneKept made)
unfolding noted
unkept (Some s) made = refl
unkept None made = refl

-- a number that is put back is written
pub made_again : (view : View) (trail : Trail) (addr len value mode : ℕ) → violation view.areas addr len mode Write ≡ None → first_absent view.resident addr len ≡ None →
    after_writing view trail addr len value mode ≡ noted trail (writing addr (low_bytes len value))
made_again view trail addr len value mode v p = rw (v, p) refl

trail_undone-append : (log : List Entry) (e : Entry) (trail : Trail) → trail_undone (log ++ e ∷ []) trail ≡ trail_undone log (trail_back e.kept e trail)
trail_undone-append [] e trail = refl
trail_undone-append (x ∷ xs) e trail = ap (trail_back x.kept x) (trail_undone-append xs e trail)

-- one turn of unwinding
pub trail_unwound : (log rest : List Entry) (e : Entry) (before now all : Trail) → log ≡ rest ++ e ∷ [] → now ≡ trail_back e.kept e before → trail_undone log before ≡ all → trail_undone rest now ≡ all
trail_unwound log rest e before now all items back is =
    ap (trail_undone rest) back ∙ (sym (trail_undone-append rest e before) ∙ (ap (λ l. trail_undone l before) (sym items) ∙ is))

-- what a tree comes to is the same where the accesses aren't told
abbrev pub forget : {A : Type 0} → Landing A → Arrival A
forget (Arrives x view trail) = Comes x view
forget (Breaks cut marked trail) = Stops cut marked

module _ {A : Type 0} where
  hindered : (s : Option Stop) (marked : ℕ → Bool) (trail : Trail) (l : Landing A) (a : Arrival A) → forget l ≡ a → forget (unless_hindered s marked trail l) ≡ plain.unless_hindered s marked a
  hindered (Some s) marked trail l a h = refl
  hindered None marked trail l a h = h

  forbidden : (v : Option Violation) (marked : ℕ → Bool) (trail : Trail) (l : Landing A) (a : Arrival A) → forget l ≡ a → forget (unless_forbidden v marked trail l) ≡ plain.unless_forbidden v marked a
  forbidden (Some v) marked trail l a h = refl
  forbidden None marked trail l a h = h

  pub forgets : (tree : Accesses A) (view : View) (trail : Trail) → forget (over_trail tree view trail) ≡ over_port tree view
  unfolding over_trail over_port
  forgets (Done x) view trail = refl
  forgets (Raises e) view trail = refl
  forgets (Checks addr len mode access next) view trail = forbidden (violation view.areas addr len mode access) view.marked trail _ _ (forgets next view trail)
  forgets (Asks addr len mode access next) view trail = forgets (next (is_allowed (violation view.areas addr len mode access))) view trail
  forgets (Reads addr len mode next) view trail = hindered (stop view addr len mode Read) view.marked trail _ _ (forgets (next (number view.byte addr len)) view (noted trail (reading view addr len)))
  forgets (Writes addr len value mode next) view trail = hindered (stop view addr len mode Write) view.marked trail _ _ (forgets next (with_number view addr len value) (noted trail (writing addr (low_bytes len value))))
  forgets (ReadsRun addr len mode next) view trail = hindered (stop view addr len mode Read) view.marked trail _ _ (forgets (next (bytes_from view.byte addr len)) view (noted trail (reading view addr len)))
  forgets (WritesRun addr bytes mode next) view trail = hindered (stop view addr _ mode Write) view.marked trail _ _ (forgets next (with_run view addr bytes) (noted trail (writing addr bytes)))

abbrev pub present_of : Traced → Present
present_of t = record { state = t.state; view = t.view }

pub follows : {X : Type 0} (tree : (X → State → Accesses Leaf) → Accesses Leaf) (before : Traced) (result : Result X Cut) (after : Traced) → FollowsTraced tree before result after → Follows tree (present_of before) result (present_of after)
follows tree before (Ok x) after made = λ next. sym (forgets (tree next) before.view before.trail) ∙ (ap (λ l. forget l) (made next) ∙ forgets (next x after.state) after.view after.trail)
follows tree before (Err cut) after made = λ next. sym (forgets (tree next) before.view before.trail) ∙ ap (λ l. forget l) (made next)
