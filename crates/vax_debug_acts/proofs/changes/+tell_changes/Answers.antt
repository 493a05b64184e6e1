use Rattle.std.proofs.Common.{◌≡◌, ℕ, List, ◌∷◌, ◌++◌, Option, Result, Err, sym, subst}
use Rattle.vax_outside.specs.Channels.{Channels}
use Rattle.vax_outside.specs.declared.faults.Failures.{Failures}
use Rattle.vax_debug.specs.declared.failure.Failure.{Failure}
use Rattle.vax_debug.specs.declared.watches.Seen.{Seen}
use Rattle.vax_debug_names.specs.declared.Legend.{Legend}
use Rattle.vax_debug_acts.specs.Acting.{Replies}
use Rattle.vax_debug_acts.specs.Acts.{change_if, changes}
use Rattle.vax_debug_acts.proofs.Telling.{replies_first, replies_then}
use Rattle.vax_debug_acts.proofs.changes.+tell_changes.Goals as goal

-- what is replied of the first, and of the rest
first_and_rest : (r : Result (Unit {0}) Failure) (before now : Failures) (a b : Option Channels) (legend : Legend) (olds news : List Seen) (old new : Seen) (old_rest new_rest : List Seen) → olds ≡ old ∷ old_rest → news ≡ new ∷ new_rest →
    Replies r before now a b (change_if legend old new ++ changes legend old_rest new_rest) → Replies r before now a b (changes legend olds news)
unfolding changes
first_and_rest r before now a b legend olds news old new old_rest new_rest p q h =
    subst (λ (z : List ℕ). Replies r before now a b z) (sym (λ i. changes legend (p i) (q i))) h

pub returns-in-Ok : goal.returns-in-Ok
returns-in-Ok g t c =
    first_and_rest c.tell_changes.result (g.K.Sink.faults c.args.sink.now) (g.K.Sink.faults c.tell_changes.new.sink) (g.K.Sink.contents c.args.sink.now) (g.K.Sink.contents c.tell_changes.new.sink)
    c.args.legend.now c.args.before.now c.args.after.now c.in-Some.old.now c.in-Some-split_first.new.now c.in-Some.before.now c.in-Some-split_first.after.now
    c.in-Some.ensures.cases.0 c.in-Some-split_first.ensures.cases.0
    (replies_then c.tell_changes.result tt (g.K.Sink.faults c.args.sink.now) (g.K.Sink.faults c.tell_if_changed.new.sink) (g.K.Sink.faults c.tell_changes.new.sink) (g.K.Sink.contents c.args.sink.now) (g.K.Sink.contents c.tell_if_changed.new.sink) (g.K.Sink.contents c.tell_changes.new.sink)
    (change_if c.args.legend.now c.in-Some.old.now c.in-Some-split_first.new.now)
    (changes c.args.legend.now c.in-Some.before.now c.in-Some-split_first.after.now)
    c.in-Ok.ensures c.tell_changes.ensures)

pub returns-in-Err : goal.returns-in-Err
returns-in-Err g t c =
    first_and_rest (Err c.in-Err.failure) (g.K.Sink.faults c.args.sink.now) (g.K.Sink.faults c.tell_if_changed.new.sink) (g.K.Sink.contents c.args.sink.now) (g.K.Sink.contents c.tell_if_changed.new.sink)
    c.args.legend.now c.args.before.now c.args.after.now c.in-Some.old.now c.in-Some-split_first.new.now c.in-Some.before.now c.in-Some-split_first.after.now
    c.in-Some.ensures.cases.0 c.in-Some-split_first.ensures.cases.0
    (replies_first c.in-Err.failure (g.K.Sink.faults c.args.sink.now) (g.K.Sink.faults c.tell_if_changed.new.sink) (g.K.Sink.contents c.args.sink.now) (g.K.Sink.contents c.tell_if_changed.new.sink)
    (change_if c.args.legend.now c.in-Some.old.now c.in-Some-split_first.new.now)
    (changes c.args.legend.now c.in-Some.before.now c.in-Some-split_first.after.now)
    c.in-Err.ensures)
