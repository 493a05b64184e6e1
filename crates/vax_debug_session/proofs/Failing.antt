-- The calls that failed in a session.
use Rattle.std.proofs.Common.{◌≡◌, ◌≢◌, ◌≤◌, ℕ, true, false, Option, None, Some, Ok, Err, refl, subst, ◌∙◌, arith}
use Rattle.vax_outside.specs.Faults.{CountsFailure, Rose}
use Rattle.vax_outside.specs.declared.faults.Failures.{Failures}
use Rattle.vax_outside.proofs.Counting.{rose_then}
use Rattle.vax_console.specs.Ends.{ChangesOnce}
use Rattle.vax_debug_acts.specs.Sessions.{Counts}
use Rattle.vax_debug_acts.specs.Failure.{Failure}
use Rattle.vax_debug_acts.specs.Failure.TheVariants as failure
use Rattle.vax_debug_session.specs.Faults.{Failed, FailedIf, Faults, FileFailed, LineFailed, NoneFailed, WriteFailed, faults_of}
use Rattle.vax_debug_session.specs.Turns.{end_of}
use Rattle.vax_debug_session.specs.declared.SessionEnd.{SessionEnd}
use Rattle.vax_debug_session.specs.declared.SessionEnd.TheVariants as end

-- behind calls of which none failed

pub none_failed : (a : Faults) → NoneFailed a a
none_failed a = record { file = refl; sink = refl; lines = refl }

pub none_then : (a b c : Faults) → NoneFailed a b → NoneFailed b c → NoneFailed a c
none_then a b c p q = record { file = q.file ∙ p.file; sink = q.sink ∙ p.sink; lines = q.lines ∙ p.lines }

file_then : (a b c : Faults) → NoneFailed a b → FileFailed b c → FileFailed a c
file_then a b c p q = record {
  later = let l = q.later in let e = p.file in omega (arith, l, e);
  cause = rose_then p.file q.cause;
  sink = q.sink ∙ p.sink;
  lines = q.lines ∙ p.lines;
}

once_then : (before mid now : Failures) → mid.count ≡ before.count → ChangesOnce mid now → ChangesOnce before now
once_then before mid now still h = λ n. rose_then still (h (λ e. n (e ∙ still)))

write_then : (a b c : Faults) → NoneFailed a b → WriteFailed b c → WriteFailed a c
write_then a b c p q = record {
  later = let l = q.later in let e = p.file in omega (arith, l, e);
  sunk = let l = q.sunk in let e = p.sink in omega (arith, l, e);
  cause = rose_then p.sink q.cause;
  once = once_then a.file b.file c.file p.file q.once;
  lines = q.lines ∙ p.lines;
}

line_then : (a b c : Faults) → NoneFailed a b → LineFailed b c → LineFailed a c
line_then a b c p q = record {
  later = let l = q.later in let e = p.lines in omega (arith, l, e);
  cause = rose_then p.lines q.cause;
  file = q.file ∙ p.file;
  sink = q.sink ∙ p.sink;
}

pub failed_then : (e : SessionEnd) (a b c : Faults) → NoneFailed a b → Failed e b c → Failed e a c
failed_then end.Quit a b c p q = none_then a b c p q
failed_then end.Save a b c p q = none_then a b c p q
failed_then end.Restart a b c p q = none_then a b c p q
failed_then end.Read a b c p q = none_then a b c p q
failed_then end.Lines a b c p q = none_then a b c p q
failed_then end.Turns a b c p q = none_then a b c p q
failed_then end.PageFault a b c p q = file_then a b c p q
failed_then end.WriteFault a b c p q = write_then a b c p q
failed_then end.LineFault a b c p q = line_then a b c p q

pub failed_if_then : (r : Option SessionEnd) (a b c : Faults) → NoneFailed a b → FailedIf r b c → FailedIf r a c
failed_if_then None a b c p q = none_then a b c p q
failed_if_then (Some e) a b c p q = failed_then e a b c p q

-- one line

pub none_counted : (x : Unit {0}) (f g s t l : Failures) → Counts (Ok x) f g s t → FailedIf None (faults_of f s l) (faults_of g t l)
none_counted x f g s t l p = record { file = p.0; sink = p.1; lines = refl }

pub failure_counted : (e : Failure) (f g s t l : Failures) → Counts (Err e) f g s t → FailedIf (Some (end_of e)) (faults_of f s l) (faults_of g t l)
failure_counted failure.Turns f g s t l p = record { file = p.0; sink = p.1; lines = refl }
failure_counted failure.PageFault f g s t l p = record { later = p.0; cause = p.1; sink = p.2; lines = refl }
failure_counted failure.WriteFault f g s t l p = record { later = p.0; sunk = p.1; cause = p.2; once = p.3; lines = refl }

-- a prompt was written, and a line was asked for
pub asked_counts : (f s t l k : Failures) → CountsFailure false s t → CountsFailure false l k → NoneFailed (faults_of f s l) (faults_of f t k)
asked_counts f s t l k written read = record { file = refl; sink = written.quiet; lines = read.quiet }

pub unwritten : (f s t l : Failures) → CountsFailure true s t → Failed end.WriteFault (faults_of f s l) (faults_of f t l)
unwritten f s t l p = record { later = omega arith; sunk = p.later; cause = p.cause; once = λ n. absurd (n refl); lines = refl }

pub line_failed : (f s t l k : Failures) → CountsFailure false s t → CountsFailure true l k → Failed end.LineFault (faults_of f s l) (faults_of f t k)
line_failed f s t l k written read = record { later = read.later; cause = read.cause; file = refl; sink = written.quiet }

-- what a session's end tells of each count

same_below : (m n : ℕ) → n ≡ m → m ≤ n
same_below m n e = omega (arith, e)

pub file_later : (e : SessionEnd) (a b : Faults) → Failed e a b → a.file.count ≤ b.file.count
file_later end.Quit a b p = same_below _ _ p.file
file_later end.Save a b p = same_below _ _ p.file
file_later end.Restart a b p = same_below _ _ p.file
file_later end.Read a b p = same_below _ _ p.file
file_later end.Lines a b p = same_below _ _ p.file
file_later end.Turns a b p = same_below _ _ p.file
file_later end.PageFault a b p = p.later
file_later end.WriteFault a b p = p.later
file_later end.LineFault a b p = same_below _ _ p.file

pub sink_later : (e : SessionEnd) (a b : Faults) → Failed e a b → a.sink.count ≤ b.sink.count
sink_later end.Quit a b p = same_below _ _ p.sink
sink_later end.Save a b p = same_below _ _ p.sink
sink_later end.Restart a b p = same_below _ _ p.sink
sink_later end.Read a b p = same_below _ _ p.sink
sink_later end.Lines a b p = same_below _ _ p.sink
sink_later end.Turns a b p = same_below _ _ p.sink
sink_later end.PageFault a b p = same_below _ _ p.sink
sink_later end.WriteFault a b p = p.sunk
sink_later end.LineFault a b p = same_below _ _ p.sink

pub lines_later : (e : SessionEnd) (a b : Faults) → Failed e a b → a.lines.count ≤ b.lines.count
lines_later end.Quit a b p = same_below _ _ p.lines
lines_later end.Save a b p = same_below _ _ p.lines
lines_later end.Restart a b p = same_below _ _ p.lines
lines_later end.Read a b p = same_below _ _ p.lines
lines_later end.Lines a b p = same_below _ _ p.lines
lines_later end.Turns a b p = same_below _ _ p.lines
lines_later end.PageFault a b p = same_below _ _ p.lines
lines_later end.WriteFault a b p = same_below _ _ p.lines
lines_later end.LineFault a b p = p.later

pub file_cause : (e : SessionEnd) (a b : Faults) → Failed e a b → e ≡ end.PageFault → Rose a.file b.file
file_cause e a b p is = (subst (λ (z : SessionEnd). Failed z a b) is p).cause

pub sink_cause : (e : SessionEnd) (a b : Faults) → Failed e a b → e ≡ end.WriteFault → Rose a.sink b.sink
sink_cause e a b p is = (subst (λ (z : SessionEnd). Failed z a b) is p).cause

pub lines_cause : (e : SessionEnd) (a b : Faults) → Failed e a b → e ≡ end.LineFault → Rose a.lines b.lines
lines_cause e a b p is = (subst (λ (z : SessionEnd). Failed z a b) is p).cause

pub file_still : (e : SessionEnd) (a b : Faults) → Failed e a b → e ≢ end.PageFault → e ≢ end.WriteFault → b.file.count ≡ a.file.count
file_still end.Quit a b p n m = p.file
file_still end.Save a b p n m = p.file
file_still end.Restart a b p n m = p.file
file_still end.Read a b p n m = p.file
file_still end.Lines a b p n m = p.file
file_still end.Turns a b p n m = p.file
file_still end.PageFault a b p n m = absurd (n refl)
file_still end.WriteFault a b p n m = absurd (m refl)
file_still end.LineFault a b p n m = p.file

pub sink_still : (e : SessionEnd) (a b : Faults) → Failed e a b → e ≢ end.WriteFault → b.sink.count ≡ a.sink.count
sink_still end.Quit a b p n = p.sink
sink_still end.Save a b p n = p.sink
sink_still end.Restart a b p n = p.sink
sink_still end.Read a b p n = p.sink
sink_still end.Lines a b p n = p.sink
sink_still end.Turns a b p n = p.sink
sink_still end.PageFault a b p n = p.sink
sink_still end.WriteFault a b p n = absurd (n refl)
sink_still end.LineFault a b p n = p.sink

pub lines_still : (e : SessionEnd) (a b : Faults) → Failed e a b → e ≢ end.LineFault → b.lines.count ≡ a.lines.count
lines_still end.Quit a b p n = p.lines
lines_still end.Save a b p n = p.lines
lines_still end.Restart a b p n = p.lines
lines_still end.Read a b p n = p.lines
lines_still end.Lines a b p n = p.lines
lines_still end.Turns a b p n = p.lines
lines_still end.PageFault a b p n = p.lines
lines_still end.WriteFault a b p n = p.lines
lines_still end.LineFault a b p n = absurd (n refl)

once_same : (a b : Failures) → b.count ≡ a.count → ChangesOnce a b
once_same a b e = λ n. absurd (n e)

pub file_once : (e : SessionEnd) (a b : Faults) → Failed e a b → ChangesOnce a.file b.file
file_once end.Quit a b p = once_same a.file b.file p.file
file_once end.Save a b p = once_same a.file b.file p.file
file_once end.Restart a b p = once_same a.file b.file p.file
file_once end.Read a b p = once_same a.file b.file p.file
file_once end.Lines a b p = once_same a.file b.file p.file
file_once end.Turns a b p = once_same a.file b.file p.file
file_once end.PageFault a b p = λ n. p.cause
file_once end.WriteFault a b p = p.once
file_once end.LineFault a b p = once_same a.file b.file p.file
