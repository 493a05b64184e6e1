-- What processes sent, and the reports behind it.
use Rattle.std.proofs.Common.{◌≡◌, ℕ, List, Option, length, map, arith, refl, sym, ap, ◌∙◌, subst, inl, inr}
use Rattle.vax_outside.proofs.Growth.{append-nothing, channels_assoc, grew_more, out_first, prefix_in}
use Rattle.vax_outside.specs.Channels.{Channels, Grew, GrewByPrefix, append, nothing, only}
use Rattle.vax_outside.specs.Faults.{Rose, raised}
use Rattle.vax_outside.specs.declared.faults.Failures.{Failures}
use Rattle.vax_outside.specs.declared.traits.Chan.TheVariants as channel
use Rattle.vax_order.specs.Orders.{IsOrder}
use Rattle.vax_jobs.specs.Pool.{keeps_of}
use Rattle.vax_jobs.proofs.Marks.{count_is}
use Rattle.vax_jobs.specs.Running.{CountsEnd, IsCut, IsReady, IsWhole, Runs, System}
use Rattle.vax_jobs.specs.Shared.{Setting, Shared, Why, bytes_sent, shared}
use Rattle.vax_jobs.specs.declared.ends.JobsEnd.{JobsEnd}
use Rattle.vax_jobs.specs.declared.ends.JobsEnd.TheVariants.{PageFault, WriteFault}
use Rattle.vax_jobs_report.proofs.Reporting.{same_reports}
use Rattle.vax_jobs_report.specs.Reports.{machine_reports, process_reports}
use Rattle.vax_report.specs.declared.Last.TheVariants as last
use Rattle.vax_together.proofs.Sufficing.{later}
use Rattle.vax_together.specs.Together.{Answers, EndsBy, HasGrown, IsReported, IsUnwritten, OnlyReported}

-- one behind the other, and a prefix of both
both_grew : (a b c : Option Channels) (x y : Channels) → Grew a b x → GrewByPrefix b c y → GrewByPrefix a c (append x y)
both_grew a b c x y g p = prefix_in a b c x y nothing (append x y) (ap (append x) (append-nothing y)) g p

prefix_of : (a c : Option Channels) (x y : Channels) → GrewByPrefix a c x → GrewByPrefix a c (append x y)
prefix_of a c x y p = record {
  prefix = p.prefix;
  rest = append p.rest y;
  splits = sym (channels_assoc p.prefix p.rest y) ∙ ap (λ z. append z y) p.splits;
  grew = p.grew;
}

-- the run stopped by itself, and the reports were written
pub stopped_so : (end result : JobsEnd) (why : Why) (failed : Type 0) (x : Setting) (s : Shared) (y : System) (old mid new : Option Channels) (a b : Failures) → ((r : JobsEnd) → r ≡ end → IsReported x s why old new → EndsBy r failed x s old new) → y.pooling.processes ≡ map keeps_of y.machines → IsWhole x s why y old mid → Answers end result (machine_reports x.steps last.Turns y.machines) mid new a b → EndsBy result failed x s old new
stopped_so end result why failed x s y old mid new a b whole is w (inl h) =
    whole result h.answer (record {
      count = w.count;
      runs = w.runs;
      stopped = w.stopped;
      wrote =
          subst (λ text. Grew old new (append (only channel.Out (bytes_sent (shared x w.count s))) (only channel.Report text))) (same_reports x.steps last.Turns y (shared x w.count s).processes is w.tracks.stands)
          (grew_more old mid new (only channel.Out (bytes_sent (shared x w.count s))) (only channel.Report (machine_reports x.steps last.Turns y.machines)) w.wrote h.wrote);
    })
stopped_so end result why failed x s y old mid new a b whole is w (inr h) =
    subst (λ (r : JobsEnd). EndsBy r failed x s old new) (sym h.answer) (inl (record {
      count = w.count;
      why = why;
      runs = w.runs;
      stopped = w.stopped;
      wrote =
          subst (λ text. GrewByPrefix old new (append (only channel.Out (bytes_sent (shared x w.count s))) (only channel.Report text))) (same_reports x.steps last.Turns y (shared x w.count s).processes is w.tracks.stands)
          (both_grew old mid new (only channel.Out (bytes_sent (shared x w.count s))) (only channel.Report (machine_reports x.steps last.Turns y.machines)) w.wrote h.wrote);
    }))

-- a call of the page file failed
pub cut_so : (result : JobsEnd) (failed : Type 0) (x : Setting) (s : Shared) (y : System) (old mid new : Option Channels) (a b : Failures) → failed → y.pooling.processes ≡ map keeps_of y.machines → IsCut x s y old mid → Answers PageFault result (machine_reports x.steps last.PageFault y.machines) mid new a b → EndsBy result failed x s old new
cut_so result failed x s y old mid new a b rose is w (inl h) =
    subst (λ (r : JobsEnd). EndsBy r failed x s old new) (sym h.answer) (record {
      count = w.count;
      runs = w.runs;
      wrote =
          subst (λ text. Grew old new (append (only channel.Out (bytes_sent (shared x w.count s))) (only channel.Report text))) (same_reports x.steps last.PageFault y (shared x w.count s).processes is w.stuck.stands)
          (grew_more old mid new (only channel.Out (bytes_sent (shared x w.count s))) (only channel.Report (machine_reports x.steps last.PageFault y.machines)) w.wrote h.wrote);
    })
cut_so result failed x s y old mid new a b rose is w (inr h) =
    subst (λ (r : JobsEnd). EndsBy r failed x s old new) (sym h.answer) (inr (
      rose,
      record {
        count = w.count;
        runs = w.runs;
        wrote =
            subst (λ text. GrewByPrefix old new (append (only channel.Out (bytes_sent (shared x w.count s))) (only channel.Report text))) (same_reports x.steps last.PageFault y (shared x w.count s).processes is w.stuck.stands)
            (both_grew old mid new (only channel.Out (bytes_sent (shared x w.count s))) (only channel.Report (machine_reports x.steps last.PageFault y.machines)) w.wrote h.wrote);
      },
    ))

-- a write failed in the run, behind a prefix of what so many turns send
pub lost_so : (x : Setting) (s : Shared) (count : ℕ) (old new : Option Channels) → IsOrder (length s.processes) x.order → Runs x s count → GrewByPrefix old new (only channel.Out (bytes_sent (shared x count s))) → IsUnwritten x s old new
lost_so x s count old new order runs wrote =
    let l = later x.turns x s count order runs (omega arith) in
    record {
      count = l.count;
      why = l.why;
      runs = l.runs;
      stopped = l.stopped;
      wrote =
          prefix_of old new (only channel.Out (bytes_sent (shared x l.count s))) (only channel.Report (process_reports x.steps last.Turns (shared x l.count s).processes))
          (subst (λ bytes. GrewByPrefix old new (only channel.Out bytes)) (sym l.grows) (out_first old new (bytes_sent (shared x count s)) l.more wrote));
    }

-- an order of the machines is one of the processes
pub order_same : (x : Setting) (y : System) (s : Shared) → y.pooling.processes ≡ map keeps_of y.machines → IsReady x y s → IsOrder (length y.machines) x.order → IsOrder (length s.processes) x.order
order_same x y s is ready order = subst (λ (n : ℕ). IsOrder n x.order) (count_is y s.processes is ready.tracks.stands) order

-- whatever was sent

pub only_so : (end result : JobsEnd) (text : List ℕ) (old mid new : Option Channels) (a b : Failures) → (HasGrown old new → OnlyReported end old new) → (bytes : List ℕ) → Grew old mid (only channel.Out bytes) → Answers end result text mid new a b → OnlyReported result old new
only_so end result text old mid new a b whole bytes g (inl h) =
    subst (λ (r : JobsEnd). OnlyReported r old new) (sym h.answer) (whole (record {
      grown = append (only channel.Out bytes) (only channel.Report text);
      unrecorded = refl;
      unsaved = refl;
      grew = grew_more old mid new (only channel.Out bytes) (only channel.Report text) g h.wrote;
    }))
only_so end result text old mid new a b whole bytes g (inr h) =
    subst (λ (r : JobsEnd). OnlyReported r old new) (sym h.answer) (record {
      grown = append (only channel.Out bytes) (only channel.Report text);
      unrecorded = refl;
      unsaved = refl;
      grew = both_grew old mid new (only channel.Out bytes) (only channel.Report text) g h.wrote;
    })

-- the counts of failures

rose_from : (a b c : Failures) → b.count ≡ a.count → Rose b c → Rose a c
rose_from a b c e h = record { count = h.count ∙ ap raised e; last = h.last }

pub counts_so : (end result : JobsEnd) (text : List ℕ) (mid new : Option Channels) (f h k m n : Failures) → (end ≡ WriteFault → ⊥) → CountsEnd end f h k m → Answers end result text mid new m n → CountsEnd result f h k n
counts_so end result text mid new f h k m n other c (inl a) =
    let same = a.quiet in
    let sunk = c.sunk in
    subst (λ (r : JobsEnd). CountsEnd r f h k n) (sym a.answer) (record {
      later = c.later;
      failed = c.failed;
      fault = c.fault;
      unfailed = c.unfailed;
      sunk = omega (arith, sunk, same);
      cause = λ e. absurd (other e);
      written = λ w. same ∙ c.written w;
    })
counts_so end result text mid new f h k m n other c (inr a) =
    let sunk = c.sunk in
    let later = a.later in
    let rose = rose_from k m n (c.written other) a.rose in
    subst (λ (r : JobsEnd). CountsEnd r f h k n) (sym a.answer) (record {
      later = c.later;
      failed = c.failed;
      fault = λ e. let no : WriteFault ≡ PageFault = e in cc;
      unfailed = λ p w. absurd (w refl);
      sunk = omega (arith, sunk, later);
      cause = λ e. rose;
      written = λ w. absurd (w refl);
    })
