use Rattle.std.proofs.Common.{◌≡◌, ◌<◌, ◌≤◌, ◌+◌, ◌^◌, ℕ, [], Result, Err, ap, arith, length, refl, slice_index_or, subst, sym, ◌∙◌}
use Rattle.std.specs.Option.{option_map_or}
use Rattle.std.proofs.lemmas.List.{length-map}
use Rattle.std.proofs.lemmas.Option.{slice_get-get_or}
use Rattle.vax_order.specs.declared.line.Line.{Line}
use Rattle.vax_jobs.proofs.Ordering.{job_is, some_line}
use Rattle.vax_jobs.proofs.Rounds.{IsNext, ends_cut, ends_done, ends_lost, ends_turns, may_go, under_begun, under_more}
use Rattle.vax_jobs.specs.Pool.{keeps_of, pooling_of}
use Rattle.vax_jobs.specs.Running.{MayGo, setting_of, system_of}
use Rattle.vax_jobs.specs.Several.{HasMade, IsBroken, IsCaught, MakesTurns}
use Rattle.vax_jobs.proofs.Sends.{nothing_sent, only_end}
use Rattle.vax_jobs.specs.Sending.{WritesOn}
use Rattle.vax_jobs.specs.Shared.{shared}
use Rattle.vax_jobs.specs.declared.ends.JobsEnd.TheVariants.{Done, Turns, PageFault}
use Rattle.vax_jobs.specs.declared.ends.Fault.{Fault}
use Rattle.vax_jobs.specs.declared.ends.Fault.TheVariants.{Page, Write}
use Rattle.vax_jobs.specs.declared.position.Position.{Position}
use Rattle.vax_jobs.proofs.pool.Pool.run.Goals as goal

pub bounds-order-0 : goal.bounds-order-0
bounds-order-0 g c =
    let some : 1 ≤ length c.args.self.now.machines.items = let a = length-map c.args.self.now.machines.items keeps_of in let b = c.requires.sound.sound.some in omega (arith, a, b) in
    some_line (length c.args.self.now.machines.items) c.args.order.now some c.requires.order.named

pub loop-next-init : goal.loop-next-init
loop-next-init g c =
    let some : 1 ≤ length c.args.self.now.machines.items = let a = length-map c.args.self.now.machines.items keeps_of in let b = c.requires.sound.sound.some in omega (arith, a, b) in
    let within : 0 < length c.args.order.now = some_line (length c.args.self.now.machines.items) c.args.order.now some c.requires.order.named in
    let none : c.new-held.result.items ≡ [] = c.new-held.ensures in
    let first = slice_get-get_or c.args.order.now 0 (record { job = 0; count = 0 }) within in
    record {
      sound = c.requires.sound;
      count = refl;
      most = refl;
      within = within;
      room = let n = ap length none in omega (arith, n);
      quiet = refl;
      written = refl;
      sends = ([], nothing_sent (g.K.Sink.contents c.args.sink.now) [] c.new-held.result.items refl none);
      made = λ s r.
          under_begun (setting_of c.args.order.now c.args.steps c.args.turns (pooling_of c.args.self.now)) s _ (system_of (pooling_of c.args.self.now) c.args.self.now.machines.items (g.F.PageFile.contents c.args.file.now)) c.new-held.result.items (g.K.Sink.contents c.args.sink.now)
          (r.at ∙ ap (λ o. let p : Position = record { line = 0; left = option_map_or (λ (l : Line). l.count) o 0 } in p) first) none r;
    }

pub returns-in_default-clause-runs : goal.returns-in_default-clause-runs
returns-in_default-clause-runs g c = λ s r.
    ends_done c.finish.result (setting_of c.args.order.now c.args.steps c.args.turns (pooling_of c.args.self.now)) s c.loop-next.made (length c.args.self.now.machines.items) c.loop-next.at (system_of (pooling_of c.loop-next.self) c.loop-next.self.machines.items (g.F.PageFile.contents c.loop-next.file)) c.loop-next.held.items (g.K.Sink.contents c.args.sink.now) (g.K.Sink.contents c.loop-next.sink) (g.K.Sink.contents c.finish.new.sink) _ _
    refl c.loop-next.invariant.count c.requires.order.named c.in_default.ensures.next (c.loop-next.invariant.made s r) c.finish.ensures

pub returns-then-made-turns-clause-runs : goal.returns-then-made-turns-clause-runs
returns-then-made-turns-clause-runs g c = λ s r.
    let over : c.args.turns ≤ c.loop-next.made = let more = c.if-made-turns.true in omega (arith, more) in
    ends_turns c.finish-then-made-turns.result (setting_of c.args.order.now c.args.steps c.args.turns (pooling_of c.args.self.now)) s c.loop-next.made c.loop-next.at c.in-Some.next (system_of (pooling_of c.loop-next.self) c.loop-next.self.machines.items (g.F.PageFile.contents c.loop-next.file)) c.loop-next.held.items (g.K.Sink.contents c.args.sink.now) (g.K.Sink.contents c.loop-next.sink) (g.K.Sink.contents c.finish-then-made-turns.new.sink) _ _
    (record { position = c.in-Some.ensures.next; goes = c.in-Some.ensures.there.goes }) over (c.loop-next.invariant.made s r) c.finish-then-made-turns.ensures

-- what is known where the turns of a line come back
pub loop-next-preserved : goal.loop-next-preserved
loop-next-preserved g c = record {
  sound = c.several_turns.ensures.sound;
  count = c.several_turns.ensures.count ∙ c.loop-next.invariant.count;
  most = c.several_turns.ensures.most ∙ c.loop-next.invariant.most;
  within = c.in-Some.ensures.there.line;
  room = c.in-Ok.ensures.room;
  quiet = c.in-Ok.ensures.file.quiet ∙ c.loop-next.invariant.quiet;
  written = c.in-Ok.ensures.sink.quiet ∙ c.loop-next.invariant.written;
  sends = c.in-Ok.ensures.writes _ c.loop-next.invariant.sends;
  made = λ s r.
      let x = setting_of c.args.order.now c.args.steps c.args.turns (pooling_of c.args.self.now) in
      let y = system_of (pooling_of c.loop-next.self) c.loop-next.self.machines.items (g.F.PageFile.contents c.loop-next.file) in
      let z = system_of (pooling_of c.several_turns.new.self) c.several_turns.new.self.machines.items (g.F.PageFile.contents c.several_turns.new.file) in
      let first = g.K.Sink.contents c.args.sink.now in
      let now = g.K.Sink.contents c.loop-next.sink in
      let new = g.K.Sink.contents c.several_turns.new.sink in
      let next = c.in-Some.next in
      let u = c.loop-next.invariant.made s r in
      let n : IsNext x s c.loop-next.at next y = record { position = c.in-Some.ensures.next; goes = c.in-Some.ensures.there.goes } in
      let few : c.args.steps < 2 ^ 64 = c.ranges.steps.fits in
      let e = job_is c.args.order.now next.line _ (slice_get-get_or c.args.order.now next.line (record { job = 0; count = 0 }) c.in-Some.ensures.there.line) in
      let most = c.several_turns.ensures.most ∙ c.loop-next.invariant.most in
      let may = subst (λ (j : ℕ). MayGo c.args.steps j (shared x c.loop-next.made s)) e (may_go x s c.loop-next.made c.loop-next.at next y c.loop-next.held.items first now few n u) in
      let done = c.in-Ok.ensures.done first (shared x c.loop-next.made s) may u.here in
      let left = c.in-Ok.ensures.some in
      let line = c.most_turns-most.ensures.line in
      let limit = c.most_turns-most.ensures.limit in
      let less = c.if-made-turns.false in
      under_more x s c.loop-next.made c.loop-next.at next y c.loop-next.held.items first now n u
      (c.loop-next.made + c.in-Ok.count) c.most_turns-most.result c.in-Ok.count z c.several_turns.new.held.items new refl most (omega (arith, left, line)) (omega (arith, left, limit, less))
      (subst (λ (j : ℕ). HasMade c.most_turns-most.result c.args.steps j c.in-Ok.count first (shared x c.loop-next.made s) z c.several_turns.new.held.items new) (sym e) done);
}

pub returns-in-Err-Page-clause-runs : goal.returns-in-Err-Page-clause-runs
returns-in-Err-Page-clause-runs g c = λ s r.
    let x = setting_of c.args.order.now c.args.steps c.args.turns (pooling_of c.args.self.now) in
    let y = system_of (pooling_of c.loop-next.self) c.loop-next.self.machines.items (g.F.PageFile.contents c.loop-next.file) in
    let z = system_of (pooling_of c.several_turns.new.self) c.several_turns.new.self.machines.items (g.F.PageFile.contents c.several_turns.new.file) in
    let first = g.K.Sink.contents c.args.sink.now in
    let now = g.K.Sink.contents c.loop-next.sink in
    let new = g.K.Sink.contents c.several_turns.new.sink in
    let next = c.in-Some.next in
    let u = c.loop-next.invariant.made s r in
    let n : IsNext x s c.loop-next.at next y = record { position = c.in-Some.ensures.next; goes = c.in-Some.ensures.there.goes } in
    let few : c.args.steps < 2 ^ 64 = c.ranges.steps.fits in
    let e = job_is c.args.order.now next.line _ (slice_get-get_or c.args.order.now next.line (record { job = 0; count = 0 }) c.in-Some.ensures.there.line) in
    let most = c.several_turns.ensures.most ∙ c.loop-next.invariant.most in
    let may = subst (λ (j : ℕ). MayGo c.args.steps j (shared x c.loop-next.made s)) e (may_go x s c.loop-next.made c.loop-next.at next y c.loop-next.held.items first now few n u) in
    let is : c.several_turns.result ≡ Err Page = c.in-Err-Page.is ∙ ap (λ x. Err x) c.in-Err-Page.field-0-is in
    let line = c.most_turns-most.ensures.line in
    let limit = c.most_turns-most.ensures.limit in
    let less = c.if-made-turns.false in
    let done = subst (λ (k : Result ℕ Fault). MakesTurns k c.most_turns-most.result c.args.steps (slice_index_or c.args.order.now next.line (record { job = 0; count = 0 })).job y c.loop-next.held.items now z c.several_turns.new.held.items new) is c.several_turns.ensures.done first (shared x c.loop-next.made s) may u.here in
    ends_cut x s c.loop-next.made c.loop-next.at next y c.loop-next.held.items first now n u
    c.finish-in-Err-Page.result c.most_turns-most.result z c.several_turns.new.held.items new (g.K.Sink.contents c.finish-in-Err-Page.new.sink) _ _ most line (omega (arith, limit, less))
    (subst (λ (j : ℕ). IsCaught c.most_turns-most.result c.args.steps j first (shared x c.loop-next.made s) z c.several_turns.new.held.items new) (sym e) done) c.finish-in-Err-Page.ensures

pub returns-in-Err-Write-clause-runs : goal.returns-in-Err-Write-clause-runs
returns-in-Err-Write-clause-runs g c = λ s r.
    let x = setting_of c.args.order.now c.args.steps c.args.turns (pooling_of c.args.self.now) in
    let y = system_of (pooling_of c.loop-next.self) c.loop-next.self.machines.items (g.F.PageFile.contents c.loop-next.file) in
    let z = system_of (pooling_of c.several_turns.new.self) c.several_turns.new.self.machines.items (g.F.PageFile.contents c.several_turns.new.file) in
    let first = g.K.Sink.contents c.args.sink.now in
    let now = g.K.Sink.contents c.loop-next.sink in
    let new = g.K.Sink.contents c.several_turns.new.sink in
    let next = c.in-Some.next in
    let u = c.loop-next.invariant.made s r in
    let n : IsNext x s c.loop-next.at next y = record { position = c.in-Some.ensures.next; goes = c.in-Some.ensures.there.goes } in
    let few : c.args.steps < 2 ^ 64 = c.ranges.steps.fits in
    let e = job_is c.args.order.now next.line _ (slice_get-get_or c.args.order.now next.line (record { job = 0; count = 0 }) c.in-Some.ensures.there.line) in
    let most = c.several_turns.ensures.most ∙ c.loop-next.invariant.most in
    let may = subst (λ (j : ℕ). MayGo c.args.steps j (shared x c.loop-next.made s)) e (may_go x s c.loop-next.made c.loop-next.at next y c.loop-next.held.items first now few n u) in
    let is : c.several_turns.result ≡ Err Write = c.in-Err-Write.is ∙ ap (λ x. Err x) c.in-Err-Write.field-0-is in
    let line = c.most_turns-most.ensures.line in
    let limit = c.most_turns-most.ensures.limit in
    let less = c.if-made-turns.false in
    let done = subst (λ (k : Result ℕ Fault). MakesTurns k c.most_turns-most.result c.args.steps (slice_index_or c.args.order.now next.line (record { job = 0; count = 0 })).job y c.loop-next.held.items now z c.several_turns.new.held.items new) is c.several_turns.ensures.done first (shared x c.loop-next.made s) may u.here in
    ends_lost x s c.loop-next.made c.loop-next.at next y c.loop-next.held.items first now n u
    c.most_turns-most.result z new most line (omega (arith, limit, less))
    (subst (λ (j : ℕ). IsBroken c.most_turns-most.result c.args.steps j first (shared x c.loop-next.made s) z new) (sym e) done)

pub returns-in_default-clause-only : goal.returns-in_default-clause-only
returns-in_default-clause-only g c =
    only_end Done c.finish.result c.loop-next.held.items (g.K.Sink.contents c.args.sink.now) (g.K.Sink.contents c.loop-next.sink) (g.K.Sink.contents c.finish.new.sink) _ _ (λ bytes grew. (bytes, grew)) c.loop-next.invariant.sends c.finish.ensures

pub returns-then-made-turns-clause-only : goal.returns-then-made-turns-clause-only
returns-then-made-turns-clause-only g c =
    only_end Turns c.finish-then-made-turns.result c.loop-next.held.items (g.K.Sink.contents c.args.sink.now) (g.K.Sink.contents c.loop-next.sink) (g.K.Sink.contents c.finish-then-made-turns.new.sink) _ _ (λ bytes grew. (bytes, grew)) c.loop-next.invariant.sends c.finish-then-made-turns.ensures

pub returns-in-Err-Page-clause-only : goal.returns-in-Err-Page-clause-only
returns-in-Err-Page-clause-only g c =
    let is : c.several_turns.result ≡ Err Page = c.in-Err-Page.is ∙ ap (λ x. Err x) c.in-Err-Page.field-0-is in
    let sends = subst (λ (k : Result ℕ Fault). WritesOn k (g.K.Sink.contents c.loop-next.sink) c.loop-next.held.items (g.K.Sink.contents c.several_turns.new.sink) c.several_turns.new.held.items) is c.several_turns.ensures.writes _ c.loop-next.invariant.sends in
    only_end PageFault c.finish-in-Err-Page.result c.several_turns.new.held.items (g.K.Sink.contents c.args.sink.now) (g.K.Sink.contents c.several_turns.new.sink) (g.K.Sink.contents c.finish-in-Err-Page.new.sink) _ _ (λ bytes grew. (bytes, grew)) sends c.finish-in-Err-Page.ensures

pub returns-in-Err-Write-clause-only : goal.returns-in-Err-Write-clause-only
returns-in-Err-Write-clause-only g c =
    let is : c.several_turns.result ≡ Err Write = c.in-Err-Write.is ∙ ap (λ x. Err x) c.in-Err-Write.field-0-is in
    subst (λ (k : Result ℕ Fault). WritesOn k (g.K.Sink.contents c.loop-next.sink) c.loop-next.held.items (g.K.Sink.contents c.several_turns.new.sink) c.several_turns.new.held.items) is c.several_turns.ensures.writes _ c.loop-next.invariant.sends
