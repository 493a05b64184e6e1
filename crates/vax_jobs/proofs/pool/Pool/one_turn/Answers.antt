use Rattle.std.proofs.Common.{◌++◌, ◌∷◌, [], List, ap, refl, subst, sym, ◌∙◌, ℕ}
use Rattle.vax_outside.specs.Channels.{GrewByPrefix, only}
use Rattle.vax_outside.specs.declared.traits.Chan.TheVariants.{Out}
use Rattle.vax_jobs.proofs.Sends.{sends_lost, sends_more}
use Rattle.vax_jobs.proofs.Trying.{bytes_nil, turn_leads, turn_sticks}
use Rattle.vax_jobs.specs.Pool.{pooling_of}
use Rattle.vax_jobs.specs.Running.{system_of}
use Rattle.vax_jobs.specs.Sending.{Sends}
use Rattle.vax_jobs.specs.Shared.{bytes_sent}
use Rattle.vax_jobs.proofs.pool.Pool.one_turn.Goals as goal

pub returns-in-Failed-clause-done : goal.returns-in-Failed-clause-done
returns-in-Failed-clause-done g c = λ first s limit may at.
    let y = system_of (pooling_of c.args.self.now) c.args.self.now.machines.items (g.F.PageFile.contents c.args.file.now) in
    let z = system_of (pooling_of c.go.new.self) c.go.new.self.machines.items (g.F.PageFile.contents c.go.new.file) in
    (turn_sticks c.args.job y z refl refl c.in-Failed.ensures.turned c.in-Failed.ensures.goes c.in-Failed.ensures.unsettled s limit may at.tracks, at.sends)

pub returns-in-None-clause-done : goal.returns-in-None-clause-done
returns-in-None-clause-done g c = λ first s limit may at.
    let y = system_of (pooling_of c.args.self.now) c.args.self.now.machines.items (g.F.PageFile.contents c.args.file.now) in
    let z = system_of (pooling_of c.go.new.self) c.go.new.self.machines.items (g.F.PageFile.contents c.go.new.file) in
    let lead = turn_leads c.args.job y z c.go.result refl refl c.go.ensures.turned c.go.ensures.goes c.go.ensures.unsettled s limit may at.tracks c.in_default.not-Failed in
    record {
      tracks = lead.tracks;
      sends = subst (λ (bytes : List ℕ). Sends first bytes c.args.held.now.items (g.K.Sink.contents c.args.sink.now)) (bytes_nil (bytes_sent s) ∙ ap (λ xs. bytes_sent s ++ xs) c.in-None.ensures ∙ sym lead.sent) at.sends;
    }

pub returns-in-Ok-clause-done : goal.returns-in-Ok-clause-done
returns-in-Ok-clause-done g c = λ first s limit may at.
    let y = system_of (pooling_of c.args.self.now) c.args.self.now.machines.items (g.F.PageFile.contents c.args.file.now) in
    let z = system_of (pooling_of c.go.new.self) c.go.new.self.machines.items (g.F.PageFile.contents c.go.new.file) in
    let lead = turn_leads c.args.job y z c.go.result refl refl c.go.ensures.turned c.go.ensures.goes c.go.ensures.unsettled s limit may at.tracks c.in_default.not-Failed in
    record {
      tracks = lead.tracks;
      sends = subst (λ (bytes : List ℕ). Sends first bytes c.hold.new.held.items (g.K.Sink.contents c.hold.new.sink)) (ap (λ xs. bytes_sent s ++ xs) c.in-Some.ensures ∙ sym lead.sent)
          (sends_more first (g.K.Sink.contents c.args.sink.now) (g.K.Sink.contents c.hold.new.sink) (bytes_sent s) c.args.held.now.items c.hold.new.held.items c.in-Some.byte at.sends c.in-Ok.ensures.ok);
    }

pub returns-in-Err-clause-done : goal.returns-in-Err-clause-done
returns-in-Err-clause-done g c = λ first s limit may at.
    let y = system_of (pooling_of c.args.self.now) c.args.self.now.machines.items (g.F.PageFile.contents c.args.file.now) in
    let z = system_of (pooling_of c.go.new.self) c.go.new.self.machines.items (g.F.PageFile.contents c.go.new.file) in
    let lead = turn_leads c.args.job y z c.go.result refl refl c.go.ensures.turned c.go.ensures.goes c.go.ensures.unsettled s limit may at.tracks c.in_default.not-Failed in (
      lead.tracks,
      subst (λ (bytes : List ℕ). GrewByPrefix first (g.K.Sink.contents c.hold.new.sink) (only Out bytes)) (ap (λ xs. bytes_sent s ++ xs) c.in-Some.ensures ∙ sym lead.sent)
          (sends_lost first (g.K.Sink.contents c.args.sink.now) (g.K.Sink.contents c.hold.new.sink) (bytes_sent s) c.args.held.now.items c.in-Some.byte at.sends c.in-Err.ensures.cut),
    )

pub returns-in-Ok-clause-writes : goal.returns-in-Ok-clause-writes
returns-in-Ok-clause-writes g c = λ first h.
    (h.0 ++ c.in-Some.byte ∷ [], sends_more first (g.K.Sink.contents c.args.sink.now) (g.K.Sink.contents c.hold.new.sink) h.0 c.args.held.now.items c.hold.new.held.items c.in-Some.byte h.1 c.in-Ok.ensures.ok)

pub returns-in-Err-clause-writes : goal.returns-in-Err-clause-writes
returns-in-Err-clause-writes g c = λ first h.
    (h.0 ++ c.in-Some.byte ∷ [], sends_lost first (g.K.Sink.contents c.args.sink.now) (g.K.Sink.contents c.hold.new.sink) h.0 c.args.held.now.items c.in-Some.byte h.1 c.in-Err.ensures.cut)
