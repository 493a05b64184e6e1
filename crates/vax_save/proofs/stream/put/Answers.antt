use Rattle.std.proofs.Common.{◌≡◌, ◌+◌, ◌≤◌, true, false, List, ℕ, [], length, inl, inr, ap, sym, subst, ◌⊎◌}
use Rattle.std.proofs.lemmas.Bool.{false≢true}
use Rattle.std.proofs.lemmas.Result.{on_err_weaker, on_ok_weaker}
use Rattle.vax_outside.proofs.Growth.{on_err}
use Rattle.vax_save.specs.Stream.{Puts, stream}
use Rattle.vax_save.proofs.Streaming.{cuts_then, held_more, lost, passed, passed_short, puts_then}
use Rattle.vax_save.proofs.stream.put.Goals as goal

pub returns-in_err-make_room-clause-cut : goal.returns-in_err-make_room-clause-cut
returns-in_err-make_room-clause-cut g c = on_err c.from_residual.result (lost _ c.args.bytes.now _ _ c.in_err-make_room.ensures.cut)

pub returns-in-Ok-clause-ok : goal.returns-in-Ok-clause-ok
returns-in-Ok-clause-ok g c =
    puts_then [] c.args.bytes.now (stream (g.K.Sink.contents c.args.sink.now) c.args.held.now.items) (stream (g.K.Sink.contents c.make_room.new.sink) c.make_room.new.held.items) (stream (g.K.Sink.contents c.make_room.new.sink) c.try_extend_from_slice.new.self.items)
    c.in_ok-make_room.ensures.ok (held_more c.make_room.new.held.items _ c.args.bytes.now _ c.in-Ok.ensures.ok)

-- where there is no room, nothing is held back
none : (held bytes : List ℕ) → ((length held + length bytes ≤ 4096) ⊎ (held ≡ [])) → ((length held + length bytes ≤ 4096) → false ≡ true) → held ≡ []
none held bytes (inl few) full = absurd (false≢true (full few))
none held bytes (inr e) full = e

pub returns-in-Err-clause-ok : goal.returns-in-Err-clause-ok
returns-in-Err-clause-ok g c =
    let e = none c.make_room.new.held.items c.args.bytes.now c.in_ok-make_room.ensures.room c.in-Err.ensures.variant.1 in
    on_ok_weaker c.put_all.result (λ grew.
    puts_then [] c.args.bytes.now (stream (g.K.Sink.contents c.args.sink.now) c.args.held.now.items) (stream (g.K.Sink.contents c.make_room.new.sink) c.make_room.new.held.items) (stream (g.K.Sink.contents c.put_all.new.sink) c.try_extend_from_slice.new.self.items)
    c.in_ok-make_room.ensures.ok
    (subst (λ (z : List ℕ). Puts c.args.bytes.now (stream (g.K.Sink.contents c.make_room.new.sink) c.make_room.new.held.items) (stream (g.K.Sink.contents c.put_all.new.sink) z)) (sym (ap (λ v. v.items) c.in-Err.ensures.err))
    (passed c.make_room.new.held.items c.args.bytes.now _ _ e grew))) c.put_all.ensures.ok

pub returns-in-Err-clause-cut : goal.returns-in-Err-clause-cut
returns-in-Err-clause-cut g c =
    let e = none c.make_room.new.held.items c.args.bytes.now c.in_ok-make_room.ensures.room c.in-Err.ensures.variant.1 in
    on_err_weaker c.put_all.result (λ grew.
    cuts_then [] c.args.bytes.now (stream (g.K.Sink.contents c.args.sink.now) c.args.held.now.items) (stream (g.K.Sink.contents c.make_room.new.sink) c.make_room.new.held.items) _
    c.in_ok-make_room.ensures.ok (passed_short c.make_room.new.held.items c.args.bytes.now _ _ e grew)) c.put_all.ensures.prefix
