use Rattle.std.proofs.Common.{arith, sym}
use Rattle.vax_jobs.specs.Pool.{pooling_of}
use Rattle.vax_jobs.proofs.Rooms.{found, some_free}
use Rattle.vax_jobs.proofs.Serving.{all_fine, no_room_needed, on_ok, room_left_by, room_taken}
use Rattle.vax_jobs.proofs.pool.Pool.make_room.Goals as goal

pub returns-then-used-self-clause-ok : goal.returns-then-used-self-clause-ok
returns-then-used-self-clause-ok g c = sym (no_room_needed (pooling_of c.args.self.now) (omega (arith, c.used.ensures.count, c.if-used-self.true)))

pub unreachable-requires : goal.unreachable-requires
unreachable-requires g c = some_free (pooling_of c.args.self.now) c.requires.sound.sound (all_fine c.args.self.now.machines.items) (omega (arith, c.used.ensures.count, c.if-used-self.false)) c.in-None.ensures.found

pub returns-clause-ok : goal.returns-clause-ok
returns-clause-ok g c =
    let it = found c.args.self.now.residents.items c.in-Some.place c.in-Some.ensures.within in
    on_ok c.take_out.result (room_taken (pooling_of c.args.self.now) (pooling_of c.take_out.new.self) c.in-Some.place it.0 (omega (arith, c.used.ensures.count, c.if-used-self.false)) c.in-Some.ensures.found it.1) c.take_out.ensures.ok

pub returns-clause-room : goal.returns-clause-room
returns-clause-room g c =
    let it = found c.args.self.now.residents.items c.in-Some.place c.in-Some.ensures.within in
    on_ok c.take_out.result (room_left_by (pooling_of c.args.self.now) (pooling_of c.take_out.new.self) c.in-Some.place it.0 c.requires.sound.sound it.1) c.take_out.ensures.ok
