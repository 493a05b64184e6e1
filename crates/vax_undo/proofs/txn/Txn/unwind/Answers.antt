use Rattle.std.proofs.Common.{◌∙◌, vec_len}
use Rattle.vax_flat.specs.OverPort.{Present}
use Rattle.vax_undo.specs.Transaction.{state_of}
use Rattle.vax_undo.proofs.Undo.{last_allowed, unwound, present_alike, still_allowed, still_marked}
use Rattle.vax_undo.proofs.Trail.{trail_unwound}
use Rattle.vax_undo.proofs.txn.Txn.unwind.Goals as goal

pub put_back-requires : goal.put_back-requires
put_back-requires g c =
    rw c.loop-entry.invariant.input
    (last_allowed (vec_len c.args.self.term.now.input) (g.P.Port.view c.loop-entry.port).areas (g.P.Port.view c.loop-entry.port).resident (g.P.Port.view c.loop-entry.port).marked _ _ _ c.in-Some.ensures.items c.loop-entry.invariant.ready).1

pub loop-entry-preserved : goal.loop-entry-preserved
loop-entry-preserved g c =
    let before : Present = record { state = state_of c.loop-entry.core c.loop-entry.term; view = g.P.Port.view c.loop-entry.port } in
    record {
      undone = unwound _ _ c.in-Some.entry before _ _ c.in-Some.ensures.items (present_alike _ _ c.put_back.ensures.state c.put_back.ensures.view) c.loop-entry.invariant.undone;
      ready = still_allowed (vec_len c.args.self.term.now.input) c.in-Some.entry before _ _ c.put_back.ensures.view
          (last_allowed (vec_len c.args.self.term.now.input) before.view.areas before.view.resident before.view.marked _ _ _ c.in-Some.ensures.items c.loop-entry.invariant.ready).0;
      marks = still_marked c.in-Some.entry before _ c.put_back.ensures.view ∙ c.loop-entry.invariant.marks;
      trail = trail_unwound _ _ c.in-Some.entry _ _ _ c.in-Some.ensures.items c.put_back.ensures.trail c.loop-entry.invariant.trail;
      input = c.put_back.ensures.input ∙ c.loop-entry.invariant.input;
      since = λ start h. c.put_back.ensures.since start (c.loop-entry.invariant.since start h);
    }
