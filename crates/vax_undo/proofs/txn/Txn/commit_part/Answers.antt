use Rattle.std.proofs.Common.{None, refl, rules, vec_len}
use Rattle.vax_undo.specs.Transaction.{bare, present, undo_all}
use Rattle.vax_undo.proofs.Open.{all_back, fits, one_back, same_console}
use Rattle.vax_undo.proofs.Undo.{last_allowed}
use Rattle.vax_undo.proofs.txn.Txn.commit_part.Goals as goal

pub restore-requires : goal.restore-requires
restore-requires g c =
    let view = g.P.Port.view c.args.self.port.now in
    fits (vec_len c.args.self.term.now.input) view.areas view.resident view.marked c.in-Some.last.kept c.in-Some.last
    (last_allowed (vec_len c.args.self.term.now.input) view.areas view.resident view.marked _ _ _ c.in-Some.ensures.items c.loop-last.invariant.ready).1

pub loop-last-init : goal.loop-last-init
loop-last-init g c = record { back = (bare (present g.P.Port.view c.args.self), refl, refl); ready = c.requires }

pub loop-last-preserved : goal.loop-last-preserved
loop-last-preserved g c =
    let view = g.P.Port.view c.args.self.port.now in
    record {
      back = one_back c.loop-last.start c.restore.new.core _ _ c.in-Some.last _ c.in-Some.ensures.items c.restore.ensures c.loop-last.invariant.back;
      ready = (last_allowed (vec_len c.args.self.term.now.input) view.areas view.resident view.marked _ _ _ c.in-Some.ensures.items c.loop-last.invariant.ready).0;
    }

pub returns-clause-start : goal.returns-clause-start
returns-clause-start g c =
    all_back c.loop-last.start c.loop-last.log.entries.items (undo_all c.args.self.log.now.entries.items (bare (present g.P.Port.view c.args.self))) c.args.self.origin (search rules) c.loop-last.invariant.back

pub returns-clause-term : goal.returns-clause-term
returns-clause-term g c = same_console c.args.self.term.now.input c.args.self.term.now.place None _ _ _ _
