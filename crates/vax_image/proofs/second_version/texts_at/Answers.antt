use Rattle.std.proofs.Common.{◌≡◌, ◌++◌, ◌∷◌, [], map, arith}
use Rattle.std.proofs.lemmas.Result.{err_from_is_err_and}
use Rattle.std.proofs.lemmas.List.{map_push}
use Rattle.vax_image.specs.Reading.{texts_at}
use Rattle.vax_image.specs.Views.{cursor}
use Rattle.vax_image.proofs.Loops.{texts_go_on, texts_end, texts_done}
use Rattle.vax_image.proofs.second_version.texts_at.Goals as goal

pub returns-in_err-text : goal.returns-in_err-text
returns-in_err-text c =
    let p = err_from_is_err_and c.from_residual.result c.from_residual.ensures.1 in
    rw (p.1, p.2) (record {
      gives = texts_end c.in_err-text.field-0.0 (map (λ t. t.now) c.loop.texts.items) c.args.count c.loop.counter (cursor c.loop.rest) (texts_at c.args.count (cursor c.args.from)) c.loop-test.true c.in_err-text.ensures.gives c.loop.invariant.so_far;
      moved = tt;
    })

pub loop-preserved : goal.loop-preserved
loop-preserved c =
    let n = c.in_ok-text.text in
    let e : map (λ t. t.now) c.push.new.self.items ≡ map (λ t. t.now) c.loop.texts.items ++ n.now ∷ [] = rw c.in_ok-push.ensures.items (map_push (λ t. t.now) c.loop.texts.items n) in
    record {
      so_far = rw e (texts_go_on (map (λ t. t.now) c.loop.texts.items) c.args.count c.loop.counter (cursor c.loop.rest) n.now (cursor c.in_ok-text.after) (texts_at c.args.count (cursor c.args.from)) c.loop-test.true c.in_ok-text.ensures.gives c.loop.invariant.so_far);
      early = omega (arith, c.in_ok-text.ensures.moved);
    }

pub returns-clause-gives : goal.returns-clause-gives
returns-clause-gives c = texts_done (map (λ t. t.now) c.loop.texts.items) c.args.count c.loop.counter (cursor c.loop.rest) (texts_at c.args.count (cursor c.args.from)) c.loop-test.false c.loop.invariant.so_far
