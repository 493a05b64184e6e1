use Rattle.std.proofs.Common.{◌≡◌, ◌+◌, suc, take, drop, length, ℕ, ap, arith, refl, subst, ◌∙◌}
use Rattle.std.specs.Prelude.{slice_set}
use Rattle.std.proofs.lemmas.List.{length-drop}
use Rattle.vax_outside.proofs.Growth.{on_err}
use Rattle.vax_machine.specs.Meaning.{engine}
use Rattle.vax_watch.specs.Plans.{AreLookedAt}
use Rattle.vax_watch.proofs.Watching.{looked_then, looks_from, looks_next}
use Rattle.vax_watch.proofs.watch.Plan.look.Goals as goal

pub loop-seen-init : goal.loop-seen-init
unfolding AreLookedAt
loop-seen-init g c = record { seen = tt; rest = c.deref_mut-seen-items.ensures.value; looked = record { cpu = refl; keeps = refl; same = refl; means = λ place m. m; reads = refl }; quiet = refl }

pub loop-seen-preserved : goal.loop-seen-preserved
loop-seen-preserved g c =
    let v = c.loop-seen.invariant in
    let m = engine c.args.machine.now in
    let file = g.F.PageFile.contents c.args.file.now in
    let k = c.loop-seen.seen-index in
    let old = c.args.self.now.seen.items in
    let next = slice_set c.loop-seen.seen-items k c.look.new.self in
    let h = looks_from m (engine c.loop-seen.machine) file (g.F.PageFile.contents c.loop-seen.file) _ c.look.new.self v.looked c.in_ok-look.ensures.again in
    let r = looks_next m file k old c.loop-seen.seen-items c.seen-item.result c.look.new.self (let test = c.loop-seen-test.true in omega (arith, test)) v.rest h v.seen in
    let e : suc k ≡ k + 1 = omega arith in
    record {
      seen = subst (λ (n : ℕ). AreLookedAt m file (take n old) (take n next)) e r.0;
      rest = subst (λ (n : ℕ). drop n next ≡ drop n old) e r.1;
      looked = looked_then m (engine c.loop-seen.machine) (engine c.look.new.machine) file (g.F.PageFile.contents c.loop-seen.file) (g.F.PageFile.contents c.look.new.file) v.looked c.look.ensures.looked;
      quiet = c.in_ok-look.ensures.counts.quiet ∙ v.quiet;
    }

-- the watch whose bytes couldn't be read is one of them
pub returns-in_err-look-clause-watched : goal.returns-in_err-look-clause-watched
returns-in_err-look-clause-watched g c =
    let k = c.loop-seen.seen-index in
    let test = c.loop-seen-test.true in
    let same = ap length c.loop-seen.invariant.rest in
    let a = length-drop k c.loop-seen.seen-items in
    let b = length-drop k c.args.self.now.seen.items in
    on_err c.from_residual.result (omega (arith, test, same, a, b))
