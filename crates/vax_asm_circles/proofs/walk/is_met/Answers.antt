use Rattle.std.proofs.Common.{◌∙◌, ◌∷◌, [], ℕ, List, ap, subst, arith, length, length-append, map}
use Rattle.vax_asm_circles.specs.Circles.{waits, leads}
use Rattle.vax_asm_circles.specs.Growing.{all_awaited}
use Rattle.vax_asm_circles.specs.View.{step_of}
use Rattle.vax_asm_circles.specs.Walks.{Met, Walked}
use Rattle.vax_asm_circles.proofs.Walking.{walked_on, walk_ends, met_within, awaited_within, length-all_awaited}
use Rattle.vax_asm_circles.proofs.walk.is_met.Goals as goal

pub work-preserved : goal.work-preserved
work-preserved c =
    let steps = map step_of c.args.steps.now in
    let rest = c.pop.new.self.items in
    let P : List ℕ → Type 0 = λ l. Walked (waits steps) (all_awaited steps) c.args.number c.work.met.keys l in
    let Q : List ℕ → Type 0 = λ l. Met l c.work.met.keys rest c.meet_all.new.met.keys c.meet_all.new.work.items in
    walked_on (waits steps) (all_awaited steps) c.args.number c.in-Some.next c.work.met.keys rest c.meet_all.new.met.keys c.meet_all.new.work.items (subst P c.in-Some.ensures.items c.work.invariant)
    (subst Q c.awaited.ensures c.in_ok-meet_all.ensures) (awaited_within steps c.in-Some.next)

pub work-smaller : goal.work-smaller
work-smaller c =
    let steps = map step_of c.args.steps.now in
    let at_most = met_within (waits steps) (all_awaited steps) c.args.number c.meet_all.new.met.keys c.meet_all.new.work.items (work-preserved c) in
    let popped = ap length c.in-Some.ensures.items ∙ length-append c.pop.new.self.items (c.in-Some.next ∷ []) in
    let met = c.in_ok-meet_all.ensures in
    omega (arith, at_most, popped, met.longer, met.counted)

pub returns : goal.returns
returns c =
    let steps = map step_of c.args.steps.now in
    c.contains.ensures
    ∙ walk_ends (waits steps) (all_awaited steps) c.args.number c.work.met.keys c.work.work.items (omega (arith, c.in_default.ensures.cases.0, c.work.work.ok)) c.work.invariant
    ∙ ap (λ n. leads n (waits steps) c.args.number c.args.number) (length-all_awaited steps)
