use Rattle.std.proofs.Common.{arith, ◌+◌, ◌-◌, length, map, ap, sym}
use Rattle.vax_macro.specs.ArgumentViews.{argument_view, taking_view}
use Rattle.vax_macro.proofs.Gathering.{begun, further, ended, broken, refused}
use Rattle.vax_macro.proofs.arguments.arguments_in.Goals as goal

pub loop-found-init : goal.loop-found-init
loop-found-init g c = (length c.args.text.now + 1, omega arith, begun _ c.args.larger _ _ (ap (map argument_view) c.new-found.ensures.items))

pub loop-found-smaller : goal.loop-found-smaller
loop-found-smaller g c =
    let shorter = rw c.in-Some.is at c.in_ok-taken.ensures.shorter in
    let less = rw c.in-Another.is at c.what_follows.ensures.shorter in
    omega (arith, shorter, less)

pub loop-found-preserved : goal.loop-found-preserved
loop-found-preserved g c =
    let (steps, enough, same) = c.loop-found.invariant in
    let took = rw c.in-Some.is at c.in_ok-taken.ensures.value in
    let follows = rw c.in-Another.is at c.what_follows.ensures.value in
    let shorter = rw c.in-Some.is at c.in_ok-taken.ensures.shorter in
    let less = rw c.in-Another.is at c.what_follows.ensures.shorter in
    (steps - 1, omega (arith, enough, shorter, less), further _ _ steps c.args.larger _ c.loop-found.rest.now c.in-Another.next.now (taking_view c.in-Some.taking) _ (omega (arith, enough)) (sym took) (sym follows) c.in_ok-add.ensures same)

pub returns-in_default : goal.returns-in_default
returns-in_default g c =
    let (steps, enough, same) = c.loop-found.invariant in
    let took = rw c.in_default.is at c.in_ok-taken.ensures.value in
    refused _ steps c.args.larger _ c.loop-found.rest.now _ (omega (arith, enough)) (sym took) same

pub returns-in-Nothing : goal.returns-in-Nothing
returns-in-Nothing g c =
    let (steps, enough, same) = c.loop-found.invariant in
    let took = rw c.in-Some.is at c.in_ok-taken.ensures.value in
    let follows = rw c.in-Nothing.is at c.what_follows.ensures.value in
    ended _ _ steps c.args.larger _ c.loop-found.rest.now (taking_view c.in-Some.taking) _ (omega (arith, enough)) (sym took) (sym follows) c.in_ok-add.ensures same

pub returns-in-Unparted : goal.returns-in-Unparted
returns-in-Unparted g c =
    let (steps, enough, same) = c.loop-found.invariant in
    let took = rw c.in-Some.is at c.in_ok-taken.ensures.value in
    let follows = rw c.in-Unparted.is at c.what_follows.ensures.value in
    broken _ steps c.args.larger _ c.loop-found.rest.now (taking_view c.in-Some.taking) _ (omega (arith, enough)) (sym took) (sym follows) same
