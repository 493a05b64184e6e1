use Rattle.std.proofs.Common.{◌≡◌, ◌+◌, suc, ◌++◌, append-nil, append_assoc, ap, sym, ◌∙◌, arith, List, ℕ}
use Rattle.vax_watch.specs.Listing.{register_change, register_changes}
use Rattle.vax_watch.proofs.lines.push_registers.Goals as goal

pub loop-n-init : goal.loop-n-init
unfolding register_changes
loop-n-init c = record { exact = sym (append-nil c.args.text.now); short = omega arith }

pub loop-n-preserved : goal.loop-n-preserved
unfolding register_changes
loop-n-preserved c =
    let k = c.loop-n.invariant in
    let a = k.short in
    let b = c.push_register.ensures.short in
    let e : suc c.loop-n.n ≡ c.loop-n.n + 1 = omega arith in
    record {
      exact =
          c.push_register.ensures.exact
          ∙ (ap (λ (xs : List ℕ). xs ++ register_change c.args.before.now c.args.after.now c.loop-n.n) k.exact
          ∙ (append_assoc c.args.text.now (register_changes c.loop-n.n c.args.before.now c.args.after.now) (register_change c.args.before.now c.args.after.now c.loop-n.n)
          ∙ ap (λ (k : ℕ). c.args.text.now ++ register_changes k c.args.before.now c.args.after.now) e));
      short = omega (arith, a, b);
    }
