use Rattle.std.proofs.Common.{◌≡◌, ◌∙◌, refl, take, drop, arith, ℕ, subst}
use Rattle.std.proofs.lemmas.List.{length-set}
use Rattle.vax_strpart.specs.Kernels.{translated}
use Rattle.vax_strpart.proofs.LaneLaws.{lookup_more, whole}
use Rattle.vax_strpart.proofs.lanes.looked_up.Goals as goal

pub loop-k-preserved : goal.loop-k-preserved
loop-k-preserved c = record {
  front = lookup_more c.loop-k.found c.args.bytes.now c.args.table.now c.args.at c.loop-k.k _ (omega (arith, c.loop-k.invariant.long)) (omega arith) refl c.loop-k.invariant.front;
  long = length-set c.loop-k.found c.loop-k.k _ ∙ c.loop-k.invariant.long;
}

pub returns : goal.returns
returns c =
    let all : c.loop-k.k ≡ 32 = omega arith in
    let P : ℕ → Type 0 = λ n. take n c.loop-k.found ≡ translated c.args.table.now (take n (drop c.args.at c.args.bytes.now)) in
    whole c.loop-k.found (translated c.args.table.now (take 32 (drop c.args.at c.args.bytes.now))) c.loop-k.invariant.long (subst P all c.loop-k.invariant.front)
