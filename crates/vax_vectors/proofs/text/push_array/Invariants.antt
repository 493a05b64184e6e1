use Rattle.std.proofs.Common.{◌≡◌, ◌++◌, codes, take}
use Rattle.vax_vectors.specs.Text.{items_from}
use Rattle.vax_vectors.proofs.text.push_array.Given as goal

-- the bracket and the items so far
abbrev pub invariant-loop-k : goal.invariant-loop-k
invariant-loop-k g l = l.out.items ≡ l.fn.out.items ++ (codes "[" ++ items_from 0 g.T.Item.text (take l.k l.items))
