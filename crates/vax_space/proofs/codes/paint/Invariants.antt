use Rattle.std.proofs.Common.{◌≡◌, ℕ, ◌&&◌, cond, nat_lt, nat_le, get_or}
use Rattle.vax_space.proofs.codes.paint.Given as goal

abbrev pub invariant-loop-place : goal.invariant-loop-place
invariant-loop-place l =
    (k : ℕ) → get_or l.codes k 0 ≡ cond (nat_le l.from k && nat_lt k l.place) l.area.prot (get_or l.initial.codes k 0)
