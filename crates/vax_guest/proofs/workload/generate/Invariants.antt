use Rattle.std.proofs.Common.{◌≡◌, ◌-◌, ◌++◌, string_bytes}
use Rattle.std.specs.List.{flat_map}
use Rattle.vax_guest.specs.Executive.{line}
use Rattle.vax_guest.specs.Workload.{opening, numbers, instruction}
use Rattle.vax_guest.proofs.workload.generate.Given as goal

-- the lines so far and those of the numbers to come are the lines of all numbers
abbrev pub invariant-loop : goal.invariant-loop
invariant-loop l = string_bytes l.text ++ flat_map (λ x. line (instruction x)) (numbers l.x (l.size - l.counter)) ≡ flat_map line opening ++ flat_map (λ x. line (instruction x)) (numbers l.seed l.size)
